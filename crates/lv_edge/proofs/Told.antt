-- One call after another on a source or a sink.
use Rattle.std.proofs.Common.{◌≡◌, ℕ, ◌+◌, ◌≤◌, List, [], ◌++◌, length, take, drop, ◌-◌, refl, sym, ◌∙◌, ap, append_assoc, append-nil, length-append, length-take-le, arith}
use Rattle.std.specs.Prelude.{Option, None, Some}
use Rattle.std.specs.List.{between}
use Rattle.std.proofs.Math.Seq.{take-add}
use Rattle.std.proofs.lemmas.Slice.{between_to_end}
use Rattle.std.proofs.lemmas.List.{take_at, take_rest, take-append-drop, drop-drop}
use Rattle.lv_edge.specs.Streams.{before_told, after_told, Loses, Grows, LosesAtMost}

pub before_told-append : (xs ys : List ℕ) (told : Option (List ℕ)) → before_told (xs ++ ys) told ≡ before_told xs (before_told ys told)
before_told-append xs ys None = refl
before_told-append xs ys (Some zs) = ap Some (append_assoc xs ys zs)

pub after_told-append : (told : Option (List ℕ)) (xs ys : List ℕ) → after_told told (xs ++ ys) ≡ after_told (after_told told xs) ys
after_told-append None xs ys = refl
after_told-append (Some zs) xs ys = ap Some (sym (append_assoc zs xs ys))

-- a source that lost nothing
pub loses_nothing : (told : Option (List ℕ)) → Loses told told []
loses_nothing None = refl
loses_nothing (Some zs) = refl

-- a sink that got nothing
pub grows_nothing : (told : Option (List ℕ)) → Grows told told []
grows_nothing None = refl
grows_nothing (Some zs) = ap Some (sym (append-nil zs))

-- a source that loses some bytes and then some more loses them all
pub loses_more : (a b c : Option (List ℕ)) (xs ys : List ℕ) → Loses a b xs → Loses b c ys → Loses a c (xs ++ ys)
loses_more a b c xs ys first more = first ∙ ap (before_told xs) more ∙ sym (before_told-append xs ys c)

-- a sink that gets some bytes and then some more gets them all
pub grows_more : (a b c : Option (List ℕ)) (xs ys : List ℕ) → Grows a b xs → Grows b c ys → Grows a c (xs ++ ys)
grows_more a b c xs ys first more = more ∙ ap (λ told. after_told told ys) first ∙ sym (after_told-append a xs ys)

-- a sink that got the first bytes of a piece, and then some of the rest
pub grows_step : (a b c : Option (List ℕ)) (piece : List ℕ) (at n : ℕ)
    → Grows a b (take at piece) → Grows b c (take n (between at (length piece) piece)) → Grows a c (take (at + n) piece)
grows_step a b c piece at n first more =
    let whole : length piece ≤ length piece = omega arith in
    rw take-add (grows_more a b c (take at piece) (take n (drop at piece)) first (rw between_to_end at more))

-- a source that lost some bytes, and then some more in a call that had only so much room
pub loses_more_at_most : (room most : ℕ) (a b c : Option (List ℕ)) (xs : List ℕ)
    → Loses a b xs → LosesAtMost room b c → length xs + room ≤ most → LosesAtMost most a c
loses_more_at_most room most a b c xs first more small =
    let few = more.few in
    record {
      bytes = xs ++ more.bytes;
      few = rw length-append (omega arith);
      lost = loses_more a b c xs more.bytes first more.lost;
    }

-- what is left from a place on: what was copied from there into the front of a buffer, and what comes behind
pub copied_front : (copied buf bytes left : List ℕ) (at n : ℕ) → drop at bytes ≡ left
    → n ≤ length (take (length bytes - at) (drop at bytes)) → copied ≡ take n (take (length bytes - at) (drop at bytes))
    → left ≡ take n (copied ++ drop n buf) ++ drop (at + n) bytes
copied_front copied buf bytes left at n is_left fits is_copied =
    let rest = take_rest bytes at in
    let fits' : n ≤ length (drop at bytes) = rw rest at fits in
    let is_copied' : copied ≡ take n (drop at bytes) = rw rest at is_copied in
    let long : length copied ≡ n = ap length is_copied' ∙ length-take-le n (drop at bytes) fits' in
    rw (take_at copied (drop n buf) n long, is_copied', ← is_left) (sym (ap (λ t. take n (drop at bytes) ++ t) (sym (drop-drop n at bytes)) ∙ take-append-drop n (drop at bytes)))
