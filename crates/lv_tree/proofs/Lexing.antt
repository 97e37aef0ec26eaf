-- The reader's tokens are those of the grammar.
use Rattle.std.proofs.Common.{◌≡◌, ℕ, suc, ◌+◌, ◌-◌, ◌<◌, ◌≤◌, Bool, true, false, ◌&&◌, inl, inr, leb, ltb, eqb, List, [], ◌∷◌, ◌++◌, length, Option, None, Some, refl, sym, ap, subst, ◌∙◌, append_assoc, arith}
use Rattle.std.specs.List.{list_all}
use Rattle.std.specs.Prelude.{not, ◌||◌}
use Rattle.std.proofs.lemmas.List.{append-nil, length-append}
use Rattle.std.proofs.lemmas.Bool.{eqb-true, lt-leb, ltb-true, leb-true, and_parts, or_cases, not-true}
use Rattle.std.proofs.Math.Bool.{and-false, and-true, or-true}
use Rattle.lv_tree.specs.declared.fault.TreeFault.{TreeFault}
use Rattle.lv_tree.specs.Bytes.{is_white, is_word_byte, is_allowed_byte, goes_on_with}
use Rattle.lv_tree.specs.Spelling.{is_text, Token, Opens, Closes, Spells, Lexes, end, white, comment, opens, closes, word}
use Rattle.lv_tree.specs.Faults.{State, is_empty, tail, after_byte, fault_at, fault_from, or_else}
use Rattle.lv_tree.proofs.Stack.{is_empty_open}
use Rattle.lv_tree.proofs.Balance.{is_balanced}
use Rattle.lv_tree.specs.Reader.{word_token, bracket_token, tokens_at, tokens_from}

-- a state by its parts
abbrev pub at_state : List ℕ → Bool → List ℕ → Bool → State
at_state o g t c = record { opened = o; begun = g; word = t; comment = c }

-- ---- the kinds of bytes

-- what a byte is outside a comment
pub data Kind : ℕ → Type 0 where
  semicolon : Kind 59
  left : Kind 40
  right : Kind 41
  letter : {b : ℕ} → is_word_byte b ≡ true → eqb b 59 ≡ false → eqb b 40 ≡ false → eqb b 41 ≡ false → Kind b
  blank : {b : ℕ} → is_white b ≡ true → is_word_byte b ≡ false → eqb b 59 ≡ false → eqb b 40 ≡ false → eqb b 41 ≡ false → Kind b
  none : {b : ℕ} → is_allowed_byte b ≡ false → Kind b

kind_rest : (b : ℕ) (w p : Bool) → is_word_byte b ≡ w → is_white b ≡ p → eqb b 59 ≡ false → eqb b 40 ≡ false → eqb b 41 ≡ false → Kind b
kind_rest b true p is-word is-white x y z = letter is-word x y z
kind_rest b false true is-word is-white x y z = blank is-white is-word x y z
kind_rest b false false is-word is-white x y z = none (rw (is-word, is-white, x, y, z) refl)

-- each byte is of one kind
pub kind : (b : ℕ) → Kind b
kind b = go (eqb b 59) (eqb b 40) (eqb b 41) refl refl refl where
  go : (x y z : Bool) → eqb b 59 ≡ x → eqb b 40 ≡ y → eqb b 41 ≡ z → Kind b
  go true y z p q r = rw (eqb-true b 59 p) semicolon
  go false true z p q r = rw (eqb-true b 40 q) left
  go false false true p q r = rw (eqb-true b 41 r) right
  go false false false p q r = kind_rest b (is_word_byte b) (is_white b) refl refl p q r

-- ---- what the reader takes is spelled so

abbrev no_line : ℕ → Bool
no_line b = not (eqb b 10)

abbrev line : ℕ → Bool
line b = eqb b 10

abbrev no_word : ℕ → Bool
no_word b = not (is_word_byte b)

-- a comment goes on here
pub record InComment (at : ℕ) (bytes : List ℕ) (ms : List Token) : Type 0 where
  pub body : List ℕ
  pub rest : List ℕ
  pub parts : bytes ≡ body ++ rest
  pub plain : list_all no_line body ≡ true
  pub ends : goes_on_with line rest ≡ true
  pub after : Lexes (at + length body) rest ms

-- the bytes of the word that ends here are spelled before the rest
abbrev Pending : List ℕ → Bool → ℕ → List ℕ → List Token → Type 0
Pending t true at bytes ms = InComment at bytes ms
Pending t false at bytes ms = Lexes (at - length t) (t ++ bytes) ms

-- the word that ends here, before what follows
flush : (t : List ℕ) (at : ℕ) (rest : List ℕ) (ms : List Token) → list_all is_word_byte t ≡ true → length t ≤ at → goes_on_with no_word rest ≡ true
    → Lexes at rest ms → Lexes (at - length t) (t ++ rest) (word_token t at ++ ms)
flush [] at rest ms ok le stops h = let e : at - 0 ≡ at = omega arith in rw e h
flush (b ∷ bs) at rest ms ok le stops h =
    let e : at - length (b ∷ bs) + length (b ∷ bs) ≡ at = omega arith in
    word b bs rest ok stops (rw e h)

-- a byte more of a comment
comment_more : (at b : ℕ) (bs : List ℕ) (ms : List Token) → eqb b 10 ≡ false → InComment (at + 1) bs ms → InComment at (b ∷ bs) ms
comment_more at b bs ms e h =
    let k : at + 1 + length h.body ≡ at + length (b ∷ h.body) = omega arith in
    record { body = b ∷ h.body; rest = h.rest; parts = ap (λ (x : List ℕ). b ∷ x) h.parts; plain = rw (e, h.plain) refl; ends = h.ends; after = rw k at h.after }

-- the newline behind a comment
comment_line : (at : ℕ) (bs : List ℕ) (ms : List Token) → Lexes (at + 1) bs ms → InComment at (10 ∷ bs) ms
comment_line at bs ms h =
    let e : at + 0 ≡ at = omega arith in
    record { body = []; rest = 10 ∷ bs; parts = refl; plain = refl; ends = refl; after = rw e (white refl h) }

-- one byte in a comment
in_comment : (o : List ℕ) (g : Bool) (at b : ℕ) (bs : List ℕ) (ms : List Token) (c : Bool) → eqb b 10 ≡ c → Pending [] (not c) (at + 1) bs ms → InComment at (b ∷ bs) ms
in_comment o g at b bs ms true e h = let k : at + 1 - 0 ≡ at + 1 = omega arith in rw (eqb-true b 10 e) (comment_line at bs ms (rw k at h))
in_comment o g at b bs ms false e h = comment_more at b bs ms e h

-- the semicolon before a comment
comment_begins : (at : ℕ) (bs : List ℕ) (ms : List Token) → InComment (at + 1) bs ms → Lexes at (59 ∷ bs) ms
comment_begins at bs ms h = rw h.parts (comment h.body h.rest h.plain h.ends h.after)

-- one byte
step : (o : List ℕ) (g : Bool) (t : List ℕ) (at b : ℕ) (bs : List ℕ) (ms : List Token) → Kind b → list_all is_word_byte t ≡ true → length t ≤ at → is_allowed_byte b ≡ true
    → Pending (after_byte (at_state o g t false) at b).word (after_byte (at_state o g t false) at b).comment (at + 1) bs ms
    → Lexes (at - length t) (t ++ b ∷ bs) (tokens_at (at_state o g t false) at b ++ ms)
step o g t at _ bs ms semicolon ok le known h = rw (append-nil (word_token t at)) (flush t at (59 ∷ bs) ms ok le refl (comment_begins at bs ms h))
step o g t at _ bs ms left ok le known h =
    let k : at + 1 - 0 ≡ at + 1 = omega arith in
    rw (append_assoc (word_token t at) (Opens at ∷ []) ms) (flush t at (40 ∷ bs) (Opens at ∷ ms) ok le refl (opens (rw k at h)))
step o g t at _ bs ms right ok le known h =
    let k : at + 1 - 0 ≡ at + 1 = omega arith in
    rw (append_assoc (word_token t at) (Closes at ∷ []) ms) (flush t at (41 ∷ bs) (Closes at ∷ ms) ok le refl (closes (rw k at h)))
step o g t at b bs ms (letter is-word x y z) ok le known h =
    let k : at + 1 - length (t ++ b ∷ []) ≡ at - length t = omega (arith, length-append t (b ∷ [])) in
    rw is-word (rw (k, append_assoc t (b ∷ []) bs) at (rw (x, y, z, is-word) at h))
step o g t at b bs ms (blank is-white is-word x y z) ok le known h =
    let k : at + 1 - 0 ≡ at + 1 = omega arith in
    rw (is-word, y, z, append-nil (word_token t at)) (flush t at (b ∷ bs) ms ok le (rw is-word refl) (white is-white (rw k at (rw (x, y, z, is-word) at h))))
step o g t at b bs ms (none unknown) ok le known h = absurd cc

pub no_fault : (f g : Option TreeFault) → or_else f g ≡ None → (f ≡ None) × (g ≡ None)
no_fault None g e = (refl, e)
no_fault (Some x) g e = absurd cc

knows : (o : List ℕ) (g : Bool) (t : List ℕ) (at b : ℕ) (k : Bool) → is_allowed_byte b ≡ k → fault_at (at_state o g t false) at b ≡ None → is_allowed_byte b ≡ true
knows o g t at b true e h = e
knows o g t at b false e h = let z = rw e at h in absurd cc

-- what the state keeps
abbrev IsKept : State → ℕ → Type 0
IsKept s at = (list_all is_word_byte s.word ≡ true) × (length s.word ≤ at) × (s.comment ≡ true → s.word ≡ [])

pub all_word_push : (t : List ℕ) (b : ℕ) → list_all is_word_byte t ≡ true → is_word_byte b ≡ true → list_all is_word_byte (t ++ b ∷ []) ≡ true
all_word_push [] b h k = rw k refl
all_word_push (c ∷ t) b h k =
    let p = and_parts (is_word_byte c) (list_all is_word_byte t) h in
    rw (p.0, all_word_push t b p.1 k) refl

-- what the state keeps over a byte
kept : (o : List ℕ) (g : Bool) (t : List ℕ) (at b : ℕ) → Kind b → is_allowed_byte b ≡ true → list_all is_word_byte t ≡ true → length t ≤ at → IsKept (after_byte (at_state o g t false) at b) (at + 1)
kept o g t at _ semicolon known ok le = (refl, omega arith, λ _. refl)
kept o g t at _ left known ok le = (refl, omega arith, λ _. refl)
kept o g t at _ right known ok le = (refl, omega arith, λ _. refl)
kept o g t at b (letter is-word x y z) known ok le = rw (x, y, z, is-word) (all_word_push t b ok is-word, omega (arith, length-append t (b ∷ [])), λ e. absurd cc)
kept o g t at b (blank is-white is-word x y z) known ok le = rw (x, y, z, is-word) (refl, omega arith, λ _. refl)
kept o g t at b (none unknown) known ok le = absurd cc

-- where no fault comes, the bytes are the tokens that are taken from them
pub sound : (bytes : List ℕ) (o : List ℕ) (g : Bool) (t : List ℕ) (c : Bool) (at : ℕ) → IsKept (at_state o g t c) at
    → fault_from (at_state o g t c) at bytes ≡ None → Pending t c at bytes (tokens_from (at_state o g t c) at bytes)
sound [] o g t false at k e = rw (← append-nil (word_token t at)) (flush t at [] [] k.0 k.1 refl end)
sound [] o g t true at k e = rw (k.2 refl) (record { body = []; rest = []; parts = refl; plain = refl; ends = refl; after = end })
sound (b ∷ bs) o g t true at k e =
    let nothing : [] ≡ t = sym (k.2 refl) in
    subst (λ (u : List ℕ). fault_from (at_state o g u true) at (b ∷ bs) ≡ None → InComment at (b ∷ bs) (tokens_from (at_state o g u true) at (b ∷ bs))) nothing
    (λ f. in_comment o g at b bs _ (eqb b 10) refl (sound bs o g [] (not (eqb b 10)) (at + 1) (refl, omega arith, λ _. refl) f)) e
sound (b ∷ bs) o g t false at k e =
    let s = after_byte (at_state o g t false) at b in
    let f = no_fault (fault_at (at_state o g t false) at b) (fault_from s (at + 1) bs) e in
    let known = knows o g t at b (is_allowed_byte b) refl f.0 in
    let rest = sound bs s.opened s.begun s.word s.comment (at + 1) (kept o g t at b (kind b) known k.0 k.1) f.1 in
    step o g t at b bs _ (kind b) k.0 k.1 known rest

-- ---- what is spelled is taken

other : (b c : ℕ) → eqb b c ≡ true → is_word_byte c ≡ false → is_word_byte b ≡ true → ⊥
other b c e h l = let k = rw (eqb-true b c e, h) at l in absurd cc

-- no white byte is a word byte
white_letter : (b : ℕ) → is_white b ≡ true → is_word_byte b ≡ true → ⊥
white_letter b w l = elim (or_cases (eqb b 32 || eqb b 9 || eqb b 10) (eqb b 13) w) [
  | inr e ↦ other b 13 e refl l
  | inl v ↦ elim (or_cases (eqb b 32 || eqb b 9) (eqb b 10) v) [
    | inr e ↦ other b 10 e refl l
    | inl u ↦ elim (or_cases (eqb b 32) (eqb b 9) u) [ inr e ↦ other b 9 e refl l | inl e ↦ other b 32 e refl l ]
  ]
]

-- the same faults and tokens from two places on
abbrev Alike : State → ℕ → List ℕ → State → ℕ → List ℕ → Type 0
Alike s at bytes s' at' bytes' = (fault_from s at bytes ≡ fault_from s' at' bytes') × (tokens_from s at bytes ≡ tokens_from s' at' bytes')

blank_step : (o : List ℕ) (g : Bool) (at b : ℕ) (bs : List ℕ) → is_white b ≡ true → is_word_byte b ≡ false → eqb b 59 ≡ false → eqb b 40 ≡ false → eqb b 41 ≡ false
    → Alike (at_state o g [] false) at (b ∷ bs) (at_state o g [] false) (at + 1) bs
blank_step o g at b bs w l x y z = rw (w, l, x, y, z, and-false g, and-false (is_empty o)) (refl, refl)

-- a white byte changes nothing
white_step : (o : List ℕ) (g : Bool) (at b : ℕ) (bs : List ℕ) → Kind b → is_white b ≡ true
    → Alike (at_state o g [] false) at (b ∷ bs) (at_state o g [] false) (at + 1) bs
white_step o g at _ bs semicolon w = absurd cc
white_step o g at _ bs left w = absurd cc
white_step o g at _ bs right w = absurd cc
white_step o g at b bs (letter l x y z) w = absurd (white_letter b w l)
white_step o g at b bs (blank _ l x y z) w = blank_step o g at b bs w l x y z
white_step o g at b bs (none k) w = let e = rw w at k in absurd cc

-- a comment changes nothing
skip_comment : (o : List ℕ) (g : Bool) (body rest : List ℕ) (at : ℕ) → list_all no_line body ≡ true → goes_on_with line rest ≡ true
    → Alike (at_state o g [] true) at (body ++ rest) (at_state o g [] false) (at + length body) rest
skip_comment o g [] [] at h e = (refl, refl)
skip_comment o g [] (b ∷ bs) at h e =
    let k : at + 0 ≡ at = omega arith in
    let w = blank_step o g at 10 bs refl refl refl refl refl in
    rw (k, eqb-true b 10 e) (sym w.0, sym w.1)
skip_comment o g (c ∷ body) rest at h e =
    let p = and_parts (no_line c) (list_all no_line body) h in
    let k : at + suc (length body) ≡ at + 1 + length body = omega arith in
    let i = skip_comment o g body rest (at + 1) p.1 e in
    rw (k, p.0) i

-- a byte more of a word
letter_step : (o t : List ℕ) (at c : ℕ) (cs : List ℕ) → Kind c → is_word_byte c ≡ true → is_empty t ≡ false → length t < 64
    → Alike (at_state o true t false) at (c ∷ cs) (at_state o true (t ++ c ∷ []) false) (at + 1) cs
letter_step o t at _ cs semicolon w some lt = absurd cc
letter_step o t at _ cs left w some lt = absurd cc
letter_step o t at _ cs right w some lt = absurd cc
letter_step o t at c cs (letter l x y z) w some lt = rw (l, x, y, z, some, and-false (is_empty o), lt-leb 64 (length t) lt, or-true (is_white c)) (refl, refl)
letter_step o t at c cs (blank _ l x y z) w some lt = absurd cc
letter_step o t at c cs (none k) w some lt = let e = rw (w, or-true (is_white c)) at k in absurd cc

-- the rest of a word
skip_word : (o t bs rest : List ℕ) (at : ℕ) → is_empty t ≡ false → list_all is_word_byte bs ≡ true → length t + length bs ≤ 64
    → Alike (at_state o true t false) at (bs ++ rest) (at_state o true (t ++ bs) false) (at + length bs) rest
skip_word o t [] rest at some h le = let k : at + 0 ≡ at = omega arith in rw (k, append-nil t) (refl, refl)
skip_word o t (c ∷ bs) rest at some h le =
    let p = and_parts (is_word_byte c) (list_all is_word_byte bs) h in
    let one = letter_step o t at c (bs ++ rest) (kind c) p.0 some (omega (arith, le)) in
    let more = skip_word o (t ++ c ∷ []) bs rest (at + 1) (is_empty_open t c) p.1 (omega (arith, length-append t (c ∷ []), le)) in
    let k : at + suc (length bs) ≡ at + 1 + length bs = omega arith in
    let e : (t ++ c ∷ []) ++ bs ≡ t ++ c ∷ bs = append_assoc t (c ∷ []) bs in
    rw (k, ← e) (one.0 ∙ more.0, one.1 ∙ more.1)

-- where a word ends, its token is taken
end_word : (o t rest : List ℕ) (at : ℕ) → goes_on_with no_word rest ≡ true
    → (fault_from (at_state o true t false) at rest ≡ fault_from (at_state o true [] false) at rest)
    × (tokens_from (at_state o true t false) at rest ≡ word_token t at ++ tokens_from (at_state o true [] false) at rest)
end_word o t [] at h = (refl, sym (append-nil (word_token t at)))
end_word o t (c ∷ cs) at h =
    let n : is_word_byte c ≡ false = not-true (is_word_byte c) h in
    rw n (refl, append_assoc (word_token t at) (bracket_token at c) _)

-- the first byte of a word
word_begins : (o : List ℕ) (g : Bool) (at c : ℕ) (cs : List ℕ) → Kind c → is_word_byte c ≡ true → is_empty o && g ≡ false
    → Alike (at_state o g [] false) at (c ∷ cs) (at_state o true (c ∷ []) false) (at + 1) cs
word_begins o g at _ cs semicolon w n = absurd cc
word_begins o g at _ cs left w n = absurd cc
word_begins o g at _ cs right w n = absurd cc
word_begins o g at c cs (letter l x y z) w n = rw (l, x, y, z, and-true g, n, or-true (is_white c)) (refl, refl)
word_begins o g at c cs (blank _ l x y z) w n = absurd cc
word_begins o g at c cs (none k) w n = let e = rw (w, or-true (is_white c)) at k in absurd cc

nil_true : (xs : List ℕ) → is_empty xs ≡ true → xs ≡ []
nil_true [] h = refl
nil_true (x ∷ xs) h = absurd cc

-- where the bytes are balanced tokens, no fault comes, and these tokens are taken from them
pub complete : {at : ℕ} {bytes : List ℕ} {ms : List Token} → Lexes at bytes ms → (o : List ℕ) (g : Bool) → is_balanced o g ms ≡ true
    → (fault_from (at_state o g [] false) at bytes ≡ None) × (tokens_from (at_state o g [] false) at bytes ≡ ms)
complete end o g h =
    let p = and_parts (is_empty o) g h in
    rw (nil_true o p.0, p.1) (refl, refl)
complete (white {at = at} {b = b} {rest = rest} w r) o g h =
    let s = white_step o g at b rest (kind b) w in
    let i = complete r o g h in
    (s.0 ∙ i.0, s.1 ∙ i.1)
complete (comment {at = at} body rest n l r) o g h =
    let s = skip_comment o g body rest (at + 1) n l in
    let i = complete r o g h in
    rw (and-false g, and-false (is_empty o)) (s.0 ∙ i.0, s.1 ∙ i.1)
complete (opens {at = at} {rest = rest} {ts = ms} r) o g h =
    let p = and_parts (not (is_empty o && g)) (ltb (length o) 64 && is_balanced (at ∷ o) true ms) h in
    let q = and_parts (ltb (length o) 64) (is_balanced (at ∷ o) true ms) p.1 in
    let i = complete r (at ∷ o) true q.1 in
    rw (and-true g, not-true (is_empty o && g) p.0, lt-leb 64 (length o) (ltb-true (length o) 64 q.0)) (i.0, ap (λ (x : List Token). Opens at ∷ x) i.1)
complete (closes {at = at} {rest = rest} {ts = ms} r) o g h =
    let p = and_parts (not (is_empty o)) (is_balanced (tail o) g ms) h in
    let i = complete r (tail o) g p.1 in
    rw (not-true (is_empty o) p.0) (i.0, ap (λ (x : List Token). Closes at ∷ x) i.1)
complete (word {at = at} b bs rest {ts = ms} a stops r) o g h =
    let p = and_parts (not (is_empty o && g)) (is_text (b ∷ bs) && is_balanced o true ms) h in
    let q = and_parts (is_text (b ∷ bs)) (is_balanced o true ms) p.1 in
    let lengths = and_parts (ltb 0 (length (b ∷ bs)) && leb (length (b ∷ bs)) 64) (list_all is_word_byte (b ∷ bs)) q.0 in
    let most = and_parts (ltb 0 (length (b ∷ bs))) (leb (length (b ∷ bs)) 64) lengths.0 in
    let w = and_parts (is_word_byte b) (list_all is_word_byte bs) a in
    let first = word_begins o g at b (bs ++ rest) (kind b) w.0 (not-true (is_empty o && g) p.0) in
    let short : length {A = ℕ} (b ∷ []) + length bs ≤ 64 = omega (arith, leb-true (length (b ∷ bs)) 64 most.1) in
    let more = skip_word o (b ∷ []) bs rest (at + 1) refl w.1 short in
    let k : at + 1 + length bs ≡ at + length (b ∷ bs) = omega arith in
    let last = end_word o (b ∷ bs) rest (at + length (b ∷ bs)) stops in
    let i = complete r o true q.1 in
    let e : at + length (b ∷ bs) - length (b ∷ bs) ≡ at = omega arith in
    let more' = rw k at more in
    let m : tokens_from (at_state o true (b ∷ bs) false) (at + length (b ∷ bs)) rest ≡ Spells at (b ∷ bs) ∷ ms = last.1 ∙ rw (e, i.1) refl in
    (first.0 ∙ more'.0 ∙ last.0 ∙ i.0, first.1 ∙ more'.1 ∙ m)
