-- Without a fault, the tokens are balanced.
use Rattle.std.proofs.Common.{◌≡◌, ℕ, ◌+◌, ◌<◌, ◌≤◌, Bool, true, false, ◌&&◌, leb, ltb, eqb, List, [], ◌∷◌, ◌++◌, length, Option, None, Some, refl, sym, append_assoc, arith}
use Rattle.std.specs.Prelude.{not, if◌then◌else◌}
use Rattle.std.specs.List.{list_all}
use Rattle.std.proofs.lemmas.List.{append-nil, length-append}
use Rattle.std.proofs.lemmas.Bool.{leb-false, lt-ltb}
use Rattle.std.proofs.Math.Bool.{and-true, or-true}
use Rattle.lv_tree.specs.declared.fault.TreeFault.{TreeFault}
use Rattle.lv_tree.specs.declared.fault.TreeFault.TheVariants.{Extra, TooDeep, LongWord, Empty}
use Rattle.lv_tree.specs.Bytes.{is_white, is_word_byte}
use Rattle.lv_tree.specs.Spelling.{Token, Opens, Closes}
use Rattle.lv_tree.specs.Faults.{is_empty, after_byte, unclosed_or, fault_at, fault_from}
use Rattle.lv_tree.specs.Reader.{word_token, tokens_at, tokens_from}
use Rattle.lv_tree.proofs.Balance.{is_balanced}
use Rattle.lv_tree.proofs.Steps.{text_is}
use Rattle.lv_tree.proofs.Lexing.{at_state, Kind, semicolon, left, right, letter, blank, none, kind, no_fault, all_word_push}

-- what the state before each place keeps, where no fault came
pub record IsConsistent (o : List ℕ) (g : Bool) (t : List ℕ) : Type 0 where
  pub word : list_all is_word_byte t ≡ true
  pub short : length t ≤ 64
  pub begun : is_empty t ≡ false → g ≡ true
  pub inside : is_empty o ≡ false → g ≡ true

-- whether the tree began before the word that reaches this place
abbrev pub began_before : List ℕ → Bool → List ℕ → Bool
began_before o g [] = g
began_before o g (b ∷ bs) = not (is_empty o)

not_both : (a : Bool) → a && not a ≡ false
not_both true = refl
not_both false = refl

-- where the rest is balanced, so is the word before it
word_balanced : (o : List ℕ) (g : Bool) (t : List ℕ) (at : ℕ) (ts : List Token) → IsConsistent o g t → is_balanced o g ts ≡ true → is_balanced o (began_before o g t) (word_token t at ++ ts) ≡ true
word_balanced o g [] at ts k h = h
word_balanced o g (b ∷ bs) at ts k h =
    let others : is_balanced o true ts ≡ true = rw (k.begun refl) at h in
    rw (not_both (is_empty o), text_is (b ∷ bs) refl k.word k.short, others) refl

if_none : (x : Bool) (f : TreeFault) (r : Option TreeFault) → (if x then Some f else r) ≡ None → (x ≡ false) × (r ≡ None)
if_none true f r e = absurd cc
if_none false f r e = (refl, e)

-- a '(' without a fault
opens_well : (o : List ℕ) (g : Bool) (t : List ℕ) (at : ℕ) → fault_at (at_state o g t false) at 40 ≡ None → (is_empty o && g ≡ false) × (ltb (length o) 64 ≡ true)
opens_well o g t at e =
    let p = if_none (is_empty o && (g && true)) (Extra at) _ e in
    let q = if_none (leb 64 (length o)) (TooDeep at) _ p.1 in
    (rw (and-true g) at p.0, lt-ltb (length o) 64 (leb-false 64 (length o) q.0))

-- a ')' without a fault
closes_well : (o : List ℕ) (g : Bool) (t : List ℕ) (at : ℕ) → fault_at (at_state o g t false) at 41 ≡ None → is_empty o ≡ false
closes_well o g t at e =
    let p = if_none (is_empty o && true) (Extra at) _ e in
    rw (and-true (is_empty o)) at p.0

-- a word byte without a fault
goes_on_well : (o : List ℕ) (g : Bool) (t : List ℕ) (at b : ℕ) → is_word_byte b ≡ true → eqb b 59 ≡ false → eqb b 40 ≡ false → eqb b 41 ≡ false
    → fault_at (at_state o g t false) at b ≡ None → (is_empty o && (g && is_empty t) ≡ false) × (length t < 64)
goes_on_well o g t at b is-word x y z e =
    let f = rw (is-word, x, y, z, or-true (is_white b)) at e in
    let p = if_none (is_empty o && (g && is_empty t)) (Extra at) _ f in
    let q = if_none (leb 64 (length t)) (LongWord at) _ p.1 in
    (p.0, leb-false 64 (length t) q.0)

-- what the state keeps over a byte
consistent : (o : List ℕ) (g : Bool) (t : List ℕ) (at b : ℕ) → Kind b → IsConsistent o g t → fault_at (at_state o g t false) at b ≡ None
    → IsConsistent (after_byte (at_state o g t false) at b).opened (after_byte (at_state o g t false) at b).begun (after_byte (at_state o g t false) at b).word
consistent o g t at _ semicolon k e = record { word = refl; short = omega arith; begun = λ h. absurd cc; inside = k.inside }
consistent o g t at _ left k e = record { word = refl; short = omega arith; begun = λ h. absurd cc; inside = λ h. refl }
consistent o g t at _ right k e = record { word = refl; short = omega arith; begun = λ h. absurd cc; inside = λ h. k.inside (closes_well o g t at e) }
consistent o g t at b (letter is-word x y z) k e =
    let p = goes_on_well o g t at b is-word x y z e in
    rw (x, y, z, is-word) (record { word = all_word_push t b k.word is-word; short = omega (arith, length-append t (b ∷ []), p.1); begun = λ h. refl; inside = λ h. refl })
consistent o g t at b (blank is-white is-word x y z) k e = rw (x, y, z, is-word) (record { word = refl; short = omega arith; begun = λ h. absurd cc; inside = k.inside })
consistent o g t at b (none unknown) k e = let f = rw unknown at e in absurd cc

-- where a word begins
first_word : (o : List ℕ) (g : Bool) → (is_empty o ≡ false → g ≡ true) → is_empty o && (g && true) ≡ false → not (is_empty o) ≡ g
first_word [] true i e = absurd cc
first_word [] false i e = refl
first_word (a ∷ o) g i e = sym (i refl)

began_same : (o : List ℕ) (g : Bool) (t : List ℕ) (b : ℕ) → IsConsistent o g t → is_empty o && (g && is_empty t) ≡ false → began_before o true (t ++ b ∷ []) ≡ began_before o g t
began_same o g [] b k e = first_word o g k.inside e
began_same o g (c ∷ t) b k e = refl

-- where the rest is balanced, so are the tokens that a byte ends before it
step : (o : List ℕ) (g : Bool) (t : List ℕ) (at b : ℕ) (ts : List Token) → Kind b → IsConsistent o g t → fault_at (at_state o g t false) at b ≡ None
    → is_balanced (after_byte (at_state o g t false) at b).opened
    (began_before (after_byte (at_state o g t false) at b).opened (after_byte (at_state o g t false) at b).begun (after_byte (at_state o g t false) at b).word) ts ≡ true
    → is_balanced o (began_before o g t) (tokens_at (at_state o g t false) at b ++ ts) ≡ true
step o g t at _ ts semicolon k e h = rw (append-nil (word_token t at)) (word_balanced o g t at ts k h)
step o g t at _ ts left k e h =
    let p = opens_well o g t at e in
    rw (append_assoc (word_token t at) (Opens at ∷ []) ts) (word_balanced o g t at (Opens at ∷ ts) k (rw (p.0, p.1, h) refl))
step o g t at _ ts right k e h = rw (append_assoc (word_token t at) (Closes at ∷ []) ts) (word_balanced o g t at (Closes at ∷ ts) k (rw (closes_well o g t at e, h) refl))
step o g t at b ts (letter is-word x y z) k e h =
    let p = goes_on_well o g t at b is-word x y z e in
    rw (is-word, ← began_same o g t b k p.0) (rw (x, y, z, is-word) at h)
step o g t at b ts (blank is-white is-word x y z) k e h =
    rw (is-word, y, z, append-nil (word_token t at)) (word_balanced o g t at ts k (rw (x, y, z, is-word) at h))
step o g t at b ts (none unknown) k e h = let f = rw unknown at e in absurd cc

ended : (o : List ℕ) (g : Bool) → unclosed_or o (if g then None else Some Empty) ≡ None → is_empty o && g ≡ true
ended [] true e = refl
ended [] false e = absurd cc
ended (a ∷ o) g e = absurd cc

-- where no fault comes, the tokens are balanced
pub balanced : (bytes : List ℕ) (o : List ℕ) (g : Bool) (t : List ℕ) (c : Bool) (at : ℕ) → IsConsistent o g t → fault_from (at_state o g t c) at bytes ≡ None
    → is_balanced o (began_before o g t) (tokens_from (at_state o g t c) at bytes) ≡ true
balanced [] o g t c at k e = rw (← append-nil (word_token t at)) (word_balanced o g t at [] k (ended o g e))
balanced (b ∷ bs) o g t true at k e = balanced bs o g t (not (eqb b 10)) (at + 1) k e
balanced (b ∷ bs) o g t false at k e =
    let s = after_byte (at_state o g t false) at b in
    let f = no_fault (fault_at (at_state o g t false) at b) (fault_from s (at + 1) bs) e in
    let others = balanced bs s.opened s.begun s.word s.comment (at + 1) (consistent o g t at b (kind b) k f.0) f.1 in
    step o g t at b _ (kind b) k f.0 others
