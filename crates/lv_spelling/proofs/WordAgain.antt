-- What a word says by the rules is what it is read as.
use Rattle.std.proofs.Common.{◌≡◌, ℕ, Bool, true, false, ◌&&◌, if◌then◌else◌, List, codes, Option, Some, None, refl, sym, ap, ◌∙◌}
use Rattle.lv_tree.specs.declared.tree.Tree.{Tree}
use Rattle.lv_formula.specs.declared.symbols.SortId.{SortId}
use Rattle.lv_formula.specs.declared.symbols.Sym.{Sym}
use Rattle.lv_system.specs.Names.{same_text, is_reserved, are_name_bytes, begins_small, names_item, names_part, names_connective, names_operator, names_run}
use Rattle.lv_grammar.specs.Words.{begins_capital}
use Rattle.lv_grammar.specs.declared.reading.Role.{Role}
use Rattle.lv_grammar.specs.declared.reading.Family.{Family}
use Rattle.lv_grammar.specs.declared.reading.Keyword.{Keyword}
use Rattle.lv_grammar.specs.WordKinds.{keyword_of, constant_keyword, connective_keyword, family_of, has_dot}
use Rattle.lv_grammar.specs.Known.{is_invariant, Known, looks_small, IsSortName, Said, Relation, Constant, Says, own_relation, own_constant, witness, label, frozen, saved, touched, kept, due, due_label, copy_relation, copy_constant, copy_label}
use Rattle.lv_grammar.specs.ReadWords.{sort_in, dotted_said, freely, monitor_word, speaks, relation_at, constant_at}
use Rattle.lv_grammar.proofs.Steps.{done}
use Rattle.lv_spelling.proofs.Keywords.{keyword_is, keyword_word}
use Rattle.lv_spelling.proofs.WordKinds.{and_first, and_second, or_first, or_second, no_dot}
use Rattle.lv_grammar.proofs.TreesAgain.{word_again}
use Rattle.lv_spelling.proofs.Tests.{not_not}
use Rattle.lv_grammar.specs.declared.reading.Role.TheVariants as R
use Rattle.lv_grammar.specs.declared.reading.Family.TheVariants as Fam
use Rattle.lv_grammar.specs.declared.reading.Keyword.TheVariants as K

pub small_family : (text : List ℕ) → looks_small text ≡ true → family_of text ≡ Fam.Name
unfolding family_of names_operator
small_family text e =
    let free : is_reserved text ≡ false = not_not (is_reserved text) (and_second (begins_small text && are_name_bytes text) _ e) in
    let both : (begins_small text && are_name_bytes text) ≡ true = and_first (begins_small text && are_name_bytes text) _ e in
    let operators : names_operator text ≡ false = or_second _ _ (or_first _ _ free) in
    let saved : same_text text (codes "saved") ≡ false = or_second _ _ operators in
    let frozen : same_text text (codes "frozen") ≡ false = or_second _ _ (or_first _ _ operators) in
    chain (has_dot text) (same_text text (codes "frozen")) (same_text text (codes "saved")) (is_reserved text) (begins_small text && are_name_bytes text) (begins_capital text && are_name_bytes text)
    (no_dot text (and_second (begins_small text) _ both)) frozen saved free both where
      chain : (d f s r n c : Bool) → d ≡ false → f ≡ false → s ≡ false → r ≡ false → n ≡ true
          → (if d then Fam.Dotted else if f then Fam.Frozen else if s then Fam.Saved else if r then Fam.Other else if n then Fam.Name else if c then Fam.Variable else Fam.Other) ≡ Fam.Name
      chain d f s r n c hd hf hs hr hn = rw (hd, hf, hs, hr, hn) refl

-- a keyword doesn't look like a name
keyword_large : (k : Keyword) → looks_small (keyword_word k) ≡ false
unfolding names_item names_part names_connective names_operator names_run
keyword_large K.True = refl
keyword_large K.False = refl
keyword_large K.Not = refl
keyword_large K.And = refl
keyword_large K.Or = refl
keyword_large K.Implies = refl
keyword_large K.Iff = refl
keyword_large K.All = refl
keyword_large K.Some = refl
keyword_large K.Always = refl
keyword_large K.Eventually = refl
keyword_large K.Equals = refl

small_no_keyword : (text : List ℕ) → looks_small text ≡ true → keyword_of text ≡ None
small_no_keyword text e = go (keyword_of text) refl where
  go : (o : Option Keyword) → keyword_of text ≡ o → o ≡ None
  go None h = refl
  go (Some k) h = let z : true ≡ false = sym e ∙ ap looks_small (keyword_is text k h) ∙ keyword_large k in absurd cc

module _ (k : Known) (role : Role) where
  -- the word is read as this, freely
  pub record Read (at : ℕ) (text : List ℕ) (said : Said) : Type 0 where
    pub free : speaks k role at text ≡ done (Some (freely said))
    pub plain : keyword_of text ≡ None

  -- a word of the monitor
  monitor_read : (at : ℕ) (said : Said) (r : Role) → is_invariant r ≡ true → monitor_word r at (Some said) ≡ done (Some (freely said))
  monitor_read at said R.Invariant e = refl
  monitor_read at said R.Axiom e = absurd cc
  monitor_read at said R.State e = absurd cc
  monitor_read at said R.Path e = absurd cc
  monitor_read at said R.Witness e = absurd cc

  dotted_read : (at : ℕ) (text : List ℕ) (said : Said) → is_invariant role ≡ true → family_of text ≡ Fam.Dotted → dotted_said k text ≡ Some said → keyword_of text ≡ None → Read at text said
  unfolding speaks
  dotted_read at text said i f e plain = record { free = rw (f, e) (monitor_read at said role i); plain = plain }

  pub says_read : (at : ℕ) (text : List ℕ) (said : Said) → Says k role text said → Read at text said
  unfolding speaks family_of dotted_said constant_keyword connective_keyword
  says_read at text said (own_relation small e may) = record { free = rw (small_family text small, e, may) refl; plain = small_no_keyword text small }
  says_read at text said (own_constant small e may) = record { free = rw (small_family text small, e, may) refl; plain = small_no_keyword text small }
  says_read at text said (witness small e may) = record { free = rw (small_family text small, e, may) refl; plain = small_no_keyword text small }
  says_read at text said (label small e may) = record { free = rw (small_family text small, e, may) refl; plain = small_no_keyword text small }
  says_read at text said (frozen t i) = record { free = rw t (monitor_read at said role i); plain = rw t refl }
  says_read at text said (saved t i) = record { free = rw t (monitor_read at said role i); plain = rw t refl }
  says_read at text said (touched name t e i) = dotted_read at text said i (rw t refl) (rw (t, e) refl) (rw t refl)
  says_read at text said (kept name t e i) = dotted_read at text said i (rw t refl) (rw (t, e) refl) (rw t refl)
  says_read at text said (due name t e i) = dotted_read at text said i (rw t refl) (rw (t, e) refl) (rw t refl)
  says_read at text said (due_label name t e i) = dotted_read at text said i (rw t refl) (rw (t, e) refl) (rw t refl)
  says_read at text said (copy_relation name t e i) = dotted_read at text said i (rw t refl) (rw (t, e) refl) (rw t refl)
  says_read at text said (copy_constant name t e i) = dotted_read at text said i (rw t refl) (rw (t, e) refl) (rw t refl)
  says_read at text said (copy_label name t e i) = dotted_read at text said i (rw t refl) (rw (t, e) refl) (rw t refl)

  pub relation_again : (at : ℕ) (text : List ℕ) (sym : Sym) (sorts : List SortId) → Says k role text (Relation sym sorts) → relation_at k role at text ≡ done (record { sym = sym; sorts = sorts })
  unfolding relation_at
  relation_again at text sym sorts s = rw (says_read at text (Relation sym sorts) s).free refl

  pub constant_again : (at : ℕ) (text : List ℕ) (sym : Sym) (sort : SortId) → Says k role text (Constant sym sort) → constant_at k role at text ≡ done (sym, sort)
  unfolding constant_at
  constant_again at text sym sort s = rw (says_read at text (Constant sym sort) s).free refl

-- ---- the names of sorts

pub sort_name_again : (k : Known) (s : SortId) (t : Tree) → IsSortName k s t → sort_in k t ≡ done s
unfolding sort_in
sort_name_again k s t is = let w = word_again t is.text is.word in rw (w.1, small_family is.text is.small, is.is) refl

-- ---- families of terms' words

abbrev pub not_variable : Family → Bool
not_variable Fam.Variable = false
not_variable Fam.Frozen = true
not_variable Fam.Saved = true
not_variable Fam.Dotted = true
not_variable Fam.Name = true
not_variable Fam.Other = true

pub says_no_variable : (k : Known) (role : Role) (text : List ℕ) (said : Said) → Says k role text said → not_variable (family_of text) ≡ true
unfolding family_of
says_no_variable k role text said (own_relation small e may) = ap not_variable (small_family text small)
says_no_variable k role text said (own_constant small e may) = ap not_variable (small_family text small)
says_no_variable k role text said (witness small e may) = ap not_variable (small_family text small)
says_no_variable k role text said (label small e may) = ap not_variable (small_family text small)
says_no_variable k role text said (frozen t i) = rw t refl
says_no_variable k role text said (saved t i) = rw t refl
says_no_variable k role text said (touched name t e i) = rw t refl
says_no_variable k role text said (kept name t e i) = rw t refl
says_no_variable k role text said (due name t e i) = rw t refl
says_no_variable k role text said (due_label name t e i) = rw t refl
says_no_variable k role text said (copy_relation name t e i) = rw t refl
says_no_variable k role text said (copy_constant name t e i) = rw t refl
says_no_variable k role text said (copy_label name t e i) = rw t refl
