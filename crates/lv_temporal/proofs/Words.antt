-- Which symbols the vocabularies of the monitored structure have, and with which sorts.
use Rattle.std.proofs.Common.{◌≡◌, ℕ, zero, suc, ◌+◌, ◌<◌, Bool, true, false, eqb, List, [], ◌∷◌, ◌++◌, length, get_or, Option, Some, None, refl, sym, ap, subst, ◌∙◌, arith, ⊎_elim}
use Rattle.std.specs.List.{All}
use Rattle.std.proofs.lemmas.Bool.{cases_Bool, cond-true, cond-false, eq-eqb, ne_eqb}
use Rattle.std.proofs.lemmas.List.Elements.{All-nil, All-cons}
use Rattle.lv_formula.specs.declared.symbols.SortId.{SortId}
use Rattle.lv_formula.specs.declared.symbols.Sym.{Sym}
use Rattle.lv_formula.specs.declared.symbols.Sym.TheVariants.{Witness, Param}
use Rattle.lv_formula.specs.declared.vocabulary.RelShape.{RelShape}
use Rattle.lv_formula.specs.declared.vocabulary.ConShape.{ConShape}
use Rattle.lv_formula.specs.declared.temporal.Temporal.TheVariants as T
use Rattle.lv_formula.specs.Symbols.{sym_eq, sym_kind}
use Rattle.lv_formula.specs.Vocabulary.{constant_in, relation_in}
use Rattle.lv_system.specs.declared.parts.Symbol.{Symbol}
use Rattle.lv_system.specs.declared.parts.Sort.{Sort}
use Rattle.lv_system.specs.declared.parts.WitnessDecl.{WitnessDecl}
use Rattle.lv_system.specs.Step.{no_symbol}
use Rattle.lv_system.specs.Vocabularies.{constant_if, constant_sort, constants_from, relation_if, relation_sorts, relations_from, witnesses_from}
use Rattle.lv_labels.specs.Problem.{Condition, no_condition, shapes_from}
use Rattle.lv_system.specs.InvariantWords.{sets_from}
use Rattle.lv_labels.specs.Vocabularies.{params_from}

-- ---- lookups in lists that stand behind one another

pub relation-stop : (xs ys : List RelShape) (r : Sym) (sorts : List SortId) → relation_in xs r ≡ Some sorts → relation_in (xs ++ ys) r ≡ Some sorts
relation-stop [] ys r sorts h = cc
relation-stop (x ∷ xs) ys r sorts h = ⊎_elim
    (λ e. rw (e) (sym (cond-true (sym_eq x.sym r) (Some x.sorts) (relation_in xs r) e) ∙ h))
    (λ e. rw (e) (relation-stop xs ys r sorts (sym (cond-false (sym_eq x.sym r) (Some x.sorts) (relation_in xs r) e) ∙ h)))
    (cases_Bool (sym_eq x.sym r))

pub constant-stop : (xs ys : List ConShape) (c : Sym) (s : SortId) → constant_in xs c ≡ Some s → constant_in (xs ++ ys) c ≡ Some s
constant-stop [] ys c s h = cc
constant-stop (x ∷ xs) ys c s h = ⊎_elim
    (λ e. rw (e) (sym (cond-true (sym_eq x.sym c) (Some x.sort) (constant_in xs c) e) ∙ h))
    (λ e. rw (e) (constant-stop xs ys c s (sym (cond-false (sym_eq x.sym c) (Some x.sort) (constant_in xs c) e) ∙ h)))
    (cases_Bool (sym_eq x.sym c))

-- the symbols of one kind are not those of another
abbrev pub HasKind : ℕ → RelShape → Type 0
HasKind k x = sym_kind x.sym ≡ k

abbrev pub HasConstantKind : ℕ → ConShape → Type 0
HasConstantKind k x = sym_kind x.sym ≡ k

other_kind : (a b : Sym) → (sym_kind a ≡ sym_kind b → ⊥) → sym_eq a b ≡ false
unfolding sym_eq
other_kind a b h = rw (ne_eqb (sym_kind a) (sym_kind b) h) refl

abbrev pub NotKind : ℕ → RelShape → Type 0
NotKind k x = sym_kind x.sym ≡ k → ⊥

abbrev pub NotConstantKind : ℕ → ConShape → Type 0
NotConstantKind k x = sym_kind x.sym ≡ k → ⊥

pub relation-skip : (xs ys : List RelShape) (r : Sym) → All (NotKind (sym_kind r)) xs → relation_in (xs ++ ys) r ≡ relation_in ys r
relation-skip [] ys r h = refl
relation-skip (x ∷ xs) ys r h = rw (other_kind x.sym r (h 0 x (omega arith))) (relation-skip xs ys r (λ k d lt. h (suc k) d (omega arith)))

pub constant-skip : (xs ys : List ConShape) (c : Sym) → All (NotConstantKind (sym_kind c)) xs → constant_in (xs ++ ys) c ≡ constant_in ys c
constant-skip [] ys c h = refl
constant-skip (x ∷ xs) ys c h = rw (other_kind x.sym c (h 0 x (omega arith))) (constant-skip xs ys c (λ k d lt. h (suc k) d (omega arith)))

-- ---- what each part of a vocabulary has

relation_if-all : (P : Sym → List SortId → Type 0) (keep : Bool) (name : Sym) (o : Option (List SortId)) (rest : List RelShape)
    → ((sorts : List SortId) → keep ≡ true → o ≡ Some sorts → P name sorts) → All (λ r. P r.sym r.sorts) rest → All (λ r. P r.sym r.sorts) (relation_if keep name o rest)
relation_if-all P keep name None rest h all = all
relation_if-all P true name (Some sorts) rest h all = All-cons (λ r. P r.sym r.sorts) _ rest (h sorts refl refl) all
relation_if-all P false name (Some sorts) rest h all = all

constant_if-all : (P : Sym → SortId → Type 0) (keep : Bool) (name : Sym) (o : Option SortId) (rest : List ConShape)
    → ((s : SortId) → keep ≡ true → o ≡ Some s → P name s) → All (λ c. P c.sym c.sort) rest → All (λ c. P c.sym c.sort) (constant_if keep name o rest)
constant_if-all P keep name None rest h all = all
constant_if-all P true name (Some s) rest h all = All-cons (λ c. P c.sym c.sort) _ rest (h s refl refl) all
constant_if-all P false name (Some s) rest h all = all

-- what holds of each relation among the symbols holds of the vocabulary's part that they make
pub relations_from-all : (P : Sym → List SortId → Type 0) (test : Symbol → Bool) (name : ℕ → Sym) (n : ℕ) (ss : List Symbol)
    → ((i : ℕ) (sorts : List SortId) → i < length ss → test (get_or ss i no_symbol) ≡ true → relation_sorts (get_or ss i no_symbol).shape ≡ Some sorts → P (name (n + i)) sorts)
    → All (λ r. P r.sym r.sorts) (relations_from test name n ss)
relations_from-all P test name n [] h = All-nil (λ r. P r.sym r.sorts)
relations_from-all P test name n (s ∷ ss) h = relation_if-all P (test s) (name n) (relation_sorts s.shape) (relations_from test name (suc n) ss)
    (λ sorts k is. let here : n + 0 ≡ n = omega arith in subst (λ j. P (name j) sorts) here (h 0 sorts (omega arith) k is))
    (relations_from-all P test name (suc n) ss (λ i sorts l k is. let there : n + suc i ≡ suc n + i = omega arith in subst (λ j. P (name j) sorts) there (h (suc i) sorts (omega arith) k is)))

pub constants_from-all : (P : Sym → SortId → Type 0) (test : Symbol → Bool) (name : ℕ → Sym) (n : ℕ) (ss : List Symbol)
    → ((i : ℕ) (sort : SortId) → i < length ss → test (get_or ss i no_symbol) ≡ true → constant_sort (get_or ss i no_symbol).shape ≡ Some sort → P (name (n + i)) sort)
    → All (λ c. P c.sym c.sort) (constants_from test name n ss)
constants_from-all P test name n [] h = All-nil (λ c. P c.sym c.sort)
constants_from-all P test name n (s ∷ ss) h = constant_if-all P (test s) (name n) (constant_sort s.shape) (constants_from test name (suc n) ss)
    (λ sort k is. let here : n + 0 ≡ n = omega arith in subst (λ j. P (name j) sort) here (h 0 sort (omega arith) k is))
    (constants_from-all P test name (suc n) ss (λ i sort l k is. let there : n + suc i ≡ suc n + i = omega arith in subst (λ j. P (name j) sort) there (h (suc i) sort (omega arith) k is)))

pub shapes_from-all : (P : Sym → List SortId → Type 0) (name : ℕ → Sym) (n : ℕ) (cs : List Condition)
    → ((i : ℕ) → i < length cs → P (name (n + i)) (get_or cs i no_condition).sorts) → All (λ r. P r.sym r.sorts) (shapes_from name n cs)
shapes_from-all P name n [] h = All-nil (λ r. P r.sym r.sorts)
shapes_from-all P name n (c ∷ cs) h = All-cons (λ r. P r.sym r.sorts) _ _
    (let here : n + 0 ≡ n = omega arith in subst (λ j. P (name j) c.sorts) here (h 0 (omega arith)))
    (shapes_from-all P name (suc n) cs (λ i l. let there : n + suc i ≡ suc n + i = omega arith in subst (λ j. P (name j) (get_or cs i no_condition).sorts) there (h (suc i) (omega arith))))

pub sets_from-all : (P : Sym → List SortId → Type 0) (name : SortId → Sym) (n : ℕ) (ss : List Sort)
    → ((i : ℕ) → i < length ss → P (name (record { 0 = n + i })) (record { 0 = n + i } ∷ [])) → All (λ r. P r.sym r.sorts) (sets_from name n ss)
sets_from-all P name n [] h = All-nil (λ r. P r.sym r.sorts)
sets_from-all P name n (s ∷ ss) h = All-cons (λ r. P r.sym r.sorts) _ _
    (let here : n + 0 ≡ n = omega arith in subst (λ j. P (name (record { 0 = j })) (record { 0 = j } ∷ [])) here (h 0 (omega arith)))
    (sets_from-all P name (suc n) ss (λ i l. let there : n + suc i ≡ suc n + i = omega arith in subst (λ j. P (name (record { 0 = j })) (record { 0 = j } ∷ [])) there (h (suc i) (omega arith))))

abbrev pub no_sort_id : SortId
no_sort_id = record { 0 = 0 }

pub params_from-all : (P : Sym → SortId → Type 0) (n : ℕ) (ss : List SortId)
    → ((i : ℕ) → i < length ss → P (Param (n + i)) (get_or ss i no_sort_id)) → All (λ c. P c.sym c.sort) (params_from n ss)
params_from-all P n [] h = All-nil (λ c. P c.sym c.sort)
params_from-all P n (s ∷ ss) h = All-cons (λ c. P c.sym c.sort) _ _
    (let here : n + 0 ≡ n = omega arith in subst (λ j. P (Param j) s) here (h 0 (omega arith)))
    (params_from-all P (suc n) ss (λ i l. let there : n + suc i ≡ suc n + i = omega arith in subst (λ j. P (Param j) (get_or ss i no_sort_id)) there (h (suc i) (omega arith))))

abbrev pub no_witness_decl : WitnessDecl
no_witness_decl = record { name = []; sort = no_sort_id; formula = T.True }

pub witnesses_from-all : (P : Sym → SortId → Type 0) (n : ℕ) (ws : List WitnessDecl)
    → ((i : ℕ) → i < length ws → P (Witness (n + i)) (get_or ws i no_witness_decl).sort) → All (λ c. P c.sym c.sort) (witnesses_from n ws)
witnesses_from-all P n [] h = All-nil (λ c. P c.sym c.sort)
witnesses_from-all P n (w ∷ ws) h = All-cons (λ c. P c.sym c.sort) _ _
    (let here : n + 0 ≡ n = omega arith in subst (λ j. P (Witness j) w.sort) here (h 0 (omega arith)))
    (witnesses_from-all P (suc n) ws (λ i l. let there : n + suc i ≡ suc n + i = omega arith in subst (λ j. P (Witness j) (get_or ws i no_witness_decl).sort) there (h (suc i) (omega arith))))

-- ---- what each part finds

relation_if-here : (name r : Sym) (o : Option (List SortId)) (rest : List RelShape) (sorts : List SortId) → o ≡ Some sorts → sym_eq name r ≡ true → relation_in (relation_if true name o rest) r ≡ Some sorts
relation_if-here name r None rest sorts is e = cc
relation_if-here name r (Some ss) rest sorts is e = rw (e) is

relation_if-there : (keep : Bool) (name r : Sym) (o : Option (List SortId)) (rest : List RelShape) → sym_eq name r ≡ false → relation_in (relation_if keep name o rest) r ≡ relation_in rest r
relation_if-there keep name r None rest e = refl
relation_if-there true name r (Some ss) rest e = rw (e) refl
relation_if-there false name r (Some ss) rest e = refl

constant_if-here : (name c : Sym) (o : Option SortId) (rest : List ConShape) (sort : SortId) → o ≡ Some sort → sym_eq name c ≡ true → constant_in (constant_if true name o rest) c ≡ Some sort
constant_if-here name c None rest sort is e = cc
constant_if-here name c (Some s) rest sort is e = rw (e) is

constant_if-there : (keep : Bool) (name c : Sym) (o : Option SortId) (rest : List ConShape) → sym_eq name c ≡ false → constant_in (constant_if keep name o rest) c ≡ constant_in rest c
constant_if-there keep name c None rest e = refl
constant_if-there true name c (Some s) rest e = rw (e) refl
constant_if-there false name c (Some s) rest e = refl

-- the name of a number is that number's alone
abbrev pub IsNaming : (ℕ → Sym) → Type 0
IsNaming name = (a b : ℕ) → sym_eq (name a) (name b) ≡ eqb a b

pub relation-from : (test : Symbol → Bool) (name : ℕ → Sym) → IsNaming name → (n : ℕ) (ss : List Symbol) (i : ℕ) (sorts : List SortId) → i < length ss
    → test (get_or ss i no_symbol) ≡ true → relation_sorts (get_or ss i no_symbol).shape ≡ Some sorts → relation_in (relations_from test name n ss) (name (n + i)) ≡ Some sorts
relation-from test name naming n [] i sorts l k is = absurd (omega arith)
relation-from test name naming n (s ∷ ss) zero sorts l k is = rw (k) (relation_if-here (name n) (name (n + 0)) (relation_sorts s.shape) (relations_from test name (suc n) ss) sorts is (naming n (n + 0) ∙ eq-eqb n (n + 0) (omega arith)))
relation-from test name naming n (s ∷ ss) (suc i) sorts l k is =
    relation_if-there (test s) (name n) (name (n + suc i)) (relation_sorts s.shape) (relations_from test name (suc n) ss) (naming n (n + suc i) ∙ ne_eqb n (n + suc i) (λ e. omega (arith, e)))
    ∙ let there : n + suc i ≡ suc n + i = omega arith in ap (λ j. relation_in (relations_from test name (suc n) ss) (name j)) there
    ∙ relation-from test name naming (suc n) ss i sorts (omega arith) k is

pub constant-from : (test : Symbol → Bool) (name : ℕ → Sym) → IsNaming name → (n : ℕ) (ss : List Symbol) (i : ℕ) (sort : SortId) → i < length ss
    → test (get_or ss i no_symbol) ≡ true → constant_sort (get_or ss i no_symbol).shape ≡ Some sort → constant_in (constants_from test name n ss) (name (n + i)) ≡ Some sort
constant-from test name naming n [] i sort l k is = absurd (omega arith)
constant-from test name naming n (s ∷ ss) zero sort l k is = rw (k) (constant_if-here (name n) (name (n + 0)) (constant_sort s.shape) (constants_from test name (suc n) ss) sort is (naming n (n + 0) ∙ eq-eqb n (n + 0) (omega arith)))
constant-from test name naming n (s ∷ ss) (suc i) sort l k is =
    constant_if-there (test s) (name n) (name (n + suc i)) (constant_sort s.shape) (constants_from test name (suc n) ss) (naming n (n + suc i) ∙ ne_eqb n (n + suc i) (λ e. omega (arith, e)))
    ∙ let there : n + suc i ≡ suc n + i = omega arith in ap (λ j. constant_in (constants_from test name (suc n) ss) (name j)) there
    ∙ constant-from test name naming (suc n) ss i sort (omega arith) k is

pub shape-from : (name : ℕ → Sym) → IsNaming name → (n : ℕ) (cs : List Condition) (i : ℕ) → i < length cs → relation_in (shapes_from name n cs) (name (n + i)) ≡ Some (get_or cs i no_condition).sorts
shape-from name naming n [] i l = absurd (omega arith)
shape-from name naming n (c ∷ cs) zero l = rw (naming n (n + 0) ∙ eq-eqb n (n + 0) (omega arith)) refl
shape-from name naming n (c ∷ cs) (suc i) l = rw (naming n (n + suc i) ∙ ne_eqb n (n + suc i) (λ e. omega (arith, e)))
    (let there : n + suc i ≡ suc n + i = omega arith in ap (λ j. relation_in (shapes_from name (suc n) cs) (name j)) there ∙ shape-from name naming (suc n) cs i (omega arith))

pub set-from : (name : SortId → Sym) → IsNaming (λ n. name (record { 0 = n })) → (n : ℕ) (ss : List Sort) (i : ℕ) → i < length ss → relation_in (sets_from name n ss) (name (record { 0 = n + i })) ≡ Some (record { 0 = n + i } ∷ [])
set-from name naming n [] i l = absurd (omega arith)
set-from name naming n (s ∷ ss) zero l = rw (naming n (n + 0) ∙ eq-eqb n (n + 0) (omega arith)) (let here : n ≡ n + 0 = omega arith in ap (λ j. Some (record { 0 = j } ∷ [])) here)
set-from name naming n (s ∷ ss) (suc i) l = rw (naming n (n + suc i) ∙ ne_eqb n (n + suc i) (λ e. omega (arith, e)))
    (let there : suc n + i ≡ n + suc i = omega arith in subst (λ j. relation_in (sets_from name (suc n) ss) (name (record { 0 = j })) ≡ Some (record { 0 = j } ∷ [])) there (set-from name naming (suc n) ss i (omega arith)))

pub param-from : (n : ℕ) (ss : List SortId) (i : ℕ) → i < length ss → constant_in (params_from n ss) (Param (n + i)) ≡ Some (get_or ss i no_sort_id)
unfolding sym_eq
param-from n [] i l = absurd (omega arith)
param-from n (s ∷ ss) zero l = rw (eq-eqb n (n + 0) (omega arith)) refl
param-from n (s ∷ ss) (suc i) l = rw (ne_eqb n (n + suc i) (λ e. omega (arith, e)))
    (let there : n + suc i ≡ suc n + i = omega arith in ap (λ j. constant_in (params_from (suc n) ss) (Param j)) there ∙ param-from (suc n) ss i (omega arith))

pub witness-from : (n : ℕ) (ws : List WitnessDecl) (i : ℕ) → i < length ws → constant_in (witnesses_from n ws) (Witness (n + i)) ≡ Some (get_or ws i no_witness_decl).sort
unfolding sym_eq
witness-from n [] i l = absurd (omega arith)
witness-from n (w ∷ ws) zero l = rw (eq-eqb n (n + 0) (omega arith)) refl
witness-from n (w ∷ ws) (suc i) l = rw (ne_eqb n (n + suc i) (λ e. omega (arith, e)))
    (let there : n + suc i ≡ suc n + i = omega arith in ap (λ j. constant_in (witnesses_from (suc n) ws) (Witness j)) there ∙ witness-from (suc n) ws i (omega arith))
