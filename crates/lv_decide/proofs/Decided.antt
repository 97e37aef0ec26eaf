-- What the solver's answer on the ground clauses says of the sentences.
use Rattle.std.proofs.Common.{◌≡◌, ℕ, zero, suc, ◌+◌, ◌<◌, ◌≤◌, ◌^◌, true, List, [], ◌∷◌, length, get_or, Some, None, Ok, Err, refl, sym, ap, ◌∙◌, subst, arith}
use Rattle.std.specs.Prelude.{slice_get}
use Rattle.std.specs.List.{All}
use Rattle.std.proofs.lemmas.Bool.{cases_lt}
use Rattle.std.proofs.lemmas.List.{get_or_past}
use Rattle.lv_formula.specs.declared.symbols.SortId.{SortId}
use Rattle.lv_formula.specs.declared.vocabulary.Sentences.{Sentences}
use Rattle.lv_formula.specs.declared.vocabulary.Vocabulary.{Vocabulary}
use Rattle.lv_formula.specs.Pairs.{SentencesFit, breaks}
use Rattle.lv_formula.specs.Vocabulary as vocabularies
use Rattle.lv_cnf.specs.declared.clause.Clauses.{Clauses}
use Rattle.lv_cnf.specs.Literals.{IsSatisfiable}
use Rattle.lv_cnf.specs.Nodes.{clauses_of, inners, plains}
use Rattle.lv_places.specs.declared.grounded.Grounded.{Grounded}
use Rattle.lv_places.specs.declared.skolem.Place.{Place}
use Rattle.lv_places.specs.declared.skolem.Skolem.{Skolem}
use Rattle.lv_places.specs.declared.terms.GroundTerm.{GroundTerm}
use Rattle.lv_places.specs.Grounds.{IsGrounded}
use Rattle.lv_places.specs.Sizes.{IsCount, limit, size_of}
use Rattle.lv_places.specs.SortGraphs.{SortsBelow}
use Rattle.lv_places.specs.Universes.{IsUniverse, argument_sorts, counts}
use Rattle.lv_places.proofs.Tests.{either}
use Rattle.lv_skolem.specs.Counting.{IsLeast, capped}
use Rattle.lv_skolem.specs.Ranking.{AreInRange}
use Rattle.lv_skolem.specs.Skolems.{IsSkolem}
use Rattle.lv_skolem.proofs.Counts.{counts_same, universe_counts}
use Rattle.lv_skolem.proofs.InRange.{places_in_range}
use Rattle.lv_skolem.proofs.Limits.{size_none, within_counted}
use Rattle.lv_instances.proofs.Few.{ground_forms_are_small}
use Rattle.lv_instances.proofs.Law.{structures_give_assignments}
use Rattle.lv_struct.specs.Tables.{HasVocabulary, IsSound, Tables, meaning, size_in}
use Rattle.lv_decide.specs.Decisions.{AreGroundClauses, IsBreaking, IsUnbroken}
use Rattle.lv_decide.specs.Fragments.{IsSmall, IsStratified}
use Rattle.lv_decide.proofs.SkolemForms.{grounded_told, rank_is, universe_told, within}

arguments_at : (n : ℕ) (ps : List Place) (k : ℕ) (p : Place) → AreInRange n ps → slice_get ps k ≡ Some p → SortsBelow n (argument_sorts p)
arguments_at n [] k p h e = absurd (cc)
arguments_at n (q ∷ ps) zero p h e = let is : q ≡ p = cc in subst (λ (x : Place). SortsBelow n (argument_sorts x)) is h.1
arguments_at n (q ∷ ps) (suc k) p h e = arguments_at n ps k p h.2 e

get_or_any : (xs : List ℕ) (k d e : ℕ) → k < length xs → get_or xs k d ≡ get_or xs k e
get_or_any [] k d e l = absurd (omega arith)
get_or_any (x ∷ xs) zero d e l = refl
get_or_any (x ∷ xs) (suc k) d e l = get_or_any xs k d e (omega arith)

module _ (voc : Vocabulary) (s : Sentences) (sk : Skolem) (sound : vocabularies.IsSound voc) (fit : SentencesFit voc s) (is : IsSkolem voc s sk)
    (stratified : IsStratified s) (small : IsSmall voc s) (u : List (List GroundTerm)) (universe : IsUniverse sk u) where
  sorts_below : (k : ℕ) (p : Place) → slice_get sk.places k ≡ Some p → SortsBelow sk.sorts (argument_sorts p)
  sorts_below k p e =
      let there : slice_get _ k ≡ Some p = sym (ap (λ l. slice_get l k) is.places) ∙ e in
      subst (λ n. SortsBelow n (argument_sorts p)) (sym is.sorts) (arguments_at voc.sorts _ k p (places_in_range voc s fit) there)

  -- the terms can be counted in one way
  same : (m : SortId → ℕ) → IsCount sk m → (x : SortId) → x.0 < sk.sorts → counts u x ≡ m x
  same m h x l =
      let r = rank_is voc s sk is stratified in
      counts_same sk r.0 r.1 sorts_below (counts u) m (universe_counts sk u universe) h x l

  few_terms : (x : SortId) → x.0 < sk.sorts → counts u x < 160
  few_terms x l =
      either (cases_lt (counts u x) 160) (λ few. few)
      (λ many. absurd (within_counted sk (within voc s sk is small) (λ m h. (x, l, (let e = same m h x l in omega arith)))))

  least : IsLeast sk (counts u)
  least m h x =
      either (cases_lt x.0 sk.sorts)
      (λ l. let e = same m h x l in omega arith)
      (λ ge. let e = ap length (get_or_past u x.0 [] (omega (arith, universe.sorts))) in omega arith)

  size_is_small : size_of sk (counts u) ≤ limit
  size_is_small =
      either (cases_lt limit (size_of sk (counts u)))
      (λ l. absurd (let w = within voc s sk is small in
      let big = size_none sk (counts u) (capped (size_of sk (counts u))) least refl (omega arith) w.0 w.1 in
      let bound = w.2 in
      omega arith))
      (λ le. le)

  module _ (g : Grounded) (grounded : IsGrounded sk u g) where
    pub few_variables : length g.atoms + inners (plains g.roots) < 2 ^ 32
    few_variables = let l = ground_forms_are_small sk u g grounded in let b = size_is_small in omega arith

    -- no assignment, no structure
    pub unbroken : (c : Clauses) → c.list ≡ clauses_of (length g.atoms) (plains g.roots) g.equalities → (IsSatisfiable c.list → ⊥) → IsUnbroken voc s
    unbroken c e none m structure h =
        let r = rank_is voc s sk is stratified in
        none (subst IsSatisfiable (sym e) (structures_give_assignments voc s sk u g r.0 sound fit is r.1 universe grounded m structure h))

    pub ground_clauses_are : (c : Clauses) → c.vars ≡ length g.atoms + inners (plains g.roots)
        → c.list ≡ clauses_of (length g.atoms) (plains g.roots) g.equalities → AreGroundClauses voc s c
    ground_clauses_are c vars list = record {
      terms = u;
      universe = universe_told voc s sk is u universe;
      forms = g;
      grounded = grounded_told voc s sk is u g grounded;
      vars = vars;
      list = list;
    }

  pub breaking : (w : Tables) → IsSound w → HasVocabulary voc w → breaks (meaning w) s ≡ true
      → ((x : SortId) → x.0 < voc.sorts → size_in w x ≤ counts u x) → IsBreaking voc s w
  breaking w well has broken few = record { sound = well; vocabulary = has; broken = broken; few = at_most }
    where
      at_most : All (λ n. n ≤ 256) w.sizes
      at_most k d l =
          let len = has.sorts in
          let n = is.sorts in
          let x : SortId = record { 0 = k } in
          let a = few x (omega arith) in
          let b = few_terms x (omega arith) in
          let e = get_or_any w.sizes k d 1 l in
          omega arith
