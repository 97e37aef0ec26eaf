-- The variables that items declare, as they are shown.
use Rattle.std.proofs.Common.{◌≡◌, ℕ, suc, ◌+◌, ◌-◌, ◌^◌, ◌<◌, ◌≤◌, true, leb, List, [], ◌∷◌, ◌++◌, map, reverse, length, refl, sym, ap, subst, ◌∙◌, append_assoc, arith}
use Rattle.std.proofs.lemmas.Bool.{leb-true}
use Rattle.std.proofs.lemmas.List.{append-nil}
use Rattle.std.proofs.lemmas.Grind.{reverse_onto}
use Rattle.lv_tree.specs.declared.tree.Tree.{Tree}
use Rattle.lv_tree.specs.Writing.{bare}
use Rattle.lv_formula.specs.declared.symbols.SortId.{SortId}
use Rattle.lv_system.specs.declared.parts.Parts.{Parts}
use Rattle.lv_grammar.specs.declared.reading.Role.{Role}
use Rattle.lv_grammar.specs.Words.{Variable, are_new_variables}
use Rattle.lv_grammar.specs.Grammar.{Each, nothing, first_and_rest, IsWord}
use Rattle.lv_grammar.specs.Known.{Known}
use Rattle.lv_grammar.specs.Rules.{sorts_of, ArePairs, no_pairs, pairs, AreParameters, AreNames}
use Rattle.lv_grammar.specs.ShownFormulas.{list, variable_name, deeper}
use Rattle.lv_grammar.specs.ShownSystems.{shown_pairs, shown_names, shown_parameters}
use Rattle.lv_grammar.proofs.Likeness.{like_word, like_list, none_like}
use Rattle.lv_layout.proofs.FormulaLaw.{Speaks, binds_shown}
use Rattle.lv_layout.proofs.Variables.{shown_variables, shown_is_new}

-- variables of these sorts in the scope of so many others, the first of them outermost
abbrev pub numbered : ℕ → List SortId → List Variable
numbered depth [] = []
numbered depth (s ∷ ss) = record { name = variable_name depth; sort = s } ∷ numbered (suc depth) ss

cons_reversed : {X : Type 0} (x : X) (xs ys : List X) → reverse (x ∷ xs) ++ ys ≡ reverse xs ++ x ∷ ys
cons_reversed x xs ys = ap (λ l. l ++ ys) (reverse_onto xs x []) ∙ append_assoc (reverse xs) (x ∷ []) ys

-- the variables of a scope and those that are declared in it
pub shown_scope : (xs vs : List Variable) → shown_variables (reverse xs ++ vs) ≡ reverse (numbered (length vs) (sorts_of xs)) ++ shown_variables vs
shown_scope [] vs = refl
shown_scope (x ∷ xs) vs =
    ap shown_variables (cons_reversed x xs vs) ∙ shown_scope xs (x ∷ vs)
    ∙ sym (cons_reversed (record { name = variable_name (length vs); sort = x.sort }) (numbered (suc (length vs)) (sorts_of xs)) (shown_variables vs))

pub scope_length : (xs vs : List Variable) → length (reverse xs ++ vs) ≡ length vs + length (sorts_of xs)
scope_length [] vs = omega arith
scope_length (x ∷ xs) vs = ap length (cons_reversed x xs vs) ∙ scope_length xs (x ∷ vs) ∙ omega arith

pub are_new : (vs : List Variable) (ss : List SortId) → length vs + length ss < 2 ^ 64 → are_new_variables (shown_variables vs) (numbered (length vs) ss) ≡ true
are_new vs [] lt = refl
are_new vs (s ∷ ss) lt =
    rw (shown_is_new vs (omega (arith, lt)), are_new (record { name = variable_name (length vs); sort = s } ∷ vs) ss (omega (arith, lt))) refl

pub sorts_numbered : (depth : ℕ) (ss : List SortId) → sorts_of (numbered depth ss) ≡ ss
sorts_numbered depth [] = refl
sorts_numbered depth (s ∷ ss) = ap (λ l. s ∷ l) (sorts_numbered (suc depth) ss)

length_numbered : (depth : ℕ) (ss : List SortId) → length (numbered depth ss) ≡ length ss
length_numbered depth [] = refl
length_numbered depth (s ∷ ss) = ap suc (length_numbered (suc depth) ss)

length_of_sorts : (xs : List Variable) → length (sorts_of xs) ≡ length xs
length_of_sorts [] = refl
length_of_sorts (x ∷ xs) = ap suc (length_of_sorts xs)

pub pairs_shown : (p : Parts) (k : Known) (role : Role) → Speaks p k role → (vs xs : List Variable) (ts : List Tree) → ArePairs k vs xs ts → length vs + length xs < 2 ^ 64 - 1 → (us : List Tree)
    → map bare us ≡ map bare (shown_pairs p (length vs) (sorts_of xs)) → ArePairs k (shown_variables vs) (numbered (length vs) (sorts_of xs)) us
pairs_shown p k role s vs xs ts no_pairs lt us e = rw (none_like us e) no_pairs
pairs_shown p k role s vs xs ts (pairs binds rest) lt [] e = absurd cc
pairs_shown p k role s vs xs ts (pairs binds rest) lt (u ∷ []) e = absurd cc
pairs_shown p k role s vs xs ts (pairs {x = x} {xs = ys} {v = v} {s = r} {ts = ws} binds rest) lt (u ∷ w ∷ us) e =
    let more : deeper (length vs) ≡ suc (length vs) = omega (arith, lt) in
    let others : map bare us ≡ map bare (shown_pairs p (deeper (length vs)) (sorts_of ys)) = cc in
    pairs (binds_shown p k role s vs x v r u w (omega (arith, lt)) binds (cc) (cc)) (pairs_shown p k role s (x ∷ vs) ys ws rest (omega (arith, lt)) us (others ∙ ap (λ d. map bare (shown_pairs p d (sorts_of ys))) more))

pub names_shown : (depth : ℕ) (ss : List SortId) → depth + length ss < 2 ^ 64 - 1 → (us : List Tree) → map bare us ≡ map bare (shown_names depth ss) → Each (λ x a. IsWord x.name a) (numbered depth ss) us
names_shown depth [] lt us e = rw (none_like us e) nothing
names_shown depth (s ∷ ss) lt [] e = absurd cc
names_shown depth (s ∷ ss) lt (u ∷ us) e =
    let more : deeper depth ≡ suc depth = omega (arith, lt) in
    let rest : map bare us ≡ map bare (shown_names (deeper depth) ss) = cc in
    first_and_rest (like_word u (variable_name depth) (cc)) (names_shown (suc depth) ss (omega (arith, lt)) us (rest ∙ ap (λ d. map bare (shown_names d ss)) more))

pub parameters_shown : (p : Parts) (k : Known) (role : Role) → Speaks p k role → (ss : List SortId) (xs : List Variable) (t u : Tree) → AreParameters k ss xs t → bare u ≡ bare (shown_parameters p ss) → AreParameters k ss (numbered 0 ss) u
parameters_shown p k role s ss xs t u a e =
    let l = like_list u (shown_pairs p 0 ss) e in
    let few = leb-true (length xs) 4 a.few in
    let same : map bare l.own ≡ map bare (shown_pairs p 0 (sorts_of xs)) = l.same ∙ ap (λ z. map bare (shown_pairs p 0 z)) (sym a.ranges) in
    let count : length (numbered 0 ss) ≡ length xs = length_numbered 0 ss ∙ sym (ap length a.ranges) ∙ length_of_sorts xs in
    record {
      items = l.own;
      list = l.is;
      pairs = subst (λ z. ArePairs k [] (numbered 0 z) l.own) a.ranges (pairs_shown p k role s [] xs a.items a.pairs (omega (arith, few)) l.own same);
      few = ap (λ n. leb n 4) count ∙ a.few;
      ranges = sorts_numbered 0 ss;
    }

pub argument_names_shown : (vs : List Variable) (ss : List SortId) → length vs + length ss < 2 ^ 64 - 1 → (u : Tree) → bare u ≡ bare (list (shown_names (length vs) ss)) → AreNames (shown_variables vs) ss (numbered (length vs) ss) u
argument_names_shown vs ss lt u e =
    let l = like_list u (shown_names (length vs) ss) e in
    record { items = l.own; list = l.is; names = names_shown (length vs) ss lt l.own l.same; new = are_new vs ss (omega (arith, lt)); ranges = sorts_numbered (length vs) ss }

-- the scope of an item's parameters
pub record Scoped (xs : List Variable) (ss : List SortId) : Type 0 where
  pub shown : shown_variables (reverse xs) ≡ reverse (numbered 0 ss)
  pub long : length (reverse xs) ≡ length ss

pub scoped : (xs : List Variable) (ss : List SortId) → sorts_of xs ≡ ss → Scoped xs ss
scoped xs ss e =
    record {
      shown = ap shown_variables (sym (append-nil (reverse xs))) ∙ shown_scope xs [] ∙ append-nil (reverse (numbered 0 (sorts_of xs))) ∙ ap (λ l. reverse (numbered 0 l)) e;
      long = ap length (sym (append-nil (reverse xs))) ∙ scope_length xs [] ∙ ap (λ l. 0 + length l) e ∙ omega arith;
    }
