-- Logs: a further clause, and what their clauses say.
use Rattle.std.proofs.Common.{ℕ, Bool, true, List, [], ◌∷◌, ◌++◌, refl, sym, subst, append_assoc}
use Rattle.std.specs.List.{All, Contains}
use Rattle.std.proofs.lemmas.Bool.{and_from, false≢true}
use Rattle.std.proofs.lemmas.List.{append-nil}
use Rattle.std.proofs.lemmas.List.Elements.{All-weaker, All-contains_itself}
use Rattle.lv_cnf.specs.declared.literal.Lit.{Lit}
use Rattle.lv_cnf.specs.Literals.{clause_truth, clauses_truth, Satisfies, IsImplied}
use Rattle.lv_cnf.specs.Propagation.{Follows}
use Rattle.lv_cnf.specs.Logs.{IsNew, AreNew, AllFollow}
use Rattle.lv_cnf.proofs.Logic.{all_at_member, satisfies_append, true_by_following}

pub AreNew-push : (earlier log : List (List Lit)) (clause : List Lit) → AreNew earlier log → IsNew (earlier ++ log) clause → AreNew earlier (log ++ clause ∷ [])
AreNew-push earlier [] clause so new = (rw append-nil at new, tt)
AreNew-push earlier (k ∷ log) clause so new =
    (so.0, AreNew-push (earlier ++ k ∷ []) log clause so.1 (subst (λ all'. IsNew all' clause) (sym (append_assoc earlier (k ∷ []) log)) new))

pub AllFollow-push : (earlier log : List (List Lit)) (clause : List Lit) → AllFollow earlier log → Follows (earlier ++ log) clause → AllFollow earlier (log ++ clause ∷ [])
AllFollow-push earlier [] clause so follows = (rw append-nil at follows, tt)
AllFollow-push earlier (k ∷ log) clause so follows =
    (so.0, AllFollow-push (earlier ++ k ∷ []) log clause so.1 (subst (λ all'. Follows all' clause) (sym (append_assoc earlier (k ∷ []) log)) follows))

-- an assignment that satisfies the clauses satisfies the log
pub log_satisfied : (a : ℕ → Bool) (earlier log : List (List Lit)) → AllFollow earlier log → Satisfies a earlier → Satisfies a log
log_satisfied a earlier [] so h = refl
log_satisfied a earlier (k ∷ log) so h =
    let t = true_by_following a earlier k so.0 h in
    and_from (clause_truth a k) (clauses_truth a log) t
    (log_satisfied a (earlier ++ k ∷ []) log so.1 (satisfies_append a earlier (k ∷ []) h (and_from (clause_truth a k) true t refl)))

pub log_implied : (clauses log : List (List Lit)) → AllFollow clauses log → All (IsImplied clauses) log
log_implied clauses log so =
    All-weaker (Contains log) (IsImplied clauses) (λ c in' a h. all_at_member (clause_truth a) log c in' (log_satisfied a clauses log so h)) log
    (All-contains_itself log)

-- where the empty clause follows from the clauses and the log, no assignment satisfies the clauses
pub no_model : (a : ℕ → Bool) (clauses log : List (List Lit)) → AllFollow clauses log → Follows (clauses ++ log) [] → Satisfies a clauses → ⊥
no_model a clauses log so empty h =
    false≢true (true_by_following a (clauses ++ log) [] empty (satisfies_append a clauses log h (log_satisfied a clauses log so h)))
