-- Propositions that are made of others.
use Rattle.std.proofs.Common.{◌≡◌, List, sym, ap, ◌∙◌}
use Rattle.lv_cnf.specs.declared.literal.Lit.{Lit}
use Rattle.lv_cnf.specs.declared.prop.Prop.{Prop}
use Rattle.lv_cnf.specs.declared.prop.Prop.TheFolds.{fold-roll-Prop}
use Rattle.lv_cnf.specs.declared.prop.Prop.TheOpen as open_
use Rattle.lv_cnf.specs.declared.prop.Prop.TheVariants.{True, False, Lit as LitAt, And, Or, rolls-True, rolls-False, rolls-Lit, rolls-And, rolls-Or}
use Rattle.lv_cnf.specs.Nodes.{PlainProp, PTrue, PFalse, PLit, PAnd, POr, plain, plains, plain_step}

pub plain_true : plain True ≡ PTrue
plain_true = ap plain (sym rolls-True) ∙ fold-roll-Prop PlainProp plain_step open_.True

pub plain_false : plain False ≡ PFalse
plain_false = ap plain (sym rolls-False) ∙ fold-roll-Prop PlainProp plain_step open_.False

pub plain_lit : (l : Lit) → plain (LitAt l) ≡ PLit l
plain_lit l = ap plain (sym (rolls-Lit l)) ∙ fold-roll-Prop PlainProp plain_step (open_.Lit l)

pub plain_and : (ps : List Prop) → plain (And ps) ≡ PAnd (plains ps)
plain_and ps = ap plain (sym (rolls-And ps)) ∙ fold-roll-Prop PlainProp plain_step (open_.And ps)

pub plain_or : (ps : List Prop) → plain (Or ps) ≡ POr (plains ps)
plain_or ps = ap plain (sym (rolls-Or ps)) ∙ fold-roll-Prop PlainProp plain_step (open_.Or ps)
