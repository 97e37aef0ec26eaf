use Rattle.std.proofs.Common.{subst, sym, ◌∙◌, arith}
use Rattle.lv_fault.specs.Given.{Gives}
use Rattle.lv_syntax.specs.SectionsSeen.{section_seen}
use Rattle.lv_syntax.proofs.SectionTurns.{end_at, turn_at}
use Rattle.lv_syntax.proofs.sections.+section_behind.Goals as goal

pub returns-in-empty : goal.returns-in-empty
returns-in-empty g t c = let lt = c.in-empty.len_below in end_at g.K.Items.kind c.args.room c.args.known.now c.args.items c.args.trees.now (omega (arith, lt))

pub returns-in_ok-push-in-len1-up : goal.returns-in_ok-push-in-len1-up
returns-in_ok-push-in-len1-up g t c =
    let le = c.in-len1-up.len_at_least in
    subst (Gives (section_seen c.section_behind.new.known) c.section_behind.result)
    (sym (turn_at g.K.Items.kind c.args.room c.args.known.now c.args.items c.args.trees.now c.tree-item.result _ _ c.tree-item.is (omega (arith, le)) (sym c.begins.ensures ∙ c.if-not-begins.false) c.if-room-eq0.false
    c.in_ok-next-in-len1-up.ensures)) (rw c.in_ok-push-in-len1-up.ensures.added at c.section_behind.ensures)
