use Rattle.std.proofs.Common.{arith}
use Rattle.std.proofs.lemmas.Result.{err_from_is_err_and}
use Rattle.lv_words.specs.Scopes.{scope_seen}
use Rattle.lv_fault.specs.Seen.{headed_seen}
use Rattle.lv_grammar.specs.ReadFormulas.{formula_of}
use Rattle.lv_words.proofs.Fronts.{goes_on, stops, is_done}
use Rattle.lv_words.proofs.Rooms.{each_split, each_end, room_past, room_word, room_headed, room_headless}
use Rattle.lv_words.proofs.formulas.+formula.Goals as goal

pub all_parts-returns-in_err-f : goal.all_parts-returns-in_err-f
all_parts-returns-in_err-f t c =
    let p = err_from_is_err_and c.from_residual.result c.from_residual.ensures.1 in
    let split = each_split (formula_of c.args.setting.now.known.now c.args.setting.now.role c.args.room c.args.iffs (scope_seen c.args.scope.now)) c.args.items.now c.loop-item.item-index c.item-item.result c.item-item.is (omega arith) in
    rw (p.1, p.2) (stops c.in_err-f.field-0.0 c.loop-item.parts.items _ _ _ _ c.in_err-f.ensures split c.loop-item.invariant)

pub all_parts-loop-item-preserved : goal.all_parts-loop-item-preserved
all_parts-loop-item-preserved t c =
    let split = each_split (formula_of c.args.setting.now.known.now c.args.setting.now.role c.args.room c.args.iffs (scope_seen c.args.scope.now)) c.args.items.now c.loop-item.item-index c.item-item.result c.item-item.is (omega arith) in
    rw (c.in_ok-push.ensures.items, c.in_ok-new.ensures) (goes_on c.loop-item.parts.items c.in_ok-f.f _ _ _ _ c.in_ok-f.ensures split c.loop-item.invariant)

pub all_parts-returns : goal.all_parts-returns
all_parts-returns t c =
    let last = each_end (formula_of c.args.setting.now.known.now c.args.setting.now.role c.args.room c.args.iffs (scope_seen c.args.scope.now)) c.args.items.now c.loop-item.item-index (omega arith) in
    rw c.from_vec.ensures (is_done c.loop-item.parts.items _ _ last c.loop-item.invariant)

pub formula-returns-then-room-eq0 : goal.formula-returns-then-room-eq0
formula-returns-then-room-eq0 t c =
    rw c.refusal.ensures (room_past c.args.setting.now.known.now c.args.setting.now.role c.args.room c.args.iffs (scope_seen c.args.scope.now) c.args.tree.now c.in-Group.at c.in-Group.end c.in-Group.items c.if-room-eq0.true c.in-Group.is)

pub formula-returns-in-Word : goal.formula-returns-in-Word
formula-returns-in-Word t c =
    let e = room_word c.args.setting.now.known.now c.args.setting.now.role c.args.room c.args.iffs (scope_seen c.args.scope.now) c.args.tree.now c.in-Word.at c.in-Word.text c.in-Word.is in
    rw e (rw c.as_slice.ensures at c.word_as_formula.ensures)

pub formula-returns-in_err-list-in-Group : goal.formula-returns-in_err-list-in-Group
formula-returns-in_err-list-in-Group t c =
    let p = err_from_is_err_and c.from_residual.result c.from_residual.ensures.1 in
    rw (p.1, p.2) (room_headless c.in_err-list-in-Group.field-0.0 c.args.setting.now.known.now c.args.setting.now.role c.args.room c.args.iffs (scope_seen c.args.scope.now) c.args.tree.now c.in-Group.at c.in-Group.end c.in-Group.items (omega arith) c.in-Group.is (rw c.as_slice-in-Group.ensures at c.in_err-list-in-Group.ensures))

pub formula-returns-in_ok-list-in-Group : goal.formula-returns-in_ok-list-in-Group
formula-returns-in_ok-list-in-Group t c =
    let e = room_headed c.args.setting.now.known.now c.args.setting.now.role c.args.room c.args.iffs (scope_seen c.args.scope.now) c.args.tree.now c.in-Group.at c.in-Group.end c.in-Group.items (headed_seen c.in_ok-list-in-Group.list) (omega arith) c.in-Group.is (rw c.as_slice-in-Group.ensures at c.in_ok-list-in-Group.ensures) in
    rw e c.listed.ensures
