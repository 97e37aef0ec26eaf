use Rattle.std.proofs.Common.{map, string_bytes, ◌∙◌}
use Rattle.lv_command.proofs.CommandLemmas.{is_read_by, mode_at_err, mode_at_ok}
use Rattle.lv_command.proofs.CommandWords.{has_read_numbers, in_range}
use Rattle.lv_command.proofs.commands.mode_of.Goals as goal

pub mode_met-requires : goal.mode_met-requires
mode_met-requires c =
    let tried = c.in-Ok.ensures in
    has_read_numbers _ _ (is_read_by _ (map (λ word. string_bytes word) c.args.words.now) _ c.in_ok-command.ensures tried.matches tried.kinds)

pub returns-in-Ok-clause-mode : goal.returns-in-Ok-clause-mode
returns-in-Ok-clause-mode c =
    let tried = c.in-Ok.ensures in
    c.mode_met.ensures ∙ mode_at_ok _ _ (is_read_by _ (map (λ word. string_bytes word) c.args.words.now) _ c.in_ok-command.ensures tried.matches tried.kinds)

pub returns-in-Ok-clause-range : goal.returns-in-Ok-clause-range
returns-in-Ok-clause-range c = in_range _ _ (returns-in-Ok-clause-mode c)

pub returns : goal.returns
returns c = record {
  mode = mode_at_err _ (map (λ word. string_bytes word) c.args.words.now) c.in-Err.error c.in_ok-command.ensures c.in-Err.ensures.passes (λ wanting. c.in_default.not-OutOfMemory (c.kind.ensures ∙ wanting));
  range = tt;
}
