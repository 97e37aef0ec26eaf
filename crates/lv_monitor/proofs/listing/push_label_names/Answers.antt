use Rattle.std.proofs.Common.{◌≡◌, ◌++◌, OnOk, ap, subst, ◌∙◌}
use Rattle.lv_labels.specs.Problem as problem
use Rattle.lv_monitor.specs.Naming.{name_of}
use Rattle.lv_monitor.proofs.VocabulariesMade.{label_names}
use Rattle.lv_monitor.proofs.listing.push_label_names.Goals as goal

pub returns : goal.returns
returns c = subst (λ ls. OnOk c.push_names.result (c.push_names.new.names.items ≡ c.args.names.now.items ++ ls))
    (ap (λ ls. problem.names_for (name_of c.args.naming) 0 ls) c.as_slice.ensures ∙ label_names (name_of c.args.naming) c.args.parts.now c.args.table.now c.requires) c.push_names.ensures
