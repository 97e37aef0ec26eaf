use Rattle.lv_temporal.proofs.SampleLaws.{links_fit, links_labels, links_reading}
use Rattle.lv_temporal.proofs.laws.two_parts_with_one_label.Goals as goal

pub returns : goal.returns
returns c = record { fits = links_fit; labels = links_labels; reading = links_reading }
