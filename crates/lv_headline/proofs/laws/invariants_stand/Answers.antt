use Rattle.lv_headline.proofs.Sound.{spelled_stand}
use Rattle.lv_headline.proofs.Spoken.{invariants_stand}
use Rattle.lv_headline.proofs.laws.invariants_stand.Goals as goal

pub returns : goal.returns
returns c = record { limits = invariants_stand; spelled = spelled_stand }
