use Rattle.std.proofs.Common.{refl}
use Rattle.lv_system.proofs.laws.performed_is_a_step.Goals as goal

pub returns : goal.returns
returns c = λ p a elements m. record { sizes = λ s. refl; relations = λ r tuple. refl; constants = λ c. refl }
