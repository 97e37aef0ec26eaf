-- What a clause sees of an `Env`: the innermost variable's value first, and for how many more there is room.
use Rattle.std.specs.Prelude.{ℕ, List}

pub record Values : Type 0 where
  pub values : List ℕ
  pub room : ℕ
