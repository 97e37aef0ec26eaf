use Rattle.std.proofs.Common.{refl}
use Rattle.std.specs.Str.Parse.{ExplainsUnsignedError, HasUnsignedDigitsIfOk, ParsesUnsigned}
use Rattle.clap.specs.Words.{found_of}
use Rattle.lv_command.proofs.CommandLemmas.{places_read}
use Rattle.lv_command.proofs.commands.places.Goals as goal

pub returns : goal.returns
returns c =
    places_read _ (λ u x. ParsesUnsigned 32 10 u x × ExplainsUnsignedError 10 u x × HasUnsignedDigitsIfOk u x) (found_of c.args.matches.now) _ c.get_one.result refl
    c.get_one.ensures.none c.get_one.ensures.value (λ u x g. g.0) c.requires
