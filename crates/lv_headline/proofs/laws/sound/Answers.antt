use Rattle.lv_headline.proofs.Sound.{system_holds, text_holds, text_proved}
use Rattle.lv_headline.proofs.laws.sound.Goals as goal

pub returns : goal.returns
returns c = record { systems = system_holds; texts = text_holds; proved = text_proved }
