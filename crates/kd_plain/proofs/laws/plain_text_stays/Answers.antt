use Rattle.kd_plain.proofs.Already.{plain_stays_without}
use Rattle.kd_plain.proofs.Blanked.{plain_stays}
use Rattle.kd_plain.proofs.laws.plain_text_stays.Goals as goal

pub returns : goal.returns
returns c = record { outside_strings = plain_stays; anywhere = plain_stays_without }
