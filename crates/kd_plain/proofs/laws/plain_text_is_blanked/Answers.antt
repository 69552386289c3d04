use Rattle.kd_plain.proofs.Blanked.{plain_has_length, plain_is_blanked}
use Rattle.kd_plain.proofs.laws.plain_text_is_blanked.Goals as goal

pub returns : goal.returns
returns c = record { blanked = plain_is_blanked; length = plain_has_length }
