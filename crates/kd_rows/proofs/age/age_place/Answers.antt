use Rattle.std.proofs.Common.{arith, rules}
use Rattle.kd_rows.specs.Ages.{key_of_age}
use Rattle.kd_rows.specs.Index.{age_at}
use Rattle.kd_rows.proofs.Keys.{key_place_from}
use Rattle.kd_rows.proofs.age.age_place.Goals as goal

pub returns : goal.returns
returns c = key_place_from (age_at c.args.rows.now.cuts c.args.rows.now.rows) c.args.rows.now.ages (key_of_age c.args.place.now) c.first_past.result c.requires (omega (arith, c.first_past.ensures.in_range, c.ages_len.ensures)) (λ h. search (rules, c.first_past.ensures.before h)) (λ h. search (rules, c.first_past.ensures.past (omega (arith, h, c.ages_len.ensures))))
