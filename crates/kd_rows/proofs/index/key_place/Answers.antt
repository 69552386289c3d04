use Rattle.std.proofs.Common.{arith, rules}
use Rattle.kd_rows.specs.Index.{key_at}
use Rattle.kd_rows.proofs.Keys.{key_place_from}
use Rattle.kd_rows.proofs.index.key_place.Goals as goal

pub returns : goal.returns
returns c = key_place_from (key_at c.args.rows.now.rows) c.args.rows.now.index (c.args.client.now, c.args.address) c.first_past.result c.requires (omega (arith, c.first_past.ensures.in_range, c.index_len.ensures)) (λ h. search (rules, c.first_past.ensures.before h)) (λ h. search (rules, c.first_past.ensures.past (omega (arith, h, c.index_len.ensures))))
