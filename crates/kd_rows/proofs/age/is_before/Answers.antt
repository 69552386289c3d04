use Rattle.std.proofs.Common.{◌≡◌, ℕ, List, ap, subst, sym}
use Rattle.std.specs.Ordering.{is_lt}
use Rattle.kd_rows.specs.Ages.{key_of_age}
use Rattle.kd_rows.specs.Index.{age_of, key_order, order_in}
use Rattle.kd_rows.proofs.Fronts.{age_by_head}
use Rattle.kd_rows.proofs.Keys.{read_key}
use Rattle.kd_rows.proofs.age.is_before.Goals as goal

pub returns-then-other-head : goal.returns-then-other-head
returns-then-other-head c = sym (age_by_head c.args.rows.now.cuts c.args.rows.now.rows _ c.head_by_age-other.result c.args.head c.args.place.now.address c.args.place.now.group c.args.place.now.left c.args.place.now.client.now c.head_by_age-other.ensures c.requires.head c.if-other-head.true)

pub returns : goal.returns
returns c =
    let k : List ℕ × ℕ = key_of_age c.args.place.now in
    let before : c.comes_before.result ≡ is_lt (key_order (age_of c.args.rows.now.cuts c.row_by_age.result.now, c.row_by_age.result.now.address) k) = subst (λ (cuts : List ℕ). c.comes_before.result ≡ is_lt (key_order (age_of cuts c.row_by_age.result.now, c.row_by_age.result.now.address) k)) c.zones.ensures c.comes_before.ensures in
    read_key (age_of c.args.rows.now.cuts) c.args.rows.now.rows c.args.rows.now.ages k c.args.i _ _ c.comes_before.result c.row_by_age.ensures.at (sym (ap (order_in (age_of c.args.rows.now.cuts)) c.row_by_age.ensures.found)) before
