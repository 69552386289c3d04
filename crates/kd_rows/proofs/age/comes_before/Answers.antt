use Rattle.std.proofs.Common.{ap, ◌∙◌}
use Rattle.std.specs.Ordering.{is_lt, ordering_then}
use Rattle.kd_rows.proofs.Ages.{age_key_order}
use Rattle.kd_rows.proofs.age.comes_before.Goals as goal

pub returns : goal.returns
returns c =
    let order = age_key_order c.args.row.now.client c.args.place.now.client.now c.group.result c.args.place.now.group c.left_after.result c.args.place.now.left c.from.result c.args.place.now.address in
    let client = c.as_slice.ensures in
    let group = c.group.ensures in
    let left = c.left_after.ensures in
    let address = c.from.ensures in
    let steps = c.is_lt.ensures ∙ ap is_lt (c.then-2.ensures ∙ ap (λ o. ordering_then o c.cmp-address.result) c.then.ensures) in
    let then_age = c.then-age.ensures in
    let first = c.cmp-client.ensures in
    let second = c.cmp.ensures in
    let third = c.cmp-left.ensures in
    let fourth = c.cmp-address.ensures in
    cc
