use Rattle.std.proofs.Common.{◌≡◌, ◌++◌, ap, subst}
use Rattle.kd_lease.specs.Given.{class_options, given}
use Rattle.kd_lease.specs.Rules.{asking}
use Rattle.kd_lease.specs.Valuing.{HasValues}
use Rattle.kd_lease.proofs.Giving.{all_given}
use Rattle.kd_lease.proofs.given.put_given.Goals as goal

pub put_values-requires : goal.put_values-requires
put_values-requires c =
    let q = asking c.args.question.now in
    let near = c.reservation_options-host.result.now ++ c.pool_options_with-pool.result.now ++ c.part_that_has-part.result.now.options ++ c.part_that_has-part.result.now.shared in
    let classes = class_options c.classes-classes.result.now q.names in
    let one = c.in_ok-values.ensures in
    let two = c.in_ok-put_class_options.ensures near one in
    let three = c.in_ok-put_all.ensures (near ++ classes) two in
    let four = c.in_ok-put.ensures (near ++ classes ++ c.options.result.now) three in
    record { codes = four.codes }

pub returns : goal.returns
returns c =
    let q = asking c.args.question.now in
    let subnet = c.args.subnet.now in
    let address = c.args.address in
    let part = c.part_that_has-part.result.now in
    let pool = c.pool_options_with-pool.result.now in
    let near = c.reservation_options-host.result.now ++ pool ++ part.options ++ part.shared in
    let classes = class_options c.classes-classes.result.now q.names in
    let all = c.options.result.now in
    let one = c.in_ok-values.ensures in
    let two = c.in_ok-put_class_options.ensures near one in
    let three = c.in_ok-put_all.ensures (near ++ classes) two in
    let four = c.in_ok-put.ensures (near ++ classes ++ all) three in
    let held : classes ≡ class_options q.config.classes q.names = ap (λ cs. class_options cs q.names) c.classes-classes.ensures.same in
    c.put_values.ensures
    (given q.config subnet q.names q.message address)
    (subst (λ options. HasValues c.put.new.self.list.items options)
    (all_given q.config subnet part q.names q.message address c.reservation_options-host.result.now pool classes all c.mask_of-mask.result c.reservation_options-host.ensures c.pool_options_with-pool.ensures c.part_that_has-part.ensures held c.options.ensures.same c.mask_of-mask.ensures) four)
