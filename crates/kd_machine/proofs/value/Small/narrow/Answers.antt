use Rattle.std.proofs.Common.{◌≤◌, length, slice_range, sym}
use Rattle.kd_machine.proofs.Ranges.{narrowed}
use Rattle.kd_machine.proofs.value.Small.narrow.Goals as goal

pub returns : goal.returns
returns c =
    let within : c.args.to ≤ length (slice_range c.self.inside.bytes c.self.inside.start c.self.inside.end) = rw c.self.view_is c.requires.within in
    rw (sym c.self.view_is) (sym (narrowed c.self.inside.bytes c.self.inside.start c.self.inside.end c.args.from c.args.to c.requires.order within))
