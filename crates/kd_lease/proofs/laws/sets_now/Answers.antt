use Rattle.std.proofs.Common.{refl, Some}
use Rattle.kd_lease.proofs.Guards.{guarded}
use Rattle.kd_lease.proofs.laws.sets_now.Goals as goal

pub returns : goal.returns
returns c = λ q type row outcome h. let good = (guarded q type (Some row) outcome h).good row refl in good.changed
