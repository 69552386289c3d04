use Rattle.std.proofs.Common.{rules, ◌≡◌, ◌≤◌, length, Some, IfSome, is_some}
use Rattle.kd_start.specs.Start.{AreOfFolder}
use Rattle.kd_start.proofs.Starting.{fault_of_files, of_files}
use Rattle.kd_start.proofs.start.configuration.Goals as goal

pub returns-in-Some-clause-found : goal.returns-in-Some-clause-found
returns-in-Some-clause-found g c =
    let named : is_some (Some c.as_slice.result.now) ≡ is_some c.args.file = search rules in
    let short : IfSome (Some c.as_slice.result.now) (λ bytes. length bytes ≤ 16777216) = search rules in
    let of_folder : AreOfFolder (is_some c.args.folder) c.deref.result.now = search rules in
    of_files (is_some c.args.file) (is_some c.args.folder) (Some c.as_slice.result.now)
    c.deref.result.now c.config_of.result named short of_folder c.config_of.ensures.found

pub returns-in-Some-clause-refused : goal.returns-in-Some-clause-refused
returns-in-Some-clause-refused g c =
    let named : is_some (Some c.as_slice.result.now) ≡ is_some c.args.file = search rules in
    let short : IfSome (Some c.as_slice.result.now) (λ bytes. length bytes ≤ 16777216) = search rules in
    let of_folder : AreOfFolder (is_some c.args.folder) c.deref.result.now = search rules in
    fault_of_files (is_some c.args.file) (is_some c.args.folder) (Some c.as_slice.result.now)
    c.deref.result.now c.config_of.result named short of_folder c.config_of.ensures.refused
