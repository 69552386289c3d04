use Rattle.std.proofs.Common.{subst}
use Rattle.std.proofs.lemmas.Result.{err_from_is_err_and}
use Rattle.kd_json.proofs.SoundSettings.{sound}
use Rattle.kd_json.proofs.WhichFault.{none_of_settings}
use Rattle.kd_json.specs.Configured.{AreDefinitions}
use Rattle.kd_json.proofs.read.config_of.Goals as goal

pub of-requires : goal.of-requires
of-requires c =
    sound c.args.files.now c.args.settings c.in_ok-classes.classes c.requires.sound c.requires.stands
    (subst (λ entries. AreDefinitions c.args.files.now entries c.in_ok-classes.classes) c.into_vec.ensures c.in_ok-classes.ensures.found)
    c.in_ok-classes.ensures.ordered c.in_ok-classes.ensures.accepted

pub returns-in_err-classes-clause-refused : goal.returns-in_err-classes-clause-refused
returns-in_err-classes-clause-refused c =
    let p = err_from_is_err_and c.from_residual.result c.from_residual.ensures.1 in
    rw (p.1, p.2)
    (none_of_settings c.args.files.now c.args.settings c.into_vec.result.items _ c.into_vec.ensures
    c.in_err-classes.ensures.refused)
