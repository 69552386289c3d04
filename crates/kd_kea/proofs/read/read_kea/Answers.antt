use Rattle.std.proofs.lemmas.Result.{err_from_is_err_and}
use Rattle.kd_json.proofs.SoundSettings.{accepted_sound}
use Rattle.kd_json.proofs.WhichFault.{first_of_classes}
use Rattle.kd_kea.proofs.SoundKea.{kea_sound}
use Rattle.kd_kea.proofs.Whole.{none_of_kea}
use Rattle.kd_kea.specs.Kea.{kea_settings}
use Rattle.kd_kea.proofs.read.read_kea.Goals as goal

pub config_with-requires-clause-sound : goal.config_with-requires-clause-sound
config_with-requires-clause-sound c =
    (accepted_sound (kea_settings c.args.text.now c.args.server) c.in_ok-settings.settings
    (kea_sound c.args.text.now c.args.server) c.in_ok-settings.ensures.meant).0

pub config_with-requires-clause-stands : goal.config_with-requires-clause-stands
config_with-requires-clause-stands c =
    (accepted_sound (kea_settings c.args.text.now c.args.server) c.in_ok-settings.settings
    (kea_sound c.args.text.now c.args.server) c.in_ok-settings.ensures.meant).1

pub returns-in_err-config_with-clause-first : goal.returns-in_err-config_with-clause-first
returns-in_err-config_with-clause-first c =
    let at = c.from_residual-in_err-config_with in
    let p = err_from_is_err_and at.result at.ensures.1 in
    rw (p.1, p.2)
    (first_of_classes (kea_settings c.args.text.now c.args.server) c.in_ok-settings.settings _
    c.in_ok-settings.ensures.meant)

pub returns-in_err-config_with-clause-refused : goal.returns-in_err-config_with-clause-refused
returns-in_err-config_with-clause-refused c =
    let at = c.from_residual-in_err-config_with in
    let p = err_from_is_err_and at.result at.ensures.1 in
    rw (p.1, p.2)
    (none_of_kea c.args.text.now c.args.server c.in_ok-settings.settings _
    c.in_ok-settings.ensures.meant c.in_err-config_with.ensures.refused)
