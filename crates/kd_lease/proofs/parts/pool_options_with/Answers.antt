use Rattle.std.proofs.Common.{◌∙◌, ap, sym}
use Rattle.std.specs.Option.{option_copied}
use Rattle.kd_lease.specs.Rules.{asking}
use Rattle.kd_lease.proofs.Keepers.{kept_options}
use Rattle.kd_lease.proofs.parts.pool_options_with.Goals as goal

pub returns-in-Some : goal.returns-in-Some
returns-in-Some c =
    c.pool_options.ensures
    ∙ kept_options (asking c.args.question.now) c.args.subnet.now c.args.address c.in-Some.part.now c.requires.sound c.requires.serves (sym c.keeper_with.ensures ∙ ap option_copied c.in-Some.is)
