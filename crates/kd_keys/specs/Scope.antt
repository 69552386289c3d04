-- Where options are read: helpers of private contracts only.
use Rattle.std.specs.Prelude.{List, ◌++◌}
use Rattle.kd_keys.specs.declared.definition.DefinedOption.{DefinedOption}
use Rattle.kd_keys.specs.declared.scope.OptionScope.{OptionScope}

-- the definitions that count, those of a class first
abbrev pub definitions_in : OptionScope → List DefinedOption
definitions_in scope = scope.own.now ++ scope.shared.now
