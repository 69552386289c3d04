-- The tests of a configuration's classes are accepted.
use Rattle.std.proofs.Common.{List, [], ◌∷◌}
use Rattle.std.specs.List.{AllByRecursion}
use Rattle.kd_classes.specs.HeldSet.{IsAccepted}
use Rattle.kd_classes.specs.declared.definition.ClassDef.{ClassDef}
use Rattle.kd_config.specs.Laws.{TestsAreAccepted}
use Rattle.kd_config.specs.Sound.{IsClass}

each_accepted : (defs : List ClassDef) → AllByRecursion IsClass defs
    → AllByRecursion IsAccepted defs
each_accepted [] h = tt
each_accepted (def ∷ defs) h = (h.0.test, each_accepted defs h.1)

pub all_accepted : TestsAreAccepted
all_accepted c sound = each_accepted c.classes sound.classes.each
