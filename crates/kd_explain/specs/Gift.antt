-- What classes give to their members. Words for private contracts: no public contract cites them.
use Rattle.std.specs.Prelude.{ℕ, Bool, List, drop, take, is_some}
use Rattle.kd_classes.specs.declared.definition.ClassDef.{ClassDef}
use Rattle.kd_lease.specs.Booting.{class_boots}
use Rattle.kd_lease.specs.Given.{class_options}
use Rattle.kd_lease.specs.Times.{class_lifetime}
use Rattle.kd_explain.specs.BootLines.{one_gives}
use Rattle.kd_explain.specs.Origins.{has_code}
use Rattle.kd_explain.specs.declared.gift.Gift.{Gift}
use Rattle.kd_explain.specs.declared.gift.Gift.TheVariants as gifts

-- one of these classes gives it to a message with these class names
abbrev pub class_among_gives : Gift → List ClassDef → List (List ℕ) → Bool
class_among_gives (gifts.Code code) classes names = has_code code (class_options classes names)
class_among_gives (gifts.Field field) classes names = one_gives field (class_boots classes names)
class_among_gives gifts.Lifetime classes names = is_some (class_lifetime classes names)

-- the class at an index gives it to a message with these class names
abbrev pub class_gives : List ClassDef → List (List ℕ) → Gift → ℕ → Bool
class_gives classes names gift i = class_among_gives gift (take 1 (drop i classes)) names
