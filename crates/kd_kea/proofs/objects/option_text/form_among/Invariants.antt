use Rattle.std.proofs.Common.{◌≡◌, drop, map, nat_eq}
use Rattle.std.specs.List.{starts_with}
use Rattle.std.specs.Map.{lookup}
use Rattle.kd_kea.specs.OptionText.{form_of}
use Rattle.kd_kea.proofs.objects.option_text.form_among.Given as goal

abbrev pub invariant-loop-asked : goal.invariant-loop-asked
invariant-loop-asked l =
    lookup (starts_with nat_eq l.text) (map form_of l.forms)
    ≡ lookup (starts_with nat_eq l.text) (map form_of (drop l.asked-index l.forms))
