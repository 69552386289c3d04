use Rattle.std.proofs.Common.{◌≡◌, take}
use Rattle.std.specs.List.{filter}
use Rattle.kd_fields.specs.HexText.{counts}
use Rattle.kd_fields.proofs.hex_text.without_separators.Given as goal

abbrev pub invariant-loop-b : goal.invariant-loop-b
invariant-loop-b l = l.digits.items ≡ filter counts (take l.b-index l.text)
