use Rattle.std.proofs.Common.{◌≡◌, ◌++◌, option_map, take, drop}
use Rattle.kd_json.specs.Address.{parts_at}
use Rattle.kd_json.proofs.text.address.cut_at.Given as goal

abbrev pub invariant-loop-i : goal.invariant-loop-i
invariant-loop-i l = option_map (λ x. (take l.i l.text ++ x.0, x.1)) (parts_at l.byte (drop l.i l.text)) ≡ parts_at l.byte l.text
