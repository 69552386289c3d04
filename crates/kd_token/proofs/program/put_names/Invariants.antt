use Rattle.std.proofs.Common.{◌≡◌, ◌++◌, ◌∷◌, length, take}
use Rattle.std.specs.List.{flat_map}
use Rattle.kd_token.specs.File.{name_bytes}
use Rattle.kd_token.proofs.program.put_names.Given as goal

abbrev pub invariant-loop-name : goal.invariant-loop-name
invariant-loop-name l = l.out.items ≡ l.fn.out.items ++ (length l.names ∷ flat_map name_bytes (take l.name-index l.names))
