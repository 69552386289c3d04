use Rattle.std.proofs.Common.{◌≡◌, ◌++◌, take}
use Rattle.std.specs.List.{flat_map}
use Rattle.kd_machine.specs.Strings.{byte_digits}
use Rattle.kd_machine.proofs.text.put_behind.Given as goal

abbrev pub invariant-bytes : goal.invariant-bytes
invariant-bytes l = l.out.items ≡ l.fn.out.items ++ flat_map (λ b. l.separator ++ byte_digits b) (take l.byte-index l.bytes)
