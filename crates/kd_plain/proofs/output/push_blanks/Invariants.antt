use Rattle.std.proofs.Common.{◌≡◌, ◌++◌, take}
use Rattle.kd_plain.specs.Plain.{blanks}
use Rattle.kd_plain.proofs.output.push_blanks.Given as goal

abbrev pub invariant-loop-byte : goal.invariant-loop-byte
invariant-loop-byte l = l.out.items ≡ l.fn.out.items ++ blanks (take l.byte-index l.comment)
