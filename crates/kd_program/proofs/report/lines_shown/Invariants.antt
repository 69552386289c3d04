use Rattle.std.proofs.Common.{◌≡◌, take}
use Rattle.std.specs.Prelude.{string_bytes}
use Rattle.std.specs.List.{flat_map}
use Rattle.kd_program.specs.Report.{IsPlain, plain_byte}
use Rattle.kd_program.proofs.report.lines_shown.Given as goal

abbrev pub invariant-loop-byte : goal.invariant-loop-byte
invariant-loop-byte l = record {
  exact : string_bytes l.shown ≡ flat_map plain_byte (take l.byte-index l.text);
  plain : IsPlain (string_bytes l.shown);
}
