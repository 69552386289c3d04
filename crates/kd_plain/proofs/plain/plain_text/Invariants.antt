use Rattle.std.proofs.Common.{◌≡◌, length, true}
use Rattle.std.specs.List.{list_any}
use Rattle.kd_plain.specs.Plain.{is_endless, json_bytes, spans, with_zeros}
use Rattle.kd_plain.specs.Output.{json_behind}
use Rattle.kd_plain.proofs.plain.plain_text.Given as goal

abbrev pub invariant-loop-span : goal.invariant-loop-span
invariant-loop-span l = record {
  same : json_behind l.output.bytes.items l.output.comma (with_zeros l.apart (spans l.rest)) ≡ json_bytes (with_zeros true (spans l.text));
  endless : list_any is_endless (spans l.rest) ≡ list_any is_endless (spans l.text);
}

abbrev pub decreases-loop-span : goal.decreases-loop-span
decreases-loop-span l = length l.rest
