use Rattle.std.proofs.Common.{◌≡◌, ◌++◌, length}
use Rattle.kd_kea.specs.OptionText.{test_by_bytes, in_bytes_from}
use Rattle.kd_kea.proofs.objects.option_text.asked_in_bytes.Given as goal

abbrev pub invariant-loop-rest : goal.invariant-loop-rest
invariant-loop-rest l = l.out.items ++ in_bytes_from l.scan.quoted l.scan.pending.now l.rest ≡ test_by_bytes l.text

abbrev pub decreases-loop-rest : goal.decreases-loop-rest
decreases-loop-rest l = length l.rest
