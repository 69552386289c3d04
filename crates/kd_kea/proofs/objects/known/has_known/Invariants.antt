use Rattle.std.proofs.Common.{◌≡◌, codes, drop}
use Rattle.kd_kea.specs.Known.{has_word}
use Rattle.kd_kea.proofs.objects.known.has_known.Given as goal

abbrev pub invariant-loop-at : goal.invariant-loop-at
invariant-loop-at l = has_word (codes "KNOWN") (drop l.at l.text) ≡ has_word (codes "KNOWN") l.text
