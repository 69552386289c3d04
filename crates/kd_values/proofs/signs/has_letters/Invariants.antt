use Rattle.std.proofs.Common.{◌≡◌, drop}
use Rattle.kd_values.specs.Signs.{is_word}
use Rattle.kd_values.proofs.signs.has_letters.Given as goal

abbrev pub invariant-loop-i : goal.invariant-loop-i
invariant-loop-i l = is_word (drop l.i l.word) (drop l.i l.text) ≡ is_word l.word l.text
