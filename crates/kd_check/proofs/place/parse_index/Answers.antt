use Rattle.std.proofs.Common.{◌≡◌, sym, arith}
use Rattle.std.proofs.lemmas.Bool.Decides.{nat_tests}
use Rattle.fast_float.specs.Text.{scan}
use Rattle.serde_json.specs.Find.{index_of}
use Rattle.kd_check.proofs.place.parse_index.Goals as goal

pub returns-in_err-number : goal.returns-in_err-number
unfolding index_of
returns-in_err-number c =
    let parts : scan c.args.segment.now ≡ c.scan-numeral.result = sym c.scan-numeral.ensures.parts in
    rw parts (grind (arith, nat_tests))

pub returns-then-not-has_zeros : goal.returns-then-not-has_zeros
unfolding index_of
returns-then-not-has_zeros c =
    let parts : scan c.args.segment.now ≡ c.scan-numeral.result = sym c.scan-numeral.ensures.parts in
    rw parts (grind (arith, nat_tests))

pub returns-else-len-segment : goal.returns-else-len-segment
unfolding index_of
returns-else-len-segment c =
    let parts : scan c.args.segment.now ≡ c.scan-numeral.result = sym c.scan-numeral.ensures.parts in
    rw parts (grind (arith, nat_tests))
