use Rattle.std.proofs.Common.{◌≡◌, sym, ◌∙◌, rules, IsTrue}
use Rattle.kd_loops.specs.Text.{line_of}
use Rattle.kd_text.proofs.Endings.{front_is_line, line_is_front}
use Rattle.kd_log.proofs.Written.{body, written}
use Rattle.kd_log.proofs.events.handled.is_written.Goals as goal

pub returns-in-Some : goal.returns-in-Some
returns-in-Some c =
    let handled = c.args.handled.now in
    let whole = sym c.in_ok-text.ensures ∙ sym c.as_slice.ensures.value ∙ c.in-Some.ensures.cases.0 in
    let to : IsTrue c.eq.result → c.in-Some.front.now ≡ c.args.line.now = search rules in
    let from : c.in-Some.front.now ≡ c.args.line.now → IsTrue c.eq.result = search rules in (
      λ same. line_is_front (line_of handled) (body handled) c.in-Some.front.now c.args.line.now c.in-Some.field-0-0.now (written handled) whole (to same),
      λ is. from (front_is_line (line_of handled) c.in-Some.front.now c.args.line.now c.in-Some.field-0-0.now whole is),
    )
