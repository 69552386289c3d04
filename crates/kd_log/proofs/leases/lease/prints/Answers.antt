use Rattle.std.proofs.Common.{◌≡◌, sym, ap, ◌∙◌, rules, IsTrue}
use Rattle.std.specs.List.{flat_map}
use Rattle.std.proofs.lemmas.List.{append-nil}
use Rattle.kd_listing.specs.Leases.{lease_line}
use Rattle.kd_text.proofs.Endings.{front_is_line, line_is_front}
use Rattle.kd_log.proofs.Printed.{body, printed}
use Rattle.kd_log.proofs.leases.lease.prints.Goals as goal

pub returns-in-Some : goal.returns-in-Some
returns-in-Some c =
    let lease = c.args.lease.now in
    let whole =
    sym (append-nil (lease_line lease)) ∙ sym (ap (flat_map lease_line) c.from_ref.ensures.value) ∙ sym c.in_ok-text.ensures ∙ sym c.as_bytes.ensures.value
    ∙ c.in-Some.ensures.cases.0 in
    let to : IsTrue c.eq.result → c.in-Some.front.now ≡ c.args.line.now = search rules in
    let from : c.in-Some.front.now ≡ c.args.line.now → IsTrue c.eq.result = search rules in (
      λ same. line_is_front (lease_line lease) (body lease) c.in-Some.front.now c.args.line.now c.in-Some.field-0-0.now (printed lease) whole (to same),
      λ is. from (front_is_line (lease_line lease) c.in-Some.front.now c.args.line.now c.in-Some.field-0-0.now whole is),
    )
