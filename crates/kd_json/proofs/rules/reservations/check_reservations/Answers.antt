use Rattle.std.proofs.Common.{map, rules, arith}
use Rattle.std.proofs.lemmas.Grind.{common_steps}
use Rattle.std.proofs.lemmas.Result.{err_from_is_err_and}
use Rattle.indexmap.specs.IndexSet.{keys}
use Rattle.kd_json.specs.Parts.{client_by}
use Rattle.kd_fields.specs.Place.{path_at}
use Rattle.kd_json.proofs.FirstFaults.{all_inside, inside_failed, inside_passed, not_all_inside}
use Rattle.kd_json.proofs.rules.reservations.check_reservations.Goals as goal

pub loop-i-preserved : goal.loop-i-preserved
loop-i-preserved c =
    let at = c.loop-i in
    let this = c.index-reservations-i in
    let made = c.in_ok-check_reservation.ensures in
    let left = inside_passed c.args.prefix (keys c.args.earlier.now) (keys at.earlier)
    (map client_by (keys at.clients)) c.args.reservations.now at.i this.result (omega arith) this.is
    at.invariant.left made.checked in
    record {
      joined = first_of (search rules, grind (arith, common_steps));
      left = rw (made.reserved, made.known) left;
    }

pub returns-in_err-check_reservation-clause-checked : goal.returns-in_err-check_reservation-clause-checked
returns-in_err-check_reservation-clause-checked c =
    let at = c.loop-i in
    let this = c.index-reservations-i in
    let p = err_from_is_err_and c.from_residual.result c.from_residual.ensures.1 in
    rw (p.1, p.2)
    (λ other. not_all_inside c.args.prefix (keys c.args.earlier.now) (keys at.earlier)
    (map client_by (keys at.clients)) c.args.reservations.now at.i this.result (omega arith) this.is
    at.invariant.left (c.in_err-check_reservation.ensures.checked other))

pub returns-in_err-check_reservation-clause-first : goal.returns-in_err-check_reservation-clause-first
returns-in_err-check_reservation-clause-first c =
    let at = c.loop-i in
    let this = c.index-reservations-i in
    let failed = c.in_err-check_reservation.ensures in
    let p = err_from_is_err_and c.from_residual.result c.from_residual.ensures.1 in
    rw (p.1, p.2)
    (λ other. inside_failed c.args.prefix (path_at c.args.at.now) (keys c.args.earlier.now)
    (keys at.earlier) (map client_by (keys at.clients)) c.args.reservations.now at.i this.result _
    (omega arith) this.is at.invariant.joined at.invariant.left (failed.checked other)
    (failed.kind other) (failed.path other))

pub returns-clause-checked : goal.returns-clause-checked
returns-clause-checked c =
    let at = c.loop-i in
    all_inside c.args.prefix (keys c.args.earlier.now) (keys at.earlier)
    (map client_by (keys at.clients)) c.args.reservations.now at.i (omega arith) at.invariant.left
