use Rattle.std.proofs.Common.{◌≡◌, ◌-◌, ◌∙◌, ap, sym, Some, None, option_copied, slice_get, arith}
use Rattle.std.specs.List.{find}
use Rattle.kd_config.specs.Places.{place_by}
use Rattle.kd_config.specs.Reservation.{earlier, found_if, identified_by}
use Rattle.kd_config.specs.declared.reservation.IdentityKind.TheVariants as kinds
use Rattle.kd_config.proofs.ClientPlaces.{at_place, first_of_client}
use Rattle.kd_config.proofs.reservations.Reservations.of_client.Goals as goal

pub returns-in-Some : goal.returns-in-Some
returns-in-Some c =
    let list = c.self.inside.list.items in
    let is : c.args.self.now ≡ list = sym c.self.view_is in
    let table = c.self.inside.clients in
    let id = option_copied c.args.id in
    let first = first_of_client table list c.self.invariant.1 c.args.mac.now id in
    let place : c.in-Some.place ≡ c.in-Some.place - 0 = omega arith in
    let found : earlier (place_by table kinds.Hardware c.args.mac.now) (found_if (place_by table kinds.ClientId) id) ≡ Some c.in-Some.place =
    ap (λ p. earlier p (found_if (place_by table kinds.ClientId) id)) (sym c.index_of-hardware.ensures) ∙ ap (earlier c.index_of-hardware.result) (sym c.index_of-identifier.ensures) ∙ sym c.earlier_of.ensures ∙ c.in-Some.is in
    c.at.ensures ∙ ap (λ rs. slice_get rs c.in-Some.place) is ∙ ap (slice_get list) place ∙ sym (first ∙ ap (at_place list 0) found) ∙ ap (find (λ r. identified_by c.args.mac.now id r.identity)) (sym is)

pub returns-in-None : goal.returns-in-None
returns-in-None c =
    let list = c.self.inside.list.items in
    let is : c.args.self.now ≡ list = sym c.self.view_is in
    let table = c.self.inside.clients in
    let id = option_copied c.args.id in
    let first = first_of_client table list c.self.invariant.1 c.args.mac.now id in
    let found : earlier (place_by table kinds.Hardware c.args.mac.now) (found_if (place_by table kinds.ClientId) id) ≡ None =
    ap (λ p. earlier p (found_if (place_by table kinds.ClientId) id)) (sym c.index_of-hardware.ensures) ∙ ap (earlier c.index_of-hardware.result) (sym c.index_of-identifier.ensures) ∙ sym c.earlier_of.ensures ∙ c.in-None.is in
    sym (first ∙ ap (at_place list 0) found) ∙ ap (find (λ r. identified_by c.args.mac.now id r.identity)) (sym is)
