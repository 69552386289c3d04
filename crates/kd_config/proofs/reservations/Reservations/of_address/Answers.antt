use Rattle.std.proofs.Common.{◌≡◌, ◌-◌, ◌∙◌, ap, sym, Some, None, slice_get, arith}
use Rattle.std.specs.List.{find, position_from}
use Rattle.kd_config.specs.Reservation.{has_reserved}
use Rattle.kd_config.proofs.ClientPlaces.{at_place, first_at}
use Rattle.kd_config.proofs.reservations.Reservations.of_address.Goals as goal

pub returns-in-Some : goal.returns-in-Some
returns-in-Some c =
    let a = c.args.address in
    let list = c.self.inside.list.items in
    let place : c.in-Some.place ≡ c.in-Some.place - 0 = omega arith in
    let found : position_from (has_reserved a) 0 list ≡ Some c.in-Some.place =
    sym (c.self.invariant.0 a) ∙ sym c.get.ensures.value ∙ sym c.copied.ensures ∙ c.in-Some.is in
    c.at.ensures ∙ ap (λ rs. slice_get rs c.in-Some.place) (sym c.self.view_is) ∙ ap (slice_get list) place
    ∙ sym (first_at (has_reserved a) 0 list ∙ ap (at_place list 0) found) ∙ ap (find (has_reserved a)) c.self.view_is

pub returns-in-None : goal.returns-in-None
returns-in-None c =
    let a = c.args.address in
    let list = c.self.inside.list.items in
    let found : position_from (has_reserved a) 0 list ≡ None =
    sym (c.self.invariant.0 a) ∙ sym c.get.ensures.value ∙ sym c.copied.ensures ∙ c.in-None.is in
    sym (first_at (has_reserved a) 0 list ∙ ap (at_place list 0) found) ∙ ap (find (has_reserved a)) c.self.view_is
