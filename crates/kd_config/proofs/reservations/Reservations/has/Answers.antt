use Rattle.std.proofs.Common.{◌∙◌, ap, sym, is_some}
use Rattle.std.specs.List.{list_any}
use Rattle.kd_config.specs.Reservation.{has_reserved}
use Rattle.kd_config.proofs.ClientPlaces.{any_at, copied_some}
use Rattle.kd_config.proofs.reservations.Reservations.has.Goals as goal

pub returns : goal.returns
returns c =
    let a = c.args.address in
    c.is_some.ensures ∙ sym (copied_some c.get.result) ∙ ap is_some (c.get.ensures.value ∙ c.self.invariant.0 a)
    ∙ any_at (has_reserved a) 0 c.self.inside.list.items ∙ ap (list_any (has_reserved a)) c.self.view_is
