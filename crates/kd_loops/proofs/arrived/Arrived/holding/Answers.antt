use Rattle.std.proofs.Common.{◌≡◌, ap, arith, length, min, take}
use Rattle.std.proofs.lemmas.Grind.{common_steps}
use Rattle.kd_event.specs.declared.event.Event.{Event}
use Rattle.kd_loops.specs.Arriving.{datagram_room}
use Rattle.kd_loops.proofs.Arrivals.{held_bytes}
use Rattle.kd_loops.proofs.arrived.Arrived.holding.Goals as goal

pub returns : goal.returns
returns c =
    let start : c.extend_from_slice.new.self.items ≡ take c.min-len.result c.args.bytes.now = grind (arith, common_steps) in
    let cut : c.min-len.result ≡ min datagram_room (length c.args.bytes.now) = omega (arith, c.min-len.ensures) in
    ap (λ bytes. let e : Event = record { moment = c.args.moment; bytes = bytes } in e)
    (held_bytes c.args.bytes.now c.extend_from_slice.new.self.items c.resize.new.self.items _ c.min-len.result datagram_room cut start c.in_ok-resize.ensures.items)
