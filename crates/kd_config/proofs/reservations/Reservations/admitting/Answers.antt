use Rattle.std.proofs.Common.{◌≡◌, ◌<◌, ℕ, true, false, Bool, List, Option, Some, ◌∙◌, ap, sym, subst, length, drop, ◌+◌, [], refl, slice_get, vec_len, arith}
use Rattle.std.specs.List.{position_from}
use Rattle.std.specs.Option.{option_copied}
use Rattle.std.proofs.lemmas.Option.{get_or_from_slice_get, slice_get_within}
use Rattle.kd_config.specs.Classed.{classes_admit}
use Rattle.kd_config.specs.Places.{AreFirst, AreNext}
use Rattle.kd_config.specs.Reservation.{is_client_if}
use Rattle.kd_config.specs.declared.reservation.Reservation.{Reservation}
use Rattle.kd_config.proofs.Chains.{From, IsLeft, count_left, fewer_left, from_place, go_on, it_is, found_next, next_there, seek}
use Rattle.kd_config.proofs.ClientPlaces.{found_places}
use Rattle.kd_config.proofs.reservations.Reservations.admitting.Goals as goal

pub loop-found-init : goal.loop-found-init
loop-found-init c =
    let list = c.args.self.now in
    let id = option_copied c.args.bytes in
    let are : AreFirst c.self.inside.clients 0 list = subst (AreFirst c.self.inside.clients 0) c.self.view_is c.self.invariant.1 in
    let place = found_places c.self.inside.clients list are c.args.kind id in
    subst (IsLeft (λ (r : Reservation). is_client_if c.args.kind id r.identity) (λ r. classes_admit r.classes c.args.names.now) list) (sym (c.index_of-found.ensures ∙ place))
    (seek (λ (r : Reservation). is_client_if c.args.kind id r.identity) (λ r. classes_admit r.classes c.args.names.now) [] list refl)

pub index-reservation-requires : goal.index-reservation-requires
index-reservation-requires c =
    let test : Reservation → Bool = λ r. is_client_if c.args.kind (option_copied c.args.bytes) r.identity in
    let admitted : Reservation → Bool = λ r. classes_admit r.classes c.args.names.now in
    let list = c.self.inside.list in
    let from : From test admitted c.args.self.now c.in-Some.place = from_place test admitted c.args.self.now c.loop-found.found c.in-Some.place c.loop-found.invariant c.in-Some.is in
    let within = slice_get_within c.args.self.now c.in-Some.place from.here from.there in
    let same : vec_len list ≡ length list.items = omega (arith, list.ok.0) in
    let all : length list.items ≡ length c.args.self.now = ap length c.self.view_is in
    omega (arith, within, same, all)

pub returns-then-admits : goal.returns-then-admits
returns-then-admits c =
    let test : Reservation → Bool = λ r. is_client_if c.args.kind (option_copied c.args.bytes) r.identity in
    let admitted : Reservation → Bool = λ r. classes_admit r.classes c.args.names.now in
    let list = c.args.self.now in
    let from : From test admitted list c.in-Some.place = from_place test admitted list c.loop-found.found c.in-Some.place c.loop-found.invariant c.in-Some.is in
    let it : c.index-reservation.result.now ≡ from.here = c.index-reservation.ensures ∙ get_or_from_slice_get c.self.inside.list.items c.in-Some.place from.here c.index-reservation.result.now (ap (λ (rs : List Reservation). slice_get rs c.in-Some.place) c.self.view_is ∙ from.there) in
    let held : admitted from.here ≡ true = ap admitted (sym it) ∙ ap (λ classes. classes_admit classes c.args.names.now) (sym c.as_slice.ensures) ∙ sym c.admits.ensures ∙ c.if-admits.true in
    ap Some it ∙ sym (it_is test admitted list c.in-Some.place from.here from.there from.passes held from.rest)

pub index-found-requires : goal.index-found-requires
index-found-requires c =
    let test : Reservation → Bool = λ r. is_client_if c.args.kind (option_copied c.args.bytes) r.identity in
    let admitted : Reservation → Bool = λ r. classes_admit r.classes c.args.names.now in
    let list = c.self.inside.list in
    let next = c.self.inside.next in
    let from : From test admitted c.args.self.now c.in-Some.place = from_place test admitted c.args.self.now c.loop-found.found c.in-Some.place c.loop-found.invariant c.in-Some.is in
    let within = slice_get_within c.args.self.now c.in-Some.place from.here from.there in
    let same : vec_len next ≡ length next.items = omega (arith, next.ok.0) in
    let all : length list.items ≡ length c.args.self.now = ap length c.self.view_is in
    let each : length next.items ≡ length list.items = next_there 0 list.items next.items c.self.invariant.2 in
    omega (arith, within, same, all, each)

pub loop-found-smaller : goal.loop-found-smaller
loop-found-smaller c =
    let test : Reservation → Bool = λ r. is_client_if c.args.kind (option_copied c.args.bytes) r.identity in
    let admitted : Reservation → Bool = λ r. classes_admit r.classes c.args.names.now in
    let list = c.args.self.now in
    let from : From test admitted list c.in-Some.place = from_place test admitted list c.loop-found.found c.in-Some.place c.loop-found.invariant c.in-Some.is in
    let within = slice_get_within list c.in-Some.place from.here from.there in
    let are : AreNext 0 list c.self.inside.next.items = subst (λ (rs : List Reservation). AreNext 0 rs c.self.inside.next.items) c.self.view_is c.self.invariant.2 in
    let next : c.index-found.result.now ≡ position_from test (c.in-Some.place + 1) (drop (c.in-Some.place + 1) list) =
    found_next c.args.kind (option_copied c.args.bytes) list c.self.inside.next.items are c.in-Some.place from.here c.index-found.result.now from.there from.passes c.index-found.ensures in
    subst (λ (o : Option ℕ). count_left list c.index-found.result.now < count_left list o) (sym c.in-Some.is)
    (subst (λ (o : Option ℕ). count_left list o < count_left list (Some c.in-Some.place)) (sym next) (fewer_left test list c.in-Some.place within))

pub loop-found-preserved : goal.loop-found-preserved
loop-found-preserved c =
    let test : Reservation → Bool = λ r. is_client_if c.args.kind (option_copied c.args.bytes) r.identity in
    let admitted : Reservation → Bool = λ r. classes_admit r.classes c.args.names.now in
    let list = c.args.self.now in
    let from : From test admitted list c.in-Some.place = from_place test admitted list c.loop-found.found c.in-Some.place c.loop-found.invariant c.in-Some.is in
    let it : c.index-reservation.result.now ≡ from.here = c.index-reservation.ensures ∙ get_or_from_slice_get c.self.inside.list.items c.in-Some.place from.here c.index-reservation.result.now (ap (λ (rs : List Reservation). slice_get rs c.in-Some.place) c.self.view_is ∙ from.there) in
    let not : admitted from.here ≡ false = ap admitted (sym it) ∙ ap (λ classes. classes_admit classes c.args.names.now) (sym c.as_slice.ensures) ∙ sym c.admits.ensures ∙ c.if-admits.false in
    let are : AreNext 0 list c.self.inside.next.items = subst (λ (rs : List Reservation). AreNext 0 rs c.self.inside.next.items) c.self.view_is c.self.invariant.2 in
    let next : c.index-found.result.now ≡ position_from test (c.in-Some.place + 1) (drop (c.in-Some.place + 1) list) =
    found_next c.args.kind (option_copied c.args.bytes) list c.self.inside.next.items are c.in-Some.place from.here c.index-found.result.now from.there from.passes c.index-found.ensures in
    subst (IsLeft test admitted list) (sym next) (go_on test admitted list c.in-Some.place from.here from.there not from.rest)
