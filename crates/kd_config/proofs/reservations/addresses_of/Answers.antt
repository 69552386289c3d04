use Rattle.kd_config.specs.declared.reservation.Reservation.{Reservation}
use Rattle.std.proofs.Common.{◌≡◌, Bool, ◌+◌, ◌++◌, ◌∷◌, [], ◌∙◌, ap, sym, nat_eq, Some, None, if◌then◌else◌, take, length, arith}
use Rattle.std.specs.List.{position_from}
use Rattle.std.specs.Option.{option_or}
use Rattle.std.proofs.lemmas.List.{length-take-le, take_more}
use Rattle.indexmap.specs.IndexMap.{get_by}
use Rattle.kd_config.specs.Reservation.{has_reserved}
use Rattle.kd_config.proofs.ClientPlaces.{first_more}
use Rattle.kd_config.proofs.reservations.addresses_of.Goals as goal

pub loop-i-preserved : goal.loop-i-preserved
loop-i-preserved c = λ a.
    let list = c.args.list.now in
    let i = c.loop-i.i in
    let r = c.index-list-i.result in
    let more : take (i + 1) list ≡ take i list ++ r ∷ [] = take_more list i r c.loop-i-test.true ∙ ap (λ x. take i list ++ x ∷ []) (sym c.index-list-i.is) in
    let length : 0 + length (take i list) ≡ i = (let plain = length-take-le i list (omega (arith, c.loop-i-test.true)) in omega (arith, plain)) in
    let test : Reservation → Bool = has_reserved a in
    c.in_ok-put_address.ensures a
    ∙ ap (λ (x : Reservation). option_or (get_by (nat_eq a) c.loop-i.addresses) (if test x then Some i else None)) (sym c.index-list-i.is)
    ∙ ap (λ x. option_or x (if test r then Some i else None)) (c.loop-i.invariant a)
    ∙ ap (λ n. option_or (position_from test 0 (take i list)) (if test r then Some n else None)) (sym length)
    ∙ sym (first_more test 0 (take i list) r)
    ∙ ap (position_from test 0) (sym more)
