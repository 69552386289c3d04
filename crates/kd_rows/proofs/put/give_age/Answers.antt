use Rattle.std.proofs.Common.{◌≡◌, ◌+◌, ◌<◌, ℕ, List, length, subst, sym}
use Rattle.kd_rows.specs.Ages.{AreBelow, AreNotBelow, key_of_age}
use Rattle.kd_rows.specs.Index.{IsKeyPlace, age_at, age_of}
use Rattle.kd_rows.proofs.Keys.{age_here, left_within, moved_to, stays}
use Rattle.kd_rows.proofs.put.give_age.Goals as goal

pub is_past_those_before-requires-clause-place : goal.is_past_those_before-requires-clause-place
is_past_those_before-requires-clause-place c =
    let own : key_of_age c.age_in.result ≡ (age_of c.args.rows.now.cuts c.row.result.now, c.row.result.now.address) = subst (λ (cuts : List ℕ). key_of_age c.age_in.result ≡ (age_of cuts c.row.result.now, c.row.result.now.address)) c.zones.ensures c.age_in.ensures in
    (age_here c.args.rows.now.cuts c.args.rows.now.rows c.args.rows.now.ages (key_of_age c.age_in.result) c.args.row.now.address c.args.place c.age_place-from.result c.row.result.now c.requires.aged c.requires.at c.row.ensures own c.age_place-from.ensures).0

pub is_before_those_after-requires-clause-place : goal.is_before_those_after-requires-clause-place
is_before_those_after-requires-clause-place c =
    let own : key_of_age c.age_in.result ≡ (age_of c.args.rows.now.cuts c.row.result.now, c.row.result.now.address) = subst (λ (cuts : List ℕ). key_of_age c.age_in.result ≡ (age_of cuts c.row.result.now, c.row.result.now.address)) c.zones.ensures c.age_in.ensures in
    (age_here c.args.rows.now.cuts c.args.rows.now.rows c.args.rows.now.ages (key_of_age c.age_in.result) c.args.row.now.address c.args.place c.age_place-from.result c.row.result.now c.requires.aged c.requires.at c.row.ensures own c.age_place-from.ensures).0

pub returns-then-is_before_those_after-clause-moved : goal.returns-then-is_before_those_after-clause-moved
returns-then-is_before_those_after-clause-moved c =
    let own : key_of_age c.age_in.result ≡ (age_of c.args.rows.now.cuts c.row.result.now, c.row.result.now.address) = subst (λ (cuts : List ℕ). key_of_age c.age_in.result ≡ (age_of cuts c.row.result.now, c.row.result.now.address)) c.zones.ensures c.age_in.ensures in
    let now : key_of_age c.age_in-age.result ≡ (age_of c.args.rows.now.cuts c.args.row.now, c.args.row.now.address) = subst (λ (cuts : List ℕ). key_of_age c.age_in-age.result ≡ (age_of cuts c.args.row.now, c.args.row.now.address)) c.zones-2.ensures c.age_in-age.ensures in
    let here = age_here c.args.rows.now.cuts c.args.rows.now.rows c.args.rows.now.ages (key_of_age c.age_in.result) c.args.row.now.address c.args.place c.age_place-from.result c.row.result.now c.requires.aged c.requires.at c.row.ensures own c.age_place-from.ensures in
    stays (age_at c.args.rows.now.cuts c.args.rows.now.rows) c.args.rows.now.ages (age_of c.args.rows.now.cuts c.args.row.now) c.args.row.now.address c.age_place-from.result here
    (subst (AreBelow (age_at c.args.rows.now.cuts c.args.rows.now.rows) c.args.rows.now.ages c.age_place-from.result) now (c.is_past_those_before.ensures c.if-is_past_those_before.true))
    (subst (AreNotBelow (age_at c.args.rows.now.cuts c.args.rows.now.rows) c.args.rows.now.ages (c.age_place-from.result + 1)) now (c.is_before_those_after.ensures c.if-is_before_those_after.true))

pub move_age-requires-clause-from : goal.move_age-requires-clause-from
move_age-requires-clause-from c =
    let own : key_of_age c.age_in.result ≡ (age_of c.args.rows.now.cuts c.row.result.now, c.row.result.now.address) = subst (λ (cuts : List ℕ). key_of_age c.age_in.result ≡ (age_of cuts c.row.result.now, c.row.result.now.address)) c.zones.ensures c.age_in.ensures in
    (age_here c.args.rows.now.cuts c.args.rows.now.rows c.args.rows.now.ages (key_of_age c.age_in.result) c.args.row.now.address c.args.place c.age_place-from.result c.row.result.now c.requires.aged c.requires.at c.row.ensures own c.age_place-from.ensures).0

pub move_age-requires-clause-to : goal.move_age-requires-clause-to
move_age-requires-clause-to c =
    let own : key_of_age c.age_in.result ≡ (age_of c.args.rows.now.cuts c.row.result.now, c.row.result.now.address) = subst (λ (cuts : List ℕ). key_of_age c.age_in.result ≡ (age_of cuts c.row.result.now, c.row.result.now.address)) c.zones.ensures c.age_in.ensures in
    let here = age_here c.args.rows.now.cuts c.args.rows.now.rows c.args.rows.now.ages (key_of_age c.age_in.result) c.args.row.now.address c.args.place c.age_place-from.result c.row.result.now c.requires.aged c.requires.at c.row.ensures own c.age_place-from.ensures in
    subst (λ to. to < length c.args.rows.now.ages) (sym c.place_without-to.ensures) (left_within (length c.args.rows.now.ages) c.age_place-from.result c.age_place.result here.0 c.age_place.ensures.in_range)

pub returns-clause-moved : goal.returns-clause-moved
returns-clause-moved c =
    let own : key_of_age c.age_in.result ≡ (age_of c.args.rows.now.cuts c.row.result.now, c.row.result.now.address) = subst (λ (cuts : List ℕ). key_of_age c.age_in.result ≡ (age_of cuts c.row.result.now, c.row.result.now.address)) c.zones.ensures c.age_in.ensures in
    let now : key_of_age c.age_in-age.result ≡ (age_of c.args.rows.now.cuts c.args.row.now, c.args.row.now.address) = subst (λ (cuts : List ℕ). key_of_age c.age_in-age.result ≡ (age_of cuts c.args.row.now, c.args.row.now.address)) c.zones-2.ensures c.age_in-age.ensures in
    let here = age_here c.args.rows.now.cuts c.args.rows.now.rows c.args.rows.now.ages (key_of_age c.age_in.result) c.args.row.now.address c.args.place c.age_place-from.result c.row.result.now c.requires.aged c.requires.at c.row.ensures own c.age_place-from.ensures in
    let p = subst (λ (k : List ℕ × ℕ). IsKeyPlace (age_at c.args.rows.now.cuts c.args.rows.now.rows) c.args.rows.now.ages k c.age_place.result) now c.age_place.ensures in
    moved_to (age_at c.args.rows.now.cuts c.args.rows.now.rows) c.args.rows.now.ages c.move_age.new.self.ages (age_of c.args.rows.now.cuts c.args.row.now) c.args.row.now.address c.age_place-from.result c.age_place.result c.place_without-to.result here p c.place_without-to.ensures c.move_age.ensures.ages
