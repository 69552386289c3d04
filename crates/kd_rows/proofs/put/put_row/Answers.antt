use Rattle.std.proofs.Common.{◌≡◌, ℕ, List, Some, ap, get_or, refl, sym, subst, ◌∙◌}
use Rattle.std.specs.Cmp.Lexicographic.{bytes_decides}
use Rattle.kd_rows.specs.declared.row.Row.{Row}
use Rattle.kd_rows.specs.Ages.{key_of_age}
use Rattle.kd_rows.specs.Index.{IsIndex, IsKeyPlace, Moves, age_at, age_of, client_of, key_at}
use Rattle.kd_rows.specs.Table.{with_row}
use Rattle.kd_rows.proofs.Indexes.{moved_index, new_index, same_index, same_of}
use Rattle.kd_rows.proofs.put.put_row.Goals as goal

pub returns-then-eq-clause-indexed : goal.returns-then-eq-clause-indexed
returns-then-eq-clause-indexed c =
    let client = sym c.as_slice.ensures ∙ (bytes_decides c.as_slice.result.now c.as_slice-in-Some.result.now).0 (sym c.eq.ensures ∙ c.if-eq.true) ∙ c.as_slice-in-Some.ensures in
    let here = c.row.ensures ∙ ap (λ (rows : List Row). get_or rows c.in-Some.place c.row.result.now) c.give_age.ensures.rows in
    same_of client_of _ _ _ _ (c.replace.ensures.rows ∙ ap (with_row c.args.row) c.give_age.ensures.rows) (c.replace.ensures.index ∙ c.give_age.ensures.index)
    (same_index c.args.rows.now.rows c.args.row c.row.result.now c.args.rows.now.index c.requires.indexed (c.in-Some.ensures.found c.row.result.now ∙ ap Some (sym here)) client)

pub returns-then-eq-clause-aged : goal.returns-then-eq-clause-aged
returns-then-eq-clause-aged c = subst (λ (cuts : List ℕ). IsIndex (age_of cuts) c.replace.new.self.rows c.replace.new.self.ages) (sym (c.replace.ensures.cuts ∙ c.give_age.ensures.cuts))
    (same_of (age_of c.args.rows.now.cuts) _ _ _ _ (c.replace.ensures.rows ∙ ap (with_row c.args.row) c.give_age.ensures.rows) c.replace.ensures.ages
    (moved_index (age_of c.args.rows.now.cuts) c.args.rows.now.rows c.args.row c.args.rows.now.ages c.give_age.new.rows.ages c.requires.aged c.give_age.ensures.moved))

pub returns-else-eq-clause-indexed : goal.returns-else-eq-clause-indexed
returns-else-eq-clause-indexed c =
    let moved = subst (λ (client : List ℕ). Moves (key_at c.give_age.new.rows.rows) c.give_age.new.rows.index (client, c.args.row.address) c.give_client.new.rows.index) c.as_slice-else-eq.ensures c.give_client.ensures.moved in
    let there = subst (λ (rows : List Row). Moves (key_at rows) c.give_age.new.rows.index (c.args.row.client, c.args.row.address) c.give_client.new.rows.index) c.give_age.ensures.rows moved in
    let now = subst (λ (index : List ℕ). Moves (key_at c.args.rows.now.rows) index (c.args.row.client, c.args.row.address) c.give_client.new.rows.index) c.give_age.ensures.index there in
    same_of client_of _ _ _ _ (c.replace-else-eq.ensures.rows ∙ ap (with_row c.args.row) (c.give_client.ensures.rows ∙ c.give_age.ensures.rows)) c.replace-else-eq.ensures.index
    (moved_index client_of c.args.rows.now.rows c.args.row c.args.rows.now.index c.give_client.new.rows.index c.requires.indexed now)

pub returns-else-eq-clause-aged : goal.returns-else-eq-clause-aged
returns-else-eq-clause-aged c = subst (λ (cuts : List ℕ). IsIndex (age_of cuts) c.replace-else-eq.new.self.rows c.replace-else-eq.new.self.ages) (sym (c.replace-else-eq.ensures.cuts ∙ (c.give_client.ensures.cuts ∙ c.give_age.ensures.cuts)))
    (same_of (age_of c.args.rows.now.cuts) _ _ _ _ (c.replace-else-eq.ensures.rows ∙ ap (with_row c.args.row) (c.give_client.ensures.rows ∙ c.give_age.ensures.rows)) (c.replace-else-eq.ensures.ages ∙ c.give_client.ensures.ages)
    (moved_index (age_of c.args.rows.now.cuts) c.args.rows.now.rows c.args.row c.args.rows.now.ages c.give_age.new.rows.ages c.requires.aged c.give_age.ensures.moved))

pub returns-in-None-clause-indexed : goal.returns-in-None-clause-indexed
returns-in-None-clause-indexed c =
    let p = subst (λ (client : List ℕ). IsKeyPlace (key_at c.args.rows.now.rows) c.args.rows.now.index (client, c.args.row.address) c.key_place-key.result) c.as_slice-in-None.ensures c.key_place-key.ensures in
    let is = new_index client_of c.args.rows.now.rows c.args.row c.args.rows.now.index c.insert_row.new.self.index c.requires.indexed c.in-None.ensures (c.key_place-key.result, p, c.insert_row.ensures.index) in
    same_of client_of _ _ _ _ c.insert_row.ensures.rows refl is

pub returns-in-None-clause-aged : goal.returns-in-None-clause-aged
returns-in-None-clause-aged c =
    let key : key_of_age c.age_in.result ≡ (age_of c.args.rows.now.cuts c.args.row, c.args.row.address) = subst (λ (cuts : List ℕ). key_of_age c.age_in.result ≡ (age_of cuts c.args.row, c.args.row.address)) c.zones.ensures c.age_in.ensures in
    let p = subst (λ (k : List ℕ × ℕ). IsKeyPlace (age_at c.args.rows.now.cuts c.args.rows.now.rows) c.args.rows.now.ages k c.age_place-age.result) key c.age_place-age.ensures in
    let is = new_index (age_of c.args.rows.now.cuts) c.args.rows.now.rows c.args.row c.args.rows.now.ages c.insert_row.new.self.ages c.requires.aged c.in-None.ensures (c.age_place-age.result, p, c.insert_row.ensures.ages) in
    subst (λ (cuts : List ℕ). IsIndex (age_of cuts) c.insert_row.new.self.rows c.insert_row.new.self.ages) (sym c.insert_row.ensures.cuts) (same_of (age_of c.args.rows.now.cuts) _ _ _ _ c.insert_row.ensures.rows refl is)
