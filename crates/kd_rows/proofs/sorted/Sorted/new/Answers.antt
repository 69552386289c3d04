use Rattle.std.proofs.Common.{◌<◌, ℕ, List, ap, length, subst, sym, ◌∙◌}
use Rattle.std.specs.List.{All}
use Rattle.kd_rows.specs.declared.row.Row.{Row}
use Rattle.kd_rows.specs.Index.{IsByAddress, IsIndex, addresses_in, age_of, client_of, rows_in}
use Rattle.kd_rows.proofs.Indexes.{index_from, known_rows}
use Rattle.kd_rows.proofs.Slots.{within_by_key}
use Rattle.kd_rows.proofs.sorted.Sorted.new.Goals as goal

pub invariant_of-result : goal.invariant_of-result
invariant_of-result c =
    let by_address = c.in_ok-of.ensures ∙ c.as_slice.ensures.value in
    let by_client = c.in_ok-of-2.ensures ∙ c.as_slice-2.ensures.value in
    let by_age = c.in_ok-of-3.ensures ∙ c.as_slice-3.ensures.value in
    record {
      addressed = c.in_ok-addresses.ensures;
      headed = c.in_ok-heads.ensures;
      sorted = subst (IsByAddress c.args.rows.items) (sym by_address) c.in_ok-by_address.ensures.by_address;
      within = subst (All (λ n. n < length c.args.rows.items)) (sym by_client) (within_by_key client_of c.args.rows.items c.in_ok-by_client.by_client.items c.in_ok-by_client.ensures);
      aged = subst (All (λ n. n < length c.args.rows.items)) (sym by_age) (within_by_key (age_of c.between-zones.result) c.args.rows.items c.in_ok-by_age.by_age.items c.in_ok-by_age.ensures);
    }

pub returns-clause-indexed : goal.returns-clause-indexed
returns-clause-indexed c =
    let by_address = c.in_ok-of.ensures ∙ c.as_slice.ensures.value in
    let by_client = c.in_ok-of-2.ensures ∙ c.as_slice-2.ensures.value in
    let same = ap (rows_in c.args.rows.items) by_address ∙ c.in_ok-by_address.ensures.same in
    subst (λ (rows : List Row). IsIndex client_of rows (addresses_in c.args.rows.items c.in_ok-of-2.field-0.numbers)) (sym same)
    (subst (λ (ns : List ℕ). IsIndex client_of c.args.rows.items (addresses_in c.args.rows.items ns)) (sym by_client)
    (index_from client_of c.args.rows.items c.args.rows.items c.in_ok-by_client.by_client.items (known_rows c.args.rows.items c.requires) c.in_ok-by_client.ensures))

pub returns-clause-aged : goal.returns-clause-aged
returns-clause-aged c =
    let by_address = c.in_ok-of.ensures ∙ c.as_slice.ensures.value in
    let by_age = c.in_ok-of-3.ensures ∙ c.as_slice-3.ensures.value in
    let same = ap (rows_in c.args.rows.items) by_address ∙ c.in_ok-by_address.ensures.same in
    subst (λ (rows : List Row). IsIndex (age_of c.between-zones.result) rows (addresses_in c.args.rows.items c.in_ok-of-3.field-0.numbers)) (sym same)
    (subst (λ (ns : List ℕ). IsIndex (age_of c.between-zones.result) c.args.rows.items (addresses_in c.args.rows.items ns)) (sym by_age)
    (index_from (age_of c.between-zones.result) c.args.rows.items c.args.rows.items c.in_ok-by_age.by_age.items (known_rows c.args.rows.items c.requires) c.in_ok-by_age.ensures))
