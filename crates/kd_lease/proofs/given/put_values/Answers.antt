use Rattle.std.proofs.Common.{◌++◌, ◌||◌, [], ◌<◌, false, ap, sym, ◌∙◌, map, length, Some, arith, subst, slice_index_or}
use Rattle.std.specs.List.{flat_map}
use Rattle.std.proofs.lemmas.List.{take_all}
use Rattle.kd_lease.specs.Client.{wants_option}
use Rattle.kd_lease.specs.Given.{configured}
use Rattle.kd_lease.specs.Plan.{option_of_item}
use Rattle.kd_lease.specs.declared.values.Coded.{Coded}
use Rattle.kd_wire.specs.Area.{IsCode}
use Rattle.kd_lease.proofs.Valuing.{all_entries, code_at}
use Rattle.kd_lease.proofs.given.put_values.Goals as goal

pub put_configured-requires : goal.put_configured-requires
put_configured-requires c =
    let other : Coded = record { code = 0; value = record { ref_ptr = (0, 0); now = [] }; always = false } in
    let less : c.loop-entry.entry-index < length c.args.values.now.list.items = omega (arith, c.loop-entry-test.true, ap length c.deref-entry-items.ensures.value) in
    subst
    (λ items. IsCode (slice_index_or items c.loop-entry.entry-index other).code)
    (sym c.deref-entry-items.ensures.value)
    (code_at c.args.values.now.list.items c.loop-entry.entry-index other less c.requires.codes)

pub returns : goal.returns
returns c = λ options h.
    let m = c.args.message.now in
    let list = c.args.values.now.list.items in
    let all = take_all c.loop-entry.entry-index list (omega (arith, c.loop-entry-test.false, ap length c.deref-entry-items.ensures.value)) in
    c.loop-entry.invariant
    ∙ ap (λ entries. map option_of_item c.args.list.now.items ++ entries)
    (ap (flat_map (λ (e : Coded). configured (wants_option e.code m || e.always) e.code (Some e.value.now))) all ∙ all_entries m list options h)
