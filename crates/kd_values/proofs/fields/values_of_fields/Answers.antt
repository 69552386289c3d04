use Rattle.std.proofs.Common.{◌≡◌, ◌∙◌, ◌++◌, Some, arith, ap, false, length, option_map, sym}
use Rattle.std.proofs.lemmas.Bool.{eqb-false}
use Rattle.kd_values.specs.Fields.{field_spelled, parts_behind, parts_spelled}
use Rattle.kd_values.specs.Parts.{trimmed}
use Rattle.kd_values.proofs.Commas.{some_parts}
use Rattle.kd_values.proofs.Records.{part_read, too_few, too_many}
use Rattle.kd_values.proofs.fields.values_of_fields.Goals as goal

pub returns-then-not-is_empty : goal.returns-then-not-is_empty
returns-then-not-is_empty c =
    let at = c.parts in
    let out = at.values.items in
    let repeats = c.args.repeats in
    let part = c.first_field_part.result.0.now in
    let whole = rw c.in_default-rest.is at c.first_field_part.ensures.parts in
    let some = eqb-false (length at.fields.now) 0 (sym c.is_empty.ensures ∙ c.if-not-is_empty.true) in
    sym (sym at.invariant
    ∙ ap (λ ps. option_map (λ w. out ++ w) (parts_spelled at.field at.fields.now repeats ps)) whole
    ∙ too_few at.field at.fields.now repeats out part (omega (arith, some)))

pub returns-in_default-next_field : goal.returns-in_default-next_field
returns-in_default-next_field c =
    let at = c.parts in
    let out = at.values.items in
    let repeats = c.args.repeats in
    let part = c.first_field_part.result.0.now in
    let rest = c.in-Some-rest.rest.now in
    let whole = rw c.in-Some-rest.is at c.first_field_part.ensures.parts in
    let ends = rw c.in_default-next_field.is at c.next_field.ensures in
    sym (sym at.invariant
    ∙ ap (λ ps. option_map (λ w. out ++ w) (parts_spelled at.field at.fields.now repeats ps)) whole
    ∙ too_many at.field at.fields.now repeats out part (parts_behind false rest) (some_parts false rest) ends)

pub parts-preserved : goal.parts-preserved
parts-preserved c =
    let at = c.parts in
    let out = at.values.items in
    let repeats = c.args.repeats in
    let part = c.first_field_part.result.0.now in
    let rest = c.in-Some-rest.rest.now in
    let second = c.in-Some-next_field.next in
    let more = c.in-Some-next_field.more.now in
    let whole = rw c.in-Some-rest.is at c.first_field_part.ensures.parts in
    let goes = rw c.in-Some-next_field.is at c.next_field.ensures in
    let v = c.in-Some.value in
    let is : field_spelled at.field (trimmed part) ≡ Some v = rw (sym c.trim.ensures) (sym c.in_ok-value.ensures ∙ c.in-Some.is) in
    rw c.in_ok-extend_from_slice.ensures.items (rw c.as_slice.ensures
    (sym (part_read at.field second at.fields.now more repeats out v part (parts_behind false rest) (some_parts false rest) goes is)
    ∙ ap (λ ps. option_map (λ w. out ++ w) (parts_spelled at.field at.fields.now repeats ps)) (sym whole)
    ∙ at.invariant))
