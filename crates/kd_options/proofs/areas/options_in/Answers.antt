use Rattle.std.proofs.Common.{ap, ◌∙◌, arith, length, length-drop}
use Rattle.std.proofs.lemmas.Result.{err_from_is_err_and}
use Rattle.kd_options.specs.Joining.{entries_of}
use Rattle.kd_options.specs.Joined.{uses_file, uses_sname}
use Rattle.kd_options.proofs.Composed.{has_options, file_fault, sname_fault, file_area, sname_area, same_options, begun, begun_joins, area_named}
use Rattle.kd_options.proofs.areas.options_in.Goals as goal

pub add_area-requires-clause-limit : goal.add_area-requires-clause-limit
add_area-requires-clause-limit c =
    omega (arith, ap length c.field_of.ensures, length-drop 240 c.args.bytes.now)

pub returns-in_err-add_area-clause-only : goal.returns-in_err-add_area-clause-only
returns-in_err-add_area-clause-only c = λ options h.
    let p = err_from_is_err_and c.from_residual-in_err-add_area.result c.from_residual-in_err-add_area.ensures.1 in
    let field = area_named _ _ _ c.field_of.ensures h.in_use.field_is in
    rw (p.1, p.2) (c.in_err-add_area.ensures.only h.in_use.field field)

pub returns-in_err-add_area-2-clause-fault : goal.returns-in_err-add_area-2-clause-fault
returns-in_err-add_area-2-clause-fault c =
    let p = err_from_is_err_and c.from_residual-in_err-add_area-2.result c.from_residual-in_err-add_area-2.ensures.1 in
    let file = c.overload_of-file.ensures.file ∙ ap uses_file c.value_in.ensures in
    let sname = c.overload_of-file.ensures.sname ∙ ap uses_sname c.value_in.ensures in
    let first = begun _ _ _ _ c.field_of.ensures (ap entries_of c.in_ok-options.ensures.empty) c.in_ok-add_area.ensures.found in
    rw (p.1, p.2) (file_fault c.args.bytes.now _ _ _ file sname _ first c.in_err-add_area-2.ensures.fault)

pub returns-in_err-add_area-2-clause-only : goal.returns-in_err-add_area-2-clause-only
returns-in_err-add_area-2-clause-only c = λ options h.
    let p = err_from_is_err_and c.from_residual-in_err-add_area-2.result c.from_residual-in_err-add_area-2.ensures.1 in
    let file = c.overload_of-file.ensures.file ∙ ap uses_file c.value_in.ensures in
    let sname = c.overload_of-file.ensures.sname ∙ ap uses_sname c.value_in.ensures in
    let field = area_named _ _ _ c.field_of.ensures h.in_use.field_is in
    let first = begun_joins _ _ _ (ap entries_of c.in_ok-options.ensures.empty) (c.in_ok-add_area.ensures.only h.in_use.field field) in
    rw (p.1, p.2) (c.in_err-add_area-2.ensures.only h.in_use.file (file_area c.args.bytes.now _ _ _ file sname options h first))

pub returns-in_err-add_area-3-clause-fault : goal.returns-in_err-add_area-3-clause-fault
returns-in_err-add_area-3-clause-fault c =
    let p = err_from_is_err_and c.from_residual-in_err-add_area-3.result c.from_residual-in_err-add_area-3.ensures.1 in
    let file = c.overload_of-file.ensures.file ∙ ap uses_file c.value_in.ensures in
    let sname = c.overload_of-file.ensures.sname ∙ ap uses_sname c.value_in.ensures in
    let first = begun _ _ _ _ c.field_of.ensures (ap entries_of c.in_ok-options.ensures.empty) c.in_ok-add_area.ensures.found in
    rw (p.1, p.2) (sname_fault c.args.bytes.now _ _ _ file sname _ _ first c.in_ok-add_area-2.ensures.found c.in_err-add_area-3.ensures.fault)

pub returns-in_err-add_area-3-clause-only : goal.returns-in_err-add_area-3-clause-only
returns-in_err-add_area-3-clause-only c = λ options h.
    let p = err_from_is_err_and c.from_residual-in_err-add_area-3.result c.from_residual-in_err-add_area-3.ensures.1 in
    let file = c.overload_of-file.ensures.file ∙ ap uses_file c.value_in.ensures in
    let sname = c.overload_of-file.ensures.sname ∙ ap uses_sname c.value_in.ensures in
    let field = area_named _ _ _ c.field_of.ensures h.in_use.field_is in
    let first = begun_joins _ _ _ (ap entries_of c.in_ok-options.ensures.empty) (c.in_ok-add_area.ensures.only h.in_use.field field) in
    rw (p.1, p.2) (c.in_err-add_area-3.ensures.only h.in_use.sname (sname_area c.args.bytes.now _ _ _ file sname options h first))

pub returns-clause-found : goal.returns-clause-found
returns-clause-found c =
    let file = c.overload_of-file.ensures.file ∙ ap uses_file c.value_in.ensures in
    let sname = c.overload_of-file.ensures.sname ∙ ap uses_sname c.value_in.ensures in
    let first = begun _ _ _ _ c.field_of.ensures (ap entries_of c.in_ok-options.ensures.empty) c.in_ok-add_area.ensures.found in
    has_options c.args.bytes.now _ _ _ file sname _ _ first c.in_ok-add_area-2.ensures.found c.in_ok-add_area-3.ensures.found

pub returns-clause-only : goal.returns-clause-only
returns-clause-only c = λ options h.
    let file = c.overload_of-file.ensures.file ∙ ap uses_file c.value_in.ensures in
    let sname = c.overload_of-file.ensures.sname ∙ ap uses_sname c.value_in.ensures in
    let field = area_named _ _ _ c.field_of.ensures h.in_use.field_is in
    let first = begun_joins _ _ _ (ap entries_of c.in_ok-options.ensures.empty) (c.in_ok-add_area.ensures.only h.in_use.field field) in
    let second = c.in_ok-add_area-2.ensures.only h.in_use.file (file_area c.args.bytes.now _ _ _ file sname options h first) in
    let third = c.in_ok-add_area-3.ensures.only h.in_use.sname (sname_area c.args.bytes.now _ _ _ file sname options h first) in
    same_options c.args.bytes.now _ _ _ options h first second third
