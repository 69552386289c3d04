use Rattle.std.proofs.Common.{◌++◌, ap, arith, append_assoc, sym, ◌∙◌, take}
use Rattle.std.specs.Prelude.{string_bytes}
use Rattle.std.specs.List.{flat_map}
use Rattle.std.proofs.lemmas.List.{take_all}
use Rattle.kd_explain.specs.FoundLines.{name_behind}
use Rattle.kd_explain.proofs.Listing.{entry_more}
use Rattle.kd_explain.proofs.class_lines.put_names_behind.Goals as goal

pub loop-index-preserved : goal.loop-index-preserved
loop-index-preserved c =
    let names = c.args.names.now in
    let i = c.loop-index.index in
    c.in_ok-put_name_behind-in-Some.ensures ∙ ap (λ t. t ++ name_behind c.in-Some.name.now) c.loop-index.invariant
    ∙ append_assoc (string_bytes c.args.out.now) (flat_map name_behind (take i names)) (name_behind c.in-Some.name.now)
    ∙ ap (λ t. string_bytes c.args.out.now ++ t) (sym (entry_more name_behind names i c.in-Some.name.now c.in-Some.ensures.at))

pub returns : goal.returns
returns c =
    c.loop-index.invariant ∙ ap (λ t. string_bytes c.args.out.now ++ flat_map name_behind t) (take_all c.loop-index.index c.args.names.now (omega (arith, c.loop-index-test.false, c.len-index-end.ensures)))
