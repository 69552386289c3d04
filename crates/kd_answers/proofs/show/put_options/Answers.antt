use Rattle.std.proofs.Common.{◌++◌, sym, ap, ◌∙◌, append_assoc, take}
use Rattle.std.specs.Prelude.{string_bytes}
use Rattle.std.specs.List.{flat_map}
use Rattle.kd_wire.specs.Area.{Piece}
use Rattle.kd_answers.specs.Show.{option_lines}
use Rattle.kd_answers.proofs.Shown.{entry_more, all_taken}
use Rattle.kd_answers.proofs.show.put_options.Goals as goal

pub loop-code-preserved : goal.loop-code-preserved
loop-code-preserved c =
    let list = c.args.message.now.options in
    let p : Piece = (c.in-Some.code, c.in-Some.value.now) in
    c.in_ok-put_option.ensures ∙ ap (λ x. x ++ option_lines c.args.names p) c.loop-code.invariant ∙ append_assoc (string_bytes c.args.out.now) (flat_map (option_lines c.args.names) (take c.loop-code.index list)) (option_lines c.args.names p)
    ∙ ap (λ x. string_bytes c.args.out.now ++ x) (sym (entry_more (option_lines c.args.names) list c.loop-code.index p c.in-Some.ensures.value))

pub returns : goal.returns
returns c = c.loop-code.invariant ∙ ap (λ x. string_bytes c.args.out.now ++ flat_map (option_lines c.args.names) x) (all_taken _ _ c.in_default.ensures.value)
