use Rattle.std.proofs.Common.{◌++◌, sym, ap, ◌∙◌, append_assoc, take}
use Rattle.std.specs.Prelude.{string_bytes}
use Rattle.std.specs.List.{flat_map}
use Rattle.kd_wire.specs.Area.{Piece}
use Rattle.kd_options.specs.Relay.{firsts}
use Rattle.kd_options.specs.RelayWalk.{relay_list}
use Rattle.kd_answers.specs.Show.{relay_line}
use Rattle.kd_answers.proofs.Shown.{entry_more, all_taken}
use Rattle.kd_answers.proofs.show.put_relays.Goals as goal

pub loop-code-preserved : goal.loop-code-preserved
loop-code-preserved c =
    let list = (firsts (relay_list c.args.message.now.options)) in
    let p : Piece = (c.in-Some.code, c.in-Some.value.now) in
    c.in_ok-put_entry.ensures ∙ ap (λ x. x ++ relay_line p) c.loop-code.invariant ∙ append_assoc (string_bytes c.args.out.now) (flat_map relay_line (take c.loop-code.index list)) (relay_line p)
    ∙ ap (λ x. string_bytes c.args.out.now ++ x) (sym (entry_more relay_line list c.loop-code.index p c.in-Some.ensures.value))

pub returns : goal.returns
returns c = c.loop-code.invariant ∙ ap (λ x. string_bytes c.args.out.now ++ flat_map relay_line x) (all_taken _ _ c.in_default.ensures.value)
