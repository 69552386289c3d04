use Rattle.std.proofs.Common.{◌∙◌, ◌++◌, ◌∷◌, [], sym, ap, true≢false}
use Rattle.kd_plain.specs.declared.output.Output.{Output}
use Rattle.kd_plain.proofs.Written.{space_no_closing, takes_space}
use Rattle.kd_plain.proofs.output.Output.push_byte.Goals as goal
use Rattle.kd_plain.proofs.output.Output.push_byte.Goals.{then-is_closing_bracket, else-is_closing_bracket}

pub returns-else-not-is_json_space : goal.returns-else-not-is_json_space
returns-else-not-is_json_space c =
    let white = sym c.is_json_space.ensures ∙ c.if-not-is_json_space.false in
    elim c.if-is_closing_bracket.branch [
      | then-is_closing_bracket w ↦
          absurd (true≢false (sym w.if-is_closing_bracket.true ∙ c.is_closing_bracket.ensures ∙ space_no_closing c.args.byte white))
      | else-is_closing_bracket w ↦
          takes_space c.args.byte c.args.self.now.bytes.items c.args.self.now.comma c.push.new.self.items c.if-is_closing_bracket.self.comma white c.args.self.now.in_range
          (c.in_ok-push.ensures.items ∙ ap (λ (s : Output). s.bytes.items ++ c.args.byte ∷ []) w.self-is)
          (ap (λ (s : Output). s.comma) w.self-is)
    ]
