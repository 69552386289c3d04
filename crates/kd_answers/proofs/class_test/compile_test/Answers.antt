use Rattle.std.proofs.Common.{List, ◌++◌, ℕ, subst, ◌≡◌}
use Rattle.hex.specs.Hex.{encode_lower}
use Rattle.kd_expr.specs.View.{tree_of}
use Rattle.kd_token.specs.File.{Code, IsFileOf}
use Rattle.kd_answers.specs.Show.{line_feed}
use Rattle.kd_answers.proofs.Compiling.{prints}
use Rattle.kd_answers.proofs.class_test.compile_test.Goals as goal

-- a text is the line of a program's file
abbrev IsFileText : List ℕ → Code → Type 0
IsFileText text p = (file : List ℕ) × IsFileOf file p × (text ≡ encode_lower file ++ line_feed)

pub returns-in_ok-file_text-in-Ok : goal.returns-in_ok-file_text-in-Ok
returns-in_ok-file_text-in-Ok c =
    let e = c.in-Ok.ensures in
    prints (tree_of c.args.test.now) c.in-Ok.verified _ c.success.result e.refused (record { measures = e.measured; accepted = e.accepted; keeps = e.keeps })
    (subst (IsFileText _) c.program.ensures.program c.in_ok-file_text-in-Ok.ensures) c.success.ensures
