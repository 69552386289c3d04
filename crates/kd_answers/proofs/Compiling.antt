-- From what the compiler says of a class test to what is printed of it.
use Rattle.std.proofs.Common.{◌≡◌, ℕ, suc, ◌<◌, ap, ◌∙◌, subst, List, [], ◌∷◌, ◌++◌, get_or, None, Result, Ok, Err}
use Rattle.std.specs.Result.{IfOk}
use Rattle.hex.specs.Hex.{encode_lower}
use Rattle.kd_compile.specs.Compiled.{IsCompiled, first_over}
use Rattle.kd_expr.specs.Tree.{Tree}
use Rattle.kd_machine.specs.Held.{base_names}
use Rattle.kd_machine.specs.Laws.{HasOneEnd}
use Rattle.kd_machine.specs.declared.run.Outcome.{Outcome}
use Rattle.kd_options.specs.Joined.{value_of}
use Rattle.kd_options.specs.Message.{AreBytes, IsMessage, Seen}
use Rattle.kd_token.specs.File.{Code, IsFileOf}
use Rattle.kd_answers.specs.Printed.{IsSuccess, OfCompiled, OfDatagram, PrintsFile, RunsOver, TestsDatagram, TestsOver}
use Rattle.kd_answers.specs.Show.{line_feed}
use Rattle.kd_answers.specs.declared.printed.Printed.{Printed}

-- a class test that exceeds no limit
within : (says : Tree → Printed → Type 0) (tree : Tree) (p : Printed) → first_over tree ≡ None → says tree p → OfCompiled says tree p
within says tree p none said = rw none said

-- its program's file
pub prints : (tree : Tree) (program : Code) (text : List ℕ) (p : Printed) → first_over tree ≡ None → IsCompiled tree program
    → (file : List ℕ) × IsFileOf file program × (text ≡ encode_lower file ++ line_feed) → IsSuccess text p → OfCompiled PrintsFile tree p
prints tree program text p none compiled written line = within PrintsFile tree p none (record {
  program = program;
  compiled = compiled;
  file = written.0;
  file_of = written.1;
  line = subst (λ t. IsSuccess t p) written.2 line;
})

-- bytes are in range if each index is
pub bytes_all : (xs : List ℕ) → ((i : ℕ) → get_or xs i 0 < 256) → AreBytes xs
bytes_all [] h = tt
bytes_all (x ∷ xs) h = (h 0, bytes_all xs (λ i. h (suc i)))

-- the run of its program over a message
over : (tree : Tree) (program : Code) (m : Seen) (p : Printed) → HasOneEnd → IsCompiled tree program → IsMessage m → RunsOver program m p → TestsOver tree m p
over tree program m p one compiled is h =
    let held = base_names (value_of 60 m.options) in
    let kept = compiled.keeps m held is in
    record {
      program = program;
      compiled = compiled;
      outcome = h.outcome;
      run = h.run;
      value = ap (λ (o : Outcome). o.value) (one program m held h.outcome kept.0 h.run kept.2.0) ∙ kept.1;
      line = h.line;
    }

-- the same over a datagram
pub runs : {E : Type 0} (tree : Tree) (program : Code) (bytes : List ℕ) (r : Result Printed E) → HasOneEnd → first_over tree ≡ None → IsCompiled tree program → AreBytes bytes
    → IfOk r (OfDatagram (RunsOver program) bytes) → IfOk r (OfCompiled (TestsDatagram bytes) tree)
runs tree program bytes (Ok p) one none compiled are said = within (TestsDatagram bytes) tree p none (record {
  readable = λ m h. over tree program m p one compiled (record { datagram = bytes; bytes_are = are; reads = h }) (said.readable m h);
  refused = said.refused;
})
runs tree program bytes (Err error) one none compiled are said = tt
