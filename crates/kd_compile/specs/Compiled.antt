-- What a compiled program guarantees for its class test: its measures, that it is accepted, and
-- that it keeps its meaning.
use Rattle.std.specs.Prelude.{◌≡◌, ℕ, nat_lt, if◌then◌else◌, List, length, Option, Some, None}
use Rattle.kd_compile.specs.Measures.{token_count, step_count, stack_depth, greatest, names, branching}
use Rattle.kd_compile.specs.Value.{truth}
use Rattle.kd_compile.specs.declared.fault.CompileFault.{CompileFault}
use Rattle.kd_compile.specs.declared.fault.CompileFault.TheVariants as faults
use Rattle.kd_expr.specs.Tree.{Tree}
use Rattle.kd_machine.specs.Run.{EndsAs}
use Rattle.kd_machine.specs.declared.run.Outcome.{Outcome}
use Rattle.kd_options.specs.Message.{Seen, IsMessage}
use Rattle.kd_token.specs.Accepts.{Accepts}
use Rattle.kd_token.specs.File.{Code}
use Rattle.kd_token.specs.declared.token.Version.{Version}
use Rattle.kd_token.specs.declared.token.Version.TheVariants as versions

-- the number of each fault
abbrev pub compile_fault_number : CompileFault → ℕ
compile_fault_number faults.TooManyTokens = 51
compile_fault_number faults.TooDeep = 52
compile_fault_number faults.TooLong = 53
compile_fault_number faults.TooManyNames = 54
compile_fault_number faults.Memory = 91

-- the first limit that an expression's measures are over: 1,024 tokens, a depth of 64, byte strings
-- of 65,535 bytes, 64 names
abbrev pub first_over : Tree → Option CompileFault
first_over t =
    if nat_lt 1024 (token_count t) then Some faults.TooManyTokens
    else if nat_lt 64 (stack_depth t) then Some faults.TooDeep
    else if nat_lt 65535 (greatest t) then Some faults.TooLong
    else if nat_lt 64 (length (names t)) then Some faults.TooManyNames
    else None

-- the version of a program: version 2 if it has branches
abbrev pub version_for : Tree → Version
version_for t = if branching t then versions.Two else versions.One

-- a program has the measures of an expression: its version, tokens and names, and it declares its
-- steps, its depth and its greatest bound
pub record HasMeasures (t : Tree) (p : Code) : Type 0 where
  pub version : p.version ≡ version_for t
  pub tokens : length p.tokens ≡ token_count t
  pub names : p.names ≡ names t
  pub steps : p.steps ≡ step_count t
  pub depth : p.depth ≡ stack_depth t
  pub bound : p.bound ≡ greatest t

-- a program keeps an expression's meaning: over every message and every list of held names it runs,
-- within what it declares, to the expression's truth value
abbrev pub KeepsMeaning : Tree → Code → Type 0
KeepsMeaning t p = (message : Seen) (held : List (List ℕ)) → IsMessage message
    → (o : Outcome) × (o.value ≡ truth message held t) × EndsAs p message held o

-- a program that an expression compiles to: it has the expression's measures, is accepted, and
-- keeps its meaning
pub record IsCompiled (t : Tree) (p : Code) : Type 0 where
  pub measures : HasMeasures t p
  pub accepted : Accepts p
  pub keeps : KeepsMeaning t p
