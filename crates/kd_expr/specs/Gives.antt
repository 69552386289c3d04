-- What a function of the parser returns, compared with the reader of tokens that it implements.
use Rattle.std.specs.Prelude.{◌≡◌, ◌≢◌, Result, Ok, Err}
use Rattle.kd_expr.specs.declared.fault.SyntaxFault.{SyntaxFault}
use Rattle.kd_expr.specs.declared.fault.SyntaxFault.TheVariants as faults

-- a fault other than out of memory is the reader's
abbrev pub Fails : {B : Type 0} → SyntaxFault → Result B SyntaxFault → Type 0
Fails fault read = fault ≢ faults.Memory → read ≡ Err fault

-- the result is what the reader gives, as it is seen
abbrev pub ReadsAs : {A B : Type 0} → (A → B) → Result A SyntaxFault → Result B SyntaxFault → Type 0
ReadsAs view (Ok a) read = read ≡ Ok (view a)
ReadsAs view (Err fault) read = Fails fault read
