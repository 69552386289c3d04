-- How an import is refused.
use Rattle.std.proofs.Common.{◌≡◌, ◌⊎◌, ℕ, List, inl, inr, refl}
use Rattle.kd_log.specs.Import.{IsImportFault, import_fault_number}
use Rattle.kd_log.specs.declared.leases.fault.ImportFault.{ImportFault}
use Rattle.kd_log.specs.declared.leases.fault.ImportFault.TheVariants as lines
use Rattle.kd_io.specs.Faults.{input_fault_number}
use Rattle.kd_io.specs.declared.files.InputFault.{InputFault}
use Rattle.kd_io.specs.declared.files.InputFault.TheVariants as inputs
use Rattle.kd_answers.specs.Status.{status_of}
use Rattle.kd_program.specs.Importing.{TellsBadLine}
use Rattle.kd_program.specs.Streams.{Stream, TellsWith}
use Rattle.kd_program.proofs.Told.{told_own}

-- for a bad line, or because memory runs out
pub lines_refused : (text : List ℕ) (fault : ImportFault) (number status : ℕ) (old new : Stream) → IsImportFault text fault → number ≡ import_fault_number fault
    → TellsWith number (status_of number) status old new → TellsBadLine text status old new ⊎ TellsWith 91 (status_of 91) status old new
lines_refused text (lines.BadLine n) number status old new bad is told = inl (n, bad, told_own number 97 status old new is told)
lines_refused text lines.Memory number status old new bad is told = inr (told_own number 91 status old new is told)

-- because the input cannot be read, or because memory runs out
pub input_refused : {W : Type 0} (fault : InputFault) (number status : ℕ) (old new : Stream) → (fault ≡ inputs.Read → W) → number ≡ input_fault_number fault
    → TellsWith number (status_of number) status old new → (W × TellsWith 94 (status_of 94) status old new) ⊎ TellsWith 91 (status_of 91) status old new
input_refused inputs.Read number status old new why is told = inl (why refl, told_own number 94 status old new is told)
input_refused inputs.Memory number status old new why is told = inr (told_own number 91 status old new is told)
