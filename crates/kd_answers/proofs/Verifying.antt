-- From what the verifier says of a program to what is printed of it.
use Rattle.std.proofs.Common.{◌≡◌, ◌≢◌, subst, Result, Ok, Err}
use Rattle.std.specs.Result.{IfOk}
use Rattle.kd_token.specs.Accepts.{Accepts, IsRightFault, IsVerifyFault}
use Rattle.kd_token.specs.Faults.{verify_fault_number}
use Rattle.kd_token.specs.File.{Code}
use Rattle.kd_token.specs.declared.fault.VerifyFault.{VerifyFault}
use Rattle.kd_token.specs.declared.fault.VerifyFault.TheVariants.{Memory}
use Rattle.kd_answers.specs.Printed.{IsRefusal, OfAccepted}
use Rattle.kd_answers.specs.declared.printed.Printed.{Printed}

module _ {E : Type 0} (says : Code → Printed → Type 0) where
  -- a program that is accepted
  pub accepts : (c verified : Code) (r : Result Printed E) → verified ≡ c → Accepts verified → IfOk r (says verified) → IfOk r (OfAccepted says c)
  accepts c verified (Ok p) is accepted line = subst (λ x. OfAccepted says x p) is (record { accepted = λ h. line; refused = λ none. absurd (none accepted) })
  accepts c verified (Err error) is accepted line = tt

  -- a program that is refused with this fault
  pub refuses : (c : Code) (fault : VerifyFault) (r : Result Printed E) → IfOk r (λ p. fault ≢ Memory) → (Accepts c → fault ≡ Memory)
      → IsVerifyFault c fault → IsRightFault c fault → IfOk r (IsRefusal (verify_fault_number fault)) → IfOk r (OfAccepted says c)
  refuses c fault (Ok p) ours only has right line = record {
    accepted = λ h. absurd (ours (only h));
    refused = λ none. record { fault = fault; first = has; right = right; ours = ours; line = line };
  }
  refuses c fault (Err error) ours only has right line = tt
