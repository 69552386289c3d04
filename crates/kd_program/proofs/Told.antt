-- Faults that are reported, with equal numbers and statuses.
use Rattle.std.proofs.Common.{◌≡◌, ℕ, subst}
use Rattle.kd_answers.specs.Status.{status_of}
use Rattle.kd_program.specs.Streams.{Stream, TellsWith}

-- with equal numbers and statuses
pub told_as : (n m s t status : ℕ) (old new : Stream) → n ≡ m → s ≡ t → TellsWith n s status old new → TellsWith m t status old new
told_as n m s t status old new p q told = subst (λ x. TellsWith x t status old new) p (subst (λ y. TellsWith n y status old new) q told)

-- with equal numbers, and the numbers' own statuses
pub told_own : (n m status : ℕ) (old new : Stream) → n ≡ m → TellsWith n (status_of n) status old new → TellsWith m (status_of m) status old new
told_own n m status old new p told = subst (λ x. TellsWith x (status_of x) status old new) p told
