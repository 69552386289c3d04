-- What is known to have happened grows, and grows further.
use Rattle.std.proofs.Common.{◌≡◌, List, [], ◌++◌, Option, None, Some, refl, sym, ap, ◌∙◌, subst, append_assoc}
use Rattle.std.proofs.lemmas.List.{append-nil}
use Rattle.kd_loops.specs.Trace.{Grows}
use Rattle.kd_loops.specs.declared.happening.Happening.{Happening}

pub grows_none : (trace : Option (List Happening)) → Grows trace trace []
grows_none None = refl
grows_none (Some old) = sym (append-nil old)

pub grows_trans : (old mid new : Option (List Happening)) (a b : List Happening) → Grows old mid a → Grows mid new b → Grows old new (a ++ b)
grows_trans None mid new a b first then = subst (λ (m : Option (List Happening)). Grows m new b) first then
grows_trans (Some old) None new a b first then = subst (λ (n : Option (List Happening)). Grows (Some old) n (a ++ b)) (sym then) tt
grows_trans (Some old) (Some mid) None a b first then = tt
grows_trans (Some old) (Some mid) (Some new) a b first then = then ∙ ap (λ m. m ++ b) first ∙ append_assoc old a b
