-- What a result's fact says once the result is known to be an Ok.
use Rattle.std.proofs.Common.{◌≡◌, Err, IfOk, Ok, OnOk, Result, Some}
use Rattle.std.specs.Result.{result_ok}

-- a fact that holds if a result is an Ok
pub fact_of_ok : {A E P : Type 0} (r : Result A E) (x : A) → r ≡ Ok x → OnOk r P → P
fact_of_ok r x e h = rw e at h

-- a fact of the value of a result that was turned into an option
pub fact_of_some : {A E : Type 0} (P : A → Type 0) (r : Result A E) (x : A) → Some x ≡ result_ok r → IfOk r P → P x
fact_of_some P (Ok y) x e h = let same : x ≡ y = cc in rw same h
fact_of_some P (Err y) x e h = absurd cc
