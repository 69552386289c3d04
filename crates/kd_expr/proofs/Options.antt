-- Results that are present or absent, and tests that came out true.
use Rattle.std.proofs.Common.{◌≡◌, Bool, true, false, Option, Some, None, Result, Ok, Err, refl, ap, if◌then◌else◌}
use Rattle.kd_expr.specs.declared.fault.SyntaxFault.{SyntaxFault}

-- a result that is present is exactly this one
pub some_is : {A : Type 0} {a b : A} → ◌≡◌ {A = Option A} (Some a) (Some b) → a ≡ b
some_is e = cc

-- an absent result is not a present one
pub none_is : {A : Type 0} {C : Type 0} {a : A} → ◌≡◌ {A = Option A} None (Some a) → C
none_is e = absurd (cc)

-- two pairs agree in their parts
pub some_pair : {A B : Type 0} {a c : A} {b d : B} → ◌≡◌ {A = Option (A × B)} (Some (a, b)) (Some (c, d)) → (a ≡ c) × (b ≡ d)
some_pair {A} {B} {a} {c} {b} {d} e =
    let pair : ◌≡◌ {A = A × B} (a, b) (c, d) = some_is e in (ap (λ x. x.0) pair, ap (λ x. x.1) pair)

-- what a test accepts has passed it
pub if_some : {A : Type 0} {a b : A} (test : Bool) → ◌≡◌ {A = Option A} (if test then Some a else None) (Some b) → (test ≡ true) × (a ≡ b)
if_some true e = (refl, some_is e)
if_some false e = none_is e

-- the successful result is exactly this one
pub ok_is : {A : Type 0} {a b : A} → ◌≡◌ {A = Result A SyntaxFault} (Ok a) (Ok b) → a ≡ b
ok_is e = cc

-- a fault is not a successful result
pub err_is : {A : Type 0} {C : Type 0} {a : A} {fault : SyntaxFault} → ◌≡◌ {A = Result A SyntaxFault} (Err fault) (Ok a) → C
err_is e = absurd (cc)

-- the fault is exactly this one
pub fault_is : {A : Type 0} {fault other : SyntaxFault} → ◌≡◌ {A = Result A SyntaxFault} (Err fault) (Err other) → fault ≡ other
fault_is e = cc

-- two pairs of results agree in their parts
pub ok_pair : {A B : Type 0} {a c : A} {b d : B} → ◌≡◌ {A = Result (A × B) SyntaxFault} (Ok (a, b)) (Ok (c, d)) → (a ≡ c) × (b ≡ d)
ok_pair {A} {B} {a} {c} {b} {d} e =
    let pair : ◌≡◌ {A = A × B} (a, b) (c, d) = ok_is e in (ap (λ x. x.0) pair, ap (λ x. x.1) pair)

-- what a test accepts has passed it, if there is a fault otherwise
pub if_ok : {A : Type 0} {a b : A} (fault : SyntaxFault) (test : Bool) → ◌≡◌ {A = Result A SyntaxFault} (if test then Ok a else Err fault) (Ok b) → (test ≡ true) × (a ≡ b)
if_ok fault true e = (refl, ok_is e)
if_ok fault false e = err_is e
