-- What relay information begins with, as one step of a walk over it reports (RFC 3046 section 2).
use Rattle.std.specs.Prelude.{◌≡◌, ℕ, ◌<◌, List, [], ◌∷◌, ◌++◌, length}
use Rattle.kd_options.specs.declared.relay.RelayFront.{RelayFront}
use Rattle.kd_options.specs.declared.relay.RelayFront.TheVariants as fronts

-- a sub-option that is cut off: it has no length byte, or fewer bytes follow than its length says
abbrev pub IsCutSubOption : List ℕ → Type 0
IsCutSubOption [] = ⊥
IsCutSubOption (code ∷ []) = Unit {0}
IsCutSubOption (code ∷ n ∷ bytes) = length bytes < n

-- the step reports what the bytes begin with
abbrev pub IsRelayFront : RelayFront → List ℕ → Type 0
IsRelayFront fronts.End bytes = bytes ≡ []
IsRelayFront (fronts.SubOption code value rest) bytes =
    bytes ≡ code ∷ length value.now ∷ (value.now ++ rest.now)
IsRelayFront fronts.Cut bytes = IsCutSubOption bytes
