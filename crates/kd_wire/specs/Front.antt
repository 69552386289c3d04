-- What an area begins with, as one step of a walk over it reports.
use Rattle.std.specs.Prelude.{◌≡◌, ℕ, List, ◌∷◌, ◌++◌, length}
use Rattle.kd_wire.specs.Area.{IsCode, IsEnd, IsCutOption}
use Rattle.kd_wire.specs.declared.walk.Front.{Front}
use Rattle.kd_wire.specs.declared.walk.Front.TheVariants as fronts

-- the step reports what the bytes begin with
abbrev pub IsFront : Front → List ℕ → Type 0
IsFront fronts.End bytes = IsEnd bytes
IsFront (fronts.Pad rest) bytes = bytes ≡ 0 ∷ rest.now
IsFront (fronts.Piece code value rest) bytes =
    IsCode code × (bytes ≡ code ∷ length value.now ∷ (value.now ++ rest.now))
IsFront fronts.Cut bytes = IsCutOption bytes
