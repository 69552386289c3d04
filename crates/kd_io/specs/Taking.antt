-- Definitions used only by private contracts: a text that grows by what is read of a source.
use Rattle.std.specs.Prelude.{◌≡◌, ◌<◌, ℕ, Bool, true, false, List, [], ◌++◌, Option, length}
use Rattle.std.specs.Io.KnownBytes.{Consumes, IsAtEnd}

-- a text grows by a part of the remaining bytes; the part is empty only at the end
pub record GrowsByPart (more : Bool) (left rest : Option (List ℕ)) (old new : List ℕ) : Type 0 where
  pub part : List ℕ
  pub read : Consumes left rest part
  pub grows : new ≡ old ++ part
  pub some : more ≡ true → 0 < length part
  pub end : more ≡ false → (part ≡ []) × IsAtEnd rest
