-- The result of the JSON reader is what a text spells.
use Rattle.std.proofs.Common.{◌≡◌, ℕ, Bool, true, false, List, Option, Some, None, refl, if◌then◌else◌}
use Rattle.std.proofs.lemmas.Str.{is_utf8-from_IsUtf8, IsUtf8-from_is_utf8}
use Rattle.std.specs.Str.{is_utf8, IsUtf8}
use Rattle.serde_json.specs.Data.{Data}
use Rattle.serde_json.specs.Read.{read}
use Rattle.kd_fields.specs.Text.{value_spelled}

pub spelled : (text : List ℕ) (d : Data) → IsUtf8 text → read text ≡ Some d → value_spelled text ≡ Some d
unfolding value_spelled
spelled text d utf8 e = rw (is_utf8-from_IsUtf8 text utf8) e

pub not_spelled : (text : List ℕ) → (IsUtf8 text → read text ≡ None) → value_spelled text ≡ None
unfolding value_spelled
not_spelled text none = by (is_utf8 text) refl where
  by : (b : Bool) → is_utf8 text ≡ b → ◌≡◌ {A = Option Data} (if b then read text else None) None
  by true e = none (IsUtf8-from_is_utf8 text e)
  by false e = refl
