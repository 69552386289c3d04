-- What is said of a fault at a path.
use Rattle.std.proofs.Common.{◌≡◌, ℕ, Bool, true, false, List, [], IfOk, Result, Ok, Err, String, string_bytes, subst, sym}
use Rattle.std.specs.Bool.{MatchBool}
use Rattle.std.specs.declared.alloc.AllocError.{AllocError}
use Rattle.std.specs.declared.alloc.Global.{Global}
use Rattle.kd_check.specs.Located.{IsLocatedValue}
use Rattle.kd_notes.specs.Notes.{KeyNote}
use Rattle.kd_reports.specs.KeaWords.{IsSaidAt, is_refused_at}

-- what follows of words follows if there are words
pub so : (P Q : List ℕ → Type 0) (r : Result (String Global) AllocError) → ((words : List ℕ) → P words → Q words) → IfOk r (λ words. P (string_bytes words))
    → IfOk r (λ words. Q (string_bytes words))
so P Q (Ok words) follows holds = follows (string_bytes words) holds
so P Q (Err error) follows holds = tt

-- nothing is said of a fault at a path whose key is refused
pub nothing_said : (name written json : List ℕ) (notes : List KeyNote) (place : List ℕ × List ℕ) (words : List ℕ) → is_refused_at place.0 notes ≡ true → words ≡ []
    → IsSaidAt name written json notes place words
nothing_said name written json notes place words refused none =
    subst (λ (b : Bool). MatchBool b (words ≡ []) (IsLocatedValue name json written place.0 place.1 words)) (sym refused) none

-- the value at another path is reported
pub value_said : (name written json : List ℕ) (notes : List KeyNote) (place : List ℕ × List ℕ) (words : List ℕ) → is_refused_at place.0 notes ≡ false
    → IsLocatedValue name json written place.0 place.1 words → IsSaidAt name written json notes place words
value_said name written json notes place words other report =
    subst (λ (b : Bool). MatchBool b (words ≡ []) (IsLocatedValue name json written place.0 place.1 words)) (sym other) report
