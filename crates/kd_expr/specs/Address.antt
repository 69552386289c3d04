-- IPv4 addresses as texts (Kea Administrator Reference Manual, chapter Client Classification): four
-- decimal numbers with dots between them. It is this project's choice to allow leading zeros.
use Rattle.std.specs.Prelude.{◌≡◌, ℕ, ◌+◌, ◌*◌, ◌-◌, ◌≤◌, Bool, true, ◌&&◌, nat_le, List, [], ◌∷◌, ◌++◌, length}

-- the digits 0 to 9
abbrev pub a_digit : ℕ → Bool
a_digit b = nat_le 48 b && nat_le b 57

-- every byte passes a test
abbrev pub Each : (ℕ → Bool) → List ℕ → Type 0
Each p [] = Unit {0}
Each p (b ∷ bytes) = (p b ≡ true) × Each p bytes

-- the number that decimal digits give after digits that give n
abbrev pub decimal_behind : ℕ → List ℕ → ℕ
decimal_behind n [] = n
decimal_behind n (d ∷ digits) = decimal_behind (10 * n + (d - 48)) digits

-- the number that decimal digits give
abbrev pub decimal : List ℕ → ℕ
decimal digits = decimal_behind 0 digits

-- a part of an address: one to three digits, of a number of at most 255
pub record IsPart (text : List ℕ) (value : ℕ) : Type 0 where
  pub digits : Each a_digit text
  pub some : 1 ≤ length text
  pub few : length text ≤ 3
  pub is : value ≡ decimal text
  pub small : value ≤ 255

-- an address: four parts with dots between them, and its four bytes
pub data IsAddress : List ℕ → List ℕ → Type 0 where
  four : (s t u v : List ℕ) {a b c d : ℕ} → IsPart s a → IsPart t b → IsPart u c → IsPart v d
      → IsAddress (s ++ 46 ∷ (t ++ 46 ∷ (u ++ 46 ∷ v))) (a ∷ b ∷ c ∷ d ∷ [])
