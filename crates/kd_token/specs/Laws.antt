-- What is true of every program that has a file, and of all bytes.
use Rattle.std.specs.Prelude.{◌≡◌, ℕ, ◌+◌, ◌≤◌, List, length, slice_get, Some, MatchOption}
use Rattle.std.specs.List.{AllByRecursion}
use Rattle.kd_token.specs.Accepts.{Point, flows}
use Rattle.kd_token.specs.File.{Code, HasFile, IsToken}
use Rattle.kd_token.specs.FirstFault.{IsFileFault}
use Rattle.kd_token.specs.declared.fault.FileFault.{FileFault}
use Rattle.kd_token.specs.declared.token.Token.{Token}

-- a token at place i of a program: `left` tokens come after it, its operands fit their bytes, and
-- each flow from it leads to one of those tokens or to the end
pub record StandsIn (p : Code) (i : ℕ) (token : Token) : Type 0 where
  pub left : ℕ
  pub place : i + 1 + left ≡ length p.tokens
  pub is : IsToken p.version left token
  pub leads : (q : Point) → MatchOption (flows (length p.names) token i q) (Unit {0})
      (AllByRecursion (λ f. (i + 1 ≤ f.to) × (f.to ≤ length p.tokens)))

-- every token of a program is so
abbrev pub TokensStandIn : Code → Type 0
TokensStandIn p =
    (i : ℕ) (token : Token) → slice_get p.tokens i ≡ Some token → StandsIn p i token

-- the same for every program that has a file
abbrev pub TokensStand : Type 0
TokensStand = (p : Code) → HasFile p → TokensStandIn p

-- bytes have at most one first fault
abbrev pub HaveOneFault : Type 0
HaveOneFault =
    (bytes : List ℕ) (f g : FileFault) → IsFileFault bytes f → IsFileFault bytes g → f ≡ g
