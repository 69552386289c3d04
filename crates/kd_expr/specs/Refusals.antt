-- Which fault the parser reports at a token that it cannot take. No public contract cites it.
use Rattle.std.specs.Prelude.{ℕ, List, [], ◌∷◌}
use Rattle.kd_expr.specs.Lexical.{Lexeme, StringAt, HexAt, AddressAt, NumberAt, MinusAt, NameAt, SignAt, BadAt}
use Rattle.kd_expr.specs.declared.fault.SyntaxFault.{SyntaxFault}
use Rattle.kd_expr.specs.declared.fault.SyntaxFault.TheVariants as faults

-- the fault of a token that must not come where it does; a bad token has its own fault
abbrev pub refusal_of : Lexeme → SyntaxFault
refusal_of (BadAt at) = faults.BadToken at
refusal_of (StringAt at bytes) = faults.Expected at
refusal_of (HexAt at digits) = faults.Expected at
refusal_of (AddressAt at bytes) = faults.Expected at
refusal_of (NumberAt at number) = faults.Expected at
refusal_of (MinusAt at number) = faults.Expected at
refusal_of (NameAt at name) = faults.Expected at
refusal_of (SignAt at byte) = faults.Expected at

-- the fault where another token is needed: that of the first token, or of the end of the text
abbrev pub refused_at : (Lexeme → SyntaxFault) → List Lexeme → ℕ → SyntaxFault
refused_at refusal [] end = faults.Expected end
refused_at refusal (x ∷ ts) end = refusal x

-- the same if no token has a fault of its own
abbrev pub unexpected_at : List Lexeme → ℕ → SyntaxFault
unexpected_at ts end = refused_at refusal_of ts end

-- the fault of a token that is not a code: a number is too large
abbrev pub code_refusal : Lexeme → SyntaxFault
code_refusal (NumberAt at number) = faults.NumberTooLarge at
code_refusal token = refusal_of token

-- the fault of a token that is not an option: a number is too large, a name is not known
abbrev pub option_refusal : Lexeme → SyntaxFault
option_refusal (NumberAt at number) = faults.NumberTooLarge at
option_refusal (NameAt at name) = faults.UnknownName at
option_refusal token = refusal_of token

-- the fault of a token that is not a signed number: a number is too large
abbrev pub signed_refusal : Lexeme → SyntaxFault
signed_refusal (NumberAt at number) = faults.NumberTooLarge at
signed_refusal (MinusAt at number) = faults.NumberTooLarge at
signed_refusal token = refusal_of token
