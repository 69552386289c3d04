-- The tokens of a class test, by recursion on its tree: operands from left to right, then the
-- node's own token; after a number, the token of its four bytes where a byte string is needed;
-- `and`, `or` and `ifelse` use branches over what they may skip. A compiled program is exactly this
-- one; proofs tie it to the expression's value and measures.
use Rattle.std.specs.Prelude.{ℕ, suc, ◌+◌, if◌then◌else◌, List, [], ◌∷◌, ◌++◌}
use Rattle.kd_expr.specs.Tree.{Tree, Literal, Int, OptionValue, RelayValue, FieldValue, OptionExists, RelayExists, Member, Equal, Not, And, Or, Group, Concat, IfElse, Substring, HexString, Lower, Upper, IntToText}
use Rattle.kd_machine.specs.Parts.{same}
use Rattle.kd_token.specs.File.{Code, code}
use Rattle.kd_token.specs.declared.token.Token.{Token}
use Rattle.kd_token.specs.declared.token.Token.TheVariants as tokens
use Rattle.kd_compile.specs.Compiled.{version_for}
use Rattle.kd_compile.specs.Measures.{number_tree, four_more, step_count, stack_depth, greatest, names}
use Rattle.kd_compile.specs.Measures.{token_count as size}

-- the index of a name in a list of names, or their number if it is not there
abbrev pub index_of : List ℕ → List (List ℕ) → ℕ
index_of name [] = 0
index_of name (x ∷ names) = if same name x then 0 else suc (index_of name names)

-- the token after an operand where a byte string is needed, if it is a number
abbrev pub in_bytes : Tree → List Token
in_bytes t = if number_tree t then tokens.IntBytes ∷ [] else []

-- the tokens of an expression, with the names of its program
abbrev pub code_of : List (List ℕ) → Tree → List Token
code_of names (Literal at bytes) = tokens.PushBytes bytes ∷ []
code_of names (Int at n) = tokens.PushInt n ∷ []
code_of names (OptionValue at code) = tokens.PushOption code ∷ []
code_of names (RelayValue at code) = tokens.PushRelay code ∷ []
code_of names (FieldValue at field) = tokens.PushField field ∷ []
code_of names (OptionExists at code) = tokens.OptionExists code ∷ []
code_of names (RelayExists at code) = tokens.RelayExists code ∷ []
code_of names (Member at name) = tokens.Member (index_of name names) ∷ []
code_of names (Equal at a b) =
    code_of names a ++ in_bytes a ++ (code_of names b ++ in_bytes b) ++ tokens.Equal ∷ []
code_of names (Not at a) = code_of names a ++ tokens.Not ∷ []
code_of names (And at a b) = code_of names a ++ tokens.BranchFalseElsePop (size b) ∷ code_of names b
code_of names (Or at a b) = code_of names a ++ tokens.BranchTrueElsePop (size b) ∷ code_of names b
code_of names (Group at a) = code_of names a
code_of names (Concat at a b) =
    code_of names a ++ in_bytes a ++ (code_of names b ++ in_bytes b) ++ tokens.Concat ∷ []
code_of names (IfElse at t a b) =
    code_of names t ++ tokens.PopBranchFalse (size a + four_more a + 1)
    ∷ (code_of names a ++ in_bytes a ++ tokens.Branch (size b + four_more b)
    ∷ (code_of names b ++ in_bytes b))
code_of names (Substring at a start count) =
    code_of names a ++ in_bytes a ++ tokens.Substring start count ∷ []
code_of names (HexString at a b) =
    code_of names a ++ in_bytes a ++ (code_of names b ++ in_bytes b) ++ tokens.HexString ∷ []
code_of names (Lower at a) = code_of names a ++ in_bytes a ++ tokens.Lower ∷ []
code_of names (Upper at a) = code_of names a ++ in_bytes a ++ tokens.Upper ∷ []
code_of names (IntToText at a) = code_of names a ++ tokens.IntToText ∷ []

-- the program of an expression: its tokens, with its measures as what it declares
abbrev pub program_for : Tree → Code
program_for t =
    code (version_for t) (step_count t) (stack_depth t) (greatest t) (names t) (code_of (names t) t)
