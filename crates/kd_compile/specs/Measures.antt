-- The measures of a class test, by recursion on its tree: how many tokens its program has, how many
-- of them run at most, how many values are on the stack at most, how long its byte strings are at
-- most, and which names it asks for. These numbers have no upper limit.
use Rattle.std.specs.Prelude.{ℕ, ◌+◌, max, Bool, true, false, ◌||◌, if◌then◌else◌, List, [], length}
use Rattle.kd_expr.specs.Tree.{Tree, Literal, Int, OptionValue, RelayValue, FieldValue, OptionExists, RelayExists, Member, Equal, Not, And, Or, Group, Concat, IfElse, Substring, HexString, Lower, Upper, IntToText}
use Rattle.kd_wire.specs.declared.field.Field.{Field}
use Rattle.kd_wire.specs.declared.field.Field.TheVariants as fields
use Rattle.kd_machine.specs.Held.{with_name}
use Rattle.kd_token.specs.Shape.{bound_of_hex, bound_of_substring}

-- whether a message field is a number
abbrev pub number_part : Field → Bool
number_part fields.Mac = false
number_part fields.Hlen = true
number_part fields.Htype = true
number_part fields.Ciaddr = false
number_part fields.Giaddr = false
number_part fields.Yiaddr = false
number_part fields.Siaddr = false
number_part fields.MessageType = true
number_part fields.Transaction = true
number_part fields.Length = true

-- whether an expression is a number
abbrev pub number_tree : Tree → Bool
number_tree (Int at n) = true
number_tree (FieldValue at field) = number_part field
number_tree t = false

-- one more token if an operand is a number where a byte string is needed: the token of its four
-- bytes
abbrev pub four_more : Tree → ℕ
four_more t = if number_tree t then 1 else 0

-- how many tokens its program has; `and` and `or` have one branch, `ifelse` has two
abbrev pub token_count : Tree → ℕ
token_count (Literal at bytes) = 1
token_count (Int at n) = 1
token_count (OptionValue at code) = 1
token_count (RelayValue at code) = 1
token_count (FieldValue at field) = 1
token_count (OptionExists at code) = 1
token_count (RelayExists at code) = 1
token_count (Member at name) = 1
token_count (Equal at a b) = token_count a + four_more a + (token_count b + four_more b) + 1
token_count (Not at a) = token_count a + 1
token_count (And at a b) = token_count a + 1 + token_count b
token_count (Or at a b) = token_count a + 1 + token_count b
token_count (Group at a) = token_count a
token_count (Concat at a b) = token_count a + four_more a + (token_count b + four_more b) + 1
token_count (IfElse at t a b) =
    token_count t + 1 + (token_count a + four_more a) + 1 + (token_count b + four_more b)
token_count (Substring at a start count) = token_count a + four_more a + 1
token_count (HexString at a b) = token_count a + four_more a + (token_count b + four_more b) + 1
token_count (Lower at a) = token_count a + four_more a + 1
token_count (Upper at a) = token_count a + four_more a + 1
token_count (IntToText at a) = token_count a + 1

-- how many tokens run at most: the longest path through its program
abbrev pub step_count : Tree → ℕ
step_count (Literal at bytes) = 1
step_count (Int at n) = 1
step_count (OptionValue at code) = 1
step_count (RelayValue at code) = 1
step_count (FieldValue at field) = 1
step_count (OptionExists at code) = 1
step_count (RelayExists at code) = 1
step_count (Member at name) = 1
step_count (Equal at a b) = step_count a + four_more a + (step_count b + four_more b) + 1
step_count (Not at a) = step_count a + 1
step_count (And at a b) = step_count a + 1 + step_count b
step_count (Or at a b) = step_count a + 1 + step_count b
step_count (Group at a) = step_count a
step_count (Concat at a b) = step_count a + four_more a + (step_count b + four_more b) + 1
step_count (IfElse at t a b) =
    step_count t + 1 + max (step_count a + four_more a + 1) (step_count b + four_more b)
step_count (Substring at a start count) = step_count a + four_more a + 1
step_count (HexString at a b) = step_count a + four_more a + (step_count b + four_more b) + 1
step_count (Lower at a) = step_count a + four_more a + 1
step_count (Upper at a) = step_count a + four_more a + 1
step_count (IntToText at a) = step_count a + 1

-- how many values are on the stack at most
abbrev pub stack_depth : Tree → ℕ
stack_depth (Literal at bytes) = 1
stack_depth (Int at n) = 1
stack_depth (OptionValue at code) = 1
stack_depth (RelayValue at code) = 1
stack_depth (FieldValue at field) = 1
stack_depth (OptionExists at code) = 1
stack_depth (RelayExists at code) = 1
stack_depth (Member at name) = 1
stack_depth (Equal at a b) = max (stack_depth a) (1 + stack_depth b)
stack_depth (Not at a) = stack_depth a
stack_depth (And at a b) = max (stack_depth a) (stack_depth b)
stack_depth (Or at a b) = max (stack_depth a) (stack_depth b)
stack_depth (Group at a) = stack_depth a
stack_depth (Concat at a b) = max (stack_depth a) (1 + stack_depth b)
stack_depth (IfElse at t a b) = max (stack_depth t) (max (stack_depth a) (stack_depth b))
stack_depth (Substring at a start count) = stack_depth a
stack_depth (HexString at a b) = max (stack_depth a) (1 + stack_depth b)
stack_depth (Lower at a) = stack_depth a
stack_depth (Upper at a) = stack_depth a
stack_depth (IntToText at a) = stack_depth a

-- how long the byte string of a message field is at most; for a number it is its four bytes
abbrev pub bound_of_part : Field → ℕ
bound_of_part fields.Mac = 16
bound_of_part field = 4

-- how long an expression's byte string is at most; a truth value has none
abbrev pub bound : Tree → ℕ
bound (Literal at bytes) = length bytes
bound (Int at n) = 4
bound (OptionValue at code) = 4096
bound (RelayValue at code) = 255
bound (FieldValue at field) = bound_of_part field
bound (OptionExists at code) = 0
bound (RelayExists at code) = 0
bound (Member at name) = 0
bound (Equal at a b) = 0
bound (Not at a) = 0
bound (And at a b) = 0
bound (Or at a b) = 0
bound (Group at a) = 0
bound (Concat at a b) = bound a + bound b
bound (IfElse at t a b) = max (bound a) (bound b)
bound (Substring at a start count) = bound_of_substring (bound a) count
bound (HexString at a b) = bound_of_hex (bound a) (bound b)
bound (Lower at a) = bound a
bound (Upper at a) = bound a
bound (IntToText at a) = 10

-- the greatest bound of an expression's byte strings, including those on the way
abbrev pub greatest : Tree → ℕ
greatest (Equal at a b) = max (greatest a) (greatest b)
greatest (Not at a) = greatest a
greatest (And at a b) = max (greatest a) (greatest b)
greatest (Or at a b) = max (greatest a) (greatest b)
greatest (Group at a) = greatest a
greatest (Concat at a b) = max (bound a + bound b) (max (greatest a) (greatest b))
greatest (IfElse at t a b) = max (greatest t) (max (greatest a) (greatest b))
greatest (Substring at a start count) = greatest a
greatest (HexString at a b) = max (bound_of_hex (bound a) (bound b)) (max (greatest a) (greatest b))
greatest (Lower at a) = greatest a
greatest (Upper at a) = greatest a
greatest (IntToText at a) = max 10 (greatest a)
greatest t = bound t

-- names, and then those that an expression asks for, in order of first use, each once
abbrev pub names_after : List (List ℕ) → Tree → List (List ℕ)
names_after names (Member at name) = with_name name names
names_after names (Equal at a b) = names_after (names_after names a) b
names_after names (Not at a) = names_after names a
names_after names (And at a b) = names_after (names_after names a) b
names_after names (Or at a b) = names_after (names_after names a) b
names_after names (Group at a) = names_after names a
names_after names (Concat at a b) = names_after (names_after names a) b
names_after names (IfElse at t a b) = names_after (names_after (names_after names t) a) b
names_after names (Substring at a start count) = names_after names a
names_after names (HexString at a b) = names_after (names_after names a) b
names_after names (Lower at a) = names_after names a
names_after names (Upper at a) = names_after names a
names_after names (IntToText at a) = names_after names a
names_after names t = names

-- the names that an expression asks for, in order of first use, each once
abbrev pub names : Tree → List (List ℕ)
names t = names_after [] t

-- whether `and`, `or` or `ifelse` occurs, so that its program has branches
abbrev pub branching : Tree → Bool
branching (And at a b) = true
branching (Or at a b) = true
branching (IfElse at t a b) = true
branching (Equal at a b) = branching a || branching b
branching (Not at a) = branching a
branching (Group at a) = branching a
branching (Concat at a b) = branching a || branching b
branching (Substring at a start count) = branching a
branching (HexString at a b) = branching a || branching b
branching (Lower at a) = branching a
branching (Upper at a) = branching a
branching (IntToText at a) = branching a
branching t = false
