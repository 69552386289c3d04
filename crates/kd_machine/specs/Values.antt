-- The values on a machine's stack, the top first, and how they are popped.
use Rattle.std.specs.Prelude.{ℕ, Bool, List, [], ◌∷◌, Option, Some, None}
use Rattle.kd_machine.specs.Val.{Val, Truth, Number, Text, size}
use Rattle.kd_machine.specs.declared.value.Value.{Value}
use Rattle.kd_machine.specs.declared.value.Value.TheVariants as values

-- what a value of the code means
abbrev pub stands_for : Value → Val
stands_for (values.Bool b) = Truth b
stands_for (values.Int n) = Number n
stands_for (values.Slice bytes) = Text bytes.now
stands_for (values.Small bytes) = Text bytes
stands_for (values.Owned bytes) = Text bytes.value

-- the byte string on top, and the stack below it
abbrev pub take_text : List Val → Option (List ℕ × List Val)
take_text [] = None
take_text (Text bytes ∷ s) = Some (bytes, s)
take_text (Truth b ∷ s) = None
take_text (Number n ∷ s) = None

-- the truth value on top, and the stack below it
abbrev pub take_truth : List Val → Option (Bool × List Val)
take_truth [] = None
take_truth (Truth b ∷ s) = Some (b, s)
take_truth (Number n ∷ s) = None
take_truth (Text bytes ∷ s) = None

-- the number on top, and the stack below it
abbrev pub take_number : List Val → Option (ℕ × List Val)
take_number [] = None
take_number (Number n ∷ s) = Some (n, s)
take_number (Truth b ∷ s) = None
take_number (Text bytes ∷ s) = None

-- the length of the value on top, 0 if the stack is empty
abbrev pub size_of_top : List Val → ℕ
size_of_top [] = 0
size_of_top (v ∷ s) = size v
