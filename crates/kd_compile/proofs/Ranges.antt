-- The numbers of a class test that has a text: what its nodes hold, and how many tokens its program
-- has.
use Rattle.std.proofs.Common.{ℕ, zero, suc, ◌+◌, ◌*◌, ◌≤◌, ◌<◌, ◌^◌, Bool, true, false, List, ◌∷◌, ◌++◌, length, Option, arith, length-append}
use Rattle.std.specs.Prelude.{ℤ, if◌then◌else◌}
use Rattle.std.specs.Int.{w32}
use Rattle.std.specs.Int.RustNames.{FitsSigned}
use Rattle.kd_compile.specs.Measures.{number_tree, four_more, step_count, stack_depth}
use Rattle.kd_compile.specs.Measures.{token_count as size}
use Rattle.kd_expr.specs.Grammar.{Spells, Level, or_one, or_more, and_one, and_more, not_none, negated, compare_one, equal, sum_one, sum_more, string, hexadecimal, address, number, group, option_hex, option_exists, relay_hex, relay_exists, field, packet_length, member, substring, concat, ifelse, hexstring, lcase, ucase, uint32totext, IsSigned, plain, below, IsLength, counted, whole, HasText}
use Rattle.kd_expr.specs.Address.{IsAddress, four}
use Rattle.kd_expr.specs.Lexical.{Lexeme, Scans, finished, blank, token, bad, Word, string_word, hex_word, address_word, number_word, minus_word, name_word, sign_word, equal_word}
use Rattle.kd_expr.specs.Tree.{Tree, Literal, Int, OptionValue, RelayValue, FieldValue, OptionExists, RelayExists, Member, Equal, Not, And, Or, Group, Concat, IfElse, Substring, HexString, Lower, Upper, IntToText}
use Rattle.kd_token.specs.File.{IsName, IsCount}

-- each number, name and substring of a tree is one that a token can hold
abbrev pub HasRanges : Tree → Type 0
HasRanges (Literal at bytes) = Unit {0}
HasRanges (Int at n) = n < 2 ^ 32
HasRanges (OptionValue at code) = Unit {0}
HasRanges (RelayValue at code) = Unit {0}
HasRanges (FieldValue at part) = Unit {0}
HasRanges (OptionExists at code) = Unit {0}
HasRanges (RelayExists at code) = Unit {0}
HasRanges (Member at name) = IsName name
HasRanges (Equal at a b) = HasRanges a × HasRanges b
HasRanges (Not at a) = HasRanges a
HasRanges (And at a b) = HasRanges a × HasRanges b
HasRanges (Or at a b) = HasRanges a × HasRanges b
HasRanges (Group at a) = HasRanges a
HasRanges (Concat at a b) = HasRanges a × HasRanges b
HasRanges (IfElse at t a b) = HasRanges t × HasRanges a × HasRanges b
HasRanges (Substring at a start count) = (FitsSigned w32 start × IsCount count) × HasRanges a
HasRanges (HexString at a b) = HasRanges a × HasRanges b
HasRanges (Lower at a) = HasRanges a
HasRanges (Upper at a) = HasRanges a
HasRanges (IntToText at a) = HasRanges a

signed_fits : {x : Lexeme} {z : ℤ} → IsSigned x z → FitsSigned w32 z
signed_fits (plain h) = record { sfits = h }
signed_fits (below {n = zero} h) = record { sfits = omega arith }
signed_fits (below {n = suc n} h) = record { sfits = omega (arith, h) }

count_fits : {x : Lexeme} {count : Option ℤ} → IsLength x count → IsCount count
count_fits (counted s) = signed_fits s
count_fits whole = tt

ranges_of : {l : Level} {n : ℕ} {us : List Lexeme} {t : Tree} → Spells l n us t → HasRanges t
ranges_of (or_one s) = ranges_of s
ranges_of (or_more o s r) = (ranges_of s, ranges_of r)
ranges_of (and_one s) = ranges_of s
ranges_of (and_more o s r) = (ranges_of s, ranges_of r)
ranges_of (not_none s) = ranges_of s
ranges_of (negated s) = ranges_of s
ranges_of (compare_one s) = ranges_of s
ranges_of (equal o s r) = (ranges_of s, ranges_of r)
ranges_of (sum_one s) = ranges_of s
ranges_of (sum_more o s r) = (ranges_of s, ranges_of r)
ranges_of string = tt
ranges_of hexadecimal = tt
ranges_of address = tt
ranges_of (number h) = h
ranges_of (group c s) = ranges_of s
ranges_of (option_hex i) = tt
ranges_of (option_exists i) = tt
ranges_of (relay_hex h) = tt
ranges_of (relay_exists h) = tt
ranges_of (field h) = tt
ranges_of packet_length = tt
ranges_of (member least most) = (least, most)
ranges_of (substring c d e s i j) = ((signed_fits i, count_fits j), ranges_of s)
ranges_of (concat c d s r) = (ranges_of s, ranges_of r)
ranges_of (ifelse c d e s r q) = (ranges_of s, ranges_of r, ranges_of q)
ranges_of (hexstring c d s r) = (ranges_of s, ranges_of r)
ranges_of (lcase c s) = ranges_of s
ranges_of (ucase c s) = ranges_of s
ranges_of (uint32totext c s) = ranges_of s

-- a tree with a text has only such numbers, names and substrings
pub has_ranges : (t : Tree) → HasText t → HasRanges t
has_ranges t h = ranges_of h.parses.spelled

pub four_le : (t : Tree) → four_more t ≤ 1
four_le t = by (number_tree t) where
  by : (b : Bool) → (if b then 1 else 0) ≤ 1
  by true = omega arith
  by false = omega arith

-- a tree's program has at most four tokens for each token of its text
size_le : {l : Level} {n : ℕ} {us : List Lexeme} {t : Tree} → Spells l n us t → size t + 2 ≤ 4 * length us
size_le (or_one s) = size_le s
size_le (or_more o s r) = omega (arith, length-append {A = Lexeme}, size_le s, size_le r)
size_le (and_one s) = size_le s
size_le (and_more o s r) = omega (arith, length-append {A = Lexeme}, size_le s, size_le r)
size_le (not_none s) = size_le s
size_le (negated s) = omega (arith, size_le s)
size_le (compare_one s) = size_le s
size_le (equal o {a = a} {b = b} s r) = omega (arith, length-append {A = Lexeme}, size_le s, size_le r, four_le a, four_le b)
size_le (sum_one s) = size_le s
size_le (sum_more o {a = a} {b = b} s r) = omega (arith, length-append {A = Lexeme}, size_le s, size_le r, four_le a, four_le b)
size_le string = omega arith
size_le hexadecimal = omega arith
size_le address = omega arith
size_le (number h) = omega arith
size_le (group c s) = omega (arith, length-append {A = Lexeme}, size_le s)
size_le (option_hex i) = omega arith
size_le (option_exists i) = omega arith
size_le (relay_hex h) = omega arith
size_le (relay_exists h) = omega arith
size_le (field h) = omega arith
size_le packet_length = omega arith
size_le (member least most) = omega arith
size_le (substring c d e {a = a} s i j) = omega (arith, length-append {A = Lexeme}, size_le s, four_le a)
size_le (concat c d {a = a} {b = b} s r) = omega (arith, length-append {A = Lexeme}, size_le s, size_le r, four_le a, four_le b)
size_le (ifelse c d e {a = a} {b = b} s r q) = omega (arith, length-append {A = Lexeme}, size_le s, size_le r, size_le q, four_le a, four_le b)
size_le (hexstring c d {a = a} {b = b} s r) = omega (arith, length-append {A = Lexeme}, size_le s, size_le r, four_le a, four_le b)
size_le (lcase c {a = a} s) = omega (arith, length-append {A = Lexeme}, size_le s, four_le a)
size_le (ucase c {a = a} s) = omega (arith, length-append {A = Lexeme}, size_le s, four_le a)
size_le (uint32totext c s) = omega (arith, length-append {A = Lexeme}, size_le s)

address_some : {text a : List ℕ} → IsAddress text a → 1 ≤ length text
address_some (four s t u v p q r w) = let some = p.some in omega (arith, some, length-append s (46 ∷ (t ++ 46 ∷ (u ++ 46 ∷ v))))

-- a word has at least one byte
word_some : {at : ℕ} {word rest : List ℕ} {x : Lexeme} → Word at word rest x → 1 ≤ length word
word_some (string_word h) = omega arith
word_some (hex_word h each ends) = omega arith
word_some (address_word h ends) = address_some h
word_some (number_word h ends) = omega arith
word_some (minus_word h ends) = omega arith
word_some (name_word h each ends) = omega arith
word_some (sign_word h) = omega arith
word_some equal_word = omega arith

scanned_le : {at : ℕ} {bytes : List ℕ} {ts : List Lexeme} → Scans at bytes ts → length ts ≤ length bytes
scanned_le finished = omega arith
scanned_le (blank is s) = omega (arith, scanned_le s)
scanned_le (token word rest w s) = omega (arith, scanned_le s, word_some w, length-append word rest)
scanned_le (bad solid none) = omega arith

-- a tree with a text has few tokens
pub few_tokens : (t : Tree) → HasText t → size t ≤ 16382
few_tokens t h = omega (arith, size_le h.parses.spelled, scanned_le h.parses.scanned, h.parses.short)

-- no more tokens run than there are
pub steps_le : (t : Tree) → step_count t ≤ size t
steps_le (Literal at bytes) = omega arith
steps_le (Int at n) = omega arith
steps_le (OptionValue at code) = omega arith
steps_le (RelayValue at code) = omega arith
steps_le (FieldValue at part) = omega arith
steps_le (OptionExists at code) = omega arith
steps_le (RelayExists at code) = omega arith
steps_le (Member at name) = omega arith
steps_le (Equal at a b) = omega (arith, steps_le a, steps_le b)
steps_le (Not at a) = omega (arith, steps_le a)
steps_le (And at a b) = omega (arith, steps_le a, steps_le b)
steps_le (Or at a b) = omega (arith, steps_le a, steps_le b)
steps_le (Group at a) = omega (arith, steps_le a)
steps_le (Concat at a b) = omega (arith, steps_le a, steps_le b)
steps_le (IfElse at t a b) = omega (arith, steps_le t, steps_le a, steps_le b)
steps_le (Substring at a start count) = omega (arith, steps_le a)
steps_le (HexString at a b) = omega (arith, steps_le a, steps_le b)
steps_le (Lower at a) = omega (arith, steps_le a)
steps_le (Upper at a) = omega (arith, steps_le a)
steps_le (IntToText at a) = omega (arith, steps_le a)

-- no more values are on the stack than there are tokens
pub depth_le : (t : Tree) → stack_depth t ≤ size t
depth_le (Literal at bytes) = omega arith
depth_le (Int at n) = omega arith
depth_le (OptionValue at code) = omega arith
depth_le (RelayValue at code) = omega arith
depth_le (FieldValue at part) = omega arith
depth_le (OptionExists at code) = omega arith
depth_le (RelayExists at code) = omega arith
depth_le (Member at name) = omega arith
depth_le (Equal at a b) = omega (arith, depth_le a, depth_le b)
depth_le (Not at a) = omega (arith, depth_le a)
depth_le (And at a b) = omega (arith, depth_le a, depth_le b)
depth_le (Or at a b) = omega (arith, depth_le a, depth_le b)
depth_le (Group at a) = omega (arith, depth_le a)
depth_le (Concat at a b) = omega (arith, depth_le a, depth_le b)
depth_le (IfElse at t a b) = omega (arith, depth_le t, depth_le a, depth_le b)
depth_le (Substring at a start count) = omega (arith, depth_le a)
depth_le (HexString at a b) = omega (arith, depth_le a, depth_le b)
depth_le (Lower at a) = omega (arith, depth_le a)
depth_le (Upper at a) = omega (arith, depth_le a)
depth_le (IntToText at a) = omega (arith, depth_le a)
