-- The program of a class test that is over no limit has a token file.
use Rattle.std.proofs.Common.{◌≡◌, ℕ, ◌+◌, ◌≤◌, Bool, true, false, List, [], ◌∷◌, ◌++◌, length, Option, Some, None, refl, sym, subst, arith, length-append}
use Rattle.std.specs.Prelude.{◌||◌, nat_lt, if◌then◌else◌}
use Rattle.std.specs.List.{AllByRecursion}
use Rattle.std.proofs.lemmas.Bool.{ltb-false}
use Rattle.std.proofs.lemmas.List.{append_assoc, append-nil}
use Rattle.kd_compile.specs.Compiled.{first_over, version_for}
use Rattle.kd_compile.specs.Measures.{number_tree, four_more, stack_depth, greatest, names_after, names, branching}
use Rattle.kd_compile.specs.Measures.{token_count as size}
use Rattle.kd_compile.specs.Tokens.{in_bytes, code_of, program_for}
use Rattle.kd_compile.specs.declared.fault.CompileFault.{CompileFault}
use Rattle.kd_compile.specs.declared.fault.CompileFault.TheVariants as faults
use Rattle.kd_compile.proofs.Ranges.{HasRanges, has_ranges, steps_le}
use Rattle.kd_expr.specs.Grammar.{HasText}
use Rattle.kd_expr.specs.Tree.{Tree, Literal, Int, OptionValue, RelayValue, FieldValue, OptionExists, RelayExists, Member, Equal, Not, And, Or, Group, Concat, IfElse, Substring, HexString, Lower, Upper, IntToText}
use Rattle.kd_machine.specs.Held.{with_name}
use Rattle.kd_machine.specs.Parts.{is_held}
use Rattle.kd_token.specs.File.{HasFile, IsName, IsBranch, IsToken, AreTokens}
use Rattle.kd_token.specs.declared.token.Token.{Token}
use Rattle.kd_token.specs.declared.token.Token.TheVariants as tokens
use Rattle.kd_token.specs.declared.token.Version.{Version}
use Rattle.kd_token.specs.declared.token.Version.TheVariants as versions

-- the tokens of an operand where a byte string is needed
abbrev pub operand : List (List ℕ) → Tree → List Token
operand names t = code_of names t ++ in_bytes t

in_bytes_length : (t : Tree) → length (in_bytes t) ≡ four_more t
in_bytes_length t = by (number_tree t) where
  by : (b : Bool) → length (if b then tokens.IntBytes ∷ [] else []) ≡ (if b then 1 else 0)
  by true = refl
  by false = refl

-- a tree has as many tokens as its measure says
pub code_length : (names : List (List ℕ)) (t : Tree) → length (code_of names t) ≡ size t
code_length names (Literal at bytes) = refl
code_length names (Int at n) = refl
code_length names (OptionValue at code) = refl
code_length names (RelayValue at code) = refl
code_length names (FieldValue at field) = refl
code_length names (OptionExists at code) = refl
code_length names (RelayExists at code) = refl
code_length names (Member at name) = refl
code_length names (Equal at a b) = omega (arith, length-append {A = Token}, code_length names a, in_bytes_length a, code_length names b, in_bytes_length b)
code_length names (Not at a) = omega (arith, length-append {A = Token}, code_length names a)
code_length names (And at a b) = omega (arith, length-append {A = Token}, code_length names a, code_length names b)
code_length names (Or at a b) = omega (arith, length-append {A = Token}, code_length names a, code_length names b)
code_length names (Group at a) = code_length names a
code_length names (Concat at a b) = omega (arith, length-append {A = Token}, code_length names a, in_bytes_length a, code_length names b, in_bytes_length b)
code_length names (IfElse at t a b) =
    omega (arith, length-append {A = Token}, code_length names t, code_length names a, in_bytes_length a, code_length names b, in_bytes_length b)
code_length names (Substring at a start count) = omega (arith, length-append {A = Token}, code_length names a, in_bytes_length a)
code_length names (HexString at a b) = omega (arith, length-append {A = Token}, code_length names a, in_bytes_length a, code_length names b, in_bytes_length b)
code_length names (Lower at a) = omega (arith, length-append {A = Token}, code_length names a, in_bytes_length a)
code_length names (Upper at a) = omega (arith, length-append {A = Token}, code_length names a, in_bytes_length a)
code_length names (IntToText at a) = omega (arith, length-append {A = Token}, code_length names a)

-- an operand has one more token for the four bytes of a number
pub operand_length : (names : List (List ℕ)) (t : Tree) → length (operand names t) ≡ size t + four_more t
operand_length names t = omega (arith, length-append {A = Token}, code_length names t, in_bytes_length t)

-- tokens that fit in a file before others that do
abbrev Adds : Version → List Token → Type 0
Adds version list = (rest : List Token) → AreTokens version rest → AreTokens version (list ++ rest)

adds_both : (version : Version) (first second : List Token) → Adds version first → Adds version second → Adds version (first ++ second)
adds_both version first second a b rest r =
    let P : List Token → Type 0 = AreTokens version in
    subst P (sym (append_assoc first second rest)) (a (second ++ rest) (b rest r))

-- a branch over existing tokens
branch_fits : (version : Version) (behind skip : ℕ) → version ≡ versions.Two → skip ≤ behind → IsBranch version behind skip
branch_fits version behind skip two le = let P : Version → Type 0 = λ v. IsBranch v behind skip in subst P (sym two) le

-- a version allows the branches of a tree
abbrev Allows : Version → Tree → Type 0
Allows version t = branching t ≡ true → version ≡ versions.Two

or_first : (x y : Bool) → x ≡ true → (x || y) ≡ true
or_first true y e = refl
or_first false y e = absurd (cc)

or_second : (x y : Bool) → y ≡ true → (x || y) ≡ true
or_second true y e = refl
or_second false y e = e

adds_in_bytes : (version : Version) (t : Tree) → Adds version (in_bytes t)
adds_in_bytes version t = by (number_tree t) where
  by : (b : Bool) → Adds version (if b then tokens.IntBytes ∷ [] else [])
  by true rest r = (tt, r)
  by false rest r = r

adds_operand : (version : Version) (names : List (List ℕ)) (t : Tree) → Adds version (code_of names t) → Adds version (operand names t)
adds_operand version names t a = adds_both version (code_of names t) (in_bytes t) a (adds_in_bytes version t)

-- two operands and the token that takes them
adds_two : (version : Version) (names : List (List ℕ)) (a b : Tree) (token : Token) → Adds version (code_of names a) → Adds version (code_of names b) → ((behind : ℕ) → IsToken version behind token)
    → Adds version (operand names a ++ operand names b ++ token ∷ [])
adds_two version names a b token first second last =
    adds_both version (operand names a ++ operand names b) (token ∷ []) (adds_both version (operand names a) (operand names b) (adds_operand version names a first) (adds_operand version names b second)) (λ rest r. (last (length rest), r))

-- one operand and the token that takes it
adds_one : (version : Version) (names : List (List ℕ)) (a : Tree) (token : Token) → Adds version (code_of names a) → ((behind : ℕ) → IsToken version behind token) → Adds version (operand names a ++ token ∷ [])
adds_one version names a token first last = adds_both version (operand names a) (token ∷ []) (adds_operand version names a first) (λ rest r. (last (length rest), r))

-- an operand as it is and the token that takes it
adds_bare : (version : Version) (names : List (List ℕ)) (a : Tree) (token : Token) → Adds version (code_of names a) → ((behind : ℕ) → IsToken version behind token) → Adds version (code_of names a ++ token ∷ [])
adds_bare version names a token first last = adds_both version (code_of names a) (token ∷ []) first (λ rest r. (last (length rest), r))

-- tokens after a branch that skips no more than them
adds_behind : (version : Version) (skip : ℕ) (list : List Token) → version ≡ versions.Two → skip ≤ length list → Adds version list → (rest : List Token) → AreTokens version rest → IsBranch version (length (list ++ rest)) skip × AreTokens version (list ++ rest)
adds_behind version skip list two le a rest r = (branch_fits version (length (list ++ rest)) skip two (omega (arith, length-append list rest, le)), a rest r)

adds_code : (version : Version) (names : List (List ℕ)) (t : Tree) → Allows version t → greatest t ≤ 65535 → HasRanges t → Adds version (code_of names t)
adds_code version names (Literal at bytes) w g r = λ rest h. (omega (arith, g), h)
adds_code version names (Int at n) w g r = λ rest h. (r, h)
adds_code version names (OptionValue at code) w g r = λ rest h. (tt, h)
adds_code version names (RelayValue at code) w g r = λ rest h. (tt, h)
adds_code version names (FieldValue at field) w g r = λ rest h. (tt, h)
adds_code version names (OptionExists at code) w g r = λ rest h. (tt, h)
adds_code version names (RelayExists at code) w g r = λ rest h. (tt, h)
adds_code version names (Member at name) w g r = λ rest h. (tt, h)
adds_code version names (Equal at a b) w g r =
    adds_two version names a b tokens.Equal (adds_code version names a (λ e. w (or_first (branching a) (branching b) e)) (omega (arith, g)) r.0) (adds_code version names b (λ e. w (or_second (branching a) (branching b) e)) (omega (arith, g)) r.1) (λ n. tt)
adds_code version names (Not at a) w g r = adds_bare version names a tokens.Not (adds_code version names a w g r) (λ n. tt)
adds_code version names (And at a b) w g r =
    let behind = adds_behind version (size b) (code_of names b) (w refl) (omega (arith, code_length names b)) (adds_code version names b (λ e. w refl) (omega (arith, g)) r.1) in
    adds_both version (code_of names a) (tokens.BranchFalseElsePop (size b) ∷ code_of names b) (adds_code version names a (λ e. w refl) (omega (arith, g)) r.0) behind
adds_code version names (Or at a b) w g r =
    let behind = adds_behind version (size b) (code_of names b) (w refl) (omega (arith, code_length names b)) (adds_code version names b (λ e. w refl) (omega (arith, g)) r.1) in
    adds_both version (code_of names a) (tokens.BranchTrueElsePop (size b) ∷ code_of names b) (adds_code version names a (λ e. w refl) (omega (arith, g)) r.0) behind
adds_code version names (Group at a) w g r = adds_code version names a w g r
adds_code version names (Concat at a b) w g r =
    adds_two version names a b tokens.Concat (adds_code version names a (λ e. w (or_first (branching a) (branching b) e)) (omega (arith, g)) r.0) (adds_code version names b (λ e. w (or_second (branching a) (branching b) e)) (omega (arith, g)) r.1) (λ n. tt)
adds_code version names (IfElse at t a b) w g r =
    let else_arm = adds_behind version (size b + four_more b) (operand names b) (w refl) (omega (arith, operand_length names b)) (adds_operand version names b (adds_code version names b (λ e. w refl) (omega (arith, g)) r.2)) in
    let arms : List Token = operand names a ++ tokens.Branch (size b + four_more b) ∷ operand names b in
    let both = adds_both version (operand names a) (tokens.Branch (size b + four_more b) ∷ operand names b) (adds_operand version names a (adds_code version names a (λ e. w refl) (omega (arith, g)) r.1)) else_arm in
    let less : size a + four_more a + 1 ≤ length arms = omega (arith, length-append {A = Token}, operand_length names a) in
    let behind = adds_behind version (size a + four_more a + 1) arms (w refl) less both in
    adds_both version (code_of names t) (tokens.PopBranchFalse (size a + four_more a + 1) ∷ arms) (adds_code version names t (λ e. w refl) (omega (arith, g)) r.0) behind
adds_code version names (Substring at a start count) w g r = adds_one version names a (tokens.Substring start count) (adds_code version names a w g r.1) (λ n. r.0)
adds_code version names (HexString at a b) w g r =
    adds_two version names a b tokens.HexString (adds_code version names a (λ e. w (or_first (branching a) (branching b) e)) (omega (arith, g)) r.0) (adds_code version names b (λ e. w (or_second (branching a) (branching b) e)) (omega (arith, g)) r.1) (λ n. tt)
adds_code version names (Lower at a) w g r = adds_one version names a tokens.Lower (adds_code version names a w g r) (λ n. tt)
adds_code version names (Upper at a) w g r = adds_one version names a tokens.Upper (adds_code version names a w g r) (λ n. tt)
adds_code version names (IntToText at a) w g r = adds_bare version names a tokens.IntToText (adds_code version names a w (omega (arith, g)) r) (λ n. tt)

-- the tokens of a tree fit in a file
are_tokens : (t : Tree) → greatest t ≤ 65535 → HasRanges t → AreTokens (version_for t) (code_of (names t) t)
are_tokens t g r =
    let P : List Token → Type 0 = AreTokens (version_for t) in
    subst P (append-nil (code_of (names t) t)) (adds_code (version_for t) (names t) t (second (branching t)) g r [] tt) where
      second : (b : Bool) → b ≡ true → (if b then versions.Two else versions.One) ≡ versions.Two
      second true e = refl
      second false e = absurd (cc)

all_behind : (names : List (List ℕ)) (name : List ℕ) → AllByRecursion IsName names → IsName name → AllByRecursion IsName (names ++ name ∷ [])
all_behind [] name all is = (is, tt)
all_behind (x ∷ names) name all is = (all.0, all_behind names name all.1 is)

all_with : (name : List ℕ) (names : List (List ℕ)) → AllByRecursion IsName names → IsName name → AllByRecursion IsName (with_name name names)
all_with name names all is = by (is_held name names) where
  by : (b : Bool) → AllByRecursion IsName (if b then names else names ++ name ∷ [])
  by true = all
  by false = all_behind names name all is

all_after : (t : Tree) (names : List (List ℕ)) → HasRanges t → AllByRecursion IsName names → AllByRecursion IsName (names_after names t)
all_after (Literal at bytes) names r all = all
all_after (Int at n) names r all = all
all_after (OptionValue at code) names r all = all
all_after (RelayValue at code) names r all = all
all_after (FieldValue at field) names r all = all
all_after (OptionExists at code) names r all = all
all_after (RelayExists at code) names r all = all
all_after (Member at name) names r all = all_with name names all r
all_after (Equal at a b) names r all = all_after b (names_after names a) r.1 (all_after a names r.0 all)
all_after (Not at a) names r all = all_after a names r all
all_after (And at a b) names r all = all_after b (names_after names a) r.1 (all_after a names r.0 all)
all_after (Or at a b) names r all = all_after b (names_after names a) r.1 (all_after a names r.0 all)
all_after (Group at a) names r all = all_after a names r all
all_after (Concat at a b) names r all = all_after b (names_after names a) r.1 (all_after a names r.0 all)
all_after (IfElse at t a b) names r all = all_after b (names_after (names_after names t) a) r.2 (all_after a (names_after names t) r.1 (all_after t names r.0 all))
all_after (Substring at a start count) names r all = all_after a names r.1 all
all_after (HexString at a b) names r all = all_after b (names_after names a) r.1 (all_after a names r.0 all)
all_after (Lower at a) names r all = all_after a names r all
all_after (Upper at a) names r all = all_after a names r all
all_after (IntToText at a) names r all = all_after a names r all

-- a tree whose measures are within the limits
pub record IsInLimits (t : Tree) : Type 0 where
  pub few_tokens : size t ≤ 1024
  pub shallow : stack_depth t ≤ 64
  pub short : greatest t ≤ 65535
  pub few_names : length (names t) ≤ 64

not_over : (b : Bool) (fault : CompileFault) (rest : Option CompileFault) → (if b then Some fault else rest) ≡ None → (b ≡ false) × (rest ≡ None)
not_over true fault rest e = absurd (cc)
not_over false fault rest e = (refl, e)

-- a tree that is over no limit
pub in_limits : (t : Tree) → first_over t ≡ None → IsInLimits t
in_limits t e =
    let first = not_over (nat_lt 1024 (size t)) faults.TooManyTokens _ e in
    let second = not_over (nat_lt 64 (stack_depth t)) faults.TooDeep _ first.1 in
    let third = not_over (nat_lt 65535 (greatest t)) faults.TooLong _ second.1 in
    let last = not_over (nat_lt 64 (length (names t))) faults.TooManyNames _ third.1 in
    record {
      few_tokens = ltb-false 1024 (size t) first.0;
      shallow = ltb-false 64 (stack_depth t) second.0;
      short = ltb-false 65535 (greatest t) third.0;
      few_names = ltb-false 64 (length (names t)) last.0;
    }

-- the program of a tree that is over no limit has a file
pub has_file : (t : Tree) → HasText t → first_over t ≡ None → HasFile (program_for t)
has_file t text e =
    let within = in_limits t e in
    let ranges = has_ranges t text in
    let few = within.few_tokens in
    let short = within.short in
    record {
      steps = omega (arith, steps_le t, few);
      depth = within.shallow;
      bound = omega (arith, short);
      few_names = within.few_names;
      names = all_after t [] ranges tt;
      few_tokens = omega (arith, code_length (names t) t, few);
      tokens = are_tokens t within.short ranges;
    }
