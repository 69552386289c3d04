-- What a file's definition gives is read again.
use Rattle.std.proofs.Common.{◌≡◌, ℕ, suc, ◌+◌, ◌*◌, ◌^◌, ◌<◌, ◌≤◌, false, List, [], ◌∷◌, ◌++◌, length, Option, Some, None, Result, Ok, refl, sym, ap, ◌∙◌, append_assoc, length-append, arith}
use Rattle.std.specs.Prelude.{ℤ, nat_lt, ◌==◌}
use Rattle.std.specs.Int.{w32, cast_unsigned}
use Rattle.std.specs.Int.RustNames.{FitsSigned}
use Rattle.std.specs.List.{flat_map, AllByRecursion}
use Rattle.std.proofs.lemmas.Bool.{le-ltb, ne_eqb}
use Rattle.std.proofs.Math.Facts.{Fits-of_z}
use Rattle.std.proofs.lemmas.Int.{to_z-of_z}
use Rattle.std.proofs.lemmas.List.{append-nil, take_at, drop_at}
use Rattle.std.proofs.lemmas.Nat.{from_be_bytes-to_be_bytes_2, from_be_bytes-to_be_bytes_4}
use Rattle.byteorder.specs.Endian.{big_bytes, big_number}
use Rattle.kd_wire.specs.declared.field.Field.{Field}
use Rattle.kd_wire.specs.declared.field.Field.TheVariants as fields
use Rattle.kd_token.specs.declared.token.Token.{Token}
use Rattle.kd_token.specs.declared.token.Token.TheVariants as tokens
use Rattle.kd_token.specs.declared.token.Version.{Version}
use Rattle.kd_token.specs.declared.token.Version.TheVariants as versions
use Rattle.kd_token.specs.File.{Code, HasFile, IsName, IsToken, IsBranch, IsCount, IsShort, AreTokens, version_number, long_bytes, signed_bytes, count_bytes, token_bytes, name_bytes, names_bytes, tokens_bytes, file_bytes}
use Rattle.kd_wire.specs.Field.{field_number}
use Rattle.kd_token.specs.declared.fault.FileFault.{FileFault}
use Rattle.kd_token.specs.Reading.{◌>>=◌, Rest, rest, already, many_at, bytes_next, number_next, limited_at, signed_at, magic_at, version_at, name_at, names_at, long_at, field_numbered, field_at, count_after, count_at, substring_at, branch_at, skip_at, plain_token, operands_at, token_at, tokens_at, all_names_at, all_tokens_at, fields_at, file_end, file_at, program_at}

-- bytes that come first
bytes_again : (w : List ℕ) (n : ℕ) (bytes after : List ℕ) → length bytes ≡ n → bytes_next n (rest w (bytes ++ after)) ≡ Ok (bytes, rest w after)
bytes_again w n bytes after len =
    let long : nat_lt (length (bytes ++ after)) n ≡ false = le-ltb _ _ (omega (arith, length-append bytes after)) in
    rw (long, take_at bytes after n len, drop_at bytes after n len) refl

-- a number whose bytes come first
pub number_again : (w : List ℕ) (n x : ℕ) (bytes after : List ℕ) → length bytes ≡ n → big_number n bytes ≡ x → number_next n (rest w (bytes ++ after)) ≡ Ok (x, rest w after)
number_again w n x bytes after len is =
    let long : nat_lt (length (bytes ++ after)) n ≡ false = le-ltb _ _ (omega (arith, length-append bytes after)) in
    rw (long, take_at bytes after n len, drop_at bytes after n len, is) refl

one_again : (w : List ℕ) (x : ℕ) (after : List ℕ) → number_next 1 (rest w (x ∷ after)) ≡ Ok (x, rest w after)
one_again w x after = let same : x * 256 ^ 0 + 0 ≡ x = omega arith in number_again w 1 x (x ∷ []) after refl same

two_again : (w : List ℕ) (x : ℕ) (after : List ℕ) → x < 2 ^ 16 → number_next 2 (rest w (big_bytes 2 x ++ after)) ≡ Ok (x, rest w after)
two_again w x after fits =
    let back = from_be_bytes-to_be_bytes_2 x fits in
    number_again w 2 x (big_bytes 2 x) after refl (omega (arith, back))

four_again : (w : List ℕ) (x : ℕ) (after : List ℕ) → x < 2 ^ 32 → number_next 4 (rest w (big_bytes 4 x ++ after)) ≡ Ok (x, rest w after)
four_again w x after fits =
    let back = from_be_bytes-to_be_bytes_4 x fits in
    number_again w 4 x (big_bytes 4 x) after refl (omega (arith, back))

limited_again : (n most x : ℕ) (r after : Rest) → number_next n r ≡ Ok (x, after) → x ≤ most → limited_at n most r ≡ Ok (x, after)
unfolding limited_at
limited_again n most x r after e few = let less : nat_lt most x ≡ false = le-ltb _ _ few in rw (e, less) refl

unsigned_fits : (z : ℤ) → FitsSigned w32 z → cast_unsigned w32 z < 2 ^ 32
unsigned_fits z fits = let e = Fits-of_z {w = w32} {z = z} fits in omega (arith, e)

signed_again : (w : List ℕ) (z : ℤ) (after : List ℕ) → FitsSigned w32 z → signed_at (rest w (signed_bytes z ++ after)) ≡ Ok (z, rest w after)
signed_again w z after fits = rw (four_again w (cast_unsigned w32 z) after (unsigned_fits z fits), to_z-of_z w32 z fits) refl

pub magic_again : (w after : List ℕ) → magic_at (rest w (big_bytes 4 0x4b34544b ++ after)) ≡ Ok (tt, rest w after)
unfolding magic_at
magic_again w after =
    let bytes : List ℕ = big_bytes 4 0x4b34544b in
    let long : nat_lt (length (bytes ++ after)) 4 ≡ false = le-ltb _ _ (omega (arith, length-append bytes after)) in
    rw (long, four_again w 0x4b34544b after (omega arith)) refl

version_again : (w : List ℕ) (version : Version) (after : List ℕ) → version_at (rest w (version_number version ∷ after)) ≡ Ok (version, rest w after)
unfolding version_at
version_again w versions.One after = rw (one_again w 1 after) refl
version_again w versions.Two after = rw (one_again w 2 after) refl

name_again : (w name after : List ℕ) → IsName name → name_at (rest w (name_bytes name ++ after)) ≡ Ok (name, rest w after)
unfolding name_at
name_again w name after is =
    let no : (length name == 0) ≡ false = ne_eqb (length name) 0 (λ e. omega (arith, e, is.0)) in
    rw (one_again w (length name) (name ++ after), no) (bytes_again w (length name) name after refl)

long_again : (w bytes after : List ℕ) → length bytes < 2 ^ 16 → long_at (rest w (long_bytes bytes ++ after)) ≡ Ok (bytes, rest w after)
unfolding long_at
long_again w bytes after fits =
    ap (λ b. (number_next 2 >>= bytes_next) (rest w b)) (append_assoc (big_bytes 2 (length bytes)) bytes after)
    ∙ rw (two_again w (length bytes) (bytes ++ after) fits) (bytes_again w (length bytes) bytes after refl)

field_again : (w : List ℕ) (field : Field) (after : List ℕ) → field_at (rest w (field_number field ∷ after)) ≡ Ok (field, rest w after)
unfolding field_at field_numbered
field_again w fields.Mac after = rw (one_again w 0 after) refl
field_again w fields.Hlen after = rw (one_again w 1 after) refl
field_again w fields.Htype after = rw (one_again w 2 after) refl
field_again w fields.Ciaddr after = rw (one_again w 3 after) refl
field_again w fields.Giaddr after = rw (one_again w 4 after) refl
field_again w fields.Yiaddr after = rw (one_again w 5 after) refl
field_again w fields.Siaddr after = rw (one_again w 6 after) refl
field_again w fields.MessageType after = rw (one_again w 7 after) refl
field_again w fields.Transaction after = rw (one_again w 8 after) refl
field_again w fields.Length after = rw (one_again w 9 after) refl

count_again : (w : List ℕ) (count : Option ℤ) (after : List ℕ) → IsCount count → count_at (rest w (count_bytes count ++ after)) ≡ Ok (count, rest w after)
unfolding count_at count_after
count_again w None after is = rw (one_again w 1 after) refl
count_again w (Some z) after is = rw (one_again w 0 (signed_bytes z ++ after), signed_again w z after is) refl

substring_again : (w : List ℕ) (start : ℤ) (count : Option ℤ) (after : List ℕ) → FitsSigned w32 start → IsCount count → substring_at (rest w ((signed_bytes start ++ count_bytes count) ++ after)) ≡ Ok (tokens.Substring start count, rest w after)
unfolding substring_at
substring_again w start count after fits is =
    ap (λ b. (signed_at >>= λ s. count_at >>= λ c. already (tokens.Substring s c)) (rest w b)) (append_assoc (signed_bytes start) (count_bytes count) after)
    ∙ rw (signed_again w start (count_bytes count ++ after) fits, count_again w count after is) refl

skip_again : (w : List ℕ) (version : Version) (behind at skip : ℕ) (after : List ℕ) → behind < 2 ^ 16 → IsBranch version behind skip → skip_at version behind at (rest w (big_bytes 2 skip ++ after)) ≡ Ok (skip, rest w after)
unfolding branch_at
skip_again w versions.One behind at skip after few is = absurd is
skip_again w versions.Two behind at skip after few is =
    let less : nat_lt behind skip ≡ false = le-ltb _ _ is in
    rw (two_again w skip after (omega (arith, few, is)), less) refl

-- a token is read if its operands are
behind_opcode : (w : List ℕ) (version : Version) (behind opcode : ℕ) (bytes : List ℕ) (read : Result (Token × Rest) FileFault) → ((at : ℕ) → operands_at version behind opcode at (rest w bytes) ≡ read) → token_at version behind (rest w (opcode ∷ bytes)) ≡ read
unfolding token_at
behind_opcode w version behind opcode bytes read e = rw (one_again w opcode bytes) (e _)

operands_again : (w : List ℕ) (version : Version) (behind : ℕ) (token : Token) (after : List ℕ) → behind < 2 ^ 16 → IsToken version behind token → token_at version behind (rest w (token_bytes token ++ after)) ≡ Ok (token, rest w after)
unfolding operands_at plain_token
operands_again w v n (tokens.PushBytes bytes) after few is = behind_opcode w v n 0x01 (long_bytes bytes ++ after) _ (λ at. rw (long_again w bytes after is) refl)
operands_again w v n (tokens.PushInt x) after few is = behind_opcode w v n 0x02 (big_bytes 4 x ++ after) _ (λ at. rw (four_again w x after is) refl)
operands_again w v n (tokens.PushOption x) after few is = behind_opcode w v n 0x03 (x ∷ after) _ (λ at. rw (one_again w x after) refl)
operands_again w v n (tokens.PushRelay x) after few is = behind_opcode w v n 0x04 (x ∷ after) _ (λ at. rw (one_again w x after) refl)
operands_again w v n (tokens.PushField x) after few is = behind_opcode w v n 0x05 (field_number x ∷ after) _ (λ at. rw (field_again w x after) refl)
operands_again w v n (tokens.OptionExists x) after few is = behind_opcode w v n 0x06 (x ∷ after) _ (λ at. rw (one_again w x after) refl)
operands_again w v n (tokens.RelayExists x) after few is = behind_opcode w v n 0x07 (x ∷ after) _ (λ at. rw (one_again w x after) refl)
operands_again w v n (tokens.Member x) after few is = behind_opcode w v n 0x08 (x ∷ after) _ (λ at. rw (one_again w x after) refl)
operands_again w v n tokens.Equal after few is = behind_opcode w v n 0x09 after _ (λ at. refl)
operands_again w v n tokens.Not after few is = behind_opcode w v n 0x0a after _ (λ at. refl)
operands_again w v n tokens.And after few is = behind_opcode w v n 0x0b after _ (λ at. refl)
operands_again w v n tokens.Or after few is = behind_opcode w v n 0x0c after _ (λ at. refl)
operands_again w v n tokens.IfElse after few is = behind_opcode w v n 0x0d after _ (λ at. refl)
operands_again w v n (tokens.Substring start count) after few is = behind_opcode w v n 0x0e ((signed_bytes start ++ count_bytes count) ++ after) _ (λ at. substring_again w start count after is.0 is.1)
operands_again w v n tokens.Concat after few is = behind_opcode w v n 0x0f after _ (λ at. refl)
operands_again w v n tokens.HexString after few is = behind_opcode w v n 0x10 after _ (λ at. refl)
operands_again w v n tokens.Lower after few is = behind_opcode w v n 0x11 after _ (λ at. refl)
operands_again w v n tokens.Upper after few is = behind_opcode w v n 0x12 after _ (λ at. refl)
operands_again w v n tokens.IntToText after few is = behind_opcode w v n 0x13 after _ (λ at. refl)
operands_again w v n tokens.IntBytes after few is = behind_opcode w v n 0x14 after _ (λ at. refl)
operands_again w v n (tokens.Branch d) after few is = behind_opcode w v n 0x20 (big_bytes 2 d ++ after) _ (λ at. rw (skip_again w v n at d after few is) refl)
operands_again w v n (tokens.PopBranchFalse d) after few is = behind_opcode w v n 0x21 (big_bytes 2 d ++ after) _ (λ at. rw (skip_again w v n at d after few is) refl)
operands_again w v n (tokens.BranchFalseElsePop d) after few is = behind_opcode w v n 0x22 (big_bytes 2 d ++ after) _ (λ at. rw (skip_again w v n at d after few is) refl)
operands_again w v n (tokens.BranchTrueElsePop d) after few is = behind_opcode w v n 0x23 (big_bytes 2 d ++ after) _ (λ at. rw (skip_again w v n at d after few is) refl)

-- names, and then tokens, one after another
names_one_by_one : (w : List ℕ) (names : List (List ℕ)) (after : List ℕ) → AllByRecursion IsName names → names_at (length names) (rest w (flat_map name_bytes names ++ after)) ≡ Ok (names, rest w after)
unfolding many_at
names_one_by_one w [] after all = refl
names_one_by_one w (name ∷ names) after all =
    ap (λ b. names_at (suc (length names)) (rest w b)) (append_assoc (name_bytes name) (flat_map name_bytes names) after)
    ∙ rw (name_again w name (flat_map name_bytes names ++ after) all.0, names_one_by_one w names after all.1) refl

tokens_one_by_one : (w : List ℕ) (version : Version) (list : List Token) (after : List ℕ) → length list ≤ 1024 → AreTokens version list → tokens_at version (length list) (rest w (flat_map token_bytes list ++ after)) ≡ Ok (list, rest w after)
unfolding many_at
tokens_one_by_one w version [] after few all = refl
tokens_one_by_one w version (token ∷ list) after few all =
    ap (λ b. tokens_at version (suc (length list)) (rest w b)) (append_assoc (token_bytes token) (flat_map token_bytes list) after)
    ∙ rw (operands_again w version (length list) token (flat_map token_bytes list ++ after) (omega (arith, few)) all.0, tokens_one_by_one w version list after (omega (arith, few)) all.1) refl

all_names_again : (w : List ℕ) (names : List (List ℕ)) (after : List ℕ) → length names ≤ 64 → AllByRecursion IsName names → all_names_at (rest w (names_bytes names ++ after)) ≡ Ok (names, rest w after)
unfolding all_names_at
all_names_again w names after few all =
    rw (limited_again 1 64 (length names) (rest w (names_bytes names ++ after)) (rest w (flat_map name_bytes names ++ after)) (one_again w (length names) (flat_map name_bytes names ++ after)) few) (names_one_by_one w names after all)

all_tokens_again : (w : List ℕ) (version : Version) (list : List Token) (after : List ℕ) → length list ≤ 1024 → AreTokens version list → all_tokens_at version (rest w (tokens_bytes list ++ after)) ≡ Ok (list, rest w after)
unfolding all_tokens_at
all_tokens_again w version list after few all =
    let behind : List ℕ = flat_map token_bytes list ++ after in
    ap (λ b. (limited_at 2 1024 >>= tokens_at version) (rest w b)) (append_assoc (big_bytes 2 (length list)) (flat_map token_bytes list) after)
    ∙ rw (limited_again 2 1024 (length list) (rest w (big_bytes 2 (length list) ++ behind)) (rest w behind) (two_again w (length list) behind (omega (arith, few))) few) (tokens_one_by_one w version list after few all)

-- a program's file is read as the program
file_again : (w : List ℕ) (p : Code) → HasFile p → file_at (rest w (file_bytes p)) ≡ Ok (p, rest w [])
unfolding file_at fields_at file_end
file_again w p has =
    let tail_4 : List ℕ = tokens_bytes p.tokens in
    let tail_3 : List ℕ = names_bytes p.names ++ tail_4 in
    let tail_2 : List ℕ = big_bytes 2 p.bound ++ tail_3 in
    let tail_1 : List ℕ = big_bytes 2 p.steps ++ (p.depth ∷ tail_2) in
    let grouped : file_bytes p ≡ big_bytes 4 0x4b34544b ++ (version_number p.version ∷ tail_1) = simp append_assoc in
    let none : tokens_bytes p.tokens ≡ tokens_bytes p.tokens ++ [] = sym (append-nil _) in
    ap (λ b. file_at (rest w b)) grouped ∙ rw (
      magic_again w (version_number p.version ∷ tail_1),
      version_again w p.version tail_1,
      limited_again 2 1024 p.steps (rest w tail_1) (rest w (p.depth ∷ tail_2)) (two_again w p.steps (p.depth ∷ tail_2) (omega (arith, has.steps))) has.steps,
      limited_again 1 64 p.depth (rest w (p.depth ∷ tail_2)) (rest w tail_2) (one_again w p.depth tail_2) has.depth,
      two_again w p.bound tail_3 has.bound,
      all_names_again w p.names tail_4 has.few_names has.names,
      ap (λ b. all_tokens_at p.version (rest w b)) none ∙ all_tokens_again w p.version p.tokens [] has.few_tokens has.tokens,
    ) refl

pub program_again : (p : Code) → HasFile p → program_at (file_bytes p) ≡ Ok p
program_again p has = rw (file_again (file_bytes p) p has) refl

-- the byte string of a file's token has a 2-byte length
pub token_short : (version : Version) (behind : ℕ) (token : Token) → IsToken version behind token → IsShort token
token_short version behind (tokens.PushBytes bytes) is = is
token_short version behind token is = tt

-- the same for each token of a list
pub are_short : (version : Version) (list : List Token) → AreTokens version list → AllByRecursion IsShort list
are_short version [] all = tt
are_short version (token ∷ list) all = (token_short version (length list) token all.0, are_short version list all.1)
