-- What a file's bytes are read as, and which fault comes if they are not a file.
use Rattle.std.proofs.Common.{◌≡◌, ℕ, ◌+◌, ◌<◌, ◌≤◌, Bool, true, false, List, [], ◌∷◌, ◌++◌, length, Some, None, Result, Ok, Err, refl, sym, ap, subst, ◌∙◌, append_assoc, length-append, arith, inl, inr}
use Rattle.std.specs.Prelude.{◌⊎◌, ◌==◌, not, nat_lt, take, drop, MatchResult, IfErr}
use Rattle.std.specs.List.{flat_map}
use Rattle.std.proofs.lemmas.Bool.{ltb-true, ltb-false, lt-ltb, le-ltb, eqb-true, not-false}
use Rattle.std.proofs.lemmas.List.{append-nil, length-take-le, take-append-drop, take_at}
use Rattle.byteorder.specs.Endian.{big_bytes, big_number}
use Rattle.kd_token.specs.declared.fault.FileFault.{FileFault}
use Rattle.kd_token.specs.declared.fault.FileFault.TheVariants as faults
use Rattle.kd_token.specs.declared.token.Token.{Token}
use Rattle.kd_token.specs.declared.token.Token.TheVariants as tokens
use Rattle.kd_token.specs.declared.token.Version.TheVariants as versions
use Rattle.kd_token.specs.File.{Code, HasFile, IsFileOf, code, file_bytes, name_bytes, token_bytes, version_number}
use Rattle.kd_token.specs.Reading.{Rest, rest, unless_faulty, place_in, ReaderGives, IsReadFault, magic_at, fields_at, file_end, file_at, program_at}
use Rattle.kd_token.specs.FirstFault.{Part, part_with, magic, name_parts, token_parts, later_parts, parts, bytes_of_parts, ComesNext, BeginsNone, IsFileFault}
use Rattle.kd_token.proofs.Numbers.{AreBytes, four_bytes}
use Rattle.kd_token.proofs.Again.{magic_again, number_again, program_again}
use Rattle.kd_token.proofs.Told.{past, spelled_both, bytes_front, bytes_after, Read, Stop, IsAt, Tells}
use Rattle.kd_token.proofs.Fields.{fields_told}

-- if something can be read, the only fault is out of memory
only_memory : (fault : FileFault) (p : Code) → IsReadFault fault (Ok p) → fault ≡ faults.Memory
only_memory faults.Memory p e = refl
only_memory faults.Magic p e = absurd cc
only_memory faults.Version p e = absurd cc
only_memory (faults.Cut at) p e = absurd cc
only_memory (faults.Opcode at) p e = absurd cc
only_memory (faults.Operand at) p e = absurd cc
only_memory (faults.Rest at) p e = absurd cc
only_memory faults.Limit p e = absurd cc

same : (r : Result Code FileFault) (p q : Code) → r ≡ Ok p → r ≡ Ok q → p ≡ q
same r p q e f = cc

-- if the bytes are a program's file, that program is what is read
pub is_only : (bytes : List ℕ) (r : Result Code FileFault) → ReaderGives (λ p. p) r (program_at bytes) → (p : Code) → IsFileOf bytes p → MatchResult r (λ found. found ≡ p) (λ fault. fault ≡ faults.Memory)
is_only bytes (Ok q) gives p is = same (program_at bytes) q p gives (ap program_at is.spelled ∙ program_again p is.limits)
is_only bytes (Err fault) gives p is =
    let e : program_at bytes ≡ Ok p = ap program_at is.spelled ∙ program_again p is.limits in
    only_memory fault p (rw (e) at gives)

err_same : (r : Result Code FileFault) (f g : FileFault) → r ≡ Err f → r ≡ Err g → f ≡ g
err_same r f g d e = cc

no_both : (r : Result Code FileFault) (p : Code) (f : FileFault) → r ≡ Ok p → r ≡ Err f → ⊥
no_both r p f d e = cc

-- bytes on which reading fails, whatever follows them, begin no file
begins_none : (bytes : List ℕ) (f : FileFault) → ((more : List ℕ) → program_at (bytes ++ more) ≡ Err f) → BeginsNone bytes
begins_none bytes f fails p more is = no_both (program_at (bytes ++ more)) p f (ap program_at is.spelled ∙ program_again p is.limits) (fails more)

-- a file's fields are its bytes
token_spelled : (t : Token) → bytes_of_parts (token_parts t) ≡ token_bytes t
token_spelled (tokens.PushBytes bytes) = ap (λ b. 0x01 ∷ (big_bytes 2 (length bytes) ++ b)) (append-nil bytes)
token_spelled (tokens.PushInt x) = refl
token_spelled (tokens.PushOption x) = refl
token_spelled (tokens.PushRelay x) = refl
token_spelled (tokens.PushField x) = refl
token_spelled (tokens.OptionExists x) = refl
token_spelled (tokens.RelayExists x) = refl
token_spelled (tokens.Member x) = refl
token_spelled tokens.Equal = refl
token_spelled tokens.Not = refl
token_spelled tokens.And = refl
token_spelled tokens.Or = refl
token_spelled tokens.IfElse = refl
token_spelled (tokens.Substring start None) = refl
token_spelled (tokens.Substring start (Some count)) = refl
token_spelled tokens.Concat = refl
token_spelled tokens.HexString = refl
token_spelled tokens.Lower = refl
token_spelled tokens.Upper = refl
token_spelled tokens.IntToText = refl
token_spelled tokens.IntBytes = refl
token_spelled (tokens.Branch d) = refl
token_spelled (tokens.PopBranchFalse d) = refl
token_spelled (tokens.BranchFalseElsePop d) = refl
token_spelled (tokens.BranchTrueElsePop d) = refl

name_spelled : (name : List ℕ) → bytes_of_parts (name_parts name) ≡ name_bytes name
name_spelled name = ap (λ b. length name ∷ b) (append-nil name)

row_spelled : {X : Type 0} (text : X → List Part) (bytes : X → List ℕ) → ((x : X) → bytes_of_parts (text x) ≡ bytes x) → (l : List X) → bytes_of_parts (flat_map text l) ≡ flat_map bytes l
row_spelled text bytes each [] = refl
row_spelled text bytes each (x ∷ l) = spelled_both (text x) (flat_map text l) ∙ ap (λ b. b ++ bytes_of_parts (flat_map text l)) (each x) ∙ ap (λ b. bytes x ++ b) (row_spelled text bytes each l)

pub parts_spelled : (p : Code) → bytes_of_parts (parts p) ≡ file_bytes p
parts_spelled p =
    let names : bytes_of_parts (flat_map name_parts p.names) ≡ flat_map name_bytes p.names = row_spelled name_parts name_bytes name_spelled p.names in
    let list : bytes_of_parts (flat_map token_parts p.tokens) ≡ flat_map token_bytes p.tokens = row_spelled token_parts token_bytes token_spelled p.tokens in
    let tail : List Part = part_with (λ at. faults.Limit) (big_bytes 2 (length p.tokens)) ∷ flat_map token_parts p.tokens in
    let front : List ℕ → List ℕ = λ b. bytes_of_parts (magic ∷ part_with (λ at. faults.Version) (version_number p.version ∷ []) ∷ part_with (λ at. faults.Limit) (big_bytes 2 p.steps) ∷ part_with (λ at. faults.Limit) (p.depth ∷ []) ∷ part_with faults.Cut (big_bytes 2 p.bound) ∷ part_with (λ at. faults.Limit) (length p.names ∷ []) ∷ []) ++ b in
    ap front (spelled_both (flat_map name_parts p.names) tail ∙ ap (λ b. b ++ bytes_of_parts tail) names ∙ ap (λ b. flat_map name_bytes p.names ++ (big_bytes 2 (length p.tokens) ++ b)) list)

-- the magic number is missing (`LacksMagic`) or comes first (`HasMagic`)
abbrev LacksMagic : List ℕ → Type 0
LacksMagic bytes =
    (magic_at (rest bytes bytes) ≡ Err faults.Magic)
    × (4 ≤ length bytes → (w more : List ℕ) → magic_at (rest w (take 4 bytes ++ more)) ≡ Err faults.Magic)

abbrev HasMagic : List ℕ → Type 0
HasMagic bytes = (left : List ℕ) × (bytes ≡ big_bytes 4 0x4b34544b ++ left)

four_long : (bytes more : List ℕ) → 4 ≤ length bytes → nat_lt (length (bytes ++ more)) 4 ≡ false
four_long bytes more many = le-ltb _ _ (omega (arith, many, length-append bytes more))

magic_wrong : (w head more : List ℕ) → length head ≡ 4 → not (big_number 4 head == 0x4b34544b) ≡ true → magic_at (rest w (head ++ more)) ≡ Err faults.Magic
unfolding magic_at
magic_wrong w head more long f = rw (four_long head more (omega (arith, long)), number_again w 4 (big_number 4 head) head more long refl, f) refl

magic_short : (bytes : List ℕ) → nat_lt (length bytes) 4 ≡ true → magic_at (rest bytes bytes) ≡ Err faults.Magic
unfolding magic_at
magic_short bytes e = rw e refl

magic_known : (bytes : List ℕ) → AreBytes bytes → LacksMagic bytes ⊎ HasMagic bytes
magic_known bytes h = by (nat_lt (length bytes) 4) refl (not (big_number 4 (take 4 bytes) == 0x4b34544b)) refl where
  few : length bytes < 4 → 4 ≤ length bytes → ⊥
  few a b = omega (arith, a, b)

  whole : take 4 bytes ++ drop 4 bytes ≡ bytes
  whole = take-append-drop 4 bytes

  by : (short : Bool) → nat_lt (length bytes) 4 ≡ short → (wrong : Bool) → not (big_number 4 (take 4 bytes) == 0x4b34544b) ≡ wrong → LacksMagic bytes ⊎ HasMagic bytes
  by true e wrong f = inl (magic_short bytes e, λ many. absurd (few (ltb-true (length bytes) 4 e) many))
  by false e true f =
      let long : length (take 4 bytes) ≡ 4 = length-take-le 4 bytes (ltb-false (length bytes) 4 e) in
      inl (ap (λ l. magic_at (rest bytes l)) (sym whole) ∙ magic_wrong bytes (take 4 bytes) (drop 4 bytes) long f, λ many w more. magic_wrong w (take 4 bytes) more long f)
  by false e false f =
      let long : length (take 4 bytes) ≡ 4 = length-take-le 4 bytes (ltb-false (length bytes) 4 e) in
      let number : big_number 4 (take 4 bytes) ≡ 0x4b34544b = eqb-true _ _ (not-false _ f) in
      let head : take 4 bytes ≡ big_bytes 4 0x4b34544b = four_bytes (take 4 bytes) 0x4b34544b long (bytes_front (take 4 bytes) (drop 4 bytes) (subst AreBytes (sym whole) h)) (sym number) in
      inr (drop 4 bytes, sym whole ∙ ap (λ l. l ++ drop 4 bytes) head)

-- after the magic number the fields are read, and then the end
abbrev ended : Result (Code × Rest) FileFault → Result Code FileFault
ended got =
    unless_faulty {A = Code × Rest} {B = Code} (unless_faulty {A = Code × Rest} {B = Code × Rest} got (λ p. unless_faulty {A = Unit {0} × Rest} {B = Code × Rest} (file_end p.1) (λ e. Ok (p.0, e.1)))) (λ x. Ok x.0)

-- the end, and what remains there
end_empty : (w : List ℕ) → file_end (rest w []) ≡ Ok (tt, rest w [])
unfolding file_end
end_empty w = refl

end_wrong : (w : List ℕ) (b : ℕ) (bs : List ℕ) → file_end (rest w (b ∷ bs)) ≡ Err (faults.Rest (place_in (rest w (b ∷ bs))))
unfolding file_end
end_wrong w b bs = let some : nat_lt 0 (length (b ∷ bs)) ≡ true = lt-ltb 0 _ (omega arith) in rw some refl

lacks : (bytes : List ℕ) → magic_at (rest bytes bytes) ≡ Err faults.Magic → program_at bytes ≡ Err faults.Magic
unfolding file_at
lacks bytes e = rw e refl

-- what is read after the magic number
module _ (m : List ℕ) (is : m ≡ big_bytes 4 0x4b34544b) (found : (w more : List ℕ) → magic_at (rest w (m ++ more)) ≡ Ok (tt, rest w more)) where
  behind_magic : (left : List ℕ) → program_at (m ++ left) ≡ ended (fields_at (past m left))
  unfolding file_at
  behind_magic left = rw (found (m ++ left) left) refl

  front_of : (left front behind : List ℕ) (at : ℕ) → left ≡ front ++ behind → at ≡ length m + length front → take at (m ++ left) ≡ m ++ front
  front_of left front behind at split here =
      ap (λ l. take at (m ++ l)) split ∙ ap (take at) (sym (append_assoc m front behind))
      ∙ take_at (m ++ front) behind at (omega (arith, here, length-append m front))

  stopped : (left : List ℕ) (f : FileFault) → Stop fields_at later_parts HasFile m left f → IsFileFault (m ++ left) f
  stopped left f u = by u.fault where
    at : ℕ
    at = length m + length (bytes_of_parts u.before)

    n : ℕ
    n = length u.field.bytes

    sizes : length (m ++ left) ≡ at + length u.behind
    sizes = let e : length left ≡ length (bytes_of_parts u.before ++ u.behind) = ap length u.split in omega (arith, e, length-append m left, length-append (bytes_of_parts u.before) u.behind)

    next : ComesNext (m ++ left) at u.field
    next = record {
      file = u.witness;
      limits = u.good;
      before = magic ∷ u.before;
      after = u.after;
      fields = ap (λ l. magic ∷ l) u.row;
      within = omega (arith, sizes);
      same = front_of left (bytes_of_parts u.before) u.behind at u.split refl ∙ ap (λ l. l ++ bytes_of_parts u.before) is;
    }

    by : IsAt fields_at m u.before u.field u.behind f → IsFileFault (m ++ left) f
    by (inl e) = inl (at, u.field, next, omega (arith, sizes, e.0), e.1)
    by (inr e) = inr (inl (at, u.field, next, omega (arith, sizes, e.0), begins_none (take (at + n) (m ++ left)) f fails, e.1)) where
      front : List ℕ
      front = bytes_of_parts u.before ++ take n u.behind

      taken : take (at + n) (m ++ left) ≡ m ++ front
      taken = front_of left front (drop n u.behind) (at + n) (u.split ∙ ap (λ l. bytes_of_parts u.before ++ l) (sym (take-append-drop n u.behind)) ∙ sym (append_assoc (bytes_of_parts u.before) (take n u.behind) (drop n u.behind))) (omega (arith, length-append (bytes_of_parts u.before) (take n u.behind), length-take-le n u.behind e.0))

      fails : (more : List ℕ) → program_at (take (at + n) (m ++ left) ++ more) ≡ Err f
      fails more =
          ap (λ l. program_at (l ++ more)) taken ∙ ap program_at (append_assoc m front more ∙ ap (λ l. m ++ l) (append_assoc (bytes_of_parts u.before) (take n u.behind) more))
          ∙ behind_magic (bytes_of_parts u.before ++ (take n u.behind ++ more)) ∙ ap ended (e.2 more)

  left_over : (left : List ℕ) (f : FileFault) (x : Code × Rest) → Read fields_at later_parts HasFile m left x → ended (Ok x) ≡ Err f → IsFileFault (m ++ left) f
  left_over left f x rd e = by rd.after rd.split rd.there where
    front : List ℕ
    front = bytes_of_parts (later_parts x.0)

    at : ℕ
    at = length m + length front

    by : (after : List ℕ) → left ≡ front ++ after → x.1 ≡ rest (m ++ left) after → IsFileFault (m ++ left) f
    by [] split there =
        let done : ended (Ok (x.0, rest (m ++ left) [])) ≡ Ok x.0 = rw (end_empty (m ++ left)) refl in
        absurd (no_both (ended (Ok x)) x.0 f (ap (λ q. ended (Ok (x.0, q))) there ∙ done) e)
    by (b ∷ bs) split there =
        let size : length left ≡ length (front ++ b ∷ bs) = ap length split in
        let here : place_in (rest (m ++ left) (b ∷ bs)) ≡ at = omega (arith, size, length-append m left, length-append front (b ∷ bs)) in
        let wrong : ended (Ok (x.0, rest (m ++ left) (b ∷ bs))) ≡ Err (faults.Rest (place_in (rest (m ++ left) (b ∷ bs)))) = rw (end_wrong (m ++ left) b bs) refl in
        let fault : f ≡ faults.Rest at = err_same (ended (Ok x)) f (faults.Rest at) e (ap (λ q. ended (Ok (x.0, q))) there ∙ wrong ∙ ap (λ k. Err (faults.Rest k)) here) in
        let file : IsFileOf (take at (m ++ left)) x.0 = record {
          spelled = front_of left front (b ∷ bs) at split refl ∙ ap (λ l. l ++ front) is ∙ parts_spelled x.0;
          limits = rd.good;
        } in
        inr (inr (at, x.0, file, omega (arith, size, length-append m left, length-append front (b ∷ bs)), fault))

  after_magic : (left : List ℕ) (f : FileFault) → AreBytes left → program_at (m ++ left) ≡ Err f → IsFileFault (m ++ left) f
  after_magic left f h e = by (fields_at (past m left)) (sym (behind_magic left) ∙ e) (fields_told m left h) where
    by : (got : Result (Code × Rest) FileFault) → ended got ≡ Err f → Tells fields_at later_parts HasFile m left got → IsFileFault (m ++ left) f
    by (Err g) same u = subst (IsFileFault (m ++ left)) (err_same (Err g) g f refl same) (stopped left g u)
    by (Ok x) same rd = left_over left f x rd same

-- the fault of bytes without the magic number
no_magic : (bytes : List ℕ) → LacksMagic bytes → IsFileFault bytes faults.Magic
no_magic bytes lack = by (nat_lt (length bytes) 4) refl where
  file : Code
  file = code versions.One 0 0 0 [] []

  has : HasFile file
  has = record {
    steps = omega arith;
    depth = omega arith;
    bound = omega arith;
    few_names = omega arith;
    names = tt;
    few_tokens = omega arith;
    tokens = tt;
  }

  next : ComesNext bytes 0 magic
  next = record {
    file = file;
    limits = has;
    before = [];
    after = later_parts file;
    fields = refl;
    within = omega arith;
    same = refl;
  }

  by : (short : Bool) → nat_lt (length bytes) 4 ≡ short → IsFileFault bytes faults.Magic
  by true e = inl (0, magic, next, ltb-true (length bytes) 4 e, refl)
  by false e =
      let many : 4 ≤ length bytes = ltb-false (length bytes) 4 e in
      inr (inl (0, magic, next, many, begins_none (take 4 bytes) faults.Magic (λ more. lacks (take 4 bytes ++ more) (lack.1 many (take 4 bytes ++ more) more)), refl))

pub first_fault : (bytes : List ℕ) (f : FileFault) → AreBytes bytes → program_at bytes ≡ Err f → IsFileFault bytes f
first_fault bytes f h e = by (magic_known bytes h) where
  by : LacksMagic bytes ⊎ HasMagic bytes → IsFileFault bytes f
  by (inl lack) = subst (IsFileFault bytes) (err_same (program_at bytes) faults.Magic f (lacks bytes lack.0) e) (no_magic bytes lack)
  by (inr has) =
      let m : List ℕ = big_bytes 4 0x4b34544b in
      let late : AreBytes has.0 = bytes_after m has.0 (subst AreBytes has.1 h) in
      subst (λ b. IsFileFault b f) (sym has.1) (after_magic m refl magic_again has.0 f late (ap program_at (sym has.1) ∙ e))

-- a fault that is returned is the first one of the bytes, unless memory ran out
pub is_first : (bytes : List ℕ) (r : Result Code FileFault) → AreBytes bytes → ReaderGives (λ p. p) r (program_at bytes) → IfErr r (λ fault. (fault ≡ faults.Memory) ⊎ IsFileFault bytes fault)
is_first bytes (Ok q) h gives = tt
is_first bytes (Err faults.Memory) h gives = inl refl
is_first bytes (Err faults.Magic) h gives = inr (first_fault bytes faults.Magic h gives)
is_first bytes (Err faults.Version) h gives = inr (first_fault bytes faults.Version h gives)
is_first bytes (Err (faults.Cut at)) h gives = inr (first_fault bytes (faults.Cut at) h gives)
is_first bytes (Err (faults.Opcode at)) h gives = inr (first_fault bytes (faults.Opcode at) h gives)
is_first bytes (Err (faults.Operand at)) h gives = inr (first_fault bytes (faults.Operand at) h gives)
is_first bytes (Err (faults.Rest at)) h gives = inr (first_fault bytes (faults.Rest at) h gives)
is_first bytes (Err faults.Limit) h gives = inr (first_fault bytes faults.Limit h gives)
