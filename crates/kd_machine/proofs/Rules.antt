-- If values fit a shape, a token that can run on the shape can run on the values, and its result on
-- the values fits its result on the shape.
use Rattle.std.proofs.Common.{◌≡◌, ℕ, ℤ, zero, suc, ◌+◌, ◌-◌, ◌*◌, ◌^◌, ◌<◌, ◌≤◌, min, max, Bool, true, false, List, [], ◌∷◌, ◌++◌, length, take, drop, Option, Some, None, refl, sym, subst, mul_comm, arith}
use Rattle.std.proofs.Math.Nat.{mul-le-mul_left}
use Rattle.std.specs.Prelude.{nat_lt, if◌then◌else◌, ◌==◌, slice_get, unsigned_abs, IfSome, IsSomeAnd}
use Rattle.std.specs.List.{flat_map}
use Rattle.std.specs.Char.{to_ascii_lowercase, to_ascii_uppercase}
use Rattle.std.proofs.lemmas.Bool.{ltb-true, ne_eqb}
use Rattle.std.proofs.lemmas.Fmt.{length-decimal-le}
use Rattle.std.proofs.lemmas.List.{length-append, length-drop, length-map, length-take}
use Rattle.std.proofs.lemmas.Option.{slice_get-get_or}
use Rattle.kd_options.specs.Joined.{value_of}
use Rattle.kd_options.specs.Laws.{HasSizes}
use Rattle.kd_options.specs.Message.{Seen}
use Rattle.kd_options.specs.Options.{IsType}
use Rattle.kd_token.specs.File.{IsToken}
use Rattle.kd_wire.specs.Steps.{◌>>=◌}
use Rattle.kd_token.specs.Shape.{bytes_taken, bool_taken, int_taken, field_kind, bound_of_substring, bound_of_hex, gives}
use Rattle.kd_token.specs.declared.shape.Kind.{Kind}
use Rattle.kd_token.specs.declared.shape.Kind.TheVariants as kinds
use Rattle.kd_wire.specs.declared.field.Field.{Field}
use Rattle.kd_wire.specs.declared.field.Field.TheVariants as fields
use Rattle.kd_token.specs.declared.token.Token.{Token}
use Rattle.kd_token.specs.declared.token.Token.TheVariants as tokens
use Rattle.kd_token.specs.declared.token.Version.{Version}
use Rattle.kd_machine.specs.Val.{Val, Truth, Number, Text}
use Rattle.kd_machine.specs.Values.{take_text, take_truth, take_number}
use Rattle.kd_machine.specs.Strings.{is_negative, start_in, part, part_from, substring, byte_digits, hex_of}
use Rattle.kd_machine.specs.World.{World, option_in, relay_in}
use Rattle.kd_machine.specs.Parts.{is_held, or_empty, type_in, value_of_field}
use Rattle.kd_machine.specs.Run.{rule}
use Rattle.kd_machine.specs.Fits.{FitsKind, Fits}

-- if the first is there, so is the second, and the relation holds between the two
abbrev pub Down : {A B : Type 0} → (A → B → Type 0) → Option A → Option B → Type 0
Down R None u = Unit {0}
Down R (Some x) None = ⊥
Down R (Some x) (Some y) = R x y

bind_down : {A B C D : Type 0} (R : A → B → Type 0) (Q : C → D → Type 0) (o : Option A) (u : Option B) (f : A → Option C) (g : B → Option D) → Down R o u → ((x : A) (y : B) → R x y → Down Q (f x) (g y)) → Down Q (o >>= f) (u >>= g)
bind_down R Q None u f g d h = tt
bind_down R Q (Some x) None f g d h = absurd d
bind_down R Q (Some x) (Some y) f g d h = h x y d

-- a bound and the shape below it fit a byte string and the values below it
abbrev TextFits : ℕ × List Kind → List ℕ × List Val → Type 0
TextFits x y = (length y.0 ≤ x.0) × Fits x.1 y.1

-- a shape fits the values below a truth value
abbrev pub TruthFits : List Kind → Bool × List Val → Type 0
TruthFits r y = Fits r y.1

-- a shape fits the values below a number of four bytes
abbrev NumberFits : List Kind → ℕ × List Val → Type 0
NumberFits r y = (y.0 < 2 ^ 32) × Fits r y.1

text_fits : (r : List Kind) (s : List Val) → Fits r s → Down TextFits (bytes_taken r) (take_text s)
text_fits [] s f = tt
text_fits (kinds.Bytes n ∷ r) (Text bytes ∷ s) f = (f.0, f.1)
text_fits (kinds.Bytes n ∷ r) [] f = absurd f
text_fits (kinds.Bytes n ∷ r) (Truth b ∷ s) f = absurd f.0
text_fits (kinds.Bytes n ∷ r) (Number m ∷ s) f = absurd f.0
text_fits (kinds.Bool ∷ r) s f = tt
text_fits (kinds.Int ∷ r) s f = tt

pub truth_fits : (r : List Kind) (s : List Val) → Fits r s → Down TruthFits (bool_taken r) (take_truth s)
truth_fits [] s f = tt
truth_fits (kinds.Bool ∷ r) (Truth b ∷ s) f = f.1
truth_fits (kinds.Bool ∷ r) [] f = absurd f
truth_fits (kinds.Bool ∷ r) (Number m ∷ s) f = absurd f.0
truth_fits (kinds.Bool ∷ r) (Text bytes ∷ s) f = absurd f.0
truth_fits (kinds.Bytes n ∷ r) s f = tt
truth_fits (kinds.Int ∷ r) s f = tt

number_fits : (r : List Kind) (s : List Val) → Fits r s → Down NumberFits (int_taken r) (take_number s)
number_fits [] s f = tt
number_fits (kinds.Int ∷ r) (Number n ∷ s) f = (f.0, f.1)
number_fits (kinds.Int ∷ r) [] f = absurd f
number_fits (kinds.Int ∷ r) (Truth b ∷ s) f = absurd f.0
number_fits (kinds.Int ∷ r) (Text bytes ∷ s) f = absurd f.0
number_fits (kinds.Bytes n ∷ r) s f = tt
number_fits (kinds.Bool ∷ r) s f = tt

-- a value that may be absent is short if it is short when it is there
empty_short : (most : ℕ) (o : Option (List ℕ)) → IfSome o (λ value. length value ≤ most) → length (or_empty o) ≤ most
empty_short most None h = omega arith
empty_short most (Some value) h = h

-- a substring is no longer than the whole, nor than the number of bytes asked for
part_short : (count : Option ℤ) (b : ℕ) (bytes : List ℕ) (n : ℕ) → length bytes ≤ n → length (part count b bytes) ≤ bound_of_substring n count
part_short None b bytes n le = let e = length-drop b bytes in omega (arith, e, le)
part_short (Some z) b bytes n le = by (is_negative z) where
  by : (negative : Bool) → length (if negative then drop (b - unsigned_abs z) (take b bytes) else take (unsigned_abs z) (drop b bytes)) ≤ min n (unsigned_abs z)
  by true =
      let e = length-drop (b - unsigned_abs z) (take b bytes) in
      let f = length-take b bytes in
      omega (arith, e, f, le)
  by false =
      let e = length-take (unsigned_abs z) (drop b bytes) in
      let f = length-drop b bytes in
      omega (arith, e, f, le)

substring_short : (start : ℤ) (count : Option ℤ) (bytes : List ℕ) (n : ℕ) → length bytes ≤ n → length (substring start count bytes) ≤ bound_of_substring n count
substring_short start count bytes n le = by (start_in start (length bytes)) where
  by : (o : Option ℕ) → length (part_from o count bytes) ≤ bound_of_substring n count
  by None = omega arith
  by (Some b) = part_short count b bytes n le

flat_size : (separator bytes : List ℕ) → length (flat_map (λ c. separator ++ byte_digits c) bytes) ≡ length bytes * length separator + 2 * length bytes
flat_size separator [] = omega arith
flat_size separator (b ∷ bytes) =
    let rest = flat_size separator bytes in
    let front = length-append (separator ++ byte_digits b) (flat_map (λ c. separator ++ byte_digits c) bytes) in
    let first = length-append separator (byte_digits b) in
    omega (arith, rest, front, first)

-- the hexadecimal text of fewer bytes with a shorter separator is no longer
hex_short : (separator bytes : List ℕ) (n m : ℕ) → length bytes ≤ n → length separator ≤ m → length (hex_of separator bytes) ≤ bound_of_hex n m
hex_short separator [] n m le less = omega arith
hex_short separator (b ∷ bytes) zero m le less = absurd (omega (arith, le))
hex_short separator (b ∷ bytes) (suc n) m le less =
    let fewer : length bytes ≤ n = omega (arith, le) in
    let left : length bytes * length separator ≤ length bytes * m = mul-le-mul_left (length bytes) less in
    let right : m * length bytes ≤ m * n = mul-le-mul_left m fewer in
    let turned : m * length bytes ≡ length bytes * m = mul_comm m (length bytes) in
    let back : m * n ≡ n * m = mul_comm m n in
    let rest = flat_size separator bytes in
    let no : (suc n == 0) ≡ false = ne_eqb (suc n) 0 (λ e. omega (arith, e)) in
    let one : suc n - 1 ≡ n = omega arith in
    rw (no, one) (omega (arith, left, right, turned, back, rest, fewer))

-- the number of a message's type is one byte
type_short : (o : Option (List ℕ)) → IsSomeAnd o IsType → type_in o < 2 ^ 32
type_short None h = omega arith
type_short (Some []) h = omega arith
type_short (Some (n ∷ [])) h = omega (arith, h.1)
type_short (Some (n ∷ m ∷ bytes)) h = absurd h

-- the value of a field fits the field's kind
field_fits : (m : Seen) → HasSizes m → (field : Field) → FitsKind (field_kind field) (value_of_field m field)
field_fits m sizes fields.Mac = let e = length-take (min m.header.hlen 16) m.header.chaddr in omega (arith, e)
field_fits m sizes fields.Hlen = let byte = sizes.fields.hlen in omega (arith, byte)
field_fits m sizes fields.Htype = let byte = sizes.fields.htype in omega (arith, byte)
field_fits m sizes fields.Ciaddr = omega arith
field_fits m sizes fields.Giaddr = omega arith
field_fits m sizes fields.Yiaddr = omega arith
field_fits m sizes fields.Siaddr = omega arith
field_fits m sizes fields.MessageType = type_short (value_of 53 m.options) sizes.kind
field_fits m sizes fields.Transaction = sizes.fields.xid
field_fits m sizes fields.Length = let most = sizes.datagram in omega (arith, most)

member_fits : (names held : List (List ℕ)) (index : ℕ) (r : List Kind) (s : List Val) → Fits r s
    → Down Fits (if nat_lt index (length names) then Some (kinds.Bool ∷ r) else None) (slice_get names index >>= λ name. Some (Truth (is_held name held) ∷ s))
member_fits names held index r s f = by (nat_lt index (length names)) refl where
  by : (b : Bool) → nat_lt index (length names) ≡ b → Down Fits (if b then Some (kinds.Bool ∷ r) else None) (slice_get names index >>= λ name. Some (Truth (is_held name held) ∷ s))
  by false e = tt
  by true e =
      let there = slice_get-get_or names index [] (ltb-true _ _ e) in
      let P : Option (List ℕ) → Type 0 = λ o. Down Fits (Some (kinds.Bool ∷ r)) (o >>= λ name. Some (Truth (is_held name held) ∷ s)) in
      subst P (sym there) (tt, f)

choice_short : (b : Bool) (x y : List ℕ) (n m : ℕ) → length x ≤ n → length y ≤ m → length (if b then x else y) ≤ max n m
choice_short true x y n m le less = omega (arith, le)
choice_short false x y n m le less = omega (arith, less)

-- what a token makes of values fits what it makes of a shape that they fit
pub rule_fits : (w : World) (version : Version) (behind : ℕ) (token : Token) (r : List Kind) (s : List Val) → HasSizes w.message → IsToken version behind token → Fits r s → Down Fits (gives (length w.names) token r) (rule w token s)
unfolding gives rule
rule_fits w version behind (tokens.PushBytes bytes) r s sizes token f = (omega arith, f)
rule_fits w version behind (tokens.PushInt number) r s sizes token f = (token, f)
rule_fits w version behind (tokens.PushOption code) r s sizes token f = (empty_short 4096 (option_in w code) (sizes.option code), f)
rule_fits w version behind (tokens.PushRelay code) r s sizes token f = (empty_short 255 (relay_in w code) (sizes.sub_option code), f)
rule_fits w version behind (tokens.PushField field) r s sizes token f = (field_fits w.message sizes field, f)
rule_fits w version behind (tokens.OptionExists code) r s sizes token f = (tt, f)
rule_fits w version behind (tokens.RelayExists code) r s sizes token f = (tt, f)
rule_fits w version behind (tokens.Member index) r s sizes token f = member_fits w.names w.held index r s f
rule_fits w version behind tokens.Equal r s sizes token f =
    bind_down TextFits Fits _ _ _ _ (text_fits r s f) (λ x y d. bind_down TextFits Fits _ _ _ _ (text_fits x.1 y.1 d.1) (λ u v e. (tt, e.1)))
rule_fits w version behind tokens.Not r s sizes token f = bind_down TruthFits Fits _ _ _ _ (truth_fits r s f) (λ x y d. (tt, d))
rule_fits w version behind tokens.And r s sizes token f =
    bind_down TruthFits Fits _ _ _ _ (truth_fits r s f) (λ x y d. bind_down TruthFits Fits _ _ _ _ (truth_fits x y.1 d) (λ u v e. (tt, e)))
rule_fits w version behind tokens.Or r s sizes token f =
    bind_down TruthFits Fits _ _ _ _ (truth_fits r s f) (λ x y d. bind_down TruthFits Fits _ _ _ _ (truth_fits x y.1 d) (λ u v e. (tt, e)))
rule_fits w version behind tokens.IfElse r s sizes token f =
    bind_down TextFits Fits _ _ _ _ (text_fits r s f) (λ x y d. bind_down TextFits Fits _ _ _ _ (text_fits x.1 y.1 d.1) (λ u v e.
    bind_down TruthFits Fits _ _ _ _ (truth_fits u.1 v.1 e.1) (λ p q g. (choice_short q.0 v.0 y.0 u.0 x.0 e.0 d.0, g))))
rule_fits w version behind (tokens.Substring start count) r s sizes token f =
    bind_down TextFits Fits _ _ _ _ (text_fits r s f) (λ x y d. (substring_short start count y.0 x.0 d.0, d.1))
rule_fits w version behind tokens.Concat r s sizes token f =
    bind_down TextFits Fits _ _ _ _ (text_fits r s f) (λ x y d. bind_down TextFits Fits _ _ _ _ (text_fits x.1 y.1 d.1) (λ u v e. (let n = length-append v.0 y.0 in omega (arith, n, d.0, e.0), e.1)))
rule_fits w version behind tokens.HexString r s sizes token f =
    bind_down TextFits Fits _ _ _ _ (text_fits r s f) (λ x y d. bind_down TextFits Fits _ _ _ _ (text_fits x.1 y.1 d.1) (λ u v e. (hex_short y.0 v.0 u.0 x.0 e.0 d.0, e.1)))
rule_fits w version behind tokens.Lower r s sizes token f =
    bind_down TextFits Fits _ _ _ _ (text_fits r s f) (λ x y d. (let n = length-map y.0 to_ascii_lowercase in omega (arith, n, d.0), d.1))
rule_fits w version behind tokens.Upper r s sizes token f =
    bind_down TextFits Fits _ _ _ _ (text_fits r s f) (λ x y d. (let n = length-map y.0 to_ascii_uppercase in omega (arith, n, d.0), d.1))
rule_fits w version behind tokens.IntToText r s sizes token f =
    bind_down NumberFits Fits _ _ _ _ (number_fits r s f) (λ x y d. (length-decimal-le 10 y.0 (omega arith) (omega (arith, d.0)) (omega (arith, d.0)), d.1))
rule_fits w version behind tokens.IntBytes r s sizes token f = bind_down NumberFits Fits _ _ _ _ (number_fits r s f) (λ x y d. (omega arith, d.1))
rule_fits w version behind (tokens.Branch skip) r s sizes token f = tt
rule_fits w version behind (tokens.PopBranchFalse skip) r s sizes token f = tt
rule_fits w version behind (tokens.BranchFalseElsePop skip) r s sizes token f = tt
rule_fits w version behind (tokens.BranchTrueElsePop skip) r s sizes token f = tt
