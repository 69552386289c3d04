-- What the readers of forms refuse: the tokens before begin an expression, however deep it is
-- nested.
use Rattle.std.proofs.Common.{◌≡◌, ◌⊎◌, inl, inr, ℕ, zero, suc, ◌+◌, ◌≤◌, ◌^◌, pos, Bool, true, false, Option, Some, None, Result, Ok, Err, List, [], ◌∷◌, ◌++◌, refl, sym, ◌∙◌, ap, subst, append-nil, codes, bytes_eq, if◌then◌else◌, nat_lt, ltb-true, arith, eq-eqb}
use Rattle.kd_expr.specs.FirstFault.{bracket, negation, token_place, IsLike, itself, another_number, another_below_zero, an_option}
use Rattle.kd_expr.specs.Grammar.{Spells, Level, or_level, and_level, not_level, compare_level, sum_level, primary_level, or_one, or_more, and_one, and_more, not_none, negated, compare_one, equal, sum_one, sum_more, string, hexadecimal, address, number, group, option_hex, option_exists, relay_hex, relay_exists, field, packet_length, member, substring, concat, ifelse, hexstring, lcase, ucase, uint32totext}
use Rattle.kd_expr.specs.Lexical.{Lexeme, StringAt, HexAt, AddressAt, NumberAt, MinusAt, NameAt, SignAt, BadAt}
use Rattle.kd_expr.specs.Names.{code_by_name, field_by_name}
use Rattle.kd_expr.specs.Reading.{Reader, Deeper, on_ok, seq, either, wanted, done, sign_here, word_here, sign_at, word_at, code_of_option, code_of_relay, suffix_of, field_of, signed, length_of_part, class_name, bracketed, option_at, relay_at, field_after, packet_at, member_at, operand_then, operand_in_brackets, group_at, operands_in_brackets, ifelse_at, substring_after, form_at, named_at, primary_at, sum_of, and_of, or_of, sum_at, compare_at, not_at, and_at, or_at, below}
use Rattle.kd_expr.specs.Refusals.{refusal_of, code_refusal, option_refusal, signed_refusal}
use Rattle.kd_expr.specs.Tree.{Tree, Literal, Int, OptionValue, RelayValue, FieldValue, OptionExists, RelayExists, Member, Equal, Not, Group, Concat, IfElse, Substring, HexString, Lower, Upper, IntToText, at_of}
use Rattle.kd_expr.specs.declared.fault.SyntaxFault.{SyntaxFault}
use Rattle.kd_expr.specs.declared.fault.SyntaxFault.TheVariants as faults
use Rattle.kd_wire.specs.declared.field.Field.{Field}
use Rattle.kd_expr.proofs.Faulty.{IsBlind, IsSteady, IsShort, plain_steady, steady_same, rest_shorter, Begins, Refused, too_large, too_low, unknown, unexpected, nested, bad, refusal_is, Comes, Good, comes, same_good, done_good, seq_good, head_same, goes_on, stops_at, reads_one, either_good, either_good_to, wanted_good, seq_one_good, weaker_good, chain_good, at_the_end}
use Rattle.kd_expr.proofs.Options.{none_is}
use Rattle.kd_expr.proofs.Readings.{before_is, InBrackets, in_brackets, DeeperIsSound, primary_sound, not_sound, and_sound, below_sound}
use Rattle.kd_expr.proofs.Sound.{OneOf, is_one, on_ok_twice, IsSound}
use Rattle.kd_expr.proofs.Tokens.{sign_is, word_is, option_code_is, relay_code_is, IsRelayCode, relay_number, hex, exists, suffix_is, IsPartName, part_name, field_of_is, signed_is, length_is, IsClassName, class_is, class_name_is}
use Rattle.std.proofs.lemmas.Slice.Eq.{bytes_eq-Decides}

-- what is formed may be nested deeper
pub raised : {l : Level} {n : ℕ} {us : List Lexeme} {t : Tree} (m : ℕ) → n ≤ m → Spells l n us t → Spells l m us t
raised m h (or_one s) = or_one (raised m h s)
raised m h (or_more o s r) = or_more o (raised m h s) (raised m h r)
raised m h (and_one s) = and_one (raised m h s)
raised m h (and_more o s r) = and_more o (raised m h s) (raised m h r)
raised m h (not_none s) = not_none (raised m h s)
raised zero h (negated s) = absurd (omega (arith, h))
raised (suc m) h (negated s) = negated (raised m (omega (arith, h)) s)
raised m h (compare_one s) = compare_one (raised m h s)
raised m h (equal o s r) = equal o (raised m h s) (raised m h r)
raised m h (sum_one s) = sum_one (raised m h s)
raised m h (sum_more o s r) = sum_more o (raised m h s) (raised m h r)
raised m h string = string
raised m h hexadecimal = hexadecimal
raised m h address = address
raised m h (number i) = number i
raised zero h (group c s) = absurd (omega (arith, h))
raised (suc m) h (group c s) = group c (raised m (omega (arith, h)) s)
raised m h (option_hex i) = option_hex i
raised m h (option_exists i) = option_exists i
raised m h (relay_hex i) = relay_hex i
raised m h (relay_exists i) = relay_exists i
raised m h (field i) = field i
raised m h packet_length = packet_length
raised zero h (member least most) = absurd (omega (arith, h))
raised (suc m) h (member least most) = member least most
raised zero h (substring c d e s i j) = absurd (omega (arith, h))
raised (suc m) h (substring c d e s i j) = substring c d e (raised m (omega (arith, h)) s) i j
raised zero h (concat c d s r) = absurd (omega (arith, h))
raised (suc m) h (concat c d s r) = concat c d (raised m (omega (arith, h)) s) (raised m (omega (arith, h)) r)
raised zero h (ifelse c d e s r q) = absurd (omega (arith, h))
raised (suc m) h (ifelse c d e s r q) = ifelse c d e (raised m (omega (arith, h)) s) (raised m (omega (arith, h)) r) (raised m (omega (arith, h)) q)
raised zero h (hexstring c d s r) = absurd (omega (arith, h))
raised (suc m) h (hexstring c d s r) = hexstring c d (raised m (omega (arith, h)) s) (raised m (omega (arith, h)) r)
raised zero h (lcase c s) = absurd (omega (arith, h))
raised (suc m) h (lcase c s) = lcase c (raised m (omega (arith, h)) s)
raised zero h (ucase c s) = absurd (omega (arith, h))
raised (suc m) h (ucase c s) = ucase c (raised m (omega (arith, h)) s)
raised zero h (uint32totext c s) = absurd (omega (arith, h))
raised (suc m) h (uint32totext c s) = uint32totext c (raised m (omega (arith, h)) s)

-- a literal, and the same as a whole expression
plain_literal : (n : ℕ) → Spells not_level n (StringAt 0 [] ∷ []) (Literal 0 [])
plain_literal n = not_none (compare_one (sum_one string))

literal : (n : ℕ) → Spells or_level n (StringAt 0 [] ∷ []) (Literal 0 [])
literal n = or_one (and_one (plain_literal n))

-- what follows a name, where n more may be nested inside
abbrev After : ℕ → ℕ → List ℕ → List Lexeme → Tree → Type 0
After nest at name us t = Spells primary_level (suc nest) (NameAt at name ∷ us) t

-- the name of an option is not another name
not_named : (known w : List ℕ) (code : ℕ) → code_by_name known ≡ Some code → code_by_name w ≡ None → bytes_eq known w ≡ false
not_named known w code e unlisted =
    let by : (v : Bool) → bytes_eq known w ≡ v → v ≡ false
    = λ v. elim v as (λ v. bytes_eq known w ≡ v → v ≡ false) [
      | true ↦ λ is. none_is (sym unlisted ∙ (ap (λ u. code_by_name u) (sym ((bytes_eq-Decides known w).0 is)) ∙ e))
      | false ↦ λ _. refl
    ] in
    by (bytes_eq known w) refl

-- tokens like one that a test does not accept
sign_blind : (b : ℕ) → IsBlind (sign_at b)
sign_blind b _ _ itself e = e
sign_blind b _ _ another_number e = refl
sign_blind b _ _ another_below_zero e = refl
sign_blind b _ _ (an_option code is) e = refl

word_blind : (w : List ℕ) → code_by_name w ≡ None → IsBlind (word_at w)
word_blind w unlisted _ _ itself e = e
word_blind w unlisted _ _ another_number e = refl
word_blind w unlisted _ _ another_below_zero e = refl
word_blind w unlisted _ _ (an_option {known = known} code is) e = rw (not_named known w code is unlisted) refl

class_blind : IsBlind class_name
class_blind _ _ itself e = e
class_blind _ _ another_number e = refl
class_blind _ _ another_below_zero e = refl
class_blind _ _ (an_option code is) e = refl

-- names that are not option names
no_and : code_by_name (codes "and") ≡ None
unfolding code_by_name
no_and = refl

no_or : code_by_name (codes "or") ≡ None
unfolding code_by_name
no_or = refl

no_not : code_by_name (codes "not") ≡ None
unfolding code_by_name
no_not = refl

no_len : code_by_name (codes "len") ≡ None
unfolding code_by_name
no_len = refl

no_all : code_by_name (codes "all") ≡ None
unfolding code_by_name
no_all = refl

suffix_blind : IsBlind suffix_of
unfolding code_by_name
suffix_blind _ _ itself e = e
suffix_blind _ _ another_number e = refl
suffix_blind _ _ another_below_zero e = refl
suffix_blind _ _ (an_option {known = known} code is) e = rw (not_named known (codes "hex") code is refl, not_named known (codes "exists") code is refl) refl

-- an option's name is not a field's
no_field : (known : List ℕ) (code : ℕ) → code_by_name known ≡ Some code → field_by_name known ≡ None
unfolding code_by_name field_by_name
no_field known code is =
    rw (not_named known (codes "mac") code is refl, not_named known (codes "hlen") code is refl, not_named known (codes "htype") code is refl, not_named known (codes "ciaddr") code is refl, not_named known (codes "giaddr") code is refl, not_named known (codes "yiaddr") code is refl, not_named known (codes "siaddr") code is refl, not_named known (codes "msgtype") code is refl, not_named known (codes "transid") code is refl) refl

field_blind : IsBlind field_of
field_blind _ _ itself e = e
field_blind _ _ another_number e = refl
field_blind _ _ another_below_zero e = refl
field_blind _ _ (an_option {known = known} code is) e = no_field known code is

-- the tests of one token: which could come there, and how each is refused
at_front : {B : Type 0} (P : List Lexeme → B → Type 0) (r : Reader B) (rs : ℕ → Reader B) {x y : Lexeme} → x ≡ y → Good (λ ws b. P (y ∷ ws) b) r rs → Good (λ ws b. P (x ∷ ws) b) r rs
at_front P r rs e h = let F : Lexeme → Type 0 = λ z. Good (λ ws b. P (z ∷ ws) b) r rs in subst F (sym e) h

sign_found : (b : ℕ) → sign_at b (SignAt 0 b) ≡ Some 0
sign_found b = rw (eq-eqb b b refl) refl

sign_good : {B : Type 0} (P : List Lexeme → B → Type 0) (b : ℕ) (f : ℕ → Reader B) (fs : ℕ → ℕ → Reader B) → ((o : ℕ) → Good (λ ws t. P (SignAt o b ∷ ws) t) (f o) (λ j. fs j o)) → Good P (seq (sign_here b) f) (λ j. seq (sign_here b) (fs j))
sign_good P b f fs h =
    seq_one_good P (sign_at b) refusal_of f fs (wanted_good (sign_at b) refusal_of (plain_steady (sign_at b) (sign_blind b)) (SignAt 0 b) 0 (sign_found b) (λ end x ts. refusal_is (Begins (OneOf (sign_at b))) end x ts))
    (λ x o e. at_front P (f o) (λ j. fs j o) (sign_is b x o e) (h o))

len_good : {B : Type 0} (P : List Lexeme → B → Type 0) (f : ℕ → Reader B) (fs : ℕ → ℕ → Reader B) → ((o : ℕ) → Good (λ ws t. P (NameAt o (codes "len") ∷ ws) t) (f o) (λ j. fs j o)) → Good P (seq (word_here (codes "len")) f) (λ j. seq (word_here (codes "len")) (fs j))
len_good P f fs h =
    seq_one_good P (word_at (codes "len")) refusal_of f fs (wanted_good (word_at (codes "len")) refusal_of (plain_steady (word_at (codes "len")) (word_blind (codes "len") no_len)) (NameAt 0 (codes "len")) 0 refl (λ end x ts. refusal_is (Begins (OneOf (word_at (codes "len")))) end x ts))
    (λ x o e. at_front P (f o) (λ j. fs j o) (word_is (codes "len") x o e) (h o))

suffix_good : Good (OneOf suffix_of) (wanted suffix_of refusal_of) (λ j. wanted suffix_of refusal_of)
suffix_good = wanted_good suffix_of refusal_of (plain_steady suffix_of suffix_blind) (NameAt 0 (codes "hex")) false refl (λ end x ts. refusal_is (Begins (OneOf suffix_of)) end x ts)

field_good : Good (OneOf field_of) (wanted field_of refusal_of) (λ j. wanted field_of refusal_of)
unfolding field_by_name
field_good = wanted_good field_of refusal_of (plain_steady field_of field_blind) (NameAt 0 (codes "mac")) _ refl (λ end x ts. refusal_is (Begins (OneOf field_of)) end x ts)

class_good : Good (OneOf class_name) (wanted class_name refusal_of) (λ j. wanted class_name refusal_of)
class_good = wanted_good class_name refusal_of (plain_steady class_name class_blind) (StringAt 0 (97 ∷ [])) (97 ∷ []) refl (λ end x ts. refusal_is (Begins (OneOf class_name)) end x ts)

not_false : {C : Type 0} → ◌≡◌ {A = Bool} true false → C
not_false e = absurd (cc)

-- a number without a minus sign
abbrev is_number : Lexeme → Bool
is_number (NumberAt at k) = true
is_number x = false

-- a number without a minus sign, or a name
abbrev is_named_or_number : Lexeme → Bool
is_named_or_number (NumberAt at k) = true
is_named_or_number (NameAt at s) = true
is_named_or_number x = false

-- a number
abbrev is_signed : Lexeme → Bool
is_signed (NumberAt at k) = true
is_signed (MinusAt at k) = true
is_signed x = false

relay_like : (x y : Lexeme) → code_of_relay x ≡ None → IsLike x y → is_number x ≡ false → (code_of_relay y ≡ None) × (code_refusal y ≡ code_refusal x)
relay_like _ _ e itself n = (e, refl)
relay_like _ _ e another_number n = not_false n
relay_like _ _ e another_below_zero n = (refl, refl)
relay_like _ _ e (an_option code is) n = (refl, refl)

option_like : (x y : Lexeme) → code_of_option x ≡ None → IsLike x y → is_named_or_number x ≡ false → (code_of_option y ≡ None) × (option_refusal y ≡ option_refusal x)
option_like _ _ e itself n = (e, refl)
option_like _ _ e another_number n = not_false n
option_like _ _ e another_below_zero n = (refl, refl)
option_like _ _ e (an_option code is) n = not_false n

signed_like : (x y : Lexeme) → signed x ≡ None → IsLike x y → is_signed x ≡ false → (signed y ≡ None) × (signed_refusal y ≡ signed_refusal x)
signed_like _ _ e itself n = (e, refl)
signed_like _ _ e another_number n = not_false n
signed_like _ _ e another_below_zero n = not_false n
signed_like _ _ e (an_option code is) n = (refl, refl)

length_like : (x y : Lexeme) → length_of_part x ≡ None → IsLike x y → is_signed x ≡ false → (length_of_part y ≡ None) × (signed_refusal y ≡ signed_refusal x)
length_like _ _ e itself n = (e, refl)
length_like _ _ e another_number n = not_false n
length_like _ _ e another_below_zero n = not_false n
length_like _ _ e (an_option {known = known} code is) n = (rw (not_named known (codes "all") code is no_all) refl, refl)

routers_known : code_by_name (codes "routers") ≡ Some 3
unfolding code_by_name
routers_known = refl

relay_refused : (end : ℕ) (x : Lexeme) (ts : List Lexeme) → Refused (Begins (OneOf code_of_relay)) end [] (x ∷ ts) (code_refusal x)
relay_refused end (StringAt at s) ts = refusal_is (Begins (OneOf code_of_relay)) end (StringAt at s) ts
relay_refused end (HexAt at s) ts = refusal_is (Begins (OneOf code_of_relay)) end (HexAt at s) ts
relay_refused end (AddressAt at s) ts = refusal_is (Begins (OneOf code_of_relay)) end (AddressAt at s) ts
relay_refused end (NumberAt at s) ts = too_large at s 0 ts ([], 0, is_one (NumberAt at 0) refl)
relay_refused end (MinusAt at s) ts = refusal_is (Begins (OneOf code_of_relay)) end (MinusAt at s) ts
relay_refused end (NameAt at s) ts = refusal_is (Begins (OneOf code_of_relay)) end (NameAt at s) ts
relay_refused end (SignAt at s) ts = refusal_is (Begins (OneOf code_of_relay)) end (SignAt at s) ts
relay_refused end (BadAt at) ts = refusal_is (Begins (OneOf code_of_relay)) end (BadAt at) ts

relay_steady : IsSteady code_of_relay code_refusal
relay_steady j (StringAt at s) y e stays = relay_like (StringAt at s) y e stays refl
relay_steady j (HexAt at s) y e stays = relay_like (HexAt at s) y e stays refl
relay_steady j (AddressAt at s) y e stays = relay_like (AddressAt at s) y e stays refl
relay_steady j (NumberAt at s) y e stays = steady_same code_of_relay code_refusal (NumberAt at s) y e stays
relay_steady j (MinusAt at s) y e stays = relay_like (MinusAt at s) y e stays refl
relay_steady j (NameAt at s) y e stays = relay_like (NameAt at s) y e stays refl
relay_steady j (SignAt at s) y e stays = relay_like (SignAt at s) y e stays refl
relay_steady j (BadAt at) y e stays = steady_same code_of_relay code_refusal (BadAt at) y e stays

relay_code_good : Good (OneOf code_of_relay) (wanted code_of_relay code_refusal) (λ j. wanted code_of_relay code_refusal)
relay_code_good = wanted_good code_of_relay code_refusal relay_steady (NumberAt 0 0) 0 refl relay_refused

option_refused : (end : ℕ) (x : Lexeme) (ts : List Lexeme) → Refused (Begins (OneOf code_of_option)) end [] (x ∷ ts) (option_refusal x)
option_refused end (StringAt at s) ts = refusal_is (Begins (OneOf code_of_option)) end (StringAt at s) ts
option_refused end (HexAt at s) ts = refusal_is (Begins (OneOf code_of_option)) end (HexAt at s) ts
option_refused end (AddressAt at s) ts = refusal_is (Begins (OneOf code_of_option)) end (AddressAt at s) ts
option_refused end (NumberAt at s) ts = too_large at s 0 ts ([], 0, is_one (NumberAt at 0) refl)
option_refused end (MinusAt at s) ts = refusal_is (Begins (OneOf code_of_option)) end (MinusAt at s) ts
option_refused end (NameAt at s) ts = unknown at 3 s (codes "routers") ts routers_known ([], 3, is_one (NameAt at (codes "routers")) routers_known)
option_refused end (SignAt at s) ts = refusal_is (Begins (OneOf code_of_option)) end (SignAt at s) ts
option_refused end (BadAt at) ts = refusal_is (Begins (OneOf code_of_option)) end (BadAt at) ts

option_steady : IsSteady code_of_option option_refusal
option_steady j (StringAt at s) y e stays = option_like (StringAt at s) y e stays refl
option_steady j (HexAt at s) y e stays = option_like (HexAt at s) y e stays refl
option_steady j (AddressAt at s) y e stays = option_like (AddressAt at s) y e stays refl
option_steady j (NumberAt at s) y e stays = steady_same code_of_option option_refusal (NumberAt at s) y e stays
option_steady j (MinusAt at s) y e stays = option_like (MinusAt at s) y e stays refl
option_steady j (NameAt at s) y e stays = steady_same code_of_option option_refusal (NameAt at s) y e stays
option_steady j (SignAt at s) y e stays = option_like (SignAt at s) y e stays refl
option_steady j (BadAt at) y e stays = steady_same code_of_option option_refusal (BadAt at) y e stays

option_code_good : Good (OneOf code_of_option) (wanted code_of_option option_refusal) (λ j. wanted code_of_option option_refusal)
option_code_good = wanted_good code_of_option option_refusal option_steady (NumberAt 0 0) 0 refl option_refused

signed_refused : (end : ℕ) (x : Lexeme) (ts : List Lexeme) → Refused (Begins (OneOf signed)) end [] (x ∷ ts) (signed_refusal x)
signed_refused end (StringAt at s) ts = refusal_is (Begins (OneOf signed)) end (StringAt at s) ts
signed_refused end (HexAt at s) ts = refusal_is (Begins (OneOf signed)) end (HexAt at s) ts
signed_refused end (AddressAt at s) ts = refusal_is (Begins (OneOf signed)) end (AddressAt at s) ts
signed_refused end (NumberAt at s) ts = too_large at s 0 ts ([], pos 0, is_one (NumberAt at 0) refl)
signed_refused end (MinusAt at s) ts = too_low at s 0 ts ([], pos 0, is_one (MinusAt at 0) refl)
signed_refused end (NameAt at s) ts = refusal_is (Begins (OneOf signed)) end (NameAt at s) ts
signed_refused end (SignAt at s) ts = refusal_is (Begins (OneOf signed)) end (SignAt at s) ts
signed_refused end (BadAt at) ts = refusal_is (Begins (OneOf signed)) end (BadAt at) ts

signed_steady : IsSteady signed signed_refusal
signed_steady j (StringAt at s) y e stays = signed_like (StringAt at s) y e stays refl
signed_steady j (HexAt at s) y e stays = signed_like (HexAt at s) y e stays refl
signed_steady j (AddressAt at s) y e stays = signed_like (AddressAt at s) y e stays refl
signed_steady j (NumberAt at s) y e stays = steady_same signed signed_refusal (NumberAt at s) y e stays
signed_steady j (MinusAt at s) y e stays = steady_same signed signed_refusal (MinusAt at s) y e stays
signed_steady j (NameAt at s) y e stays = signed_like (NameAt at s) y e stays refl
signed_steady j (SignAt at s) y e stays = signed_like (SignAt at s) y e stays refl
signed_steady j (BadAt at) y e stays = steady_same signed signed_refusal (BadAt at) y e stays

signed_good : Good (OneOf signed) (wanted signed signed_refusal) (λ j. wanted signed signed_refusal)
signed_good = wanted_good signed signed_refusal signed_steady (NumberAt 0 0) (pos 0) refl signed_refused

length_refused : (end : ℕ) (x : Lexeme) (ts : List Lexeme) → Refused (Begins (OneOf length_of_part)) end [] (x ∷ ts) (signed_refusal x)
length_refused end (StringAt at s) ts = refusal_is (Begins (OneOf length_of_part)) end (StringAt at s) ts
length_refused end (HexAt at s) ts = refusal_is (Begins (OneOf length_of_part)) end (HexAt at s) ts
length_refused end (AddressAt at s) ts = refusal_is (Begins (OneOf length_of_part)) end (AddressAt at s) ts
length_refused end (NumberAt at s) ts = too_large at s 0 ts ([], Some (pos 0), is_one (NumberAt at 0) refl)
length_refused end (MinusAt at s) ts = too_low at s 0 ts ([], Some (pos 0), is_one (MinusAt at 0) refl)
length_refused end (NameAt at s) ts = refusal_is (Begins (OneOf length_of_part)) end (NameAt at s) ts
length_refused end (SignAt at s) ts = refusal_is (Begins (OneOf length_of_part)) end (SignAt at s) ts
length_refused end (BadAt at) ts = refusal_is (Begins (OneOf length_of_part)) end (BadAt at) ts

length_steady : IsSteady length_of_part signed_refusal
length_steady j (StringAt at s) y e stays = length_like (StringAt at s) y e stays refl
length_steady j (HexAt at s) y e stays = length_like (HexAt at s) y e stays refl
length_steady j (AddressAt at s) y e stays = length_like (AddressAt at s) y e stays refl
length_steady j (NumberAt at s) y e stays = steady_same length_of_part signed_refusal (NumberAt at s) y e stays
length_steady j (MinusAt at s) y e stays = steady_same length_of_part signed_refusal (MinusAt at s) y e stays
length_steady j (NameAt at s) y e stays = length_like (NameAt at s) y e stays refl
length_steady j (SignAt at s) y e stays = length_like (SignAt at s) y e stays refl
length_steady j (BadAt at) y e stays = steady_same length_of_part signed_refusal (BadAt at) y e stays

length_good : Good (OneOf length_of_part) (wanted length_of_part signed_refusal) (λ j. wanted length_of_part signed_refusal)
length_good = wanted_good length_of_part signed_refusal length_steady (NumberAt 0 0) (Some (pos 0)) refl length_refused

-- the forms with a code in brackets, and the fields
bracketed_good : (code : Lexeme → Option ℕ) (refusal : Lexeme → SyntaxFault) → Good (OneOf code) (wanted code refusal) (λ j. wanted code refusal) → Good (InBrackets code) (bracketed code refusal) (λ j. bracketed code refusal)
bracketed_good code refusal g =
    sign_good _ 91 _ _ (λ l. seq_one_good _ code refusal _ _ g (λ x c is. sign_good _ 93 _ _ (λ r. sign_good _ 46 _ _ (λ d.
    seq_one_good _ suffix_of refusal_of _ _ suffix_good (λ y b has. done_good _ (c, b) (in_brackets l r d x y is (suffix_is y b has)))))))

option_made : (nest : ℕ) → (at : ℕ) (c : ℕ × Bool) (us : List Lexeme) → InBrackets code_of_option us c → Good (λ ws t. After nest at (codes "option") (us ++ ws) t) (done (if c.1 then OptionExists at c.0 else OptionValue at c.0)) (λ j. done (if c.1 then OptionExists at c.0 else OptionValue at c.0))
option_made nest at _ _ (in_brackets l r d x _ {c = c} is hex) = done_good _ _ (option_hex (option_code_is x c is))
option_made nest at _ _ (in_brackets l r d x _ {c = c} is exists) = done_good _ _ (option_exists (option_code_is x c is))

option_good : (nest : ℕ) → (at : ℕ) → Good (After nest at (codes "option")) (option_at at) (λ j. option_at at)
unfolding option_at
option_good nest at = seq_good (InBrackets code_of_option) (After nest at (codes "option")) (bracketed code_of_option option_refusal) _ (λ j. bracketed code_of_option option_refusal) _ (bracketed_good code_of_option option_refusal option_code_good) (option_made nest at)

relay_value : (nest : ℕ) → (at l r d e : ℕ) (x : Lexeme) (c : ℕ) → IsRelayCode x c → After nest at (codes "relay4") (SignAt l 91 ∷ x ∷ SignAt r 93 ∷ SignAt d 46 ∷ NameAt e (codes "hex") ∷ []) (RelayValue at c)
relay_value nest at l r d e _ _ (relay_number h) = relay_hex h

relay_there : (nest : ℕ) → (at l r d e : ℕ) (x : Lexeme) (c : ℕ) → IsRelayCode x c → After nest at (codes "relay4") (SignAt l 91 ∷ x ∷ SignAt r 93 ∷ SignAt d 46 ∷ NameAt e (codes "exists") ∷ []) (RelayExists at c)
relay_there nest at l r d e _ _ (relay_number h) = relay_exists h

relay_made : (nest : ℕ) → (at : ℕ) (c : ℕ × Bool) (us : List Lexeme) → InBrackets code_of_relay us c → Good (λ ws t. After nest at (codes "relay4") (us ++ ws) t) (done (if c.1 then RelayExists at c.0 else RelayValue at c.0)) (λ j. done (if c.1 then RelayExists at c.0 else RelayValue at c.0))
relay_made nest at _ _ (in_brackets l r d x _ {c = c} is (hex {at = e})) = done_good _ _ (relay_value nest at l r d e x c (relay_code_is x c is))
relay_made nest at _ _ (in_brackets l r d x _ {c = c} is (exists {at = e})) = done_good _ _ (relay_there nest at l r d e x c (relay_code_is x c is))

relay_good : (nest : ℕ) → (at : ℕ) → Good (After nest at (codes "relay4")) (relay_at at) (λ j. relay_at at)
unfolding relay_at
relay_good nest at = seq_good (InBrackets code_of_relay) (After nest at (codes "relay4")) (bracketed code_of_relay code_refusal) _ (λ j. bracketed code_of_relay code_refusal) _ (bracketed_good code_of_relay code_refusal relay_code_good) (relay_made nest at)

field_made : (nest : ℕ) → (at d : ℕ) (x : Lexeme) (part : Field) → IsPartName x part → After nest at (codes "pkt4") (SignAt d 46 ∷ x ∷ []) (FieldValue at part)
field_made nest at d _ _ (part_name e) = field e

fields_good : (nest : ℕ) → (at : ℕ) → Good (After nest at (codes "pkt4")) (field_after at) (λ j. field_after at)
unfolding field_after
fields_good nest at = sign_good _ 46 _ _ (λ d. seq_one_good _ field_of refusal_of _ _ field_good (λ x part is. done_good _ _ (field_made nest at d x part (field_of_is x part is))))

packet_good : (nest : ℕ) → (at : ℕ) → Good (After nest at (codes "pkt")) (packet_at at) (λ j. packet_at at)
unfolding packet_at
packet_good nest at = sign_good _ 46 _ _ (λ d. len_good _ _ _ (λ e. done_good _ _ packet_length))

-- no deeper nesting remains
record IsClosed (d : Deeper) : Type 0 where
  any : (at end : ℕ) (ts : List Lexeme) → d.any at end ts ≡ Err (faults.TooNested at)
  operand : (at end : ℕ) (ts : List Lexeme) → d.operand at end ts ≡ Err (faults.TooNested at)
  name : (at end : ℕ) (ts : List Lexeme) → d.name at end ts ≡ Err (faults.TooNested at)

-- the readers one nesting level deeper are good
record IsOpen (nest : ℕ) (d : Deeper) (ds : ℕ → Deeper) : Type 0 where
  any : (at : ℕ) → Good (Spells or_level nest) (d.any at) (λ j. (ds j).any at)
  operand : (at : ℕ) → Good (Spells not_level nest) (d.operand at) (λ j. (ds j).operand at)
  name : (at : ℕ) → Good (OneOf class_name) (d.name at) (λ j. (ds j).name at)

-- one of both, of readers and of those where more may be nested
abbrev Nests : ℕ → Deeper → (ℕ → Deeper) → Type 0
Nests nest d ds = (IsClosed d × ((j : ℕ) → j ≡ 0 → IsClosed (ds j))) ⊎ IsOpen nest d ds

-- at each number of tokens
each_of : {B : Type 0} (P : List Lexeme → B → Type 0) (r : Reader B) (rs : ℕ → Reader B) → ((end : ℕ) → Comes P rs end [] (r end [])) → ((x : Lexeme) (end : ℕ) (ts : List Lexeme) → Comes P rs end (x ∷ ts) (r end (x ∷ ts))) → (end : ℕ) (ts : List Lexeme) → Comes P rs end ts (r end ts)
each_of P r rs none some end [] = none end
each_of P r rs none some end (x ∷ ts) = some x end ts

missed : {B : Type 0} (f : ℕ → Reader B) (x : Lexeme) (end : ℕ) (ts : List Lexeme) → sign_at 40 x ≡ None → ◌≡◌ {A = Result (B × List Lexeme) SyntaxFault} (seq (sign_here 40) f end (x ∷ ts)) (Err (refusal_of x))
missed f x end ts e = rw e refl

-- after this bracket nothing may be nested
closed_good : {B : Type 0} (P : List Lexeme → B → Type 0) (f : ℕ → Reader B) (fs : ℕ → ℕ → Reader B) → ((at end : ℕ) (ts : List Lexeme) → ◌≡◌ {A = Result (B × List Lexeme) SyntaxFault} (f at end ts) (Err (faults.TooNested at))) → ((j : ℕ) → j ≡ 0 → (at end : ℕ) (ts : List Lexeme) → ◌≡◌ {A = Result (B × List Lexeme) SyntaxFault} (fs j at end ts) (Err (faults.TooNested at))) → ((o : ℕ) → Begins P (SignAt o 40 ∷ [])) → Good P (seq (sign_here 40) f) (λ j. seq (sign_here 40) (fs j))
closed_good {B} P f fs refuses others some k =
    let begins : Begins P [] = (SignAt 0 40 ∷ (some 0).0, (some 0).1, (some 0).2) in
    let rs : ℕ → Reader B = λ j. seq (sign_here 40) (fs j) in
    let other : (x : Lexeme) (end : ℕ) (ts : List Lexeme) → sign_at 40 x ≡ None → Comes P rs end (x ∷ ts) (seq (sign_here 40) f end (x ∷ ts))
    = λ x end ts e. subst (λ (v : Result (B × List Lexeme) SyntaxFault). Comes P rs end (x ∷ ts) v) (sym (missed f x end ts e))
    (stops_at P rs x end ts (refusal_of x) begins (refusal_is (Begins P) end x ts)
    (λ j y us l. let same = plain_steady (sign_at 40) (sign_blind 40) j x y e l in missed (fs j) y end us same.0 ∙ ap (λ v. Err v) same.1)) in
    let opens : (o end : ℕ) (ts : List Lexeme) → Comes P rs end (SignAt o 40 ∷ ts) (seq (sign_here 40) f end (SignAt o 40 ∷ ts))
    = λ o end ts. subst (λ (v : Result (B × List Lexeme) SyntaxFault). Comes P rs end (SignAt o 40 ∷ ts) v) (sym (refuses o end ts))
    (stops_at P rs (SignAt o 40) end ts (faults.TooNested o) begins (nested (SignAt o 40) ts bracket (some o))
    (λ j y us l. ap (λ v. rs j end (v ∷ us)) (sym l.1) ∙ others j l.0 o end us)) in
    let first : (x : Lexeme) (end : ℕ) (ts : List Lexeme) (answer : Option ℕ) → sign_at 40 x ≡ answer → Comes P rs end (x ∷ ts) (seq (sign_here 40) f end (x ∷ ts))
    = λ x end ts answer. elim answer as (λ v. sign_at 40 x ≡ v → Comes P rs end (x ∷ ts) (seq (sign_here 40) f end (x ∷ ts))) [
      | None ↦ λ e. other x end ts e
      | Some o ↦ λ e. subst (λ v. Comes P rs end (v ∷ ts) (seq (sign_here 40) f end (v ∷ ts))) (sym (sign_is 40 x o e)) (opens o end ts)
    ] in
    record {
      some = begins;
      each = λ end ts fits. each_of P (seq (sign_here 40) f) rs (λ end. at_the_end P rs end begins (λ j. refl)) (λ x end ts. first x end ts (sign_at 40 x) refl) end ts;
    }

-- results that go on alike
on_ok_same : {A B : Type 0} (answer : Result A SyntaxFault) (f g : A → Result B SyntaxFault) → ((a : A) → f a ≡ g a) → on_ok answer f ≡ on_ok answer g
on_ok_same (Err fault) f g h = refl
on_ok_same (Ok a) f g h = h a

-- after the bracket, an operand one nesting level deeper
enters : (nest : ℕ) → {B : Type 0} (d : Deeper) (ds : ℕ → Deeper) → Nests nest d ds → (P : List Lexeme → B → Type 0) (g : ℕ → Tree → Reader B) (gs : ℕ → ℕ → Tree → Reader B) → ((o : ℕ) → Begins P (SignAt o 40 ∷ [])) → (((o : ℕ) → Good (Spells or_level nest) (d.any o) (λ j. (ds j).any o)) → (o : ℕ) (a : Tree) (us : List Lexeme) → Spells or_level nest us a → Good (λ ws b. P (SignAt o 40 ∷ (us ++ ws)) b) (g o a) (λ j. gs j o a)) → Good P (seq (sign_here 40) (λ o. seq (d.any o) (g o))) (λ j. seq (sign_here 40) (λ o. seq ((ds j).any o) (gs j o)))
enters nest d ds (inl closed) P g gs some h =
    closed_good P (λ o. seq (d.any o) (g o)) (λ j o. seq ((ds j).any o) (gs j o)) (λ at end ts. ap (λ (v : Result (Tree × List Lexeme) SyntaxFault). on_ok v (λ x. g at x.0 end x.1)) (closed.0.any at end ts))
    (λ j none at end ts. ap (λ (v : Result (Tree × List Lexeme) SyntaxFault). on_ok v (λ x. gs j at x.0 end x.1)) ((closed.1 j none).any at end ts)) some
enters nest d ds (inr opened) P g gs some h =
    sign_good P 40 (λ o. seq (d.any o) (g o)) (λ j o. seq ((ds j).any o) (gs j o))
    (λ o. seq_good (Spells or_level nest) (λ ws b. P (SignAt o 40 ∷ ws) b) (d.any o) (g o) (λ j. (ds j).any o) (λ j. gs j o) (opened.any o) (λ a us q. h opened.any o a us q))

enter_is : {B : Type 0} (d : Deeper) (b : ℕ) (f : ℕ → Tree → Reader B) (end : ℕ) (ts : List Lexeme) → seq (sign_here 40) (λ o. seq (operand_then d o b) (f o)) end ts ≡ seq (sign_here 40) (λ o. seq (d.any o) (λ a. seq (sign_here b) (λ _. f o a))) end ts
enter_is d b f end ts = on_ok_same (sign_here 40 end ts) (λ x. seq (operand_then d x.0 b) (f x.0) end x.1) (λ x. seq (d.any x.0) (λ a. seq (sign_here b) (λ _. f x.0 a)) end x.1) (λ x. before_is d x.0 b (f x.0) end x.1)

one_is : (d : Deeper) (join : Tree → Tree) (end : ℕ) (ts : List Lexeme) → seq (operand_in_brackets d) (λ a. done (join a)) end ts ≡ seq (sign_here 40) (λ o. seq (operand_then d o 41) (λ a. done (join a))) end ts
unfolding operand_in_brackets
one_is d join end ts = on_ok_twice (sign_here 40 end ts) (λ x. operand_then d x.0 41 end x.1) (λ y. done (join y.0) end y.1)

two_is : {B : Type 0} (d : Deeper) (f : Tree × Tree → Reader B) (end : ℕ) (ts : List Lexeme) → seq (operands_in_brackets d) f end ts ≡ seq (sign_here 40) (λ o. seq (operand_then d o 44) (λ a. seq (operand_then d o 41) (λ b. f (a, b)))) end ts
unfolding operands_in_brackets
two_is d f end ts =
    on_ok_twice (sign_here 40 end ts) (λ x. seq (operand_then d x.0 44) (λ a. seq (operand_then d x.0 41) (λ b. done (a, b))) end x.1) (λ y. f y.0 end y.1)
    ∙ on_ok_same (sign_here 40 end ts) _ _ (λ x.
    on_ok_twice (operand_then d x.0 44 end x.1) (λ y. seq (operand_then d x.0 41) (λ b. done (y.0, b)) end y.1) (λ z. f z.0 end z.1)
    ∙ on_ok_same (operand_then d x.0 44 end x.1) _ _ (λ y.
    on_ok_twice (operand_then d x.0 41 end y.1) (λ z. done (y.0, z.0) end z.1) (λ z. f z.0 end z.1)))

module _ (nest : ℕ) (d : Deeper) (ds : ℕ → Deeper) (g : Nests nest d ds) where
  first_good : {B : Type 0} (P : List Lexeme → B → Type 0) (b : ℕ) (f : ℕ → Tree → Reader B) (fs : ℕ → ℕ → Tree → Reader B) → ((o : ℕ) → Begins P (SignAt o 40 ∷ [])) → (((o : ℕ) → Good (Spells or_level nest) (d.any o) (λ j. (ds j).any o)) → (o : ℕ) (a : Tree) (us : List Lexeme) → Spells or_level nest us a → (c : ℕ) → Good (λ ws t. P (SignAt o 40 ∷ (us ++ SignAt c b ∷ ws)) t) (f o a) (λ j. fs j o a)) → Good P (seq (sign_here 40) (λ o. seq (operand_then d o b) (f o))) (λ j. seq (sign_here 40) (λ o. seq (operand_then (ds j) o b) (fs j o)))
  first_good P b f fs some h k =
      same_good k P (seq (sign_here 40) (λ o. seq (operand_then d o b) (f o))) (λ j. seq (sign_here 40) (λ o. seq (operand_then (ds j) o b) (fs j o))) (seq (sign_here 40) (λ o. seq (d.any o) (λ a. seq (sign_here b) (λ _. f o a)))) (λ j. seq (sign_here 40) (λ o. seq ((ds j).any o) (λ a. seq (sign_here b) (λ _. fs j o a)))) (enter_is d b f) (λ j. enter_is (ds j) b (fs j))
      (enters nest d ds g P (λ o a. seq (sign_here b) (λ _. f o a)) (λ j o a. seq (sign_here b) (λ _. fs j o a)) some (λ any o a us q. sign_good (λ ws t. P (SignAt o 40 ∷ (us ++ ws)) t) b (λ _. f o a) (λ j _. fs j o a) (h any o a us q)) k)

  next_good : {B : Type 0} (P : List Lexeme → B → Type 0) (o b : ℕ) (f : Tree → Reader B) (fs : ℕ → Tree → Reader B) → ((o : ℕ) → Good (Spells or_level nest) (d.any o) (λ j. (ds j).any o)) → ((a : Tree) (us : List Lexeme) → Spells or_level nest us a → (c : ℕ) → Good (λ ws t. P (us ++ SignAt c b ∷ ws) t) (f a) (λ j. fs j a)) → Good P (seq (operand_then d o b) f) (λ j. seq (operand_then (ds j) o b) (fs j))
  next_good P o b f fs any h k =
      same_good k P (seq (operand_then d o b) f) (λ j. seq (operand_then (ds j) o b) (fs j)) (seq (d.any o) (λ a. seq (sign_here b) (λ _. f a))) (λ j. seq ((ds j).any o) (λ a. seq (sign_here b) (λ _. fs j a))) (before_is d o b f) (λ j. before_is (ds j) o b (fs j))
      (seq_good (Spells or_level nest) P (d.any o) (λ a. seq (sign_here b) (λ _. f a)) (λ j. (ds j).any o) (λ j a. seq (sign_here b) (λ _. fs j a)) (any o) (λ a us q. sign_good (λ ws t. P (us ++ ws) t) b (λ _. f a) (λ j _. fs j a) (h a us q)) k)

  group_good : Good (Spells primary_level (suc nest)) (group_at d) (λ j. group_at (ds j))
  unfolding group_at
  group_good =
      first_good (Spells primary_level (suc nest)) 41 (λ at a. done (Group at a)) (λ j at a. done (Group at a)) (λ o. (StringAt 0 [] ∷ SignAt 0 41 ∷ [], Group o (Literal 0 []), group 0 (literal nest)))
      (λ any at a us q c. done_good _ _ (group c q))

  -- one operand in brackets
  one_good : (P : List Lexeme → Tree → Type 0) (join : Tree → Tree) → ((o c : ℕ) (us : List Lexeme) (a : Tree) → Spells or_level nest us a → P (SignAt o 40 ∷ (us ++ SignAt c 41 ∷ [])) (join a)) → Good P (seq (operand_in_brackets d) (λ a. done (join a))) (λ j. seq (operand_in_brackets (ds j)) (λ a. done (join a)))
  one_good P join made k =
      same_good k P (seq (operand_in_brackets d) (λ a. done (join a))) (λ j. seq (operand_in_brackets (ds j)) (λ a. done (join a))) (seq (sign_here 40) (λ o. seq (operand_then d o 41) (λ a. done (join a)))) (λ j. seq (sign_here 40) (λ o. seq (operand_then (ds j) o 41) (λ a. done (join a)))) (one_is d join) (λ j. one_is (ds j) join)
      (first_good P 41 (λ o a. done (join a)) (λ j o a. done (join a)) (λ o. (StringAt 0 [] ∷ SignAt 0 41 ∷ [], join (Literal 0 []), made o 0 (StringAt 0 [] ∷ []) (Literal 0 []) (literal nest)))
      (λ any o a us q c. done_good _ _ (made o c us a q)) k)

  -- two operands in brackets
  two_good : (P : List Lexeme → Tree → Type 0) (join : Tree → Tree → Tree) → ((o c e : ℕ) (us vs : List Lexeme) (a b : Tree) → Spells or_level nest us a → Spells or_level nest vs b → P (SignAt o 40 ∷ (us ++ SignAt c 44 ∷ (vs ++ SignAt e 41 ∷ []))) (join a b)) → Good P (seq (operands_in_brackets d) (λ x. done (join x.0 x.1))) (λ j. seq (operands_in_brackets (ds j)) (λ x. done (join x.0 x.1)))
  two_good P join made k =
      same_good k P (seq (operands_in_brackets d) (λ x. done (join x.0 x.1))) (λ j. seq (operands_in_brackets (ds j)) (λ x. done (join x.0 x.1))) (seq (sign_here 40) (λ o. seq (operand_then d o 44) (λ a. seq (operand_then d o 41) (λ b. done (join a b))))) (λ j. seq (sign_here 40) (λ o. seq (operand_then (ds j) o 44) (λ a. seq (operand_then (ds j) o 41) (λ b. done (join a b))))) (two_is d (λ x. done (join x.0 x.1))) (λ j. two_is (ds j) (λ x. done (join x.0 x.1)))
      (first_good P 44 (λ o a. seq (operand_then d o 41) (λ b. done (join a b))) (λ j o a. seq (operand_then (ds j) o 41) (λ b. done (join a b))) (λ o. (StringAt 0 [] ∷ SignAt 0 44 ∷ StringAt 0 [] ∷ SignAt 0 41 ∷ [], join (Literal 0 []) (Literal 0 []), made o 0 0 (StringAt 0 [] ∷ []) (StringAt 0 [] ∷ []) (Literal 0 []) (Literal 0 []) (literal nest) (literal nest)))
      (λ any o a us q c. next_good _ o 41 (λ b. done (join a b)) (λ j b. done (join a b)) any (λ b vs r e. done_good _ _ (made o c e us vs a b q r))) k)

  choice_good : (at : ℕ) → Good (After nest at (codes "ifelse")) (ifelse_at d at) (λ j. ifelse_at (ds j) at)
  unfolding ifelse_at
  choice_good at =
      first_good (After nest at (codes "ifelse")) 44 (λ o t. seq (operand_then d o 44) (λ a. seq (operand_then d o 41) (λ b. done (IfElse at t a b)))) (λ j o t. seq (operand_then (ds j) o 44) (λ a. seq (operand_then (ds j) o 41) (λ b. done (IfElse at t a b))))
      (λ o. (StringAt 0 [] ∷ SignAt 0 44 ∷ StringAt 0 [] ∷ SignAt 0 44 ∷ StringAt 0 [] ∷ SignAt 0 41 ∷ [], IfElse at (Literal 0 []) (Literal 0 []) (Literal 0 []), ifelse 0 0 0 (literal nest) (literal nest) (literal nest)))
      (λ any o t us q c. next_good _ o 44 _ _ any (λ a vs r e. next_good _ o 41 _ _ any (λ b ws s f. done_good _ _ (ifelse c e f q r s))))

  part_good : (at : ℕ) → Good (After nest at (codes "substring")) (substring_after d at) (λ j. substring_after (ds j) at)
  unfolding substring_after
  part_good at =
      first_good (After nest at (codes "substring")) 44 (λ o a. seq (wanted signed signed_refusal) (λ start. seq (sign_here 44) (λ _. seq (wanted length_of_part signed_refusal) (λ len. seq (sign_here 41) (λ _. done (Substring at a start len)))))) (λ j o a. seq (wanted signed signed_refusal) (λ start. seq (sign_here 44) (λ _. seq (wanted length_of_part signed_refusal) (λ len. seq (sign_here 41) (λ _. done (Substring at a start len))))))
      (λ o. (StringAt 0 [] ∷ SignAt 0 44 ∷ NumberAt 0 0 ∷ SignAt 0 44 ∷ NumberAt 0 0 ∷ SignAt 0 41 ∷ [], Substring at (Literal 0 []) (pos 0) (Some (pos 0)), substring 0 0 0 (literal nest) (signed_is (NumberAt 0 0) (pos 0) refl) (length_is (NumberAt 0 0) (Some (pos 0)) refl)))
      (λ any o a us q c. seq_one_good _ signed signed_refusal _ _ signed_good (λ x start i. sign_good _ 44 _ _ (λ e.
      seq_one_good _ length_of_part signed_refusal _ _ length_good (λ y len l. sign_good _ 41 _ _ (λ f.
      done_good _ _ (substring c e f q (signed_is x start i) (length_is y len l)))))))

name_made : (nest : ℕ) → (at o k c : ℕ) (x : Lexeme) (s : List ℕ) → IsClassName x s → After nest at (codes "member") (SignAt o 40 ∷ x ∷ SignAt c 41 ∷ []) (Member at s)
name_made nest at o k c _ _ (class_is least most) = member least most

member_rest : (nest : ℕ) → (at o : ℕ) (s : List ℕ) (us : List Lexeme) → OneOf class_name us s → Good (λ ws t. After nest at (codes "member") (SignAt o 40 ∷ (us ++ ws)) t) (seq (sign_here 41) (λ _. done (Member at s))) (λ j. seq (sign_here 41) (λ _. done (Member at s)))
member_rest nest at o s _ (is_one x e) = sign_good _ 41 _ _ (λ c. done_good _ _ (name_made nest at o 0 c x s (class_name_is x s e)))

member_good : (nest : ℕ) → (d : Deeper) (ds : ℕ → Deeper) → Nests nest d ds → (at : ℕ) → Good (After nest at (codes "member")) (member_at d at) (λ j. member_at (ds j) at)
unfolding member_at
member_good nest d ds (inl closed) at =
    closed_good (After nest at (codes "member")) _ _ (λ o end ts. ap (λ (v : Result (List ℕ × List Lexeme) SyntaxFault). on_ok v (λ x. seq (sign_here 41) (λ _. done (Member at x.0)) end x.1)) (closed.0.name o end ts))
    (λ j none o end ts. ap (λ (v : Result (List ℕ × List Lexeme) SyntaxFault). on_ok v (λ x. seq (sign_here 41) (λ _. done (Member at x.0)) end x.1)) ((closed.1 j none).name o end ts))
    (λ o. (StringAt 0 (97 ∷ []) ∷ SignAt 0 41 ∷ [], Member at (97 ∷ []), name_made nest at o 0 0 (StringAt 0 (97 ∷ [])) (97 ∷ []) (class_name_is (StringAt 0 (97 ∷ [])) (97 ∷ []) refl)))
member_good nest d ds (inr opened) at = sign_good _ 40 _ _ (λ o. seq_good (OneOf class_name) _ (d.name o) _ (λ j. (ds j).name o) _ (opened.name o) (λ s us q. member_rest nest at o s us q))

-- what a reader comes to that goes on with another after a name, or refuses the name
abbrev Named : ℕ → (ℕ → Reader Tree) → ℕ → List ℕ → Reader Tree → (ℕ → Reader Tree) → Type 0
Named nest rs at name s ss = ((j end : ℕ) (us : List Lexeme) → rs j end (NameAt at name ∷ us) ≡ ss j end us) → (end : ℕ) (ts : List Lexeme) → Comes (Spells primary_level (suc nest)) rs end (NameAt at name ∷ ts) (s end ts)

named_by : (nest : ℕ) → (rs : ℕ → Reader Tree) (at : ℕ) (name : List ℕ) (s : Reader Tree) (ss : ℕ → Reader Tree) → Good (After nest at name) s ss → Named nest rs at name s ss
named_by nest rs at name s ss g same end ts = goes_on (Spells primary_level (suc nest)) rs ss (NameAt at name) end ts (λ j us. same j end us) (s end ts) (comes (After nest at name) s ss g end ts)

begins_primary : (nest : ℕ) → Begins (Spells primary_level (suc nest)) []
begins_primary nest = (StringAt 0 [] ∷ [], Literal 0 [], string)

-- readers that do not accept the names of options
abbrev TakesNone : (ℕ → Reader Tree) → ℕ → Type 0
TakesNone rs at = (j end code : ℕ) (known : List ℕ) (us : List Lexeme) → code_by_name known ≡ Some code → ◌≡◌ {A = Result (Tree × List Lexeme) SyntaxFault} (rs j end (NameAt at known ∷ us)) (Err (faults.Expected at))

no_name : {C : Type 0} {p k at : ℕ} {name : List ℕ} → NumberAt p k ≡ NameAt at name → C
no_name e = absurd (cc)

no_minus : {C : Type 0} {p k at : ℕ} {name : List ℕ} → MinusAt p k ≡ NameAt at name → C
no_minus e = absurd (cc)

same_place : {p at : ℕ} {name other : List ℕ} → NameAt p other ≡ NameAt at name → p ≡ at
same_place e = ap (λ v. token_place v) e

unnamed_stays : (rs : ℕ → Reader Tree) (at : ℕ) (name : List ℕ) → TakesNone rs at → ((j end : ℕ) (us : List Lexeme) → ◌≡◌ {A = Result (Tree × List Lexeme) SyntaxFault} (rs j end (NameAt at name ∷ us)) (Err (faults.Expected at))) → (j end : ℕ) (x y : Lexeme) (us : List Lexeme) → x ≡ NameAt at name → IsLike x y → ◌≡◌ {A = Result (Tree × List Lexeme) SyntaxFault} (rs j end (y ∷ us)) (Err (faults.Expected at))
unnamed_stays rs at name takes same j end x _ us is itself = ap (λ v. rs j end (v ∷ us)) is ∙ same j end us
unnamed_stays rs at name takes same j end _ _ us is another_number = no_name is
unnamed_stays rs at name takes same j end _ _ us is another_below_zero = no_minus is
unnamed_stays rs at name takes same j end _ _ us is (an_option {at = p} {known = known} code e) = ap (λ v. rs j end (NameAt v known ∷ us)) (same_place is) ∙ takes j end code known us e

unnamed : (nest : ℕ) → (rs : ℕ → Reader Tree) (at : ℕ) (name : List ℕ) → TakesNone rs at → Named nest rs at name (λ end ts. Err (faults.Expected at)) (λ j end ts. Err (faults.Expected at))
unnamed nest rs at name takes same end ts = stops_at (Spells primary_level (suc nest)) rs (NameAt at name) end ts (faults.Expected at) (begins_primary nest) (unexpected (NameAt at name) ts refl) (λ j y us l. unnamed_stays rs at name takes same j end (NameAt at name) y us refl l)

named_test : (nest : ℕ) → (rs : ℕ → Reader Tree) (at : ℕ) (name w : List ℕ) (s : Reader Tree) (ss : ℕ → Reader Tree) (other : Reader Tree) (others : ℕ → Reader Tree) → Good (After nest at w) s ss → Named nest rs at name other others → Named nest rs at name (if bytes_eq name w then s else other) (λ j. if bytes_eq name w then ss j else others j)
named_test nest rs at name w s ss other others g n =
    let by : (v : Bool) → bytes_eq name w ≡ v → Named nest rs at name (if v then s else other) (λ j. if v then ss j else others j)
    = λ v. elim v as (λ v. bytes_eq name w ≡ v → Named nest rs at name (if v then s else other) (λ j. if v then ss j else others j)) [
      | true ↦ λ is. let F : List ℕ → Type 0 = λ u. Good (After nest at u) s ss in named_by nest rs at name s ss (subst F (sym ((bytes_eq-Decides name w).0 is)) g)
      | false ↦ λ _. n
    ] in
    by (bytes_eq name w) refl

form_named : (nest : ℕ) → (d : Deeper) (ds : ℕ → Deeper) → Nests nest d ds → (rs : ℕ → Reader Tree) (at : ℕ) (name : List ℕ) → TakesNone rs at → Named nest rs at name (form_at d at name) (λ j. form_at (ds j) at name)
unfolding form_at
form_named nest d ds g rs at name takes =
    named_test nest rs at name (codes "substring") _ _ _ _ (part_good nest d ds g at)
    (named_test nest rs at name (codes "ifelse") _ _ _ _ (choice_good nest d ds g at)
    (named_test nest rs at name (codes "concat") _ _ _ _ (two_good nest d ds g _ (Concat at) (λ o c e us vs a b p q. concat c e p q))
    (named_test nest rs at name (codes "hexstring") _ _ _ _ (two_good nest d ds g _ (HexString at) (λ o c e us vs a b p q. hexstring c e p q))
    (named_test nest rs at name (codes "lcase") _ _ _ _ (one_good nest d ds g _ (Lower at) (λ o c us a q. lcase c q))
    (named_test nest rs at name (codes "ucase") _ _ _ _ (one_good nest d ds g _ (Upper at) (λ o c us a q. ucase c q))
    (named_test nest rs at name (codes "uint32totext") _ _ _ _ (one_good nest d ds g _ (IntToText at) (λ o c us a q. uint32totext c q))
    (unnamed nest rs at name takes)))))))

named_good : (nest : ℕ) → (d : Deeper) (ds : ℕ → Deeper) → Nests nest d ds → (rs : ℕ → Reader Tree) (at : ℕ) (name : List ℕ) → TakesNone rs at → Named nest rs at name (named_at d at name) (λ j. named_at (ds j) at name)
unfolding named_at
named_good nest d ds g rs at name takes =
    named_test nest rs at name (codes "option") _ _ _ _ (option_good nest at)
    (named_test nest rs at name (codes "relay4") _ _ _ _ (relay_good nest at)
    (named_test nest rs at name (codes "pkt4") _ _ _ _ (fields_good nest at)
    (named_test nest rs at name (codes "pkt") _ _ _ _ (packet_good nest at)
    (named_test nest rs at name (codes "member") _ _ _ _ (member_good nest d ds g at)
    (form_named nest d ds g rs at name takes)))))

-- no form has the name of an option
takes_none : (ds : ℕ → Deeper) (at : ℕ) → TakesNone (λ j. primary_at (ds j)) at
unfolding primary_at named_at form_at code_by_name
takes_none ds at j end code known us e =
    rw (
      not_named known (codes "option") code e refl,
      not_named known (codes "relay4") code e refl,
      not_named known (codes "pkt4") code e refl,
      not_named known (codes "pkt") code e refl,
      not_named known (codes "member") code e refl,
      not_named known (codes "substring") code e refl,
      not_named known (codes "ifelse") code e refl,
      not_named known (codes "concat") code e refl,
      not_named known (codes "hexstring") code e refl,
      not_named known (codes "lcase") code e refl,
      not_named known (codes "ucase") code e refl,
      not_named known (codes "uint32totext") code e refl,
    ) refl

number_comes : (nest : ℕ) → (d : Deeper) (ds : ℕ → Deeper) (at k end : ℕ) (ts : List Lexeme) (fits : Bool) → nat_lt k (2 ^ 32) ≡ fits → Comes (Spells primary_level (suc nest)) (λ j. primary_at (ds j)) end (NumberAt at k ∷ ts) (if fits then Ok (Int at k, ts) else Err (faults.NumberTooLarge at))
unfolding primary_at
number_comes nest d ds at k end ts true e = reads_one (Spells primary_level (suc nest)) (λ j. primary_at (ds j)) (NumberAt at k) end ts (Int at k) (number (ltb-true k (2 ^ 32) e)) (λ j us. rw e refl)
number_comes nest d ds at k end ts false e = stops_at (Spells primary_level (suc nest)) (λ j. primary_at (ds j)) (NumberAt at k) end ts (faults.NumberTooLarge at) (begins_primary nest) (too_large at k 0 ts ([], Int at 0, number (ltb-true 0 (2 ^ 32) refl))) (λ j y us l. subst (λ v. ◌≡◌ {A = Result (Tree × List Lexeme) SyntaxFault} (primary_at (ds j) end (v ∷ us)) (Err (faults.NumberTooLarge at))) l (rw e refl))

-- a negative number at a place
data IsMinusAt (at : ℕ) : Lexeme → Type 0 where
  minus_there : (k : ℕ) → IsMinusAt at (MinusAt at k)

minus_stays : (ds : ℕ → Deeper) (j end at : ℕ) (x y : Lexeme) (us : List Lexeme) → IsMinusAt at x → IsLike x y → ◌≡◌ {A = Result (Tree × List Lexeme) SyntaxFault} (primary_at (ds j) end (y ∷ us)) (Err (faults.Expected at))
unfolding primary_at
minus_stays ds j end at _ _ us (minus_there k) itself = refl
minus_stays ds j end at _ _ us (minus_there k) another_below_zero = refl

sign_no_number : {C : Type 0} {p k at b : ℕ} → NumberAt p k ≡ SignAt at b → C
sign_no_number e = absurd (cc)

sign_no_minus : {C : Type 0} {p k at b : ℕ} → MinusAt p k ≡ SignAt at b → C
sign_no_minus e = absurd (cc)

sign_no_name : {C : Type 0} {p at b : ℕ} {name : List ℕ} → NameAt p name ≡ SignAt at b → C
sign_no_name e = absurd (cc)

sign_same : (ds : ℕ → Deeper) (j end at b : ℕ) (x y : Lexeme) (us : List Lexeme) → x ≡ SignAt at b → IsLike x y → primary_at (ds j) end (y ∷ us) ≡ group_at (ds j) end (y ∷ us)
unfolding primary_at
sign_same ds j end at b x _ us is itself = subst (λ v. primary_at (ds j) end (v ∷ us) ≡ group_at (ds j) end (v ∷ us)) (sym is) refl
sign_same ds j end at b _ _ us is another_number = sign_no_number is
sign_same ds j end at b _ _ us is another_below_zero = sign_no_minus is
sign_same ds j end at b _ _ us is (an_option code e) = sign_no_name is

primary_comes : (nest : ℕ) → (d : Deeper) (ds : ℕ → Deeper) → Nests nest d ds → (end : ℕ) (ts : List Lexeme) → Comes (Spells primary_level (suc nest)) (λ j. primary_at (ds j)) end ts (primary_at d end ts)
unfolding primary_at
primary_comes nest d ds g end [] = at_the_end (Spells primary_level (suc nest)) (λ j. primary_at (ds j)) end (begins_primary nest) (λ j. refl)
primary_comes nest d ds g end (StringAt at s ∷ ts) = reads_one (Spells primary_level (suc nest)) (λ j. primary_at (ds j)) (StringAt at s) end ts _ string (λ j us. refl)
primary_comes nest d ds g end (HexAt at s ∷ ts) = reads_one (Spells primary_level (suc nest)) (λ j. primary_at (ds j)) (HexAt at s) end ts _ hexadecimal (λ j us. refl)
primary_comes nest d ds g end (AddressAt at s ∷ ts) = reads_one (Spells primary_level (suc nest)) (λ j. primary_at (ds j)) (AddressAt at s) end ts _ address (λ j us. refl)
primary_comes nest d ds g end (NumberAt at k ∷ ts) = number_comes nest d ds at k end ts (nat_lt k (2 ^ 32)) refl
primary_comes nest d ds g end (MinusAt at k ∷ ts) = stops_at (Spells primary_level (suc nest)) (λ j. primary_at (ds j)) (MinusAt at k) end ts (faults.Expected at) (begins_primary nest) (unexpected (MinusAt at k) ts refl) (λ j y us l. minus_stays ds j end at (MinusAt at k) y us (minus_there k) l)
primary_comes nest d ds g end (NameAt at name ∷ ts) = named_good nest d ds g (λ j. primary_at (ds j)) at name (takes_none ds at) (λ j end us. refl) end ts
primary_comes nest d ds g end (SignAt at b ∷ ts) = head_same (Spells primary_level (suc nest)) (λ j. primary_at (ds j)) (λ j. group_at (ds j)) (SignAt at b) end ts (λ j y us l. sign_same ds j end at b (SignAt at b) y us refl l) (group_at d end (SignAt at b ∷ ts)) (comes (Spells primary_level (suc nest)) (group_at d) (λ j. group_at (ds j)) (group_good nest d ds g) end (SignAt at b ∷ ts))
primary_comes nest d ds g end (BadAt at ∷ ts) = stops_at (Spells primary_level (suc nest)) (λ j. primary_at (ds j)) (BadAt at) end ts (faults.BadToken at) (begins_primary nest) (bad at ts) (λ j y us l. subst (λ v. ◌≡◌ {A = Result (Tree × List Lexeme) SyntaxFault} (primary_at (ds j) end (v ∷ us)) (Err (faults.BadToken at))) l refl)

primary_good : (nest : ℕ) → (d : Deeper) (ds : ℕ → Deeper) → Nests nest d ds → Good (Spells primary_level (suc nest)) (primary_at d) (λ j. primary_at (ds j))
primary_good nest d ds g k = record { some = (begins_primary nest); each = λ end ts fits. primary_comes nest d ds g end ts }

-- a sign between two parts
sign_joins : (nest : ℕ) → (b : ℕ) (l k : Level) (join : Tree → Tree → Tree) → ((o : ℕ) (us vs : List Lexeme) (a c : Tree) → Spells l (suc nest) us a → Spells k (suc nest) vs c → Spells l (suc nest) (us ++ SignAt o b ∷ vs) (join a c)) → (x : Lexeme) (o : ℕ) → sign_at b x ≡ Some o → (us vs : List Lexeme) (a c : Tree) → Spells l (suc nest) us a → Spells k (suc nest) vs c → Spells l (suc nest) (us ++ x ∷ vs) (join a c)
sign_joins nest b l k join more x o e us vs a c p q = subst (λ y. Spells l (suc nest) (us ++ y ∷ vs) (join a c)) (sym (sign_is b x o e)) (more o us vs a c p q)

-- a word between two parts
word_joins : (nest : ℕ) → (w : List ℕ) (l k : Level) (join : Tree → Tree → Tree) → ((o : ℕ) (us vs : List Lexeme) (a c : Tree) → Spells l (suc nest) us a → Spells k (suc nest) vs c → Spells l (suc nest) (us ++ NameAt o w ∷ vs) (join a c)) → (x : Lexeme) (o : ℕ) → word_at w x ≡ Some o → (us vs : List Lexeme) (a c : Tree) → Spells l (suc nest) us a → Spells k (suc nest) vs c → Spells l (suc nest) (us ++ x ∷ vs) (join a c)
word_joins nest w l k join more x o e us vs a c p q = subst (λ y. Spells l (suc nest) (us ++ y ∷ vs) (join a c)) (sym (word_is w x o e)) (more o us vs a c p q)

-- the negation after its word
negation_comes : (nest : ℕ) → (d : Deeper) (ds : ℕ → Deeper) → Nests nest d ds → (rs : ℕ → Reader Tree) (end o : ℕ) (ts : List Lexeme) → ((j : ℕ) (us : List Lexeme) → rs j end (NameAt o (codes "not") ∷ us) ≡ seq ((ds j).operand o) (λ a. done (Not o a)) end us) → Comes (Spells not_level (suc nest)) rs end (NameAt o (codes "not") ∷ ts) (seq (d.operand o) (λ a. done (Not o a)) end ts)
negation_comes nest d ds (inl closed) rs end o ts same =
    let refuses : ◌≡◌ {A = Result (Tree × List Lexeme) SyntaxFault} (seq (d.operand o) (λ a. done (Not o a)) end ts) (Err (faults.TooNested o))
    = ap (λ (v : Result (Tree × List Lexeme) SyntaxFault). on_ok v (λ x. done (Not o x.0) end x.1)) (closed.0.operand o end ts) in
    let others : (j : ℕ) → j ≡ 0 → (us : List Lexeme) → ◌≡◌ {A = Result (Tree × List Lexeme) SyntaxFault} (seq ((ds j).operand o) (λ a. done (Not o a)) end us) (Err (faults.TooNested o))
    = λ j none us. ap (λ (v : Result (Tree × List Lexeme) SyntaxFault). on_ok v (λ x. done (Not o x.0) end x.1)) ((closed.1 j none).operand o end us) in
    subst (λ (v : Result (Tree × List Lexeme) SyntaxFault). Comes (Spells not_level (suc nest)) rs end (NameAt o (codes "not") ∷ ts) v) (sym refuses)
    (stops_at (Spells not_level (suc nest)) rs (NameAt o (codes "not")) end ts (faults.TooNested o) (StringAt 0 [] ∷ [], Literal 0 [], plain_literal (suc nest))
    (nested (NameAt o (codes "not")) ts negation (StringAt 0 [] ∷ [], Not o (Literal 0 []), negated (plain_literal nest)))
    (λ j y us l. ap (λ v. rs j end (v ∷ us)) (sym l.1) ∙ (same j us ∙ others j l.0 us)))
negation_comes nest d ds (inr opened) rs end o ts same =
    goes_on (Spells not_level (suc nest)) rs (λ j. seq ((ds j).operand o) (λ a. done (Not o a))) (NameAt o (codes "not")) end ts same (seq (d.operand o) (λ a. done (Not o a)) end ts)
    (comes (λ ws t. Spells not_level (suc nest) (NameAt o (codes "not") ∷ ws) t) (seq (d.operand o) (λ a. done (Not o a))) (λ j. seq ((ds j).operand o) (λ a. done (Not o a)))
    (seq_good (Spells not_level nest) (λ ws t. Spells not_level (suc nest) (NameAt o (codes "not") ∷ ws) t) (d.operand o) (λ a. done (Not o a)) (λ j. (ds j).operand o) (λ j a. done (Not o a)) (opened.operand o) (λ a us q.
    done_good _ _ (subst (λ v. Spells not_level (suc nest) (NameAt o (codes "not") ∷ v) (Not o a)) (sym (append-nil us)) (negated q)))) end ts)

-- what a sound reader leaves is not longer
sound_short : (P : List Lexeme → Tree → Type 0) (r : Reader Tree) → IsSound P r → IsShort r
sound_short P r h end ts a rest e = let t = h end ts a rest e in rest_shorter t.front rest ts t.is

module _ (nest : ℕ) (d : Deeper) (ds : ℕ → Deeper) (g : Nests nest d ds) (ms : ℕ → ℕ) (ss : (j : ℕ) → DeeperIsSound (ms j) (ds j)) where
  sum_good : Good (Spells sum_level (suc nest)) (sum_at d) (λ j. sum_at (ds j))
  unfolding sum_at
  sum_good =
      chain_good (Spells sum_level (suc nest)) (Spells primary_level (suc nest)) (sign_at 43) (primary_at d) (λ j. primary_at (ds j)) sum_of (sign_blind 43) (primary_good nest d ds g) (λ j. sound_short _ (primary_at (ds j)) (primary_sound (ms j) (ds j) (ss j)))
      (λ us a h. sum_one h) (sign_joins nest 43 sum_level primary_level sum_of (λ o us vs a c p q. sum_more o p q))

  compare_good : Good (Spells compare_level (suc nest)) (compare_at d) (λ j. compare_at (ds j))
  unfolding compare_at
  compare_good =
      seq_good (Spells sum_level (suc nest)) (Spells compare_level (suc nest)) (sum_at d) _ (λ j. sum_at (ds j)) _ sum_good (λ a us h.
      either_good (λ ws t. Spells compare_level (suc nest) (us ++ ws) t) (sign_at 61) _ (done a) _ (λ j. done a) (sign_blind 61)
      (λ x o e. seq_good (Spells sum_level (suc nest)) (λ ws t. Spells compare_level (suc nest) (us ++ x ∷ ws) t) (sum_at d) _ (λ j. sum_at (ds j)) _ sum_good (λ b vs r.
      done_good (λ ws t. Spells compare_level (suc nest) (us ++ x ∷ (vs ++ ws)) t) (Equal (at_of a) a b)
      (subst (λ v. Spells compare_level (suc nest) (us ++ x ∷ v) (Equal (at_of a) a b)) (sym (append-nil vs))
      (subst (λ y. Spells compare_level (suc nest) (us ++ y ∷ vs) (Equal (at_of a) a b)) (sym (sign_is 61 x o e)) (equal o h r)))))
      (done_good (λ ws t. Spells compare_level (suc nest) (us ++ ws) t) a (subst (λ v. Spells compare_level (suc nest) v a) (sym (append-nil us)) (compare_one h))))

  not_found : (end : ℕ) (x : Lexeme) (o : ℕ) → word_at (codes "not") x ≡ Some o → (ts : List Lexeme) → Comes (Spells not_level (suc nest)) (λ j. either (word_at (codes "not")) (λ at. seq ((ds j).operand at) (λ a. done (Not at a))) (compare_at (ds j))) end (x ∷ ts) (seq (d.operand o) (λ a. done (Not o a)) end ts)
  not_found end x o e ts =
      let rs : ℕ → Reader Tree = λ j. either (word_at (codes "not")) (λ at. seq ((ds j).operand at) (λ a. done (Not at a))) (compare_at (ds j)) in
      let F : Lexeme → Type 0 = λ y. Comes (Spells not_level (suc nest)) rs end (y ∷ ts) (seq (d.operand o) (λ a. done (Not o a)) end ts) in
      subst F (sym (word_is (codes "not") x o e)) (negation_comes nest d ds g rs end o ts (λ j us. refl))

  not_good : Good (Spells not_level (suc nest)) (not_at d) (λ j. not_at (ds j))
  unfolding not_at
  not_good k =
      either_good_to k (Spells not_level (suc nest)) (word_at (codes "not")) _ (compare_at d) (λ j at. seq ((ds j).operand at) (λ a. done (Not at a))) (λ j. compare_at (ds j)) (word_blind (codes "not") no_not) (λ end x o e ts fits. not_found end x o e ts)
      (weaker_good (Spells compare_level (suc nest)) (Spells not_level (suc nest)) (compare_at d) (λ j. compare_at (ds j)) (λ us a h. not_none h) compare_good k)

  and_good : Good (Spells and_level (suc nest)) (and_at d) (λ j. and_at (ds j))
  unfolding and_at
  and_good =
      chain_good (Spells and_level (suc nest)) (Spells not_level (suc nest)) (word_at (codes "and")) (not_at d) (λ j. not_at (ds j)) and_of (word_blind (codes "and") no_and) not_good (λ j. sound_short _ (not_at (ds j)) (not_sound (ms j) (ds j) (ss j)))
      (λ us a h. and_one h) (word_joins nest (codes "and") and_level not_level and_of (λ o us vs a c p q. and_more o p q))

  or_good : Good (Spells or_level (suc nest)) (or_at d) (λ j. or_at (ds j))
  unfolding or_at
  or_good =
      chain_good (Spells or_level (suc nest)) (Spells and_level (suc nest)) (word_at (codes "or")) (and_at d) (λ j. and_at (ds j)) or_of (word_blind (codes "or") no_or) and_good (λ j. sound_short _ (and_at (ds j)) (and_sound (ms j) (ds j) (ss j)))
      (λ us a h. or_one h) (word_joins nest (codes "or") or_level and_level or_of (λ o us vs a c p q. or_more o p q))

-- n more levels may be nested than j
abbrev pub more_nested : ℕ → ℕ → ℕ
more_nested zero j = j
more_nested (suc n) j = suc (more_nested n j)

pub more_is : (n j : ℕ) → more_nested n j ≡ n + j
more_is zero j = omega arith
more_is (suc n) j = let rest = more_is n j in omega (arith, rest)

closed_below : IsClosed (below 0)
unfolding below
closed_below = record { any = λ at end ts. refl; operand = λ at end ts. refl; name = λ at end ts. refl }

-- the readers one nesting level deeper, at each nesting
below_good : (m : ℕ) → Nests m (below m) (λ j. below (more_nested m j))
unfolding below
below_good zero = inl (closed_below, λ j none. subst (λ v. IsClosed (below v)) (sym none) closed_below)
below_good (suc n) = inr (record {
  any = λ at. or_good n (below n) (λ j. below (more_nested n j)) (below_good n) (λ j. more_nested n j) (λ j. below_sound (more_nested n j));
  operand = λ at. not_good n (below n) (λ j. below (more_nested n j)) (below_good n) (λ j. more_nested n j) (λ j. below_sound (more_nested n j));
  name = λ at. class_good;
})

-- of a whole expression
pub any_good : (m : ℕ) → Good (Spells or_level (suc m)) (or_at (below m)) (λ j. or_at (below (more_nested m j)))
any_good m = or_good m (below m) (λ j. below (more_nested m j)) (below_good m) (λ j. more_nested m j) (λ j. below_sound (more_nested m j))
