-- What the tests of one token accept, in the grammar's terms.
use Rattle.std.proofs.Common.{◌≡◌, ℕ, ◌≤◌, ◌<◌, ◌^◌, ℤ, Bool, true, false, Option, Some, None, List, length, refl, sym, ◌∙◌, ap, subst, codes, bytes_eq, if◌then◌else◌, nat_lt, nat_le, ◌&&◌, ◌==◌, eqb-true, ltb-true, leb-true}
use Rattle.kd_expr.specs.Grammar.{IsOptionCode, code_number, code_name, IsSigned, plain, below, IsLength, counted, whole}
use Rattle.kd_expr.specs.Lexical.{Lexeme, StringAt, NumberAt, MinusAt, NameAt, SignAt}
use Rattle.kd_expr.specs.Names.{field_by_name}
use Rattle.kd_expr.specs.Reading.{sign_at, word_at, code_of_option, code_of_relay, suffix_of, field_of, signed, length_of_part, class_name}
use Rattle.kd_wire.specs.declared.field.Field.{Field}
use Rattle.kd_expr.proofs.Options.{some_is, none_is, if_some}
use Rattle.std.proofs.lemmas.Slice.Eq.{bytes_eq-Decides}

pub sign_is : (b : ℕ) (x : Lexeme) (o : ℕ) → sign_at b x ≡ Some o → x ≡ SignAt o b
sign_is b (SignAt at c) o e =
    let both = if_some (c == b) e in ap (λ v. SignAt v c) both.1 ∙ ap (λ v. SignAt o v) (eqb-true c b both.0)
sign_is b _ o e = none_is e

pub word_is : (w : List ℕ) (x : Lexeme) (o : ℕ) → word_at w x ≡ Some o → x ≡ NameAt o w
word_is w (NameAt at v) o e =
    let both = if_some (bytes_eq v w) e in ap (λ u. NameAt u v) both.1 ∙ ap (λ u. NameAt o u) ((bytes_eq-Decides v w).0 both.0)
word_is w _ o e = none_is e

pub option_code_is : (x : Lexeme) (c : ℕ) → code_of_option x ≡ Some c → IsOptionCode x c
option_code_is (NumberAt at n) c e =
    let both = if_some (nat_lt n 256) e in subst (λ v. IsOptionCode (NumberAt at n) v) both.1 (code_number (ltb-true n 256 both.0))
option_code_is (NameAt at name) c e = code_name e
option_code_is _ c e = none_is e

-- a sub-option's code
pub data IsRelayCode : Lexeme → ℕ → Type 0 where
  relay_number : {at n : ℕ} → n < 256 → IsRelayCode (NumberAt at n) n

pub relay_code_is : (x : Lexeme) (c : ℕ) → code_of_relay x ≡ Some c → IsRelayCode x c
relay_code_is (NumberAt at n) c e =
    let both = if_some (nat_lt n 256) e in subst (λ v. IsRelayCode (NumberAt at n) v) both.1 (relay_number (ltb-true n 256 both.0))
relay_code_is _ c e = none_is e

-- `exists` or `hex`
pub data IsSuffix : Lexeme → Bool → Type 0 where
  hex : {at : ℕ} → IsSuffix (NameAt at (codes "hex")) false
  exists : {at : ℕ} → IsSuffix (NameAt at (codes "exists")) true

pub suffix_is : (x : Lexeme) (b : Bool) → suffix_of x ≡ Some b → IsSuffix x b
suffix_is (NameAt at name) b e =
    let at_hex : (k : Bool) → bytes_eq name (codes "hex") ≡ k → ◌≡◌ {A = Option Bool} (if k then Some false else if bytes_eq name (codes "exists") then Some true else None) (Some b) → IsSuffix (NameAt at name) b
    = λ k. elim k as (λ k. bytes_eq name (codes "hex") ≡ k → ◌≡◌ {A = Option Bool} (if k then Some false else if bytes_eq name (codes "exists") then Some true else None) (Some b) → IsSuffix (NameAt at name) b) [
      | true ↦ λ is h. subst (λ v. IsSuffix (NameAt at v) b) (sym ((bytes_eq-Decides name (codes "hex")).0 is)) (subst (λ v. IsSuffix (NameAt at (codes "hex")) v) (some_is h) hex)
      | false ↦ λ _ h. let both = if_some (bytes_eq name (codes "exists")) h in
          subst (λ v. IsSuffix (NameAt at v) b) (sym ((bytes_eq-Decides name (codes "exists")).0 both.0)) (subst (λ v. IsSuffix (NameAt at (codes "exists")) v) both.1 exists)
    ] in
    at_hex (bytes_eq name (codes "hex")) refl e
suffix_is _ b e = none_is e

-- the name of a message field
pub data IsPartName : Lexeme → Field → Type 0 where
  part_name : {at : ℕ} {name : List ℕ} {part : Field} → field_by_name name ≡ Some part → IsPartName (NameAt at name) part

pub field_of_is : (x : Lexeme) (part : Field) → field_of x ≡ Some part → IsPartName x part
field_of_is (NameAt at name) part e = part_name e
field_of_is _ part e = none_is e

pub signed_is : (x : Lexeme) (n : ℤ) → signed x ≡ Some n → IsSigned x n
signed_is (NumberAt at k) n e =
    let both = if_some (nat_lt k (2 ^ 31)) e in subst (λ v. IsSigned (NumberAt at k) v) both.1 (plain (ltb-true k (2 ^ 31) both.0))
signed_is (MinusAt at k) n e =
    let both = if_some (nat_le k (2 ^ 31)) e in subst (λ v. IsSigned (MinusAt at k) v) both.1 (below (leb-true k (2 ^ 31) both.0))
signed_is _ n e = none_is e

pub length_is : (x : Lexeme) (n : Option ℤ) → length_of_part x ≡ Some n → IsLength x n
length_is (NumberAt at k) n e =
    let both = if_some (nat_lt k (2 ^ 31)) e in subst (λ v. IsLength (NumberAt at k) v) both.1 (counted (plain (ltb-true k (2 ^ 31) both.0)))
length_is (MinusAt at k) n e =
    let both = if_some (nat_le k (2 ^ 31)) e in subst (λ v. IsLength (MinusAt at k) v) both.1 (counted (below (leb-true k (2 ^ 31) both.0)))
length_is (NameAt at name) n e =
    let both = if_some (bytes_eq name (codes "all")) e in
    subst (λ v. IsLength (NameAt at v) n) (sym ((bytes_eq-Decides name (codes "all")).0 both.0)) (subst (λ v. IsLength (NameAt at (codes "all")) v) both.1 whole)
length_is _ n e = none_is e

-- a class's name of 1 to 255 bytes
pub data IsClassName : Lexeme → List ℕ → Type 0 where
  class_is : {at : ℕ} {s : List ℕ} → 1 ≤ length s → length s ≤ 255 → IsClassName (StringAt at s) s

-- both of two tests
both_are : (a b : Bool) → (a && b) ≡ true → (a ≡ true) × (b ≡ true)
both_are true b e = (refl, e)
both_are false b e = absurd (cc)

pub class_name_is : (x : Lexeme) (s : List ℕ) → class_name x ≡ Some s → IsClassName x s
class_name_is (StringAt at v) s e =
    let both = if_some (nat_le 1 (length v) && nat_le (length v) 255) e in
    let sizes = both_are (nat_le 1 (length v)) (nat_le (length v) 255) both.0 in
    subst (λ u. IsClassName (StringAt at v) u) both.1 (class_is (leb-true 1 (length v) sizes.0) (leb-true (length v) 255 sizes.1))
class_name_is _ s e = none_is e
