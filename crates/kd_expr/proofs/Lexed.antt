-- A word that is cut off the beginning of bytes is one of the definition, and each word is cut off
-- so.
use Rattle.std.proofs.Common.{◌≡◌, ℕ, ◌≤◌, Bool, true, false, ◌&&◌, ◌==◌, nat_le, List, [], ◌∷◌, ◌++◌, length, refl, sym, ◌∙◌, ap, subst, append_assoc, arith, if◌then◌else◌, Option, Some, None, eqb-true, leb-true}
use Rattle.kd_expr.specs.Address.{a_digit, Each, decimal}
use Rattle.kd_expr.specs.Lexical.{Lexeme, StringAt, HexAt, AddressAt, NumberAt, MinusAt, NameAt, SignAt, a_letter, is_hex_digit, a_sign, is_x, in_string, in_run, in_name, WordEnds, Word, string_word, hex_word, address_word, number_word, minus_word, name_word, sign_word, equal_word}
use Rattle.kd_expr.specs.Lexing.{front_of, behind_of, all_pass, digits_after_0x, address_read, token_of_run, run_cut, closed, string_cut, minus_token, minus_cut, name_cut, equal_cut, cut}
use Rattle.kd_expr.specs.Reading.{and_then, or_else}
use Rattle.kd_expr.proofs.Addresses.{came_from, address_sound}
use Rattle.kd_expr.proofs.Options.{some_is, none_is, some_pair, if_some}
use Rattle.kd_expr.proofs.Spans.{each_front, ends_behind, front_behind, all_pass_is, both_of_two}

-- the bytes begin with a word
pub record IsCut (at : ℕ) (bytes : List ℕ) (x : Lexeme) (rest : List ℕ) : Type 0 where
  pub word : List ℕ
  pub is : bytes ≡ word ++ rest
  pub spelled : Word at word rest x

-- a result is this one
abbrev Cuts : Option (Lexeme × List ℕ) → Lexeme → List ℕ → Type 0
Cuts o x rest = ◌≡◌ {A = Option (Lexeme × List ℕ)} o (Some (x, rest))

closed_sound : (at : ℕ) (s behind : List ℕ) (x : Lexeme) (rest : List ℕ) → Each in_string s → Cuts (closed at s behind) x rest → IsCut at (39 ∷ (s ++ behind)) x rest
closed_sound at s [] x rest h e = none_is {a = (x, rest)} e
closed_sound at s (b ∷ behind) x rest h e =
    let both = if_some {A = Lexeme × List ℕ} {a = (StringAt at s, behind)} {b = (x, rest)} (b == 39) e in
    let rest_is : behind ≡ rest = ap (λ v. v.1) both.1 in
    record {
      word = 39 ∷ (s ++ 39 ∷ []);
      is = ap (λ v. 39 ∷ v) (ap (λ v. s ++ v) (ap (λ v. v ∷ behind) (eqb-true b 39 both.0) ∙ ap (λ v. 39 ∷ v) rest_is) ∙ sym (append_assoc s (39 ∷ []) rest));
      spelled = subst (λ v. Word at (39 ∷ (s ++ 39 ∷ [])) rest v) (ap (λ v. v.0) both.1) (string_word h);
    }

string_sound : (at : ℕ) (bytes : List ℕ) (x : Lexeme) (rest : List ℕ) → Cuts (string_cut at bytes) x rest → IsCut at (39 ∷ bytes) x rest
unfolding string_cut
string_sound at bytes x rest e =
    subst (λ v. IsCut at (39 ∷ v) x rest) (sym (front_behind in_string bytes)) (closed_sound at (front_of in_string bytes) (behind_of in_string bytes) x rest (each_front in_string bytes) e)

pub digit_in_run : (b : ℕ) → a_digit b ≡ true → in_run b ≡ true
digit_in_run b h = rw h refl

-- the digits after a prefix
record IsHex (run digits : List ℕ) : Type 0 where
  x : ℕ
  is : run ≡ 48 ∷ x ∷ digits
  is_prefix : is_x x ≡ true
  some : 1 ≤ length digits
  each : Each is_hex_digit digits

hex_sound : (run digits : List ℕ) → digits_after_0x run ≡ Some digits → IsHex run digits
unfolding digits_after_0x
hex_sound [] digits e = none_is e
hex_sound (z ∷ []) digits e = none_is e
hex_sound (z ∷ x ∷ ds) digits e =
    let both = if_some ((z == 48 && is_x x) && (nat_le 1 (length ds) && all_pass is_hex_digit ds)) e in
    let parts = both_of_two (z == 48 && is_x x) (nat_le 1 (length ds) && all_pass is_hex_digit ds) both.0 in
    let front = both_of_two (z == 48) (is_x x) parts.0 in
    let back = both_of_two (nat_le 1 (length ds)) (all_pass is_hex_digit ds) parts.1 in
    subst (λ v. IsHex (z ∷ x ∷ ds) v) both.1 (record {
      x = x;
      is = ap (λ v. v ∷ x ∷ ds) (eqb-true z 48 front.0);
      is_prefix = front.1;
      some = leb-true 1 (length ds) back.0;
      each = all_pass_is is_hex_digit ds back.1;
    })

hex_made : (at x : ℕ) (digits rest : List ℕ) → is_x x ≡ true → 1 ≤ length digits → Each is_hex_digit digits → WordEnds in_run rest → Word at (48 ∷ x ∷ digits) rest (HexAt at digits)
hex_made at x [] rest p some each e = absurd (omega (arith, some))
hex_made at x (d ∷ ds) rest p some each e = hex_word p each e

-- the token of a run that is not a number
other_sound : (at : ℕ) (run rest : List ℕ) (x : Lexeme) → WordEnds in_run rest → or_else (digits_after_0x run) (λ digits. Some (HexAt at digits)) (and_then (address_read run) (λ a. Some (AddressAt at a))) ≡ Some x → Word at run rest x
other_sound at run rest x h e =
    let there : (o : Option (List ℕ)) → digits_after_0x run ≡ o → or_else o (λ digits. Some (HexAt at digits)) (and_then (address_read run) (λ a. Some (AddressAt at a))) ≡ Some x → Word at run rest x
    = λ o. elim o as (λ o. digits_after_0x run ≡ o → or_else o (λ digits. Some (HexAt at digits)) (and_then (address_read run) (λ a. Some (AddressAt at a))) ≡ Some x → Word at run rest x) [
      | None ↦ λ _ k.
          let c = came_from (address_read run) (λ a. Some (AddressAt at a)) x k in
          subst (λ v. Word at run rest v) (some_is c.gives) (address_word (address_sound run c.first c.is) h)
      | Some digits ↦ λ is k.
          let hex = hex_sound run digits is in
          subst (λ v. Word at run rest v) (some_is k) (subst (λ v. Word at v rest (HexAt at digits)) (sym hex.is) (hex_made at hex.x digits rest hex.is_prefix hex.some hex.each h))
    ] in
    there (digits_after_0x run) refl e

run_token_sound : (at d : ℕ) (ds rest : List ℕ) (x : Lexeme) → WordEnds in_run rest → token_of_run at (d ∷ ds) ≡ Some x → Word at (d ∷ ds) rest x
unfolding token_of_run
run_token_sound at d ds rest x h e =
    let there : (k : Bool) → all_pass a_digit (d ∷ ds) ≡ k → (if k then Some (NumberAt at (decimal (d ∷ ds))) else or_else (digits_after_0x (d ∷ ds)) (λ digits. Some (HexAt at digits)) (and_then (address_read (d ∷ ds)) (λ a. Some (AddressAt at a)))) ≡ Some x → Word at (d ∷ ds) rest x
    = λ k. elim k as (λ k. all_pass a_digit (d ∷ ds) ≡ k → (if k then Some (NumberAt at (decimal (d ∷ ds))) else or_else (digits_after_0x (d ∷ ds)) (λ digits. Some (HexAt at digits)) (and_then (address_read (d ∷ ds)) (λ a. Some (AddressAt at a)))) ≡ Some x → Word at (d ∷ ds) rest x) [
      | true ↦ λ is k. subst (λ v. Word at (d ∷ ds) rest v) (some_is k) (number_word (all_pass_is a_digit (d ∷ ds) is) h)
      | false ↦ λ _ k. other_sound at (d ∷ ds) rest x h k
    ] in
    there (all_pass a_digit (d ∷ ds)) refl e

-- a run that begins bytes whose first is a digit
run_sound : (at b : ℕ) (bytes : List ℕ) (x : Lexeme) (rest : List ℕ) → a_digit b ≡ true → Cuts (run_cut at (b ∷ bytes)) x rest → IsCut at (b ∷ bytes) x rest
unfolding run_cut
run_sound at b bytes x rest digit e =
    let c = came_from (token_of_run at (front_of in_run (b ∷ bytes))) _ (x, rest) e in
    let both = some_pair c.gives in
    let front_is : front_of in_run (b ∷ bytes) ≡ b ∷ front_of in_run bytes = rw (digit_in_run b digit) refl in
    let token_is : token_of_run at (b ∷ front_of in_run bytes) ≡ Some x = ap (λ v. token_of_run at v) (sym front_is) ∙ c.is ∙ ap (λ v. Some v) both.0 in
    record {
      word = front_of in_run (b ∷ bytes);
      is = front_behind in_run (b ∷ bytes) ∙ ap (λ v. front_of in_run (b ∷ bytes) ++ v) both.1;
      spelled = subst (λ v. Word at v rest x) (sym front_is)
          (run_token_sound at b (front_of in_run bytes) rest x (subst (λ v. WordEnds in_run v) both.1 (ends_behind in_run (b ∷ bytes))) token_is);
    }

minus_made : (at : ℕ) (run rest : List ℕ) → 1 ≤ length run → Each a_digit run → WordEnds in_run rest → Word at (45 ∷ run) rest (MinusAt at (decimal run))
minus_made at [] rest some each e = absurd (omega (arith, some))
minus_made at (d ∷ ds) rest some each e = minus_word each e

minus_sound : (at : ℕ) (bytes : List ℕ) (x : Lexeme) (rest : List ℕ) → Cuts (minus_cut at bytes) x rest → IsCut at (45 ∷ bytes) x rest
unfolding minus_cut
minus_sound at bytes x rest e =
    let c = came_from (minus_token at (front_of in_run bytes)) _ (x, rest) e in
    let both = some_pair c.gives in
    let token = if_some (nat_le 1 (length (front_of in_run bytes)) && all_pass a_digit (front_of in_run bytes)) c.is in
    let tests = both_of_two (nat_le 1 (length (front_of in_run bytes))) (all_pass a_digit (front_of in_run bytes)) token.0 in
    record {
      word = 45 ∷ front_of in_run bytes;
      is = ap (λ v. 45 ∷ v) (front_behind in_run bytes ∙ ap (λ v. front_of in_run bytes ++ v) both.1);
      spelled = subst (λ v. Word at (45 ∷ front_of in_run bytes) rest v) (token.1 ∙ both.0)
          (minus_made at (front_of in_run bytes) rest (leb-true 1 (length (front_of in_run bytes)) tests.0) (all_pass_is a_digit (front_of in_run bytes) tests.1) (subst (λ v. WordEnds in_run v) both.1 (ends_behind in_run bytes)));
    }

pub letter_in_name : (b : ℕ) → a_letter b ≡ true → in_name b ≡ true
letter_in_name b h = rw h refl

name_sound : (at b : ℕ) (bytes : List ℕ) (x : Lexeme) (rest : List ℕ) → a_letter b ≡ true → Cuts (name_cut at (b ∷ bytes)) x rest → IsCut at (b ∷ bytes) x rest
unfolding name_cut
name_sound at b bytes x rest letter e =
    let both = some_pair e in
    let front_is : front_of in_name (b ∷ bytes) ≡ b ∷ front_of in_name bytes = rw (letter_in_name b letter) refl in
    record {
      word = front_of in_name (b ∷ bytes);
      is = front_behind in_name (b ∷ bytes) ∙ ap (λ v. front_of in_name (b ∷ bytes) ++ v) both.1;
      spelled = subst (λ v. Word at (front_of in_name (b ∷ bytes)) rest v) both.0
          (subst (λ v. Word at v rest (NameAt at v)) (sym front_is)
          (name_word letter (each_front in_name bytes) (subst (λ v. WordEnds in_name v) both.1 (ends_behind in_name (b ∷ bytes)))));
    }

equal_sound : (at : ℕ) (bytes : List ℕ) (x : Lexeme) (rest : List ℕ) → Cuts (equal_cut at bytes) x rest → IsCut at (61 ∷ bytes) x rest
unfolding equal_cut
equal_sound at [] x rest e = none_is {a = (x, rest)} e
equal_sound at (b ∷ bytes) x rest e =
    let both = if_some {A = Lexeme × List ℕ} {a = (SignAt at 61, bytes)} {b = (x, rest)} (b == 61) e in
    record {
      word = 61 ∷ 61 ∷ [];
      is = ap (λ v. 61 ∷ v) (ap (λ v. v ∷ bytes) (eqb-true b 61 both.0) ∙ ap (λ v. 61 ∷ v) (ap (λ v. v.1) both.1));
      spelled = subst (λ v. Word at (61 ∷ 61 ∷ []) rest v) (ap (λ v. v.0) both.1) equal_word;
    }

sign_sound : (at b : ℕ) (bytes : List ℕ) (x : Lexeme) (rest : List ℕ) → Cuts (if a_sign b then Some (SignAt at b, bytes) else None) x rest → IsCut at (b ∷ bytes) x rest
sign_sound at b bytes x rest e =
    let both = if_some {A = Lexeme × List ℕ} {a = (SignAt at b, bytes)} {b = (x, rest)} (a_sign b) e in
    record {
      word = b ∷ [];
      is = ap (λ v. b ∷ v) (ap (λ v. v.1) both.1);
      spelled = subst (λ v. Word at (b ∷ []) rest v) (ap (λ v. v.0) both.1) (sign_word both.0);
    }

-- one of two cuts, by a test
by_test : (at b : ℕ) (bytes : List ℕ) (x : Lexeme) (rest : List ℕ) (test : Bool) (o p : Option (Lexeme × List ℕ)) → (test ≡ true → Cuts o x rest → IsCut at (b ∷ bytes) x rest) → (Cuts p x rest → IsCut at (b ∷ bytes) x rest) → Cuts (if test then o else p) x rest → IsCut at (b ∷ bytes) x rest
by_test at b bytes x rest true o p f g e = f refl e
by_test at b bytes x rest false o p f g e = g e

-- the same at one byte
by_byte : (at b c : ℕ) (bytes : List ℕ) (x : Lexeme) (rest : List ℕ) (o p : Option (Lexeme × List ℕ)) → (Cuts o x rest → IsCut at (c ∷ bytes) x rest) → (Cuts p x rest → IsCut at (b ∷ bytes) x rest) → Cuts (if b == c then o else p) x rest → IsCut at (b ∷ bytes) x rest
by_byte at b c bytes x rest o p f g e =
    by_test at b bytes x rest (b == c) o p (λ is k. subst (λ v. IsCut at (v ∷ bytes) x rest) (sym (eqb-true b c is)) (f k)) g e

pub cut_sound : (at : ℕ) (bytes : List ℕ) (x : Lexeme) (rest : List ℕ) → Cuts (cut at bytes) x rest → IsCut at bytes x rest
unfolding cut
cut_sound at [] x rest e = none_is {a = (x, rest)} e
cut_sound at (b ∷ bytes) x rest e =
    by_byte at b 39 bytes x rest _ _ (string_sound at bytes x rest)
    (by_test at b bytes x rest (a_digit b) _ _ (run_sound at b bytes x rest)
    (by_byte at b 45 bytes x rest _ _ (minus_sound at bytes x rest)
    (by_test at b bytes x rest (a_letter b) _ _ (name_sound at b bytes x rest)
    (by_byte at b 61 bytes x rest _ _ (equal_sound at bytes x rest)
    (sign_sound at b bytes x rest))))) e
