-- Lines that are events: a line has one first space, and the digits of a time are not spaces.
use Rattle.std.proofs.Common.{◌≡◌, ℕ, ◌+◌, ◌-◌, ◌*◌, ◌^◌, Bool, true, false, List, [], ◌∷◌, ◌++◌, Some, None, refl, sym, ap, ◌∙◌, arith, length, take, drop, length-drop, true≢false}
use Rattle.std.specs.Prelude.{◌==◌, ◌&&◌, nat_lt, if◌then◌else◌, Ok}
use Rattle.std.specs.Char.{is_ascii_digit}
use Rattle.std.proofs.lemmas.Bool.{ne_eqb}
use Rattle.std.proofs.lemmas.List.{take_all}
use Rattle.hex.specs.Hex.{decode_of}
use Rattle.memchr.specs.Find.{IsFirstByte, is_byte}
use Rattle.kd_event.specs.declared.event.Event.{Event}
use Rattle.kd_text.specs.Words.{HasNo}
use Rattle.kd_text.proofs.Cuts.{no_byte, one_split, split_first}
use Rattle.kd_text.proofs.Plain.{plain_front}
use Rattle.kd_loops.specs.Lines.{IsEventLine, IsMoment, number_after}

pub split_at_first : (line : List ℕ) (at : ℕ) → IsFirstByte (is_byte 32) line (Some at) → (line ≡ take at line ++ 32 ∷ take (length line - (at + 1)) (drop (at + 1) line)) × HasNo 32 (take at line)
split_at_first line at is =
    let all = take_all (length line - (at + 1)) (drop (at + 1) line) (omega (arith, length-drop (at + 1) line)) in
    (split_first 32 line at is.0.high is.1 ∙ ap (λ r. take at line ++ 32 ∷ r) (sym all), plain_front 32 line at (omega (arith, is.0.high)) is.0.before)

pub not_without_space : (line : List ℕ) → HasNo 32 line → (event : Event) → IsEventLine line event → ⊥
not_without_space line plain event p = no_byte 32 p.digits p.hex (rw p.whole at plain)

and_left : (a b : Bool) → (a && b) ≡ true → a ≡ true
and_left true b h = refl
and_left false b h = h

digit_plain : (byte d : ℕ) → is_ascii_digit byte ≡ false → is_ascii_digit d ≡ true → (d == byte) ≡ false
digit_plain byte d other h = ne_eqb d byte (λ e. true≢false (sym h ∙ ap is_ascii_digit e ∙ other))

-- a number's digits contain no byte that is not a digit
pub digits_plain : (byte : ℕ) → is_ascii_digit byte ≡ false → (digits : List ℕ) (n m : ℕ) → number_after n digits ≡ Some m → HasNo byte digits
digits_plain byte other [] n m e = tt
digits_plain byte other (d ∷ digits) n m e = by (is_ascii_digit d && nat_lt (n * 10 + (d - 48)) (2 ^ 64)) refl (λ h. digits_plain byte other digits (n * 10 + (d - 48)) m h) e
  where
    by : (t : Bool) → (is_ascii_digit d && nat_lt (n * 10 + (d - 48)) (2 ^ 64)) ≡ t → (number_after (n * 10 + (d - 48)) digits ≡ Some m → HasNo byte digits)
        → (if t then number_after (n * 10 + (d - 48)) digits else None) ≡ Some m → HasNo byte (d ∷ digits)
    by false is later h = absurd (cc)
    by true is later h = (digit_plain byte d other (and_left _ _ is), later h)

module _ (line front back : List ℕ) (whole : line ≡ front ++ 32 ∷ back) (plain : HasNo 32 front) where
  same_parts : (event : Event) (p : IsEventLine line event) → (front ≡ p.digits) × (back ≡ p.hex)
  same_parts event p = one_split 32 front back p.digits p.hex plain (digits_plain 32 refl p.digits 0 event.moment p.moment.number) (sym whole ∙ p.whole)

  pub not_without_moment : ((moment : ℕ) → IsMoment front moment → ⊥) → (event : Event) → IsEventLine line event → ⊥
  not_without_moment none event p =
      let e = same_parts event p in
      let is : IsMoment front event.moment = rw e.0 p.moment in none event.moment is

  pub not_without_bytes : ((bytes : List ℕ) → decode_of back ≡ Ok bytes → ⊥) → (event : Event) → IsEventLine line event → ⊥
  not_without_bytes none event p = none event.bytes (ap decode_of (same_parts event p).1 ∙ p.bytes)
