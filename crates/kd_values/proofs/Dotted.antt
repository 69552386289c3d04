-- Addresses in dotted decimal read back.
use Rattle.std.proofs.Common.{◌≡◌, ◌∙◌, ℕ, ◌+◌, ◌-◌, ◌*◌, ◌/◌, ◌%◌, ◌^◌, ◌≤◌, ◌<◌, List, [], ◌∷◌, ◌++◌, Some, append_assoc, codes, decimal, refl, sym, ap, arith, le-leb}
use Rattle.std.proofs.lemmas.Bool.{and_from}
use Rattle.std.proofs.lemmas.Fmt.{decimal_by_steps, decimal_nonempty, length-decimal-le}
use Rattle.kd_expr.specs.Address.{Each, IsPart, a_digit, decimal_behind, four}
use Rattle.kd_expr.specs.Lexing.{address_read}
use Rattle.kd_expr.proofs.Addresses.{address_complete}
use Rattle.kd_names.specs.Values.{dotted_text}
use Rattle.kd_values.proofs.Trims.{AreInner, inner_append, is_inner}
use Rattle.kd_values.proofs.Decimals.{AreFigures, decimal_reads, figures_inner}

figures_pass : (digits : List ℕ) → AreFigures digits → Each a_digit digits
figures_pass [] p = tt
figures_pass (c ∷ digits) p = (and_from _ _ (le-leb 48 c p.0.0) (le-leb c 57 p.0.1), figures_pass digits p.1)

behind_last : (n : ℕ) (digits : List ℕ) (c : ℕ) → decimal_behind n (digits ++ c ∷ []) ≡ 10 * decimal_behind n digits + (c - 48)
behind_last n [] c = refl
behind_last n (d ∷ digits) c = behind_last (10 * n + (d - 48)) digits c

decimal_value : (n : ℕ) → n < 2 ^ 64 → decimal_behind 0 (decimal n) ≡ n
decimal_value n small = decimal_by_steps (λ n digits. decimal_behind 0 digits ≡ n) one more n small
  where
    one : (n : ℕ) → n < 10 → decimal_behind 0 ((48 + n) ∷ []) ≡ n
    one n less = omega arith

    more : (n : ℕ) (digits : List ℕ) → 10 ≤ n → decimal_behind 0 digits ≡ n / 10 → decimal_behind 0 (digits ++ (48 + n % 10) ∷ []) ≡ n
    more n digits large is = omega (arith, behind_last 0 digits (48 + n % 10), is)

part_of : (n : ℕ) → n < 256 → IsPart (decimal n) n
part_of n small = record {
  digits = figures_pass (decimal n) (decimal_reads n (omega (arith, small))).0;
  some = decimal_nonempty n (omega (arith, small));
  few = length-decimal-le 3 n (omega arith) (omega (arith, small)) (omega (arith, small));
  is = sym (decimal_value n (omega (arith, small)));
  small = omega (arith, small);
}

pub dotted_reads : (a b c d : ℕ) → a < 256 → b < 256 → c < 256 → d < 256 → address_read (dotted_text a b c d) ≡ Some (a ∷ b ∷ c ∷ d ∷ [])
dotted_reads a b c d p q r s =
    let whole : dotted_text a b c d ≡ decimal a ++ 46 ∷ (decimal b ++ 46 ∷ (decimal c ++ 46 ∷ decimal d)) = simp append_assoc in
    ap address_read whole
    ∙ address_complete _ _ (four (decimal a) (decimal b) (decimal c) (decimal d) (part_of a p) (part_of b q) (part_of c r) (part_of d s))

pub decimal_inner : (n : ℕ) → n < 256 → AreInner (decimal n)
decimal_inner n small = figures_inner (decimal n) (decimal_reads n (omega (arith, small))).0

pub dotted_inner : (a b c d : ℕ) → a < 256 → b < 256 → c < 256 → d < 256 → AreInner (dotted_text a b c d)
dotted_inner a b c d p q r s =
    let dot : AreInner (codes ".") = (is_inner 46 (omega arith) (λ e. absurd (omega (arith, e))), tt) in
    inner_append _ _ (inner_append _ _ (inner_append _ _ (inner_append _ _ (inner_append _ _ (inner_append _ _ (decimal_inner a p) dot) (decimal_inner b q)) dot) (decimal_inner c r)) dot) (decimal_inner d s)
