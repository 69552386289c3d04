-- A text that is not UTF-8, and where a text is cut.
use Rattle.std.proofs.Common.{◌≡◌, ℕ, zero, suc, ◌<◌, ◌≤◌, ◌⊎◌, inl, inr, Bool, true, false, cond, List, length, refl, sym, ap, subst, ◌∙◌, arith}
use Rattle.std.proofs.Math.Logic.{⊎_elim}
use Rattle.std.proofs.lemmas.Bool.{cases_order, lt-ltb, le-ltb, le-leb, lt-leb}
use Rattle.std.proofs.lemmas.Str.{IsUtf8-from_is_utf8}
use Rattle.std.specs.Fmt.{is_char_start}
use Rattle.std.specs.Fmt.Cut.{floor_char_boundary}
use Rattle.std.specs.Str.{is_utf8, IsUtf8, IsCharBoundary}

-- a text that is not UTF-8 fails the test
pub not_utf8 : (text : List ℕ) → (IsUtf8 text → ⊥) → is_utf8 text ≡ false
not_utf8 text none = by (is_utf8 text) (IsUtf8-from_is_utf8 text) where
  by : (b : Bool) → (b ≡ true → IsUtf8 text) → b ≡ false
  by true holds = absurd (none (holds refl))
  by false holds = refl

-- a number is below another, or not
below_or : (a b : ℕ) → (a < b) ⊎ (b ≤ a)
below_or a b = ⊎_elim (λ (e : a ≡ b). inr (omega arith))
    (λ (h : (a < b) ⊎ (b < a)). ⊎_elim (λ (l : a < b). inl l) (λ (g : b < a). inr (omega arith)) h)
    (cases_order a b)

-- a byte begins a character if and only if it is below 128 or at least 192
starts : (b : ℕ) → (128 ≤ b → 192 ≤ b) → is_char_start b ≡ true
starts b h = ⊎_elim (λ low. rw (lt-ltb b 128 low) refl)
    (λ high. rw (le-ltb b 128 high, le-leb 192 b (h high)) refl) (below_or b 128)

continues : (b : ℕ) → ((128 ≤ b → 192 ≤ b) → ⊥) → is_char_start b ≡ false
continues b h = ⊎_elim (λ (low : b < 128). absurd (h (λ high. omega arith)))
    (λ high. ⊎_elim (λ mid. rw (le-ltb b 128 high, lt-leb 192 b mid) refl)
    (λ top. absurd (h (λ _. top))) (below_or b 192)) (below_or b 128)

-- the last boundary up to a place is the one that the definition finds
pub floor_is : (bs : List ℕ) (i kept : ℕ) → i < length bs → kept ≤ i → IsCharBoundary bs kept
    → ((j : ℕ) → kept < j → j ≤ i → IsCharBoundary bs j → ⊥) → floor_char_boundary bs i ≡ kept
unfolding floor_char_boundary
floor_is bs zero kept within bound here later = omega arith
floor_is bs (suc i) kept within bound here later = ⊎_elim
    (λ below. ap (λ t. cond t (suc i) (floor_char_boundary bs i))
    (continues _ (λ h. later (suc i) below (omega arith) (omega arith, λ _. h)))
    ∙ floor_is bs i kept (omega arith) (omega arith) here (λ j p q. later j p (omega arith)))
    (λ above. let same : kept ≡ suc i = omega arith in
    ap (λ t. cond t (suc i) (floor_char_boundary bs i))
    (starts _ ((subst (IsCharBoundary bs) same here).1 within)) ∙ sym same)
    (below_or kept (suc i))
