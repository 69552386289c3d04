-- The lowest open address of a range: the lesser of the one that is reserved for the client and the
-- lowest that is open to all.
use Rattle.std.proofs.Common.{◌≡◌, ℕ, ◌+◌, ◌<◌, ◌≤◌, min, Bool, true, false, not, ◌&&◌, ◌||◌, Option, Some, None, refl, sym, ◌∙◌, subst, arith, ⊎_elim}
use Rattle.std.proofs.lemmas.Bool.{cases_eq, cases_lt, or_from, or_left, or_right}
use Rattle.kd_config.specs.Reservation.{earlier}
use Rattle.kd_config.specs.declared.subnet.Subnet.{Subnet}
use Rattle.kd_lease.specs.Choice.{Asking, address_reserved, pooled, reserved_anywhere, same_address}
use Rattle.kd_lease.specs.Seeking.{IsLeast, IsLeastOpen, IsNextUntaken, common_in, is_common_open, is_kept_open, is_open, is_vacant, untaken}

-- none passes a test from the first up to an end
abbrev pub NoneUpTo : (ℕ → Bool) → ℕ → ℕ → Type 0
NoneUpTo such first end = (a : ℕ) → first ≤ a → a < end → such a ≡ false

pub none_at_last : (such : ℕ → Bool) (first last end : ℕ) → last < end → NoneUpTo such first end → IsLeast such first last None
none_at_last such first last end past before a low high = before a low (omega arith)

lesser : (p r : ℕ → Bool) (first last : ℕ) (x y : Option ℕ) → IsLeast p first last x → IsLeast r first last y → IsLeast (λ a. p a || r a) first last (earlier x y)
lesser p r first last None None hp hr = λ a low high. or_from (p a) (r a) (hp a low high) (hr a low high)
lesser p r first last None (Some b) hp hr = (hr.0, hr.1, or_right (p b) (r b) hr.2, λ a low less. or_from (p a) (r a) (hp a low (omega (arith, hr.1))) (hr.3 a low less))
lesser p r first last (Some b) None hp hr = (hp.0, hp.1, or_left (p b) (r b) hp.2, λ a low less. or_from (p a) (r a) (hp.3 a low less) (hr a low (omega (arith, hp.1))))
lesser p r first last (Some b) (Some d) hp hr = ⊎_elim
    (λ l. subst (λ (m : ℕ). IsLeast (λ a. p a || r a) first last (Some m)) (at_first l) (hp.0, hp.1, or_left (p b) (r b) hp.2, λ a low less. or_from (p a) (r a) (hp.3 a low less) (hr.3 a low (omega arith))))
    (λ m. subst (λ (m : ℕ). IsLeast (λ a. p a || r a) first last (Some m)) (at_second m) (hr.0, hr.1, or_right (p d) (r d) hr.2, λ a low less. or_from (p a) (r a) (hp.3 a low (omega arith)) (hr.3 a low less)))
    (cases_lt b d) where
      at_first : b < d → b ≡ min b d
      at_first l = omega arith

      at_second : d ≤ b → d ≡ min b d
      at_second m = omega arith

split : (u c o : Bool) → (u && (c || o)) ≡ ((u && o) || (u && c))
split true true true = refl
split true true false = refl
split true false true = refl
split true false false = refl
split false c o = refl

opens : (q : Asking) (s : Subnet) (new : Bool) (a : ℕ) → is_open q s new a ≡ (is_kept_open q (address_reserved q.config q.names q.message s) new a || is_common_open q s new a)
opens q s new a = split (untaken q new a) (common_in q.config q.names s a) (same_address (address_reserved q.config q.names q.message s) a)

same_least : (p r : ℕ → Bool) (first last : ℕ) (x : Option ℕ) → ((a : ℕ) → r a ≡ p a) → IsLeast p first last x → IsLeast r first last x
same_least p r first last None same h = λ a low high. same a ∙ h a low high
same_least p r first last (Some found) same h = (h.0, h.1, same found ∙ h.2, λ a low less. same a ∙ h.3 a low less)

-- the lesser of the two is the lowest that is open
pub lesser_open : (q : Asking) (s : Subnet) (new : Bool) (first last : ℕ) (x y : Option ℕ) → IsLeast (is_kept_open q (address_reserved q.config q.names q.message s) new) first last x → IsLeast (is_common_open q s new) first last y → IsLeastOpen q s new first last (earlier x y)
lesser_open q s new first last x y hx hy = same_least (λ a. is_kept_open q (address_reserved q.config q.names q.message s) new a || is_common_open q s new a) (is_open q s new) first last (earlier x y) (opens q s new) (lesser (is_kept_open q (address_reserved q.config q.names q.message s) new) (is_common_open q s new) first last x y hx hy)

-- an address that is not vacant is not open to all
vacant : (q : Asking) (s : Subnet) (new : Bool) (a : ℕ) → is_vacant q new a ≡ false → is_common_open q s new a ≡ false
vacant q s new a h = by (untaken q new a) (pooled q.names s a) (not (reserved_anywhere q.config a)) h where
  by : (u p r : Bool) → (u && r) ≡ false → (u && (p && r)) ≡ false
  by true true r h = h
  by true false r h = refl
  by false p r h = refl

passed : (q : Asking) (s : Subnet) (new : Bool) (first from end : ℕ) → NoneUpTo (is_common_open q s new) first from → ((a : ℕ) → from ≤ a → a < end → is_vacant q new a ≡ false) → NoneUpTo (is_common_open q s new) first end
passed q s new first from end before none a low less = ⊎_elim (λ l. before a low l) (λ l. vacant q s new a (none a l less)) (cases_lt a from)

pub none_from : (q : Asking) (s : Subnet) (new : Bool) (first last from : ℕ) → NoneUpTo (is_common_open q s new) first from → IsNextUntaken q new from last None → IsLeast (is_common_open q s new) first last None
none_from q s new first last from before none a low high = ⊎_elim (λ l. before a low l) (λ l. vacant q s new a (none a l high)) (cases_lt a from)

pub found_next : (q : Asking) (s : Subnet) (new : Bool) (first last from found : ℕ) → first ≤ from → NoneUpTo (is_common_open q s new) first from → IsNextUntaken q new from last (Some found) → common_in q.config q.names s found ≡ true → IsLeast (is_common_open q s new) first last (Some found)
found_next q s new first last from found above before next common =
    let low : first ≤ found = omega (arith, next.0) in
    let here : is_common_open q s new found ≡ true = rw (next.2, common) refl in
    (low, next.1, here, passed q s new first from found before next.3)

pub none_next : (q : Asking) (s : Subnet) (new : Bool) (first last from found : ℕ) → NoneUpTo (is_common_open q s new) first from → IsNextUntaken q new from last (Some found) → common_in q.config q.names s found ≡ false → NoneUpTo (is_common_open q s new) first (found + 1)
none_next q s new first last from found before next other a low less = ⊎_elim
    (λ e. subst (λ (n : ℕ). is_common_open q s new n ≡ false) (sym e) here)
    (λ n. passed q s new first from found before next.3 a low (omega arith))
    (cases_eq a found)
  where
    here : is_common_open q s new found ≡ false
    here = by (untaken q new found) (common_in q.config q.names s found) other where
      by : (u t : Bool) → t ≡ false → (u && t) ≡ false
      by true t h = h
      by false t h = refl
