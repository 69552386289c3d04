-- Addresses as they are read are those of the definition.
use Rattle.std.proofs.Common.{◌≡◌, ℕ, ◌≤◌, Bool, true, false, ◌&&◌, ◌==◌, nat_le, List, [], ◌∷◌, ◌++◌, length, refl, sym, ◌∙◌, ap, subst, append-nil, if◌then◌else◌, Option, Some, None, IfSome, eqb-true, leb-true, le-leb}
use Rattle.kd_expr.specs.Address.{a_digit, decimal, IsPart, IsAddress, four}
use Rattle.kd_expr.specs.Lexical.{WordEnds}
use Rattle.kd_expr.specs.Lexing.{front_of, behind_of, is_empty, part_at_front, part_after_dot, address_read}
use Rattle.kd_expr.specs.Reading.{and_then}
use Rattle.kd_expr.proofs.Options.{none_is, if_some}
use Rattle.kd_expr.proofs.Spans.{each_front, front_behind, front_word, behind_word, both_of_two}

-- what a second result came from
pub record Came {A B : Type 0} (o : Option A) (f : A → Option B) (b : B) : Type 0 where
  pub first : A
  pub is : o ≡ Some first
  pub gives : f first ≡ Some b

pub came_from : {A B : Type 0} (o : Option A) (f : A → Option B) (b : B) → and_then o f ≡ Some b → Came o f b
came_from None f b e = none_is e
came_from (Some a) f b e = record { first = a; is = refl; gives = e }

-- reads a part
pub record ReadsPart (text : List ℕ) (value : ℕ) (rest : List ℕ) : Type 0 where
  pub digits : List ℕ
  pub is : text ≡ digits ++ rest
  pub fits : IsPart digits value

pub part_sound : (text : List ℕ) (value : ℕ) (rest : List ℕ) → ◌≡◌ {A = Option (ℕ × List ℕ)} (part_at_front text) (Some (value, rest)) → ReadsPart text value rest
unfolding part_at_front
part_sound text value rest e =
    let sizes : Bool = nat_le 1 (length (front_of a_digit text)) && nat_le (length (front_of a_digit text)) 3 in
    let both = if_some {A = ℕ × List ℕ} {a = (decimal (front_of a_digit text), behind_of a_digit text)} {b = (value, rest)} (sizes && nat_le (decimal (front_of a_digit text)) 255) e in
    let tests = both_of_two sizes (nat_le (decimal (front_of a_digit text)) 255) both.0 in
    let lengths = both_of_two (nat_le 1 (length (front_of a_digit text))) (nat_le (length (front_of a_digit text)) 3) tests.0 in
    let value_is : decimal (front_of a_digit text) ≡ value = ap (λ x. x.0) both.1 in
    let rest_is : behind_of a_digit text ≡ rest = ap (λ x. x.1) both.1 in
    record {
      digits = front_of a_digit text;
      is = front_behind a_digit text ∙ ap (λ v. front_of a_digit text ++ v) rest_is;
      fits = record {
        digits = each_front a_digit text;
        some = leb-true 1 (length (front_of a_digit text)) lengths.0;
        few = leb-true (length (front_of a_digit text)) 3 lengths.1;
        is = sym value_is;
        small = subst (λ v. v ≤ 255) value_is (leb-true (decimal (front_of a_digit text)) 255 tests.1);
      };
    }

pub part_complete : (digits : List ℕ) (value : ℕ) (rest : List ℕ) → IsPart digits value → WordEnds a_digit rest → ◌≡◌ {A = Option (ℕ × List ℕ)} (part_at_front (digits ++ rest)) (Some (value, rest))
unfolding part_at_front
part_complete digits value rest h e =
    rw (front_word a_digit digits rest h.digits e, behind_word a_digit digits rest h.digits e, le-leb 1 (length digits) h.some, le-leb (length digits) 3 h.few, le-leb (decimal digits) 255 (subst (λ v. v ≤ 255) h.is h.small))
    (ap (λ v. Some (v, rest)) (sym h.is))

pub next_sound : (text : List ℕ) (value : ℕ) (rest : List ℕ) → ◌≡◌ {A = Option (ℕ × List ℕ)} (part_after_dot text) (Some (value, rest)) → (tail : List ℕ) × (text ≡ 46 ∷ tail) × ReadsPart tail value rest
unfolding part_after_dot
next_sound [] value rest e = none_is {a = (value, rest)} e
next_sound (b ∷ text) value rest e =
    let at : (k : Bool) → (b == 46) ≡ k → ◌≡◌ {A = Option (ℕ × List ℕ)} (if k then part_at_front text else None) (Some (value, rest)) → (tail : List ℕ) × (b ∷ text ≡ 46 ∷ tail) × ReadsPart tail value rest
    = λ k. elim k as (λ k. (b == 46) ≡ k → ◌≡◌ {A = Option (ℕ × List ℕ)} (if k then part_at_front text else None) (Some (value, rest)) → (tail : List ℕ) × (b ∷ text ≡ 46 ∷ tail) × ReadsPart tail value rest) [
      | true ↦ λ is h. (text, ap (λ v. v ∷ text) (eqb-true b 46 is), part_sound text value rest h)
      | false ↦ λ _ h. none_is {a = (value, rest)} h
    ] in
    at (b == 46) refl e

pub nothing_left : (rest : List ℕ) → is_empty rest ≡ true → rest ≡ []
nothing_left [] e = refl
nothing_left (b ∷ rest) e = absurd (cc)

-- the parts of an address, and what is read of it
address_from : {s t u v text r1 r2 r3 t2 t3 t4 : List ℕ} {a b c d : ℕ} → IsPart s a → IsPart t b → IsPart u c → IsPart v d → text ≡ s ++ r1 → r1 ≡ 46 ∷ t2 → t2 ≡ t ++ r2 → r2 ≡ 46 ∷ t3 → t3 ≡ u ++ r3 → r3 ≡ 46 ∷ t4 → t4 ≡ v ++ [] → IsAddress text (a ∷ b ∷ c ∷ d ∷ [])
address_from {s} {t} {u} {v} {text} {r1} {r2} {r3} {t2} {t3} {t4} {a} {b} {c} {d} p q r w e1 d1 e2 d2 e3 d3 e4 =
    let tail3 : r3 ≡ 46 ∷ v = d3 ∙ ap (λ x. 46 ∷ x) (e4 ∙ append-nil v) in
    let tail2 : r2 ≡ 46 ∷ (u ++ 46 ∷ v) = d2 ∙ ap (λ x. 46 ∷ x) (e3 ∙ ap (λ x. u ++ x) tail3) in
    let tail1 : r1 ≡ 46 ∷ (t ++ 46 ∷ (u ++ 46 ∷ v)) = d1 ∙ ap (λ x. 46 ∷ x) (e2 ∙ ap (λ x. t ++ x) tail2) in
    subst (λ x. IsAddress x (a ∷ b ∷ c ∷ d ∷ [])) (sym (e1 ∙ ap (λ x. s ++ x) tail1)) (four s t u v p q r w)

pub address_sound : (text a : List ℕ) → address_read text ≡ Some a → IsAddress text a
unfolding address_read
address_sound text a e =
    let w = came_from (part_at_front text) _ a e in
    let x = came_from (part_after_dot w.first.1) _ a w.gives in
    let y = came_from (part_after_dot x.first.1) _ a x.gives in
    let z = came_from (part_after_dot y.first.1) _ a y.gives in
    let last = if_some (is_empty z.first.1) z.gives in
    let p = part_sound text w.first.0 w.first.1 w.is in
    let q = next_sound w.first.1 x.first.0 x.first.1 x.is in
    let r = next_sound x.first.1 y.first.0 y.first.1 y.is in
    let s = next_sound y.first.1 z.first.0 z.first.1 z.is in
    subst (λ v. IsAddress text v) last.1
    (address_from p.fits q.2.fits r.2.fits s.2.fits p.is q.1 q.2.is r.1 r.2.is s.1 (s.2.is ∙ ap (λ v. s.2.digits ++ v) (nothing_left z.first.1 last.0)))

pub next_complete : (digits : List ℕ) (value : ℕ) (rest : List ℕ) → IsPart digits value → WordEnds a_digit rest → ◌≡◌ {A = Option (ℕ × List ℕ)} (part_after_dot (46 ∷ (digits ++ rest))) (Some (value, rest))
unfolding part_after_dot
next_complete digits value rest h e = part_complete digits value rest h e

last_part : (v : List ℕ) (d : ℕ) → IsPart v d → ◌≡◌ {A = Option (ℕ × List ℕ)} (part_after_dot (46 ∷ v)) (Some (d, []))
last_part v d w = subst (λ x. ◌≡◌ {A = Option (ℕ × List ℕ)} (part_after_dot (46 ∷ x)) (Some (d, []))) (append-nil v) (next_complete v d [] w tt)

pub address_complete : (text a : List ℕ) → IsAddress text a → address_read text ≡ Some a
unfolding address_read
address_complete _ _ (four s t u v {a = a} {b = b} {c = c} {d = d} p q r w) =
    rw (part_complete s a (46 ∷ (t ++ 46 ∷ (u ++ 46 ∷ v))) p refl, next_complete t b (46 ∷ (u ++ 46 ∷ v)) q refl, next_complete u c (46 ∷ v) r refl, last_part v d w) refl

-- what is returned is an address of the text
pub read_found : (text : List ℕ) (answer : Option (List ℕ)) → answer ≡ address_read text → IfSome answer (λ a. IsAddress text a)
read_found text None e = tt
read_found text (Some a) e = address_sound text a (sym e)

-- an address of the text is what is returned
pub read_only : (text : List ℕ) (answer : Option (List ℕ)) → answer ≡ address_read text → (a : List ℕ) → IsAddress text a → answer ≡ Some a
read_only text answer e a h = e ∙ address_complete text a h
