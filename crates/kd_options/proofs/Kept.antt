-- What holds of items and of those of them that are kept.
use Rattle.std.proofs.Common.{◌≡◌, ℕ, ◌+◌, ◌≤◌, Bool, true, false, List, [], ◌∷◌, length, refl, sym, ap, ◌∙◌, arith, length-append, leb-true, subst}
use Rattle.std.specs.Prelude.{nat_le, nat_eq, sum_by, if◌then◌else◌}
use Rattle.std.specs.List.{flat_map, AllByRecursion, IsDistinct}
use Rattle.std.proofs.lemmas.Grind.{flat_map-append}
use Rattle.std.proofs.lemmas.List.Sums.{sum_by-cons}
use Rattle.std.proofs.lemmas.Map.Keys.{IsDistinct-cons, IsDistinct-head, IsDistinct-tail}
use Rattle.kd_wire.specs.Area.{Piece, piece, spelled}
use Rattle.kd_options.specs.Laws.{BeginsWithType, item_codes}
use Rattle.kd_options.specs.Reply.{ItemsFit, base_cost, item_cost, items_text, kept, kept_from, obligatory_cost, pieces_of, pieces_text}
use Rattle.kd_options.specs.declared.item.Item.{Item}
use Rattle.kd_options.proofs.Puts.{length-all_text}

-- what holds of the kept items both with and without the first one holds of them
kept_step : (Q : List Item → Type 0) (used room : ℕ) (x : Item) (items : List Item) → ((n : ℕ) → Q (x ∷ kept_from n room items)) → Q (kept_from used room items) → Q (kept_from used room (x ∷ items))
kept_step Q used room x items with_it without_it = by x.obligatory (nat_le (used + item_cost x + 1) room)
  where
    by : (own fits : Bool) → Q (if own then x ∷ kept_from used room items else if fits then x ∷ kept_from (used + item_cost x) room items else kept_from used room items)
    by true fits = with_it used
    by false true = with_it (used + item_cost x)
    by false false = without_it

-- what holds of each item holds of each kept one
pub kept_each : (P : Item → Type 0) (used room : ℕ) (items : List Item) → AllByRecursion P items → AllByRecursion P (kept_from used room items)
kept_each P used room [] each = tt
kept_each P used room (x ∷ items) each =
    kept_step (AllByRecursion P) used room x items (λ n. (each.0, kept_each P n room items each.1)) (kept_each P used room items each.1)

-- what holds of the codes of items holds of the items by their codes, and vice versa
codes_each : (P : ℕ → Type 0) (items : List Item) → AllByRecursion (λ x. P x.code) items → AllByRecursion P (item_codes items)
codes_each P [] each = tt
codes_each P (x ∷ items) each = (each.0, codes_each P items each.1)

each_code : (P : ℕ → Type 0) (items : List Item) → AllByRecursion P (item_codes items) → AllByRecursion (λ x. P x.code) items
each_code P [] each = tt
each_code P (x ∷ items) each = (each.0, each_code P items each.1)

-- the kept items' codes are distinct if the items' codes are
pub kept_distinct : (used room : ℕ) (items : List Item) → IsDistinct nat_eq (item_codes items) → IsDistinct nat_eq (item_codes (kept_from used room items))
kept_distinct used room [] distinct = distinct
kept_distinct used room (x ∷ items) distinct =
    let rest = IsDistinct-tail nat_eq x.code (item_codes items) distinct in
    let Other : ℕ → Type 0 = λ c. nat_eq x.code c ≡ false in
    let others = each_code Other items (IsDistinct-head nat_eq x.code (item_codes items) distinct) in
    let Q : List Item → Type 0 = λ l. IsDistinct nat_eq (item_codes l) in
    kept_step Q used room x items (λ n. IsDistinct-cons nat_eq x.code (item_codes (kept_from n room items)) (codes_each Other (kept_from n room items) (kept_each (λ y. Other y.code) n room items others)) (kept_distinct n room items rest)) (kept_distinct used room items rest)

-- the message type stays first
pub kept_type : (used room : ℕ) (items : List Item) → BeginsWithType items → BeginsWithType (kept_from used room items)
kept_type used room [] is = absurd is
kept_type used room (x ∷ items) is =
    let first : kept_from used room (x ∷ items) ≡ x ∷ kept_from used room items = ap (λ own. if own then x ∷ kept_from used room items else if nat_le (used + item_cost x + 1) room then x ∷ kept_from (used + item_cost x) room items else kept_from used room items) is.1 in
    subst BeginsWithType (sym first) is

-- one item's bytes come first
length-items_text : (x : Item) (items : List Item) → length (items_text (x ∷ items)) ≡ item_cost x + length (items_text items)
length-items_text x items =
    let put : Piece → List ℕ = λ p. spelled (piece p.0 p.1) in
    ap length (flat_map-append put (pieces_of x) (flat_map pieces_of items)) ∙ length-append (pieces_text (pieces_of x)) (items_text items) ∙ ap (λ n. n + length (items_text items)) (length-all_text x.code x.value)

-- the kept items leave room for an End
kept_from-within : (used room : ℕ) (items : List Item) → used + 1 ≤ room → length (items_text (kept_from used room items)) + used + 1 ≤ room + sum_by obligatory_cost items
kept_from-within used room [] fits = omega (arith, fits)
kept_from-within used room (x ∷ items) fits =
    by x.obligatory (nat_le (used + item_cost x + 1) room) refl refl (kept_from-within used room items fits) (kept_from-within (used + item_cost x) room items)
  where
    costs : sum_by obligatory_cost (x ∷ items) ≡ obligatory_cost x + sum_by obligatory_cost items
    costs = sum_by-cons obligatory_cost x items

    by : (own more : Bool) → x.obligatory ≡ own → nat_le (used + item_cost x + 1) room ≡ more → length (items_text (kept_from used room items)) + used + 1 ≤ room + sum_by obligatory_cost items → (used + item_cost x + 1 ≤ room → length (items_text (kept_from (used + item_cost x) room items)) + (used + item_cost x) + 1 ≤ room + sum_by obligatory_cost items) → length (items_text (if own then x ∷ kept_from used room items else if more then x ∷ kept_from (used + item_cost x) room items else kept_from used room items)) + used + 1 ≤ room + sum_by obligatory_cost (x ∷ items)
    by true more own is same next =
        let cost : obligatory_cost x ≡ item_cost x = ap (λ o. if o then item_cost x else 0) own in
        omega (arith, costs, cost, same, length-items_text x (kept_from used room items))
    by false true own is same next =
        let within = next (leb-true (used + item_cost x + 1) room is) in
        omega (arith, costs, within, length-items_text x (kept_from (used + item_cost x) room items))
    by false false own is same next = omega (arith, costs, same)

-- the bytes of the kept items and an End fit after a header
pub kept_within : (room : ℕ) (items : List Item) → ItemsFit room items → length (items_text (kept room items)) + 241 ≤ room
kept_within room items fits = omega (arith, kept_from-within (base_cost items) room items fits)
