-- The options that items are: their lookups, and the area that their pieces make.
use Rattle.std.proofs.Common.{◌≡◌, ℕ, Bool, true, false, List, [], ◌∷◌, ◌++◌, length, None, refl, sym, ap, ◌∙◌, eq-eqb, eqb-true, ne_eqb}
use Rattle.std.specs.Prelude.{◌≢◌, map, nat_eq, IfSome, IsSomeAnd}
use Rattle.std.specs.List.{AllByRecursion, flat_map, range_with_len}
use Rattle.std.specs.Fork.{slice_chunk}
use Rattle.std.proofs.lemmas.List.{map-id}
use Rattle.std.proofs.lemmas.List.Concat.{flat_map_single}
use Rattle.std.proofs.lemmas.List.Folds.{flat_map-map}
use Rattle.kd_wire.specs.Area.{IsArea, IsCode, IsSlot, Piece, Slot, piece, piece_of, spelled}
use Rattle.kd_options.specs.Joined.{value_of}
use Rattle.kd_options.specs.Laws.{BeginsWithType, IsItem, item_options}
use Rattle.kd_options.specs.Options.{IsAddressValue, IsReadable, IsType}
use Rattle.kd_options.specs.Reply.{items_text, piece_count, pieces_of}
use Rattle.kd_options.specs.declared.item.Item.{Item}

-- a code that no item has is absent
pub value_of-none : (code : ℕ) (items : List Item) → AllByRecursion (λ x. x.code ≢ code) items → value_of code (item_options items) ≡ None
value_of-none code [] each = refl
value_of-none code (x ∷ items) each =
    let differs : nat_eq code x.code ≡ false = ne_eqb code x.code (λ e. each.0 (sym e)) in
    rw differs (value_of-none code items each.1)

-- what holds of each value of a code holds of its value, if it is present
value_of-each : (code : ℕ) (P : List ℕ → Type 0) (items : List Item) → AllByRecursion (λ x. x.code ≡ code → P x.value) items → IfSome (value_of code (item_options items)) P
value_of-each code P [] each = tt
value_of-each code P (x ∷ items) each = by (nat_eq code x.code) refl (value_of-each code P items each.1)
  where
    by : (t : Bool) → nat_eq code x.code ≡ t → IfSome (value_of code (item_options items)) P → IfSome (value_of code (item_options (x ∷ items))) P
    by true t rest = rw t (each.0 (sym (eqb-true code x.code t)))
    by false t rest = rw t rest

-- the message type that comes first is its code's value
value_of-type : (items : List Item) → BeginsWithType items → IsSomeAnd (value_of 53 (item_options items)) IsType
value_of-type [] is = absurd is
value_of-type (x ∷ items) is =
    let same : nat_eq 53 x.code ≡ true = eq-eqb 53 x.code (sym is.0) in rw same is.2

-- if one property of each element gives another, the other holds of all
pub each_gives : {X : Type 0} (P Q : X → Type 0) → ((x : X) → P x → Q x) → (xs : List X) → AllByRecursion P xs → AllByRecursion Q xs
each_gives P Q gives [] each = tt
each_gives P Q gives (x ∷ xs) each = (gives x each.0, each_gives P Q gives xs each.1)

-- a reply's items are readable options
pub items_readable : (items : List Item) → BeginsWithType items → AllByRecursion IsItem items → IsReadable (item_options items)
items_readable items kind each = record {
  kind = value_of-type items kind;
  requested = value_of-each 50 IsAddressValue items (each_gives IsItem (λ x. x.code ≡ 50 → IsAddressValue x.value) (λ x is. is.requested) items each);
  server = value_of-each 54 IsAddressValue items (each_gives IsItem (λ x. x.code ≡ 54 → IsAddressValue x.value) (λ x is. is.server) items each);
}

-- a piece as a slot of an area
abbrev slot : Piece → Slot
slot p = piece p.0 p.1

-- pieces of one code before others
slots_of-one : (code : ℕ) (f : ℕ → List ℕ) (js : List ℕ) (pieces : List Piece) → IsCode code → AllByRecursion IsSlot (map slot pieces) → AllByRecursion IsSlot (map slot (map (λ j. (code, f j)) js ++ pieces))
slots_of-one code f [] pieces is rest = rest
slots_of-one code f (j ∷ js) pieces is rest = (is, slots_of-one code f js pieces is rest)

-- each piece of an item has the item's code
slots_of-items : (items : List Item) → AllByRecursion IsSlot (map slot (flat_map pieces_of items))
slots_of-items [] = tt
slots_of-items (x ∷ items) =
    slots_of-one x.code (slice_chunk x.value 255) (range_with_len 0 (piece_count (length x.value))) (flat_map pieces_of items) x.coded (slots_of-items items)

-- the bytes of items, followed by an End and anything, are an area with the items' pieces
pub items_area : (items : List Item) (behind : List ℕ) → IsArea (items_text items ++ 255 ∷ behind) (flat_map pieces_of items)
items_area items behind =
    let pieces = flat_map pieces_of items in
    record {
      slots = map slot pieces;
      after = 255 ∷ behind;
      begins = record {
        each = slots_of-items items;
        whole = ap (λ x. x ++ 255 ∷ behind) (sym (flat_map-map spelled slot pieces));
      };
      ends = refl;
      pieces = sym (flat_map-map piece_of slot pieces ∙ flat_map_single (λ p. p) pieces ∙ map-id pieces);
    }
