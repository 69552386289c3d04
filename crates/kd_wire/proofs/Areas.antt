-- An area's pieces and the walk over its bytes: the walk gives the list of the definition.
use Rattle.std.proofs.Common.{◌≡◌, ℕ, zero, suc, ◌+◌, ◌<◌, true, false, List, [], ◌∷◌, ◌++◌, length, refl, sym, ap, subst, ◌∙◌, arith, append_assoc, length-append}
use Rattle.std.specs.Prelude.{◌==◌}
use Rattle.std.specs.List.{flat_map, AllByRecursion}
use Rattle.std.proofs.lemmas.Grind.{common_steps}
use Rattle.kd_wire.specs.Area.{Piece, Slot, pad, piece, spelled, IsCode, IsSlot, piece_of, IsEnd, IsCutOption, Begins, IsArea, IsCutAt}
use Rattle.std.proofs.Math.Seq.{take-append_seam}
use Rattle.std.proofs.lemmas.Bool.{ne_eqb, false≢true}
use Rattle.kd_wire.specs.Walk.{pieces_from, is_whole_from}

-- what a walk maintains: it has passed whole slots, and `left` follows them
pub record Passed (bytes left : List ℕ) (at : ℕ) : Type 0 where
  pub slots : List Slot
  pub begins : Begins bytes slots left
  pub place : at ≡ length (flat_map spelled slots)

pub passed_none : (bytes : List ℕ) → Passed bytes bytes 0
passed_none bytes = record { slots = []; begins = record { each = tt; whole = refl }; place = refl }

all-append : (slots : List Slot) (slot : Slot) → AllByRecursion IsSlot slots → IsSlot slot → AllByRecursion IsSlot (slots ++ slot ∷ [])
all-append [] slot each is = (is, tt)
all-append (s ∷ slots) slot each is = (each.0, all-append slots slot each.1 is)

spelled-append : (slots : List Slot) (slot : Slot) → flat_map spelled (slots ++ slot ∷ []) ≡ flat_map spelled slots ++ spelled slot
spelled-append [] slot = grind (arith, common_steps)
spelled-append (s ∷ slots) slot = ap (λ x. spelled s ++ x) (spelled-append slots slot) ∙ sym (append_assoc (spelled s) (flat_map spelled slots) (spelled slot))

-- one more slot
pub passed_more : (bytes left rest : List ℕ) (at n : ℕ) (slot : Slot) → Passed bytes left at → IsSlot slot → left ≡ spelled slot ++ rest → n ≡ length (spelled slot) → Passed bytes rest (at + n)
passed_more bytes left rest at n slot p is e size = record {
  slots = p.slots ++ slot ∷ [];
  begins = record {
    each = all-append p.slots slot p.begins.each is;
    whole = p.begins.whole ∙ ap (λ x. flat_map spelled p.slots ++ x) e ∙ sym (append_assoc (flat_map spelled p.slots) (spelled slot) rest) ∙ ap (λ x. x ++ rest) (sym (spelled-append p.slots slot));
  };
  place = rw (spelled-append p.slots slot, length-append, p.place, size) refl;
}

-- a walk that skips a value continues after it
pieces_from-skip : (value rest : List ℕ) → pieces_from (length value) (value ++ rest) ≡ pieces_from 0 rest
unfolding pieces_from
pieces_from-skip [] rest = refl
pieces_from-skip (b ∷ value) rest = pieces_from-skip value rest

is_whole_from-skip : (value rest : List ℕ) → is_whole_from (length value) (value ++ rest) ≡ is_whole_from 0 rest
unfolding is_whole_from
is_whole_from-skip [] rest = refl
is_whole_from-skip (b ∷ value) rest = is_whole_from-skip value rest

-- a code is not the end
not_end : (code : ℕ) → IsCode code → (code == 255) ≡ false
not_end code is = ne_eqb code 255 (λ e. omega (arith, is.1, e))

-- the walk gives the piece that the area begins with
pub pieces_from-piece : (code : ℕ) (value rest : List ℕ) → IsCode code → pieces_from 0 (code ∷ length value ∷ (value ++ rest)) ≡ (code, value) ∷ pieces_from 0 rest
unfolding pieces_from
pieces_from-piece zero value rest is = absurd (omega (arith, is.0))
pieces_from-piece (suc code) value rest is =
    let no = not_end (suc code) is in rw (no, take-append_seam value rest, pieces_from-skip value rest) refl

pub is_whole_from-piece : (code : ℕ) (value rest : List ℕ) → IsCode code → is_whole_from 0 (code ∷ length value ∷ (value ++ rest)) ≡ is_whole_from 0 rest
unfolding is_whole_from
is_whole_from-piece zero value rest is = absurd (omega (arith, is.0))
is_whole_from-piece (suc code) value rest is =
    let no = not_end (suc code) is in rw (no, is_whole_from-skip value rest) refl

-- there are no pieces at an end
pub pieces_from-end : (bytes : List ℕ) → IsEnd bytes → pieces_from 0 bytes ≡ []
unfolding pieces_from
pieces_from-end [] is = refl
pieces_from-end (zero ∷ bytes) is = absurd (omega (arith, is))
pieces_from-end (suc code ∷ []) is = refl
pieces_from-end (suc code ∷ n ∷ bytes) is = rw is refl

pub is_whole_from-end : (bytes : List ℕ) → IsEnd bytes → is_whole_from 0 bytes ≡ true
unfolding is_whole_from
is_whole_from-end [] is = refl
is_whole_from-end (zero ∷ bytes) is = absurd (omega (arith, is))
is_whole_from-end (suc code ∷ []) is = rw is refl
is_whole_from-end (suc code ∷ n ∷ bytes) is = rw is refl

-- more bytes to skip than there are
short_skip : (bytes : List ℕ) (n : ℕ) → length bytes < n → is_whole_from n bytes ≡ false
unfolding is_whole_from
short_skip bytes zero less = absurd (omega (arith, less))
short_skip [] (suc n) less = refl
short_skip (b ∷ bytes) (suc n) less = short_skip bytes n (omega (arith, less))

pub is_whole_from-cut : (bytes : List ℕ) → IsCutOption bytes → is_whole_from 0 bytes ≡ false
unfolding is_whole_from
is_whole_from-cut [] is = absurd is
is_whole_from-cut (zero ∷ []) is = absurd (omega (arith, is.0))
is_whole_from-cut (suc code ∷ []) is = not_end (suc code) is
is_whole_from-cut (zero ∷ n ∷ bytes) is = absurd (omega (arith, is.0))
is_whole_from-cut (suc code ∷ n ∷ bytes) is = let no = not_end (suc code) is.0 in rw no (short_skip bytes n is.1)

-- the walk passes a pad
pub pieces_from-pad : (bytes : List ℕ) → pieces_from 0 (0 ∷ bytes) ≡ pieces_from 0 bytes
unfolding pieces_from
pieces_from-pad bytes = refl

pub is_whole_from-pad : (bytes : List ℕ) → is_whole_from 0 (0 ∷ bytes) ≡ is_whole_from 0 bytes
unfolding is_whole_from
is_whole_from-pad bytes = refl

-- the walk goes through whole slots
pieces_from-slots : (slots : List Slot) (after : List ℕ) → AllByRecursion IsSlot slots → pieces_from 0 (flat_map spelled slots ++ after) ≡ flat_map piece_of slots ++ pieces_from 0 after
pieces_from-slots [] after each = refl
pieces_from-slots (pad ∷ slots) after each = pieces_from-pad (flat_map spelled slots ++ after) ∙ pieces_from-slots slots after each.1
pieces_from-slots (piece code value ∷ slots) after each =
    ap (λ x. pieces_from 0 (code ∷ length value ∷ x)) (append_assoc value (flat_map spelled slots) after) ∙ pieces_from-piece code value (flat_map spelled slots ++ after) each.0 ∙ ap (λ x. (code, value) ∷ x) (pieces_from-slots slots after each.1)

is_whole_from-slots : (slots : List Slot) (after : List ℕ) → AllByRecursion IsSlot slots → is_whole_from 0 (flat_map spelled slots ++ after) ≡ is_whole_from 0 after
is_whole_from-slots [] after each = refl
is_whole_from-slots (pad ∷ slots) after each = is_whole_from-pad (flat_map spelled slots ++ after) ∙ is_whole_from-slots slots after each.1
is_whole_from-slots (piece code value ∷ slots) after each =
    ap (λ x. is_whole_from 0 (code ∷ length value ∷ x)) (append_assoc value (flat_map spelled slots) after) ∙ is_whole_from-piece code value (flat_map spelled slots ++ after) each.0 ∙ is_whole_from-slots slots after each.1

-- an area is whole, and the walk gives its pieces
pub whole_area : (bytes : List ℕ) (list : List Piece) → IsArea bytes list → is_whole_from 0 bytes ≡ true
whole_area bytes list a =
    ap (is_whole_from 0) a.begins.whole ∙ is_whole_from-slots a.slots a.after a.begins.each ∙ is_whole_from-end a.after a.ends

append_none : (list : List Piece) → list ++ [] ≡ list
append_none [] = refl
append_none (p ∷ list) = ap (λ x. p ∷ x) (append_none list)

pub walk_area : (bytes : List ℕ) (list : List Piece) → IsArea bytes list → pieces_from 0 bytes ≡ list
walk_area bytes list a =
    ap (pieces_from 0) a.begins.whole ∙ pieces_from-slots a.slots a.after a.begins.each ∙ ap (λ x. flat_map piece_of a.slots ++ x) (pieces_from-end a.after a.ends) ∙ append_none (flat_map piece_of a.slots) ∙ sym a.pieces

-- an area that is cut is not whole
pub cut_is_not_whole : (bytes : List ℕ) (at : ℕ) → IsCutAt bytes at → is_whole_from 0 bytes ≡ false
cut_is_not_whole bytes at a =
    ap (is_whole_from 0) a.begins.whole ∙ is_whole_from-slots a.slots a.after a.begins.each ∙ is_whole_from-cut a.after a.cut

pub not_cut : (bytes : List ℕ) (at : ℕ) (list : List Piece) → IsCutAt bytes at → IsArea bytes list → ⊥
not_cut bytes at list c a = false≢true (sym (cut_is_not_whole bytes at c) ∙ whole_area bytes list a)

-- if the area ends after whole slots, its pieces are those of the walk
pub area_of_passed : (bytes left : List ℕ) (at : ℕ) → Passed bytes left at → IsEnd left → IsArea bytes (pieces_from 0 bytes)
area_of_passed bytes left at p ends =
    let a : IsArea bytes (flat_map piece_of p.slots) = record { slots = p.slots; after = left; begins = p.begins; ends = ends; pieces = refl } in
    let P : List Piece → Type 0 = λ x. IsArea bytes x in subst P (sym (walk_area bytes _ a)) a

-- where a walk meets an option that is cut off
pub cut_of_passed : (bytes left : List ℕ) (at : ℕ) → Passed bytes left at → IsCutOption left → IsCutAt bytes at
cut_of_passed bytes left at p cut = record { slots = p.slots; after = left; begins = p.begins; cut = cut; place = p.place }
