-- What is paired is skipped.
use Rattle.std.proofs.Common.{◌≡◌, ℕ, ◌+◌, ◌-◌, ◌<◌, Bool, true, false, ◌||◌, ◌==◌, List, [], ◌∷◌, ◌++◌, map, refl, sym, ap, ◌∙◌, arith, append_assoc}
use Rattle.std.specs.List.{AllByRecursion}
use Rattle.std.proofs.lemmas.Bool.{true≢false}
use Rattle.kd_check.specs.Place.{after_commas, after_first, after_string, after_white, depth_behind, is_closing, is_opening, members, rests}
use Rattle.kd_check.specs.PlaceLaws.{IsInString, closed, plain, escaped, IsPaired, empty, other, comma, string, array, object, from_each, is_mark, separated}
use Rattle.kd_check.proofs.Rests.{commas_end, commas_further, commas_here, members_last, members_more, not_here}

neither : (p q : Bool) → (p || q) ≡ false → (p ≡ false) × (q ≡ false)
neither true q h = absurd (true≢false h)
neither false q h = (refl, h)

-- a byte of a string
string_byte : (b : ℕ) (text : List ℕ) → (b == 34 || b == 92) ≡ false → after_string (b ∷ text) ≡ after_string text
string_byte b [] free = refl
string_byte b (c ∷ text) free =
    let each = neither (b == 34) (b == 92) free in
    rw (each.0, each.1) refl

string_closed : (rest : List ℕ) → after_string (34 ∷ rest) ≡ rest
string_closed [] = refl
string_closed (c ∷ rest) = refl

-- a string ends with its quotation mark
pub string_ends : (text rest : List ℕ) → IsInString text → after_string (text ++ 34 ∷ rest) ≡ rest
string_ends text rest closed = string_closed rest
string_ends text rest (plain b more free is) =
    string_byte b (more ++ 34 ∷ rest) free ∙ string_ends more rest is
string_ends text rest (escaped b more is) = string_ends more rest is

-- a byte that opens and closes nothing, where it is no comma of the container itself
passed : (depth b : ℕ) (text : List ℕ) → is_opening b ≡ false → is_closing b ≡ false → (b == 34) ≡ false → (depth ≡ 0 → (b == 44) ≡ false) → after_commas depth (rests (b ∷ text)) ≡ after_commas depth (rests text)
passed depth b text opens closes quotes separates =
    let inside = not_here depth (is_closing b) (λ _. closes) in
    let free = not_here depth (b == 44) separates in
    let same : depth_behind b depth ≡ depth = rw (opens, closes) refl in
    let rest : after_first b text ≡ text = rw quotes refl in
    sym (commas_further depth b text (b ∷ text) refl inside free)
    ∙ ap (λ d. after_commas d (rests (after_first b text))) same
    ∙ ap (λ t. after_commas depth (rests t)) rest

mark_free : (depth b : ℕ) (text : List ℕ) → is_mark b ≡ false → after_commas depth (rests (b ∷ text)) ≡ after_commas depth (rests text)
mark_free depth b text free =
    let last = neither (is_opening b || is_closing b || b == 44) (b == 34) free in
    let comma = neither (is_opening b || is_closing b) (b == 44) last.0 in
    let brackets = neither (is_opening b) (is_closing b) comma.0 in
    passed depth b text brackets.0 brackets.1 last.1 (λ _. comma.1)

-- a string is skipped
string_skipped : (depth : ℕ) (text rest : List ℕ) → IsInString text → after_commas depth (rests (34 ∷ (text ++ 34 ∷ rest))) ≡ after_commas depth (rests rest)
string_skipped depth text rest is =
    let bytes = text ++ 34 ∷ rest in
    sym (commas_further depth 34 bytes (34 ∷ bytes) refl (not_here depth false (λ _. refl)) (not_here depth false (λ _. refl)))
    ∙ ap (λ t. after_commas depth (rests t)) (string_ends text rest is)

-- an opening bracket, and a closing one
array_opened : (depth : ℕ) (text : List ℕ) → after_commas depth (rests (91 ∷ text)) ≡ after_commas (depth + 1) (rests text)
array_opened depth text =
    sym (commas_further depth 91 text (91 ∷ text) refl (not_here depth false (λ _. refl)) (not_here depth false (λ _. refl)))

object_opened : (depth : ℕ) (text : List ℕ) → after_commas depth (rests (123 ∷ text)) ≡ after_commas (depth + 1) (rests text)
object_opened depth text =
    sym (commas_further depth 123 text (123 ∷ text) refl (not_here depth false (λ _. refl)) (not_here depth false (λ _. refl)))

array_closed : (depth : ℕ) (text : List ℕ) → after_commas (depth + 1) (rests (93 ∷ text)) ≡ after_commas depth (rests text)
array_closed depth text =
    let one_less : depth + 1 - 1 ≡ depth = omega arith in
    sym (commas_further (depth + 1) 93 text (93 ∷ text) refl (not_here (depth + 1) true (λ z. absurd (omega (arith, z)))) (not_here (depth + 1) false (λ _. refl)))
    ∙ ap (λ d. after_commas d (rests text)) one_less

object_closed : (depth : ℕ) (text : List ℕ) → after_commas (depth + 1) (rests (125 ∷ text)) ≡ after_commas depth (rests text)
object_closed depth text =
    let one_less : depth + 1 - 1 ≡ depth = omega arith in
    sym (commas_further (depth + 1) 125 text (125 ∷ text) refl (not_here (depth + 1) true (λ z. absurd (omega (arith, z)))) (not_here (depth + 1) false (λ _. refl)))
    ∙ ap (λ d. after_commas d (rests text)) one_less

-- what is paired is skipped; in it are no commas, or the container is not the one whose commas count
skipped : (depth : ℕ) (commas : Bool) (text rest : List ℕ) → IsPaired commas text → (commas ≡ true → 0 < depth) → after_commas depth (rests (text ++ rest)) ≡ after_commas depth (rests rest)
skipped depth commas text rest (empty k) deep = refl
skipped depth commas text rest (other k b more free is) deep =
    mark_free depth b (more ++ rest) free ∙ skipped depth commas more rest is deep
skipped depth commas text rest (comma more is) deep =
    let far : 0 < depth = deep refl in
    passed depth 44 (more ++ rest) refl refl refl (λ z. absurd (omega (arith, z, far)))
    ∙ skipped depth commas more rest is deep
skipped depth commas text rest (string k inside more quoted is) deep =
    ap (λ t. after_commas depth (rests (34 ∷ t))) (append_assoc inside (34 ∷ more) rest)
    ∙ string_skipped depth inside (more ++ rest) quoted
    ∙ skipped depth commas more rest is deep
skipped depth commas text rest (array k inside more within is) deep =
    ap (λ t. after_commas depth (rests (91 ∷ t))) (append_assoc inside (93 ∷ more) rest)
    ∙ array_opened depth (inside ++ 93 ∷ (more ++ rest))
    ∙ skipped (depth + 1) true inside (93 ∷ (more ++ rest)) within (λ _. omega arith)
    ∙ array_closed depth (more ++ rest)
    ∙ skipped depth commas more rest is deep
skipped depth commas text rest (object k inside more within is) deep =
    ap (λ t. after_commas depth (rests (123 ∷ t))) (append_assoc inside (125 ∷ more) rest)
    ∙ object_opened depth (inside ++ 125 ∷ (more ++ rest))
    ∙ skipped (depth + 1) true inside (125 ∷ (more ++ rest)) within (λ _. omega arith)
    ∙ object_closed depth (more ++ rest)
    ∙ skipped depth commas more rest is deep

-- the members of a container are its texts, from each on
pub members_are : (first : List ℕ) (others : List (List ℕ)) (closing : ℕ) (behind : List ℕ) → IsPaired false first → AllByRecursion (IsPaired false) others → is_closing closing ≡ true → members (separated first others (closing ∷ behind)) ≡ map after_white (from_each first others (closing ∷ behind))
members_are first [] closing behind is all closes =
    members_last (first ++ closing ∷ behind)
    (skipped 0 false first (closing ∷ behind) is (λ e. absurd (true≢false (sym e)))
    ∙ commas_end closing behind (closing ∷ behind) refl closes)
members_are first (next ∷ more) closing behind is all closes =
    let rest = separated next more (closing ∷ behind) in
    members_more (first ++ 44 ∷ rest) rest
    (skipped 0 false first (44 ∷ rest) is (λ e. absurd (true≢false (sym e)))
    ∙ commas_here 44 rest (44 ∷ rest) refl refl)
    ∙ ap (λ t. after_white (first ++ 44 ∷ rest) ∷ t) (members_are next more closing behind all.0 all.1 closes)
