-- The texts of a list's elements, written one after another up to the first that cannot be.
use Rattle.std.proofs.Common.{◌≡◌, ℕ, ◌+◌, ◌<◌, List, ◌∷◌, ◌++◌, Option, sym, ap, ◌∙◌, append_assoc, length, take, drop, get_or}
use Rattle.std.proofs.KnownBytes.{Appends-trans}
use Rattle.std.proofs.lemmas.Grind.{flat_map-append}
use Rattle.std.proofs.lemmas.List.{drop_more, take-append-drop}
use Rattle.std.specs.List.{flat_map}
use Rattle.std.specs.Io.KnownBytes.{Appends}
use Rattle.kd_loops.specs.Parts.{WritesPart}

-- a list, cut at an element
pub cut_at : {X : Type 0} → (xs : List X) (i : ℕ) (x : X) → i < length xs → x ≡ get_or xs i x → xs ≡ take i xs ++ x ∷ drop (i + 1) xs
cut_at xs i x less is = sym (take-append-drop i xs) ∙ ap (λ r. take i xs ++ r) (drop_more xs i x less ∙ ap (λ y. y ∷ drop (i + 1) xs) (sym is))

-- the texts of the elements before one are written, and a prefix of its own
pub part_of : {X : Type 0} → (text : X → List ℕ) (xs : List X) (i : ℕ) (x : X) (old mid new : Option (List ℕ)) → i < length xs → x ≡ get_or xs i x
    → Appends old mid (flat_map text (take i xs)) → WritesPart mid new (text x) → WritesPart old new (flat_map text xs)
part_of text xs i x old mid new less is first then =
    let before = flat_map text (take i xs) in
    let behind = flat_map text (drop (i + 1) xs) in
    record {
      part = before ++ then.part;
      more = then.more ++ behind;
      cut = ap (flat_map text) (cut_at xs i x less is) ∙ flat_map-append text (take i xs) (x ∷ drop (i + 1) xs)
          ∙ ap (λ t. before ++ (t ++ behind)) then.cut ∙ ap (λ t. before ++ t) (append_assoc then.part then.more behind)
          ∙ sym (append_assoc before then.part (then.more ++ behind));
      written = Appends-trans old mid new before then.part first then.written;
    }
