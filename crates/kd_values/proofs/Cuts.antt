-- Texts cut at the first occurrence of a byte.
use Rattle.std.proofs.Common.{◌≡◌, ◌∙◌, sym, Some, None, ℕ, zero, suc, ◌+◌, ◌-◌, ◌<◌, true, false, List, [], ◌∷◌, length, take, drop, get_or, refl, ap, arith, add-one}
use Rattle.std.specs.List.{onto_first, slice_split}
use Rattle.std.proofs.lemmas.Bool.{false_from_ne_true}
use Rattle.std.proofs.lemmas.List.{take_all}
use Rattle.std.proofs.Common.{length-drop}
use Rattle.memchr.specs.Find.{IsFirstByte, Nowhere, Passes, is_byte}

split_there : (byte : ℕ) (text : List ℕ) (at : ℕ) → at < length text → Nowhere (Passes (is_byte byte) text) 0 at → is_byte byte (get_or text at 0) ≡ true → slice_split (is_byte byte) text ≡ take at text ∷ slice_split (is_byte byte) (drop (suc at) text)
split_there byte [] at less none is = absurd (omega (arith, less))
split_there byte (b ∷ text) zero less none is = rw is refl
split_there byte (b ∷ text) (suc n) less none is =
    let other : is_byte byte b ≡ false = false_from_ne_true (is_byte byte b) (none 0 (omega arith) (omega arith)) in
    let rest = split_there byte text n (omega (arith, less)) (λ k low high. none (suc k) (omega arith) (omega arith)) is in
    rw other (ap (onto_first b) rest)

split_none : (byte : ℕ) (text : List ℕ) → Nowhere (Passes (is_byte byte) text) 0 (length text) → slice_split (is_byte byte) text ≡ text ∷ []
split_none byte [] none = refl
split_none byte (b ∷ text) none =
    let other : is_byte byte b ≡ false = false_from_ne_true (is_byte byte b) (none 0 (omega arith) (omega arith)) in
    let rest = split_none byte text (λ k low high. none (suc k) (omega arith) (omega arith)) in
    rw other (ap (onto_first b) rest)

pub cut_there : (byte : ℕ) (text : List ℕ) (at : ℕ) → IsFirstByte (is_byte byte) text (Some at) → slice_split (is_byte byte) text ≡ take at text ∷ slice_split (is_byte byte) (take (length text - (at + 1)) (drop (at + 1) text))
cut_there byte text at is =
    let all = take_all (length text - suc at) (drop (suc at) text) (omega (arith, length-drop (suc at) text)) in
    split_there byte text at is.0.high is.0.before is.1 ∙ rw add-one (ap (λ rest. take at text ∷ slice_split (is_byte byte) rest) (sym all))

pub cut_nowhere : (byte : ℕ) (text : List ℕ) → IsFirstByte (is_byte byte) text None → slice_split (is_byte byte) text ≡ text ∷ []
cut_nowhere byte text is = split_none byte text is
