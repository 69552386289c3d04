-- Writes one after another from offset 0 on: their text comes first.
use Rattle.std.proofs.Common.{◌≡◌, ℕ, ◌+◌, List, [], ◌++◌, length, take, drop, refl, sym, ap, ◌∙◌, length-append, drop-drop}
use Rattle.std.proofs.lemmas.List.{take_at, drop_at}
use Rattle.kd_wire.specs.Put.{with_bytes_at}

-- the bytes begin with the text, the place is its length, and the rest is as it was
pub record Written (old text : List ℕ) (at : ℕ) (new : List ℕ) : Type 0 where
  pub is : new ≡ text ++ drop at old
  pub place : length text ≡ at

pub written_none : (old : List ℕ) → Written old [] 0 old
written_none old = record { is = refl; place = refl }

pub written_more : (old text : List ℕ) (at : ℕ) (new piece next : List ℕ) (n : ℕ) → Written old text at new → next ≡ with_bytes_at at piece new → length piece ≡ n → Written old (text ++ piece) (at + n) next
written_more old text at new piece next n w is size = record {
  is =
      let front : take at new ≡ text = ap (take at) w.is ∙ take_at text (drop at old) at w.place in
      let back : drop (at + length piece) new ≡ drop (at + n) old =
      ap (drop (at + length piece)) w.is ∙ sym (drop-drop (length piece) at (text ++ drop at old)) ∙ ap (drop (length piece)) (drop_at text (drop at old) at w.place) ∙ drop-drop (length piece) at old ∙ ap (λ k. drop (at + k) old) size in
      is ∙ ap (λ x. x ++ piece ++ drop (at + length piece) new) front ∙ ap (λ x. text ++ piece ++ x) back;
  place = length-append text piece ∙ rw (w.place, size) refl;
}
