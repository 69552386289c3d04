-- A word in a text, from place to place.
use Rattle.std.proofs.Common.{◌≡◌, ℕ, ◌+◌, ◌<◌, ◌≤◌, ◌||◌, false, nat_eq, List, length, drop, sym, ap, ◌∙◌}
use Rattle.std.specs.List.{starts_with}
use Rattle.std.proofs.lemmas.List.{at_drop_all, drop_more}
use Rattle.kd_kea.specs.Known.{has_word}

-- from a place on, a text has a word there or behind it
pub word_at : (word text : List ℕ) (i : ℕ) → i < length text → has_word word (drop i text) ≡ (starts_with nat_eq (drop i text) word || has_word word (drop (i + 1) text))
word_at word text i within =
    let more = drop_more text i 0 within in
    ap (has_word word) more ∙ ap (λ (rest : List ℕ). starts_with nat_eq rest word || has_word word (drop (i + 1) text)) (sym more)

-- behind the text it has none
pub word_behind : (word text : List ℕ) (i : ℕ) → length text ≤ i → has_word word (drop i text) ≡ false
word_behind word text i past = at_drop_all (has_word word) text i past
