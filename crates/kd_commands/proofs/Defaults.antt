-- The row of a flag once it has its default.
use Rattle.std.proofs.Common.{◌≡◌, ◌∙◌, ap, refl, true, false, Bool, List, [], ◌∷◌, Option, Some, None, is_some}
use Rattle.std.specs.Prelude.{find, unwrap_or}
use Rattle.std.specs.Str.{bytes_eq}
use Rattle.std.proofs.lemmas.Slice.Eq.{bytes_eq-Decides}
use Rattle.clap.specs.Words.{Row, Text}
use Rattle.clap.specs.Walk.{has_row, with_default}
use Rattle.kd_commands.proofs.Held.{default_kept, default_put, default_row, find_last}
use Rattle.kd_commands.proofs.Options.{flag_of}

abbrev pub row_at : Text → List Row → Option Row
row_at n rows = find (λ x. bytes_eq x.id n) rows

has_found : (n : Text) (rows : List Row) → has_row n rows ≡ is_some (row_at n rows)
has_found n [] = refl
has_found n (x ∷ rows) = go (bytes_eq x.id n) refl (has_found n rows)
  where
    go : (t : Bool) → bytes_eq x.id n ≡ t → has_row n rows ≡ is_some (row_at n rows) → has_row n (x ∷ rows) ≡ is_some (row_at n (x ∷ rows))
    go true e more = rw e refl
    go false e more = rw e more

pub own_found : (f : Text) (rows : List Row) → row_at f (with_default rows (flag_of f)) ≡ Some (unwrap_or (row_at f rows) (default_row f))
own_found f rows = go (row_at f rows) refl
  where
    go : (o : Option Row) → row_at f rows ≡ o → row_at f (with_default rows (flag_of f)) ≡ Some (unwrap_or o (default_row f))
    go None e =
        let none : has_row f rows ≡ false = has_found f rows ∙ ap is_some e in
        ap (row_at f) (default_put f rows none) ∙ find_last f rows (default_row f) none ((bytes_eq-Decides f f).1 refl)
    go (Some r) e =
        let there : has_row f rows ≡ true = has_found f rows ∙ ap is_some e in
        ap (row_at f) (default_kept f rows there) ∙ e
