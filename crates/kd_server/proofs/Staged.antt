-- Rows that are set, and listed to be committed.
use Rattle.std.proofs.Common.{◌≡◌, ◌≢◌, List, [], ◌∷◌, ◌++◌, inl, inr, refl, sym, ap, subst, ◌∙◌}
use Rattle.std.proofs.lemmas.List.Elements.{All-push}
use Rattle.std.specs.List.{All}
use Rattle.kd_rows.specs.Row.{IsInRange}
use Rattle.kd_rows.specs.Table.{with_row, with_rows}
use Rattle.kd_rows.specs.declared.row.Row.{Row}
use Rattle.kd_rows.proofs.Several.{with_rows_push}
use Rattle.kd_server.specs.Staging.{Stages}

-- nothing changes
pub unstaged : (rows set : List Row) → Stages rows set rows set
unstaged rows set = record { sets = λ table e. e; ranges = λ all. all; moves = inl (refl, refl) }

-- a row is set that changes the rows, and it is listed
pub staged : (before set rows new : List Row) (row copy : Row) → copy ≡ row → rows ≡ with_row row before → new ≡ set ++ copy ∷ []
    → IsInRange row → with_row row before ≢ before → Stages before set rows new
staged before set rows new row copy same becomes grows range changed =
    let listed : new ≡ set ++ row ∷ [] = grows ∙ ap (λ (r : Row). set ++ r ∷ []) same in
    record {
      sets = λ table e. subst (λ (l : List Row). with_rows l table ≡ rows) (sym listed)
          (with_rows_push set row table ∙ ap (with_row row) e ∙ sym becomes);
      ranges = λ all. subst (All IsInRange) (sym listed) (All-push IsInRange set row all range);
      moves = inr (subst (λ (r : List Row). r ≢ before) (sym becomes) changed);
    }
