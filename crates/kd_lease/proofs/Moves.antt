-- A client that is to move to the address that is reserved for it passes not all checks of a REQUEST.
use Rattle.std.proofs.Common.{◌≡◌, ◌≢◌, ℕ, Bool, true, false, not, ◌&&◌, ◌||◌, List, [], ◌∷◌, Option, Some, if◌then◌else◌, refl, ap, sym, ◌∙◌}
use Rattle.std.specs.List.{AllByRecursion, find, list_any}
use Rattle.std.proofs.lemmas.Bool.{false≢true, or_right}
use Rattle.kd_lease.specs.Choice.{Asking}
use Rattle.kd_lease.specs.Laws.{ClientsMove, NobodyMoves}
use Rattle.kd_lease.specs.Rules.{checks_in, ends_by, fails, holds_at, is_awaited, passes_in, serving_subnet}
use Rattle.kd_lease.specs.declared.rule.Check.{Check}
use Rattle.kd_lease.specs.declared.rule.Check.TheVariants as checks
use Rattle.kd_lease.specs.declared.rule.Ending.{Ending}
use Rattle.kd_lease.specs.declared.rule.Ending.TheVariants as ends
use Rattle.kd_lease.specs.declared.rule.Rule.TheVariants as rules

pub nobody_moves : NobodyMoves
nobody_moves q about none = ap (λ (b : Bool). not (b && passes_in (is_awaited q) (serving_subnet q) about)) none

-- a line that fails refuses
abbrev Refuses : Check × Ending → Type 0
Refuses line = line.1 ≢ ends.Lease

-- if one of the lines fails, the message ends as one of them says
refused_by : (q : Asking) (about : Option ℕ) (done : Ending) (lines : List (Check × Ending)) → AllByRecursion Refuses lines
    → list_any (fails q about) lines ≡ true → ends_by (find (fails q about) lines) done ≢ ends.Lease
refused_by q about done [] all any = absurd (false≢true any)
refused_by q about done (line ∷ lines) all any = by (fails q about line) refl (refused_by q about done lines all.1) where
  by : (b : Bool) → fails q about line ≡ b → (list_any (fails q about) lines ≡ true → ends_by (find (fails q about) lines) done ≢ ends.Lease) → ends_by (if b then Some line else find (fails q about) lines) done ≢ ends.Lease
  by true e behind = all.0
  by false e behind = behind (sym (ap (λ (b : Bool). b || list_any (fails q about) lines) e) ∙ any)

pub clients_move : ClientsMove
clients_move q a moves = (
  refused_by q (Some a) ends.Lease (checks_in rules.Select) (λ e. absurd cc, (λ e. absurd cc, (λ e. absurd cc, (λ e. absurd cc, (λ e. absurd cc, (λ e. absurd cc, tt)))))) last_select,
  refused_by q (Some a) ends.Lease (checks_in rules.Renew) (λ e. absurd cc, (λ e. absurd cc, (λ e. absurd cc, (λ e. absurd cc, (λ e. absurd cc, (λ e. absurd cc, (λ e. absurd cc, (λ e. absurd cc, tt)))))))) last_renew,
) where
  f : Check → Bool
  f check = not (holds_at q (Some a) check)

  last : (f checks.Stays || false) ≡ true
  last = ap (λ (b : Bool). not (not b) || false) moves

  last_select : list_any (fails q (Some a)) (checks_in rules.Select) ≡ true
  last_select = or_right (f checks.Server) _ (or_right (f checks.Address) _ (or_right (f checks.Subnet) _ (or_right (f checks.Fits) _ (or_right (f checks.Free) _ last))))

  last_renew : list_any (fails q (Some a)) (checks_in rules.Renew) ≡ true
  last_renew = or_right (f checks.Server) _ (or_right (f checks.Address) _ (or_right (f checks.Subnet) _ (or_right (f checks.Prefix) _ (or_right (f checks.Client) _ (or_right (f checks.Owner) _ (or_right (f checks.Lasts) _ last))))))
