-- An address that another client holds has no rank, and is assigned to no one else.
use Rattle.std.proofs.Common.{◌≡◌, ℕ, Bool, true, false, not, ◌&&◌, ◌||◌, is_none, ap, sym, ◌∙◌}
use Rattle.std.proofs.lemmas.Bool.{false≢true}
use Rattle.kd_config.specs.declared.subnet.Subnet.{Subnet}
use Rattle.kd_rows.specs.Table.{belongs_to, row_at}
use Rattle.kd_rows.specs.declared.row.Row.{Row}
use Rattle.kd_lease.specs.Choice.{Asking, Rank, fitting_for, has_rank, has_such, pooled, same_address, free_for, held_row, holding_state, live_row, past_row, usable, freed_by, address_reserved}
use Rattle.kd_lease.specs.Choice.Rank.{reserved, own, past, asked, fresh, expired}
use Rattle.kd_lease.specs.Client.{requested_address}
use Rattle.kd_lease.specs.Laws.{IsAnothers}
use Rattle.kd_lease.specs.Rules.{client_has, lasting_for, renewable}

and_no : (t u : Bool) → u ≡ false → (t && u) ≡ false
and_no true u h = h
and_no false u h = λ i. false

no_and : (t u : Bool) → t ≡ false → (t && u) ≡ false
no_and true u h = absurd (false≢true (sym h))
no_and false u h = λ i. false

not_free_by : (live mine holding : Bool) → live ≡ true → mine ≡ false → (not live || (mine && holding)) ≡ false
not_free_by true false holding l m = λ i. false
not_free_by true true holding l m = absurd (false≢true (sym m))
not_free_by false mine holding l m = absurd (false≢true l)

pub not_free : (q : Asking) (a : ℕ) (row : Row) → IsAnothers q a row → free_for q a ≡ false
not_free q a row h =
    ap (λ o. is_none o || has_such (freed_by q) o) h.there ∙ not_free_by (live_row q.now row) (belongs_to q.client row) (holding_state row.state) h.live h.other

not_held_by : (live mine holding : Bool) → mine ≡ false → (live && (mine && holding)) ≡ false
not_held_by live true holding m = absurd (false≢true (sym m))
not_held_by true false holding m = λ i. false
not_held_by false false holding m = λ i. false

not_past_by : (live mine : Bool) → mine ≡ false → (not live && mine) ≡ false
not_past_by live mine m = and_no (not live) mine m

not_ended : (live : Bool) → live ≡ true → not live ≡ false
not_ended true l = λ i. false
not_ended false l = absurd (false≢true l)

pub no_rank : (q : Asking) (s : Subnet) (rank : Rank) (a : ℕ) (row : Row) → IsAnothers q a row → has_rank q s rank a ≡ false
no_rank q s reserved a row h = and_no (same_address (address_reserved q.config q.names q.message s) a) (free_for q a) (not_free q a row h)
no_rank q s own a row h =
    no_and (has_such (held_row q) (row_at q.rows a)) (fitting_for q s a)
    (ap (has_such (held_row q)) h.there ∙ not_held_by (live_row q.now row) (belongs_to q.client row) (holding_state row.state) h.other)
no_rank q s past a row h =
    no_and (has_such (past_row q) (row_at q.rows a)) (fitting_for q s a)
    (ap (has_such (past_row q)) h.there ∙ not_past_by (live_row q.now row) (belongs_to q.client row) h.other)
no_rank q s asked a row h =
    and_no (same_address (requested_address q.message) a) (fitting_for q s a && free_for q a) (and_no (fitting_for q s a) (free_for q a) (not_free q a row h))
no_rank q s fresh a row h =
    and_no (pooled q.names s a) (is_none (row_at q.rows a) && fitting_for q s a) (no_and (is_none (row_at q.rows a)) (fitting_for q s a) (ap is_none h.there))
no_rank q s expired a row h =
    and_no (pooled q.names s a) (has_such (λ r. not (live_row q.now r)) (row_at q.rows a) && fitting_for q s a)
    (no_and (has_such (λ r. not (live_row q.now r)) (row_at q.rows a)) (fitting_for q s a) (ap (has_such (λ r. not (live_row q.now r))) h.there ∙ not_ended (live_row q.now row) h.live))

pub not_usable : (q : Asking) (s : Subnet) (a : ℕ) (row : Row) → IsAnothers q a row → usable q s a ≡ false
not_usable q s a row h = and_no (fitting_for q s a) (free_for q a) (not_free q a row h)

pub not_renewed : (q : Asking) (s : Subnet) (a : ℕ) (row : Row) → IsAnothers q a row → renewable q s a ≡ false
not_renewed q s a row h = no_and (client_has q a) (lasting_for q s a) (ap (has_such (belongs_to q.client)) h.there ∙ h.other)
