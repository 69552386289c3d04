-- The leases of a table at some time, and the lines that are printed for them.
use Rattle.std.specs.Prelude.{ℕ, max, Bool, true, false, nat_lt, List, ◌++◌, map, codes, decimal}
use Rattle.kd_listing.specs.declared.leases.Lease.{Lease}
use Rattle.kd_rows.specs.Table.{latest_of}
use Rattle.kd_rows.specs.declared.row.Row.{Row}
use Rattle.kd_rows.specs.declared.row.State.{State}
use Rattle.kd_rows.specs.declared.row.State.TheVariants as states
use Rattle.kd_text.specs.Text.{address_text, bytes_text}

-- a row at a time: it is live before its end
abbrev pub lease_of_row : ℕ → Row → Lease
lease_of_row now row = record { row = row; live = nat_lt now row.ends }

-- the leases of rows at a time; a time before their latest change counts as the time of that change
abbrev pub leases_of_rows : ℕ → List Row → List Lease
leases_of_rows moment rows = map (lease_of_row (max moment (latest_of rows))) rows

-- the word for a state
abbrev pub word_of_state : State → List ℕ
word_of_state states.Offered = codes "Offered"
word_of_state states.Bound = codes "Bound"
word_of_state states.Released = codes "Released"
word_of_state states.Declined = codes "Declined"

-- the word for whether a row is live
abbrev pub word_of_live : Bool → List ℕ
word_of_live true = codes "live"
word_of_live false = codes "past"

-- a row: its address, its state, its client, when it was set and when it ends
unfoldable pub row_text : Row → List ℕ
row_text row =
    address_text row.address ++ codes " " ++ word_of_state row.state ++ codes " "
    ++ bytes_text row.client ++ codes " changed " ++ decimal row.changed ++ codes " ends "
    ++ decimal row.ends

-- the line of a lease, with its line feed: its row, and whether it is live
unfoldable pub lease_line : Lease → List ℕ
lease_line lease = row_text lease.row ++ codes " " ++ word_of_live lease.live ++ codes "\n"
