-- Helpers of private contracts only: the words of a line of a lease, and rows by address.
use Rattle.std.specs.Prelude.{◌≡◌, ℕ, List, map, decimal}
use Rattle.kd_listing.specs.Leases.{word_of_live, word_of_state}
use Rattle.kd_listing.specs.declared.leases.Lease.{Lease}
use Rattle.kd_rows.specs.declared.row.Row.{Row}
use Rattle.kd_text.specs.Text.{address_text, bytes_text}
use Rattle.kd_log.specs.Import.{IsStorable}
use Rattle.kd_log.specs.declared.leases.words.Words.{Words}

-- the words are those of the line of a lease
pub record AreWords (words : Words) (lease : Lease) : Type 0 where
  pub address : words.address.now ≡ address_text lease.row.address
  pub state : words.state.now ≡ word_of_state lease.row.state
  pub client : words.client.now ≡ bytes_text lease.row.client
  pub changed : words.changed.now ≡ decimal lease.row.changed
  pub ends : words.ends.now ≡ decimal lease.row.ends
  pub live : words.live.now ≡ word_of_live lease.live
  pub storable : IsStorable lease.row

-- rows, each with its address as key
abbrev pub by_address : List Row → List (ℕ × Row)
by_address rows = map (λ row. (row.address, row)) rows
