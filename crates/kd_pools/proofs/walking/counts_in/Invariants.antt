use Rattle.std.proofs.Common.{◌≡◌, ◌-◌, ◌≤◌, option_copied}
use Rattle.std.specs.List.{range_with_len}
use Rattle.kd_rows.specs.Table.{IsNext}
use Rattle.kd_pools.specs.Counts.{counts_of}
use Rattle.kd_pools.specs.Walking.{PassesBelow, is_listed}
use Rattle.kd_pools.proofs.walking.counts_in.Given as goal

abbrev pub invariant-walk : goal.invariant-walk
invariant-walk l = record {
  from : l.range.first ≤ l.address;
  within : l.address ≤ l.range.last;
  below : PassesBelow l.reserved l.place l.address;
  next : IsNext l.rows.rows l.address (option_copied l.next);
  counts : l.counts ≡ counts_of (is_listed l.reserved) l.rows.rows l.now (range_with_len l.range.first (l.address - l.range.first));
}

abbrev pub decreases-walk : goal.decreases-walk
decreases-walk l = l.range.last - l.address
