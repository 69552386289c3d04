use Rattle.std.proofs.Common.{◌≡◌, ◌-◌, ◌++◌, length}
use Rattle.std.specs.List.{flat_map, AllByRecursion}
use Rattle.kd_token.specs.File.{IsName, name_bytes}
use Rattle.kd_token.specs.Reading.{many_at, name_at}
use Rattle.kd_token.proofs.Many.{with_front}
use Rattle.kd_token.proofs.reading.names_of.Given as goal

abbrev pub invariant-names : goal.invariant-names
invariant-names l = record {
  told : with_front l.names.items (many_at (λ behind. name_at) (l.count - l.counter) l.reader) ≡ many_at (λ behind. name_at) l.count l.fn.reader;
  spelled : l.fn.reader.left ≡ flat_map name_bytes l.names.items ++ l.reader.left;
  each : AllByRecursion IsName l.names.items;
  number : length l.names.items ≡ l.counter;
}
