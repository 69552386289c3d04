use Rattle.std.proofs.Common.{◌≤◌, ◌≡◌, length}
use Rattle.std.specs.Io.KnownBytes.{Consumes}
use Rattle.kd_io.proofs.source.read_source.Given as goal

abbrev pub invariant-loop : goal.invariant-loop
invariant-loop g l = record {
  count : l.counter ≤ length l.text.items;
  short : length l.text.items ≤ l.fn.most;
  size : length l.chunk.items ≡ 65536;
  read : Consumes (g.R.Source.remaining l.fn.source) (g.R.Source.remaining l.source) l.text.items;
}
