use Rattle.std.proofs.Common.{◌≡◌, ◌-◌, ◌++◌, length}
use Rattle.std.specs.List.{flat_map}
use Rattle.kd_token.specs.File.{token_bytes}
use Rattle.kd_token.specs.Reading.{many_at, token_at}
use Rattle.kd_token.proofs.Many.{with_front, AreFirst}
use Rattle.kd_token.proofs.reading.tokens_of.Given as goal

abbrev pub invariant-tokens : goal.invariant-tokens
invariant-tokens l = record {
  told : with_front l.tokens.items (many_at (token_at l.version) (l.count - l.i) l.reader) ≡ many_at (token_at l.version) l.count l.fn.reader;
  spelled : l.fn.reader.left ≡ flat_map token_bytes l.tokens.items ++ l.reader.left;
  each : AreFirst l.version (l.count - l.i) l.tokens.items;
  number : length l.tokens.items ≡ l.i;
}
