use Rattle.std.proofs.Common.{◌≡◌, ◌++◌, length, take}
use Rattle.std.specs.List.{flat_map}
use Rattle.byteorder.specs.Endian.{big_bytes}
use Rattle.kd_token.specs.File.{token_bytes}
use Rattle.kd_token.proofs.program.put_tokens.Given as goal

abbrev pub invariant-loop-token : goal.invariant-loop-token
invariant-loop-token l = l.out.items ≡ l.fn.out.items ++ (big_bytes 2 (length l.tokens) ++ flat_map token_bytes (take l.token-index l.tokens))
