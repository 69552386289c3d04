use Rattle.std.proofs.Common.{rules, ◌≡◌, ◌≤◌, length, option_map, take, ◌+◌, IfSome}
use Rattle.kd_io.proofs.Wholes.{is_whole}
use Rattle.kd_io.proofs.files.read_whole.Goals as goal

pub returns-clause-whole : goal.returns-clause-whole
returns-clause-whole g c =
    let short : length c.read_to_end.new.buf.items ≤ c.args.most = search rules in
    let front : IfSome (option_map (take (c.args.most + 1)) (g.R.Read.remaining c.args.reader))
    (λ xs. c.read_to_end.new.buf.items ≡ xs) = search rules in
    is_whole c.args.most (g.R.Read.remaining c.args.reader) c.read_to_end.new.buf.items short front
