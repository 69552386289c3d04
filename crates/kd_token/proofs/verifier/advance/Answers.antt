use Rattle.std.proofs.Common.{sym, refl, arith}
use Rattle.kd_token.proofs.Keeps.{is_given, short_up}
use Rattle.kd_token.proofs.verifier.advance.Goals as goal

pub pass-requires-clause-short : goal.pass-requires-clause-short
pass-requires-clause-short c = short_up c.args.program.now.bound 65535 c.args.shape.now (omega (arith, c.requires.limits.bound)) c.requires.short

pub returns-in_default-top-clause-given : goal.returns-in_default-top-clause-given
returns-in_default-top-clause-given c = is_given c.args.program.now _ c.args.token.now c.args.shape.now c.pass.new.self c.in-Some-top.kind c.requires.short (rw (sym c.names.ensures) c.in-Some.ensures) (omega arith) c.in-Some-top.ensures (rw (sym c.length.ensures, sym c.from-most.ensures) (c.if-not-is_short.ensures.0 refl))
