use Rattle.std.proofs.Common.{◌≡◌, ◌+◌, ◌-◌, ℕ, Bool, List, refl, ap, sym, ◌∙◌, take, drop, true≢false, arith, nat_eq}
use Rattle.std.specs.Cmp.Lexicographic.{bytes_decides, pointwise}
use Rattle.sqlite_wal.specs.Format.{part}
use Rattle.kd_database.proofs.tail.is_own_frame.Goals as goal

-- eight bytes from an offset on, as they are cut
cut : (log : List ℕ) (at : ℕ) → take (at + 8 + 8 - (at + 8)) (drop (at + 8) log) ≡ part log (at + 8) 8
unfolding part
cut log at = let eight : at + 8 + 8 - (at + 8) ≡ 8 = omega arith in ap (λ n. take n (drop (at + 8) log)) eight

head : (log : List ℕ) → take (24 - 16) (drop 16 log) ≡ part log 16 8
unfolding part
head log = refl

salts : (log : List ℕ) (at : ℕ) (r : Bool) → r ≡ pointwise nat_eq (take (at + 8 + 8 - (at + 8)) (drop (at + 8) log)) (take (24 - 16) (drop 16 log))
    → r ≡ pointwise nat_eq (part log (at + 8) 8) (part log 16 8)
salts log at r is = is ∙ ap (λ xs. pointwise nat_eq xs (take (24 - 16) (drop 16 log))) (cut log at) ∙ ap (pointwise nat_eq (part log (at + 8) 8)) (head log)

pub returns-clause-own : goal.returns-clause-own
returns-clause-own c = λ same.
    let log = c.args.log.now in
    let equal = (bytes_decides (part log (c.args.at + 8) 8) (part log 16 8)).0 (sym (salts log c.args.at c.eq.result c.eq.ensures) ∙ same) in
    record { within = omega (arith, c.if-log-lt-FRAME_HEADER.false, c.if-log-at.false); salts = equal }

pub returns-clause-other : goal.returns-clause-other
returns-clause-other c = λ not own.
    let log = c.args.log.now in
    let same = (bytes_decides (part log (c.args.at + 8) 8) (part log 16 8)).1 own.salts in
    true≢false (sym same ∙ sym (salts log c.args.at c.eq.result c.eq.ensures) ∙ not)
