use Rattle.std.proofs.Common.{◌+◌, ◌||◌, Bool, codes, drop, sym, ap, ◌∙◌, arith}
use Rattle.kd_kea.proofs.Words.{word_at, word_behind}
use Rattle.kd_kea.specs.Known.{has_word}
use Rattle.kd_kea.proofs.objects.known.has_known.Goals as goal

pub loop-at-preserved : goal.loop-at-preserved
loop-at-preserved c =
    let text = c.args.text.now in
    let at = c.loop-at.at in
    sym (ap (λ (b : Bool). b || has_word (codes "KNOWN") (drop (at + 1) text)) (sym c.begins_at.ensures ∙ c.if-begins_at.false))
    ∙ sym (word_at (codes "KNOWN") text at (omega (arith, c.loop-at-test.true)))
    ∙ c.loop-at.invariant

pub returns : goal.returns
returns c =
    sym (word_behind (codes "KNOWN") c.args.text.now c.loop-at.at (omega (arith, c.loop-at-test.false)))
    ∙ c.loop-at.invariant
