use Rattle.std.proofs.Common.{◌≡◌, ◌<◌, ◌+◌, drop, take, length, None, sym, refl, ap, ◌∙◌, arith}
use Rattle.std.specs.Prelude.{reverse, set}
use Rattle.std.proofs.lemmas.List.{length-set}
use Rattle.kd_token.specs.declared.shape.Kind.TheVariants.{Bool}
use Rattle.kd_token.specs.Meet.{met}
use Rattle.kd_token.proofs.Pairwise.{all_met, meets_none, meets_on, met_from_lowest, met_onto, on_top}
use Rattle.kd_token.proofs.shape.meet_kinds.Goals as goal

pub kinds-init : goal.kinds-init
kinds-init c = record { size = c.requires.same; told = refl }

pub returns-in_err-known-clause-met : goal.returns-in_err-known-clause-met
returns-in_err-known-clause-met c =
    let less : c.kinds.i < length c.kinds.known = omega (arith, c.kinds.invariant.size, c.kinds-test.true) in
    let none : met (reverse c.args.known.now) (reverse c.args.others.now) ≡ None =
    met_from_lowest c.args.known.now c.args.others.now c.requires.same ∙ sym c.kinds.invariant.told
    ∙ meets_none c.kinds.i c.kinds.known c.args.others.now _ Bool less c.kinds.invariant.size
    (sym c.met_kind.ensures ∙ c.in_err-known.was) in
    rw c.from_residual.ensures none

pub kinds-preserved : goal.kinds-preserved
kinds-preserved c =
    let less : c.kinds.i < length c.kinds.known = omega (arith, c.kinds.invariant.size, c.kinds-test.true) in
    let i = c.kinds.i in
    let known = c.kinds.known in
    let kind = c.in_ok-known.field-0 in
    let is = sym c.met_kind.ensures ∙ c.in_ok-known.was in
    let ahead = met_onto (drop (i + 1) (set known i kind)) (drop (i + 1) c.args.others.now) in
    record {
      size = length-set known i kind ∙ c.kinds.invariant.size;
      told =
          ap ahead (on_top i known kind less)
          ∙ sym (meets_on i known c.args.others.now (reverse (take i known)) Bool kind less c.kinds.invariant.size is)
          ∙ c.kinds.invariant.told;
    }

pub returns-clause-met : goal.returns-clause-met
returns-clause-met c =
    met_from_lowest c.args.known.now c.args.others.now c.requires.same ∙ sym c.kinds.invariant.told
    ∙ all_met c.kinds.i c.kinds.known c.args.others.now
    (omega (arith, c.kinds.invariant.size, c.kinds-test.false)) c.kinds.invariant.size
