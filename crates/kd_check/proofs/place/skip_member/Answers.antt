use Rattle.std.proofs.Common.{◌≡◌, ◌==◌, [], length, sym, ap, ◌∙◌, arith}
use Rattle.std.proofs.lemmas.Bool.Decides.{nat_tests}
use Rattle.std.proofs.lemmas.List.{nil_from_length}
use Rattle.kd_check.proofs.Rests.{commas_end, commas_further, commas_here, members_last, members_more, not_here, rests_none}
use Rattle.kd_check.specs.Place.{after_commas, is_closing, rests}
use Rattle.kd_check.proofs.place.skip_member.Goals as goal
use Rattle.kd_check.proofs.place.skip_member.Goals.{else-depth-eq0-via-then-depth-eq0+else-is_closing_bracket, else-depth-eq0-via-else-depth-eq0, else-depth-eq0-2-via-then-depth-eq0-2+else-first-eq44, else-depth-eq0-2-via-else-depth-eq0-2}

pub returns-then-is_closing_bracket-clause-last : goal.returns-then-is_closing_bracket-clause-last
returns-then-is_closing_bracket-clause-last c =
    members_last c.args.text.now
    (sym c.rests.invariant.same ∙ ap (λ d. after_commas d (rests c.rests.rest.now)) c.if-depth-eq0.true
    ∙ commas_end c.in-Some.first.now c.in-Some.behind.now c.rests.rest.now c.in-Some.ensures.cases.0 (sym c.is_closing_bracket.ensures ∙ c.if-is_closing_bracket.true))

pub returns-then-first-eq44-clause-next : goal.returns-then-first-eq44-clause-next
returns-then-first-eq44-clause-next c =
    members_more c.args.text.now c.in-Some.behind.now
    (sym c.rests.invariant.same ∙ ap (λ d. after_commas d (rests c.rests.rest.now)) c.if-depth-eq0-2.true
    ∙ commas_here c.in-Some.first.now c.in-Some.behind.now c.rests.rest.now c.in-Some.ensures.cases.0 c.if-first-eq44.true)

pub rests-preserved : goal.rests-preserved
rests-preserved c =
    let size = ap length c.in-Some.ensures.cases.0 in
    let depth = c.rests.depth in
    let first = c.in-Some.first.now in
    let inside = not_here depth (is_closing first) (elim c.else-depth-eq0.branch [
      | else-depth-eq0-via-then-depth-eq0+else-is_closing_bracket w ↦ λ _. sym w.is_closing_bracket.ensures ∙ w.if-is_closing_bracket.false
      | else-depth-eq0-via-else-depth-eq0 w ↦ λ z. absurd (w.if-depth-eq0.false z)
    ]) in
    let other = not_here depth (first == 44) (elim c.else-depth-eq0-2.branch [
      | else-depth-eq0-2-via-then-depth-eq0-2+else-first-eq44 w ↦ λ _. grind (arith, nat_tests)
      | else-depth-eq0-2-via-else-depth-eq0-2 w ↦ λ z. absurd (w.if-depth-eq0-2.false z)
    ]) in
    record {
      within = omega arith;
      same =
          rw (c.nested-depth.ensures.value, c.skip_first-rest.ensures.value)
          (commas_further depth first c.in-Some.behind.now c.rests.rest.now c.in-Some.ensures.cases.0 inside other ∙ c.rests.invariant.same);
    }

pub returns-clause-last : goal.returns-clause-last
returns-clause-last c =
    let none : c.rests.rest.now ≡ [] = nil_from_length _ c.in_default.ensures.cases in
    members_last c.args.text.now
    (sym c.rests.invariant.same ∙ ap (λ t. after_commas c.rests.depth (rests t)) none ∙ ap (λ t. after_commas c.rests.depth t) rests_none)
