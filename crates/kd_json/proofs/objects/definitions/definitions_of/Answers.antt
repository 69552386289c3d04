use Rattle.std.proofs.Common.{[], ◌∷◌, ◌∙◌, append_assoc}
use Rattle.std.proofs.lemmas.Result.{err_from_is_err_and}
use Rattle.std.specs.Vec.Iter.{into_iter_items}
use Rattle.kd_json.proofs.Defined.{accepted_behind, alike_defined, defined_behind, undefined_with}
use Rattle.kd_json.proofs.objects.definitions.definitions_of.Goals as goal

pub returns-in_err-definition-clause-refused : goal.returns-in_err-definition-clause-refused
returns-in_err-definition-clause-refused c =
    let at = c.loop-entry in
    let steps = c.in-Some.ensures.steps.0 in
    let p = err_from_is_err_and c.from_residual.result c.from_residual.ensures.1 in
    rw (p.1, p.2)
    (λ other. undefined_with c.args.files.now at.yielded c.in-Some.entry (into_iter_items c.next.new.self) c.args.entries.items (rw (← steps) at.invariant.left) (c.in_err-definition.ensures.refused other))

pub loop-entry-preserved : goal.loop-entry-preserved
loop-entry-preserved c =
    let at = c.loop-entry in
    let entry = c.in-Some.entry in
    let steps = c.in-Some.ensures.steps.0 in
    let made = c.in_ok-definition in
    record {
      left = append_assoc at.yielded (entry ∷ []) _ ∙ rw (← steps) at.invariant.left;
      found = rw c.in_ok-push.ensures.items (defined_behind c.args.files.now at.yielded entry at.definitions.items made.definition at.invariant.found made.ensures.found);
      same = rw c.in_ok-push.ensures.items (alike_defined c.args.files.now at.yielded entry at.definitions.items made.definition at.invariant.same made.ensures.same);
      accepted = rw c.in_ok-push.ensures.items
          (accepted_behind at.definitions.items made.definition at.invariant.accepted
          made.ensures.accepted);
    }
