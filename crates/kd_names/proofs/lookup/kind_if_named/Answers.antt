use Rattle.std.proofs.Common.{◌∙◌, ℕ, List, Some, sym, ap}
use Rattle.std.proofs.lemmas.Bool.{both_ways}
use Rattle.std.proofs.lemmas.Bool.Decides.{Decides-eqb}
use Rattle.std.proofs.lemmas.Option.{some_pair_parts}
use Rattle.std.proofs.lemmas.Slice.Eq.{slice_eq-Decides}
use Rattle.kd_names.specs.declared.kind.Kind.{Kind}
use Rattle.kd_names.proofs.lookup.kind_if_named.Goals as goal

pub returns-then-eq : goal.returns-then-eq
returns-then-eq c =
    let same = (slice_eq-Decides Decides-eqb _ _ _ c.eq.ensures).0 c.if-eq.true in
    sym c.in-Some.ensures
    ∙ ap (λ (n : List ℕ). let p : List ℕ × Kind = (n, c.in-Some.kind) in Some p) (sym c.as_bytes.ensures.value ∙ same)

pub returns-else-eq : goal.returns-else-eq
returns-else-eq c = λ kind is.
    let same = some_pair_parts c.in-Some.other.now c.args.name.now c.in-Some.kind kind (c.in-Some.ensures ∙ is) in
    both_ways _ c.if-eq.false ((slice_eq-Decides Decides-eqb _ _ _ c.eq.ensures).1 (c.as_bytes.ensures.value ∙ same.0))
