use Rattle.std.proofs.Common.{leb, ℕ, List, ap, arith, min, rules, subst, sym, ◌∙◌, ◌≡◌}
use Rattle.std.specs.List.Sorted.{IsNonDecreasing}
use Rattle.std.proofs.lemmas.Bool.{leb-false, leb-true}
use Rattle.std.proofs.lemmas.List.Sorted.{IsPartitionPoint-from_clause, IsPartitionedBy-leb}
use Rattle.kd_rows.specs.Zones.{cuts_to, zone_in}
use Rattle.kd_rows.proofs.Zoning.{cuts_at}
use Rattle.kd_rows.proofs.zones.Zones.of.Goals as goal

pub returns : goal.returns
returns c =
    let cuts : List ℕ = c.as_slice.result.now in
    let same : cuts ≡ c.self.inside.cuts.items = c.as_slice.ensures.value in
    let rise : IsNonDecreasing cuts = subst IsNonDecreasing (sym same) c.self.invariant in
    let point = IsPartitionPoint-from_clause (λ x. leb x c.args.address) cuts _ c.partition_point-zone.ensures.partitioned (IsPartitionedBy-leb (λ x. x) cuts c.args.address rise) (λ a r q k. search rules) in
    let e : cuts_to cuts c.args.address ≡ c.partition_point-zone.result = cuts_at cuts c.args.address _ c.partition_point-zone.ensures.bound (λ i less. leb-true _ _ (point.0 i 0 (omega arith) less)) (λ i le less. leb-false _ _ (point.1 i 0 le less)) in
    c.min.ensures ∙ ap (λ n. min n 4294967295) (sym e) ∙ ap (λ (cuts : List ℕ). zone_in cuts c.args.address) (same ∙ c.self.view_is)
