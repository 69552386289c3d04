use Rattle.std.proofs.Common.{sym, ap, ◌∙◌, nat_eq}
use Rattle.indexmap.specs.IndexMap.{insert_entry}
use Rattle.kd_options.specs.Joining.{bytes_of, entries_of}
use Rattle.kd_options.proofs.Maps.{set_seen, insert_seen}
use Rattle.kd_options.specs.declared.joining.Value.TheVariants.{Part}
use Rattle.kd_options.proofs.joining.join.Goals as goal

pub returns-in_ok-append-in-Some : goal.returns-in_ok-append-in-Some
returns-in_ok-append-in-Some c =
    ap entries_of (c.get_mut.follows.holds c.append.new.self).0 ∙ set_seen bytes_of _ _ c.in-Some.value.now c.append.new.self c.args.options.now.entries (sym c.in-Some.ensures.value) c.in_ok-append-in-Some.ensures

pub returns-in_ok-insert-in-None : goal.returns-in_ok-insert-in-None
returns-in_ok-insert-in-None c =
    let value = Part c.args.piece in
    let kept = ap (λ m. insert_entry nat_eq m.entries c.args.code value) c.get_mut.follows.holds-at-none in
    ap entries_of (c.in_ok-insert-in-None.ensures.entries ∙ kept) ∙ insert_seen bytes_of c.args.code value c.args.options.now.entries (sym c.in-None.ensures.value)
