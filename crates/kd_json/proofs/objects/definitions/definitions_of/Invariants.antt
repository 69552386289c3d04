use Rattle.std.proofs.Common.{◌≡◌, ◌++◌, List}
use Rattle.std.specs.List.{AllByRecursion}
use Rattle.std.specs.Vec.Iter.{into_iter_items}
use Rattle.kd_classes.specs.HeldSet.{IsAccepted}
use Rattle.kd_classes.specs.declared.definition.ClassDef.{ClassDef}
use Rattle.kd_json.specs.Alike.{AskAlike}
use Rattle.kd_json.specs.Configured.{AreDefinitions}
use Rattle.kd_json.proofs.objects.definitions.definitions_of.Given as goal

abbrev pub invariant-loop-entry : goal.invariant-loop-entry
invariant-loop-entry l = record {
  left : l.yielded ++ into_iter_items l.entry-iterator ≡ l.fn.entries.items;
  found : AreDefinitions l.files l.yielded l.definitions.items;
  same : (others : List ClassDef) → AreDefinitions l.files l.yielded others → AskAlike others l.definitions.items;
  accepted : AllByRecursion IsAccepted l.definitions.items;
}
