use Rattle.std.proofs.Common.{◌≡◌, ℕ, ◌++◌, List, drop}
use Rattle.std.specs.Prelude.{string_bytes}
use Rattle.kd_explain.specs.OutcomeLines.{IsSentLine}
use Rattle.kd_explain.proofs.Listing.{Leads}
use Rattle.kd_explain.proofs.option_lines.put_items.Given as goal

abbrev pub invariant-loop-item : goal.invariant-loop-item
invariant-loop-item l =
    (text : List ℕ) × (string_bytes l.out ≡ string_bytes l.initial.out ++ text)
    × Leads (IsSentLine l.sources.scene.now.config.now l.sources.scene.now.message.now l.sources.scene.now.explanation.now l.sources.address l.sources.reply.now) l.items text (drop l.item-index l.items)
