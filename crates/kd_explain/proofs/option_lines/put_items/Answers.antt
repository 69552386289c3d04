use Rattle.std.proofs.Common.{◌++◌, ◌∷◌, ◌+◌, ap, append_assoc, drop, sym, ◌∙◌}
use Rattle.std.specs.Prelude.{string_bytes}
use Rattle.std.proofs.lemmas.List.{drop_more}
use Rattle.kd_options.specs.declared.item.Item.{Item}
use Rattle.kd_explain.specs.OutcomeLines.{IsSentLine}
use Rattle.kd_explain.proofs.Listing.{leads_end, leads_on}
use Rattle.kd_explain.proofs.option_lines.put_items.Goals as goal

pub loop-item-preserved : goal.loop-item-preserved
loop-item-preserved c =
    let items = c.args.items.now in
    let i = c.loop-item.item-index in
    let before = c.loop-item.invariant in
    let here = c.in_ok-put_item.ensures in (
      before.0 ++ here.0,
      here.2 ∙ ap (λ t. t ++ here.0) before.1 ∙ append_assoc (string_bytes c.args.out.now) before.0 here.0,
      leads_on (IsSentLine c.args.sources.now.scene.now.config.now c.args.sources.now.scene.now.message.now c.args.sources.now.scene.now.explanation.now c.args.sources.now.address c.args.sources.now.reply.now) items before.0 here.0 i c.item-item.result
          (drop_more items i c.item-item.result c.loop-item-test.true ∙ ap (λ (x : Item). x ∷ drop (i + 1) items) (sym c.item-item.is)) here.1 before.2,
    )

pub returns : goal.returns
returns c =
    let all = c.loop-item.invariant in (
      all.0,
      leads_end (IsSentLine c.args.sources.now.scene.now.config.now c.args.sources.now.scene.now.message.now c.args.sources.now.scene.now.explanation.now c.args.sources.now.address c.args.sources.now.reply.now) c.args.items.now all.0 c.loop-item.item-index
          c.loop-item-test.false all.2,
      all.1,
    )
