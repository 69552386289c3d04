use Rattle.std.proofs.Common.{refl}
use Rattle.kd_options.proofs.Keeping.{putting_none, putting_skip, putting_item}
use Rattle.kd_options.proofs.reply.put_items.Goals as goal

pub loop-item-init : goal.loop-item-init
loop-item-init c = putting_none _ _ _ _ c.requires.room

pub loop-item-preserved-in_default : goal.loop-item-preserved-in_default
loop-item-preserved-in_default c =
    putting_skip _ _ _ _ _ _ _ c.item-item.result c.loop-item.invariant c.loop-item-test.true c.item-item.is c.in_default.ensures

pub loop-item-preserved : goal.loop-item-preserved
loop-item-preserved c =
    putting_item _ _ _ _ _ _ _ c.item-item.result c.loop-item.invariant c.loop-item-test.true c.item-item.is _ _ _ refl c.in-Some.ensures c.put_item-at.ensures.next c.put_item-at.ensures.written
