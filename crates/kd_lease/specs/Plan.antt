-- What a message gets: a plan of its reply, or the reason why it gets none.
use Rattle.std.specs.Prelude.{ℕ, Bool, List}
use Rattle.kd_options.specs.declared.item.Item.{Item}
use Rattle.kd_lease.specs.declared.booting.BootFields.{BootFields}
use Rattle.kd_lease.specs.declared.plan.PlanKind.{PlanKind}
use Rattle.kd_event.specs.declared.reason.Reason.{Reason}

-- an option of a reply: its code, its value, and whether the reply must contain it
pub record ReplyOption : Type 0 where
  pub code : ℕ
  pub value : List ℕ
  pub obligatory : Bool

-- the option of an item
abbrev pub option_of_item : Item → ReplyOption
option_of_item item = record { code = item.code; value = item.value; obligatory = item.obligatory }

-- what a reply says beside its kind and its address: its boot fields and its options
pub record Content : Type 0 where
  pub fields : BootFields
  pub options : List ReplyOption

-- what a message gets: a reply of this kind, with the client's new address or zero and this content;
-- or nothing, for a reason
pub data Outcome : Type 0 where
  planned : PlanKind → ℕ → Content → Outcome
  quiet : Reason → Outcome
