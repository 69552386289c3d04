-- What the rules decide for a message over a table, as the code represents it.
use Rattle.std.specs.Prelude.{◌≡◌, ℕ, Result, Ok, Err, map}
use Rattle.kd_event.specs.declared.reason.Reason.{Reason}
use Rattle.kd_options.specs.Message.{Seen}
use Rattle.kd_options.specs.Reply.{ItemsFit}
use Rattle.kd_lease.specs.Choice.{Asking}
use Rattle.kd_lease.specs.Client.{reply_room}
use Rattle.kd_lease.specs.Plan.{Content, Outcome, option_of_item}
use Rattle.kd_lease.specs.Plan.Outcome.{planned, quiet}
use Rattle.kd_lease.specs.ReplyOf.{fields_in_header, header_of_reply}
use Rattle.kd_lease.specs.ReplyOptions.{reply_content}
use Rattle.kd_lease.specs.declared.plan.Outline.{Outline}
use Rattle.kd_lease.specs.declared.plan.Plan.{Plan}
use Rattle.kd_lease.specs.declared.plan.PlanKind.{PlanKind}

-- a reply of a kind, with the address that it assigns or zero, and its content
abbrev pub reply_in : Asking → PlanKind → ℕ → Outcome
reply_in q kind yiaddr = planned kind yiaddr (reply_content q kind yiaddr)

-- what a message gets by the outline of its reply, which determines the content; or the reason why
-- there is none
abbrev pub outcome_for : Asking → Result Outline Reason → Outcome
outcome_for q (Ok outline) = reply_in q outline.kind outline.yiaddr
outcome_for q (Err reason) = quiet reason

-- the content of a reply
abbrev pub content_in : Plan → Content
content_in plan =
    record {
      fields = fields_in_header plan.reply.header;
      options = map option_of_item plan.reply.items;
    }

-- what a message gets by a plan: the kind of its reply, its address and its content; or the reason
-- why there is none
abbrev pub outcome_in : Result Plan Reason → Outcome
outcome_in (Ok plan) = planned plan.kind plan.yiaddr (content_in plan)
outcome_in (Err reason) = quiet reason

-- a plan is a reply to a message: the header and the room are those for the message, and the
-- mandatory options fit
pub record IsReplyTo (m : Seen) (plan : Plan) : Type 0 where
  pub header : plan.reply.header
      ≡ header_of_reply plan.kind plan.yiaddr (fields_in_header plan.reply.header) m.header
  pub room : plan.room ≡ reply_room m
  pub fits : ItemsFit plan.room plan.reply.items

-- a plan, if there is one, is a reply to the message
abbrev pub IsAnswerTo : Seen → Result Plan Reason → Type 0
IsAnswerTo m (Ok plan) = IsReplyTo m plan
IsAnswerTo m (Err reason) = Unit {0}
