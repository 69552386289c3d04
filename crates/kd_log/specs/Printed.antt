-- What is printed for a line of a log, given which replies are selected.
use Rattle.std.specs.Prelude.{◌≡◌, ℕ, ◌⊎◌, IfSome, IsTrue, List, []}
use Rattle.kd_event.specs.declared.destination.Destination.{Destination}
use Rattle.kd_options.specs.Message.{Reads, Seen, mac_of}
use Rattle.kd_log.specs.Logged.{IsQuietLine, IsReplyLine, is_remark}
use Rattle.kd_log.specs.People.{IsPeopleLine}
use Rattle.kd_log.specs.declared.events.filter.Filter.{Filter}

-- a message is selected: it has exactly this hardware address and assigns this address, if these
-- are set
abbrev pub IsAskedFor : Filter → Seen → Type 0
IsAskedFor filter m =
    IfSome filter.mac (λ mac. mac_of m.header ≡ mac)
    × IfSome filter.address (λ address. m.header.yiaddr ≡ address)

-- what is printed for a message: its line, or nothing if it is not selected
abbrev pub IsTextFor : Filter → ℕ → Seen → List ℕ → Type 0
IsTextFor filter moment m text =
    (IsAskedFor filter m × IsPeopleLine moment m text) ⊎ ((¬ IsAskedFor filter m) × (text ≡ []))

-- what is printed for the line of a reply whose bytes read as a message
pub record PrintsReply (filter : Filter) (line text : List ℕ) : Type 0 where
  pub moment : ℕ
  pub destination : Destination
  pub bytes : List ℕ
  pub message : Seen
  pub line_is : IsReplyLine line moment destination bytes
  pub reads : Reads bytes message
  pub text_is : IsTextFor filter moment message text

-- what is printed for a line; for an event without a reply, and for a remark, it is nothing
abbrev pub IsEventText : Filter → List ℕ → List ℕ → Type 0
IsEventText filter line text =
    PrintsReply filter line text
    ⊎ ((IsQuietLine line ⊎ IsTrue (is_remark line)) × (text ≡ []))
