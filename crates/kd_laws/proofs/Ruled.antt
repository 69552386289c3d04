-- What a message changes: nothing, and it gets no reply; or what a rule sets.
use Rattle.std.proofs.Common.{◌≡◌, ℕ, Bool, true, false, codes, List, Option, Some, None, ◌⊎◌, inl, inr, refl, subst, sym}
use Rattle.kd_config.specs.Configuration.{Configuration}
use Rattle.kd_event.specs.declared.reason.Reason.{Reason}
use Rattle.kd_event.specs.declared.reason.Reason.TheVariants as reasons
use Rattle.kd_lease.specs.Change.{AnswersTo, Decides, ForClient, Unless, WhereFits, asked_for, fits_in}
use Rattle.kd_lease.specs.Client.{identity_under, server_message, reply_room}
use Rattle.kd_lease.specs.Plan.{Outcome}
use Rattle.kd_lease.specs.Plan.Outcome.{quiet}
use Rattle.kd_lease.specs.Rules.{Does}
use Rattle.kd_machine.specs.Parts.{is_held}
use Rattle.kd_options.specs.Message.{Seen}
use Rattle.kd_rows.specs.declared.row.Row.{Row}

-- no row is set, and there is no reply
abbrev pub IsSilent : Option Row → Outcome → Type 0
IsSilent set got = (set ≡ None) × ((reason : Reason) × (got ≡ quiet reason))

-- a row is set, or none, and the message has its outcome by a rule
pub record Ruled (config : Configuration) (rows : List Row) (names : List (List ℕ)) (m : Seen) (now : ℕ) (set : Option Row) (got : Outcome) : Type 0 where
  pub client : List ℕ
  pub by : identity_under config m ≡ Some client
  pub does : Does (asked_for config rows names m now client) set got

unless : (P : Type 0) (b : Bool) (reason : Reason) (Done : Option Row → Outcome → Type 0) (set : Option Row) (got : Outcome)
    → (IsSilent set got → P) → (Done set got → P) → Unless b reason Done set got → P
unless P true reason Done set got silent done h = silent (h.0, (reason, h.1))
unless P false reason Done set got silent done h = done h

for_client : (P : Type 0) (o : Option (List ℕ)) (Done : List ℕ → Option Row → Outcome → Type 0) (set : Option Row) (got : Outcome)
    → (IsSilent set got → P) → ((client : List ℕ) → o ≡ Some client → Done client set got → P) → ForClient o Done set got → P
for_client P None Done set got silent done h = silent (h.0, (reasons.NoIdentity, h.1))
for_client P (Some client) Done set got silent done h = done client refl h

where_fits : (P : Type 0) (b : Bool) (row : Option Row) (outcome : Outcome) (set : Option Row) (got : Outcome)
    → (IsSilent set got → P) → (set ≡ row → got ≡ outcome → P) → WhereFits b row outcome set got → P
where_fits P true row outcome set got silent done h = done h.0 h.1
where_fits P false row outcome set got silent done h = silent (h.0, (reasons.ReplyTooLong, h.1))

-- the decision for a message is nothing, or is by a rule
pub ruled : (config : Configuration) (rows : List Row) (names : List (List ℕ)) (m : Seen) (now : ℕ) (set : Option Row) (got : Outcome)
    → Decides config rows names m now set got → IsSilent set got ⊎ Ruled config rows names m now set got
ruled config rows names m now set got h =
    unless Goal (server_message m) reasons.NotRequest (ForClient (identity_under config m) served) set got inl
    (for_client Goal (identity_under config m) served set got inl
    (λ client by. unless Goal (is_held (codes "DROP") names) reasons.DropClass (AnswersTo (asked_for config rows names m now client)) set got inl (answered client by))) h where
      Goal : Type 0
      Goal = IsSilent set got ⊎ Ruled config rows names m now set got

      served : List ℕ → Option Row → Outcome → Type 0
      served client = Unless (is_held (codes "DROP") names) reasons.DropClass (AnswersTo (asked_for config rows names m now client))

      answered : (client : List ℕ) → identity_under config m ≡ Some client → AnswersTo (asked_for config rows names m now client) set got → IsSilent set got ⊎ Ruled config rows names m now set got
      answered client by a =
          let q = asked_for config rows names m now client in
          where_fits (IsSilent set got ⊎ Ruled config rows names m now set got) (fits_in (reply_room m) a.outcome) a.row a.outcome set got inl
          (λ same gets. inr (record { client = client; by = by; does = subst (λ (y : Outcome). Does q set y) (sym gets) (subst (λ (o : Option Row). Does q o a.outcome) (sym same) a.does) })) a.replies
