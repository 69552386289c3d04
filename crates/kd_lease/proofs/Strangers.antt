-- What an authoritative server does for clients of which it has no record, and who a client is.
use Rattle.std.proofs.Common.{◌≡◌, ℕ, Bool, true, false, not, ◌&&◌, ◌||◌, List, [], ◌∷◌, Option, Some, None, if◌then◌else◌, refl, ap, ◌∙◌}
use Rattle.std.specs.List.{find}
use Rattle.kd_event.specs.declared.reason.Reason.TheVariants as reasons
use Rattle.kd_lease.specs.Choice.{Asking}
use Rattle.kd_lease.specs.Client.{address_or, client_identity, hardware_identity, named_server, set_identifier}
use Rattle.kd_lease.specs.Laws.{KnownByAddress, KnownByMessage, KnownByRecord, StrangersAreRefused}
use Rattle.kd_lease.specs.Rules.{ends_by, fails, holds_at, known_in, serving_subnet}
use Rattle.kd_lease.specs.Server.{other_server, server_identifier}
use Rattle.kd_lease.specs.declared.rule.Check.{Check}
use Rattle.kd_lease.specs.declared.rule.Check.TheVariants as checks
use Rattle.kd_lease.specs.declared.rule.Ending.{Ending}
use Rattle.kd_lease.specs.declared.rule.Ending.TheVariants as ends

module _ (q : Asking) (a : ℕ) (done : Ending) where
  -- a message that passes a check ends as the checks behind it say
  goes_on : (line : Check × Ending) (lines : List (Check × Ending)) → holds_at q (Some a) line.0 ≡ true
      → ends_by (find (fails q (Some a)) (line ∷ lines)) done ≡ ends_by (find (fails q (Some a)) lines) done
  goes_on line lines holds =
      ap (λ (b : Bool). ends_by (if not b then Some line else find (fails q (Some a)) lines) done) holds

  -- and one that does not as that check says
  ends_here : (line : Check × Ending) (lines : List (Check × Ending)) → holds_at q (Some a) line.0 ≡ false
      → ends_by (find (fails q (Some a)) (line ∷ lines)) done ≡ line.1
  ends_here line lines holds =
      ap (λ (b : Bool). ends_by (if not b then Some line else find (fails q (Some a)) lines) done) holds

-- the checks of a renewal behind each of them
abbrev behind_owner : List (Check × Ending)
behind_owner = (checks.Lasts, ends.Nak) ∷ (checks.Stays, ends.Nak) ∷ []

abbrev behind_client : List (Check × Ending)
behind_client = (checks.Owner, ends.Nak) ∷ behind_owner

abbrev behind_prefix : List (Check × Ending)
behind_prefix = (checks.Client, ends.Quiet reasons.NoRecord) ∷ behind_client

abbrev behind_subnet : List (Check × Ending)
behind_subnet = (checks.Prefix, ends.Nak) ∷ behind_prefix

abbrev behind_address : List (Check × Ending)
behind_address = (checks.Subnet, ends.Quiet reasons.NoSubnet) ∷ behind_subnet

abbrev behind_server : List (Check × Ending)
behind_server = (checks.Address, ends.Quiet reasons.NoRequested) ∷ behind_address

pub strangers_refused : StrangersAreRefused
strangers_refused q a authority named served other =
    goes_on q a ends.Lease (checks.Server, ends.GiveBack) behind_server server
    ∙ goes_on q a ends.Lease (checks.Address, ends.Quiet reasons.NoRequested) behind_address refl
    ∙ goes_on q a ends.Lease (checks.Subnet, ends.Quiet reasons.NoSubnet) behind_subnet served
    ∙ by (holds_at q (Some a) checks.Prefix) refl where
      server : holds_at q (Some a) checks.Server ≡ true
      server = ap (λ (o : Option ℕ). not (other_server q.config.server o && other_server (server_identifier q.config q.message) o)) named

      known : holds_at q (Some a) checks.Client ≡ true
      known = ap (λ (b : Bool). b || known_in q (serving_subnet q)) authority

      by : (b : Bool) → holds_at q (Some a) checks.Prefix ≡ b → ends_by (find (fails q (Some a)) behind_subnet) ends.Lease ≡ ends.Nak
      by true inside =
          goes_on q a ends.Lease (checks.Prefix, ends.Nak) behind_prefix inside
          ∙ goes_on q a ends.Lease (checks.Client, ends.Quiet reasons.NoRecord) behind_client known
          ∙ ends_here q a ends.Lease (checks.Owner, ends.Nak) behind_owner other
      by false outside = ends_here q a ends.Lease (checks.Prefix, ends.Nak) behind_prefix outside

pub by_record : KnownByRecord
by_record q about none = ap (λ (b : Bool). b || known_in q (serving_subnet q)) none

pub by_message : KnownByMessage
by_message config m none = ap (λ (b : Bool). if b then hardware_identity m else client_identity m) none

-- ---- by which address the server is known

same_twice : (b : Bool) → (b && b) ≡ b
same_twice true = refl
same_twice false = refl

pub known_by_address : KnownByAddress
known_by_address config m none =
    let server : server_identifier config m ≡ config.server =
    ap (λ (b : Bool). address_or (if b then set_identifier m else None) config.server) none in (
      server,
      ap (λ (a : ℕ). other_server config.server (named_server m) && other_server a (named_server m)) server
          ∙ same_twice (other_server config.server (named_server m)),
    )
