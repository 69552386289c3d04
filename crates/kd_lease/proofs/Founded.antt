-- What the ends of messages rest on: a message that ends as its rule does passes all its checks.
use Rattle.std.proofs.Common.{◌≡◌, ℕ, ◌&&◌, Bool, true, false, List, [], ◌∷◌, Option, Some, None, is_some, IsSomeAnd, inl, inr, ◌⊎◌, refl, sym, ap, ◌∙◌, subst, if◌then◌else◌}
use Rattle.std.specs.List.{find}
use Rattle.std.proofs.lemmas.Bool.{and_from, and_parts, false≢true, not-false}
use Rattle.kd_config.specs.declared.subnet.Subnet.{Subnet}
use Rattle.kd_lease.specs.Choice.{Asking, Choice, fitting_for, free_for, usable}
use Rattle.kd_lease.specs.Client.{named_server}
use Rattle.kd_lease.specs.Laws.{EndsAreFounded, IsFounded}
use Rattle.kd_lease.specs.Kept.{passes}
use Rattle.kd_lease.specs.Rules.{IsAbout, IsChosenIn, checks_in, client_has, ending, ends_by, fails, held_at, holds_at, lasting_for, passes_in, renewable, rule_by, rule_of, serving_subnet}
use Rattle.kd_lease.specs.declared.rule.Check.{Check}
use Rattle.kd_lease.specs.declared.rule.Ending.{Ending}
use Rattle.kd_lease.specs.declared.rule.Ending.TheVariants as ends
use Rattle.kd_lease.specs.declared.rule.Rule.{Rule}
use Rattle.kd_lease.specs.declared.rule.Rule.TheVariants as rules
use Rattle.kd_options.specs.declared.kind.MessageType.{MessageType}
use Rattle.kd_options.specs.declared.kind.MessageType.TheVariants as types

-- an end that rests on nothing
abbrev is_plain : Ending → Bool
is_plain ends.Offer = false
is_plain ends.Lease = false
is_plain ends.Nak = true
is_plain ends.GiveBack = true
is_plain ends.Withhold = false
is_plain ends.Release = false
is_plain ends.Inform = true
is_plain (ends.Quiet reason) = true

plain : (q : Asking) (type : MessageType) (about : Option ℕ) (e : Ending) → is_plain e ≡ true → IsFounded q type about e
plain q type about ends.Offer is = absurd (false≢true is)
plain q type about ends.Lease is = absurd (false≢true is)
plain q type about ends.Nak is = tt
plain q type about ends.GiveBack is = tt
plain q type about ends.Withhold is = absurd (false≢true is)
plain q type about ends.Release is = absurd (false≢true is)
plain q type about ends.Inform is = tt
plain q type about (ends.Quiet reason) is = tt

-- all lines of a list end so
abbrev are_plain : List (Check × Ending) → Bool
are_plain [] = true
are_plain (line ∷ lines) = is_plain line.1 && are_plain lines

-- a message passes all the checks of a list
abbrev passed : Asking → Option ℕ → List (Check × Ending) → Type 0
passed q about [] = Unit {0}
passed q about (line ∷ lines) = (holds_at q about line.0 ≡ true) × passed q about lines

-- if a message passes the checks of a list, it ends as the rule does; otherwise as one of its lines
-- does
ended : (q : Asking) (type : MessageType) (about : Option ℕ) (done : Ending) (lines : List (Check × Ending)) → are_plain lines ≡ true
    → (passed q about lines → IsFounded q type about done) → IsFounded q type about (ends_by (find (fails q about) lines) done)
ended q type about done [] are each = each tt
ended q type about done (line ∷ lines) are each = by (fails q about line) refl (ended q type about done lines parts.1) where
  parts : (is_plain line.1 ≡ true) × (are_plain lines ≡ true)
  parts = and_parts (is_plain line.1) (are_plain lines) are

  by : (b : Bool) → fails q about line ≡ b → ((passed q about lines → IsFounded q type about done) → IsFounded q type about (ends_by (find (fails q about) lines) done))
      → IsFounded q type about (ends_by (if b then Some line else find (fails q about) lines) done)
  by true e rest = plain q type about line.1 parts.0
  by false e rest = rest (λ more. each (not-false (holds_at q about line.0) e, more))

-- a DISCOVER that passes them: the address is the choice in the subnet
discovered : (q : Asking) (o : Option Subnet) (about : Option ℕ) → IsChosenIn q o about → is_some o ≡ true → is_some about ≡ true
    → IsSomeAnd about (λ a. (s : Subnet) × (o ≡ Some s) × Choice q s a)
discovered q None about is some found = absurd (false≢true some)
discovered q (Some s) None is some found = absurd (false≢true found)
discovered q (Some s) (Some a) is some found = (s, refl, is)

-- a REQUEST that does: the address fits, and is free or the client's
abbrev MayLease : Asking → Option Subnet → Option ℕ → Type 0
MayLease q o about = IsSomeAnd about (λ a. (s : Subnet) × (o ≡ Some s) × ((usable q s a ≡ true) ⊎ (renewable q s a ≡ true)))

selected : (q : Asking) (o : Option Subnet) (about : Option ℕ) → passes_in (fitting_for q) o about ≡ true → passes (free_for q) about ≡ true → MayLease q o about
selected q None about fits free = absurd (false≢true fits)
selected q (Some s) None fits free = absurd (false≢true fits)
selected q (Some s) (Some a) fits free = (s, refl, inl (and_from (fitting_for q s a) (free_for q a) fits free))

renewed : (q : Asking) (o : Option Subnet) (about : Option ℕ) → passes (client_has q) about ≡ true → passes_in (lasting_for q) o about ≡ true → MayLease q o about
renewed q None about own fits = absurd (false≢true fits)
renewed q (Some s) None own fits = absurd (false≢true fits)
renewed q (Some s) (Some a) own fits = (s, refl, inr (and_from (client_has q a) (lasting_for q s a) own fits))

-- a DECLINE or a RELEASE that does: the client holds the address
held : (q : Asking) (about : Option ℕ) → passes (held_at q) about ≡ true → IsSomeAnd about (λ a. held_at q a ≡ true)
held q None holds = absurd (false≢true holds)
held q (Some a) holds = holds

-- all the checks of each rule, one by one
all_discover : (q : Asking) (about : Option ℕ) → IsAbout q rules.Discover about → passed q about (checks_in rules.Discover) → IsFounded q types.Discover about ends.Offer
all_discover q about is (subnet, (choice, end)) = (refl, discovered q (serving_subnet q) about is subnet choice)

all_select : (q : Asking) (about : Option ℕ) → passed q about (checks_in rules.Select) → IsFounded q types.Request about ends.Lease
all_select q about (server, (address, (subnet, (fits, (free, end))))) = (refl, selected q (serving_subnet q) about fits free)

all_renew : (q : Asking) (about : Option ℕ) → passed q about (checks_in rules.Renew) → IsFounded q types.Request about ends.Lease
all_renew q about (server, (address, (subnet, (inside, (client, (own, (fits, end))))))) = (refl, renewed q (serving_subnet q) about own fits)

all_decline : (q : Asking) (about : Option ℕ) → passed q about (checks_in rules.Decline) → IsFounded q types.Decline about ends.Withhold
all_decline q about (server, (address, (holds, end))) = (refl, held q about holds)

all_release : (q : Asking) (about : Option ℕ) → passed q about (checks_in rules.Release) → IsFounded q types.Release about ends.Release
all_release q about (server, (address, (holds, end))) = (refl, held q about holds)

requested : (q : Asking) (named : Option ℕ) (about : Option ℕ) → IsFounded q types.Request about (ending q about (rule_by types.Request named))
requested q None about = ended q types.Request about ends.Lease (checks_in rules.Renew) refl (all_renew q about)
requested q (Some server) about = ended q types.Request about ends.Lease (checks_in rules.Select) refl (all_select q about)

-- every end rests on what its rule checks
pub founded : EndsAreFounded
founded q types.Discover about is = ended q types.Discover about ends.Offer (checks_in rules.Discover) refl (all_discover q about is)
founded q types.Request about is = requested q (named_server q.message) about
founded q types.Decline about is = ended q types.Decline about ends.Withhold (checks_in rules.Decline) refl (all_decline q about)
founded q types.Release about is = ended q types.Release about ends.Release (checks_in rules.Release) refl (all_release q about)
founded q types.Inform about is = ended q types.Inform about ends.Inform (checks_in rules.Inform) refl (λ all. tt)
founded q types.Offer about is = tt
founded q types.Ack about is = tt
founded q types.Nak about is = tt

-- the same of an end that a message is found to have
pub founded_if : (q p : Asking) (type : MessageType) (about : Option ℕ) (rule : Rule) (end : Ending) → p ≡ q → rule ≡ rule_of p type → IsAbout q rule about → end ≡ ending p about rule → IsFounded p type about end
founded_if q p type about rule end same ruled is ends =
    let here : IsAbout p (rule_of p type) about = subst (λ (r : Rule). IsAbout p r about) ruled (subst (λ (x : Asking). IsAbout x rule about) (sym same) is) in
    subst (IsFounded p type about) (sym (ends ∙ ap (ending p about) ruled)) (founded p type about here)
