-- Texts without a byte: the words in the line of a lease that come from a fixed set have no line
-- feed, and all but the last have no space.
use Rattle.std.proofs.Common.{Bool, true, false, refl}
use Rattle.std.specs.Prelude.{codes}
use Rattle.kd_listing.specs.Leases.{word_of_live, word_of_state}
use Rattle.kd_rows.specs.declared.row.State.{State}
use Rattle.kd_rows.specs.declared.row.State.TheVariants as states
use Rattle.kd_text.specs.Words.{HasNo}
use Rattle.kd_text.proofs.Plain.{from_is_plain, is_plain}

pub state_spaceless : (state : State) → HasNo 32 (word_of_state state)
unfolding is_plain
state_spaceless states.Offered = from_is_plain 32 (codes "Offered") refl
state_spaceless states.Bound = from_is_plain 32 (codes "Bound") refl
state_spaceless states.Released = from_is_plain 32 (codes "Released") refl
state_spaceless states.Declined = from_is_plain 32 (codes "Declined") refl

pub state_plain : (state : State) → HasNo 10 (word_of_state state)
unfolding is_plain
state_plain states.Offered = from_is_plain 10 (codes "Offered") refl
state_plain states.Bound = from_is_plain 10 (codes "Bound") refl
state_plain states.Released = from_is_plain 10 (codes "Released") refl
state_plain states.Declined = from_is_plain 10 (codes "Declined") refl

pub live_plain : (live : Bool) → HasNo 10 (word_of_live live)
unfolding is_plain
live_plain true = from_is_plain 10 (codes "live") refl
live_plain false = from_is_plain 10 (codes "past") refl

pub changed_spaceless : HasNo 32 (codes "changed")
unfolding is_plain
changed_spaceless = from_is_plain 32 (codes "changed") refl

pub ends_spaceless : HasNo 32 (codes "ends")
unfolding is_plain
ends_spaceless = from_is_plain 32 (codes "ends") refl
