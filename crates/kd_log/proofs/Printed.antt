-- The line of a lease: its words with a space after each but the last, and a line feed.
use Rattle.std.proofs.Common.{◌≡◌, ℕ, ◌^◌, ◌<◌, List, [], ◌∷◌, ◌++◌, refl, arith, append_assoc}
use Rattle.std.specs.Prelude.{codes, decimal}
use Rattle.kd_listing.specs.Leases.{lease_line, row_text, word_of_live, word_of_state}
use Rattle.kd_listing.specs.declared.leases.Lease.{Lease}
use Rattle.kd_rows.specs.Row.{IsInRange}
use Rattle.kd_rows.specs.declared.row.Row.{Row}
use Rattle.kd_text.specs.Text.{address_text, bytes_text}
use Rattle.kd_text.specs.Words.{HasNo, IsCutOff}
use Rattle.kd_text.proofs.Cuts.{cut_is}
use Rattle.kd_text.proofs.Endings.{one_line}
use Rattle.kd_text.proofs.Plain.{address_plain, bytes_plain, decimal_plain, newline_is_none, plain_append, space_is_none}
use Rattle.kd_log.specs.Import.{IsLeaseLine, IsStorable}
use Rattle.kd_log.specs.LeaseParts.{AreWords}
use Rattle.kd_log.specs.declared.leases.words.Words.{Words}
use Rattle.kd_log.proofs.LeasePlain.{changed_spaceless, ends_spaceless, live_plain, state_plain, state_spaceless}

-- what follows each space of a line
abbrev after_ends : Lease → List ℕ
after_ends lease = decimal lease.row.ends ++ 32 ∷ word_of_live lease.live

abbrev after_changed : Lease → List ℕ
after_changed lease = decimal lease.row.changed ++ 32 ∷ (codes "ends" ++ 32 ∷ after_ends lease)

abbrev after_state : Lease → List ℕ
after_state lease = bytes_text lease.row.client ++ 32 ∷ (codes "changed" ++ 32 ∷ after_changed lease)

-- the line of a lease without its line feed
abbrev pub body : Lease → List ℕ
body lease = address_text lease.row.address ++ 32 ∷ (word_of_state lease.row.state ++ 32 ∷ after_state lease)

pub printed : (lease : Lease) → lease_line lease ≡ body lease ++ 10 ∷ []
unfolding lease_line row_text
printed lease = simp append_assoc

changed_small : (row : Row) → IsInRange row → row.changed < 2 ^ 64
changed_small row range = let h = range.set_at in omega (arith, h)

ends_small : (row : Row) → IsInRange row → row.ends < 2 ^ 64
ends_small row range = let h = range.set_at in let g = range.last in omega (arith, h, g)

-- a line split at its first seven spaces has the words of its lease
pub words_are : (words : Words) (line r1 r2 r3 r4 r5 r6 fourth sixth : List ℕ) → IsCutOff 32 line words.address.now r1 → IsCutOff 32 r1 words.state.now r2 → IsCutOff 32 r2 words.client.now r3 → IsCutOff 32 r3 fourth r4
    → IsCutOff 32 r4 words.changed.now r5 → IsCutOff 32 r5 sixth r6 → IsCutOff 32 r6 words.ends.now words.live.now → (lease : Lease) → IsLeaseLine line lease → AreWords words lease
words_are words line r1 r2 r3 r4 r5 r6 fourth sixth k1 k2 k3 k4 k5 k6 k7 lease is =
    let row = lease.row in
    let p1 = cut_is k1 (address_text row.address) (word_of_state row.state ++ 32 ∷ after_state lease) (address_plain 32 row.address space_is_none refl is.storable.address) (one_line (lease_line lease) (body lease) line (printed lease) is.printed) in
    let p2 = cut_is k2 (word_of_state row.state) (after_state lease) (state_spaceless row.state) p1.1 in
    let p3 = cut_is k3 (bytes_text row.client) (codes "changed" ++ 32 ∷ after_changed lease) (bytes_plain 32 refl refl row.client is.storable.client) p2.1 in
    let p4 = cut_is k4 (codes "changed") (after_changed lease) changed_spaceless p3.1 in
    let p5 = cut_is k5 (decimal row.changed) (codes "ends" ++ 32 ∷ after_ends lease) (decimal_plain 32 row.changed space_is_none (changed_small row is.storable.range)) p4.1 in
    let p6 = cut_is k6 (codes "ends") (after_ends lease) ends_spaceless p5.1 in
    let p7 = cut_is k7 (decimal row.ends) (word_of_live lease.live) (decimal_plain 32 row.ends space_is_none (ends_small row is.storable.range)) p6.1 in
    record { address = p1.0; state = p2.0; client = p3.0; changed = p5.0; ends = p7.0; live = p7.1; storable = is.storable }

-- the line of a lease that can be stored contains no line feed
pub body_plain : (lease : Lease) → IsStorable lease.row → HasNo 10 (body lease)
body_plain lease is =
    let row = lease.row in
    let live = plain_append 10 (decimal row.ends) (32 ∷ word_of_live lease.live) (decimal_plain 10 row.ends newline_is_none (ends_small row is.range)) (refl, live_plain lease.live) in
    let changed = plain_append 10 (decimal row.changed) (codes " ends " ++ after_ends lease) (decimal_plain 10 row.changed newline_is_none (changed_small row is.range)) (refl, (refl, (refl, (refl, (refl, (refl, live)))))) in
    let client = plain_append 10 (bytes_text row.client) (codes " changed " ++ after_changed lease) (bytes_plain 10 refl refl row.client is.client) (refl, (refl, (refl, (refl, (refl, (refl, (refl, (refl, (refl, changed))))))))) in
    let state = plain_append 10 (word_of_state row.state) (32 ∷ after_state lease) (state_plain row.state) (refl, client) in
    plain_append 10 (address_text row.address) (32 ∷ (word_of_state row.state ++ 32 ∷ after_state lease)) (address_plain 10 row.address newline_is_none refl is.address) (refl, state)
