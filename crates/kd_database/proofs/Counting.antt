-- How far the frames reach that a start takes of a log, and why they are not counted.
use Rattle.std.proofs.Common.{◌≡◌, ◌≤◌, ◌<◌, ◌+◌, ℕ, zero, suc, List, length, inl, inr, ap, sym, subst, refl, nat_lt, arith}
use Rattle.std.proofs.lemmas.Bool.Decides.{nat_tests}
use Rattle.sqlite_disk.specs.Disk.{MoreFaults}
use Rattle.sqlite_wal.specs.declared.error.Error.{Error}
use Rattle.sqlite_wal.specs.declared.error.Error.TheVariants as errors
use Rattle.sqlite_wal.specs.Recovery.{AreFramesOf, IsLogFor, Replays, frame_at}
use Rattle.sqlite_wal.specs.Reads.{OnlyReads}
use Rattle.sqlite_wal.specs.Outcome.{HasCause}
use Rattle.sqlite_wal.specs.Opening.{RefusesLog}
use Rattle.sqlite_wal.proofs.PartLemmas.{frames_len-suc, frames_len-zero}
use Rattle.kd_keeps.specs.declared.fault.Cause.{Cause}
use Rattle.kd_keeps.specs.declared.fault.Cause.TheVariants as causes
use Rattle.kd_database.specs.Tail.{IsNotCounted}
use Rattle.kd_database.specs.declared.read_only.ReadOnly.{ReadOnly}
use Rattle.kd_database.specs.contracts.read_only.ReadOnlyDisk.TheImpl.{ghosts}

-- the frames that a start takes of a log are in it
pub frames_within : (size : ℕ) (log : List ℕ) (k : ℕ) → IsLogFor size log → Replays size log k → frame_at size k ≤ length log
frames_within size log zero named replays =
    let long : ¬ (length log < 32 + 24) = λ short. named.0 (inl short) in
    omega (arith, long, frames_len-zero size)
frames_within size log (suc k) named (inl ignored) = absurd (named.0 ignored.0)
frames_within size log (suc k) named (inr taken) = omega (arith, (taken.0.valid k (omega arith)).within, frames_len-suc size k)

-- so the offset after the frames whose pages a start gives is in the log
pub end_within : (size page_size frames : ℕ) (log seen numbers : List ℕ) → page_size ≡ size → seen ≡ log → frames ≡ length numbers → IsLogFor size log → AreFramesOf size seen numbers → frame_at page_size frames ≤ length log
end_within size page_size frames log seen numbers size_is seen_is frames_is named given =
    let taken : Replays size log frames = subst (Replays size log) (sym frames_is) (subst (λ it. Replays size it (length numbers)) seen_is given.0) in
    subst (λ it. frame_at it frames ≤ length log) (sym size_is) (frames_within size log frames named taken)

-- a file of bytes of which no call was refused is still one after it was read
pub none_refused : (old new : ReadOnly) → old.refused ≡ 0 → OnlyReads ghosts old new → new.refused ≡ 0
none_refused old new fresh reads =
    let same : nat_lt 0 new.refused ≡ nat_lt 0 old.refused = ap (λ rotten. rotten 0 0) reads.rot in
    grind (arith, nat_tests, same, fresh)

-- so no read of it has failed
pub no_fault : (old new : ℕ) → old ≡ 0 → new ≡ 0 → MoreFaults old new → ⊥
no_fault old new e f more = omega (arith, e, f, more)

-- what a start refuses is not counted, for the cause that names the refusal
refused : (size : ℕ) (log : List ℕ) (error : Error) (cause : Cause) → (error ≡ errors.Corrupt → cause ≡ causes.DatabaseCorrupt) → (error ≡ errors.Full → cause ≡ causes.TooBig) → RefusesLog size log error → IsNotCounted log size cause
refused size log error cause damaged long (inl none) = subst (IsNotCounted log size) (sym (damaged none.0)) none.1
refused size log error cause damaged long (inr full) = subst (IsNotCounted log size) (sym (long full.0)) full.1

-- a log whose frames a file of bytes does not give is not counted, for the cause that names why
pub not_counted : (size : ℕ) (log : List ℕ) (error : Error) (cause : Cause) (old new : ReadOnly)
    → (error ≡ errors.OutOfMemory → cause ≡ causes.OutOfMemory)
    → (error ≡ errors.Corrupt → cause ≡ causes.DatabaseCorrupt)
    → (error ≡ errors.Full → cause ≡ causes.TooBig)
    → old.refused ≡ 0 → OnlyReads ghosts old new
    → HasCause old.refused new.refused (RefusesLog size log) error → IsNotCounted log size cause
not_counted size log (errors.Io e) cause old new memory damaged long fresh reads more = absurd (no_fault old.refused new.refused fresh (none_refused old new fresh reads) more)
not_counted size log errors.OutOfMemory cause old new memory damaged long fresh reads has = subst (IsNotCounted log size) (sym (memory refl)) tt
not_counted size log errors.Closed cause old new memory damaged long fresh reads has = refused size log errors.Closed cause damaged long has
not_counted size log errors.NoSuchPage cause old new memory damaged long fresh reads has = refused size log errors.NoSuchPage cause damaged long has
not_counted size log errors.Full cause old new memory damaged long fresh reads has = refused size log errors.Full cause damaged long has
not_counted size log errors.Corrupt cause old new memory damaged long fresh reads has = refused size log errors.Corrupt cause damaged long has
not_counted size log errors.Exists cause old new memory damaged long fresh reads has = refused size log errors.Exists cause damaged long has
