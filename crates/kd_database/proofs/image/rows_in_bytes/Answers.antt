use Rattle.std.proofs.Common.{◌≡◌, ◌∙◌, inl, refl, subst, false, true, true≢false, is_some, Option, None, Some, Result, Ok, IfOk}
use Rattle.std.proofs.lemmas.Option.{IfSome_then}
use Rattle.std.proofs.lemmas.Result.{IfOk-weaker}
use Rattle.sqlite_wal.specs.Recovery.{Image}
use Rattle.sqlite.specs.Held.{Held}
use Rattle.sqlite.specs.declared.error.Error.TheVariants.{SqliteFailure}
use Rattle.sqlite.specs.declared.error.ErrorCode.TheVariants.{OutOfMemory}
use Rattle.sqlite_disk.specs.declared.memory.Memory.{Memory}
use Rattle.sqlite_disk.specs.contracts.memory.MemoryDisk.TheImpl.{ghosts}
use Rattle.sqlite_pool.specs.Pool.{state as pool_state}
use Rattle.sqlite_store.specs.declared.store.FileStore.{FileStore}
use Rattle.sqlite_trees.proofs.Doubt.{no_doubt}
use Rattle.sqlite.specs.Files.{file_state}
use Rattle.sqlite.specs.State.{HasCleanDisk}
use Rattle.kd_database.specs.Image.{AreRowsIn, LacksTable, bytes_image}
use Rattle.kd_database.specs.Staging.{IsListed}
use Rattle.kd_database.proofs.Opening.{blank_is_unlisted, held_rows, lacks_table, same_image}
use Rattle.kd_database.proofs.image.rows_in_bytes.Goals as goal

pub returns-in-Err-clause-refused : goal.returns-in-Err-clause-refused
returns-in-Err-clause-refused c = inl (SqliteFailure OutOfMemory, refl, c.in-Err.ensures.memory)

pub returns-in-Err-file_of-clause-refused : goal.returns-in-Err-file_of-clause-refused
returns-in-Err-file_of-clause-refused c = inl (SqliteFailure OutOfMemory, refl, c.in-Err-file_of.ensures.memory)

-- the disk of files in memory is clean
memory_is_clean : (conn : Held (FileStore Memory ghosts)) → HasCleanDisk (file_state conn)
unfolding pool_state
memory_is_clean conn = no_doubt true refl

pub returns-clause-held : goal.returns-clause-held
returns-clause-held c =
    let same = same_image c.in-Ok.log.bytes.items c.args.log.now c.in-Ok-file_of.db.bytes.items c.args.db.now c.in-Ok.ensures.bytes c.in-Ok-file_of.ensures.bytes in
    let image = bytes_image c.in-Ok.log.bytes.items c.in-Ok-file_of.db.bytes.items in
    IfOk-weaker c.rows_on.result _ _ (λ found given. IfSome_then found given (λ rows over.
    subst (λ im. AreRowsIn im rows.items) same (held_rows {D = Memory} {g = ghosts} _ image rows.items (λ store. memory_is_clean store.conn) (λ store clean. clean) (λ store table at. at) over)))
    c.rows_on.ensures.over

-- what a database lacks that has no table with the name of ours
lacks : {A F : Type 0} (image : Image) (result : Result (Option A) F) → IfOk result (λ found. IsListed ghosts image (is_some found)) → result ≡ Ok None → LacksTable image
lacks image result listed none = lacks_table image (subst (λ r. IfOk r (λ found. IsListed ghosts image (is_some found))) none listed) memory_is_clean

pub returns-clause-lacking : goal.returns-clause-lacking
returns-clause-lacking c none =
    let same = same_image c.in-Ok.log.bytes.items c.args.log.now c.in-Ok-file_of.db.bytes.items c.args.db.now c.in-Ok.ensures.bytes c.in-Ok-file_of.ensures.bytes in
    let image = bytes_image c.in-Ok.log.bytes.items c.in-Ok-file_of.db.bytes.items in
    subst LacksTable same (lacks image c.rows_on.result c.rows_on.ensures.listed none)

-- nothing is in an option that is not there
no_value : {A : Type 0} (found : Option A) → is_some found ≡ false → found ≡ None
no_value None none = refl
no_value (Some a) none = absurd (true≢false none)

pub returns-clause-empty : goal.returns-clause-empty
returns-clause-empty c =
    IfOk-weaker c.rows_on.result _ _ (λ found listed none. no_value found (blank_is_unlisted _ (is_some found) listed memory_is_clean (c.in-Ok-file_of.ensures.bytes ∙ none))) c.rows_on.ensures.listed
