-- Which table a store of leases is at that is opened.
use Rattle.std.proofs.Common.{◌≡◌, inl, inr, true, false, true≢false, Bool, is_some, ℕ, List, [], length, Result, Ok, Err, IfOk, refl, sym, ap, subst, ◌∙◌, arith}
use Rattle.sqlite_disk.specs.declared.Disk.{Ghosts}
use Rattle.sqlite_wal.specs.Recovery.{Image}
use Rattle.sqlite_trees.specs.Tree.{Trees}
use Rattle.sqlite_trees.specs.Objects.{catalog_tree}
use Rattle.sqlite_catalog.proofs.ReadLemmas.{lists_once}
use Rattle.sqlite_trees.specs.declared.memory.MemStore.{MemStore}
use Rattle.sqlite_store.specs.declared.store.FileStore.{FileStore}
use Rattle.sqlite.specs.Effect.{Database}
use Rattle.sqlite.specs.Held.{Held, state}
use Rattle.sqlite_store.specs.FileStore as files
use Rattle.sqlite_disk.specs.declared.files.Files.{Files}
use Rattle.sqlite.specs.Files.{Finds, HoldsDatabase, IsBlankAs, IsOpened, file_state, image_of}
use Rattle.sqlite_schema.specs.Names.{same_name, table_named}
use Rattle.sqlite.specs.Start.{FindsIn}
use Rattle.sqlite.specs.State.{HasCleanDisk}
use Rattle.sqlite.specs.Steps.{over_memory, IsEmpty}
use Rattle.sqlite.proofs.Callers.{memory_is_clean}
use Rattle.sqlite.proofs.ListingLemmas.{empty_is_sound}
use Rattle.kd_rows.specs.declared.row.Row.{Row}
use Rattle.kd_store.specs.Kept.{Kept}
use Rattle.kd_store.specs.Laws.{Reopens}
use Rattle.kd_store.specs.Lease.{lease_schema, no_schema}
use Rattle.kd_store.specs.Opening.{OpensAt}
use Rattle.kd_store.specs.Stands.{Holds, Leaves, Stands}
use Rattle.kd_keeps.specs.declared.keeps.Keeps.{Ghosts as Keeps}
use Rattle.kd_database.specs.Image.{AreRowsIn, LacksTable, bytes_image, lease_name}
use Rattle.kd_database.specs.Staging.{AreRowsOver, IsListed}
use Rattle.kd_database.specs.Stores.{IsOpenedOn, IsStoreIn, StandsAsHeld, StandsNew}
use Rattle.kd_database.specs.Stops.{Restarts}

-- over a new database in memory a store is at the empty table
pub at_none : (opened conn : Held MemStore) → IsEmpty (state over_memory opened) → OpensAt (state over_memory opened) (state over_memory conn) → Stands (state over_memory conn) []
at_none opened conn empty opens = opens.stands (memory_is_clean conn) [] (inl (empty.2, refl))

pub ok_both : {T X : Type 0} (r : Result T X) (P Q R : T → Type 0) → ((x : T) → P x → Q x → R x) → IfOk r P → IfOk r Q → IfOk r R
ok_both (Ok x) P Q R f p q = f x p q
ok_both (Err e) P Q R f p q = tt

-- our schema has a table with the name of ours
ours_is_listed : is_some (table_named lease_schema lease_name) ≡ true
unfolding same_name
ours_is_listed = refl

module _ {E : Type 0} {h : Ghosts E} (image : Image) where
  -- what opening by a path says of its connection
  pub opened_on : (opened : Held (FileStore E h)) → (HasCleanDisk (file_state opened) → IsOpened opened) → (HasCleanDisk (file_state opened) → FindsIn image (file_state opened))
      → (HasCleanDisk (file_state opened) → IsBlankAs false image → (files.view opened.store).has_sums ≡ false) → IsOpenedOn image opened
  opened_on opened is_opened found sums = record { is_opened = is_opened; found = found; plain = λ clean none. sums clean (inl (ap length none)) }

  -- a store in files is at the table that they held
  pub as_held : (store : Kept (FileStore E h)) → IsStoreIn image store → StandsAsHeld image store
  as_held store is clean db table held holds =
      let before = is.opens.clean clean in
      let opens = (is.on.is_opened before).0 in
      let same : (file_state is.opened).now.trees ≡ db = ap (λ (d : Database). d.trees) opens.clean ∙ (is.on.found before).holds db held in
      is.opens.stands clean table (inr (opens.is_open, subst (λ (t : Trees). Holds t table) (sym same) holds))

  -- the schema of a database that was opened on no bytes
  pub blank_schema : (opened : Held (FileStore E h)) → IsOpenedOn image opened → HasCleanDisk (file_state opened) → image.db ≡ [] → (file_state opened).now.schema ≡ no_schema
  blank_schema opened on clean none =
      let opens = on.is_opened clean in
      let empty : (file_state opened).committed.trees catalog_tree ≡ [] = elim (on.found clean).reads [
        | inl held ↦ absurd (omega (arith, held.3.found.present, ap length none))
        | inr nothing ↦ nothing.1.1
      ] in
      let now = (file_state opened).now in
      let unlisted : now.trees catalog_tree ≡ [] = ap (λ (d : Database). d.trees catalog_tree) opens.0.clean ∙ empty in
      let sound = (opens.1 opens.0.is_open).0 in
      lists_once (now.trees catalog_tree) now.schema no_schema sound.lists (empty_is_sound now.trees unlisted).lists

  -- and if there were no bytes, at the empty one
  pub as_new : (store : Kept (FileStore E h)) → IsStoreIn image store → StandsNew image store
  as_new store is clean none =
      let before = is.opens.clean clean in
      is.opens.stands clean [] (inl (blank_schema is.opened is.on before none, refl))

  -- the schema of a database that was opened on one that holds a table of leases
  pub held_schema : (opened : Held (FileStore E h)) → IsOpenedOn image opened → HasCleanDisk (file_state opened) → (db : Trees) (table : List Row) → HoldsDatabase image db → Holds db table
      → (file_state opened).now.schema ≡ lease_schema
  held_schema opened on clean db table held holds =
      let opens = on.is_opened clean in
      let now = (file_state opened).now in
      let same : now.trees ≡ db = ap (λ (d : Database). d.trees) opens.0.clean ∙ (on.found clean).holds db held in
      let mine = subst (λ (t : Trees). Holds t table) (sym same) holds in
      let sound = (opens.1 opens.0.is_open).0 in
      lists_once (now.trees catalog_tree) now.schema lease_schema sound.lists mine.0.lists

  -- a database that was opened and has no table with the name of ours lacks a table of leases
  pub lacks_table : IsListed h image false → ((opened : Held (FileStore E h)) → HasCleanDisk (file_state opened)) → LacksTable image
  lacks_table is always db table held holds =
      let schema = held_schema is.opened is.on (always is.opened) db table held holds in
      let listed : true ≡ false = sym ours_is_listed ∙ ap (λ s. is_some (table_named s lease_name)) (sym schema) ∙ is.listed in
      true≢false listed

  -- one that was opened on no bytes has no such table
  pub blank_is_unlisted : (has : Bool) → IsListed h image has → ((opened : Held (FileStore E h)) → HasCleanDisk (file_state opened)) → image.db ≡ [] → has ≡ false
  blank_is_unlisted has is always none =
      sym is.listed ∙ ap (λ s. is_some (table_named s lease_name)) (blank_schema is.opened is.on (always is.opened) none)

-- rows that were read from a store whose disk is always clean are those in its files
pub held_rows : {D : Type 0} {g : Ghosts D} (k : Keeps (Kept (FileStore D g))) (image : Image) (rows : List Row) → ((store : Kept (FileStore D g)) → HasCleanDisk (file_state store.conn))
    → ((store : Kept (FileStore D g)) → HasCleanDisk (file_state store.conn) → k.has_clean_disk store)
    → ((store : Kept (FileStore D g)) (table : List Row) → Stands (file_state store.conn) table → k.stands store table) → AreRowsOver k image rows → AreRowsIn image rows
held_rows k image rows always clean stands over =
    let is = always over.store in
    record {
      held = λ db table held holds. (over.read.table (clean over.store is) table (stands over.store table (as_held image over.store over.opened is db table held holds))).0;
    }

-- what files in memory show is what was written to them
pub same_image : (a b c d : List ℕ) → a ≡ b → c ≡ d → bytes_image a c ≡ bytes_image b d
same_image a b c d e f = rw (e, f) refl

-- what opening files finds is what they held
pub found_in : {D : Type 0} {g : Ghosts D} (files : Files D) (opened : Held (FileStore D g)) → (HasCleanDisk (file_state opened) → Finds files opened)
    → HasCleanDisk (file_state opened) → FindsIn (image_of g files) (file_state opened)
found_in files opened finds clean = let it = finds clean in record { holds = it.holds; reads = it.reads }

-- a store on what a crash left of other files is at one table, which is one of any two that the
-- crash could leave
pub restarts : {D E : Type 0} (g : Ghosts D) (h : Ghosts E) → Reopens g h → Restarts g h
restarts g h reopens conn before after leaves image crash store is clean =
    let opens = is.opens.clean clean in
    let law = λ (earlier : List Row) (later : List Row) (left : Leaves (file_state conn) earlier later).
    reopens crash.it earlier later crash.below.numbered (λ db may. left db (crash.below.outcomes db may)) image crash.may is.opened (is.on.is_opened opens) (is.on.found opens) in
    let finds = is.opens.finds clean (inr (law before after leaves).0) in
    (finds.0, is.opens.stands clean finds.0 finds.1, λ earlier later left. (law earlier later left).1 finds.0 finds.1)
