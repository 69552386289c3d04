-- Openings over files, one after another.
use Rattle.std.proofs.Common.{◌≡◌, inl, inr, List, [], ◌∷◌, ◌++◌, None, Some, subst, sym}
use Rattle.std.proofs.lemmas.Option.{none-some, same_Some}
use Rattle.sqlite_disk.specs.declared.Disk.{Ghosts as Disks}
use Rattle.sqlite_store.specs.declared.store.FileStore.{FileStore}
use Rattle.sqlite_wal.specs.Recovery.{Image}
use Rattle.kd_config.specs.Configuration.{Configuration}
use Rattle.kd_database.specs.Stops.{IsCrashOf}
use Rattle.kd_database.specs.Stores.{IsStoreIn, StandsAsHeld, StandsNew}
use Rattle.kd_event.specs.declared.ports.Ports.{Ports}
use Rattle.kd_laws.specs.AcrossRuns.{HoldsTable, IsOneLife, LeadsOn, RunsAreHistories, RunsNeverOverlap, opening}
use Rattle.kd_keeps.specs.declared.keeps.Keeps.{Ghosts}
use Rattle.kd_laws.specs.Openings.{CommandsAreOpenings}
use Rattle.kd_program.specs.Running.{ports_asked}
use Rattle.kd_program.specs.declared.host.Host.{Ghosts as Hosts}
use Rattle.kd_loops.specs.declared.ends.Sink.{Ghosts as Sinks}
use Rattle.kd_loops.specs.declared.link.Link.{Ghosts as Links}
use Rattle.kd_rows.specs.declared.row.Row.{Row}
use Rattle.kd_laws.specs.Lives.{Call, IsDone, IsLeft, Life, LifeTo, Opening, OpeningsAreHistories, OpeningsEnd, WasHistory}
use Rattle.kd_laws.specs.Sent.{NoReplyOverlaps}
use Rattle.kd_store.specs.Kept.{Kept}
use Rattle.kd_store.specs.Stands.{Stands}
use Rattle.sqlite.specs.Files.{file_state}
use Rattle.sqlite.specs.State.{HasCleanDisk}

-- a store stands at the table that its files held
pub stands_at : {D : Type 0} {d : Disks D} (image : Image) (store : Kept (FileStore D d)) (table : List Row) → StandsAsHeld image store → StandsNew image store → HasCleanDisk (file_state store.conn)
    → HoldsTable image table → Stands (file_state store.conn) table
stands_at image store table held new clean (inl there) = held clean there.0 table there.1 there.2
stands_at image store table held new clean (inr none) = subst (λ rows. Stands (file_state store.conn) rows) (sym none.1) (new clean none.0)

-- an opening after others that led to its rows
life_more : (life : List Opening) (o : Opening) → LifeTo life o.rows → WasHistory o None → Life (life ++ o ∷ [])
life_more [] o is last = last
life_more (p ∷ []) o is last = (is, last)
life_more (p ∷ q ∷ life) o is last = (is.0, life_more (q ∷ life) o is.1 last)

-- and it leads to the rows found after it
leads_more : (life : List Opening) (o : Opening) (rows : List Row) → LifeTo life o.rows → WasHistory o (Some rows) → LifeTo (life ++ o ∷ []) rows
leads_more [] o rows is last = last
leads_more (p ∷ []) o rows is last = (is, last)
leads_more (p ∷ q ∷ life) o rows is last = (is.0, leads_more (q ∷ life) o rows is.1 last)

module _ {D E : Type 0} {d : Disks D} {e : Disks E} (k : Ghosts (Kept (FileStore D d))) (m : Ghosts (Kept (FileStore E e))) where
  -- what a store stands at in files that are what a crash left of another
  abbrev pub StandsAgain : Type 0
  StandsAgain =
      (left : Kept (FileStore D d)) (before after : List Row) → k.leaves left before after → (image : Image) → IsCrashOf left.conn image
      → (store : Kept (FileStore E e)) → IsStoreIn image store → m.has_clean_disk store → (found : List Row) × m.stands store found × IsLeft k left found

  -- a store stands at the table that its files held
  abbrev pub Held : Type 0
  Held =
      (image : Image) (store : Kept (FileStore D d)) → StandsAsHeld image store → StandsNew image store → k.has_clean_disk store → (table : List Row)
      → HoldsTable image table → k.stands store table

  module _ (histories : OpeningsAreHistories k) (ends : OpeningsEnd k) (again : StandsAgain) where
    leads : (config : Configuration) (rows : List Row) (ports : Ports) (calls : List Call) (store left : Kept (FileStore D d)) → k.stands store rows
        → IsDone k config ports calls store left → k.has_clean_disk left → LeadsOn k m config rows ports calls left
    leads config rows ports calls store left stands done clean image crash next is_in next_clean =
        let end = (ends config ports calls store left done clean).1 rows stands in
        let there = again left end.0 end.1 end.2 image crash next is_in next_clean in (
          there.0,
          there.1,
          histories (opening config rows ports calls) (Some there.0) (record {
            store = store;
            left = left;
            stands = stands;
            done = done;
            clean = clean;
            found = λ other same. subst (IsLeft k left) (same_Some there.0 other same) there.2;
          }),
        )

    pub goes_on : OpeningsAreHistories m → OpeningsEnd m → IsOneLife k m
    goes_on later later_ends config rows ports calls store left stands done clean image crash config' ports' calls' next last is_in next_done last_clean =
        let next_clean = (later_ends config' ports' calls' next last next_done last_clean).0 in
        let one = leads config rows ports calls store left stands done clean image crash next is_in next_clean in (
          one.0,
          one.1,
          (
            one.2,
            later (opening config' one.0 ports' calls') None (record {
              store = next;
              left = last;
              stands = one.1;
              done = next_done;
              clean = last_clean;
              found = λ other none. absurd (none-some other none);
            }),
          ),
        )

    -- the law of the later store is used only for its type
    pub runs : {H U L R : Type 0} (h : Hosts H (Kept (FileStore D d)) U L R) (l : Links L) (r : Sinks R) → OpeningsEnd m → CommandsAreOpenings h l r k → Held → RunsAreHistories k m h l r
    runs h l r later_ends openings held image files work old left status s clean table holds =
        let done = openings _ work s.config _ _ status s.serves in
        let first_clean = (ends s.config (ports_asked work) done.0 s.store s.back done.1 clean).0 in
        let stands = held image s.store s.held s.new first_clean table holds in (
          done.0,
          histories (opening s.config table (ports_asked work) done.0) None (record {
            store = s.store;
            left = s.back;
            stands = stands;
            done = done.1;
            clean = clean;
            found = λ other none. absurd (none-some other none);
          }),
          leads s.config table (ports_asked work) done.0 s.store s.back stands done.1 clean,
          done.2,
        )

    -- no two replies of a command and of earlier openings overlap
    pub never_overlap : {H U L R : Type 0} (h : Hosts H (Kept (FileStore D d)) U L R) (l : Links L) (r : Sinks R) → OpeningsEnd m → CommandsAreOpenings h l r k → Held → NoReplyOverlaps
        → ((image : Image) (store : Kept (FileStore E e)) → StandsAsHeld image store → StandsNew image store → m.has_clean_disk store → (table : List Row) → HoldsTable image table → m.stands store table)
        → ((store : Kept (FileStore E e)) (table other : List Row) → m.stands store table → m.stands store other → table ≡ other) → RunsNeverOverlap k m h l r
    never_overlap h l r later_ends openings held sent next_held once earlier image files work old left status s clean table holds life =
        let run = runs h l r later_ends openings held image files work old left status s clean table holds in
        let o = opening s.config table (ports_asked work) run.0 in (
          run.0,
          run.3,
          sent (earlier ++ o ∷ []) (life_more earlier o life run.1),
          λ next crash again is_in stands new next_clean rows next_holds.
              let there = run.2 next crash again is_in next_clean in
              let same : there.0 ≡ rows = once again there.0 rows there.1 (next_held next again stands new next_clean rows next_holds) in
              subst (LifeTo (earlier ++ o ∷ [])) same (leads_more earlier o there.0 life there.2),
        )
