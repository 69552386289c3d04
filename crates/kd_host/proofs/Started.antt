-- A command over files, by what the machine says of its answers.
use Rattle.std.proofs.Common.{◌≡◌, ◌⊎◌, ◌∙◌, ap, inl, inr, ℕ, true, false, List, Option, None, Some, Result, Ok, Err, IfOk, IfErr, MatchResult, option_map, string_bytes, subst, sym}
use Rattle.sqlite_disk.specs.declared.Disk.{Ghosts as Disks}
use Rattle.sqlite_store.specs.FileStore.{view}
use Rattle.sqlite_store.specs.declared.store.FileStore.{FileStore}
use Rattle.sqlite_trees.specs.View.{IsClean}
use Rattle.sqlite_wal.specs.Recovery.{Image}
use Rattle.kd_commands.specs.declared.orders.Order.{Order}
use Rattle.kd_config.specs.Configuration.{Configuration}
use Rattle.kd_database.specs.Stops.{LiesBelow}
use Rattle.kd_database.specs.Stores.{IsStoreIn, StandsAsHeld, StandsNew}
use Rattle.kd_host.specs.OnFiles.{GivesNoStore, IsNoStartOfThese, IsOfThese, Left, ReadsNone, RunsOnFiles, ServesFiles, TellsRefusal}
use Rattle.kd_trouble.specs.declared.fault.StartFault.{StartFault}
use Rattle.kd_keeps.specs.declared.fault.StoreFault.{StoreFault}
use Rattle.kd_keeps.specs.declared.keeps.Keeps.{Ghosts}
use Rattle.kd_program.specs.Running.{Carries, CarriesOut, IsStoreFor, IsStoreFound, ServesWork, Starts, WorksBy, WorksOver, live_view}
use Rattle.kd_program.specs.Streams.{At}
use Rattle.kd_program.specs.declared.host.Host.{Ghosts as Hosts}
use Rattle.kd_commands.specs.declared.orders.Files.{Files}
use Rattle.kd_commands.specs.declared.orders.View.{View}
use Rattle.kd_commands.specs.declared.orders.Work.{Work}
use Rattle.kd_commands.specs.declared.orders.Work.TheVariants as works
use Rattle.kd_loops.specs.declared.ends.Sink.{Ghosts as Sinks}
use Rattle.kd_loops.specs.declared.link.Link.{Ghosts as Links}
use Rattle.kd_store.specs.Kept.{Kept}

module _ {D H U L R : Type 0} (d : Disks D) (h : Hosts H (Kept (FileStore D d)) U L R) (k : Ghosts (Kept (FileStore D d))) (unnamed : Ghosts U) (l : Links L) (r : Sinks R) (image : Image)
    (left_of : H → Option (FileStore D d)) where
  -- what the machine says of a configuration, of a store, and of one that it takes back
  pub record Says : Type 0 where
    pub configures : (before : H) (files : Files) (config : Configuration) (after : H) → h.configures before files (Ok config) after → IsOfThese files config
    pub refuses_files : (before : H) (files : Files) (fault : StartFault) (after : H) → h.configures before files (Err fault) after → IsNoStartOfThese files fault
    pub opens : (before : H) (path : List ℕ) (store : Kept (FileStore D d)) (after : H) → h.opens before path (Ok store) after
        → StandsAsHeld image store × StandsNew image store × IsStoreIn image store
    pub refuses : (before : H) (path : List ℕ) (fault : StoreFault) (after : H) → h.opens before path (Err fault) after → GivesNoStore d image fault
    pub closes : (before : H) (path : List ℕ) (back : Kept (FileStore D d)) (after : H) → h.closes before path back after
        → (it : FileStore D d) × (left_of after ≡ Some it) × (IsClean (view it) → LiesBelow back.conn it)

  -- what a command leaves, given the state of the host
  abbrev left_at : At H → Left (FileStore D d)
  left_at after = record { streams = after.streams; below = left_of after.host }

  abbrev Told : Files → At H → At H → ℕ → Type 0
  Told files before after status = TellsRefusal d h k l r image files before.streams after.streams status

  abbrev Ends : Files → Work → List ℕ → At H → At H → ℕ → Type 0
  Ends files work path before after status =
      ServesFiles d h k l r image files work before.streams (left_at after) status ⊎ (Told files before after status ⊎ ReadsNone d h k l r work path)

  -- work is done over the store at the path
  worked : Says → (files : Files) (work : Work) (path : List ℕ) (config : Configuration) → IsOfThese files config
      → option_map string_bytes files.store ≡ Some path → (before after : At H) (status : ℕ) → WorksOver h k unnamed l r (Some path) work config before after status
      → Ends files work path before after status
  worked says files work path config of named before after status (inl (store, opened, given, w)) =
      let held = says.opens before.host path store opened given in
      let closed = says.closes w.left path w.back after.host w.closed in
      inl (record {
        config = config;
        of_files = of;
        store = store;
        held = held.0;
        new = held.1;
        is_in = held.2;
        back = w.back;
        before = opened;
        after = w.left;
        serves = subst
            (λ at. ServesWork h l r k at work config (record { held = store; at = record { host = opened; streams = before.streams } })
            (record { held = w.back; at = record { host = w.left; streams = after.streams } }) status)
            (sym named) w.serves;
        it = closed.0;
        below_is = closed.1;
        leaves = closed.2;
      })
  worked says files work path config of named before after status (inr (fault, given, told)) = inr (inl (inr (fault, says.refuses _ path fault _ given, told)))

  -- the same, once the store is known to be that one
  at_path : Says → (files : Files) (work : Work) (path : List ℕ) (config : Configuration) → IsOfThese files config
      → option_map string_bytes files.store ≡ Some path → (before after : At H) (status : ℕ) (store : Option (List ℕ)) → store ≡ Some path
      → WorksOver h k unnamed l r store work config before after status → Ends files work path before after status
  at_path says files work path config of named before after status store is w =
      worked says files work path config of named before after status (subst (λ o. WorksOver h k unnamed l r o work config before after status) is w)

  -- the same, where a trial of the path chose the store
  tried : Says → (files : Files) (work : Work) (path : List ℕ) (config : Configuration) → IsOfThese files config
      → option_map string_bytes files.store ≡ Some path → (before after : At H) (status : ℕ) (store : Option (List ℕ))
      → (h.tries before.host path (Ok false) → ReadsNone d h k l r work path) → IsStoreFound h path before.host store
      → WorksOver h k unnamed l r store work config before after status → Ends files work path before after status
  tried says files work path config of named before after status store reads (Ok true, found, is) w = at_path says files work path config of named before after status store is w
  tried says files work path config of named before after status store reads (Ok false, found, is) w = inr (inr (reads found))
  tried says files work path config of named before after status store reads (Err trouble, found, is) w = at_path says files work path config of named before after status store is w

  -- the same over the store for this work, which a trial of the path may have chosen
  chosen : Says → (files : Files) (work : Work) (path : List ℕ) (config : Configuration) → IsOfThese files config
      → option_map string_bytes files.store ≡ Some path → (before after : At H) (status : ℕ) (store : Option (List ℕ)) → IsStoreFor h (Some path) work before.host store
      → WorksOver h k unnamed l r store work config before after status → Ends files work path before after status
  chosen says files works.Replay path config of named before after status store is w =
      at_path says files works.Replay path config of named before after status store is w
  chosen says files (works.Explain number) path config of named before after status store is w =
      tried says files (works.Explain number) path config of named before after status store (λ found. (before.host, found)) is w
  chosen says files (works.Show view at live) path config of named before after status store is w =
      tried says files (works.Show view at live) path config of named before after status store (λ found. (before.host, found)) is w
  chosen says files (works.Serve service) path config of named before after status store is w =
      at_path says files (works.Serve service) path config of named before after status store is w

  -- work that is no live view is done as a server
  as_server : Says → (files : Files) (work : Work) (path : List ℕ) (config : Configuration) → IsOfThese files config
      → option_map string_bytes files.store ≡ Some path → (before after : At H) (status : ℕ) (live : Option (List ℕ × View × ℕ)) → live ≡ None
      → WorksBy h k unnamed l r live (option_map string_bytes files.store) work config before after status → Ends files work path before after status
  as_server says files work path config of named before after status None is w =
      chosen says files work path config of named before after status w.store (subst (λ o. IsStoreFor h o work before.host w.store) named w.is_for) w.works
  as_server says files work path config of named before after status (Some live) is w = cc

  started : Says → (files : Files) (work : Work) (path : List ℕ) (before after : At H) (status : ℕ) → option_map string_bytes files.store ≡ Some path
      → live_view (Some path) work ≡ None → Starts h k unnamed l r files work before after status → Ends files work path before after status
  started says files work path before after status named idle (inl (config, asked, given, w)) =
      as_server says files work path config (says.configures before.host files config asked given) named
      (record before { host = asked }) after status w.live (w.is_live ∙ ap (λ o. live_view o work) named ∙ idle) w.works
  started says files work path before after status named idle (inr (fault, given, told)) =
      inr (inl (inl (fault, says.refuses_files _ files fault _ given, told)))

  pub on_files : Says → (words : List (List ℕ)) (before after : At H) (status : ℕ) → Carries h k unnamed l r words before after status
      → RunsOnFiles d h k l r image words before.streams (left_at after) status
  on_files says words before after status (inl c) = record { comes_to = inl (c.0, c.1, c.3) }
  on_files says words before after status (inr c) = record {
    comes_to =
        inr (
          c.0,
          c.1,
          λ files work path is named idle. started says files work path before after status named idle (subst (λ (order : Order). CarriesOut h k unnamed l r order before after status) is c.2),
        );
  }

-- what a store says of a result, in both cases
pub given_store : {V E : Type 0} (P Q R : V → Type 0) (S T : E → Type 0) (r : Result V E) → IfOk r P → IfOk r Q → IfOk r R → IfErr r S
    → MatchResult r (λ v. (P v × Q v × R v) × Unit {0}) (λ e. Unit {0} × (S e ⊎ T e))
given_store P Q R S T (Ok v) p q s t = ((p, q, s), tt)
given_store P Q R S T (Err e) p q s t = (tt, inl t)
