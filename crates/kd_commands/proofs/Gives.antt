-- Which arguments behind a subcommand's name pass clap's walk, and what is found: those that give
-- its parameters values as `specs/Line.antt` says.
use Rattle.std.proofs.Common.{◌≡◌, ◌⊎◌, ◌∙◌, ℕ, sym, ap, ap₂, refl, subst, inl, inr, true, false, Bool, List, [], ◌∷◌, ◌++◌, codes, fold, Option, Some, None, append_assoc}
use Rattle.std.specs.Prelude.{◌&&◌, ◌||◌, if◌then◌else◌, not}
use Rattle.std.specs.List.{All, AllByRecursion, IsDistinct, list_any}
use Rattle.std.specs.Map.{keys_of}
use Rattle.std.specs.Str.{bytes_eq, IsUtf8}
use Rattle.std.proofs.lemmas.List.{append-nil}
use Rattle.std.proofs.lemmas.List.Elements.{All-head, All-tail}
use Rattle.std.proofs.lemmas.Slice.Eq.{bytes_eq-Decides}
use Rattle.clap.specs.Lexer.{long_of}
use Rattle.clap.specs.Words.{Rule, Shape, Text, new_app}
use Rattle.clap.specs.Walk.{Held, Waiting, Walk, arg_by_index, finished, has_row, idle, is_pending, nothing_held, option, positional, pushed, settled, walked, with_default}
use Rattle.clap.specs.Takes.{is_given}
use Rattle.clap.specs.Faults.{option_fault, react_fault, settle_fault, turn_fault, use_fault, walk_fault}
use Rattle.clap.specs.declared.error.kind.ErrorKind.{ErrorKind}
use Rattle.clap.specs.declared.error.kind.ErrorKind.TheVariants.{ArgumentConflict, InvalidValue, MissingRequiredArgument, UnknownArgument}
use Rattle.clap.proofs.OnLiterals.{clap_on_literals}
use Rattle.kd_commands.specs.Line.{BeginWith, Give, GiveTexts, IsNamed, IsOneOf, flag_names, is_flag, required_names, text_names, value_names}
use Rattle.kd_commands.specs.Order.{Parameter}
use Rattle.kd_commands.proofs.Apart.{apart_from, apart_more}
use Rattle.kd_commands.proofs.Flags.{neither, no_dashes, no_long, no_short, then_none}
use Rattle.kd_commands.proofs.Held.{IsHeld, Value, empty_fails, filled_in, filled_in_is_held, flag_fails, flag_passes, no_row_more, nothing_is_held, once_passes, opened, put, put_is_held, raised, raised_is_held, rows_of, text_is_held, twice_fails}
use Rattle.kd_commands.proofs.Level.{found, leaf, level, start, step_down, step_up}
use Rattle.kd_commands.proofs.Options.{AreRules, IsFlag, IsMet, IsOption, alone, built_of, dashes, flag_of, is_alone, is_joined, is_raised, joined, met_of, plain, text_built}
use Rattle.kd_commands.proofs.Rules.{AreTheRules, IsPlaced, IsText, next_place}

-- a subcommand with these rules, as clap builds it
abbrev pub shape_with : Text → List Rule → Shape
shape_with name c = record (leaf (new_app name)) { rules = c }

-- the walk before the text of this place
abbrev pub walk_at : ℕ → Held → Waiting → Bool → Walk
walk_at place h waiting t = record { held = h; waiting = waiting; position = place; is_trailing = t; stopped = None }

-- what these options leave out of what is required, if anything
abbrev pub lacks_of : List Text → List (Text × Value) → Bool
lacks_of wanted os = list_any (λ n. not (is_given n (rows_of os))) wanted

-- ---- what is required

-- what is given has a name, and the other way round
key_given : (n : Text) (os : List (Text × Value)) → is_given n (rows_of os) ≡ true → IsOneOf n (keys_of os)
key_given n [] h = cc
key_given n (o ∷ os) h = go (bytes_eq o.0 n) refl (key_given n os)
  where
    go : (t : Bool) → bytes_eq o.0 n ≡ t → (is_given n (rows_of os) ≡ true → IsOneOf n (keys_of os)) → IsOneOf n (keys_of (o ∷ os))
    go true e more = inl (sym ((bytes_eq-Decides o.0 n).0 e))
    go false e more =
        let rest : is_given n (rows_of os) ≡ true = rw e at h in
        inr (more rest)

given_key : (n : Text) (os : List (Text × Value)) → IsOneOf n (keys_of os) → is_given n (rows_of os) ≡ true
given_key n [] one = absurd one
given_key n (o ∷ os) one = go (bytes_eq o.0 n) refl one (given_key n os)
  where
    go : (t : Bool) → bytes_eq o.0 n ≡ t → IsOneOf n (keys_of (o ∷ os)) → (IsOneOf n (keys_of os) → is_given n (rows_of os) ≡ true)
        → is_given n (rows_of (o ∷ os)) ≡ true
    go true e any more = rw e refl
    go false e (inl is) more = let bad : true ≡ false = sym ((bytes_eq-Decides o.0 n).1 (sym is)) ∙ e in cc
    go false e (inr later) more = rw e (more later)

not_given : (n : Text) (os : List (Text × Value)) → has_row n (rows_of os) ≡ false → is_given n (rows_of os) ≡ false
not_given n [] fresh = refl
not_given n (o ∷ os) fresh = go (bytes_eq o.0 n) refl (not_given n os)
  where
    go : (t : Bool) → bytes_eq o.0 n ≡ t → (has_row n (rows_of os) ≡ false → is_given n (rows_of os) ≡ false) → is_given n (rows_of (o ∷ os)) ≡ false
    go true e more = let bad : true ≡ false = rw e at fresh in cc
    go false e more =
        let rest : has_row n (rows_of os) ≡ false = rw e at fresh in
        rw e (more rest)

pub all_there : (wanted : List Text) (os : List (Text × Value)) → lacks_of wanted os ≡ false → AllByRecursion (λ n. IsOneOf n (keys_of os)) wanted
all_there [] os enough = tt
all_there (n ∷ wanted) os enough = go (is_given n (rows_of os)) refl (all_there wanted os)
  where
    go : (b : Bool) → is_given n (rows_of os) ≡ b → (lacks_of wanted os ≡ false → AllByRecursion (λ n. IsOneOf n (keys_of os)) wanted) → AllByRecursion (λ m. IsOneOf m (keys_of os)) (n ∷ wanted)
    go true e more =
        let rest : lacks_of wanted os ≡ false = rw e at enough in
        (key_given n os e, more rest)
    go false e more = let bad : true ≡ false = rw e at enough in cc

pub none_lacks : (wanted : List Text) (os : List (Text × Value)) → AllByRecursion (λ n. IsOneOf n (keys_of os)) wanted → lacks_of wanted os ≡ false
none_lacks [] os among = refl
none_lacks (n ∷ wanted) os (one, among) = rw (given_key n os one) (none_lacks wanted os among)

-- a name that is required and has no row is lacking
lacks_one : (n : Text) (wanted : List Text) (os : List (Text × Value)) → IsOneOf n wanted → has_row n (rows_of os) ≡ false → lacks_of wanted os ≡ true
lacks_one n [] os one fresh = absurd one
lacks_one n (m ∷ wanted) os (inl is) fresh =
    let none : is_given m (rows_of os) ≡ false = ap (λ x. is_given x (rows_of os)) (sym is) ∙ not_given n os fresh in
    rw none refl
lacks_one n (m ∷ wanted) os (inr later) fresh = go (not (is_given m (rows_of os))) (lacks_one n wanted os later fresh)
  where
    go : (b : Bool) → lacks_of wanted os ≡ true → b || lacks_of wanted os ≡ true
    go true e = refl
    go false e = e

same : (id : Text) → bytes_eq id id ≡ true
same id = (bytes_eq-Decides id id).1 refl

one_value : {A : Type 0} (b : Bool) (x y : A) → (if b && false then x else y) ≡ y
one_value true x y = refl
one_value false x y = refl

module _ (name : Text) (ps : List Parameter) (c : List Rule) (the : AreTheRules ps c) where
  abbrev ours : AreRules (value_names ps) (flag_names ps) (required_names ps) c
  ours = the.ours

  abbrev pub shape : Shape
  shape = shape_with name c

  abbrev pub lacks : List (Text × Value) → Bool
  lacks = lacks_of (required_names ps)

  -- ---- what is found

  finished_rows : (h : Held) (gs : List (Text × Value)) → IsHeld c h gs → finished c h ≡ fold with_default (rows_of gs) c
  finished_rows h gs held = ap (λ l. fold with_default l c) held.rows

  -- from this walk on the arguments do not fail, and these options are found
  pub record Passes (w : Walk) (rest : List Text) (gs : List (Text × Value)) : Type 0 where
    pub whole : level shape w rest ≡ []
    pub rows : found shape w rest ≡ fold with_default (rows_of gs) c

  -- and so do they from the walk an argument before
  pub before : (w v : Walk) (x : Text) (rest : List Text) (gs : List (Text × Value)) → turn_fault shape [] w x ≡ [] → walked c [] w x ≡ v
      → Passes v rest gs → Passes w (x ∷ rest) gs
  before w v x rest gs turn to h = record {
    whole = step_up shape w v x rest turn to h.whole;
    rows = ap (λ y. found shape y rest) to ∙ h.rows;
  }

  -- what is pending fails
  pub record IsStuck (h : Held) : Type 0 where
    pub skip : h.skip ≡ 0
    pub kind : ErrorKind
    pub fails : settle_fault c false h ≡ kind ∷ []

  stuck_option : (h : Held) → IsStuck h → (needed : Bool) (n : Text) (v : Option Text) → option_fault c false (built_of needed n) v h ≡ [] → ⊥
  stuck_option h stuck needed n None none = let bad : stuck.kind ∷ [] ≡ [] = sym stuck.fails ∙ none in cc
  stuck_option h stuck needed n (Some v) none =
      let bad : stuck.kind ∷ [] ≡ [] = sym stuck.fails ∙ (neither (settle_fault c false h) _ none).0 in
      cc

  stuck_flag : (h : Held) → IsStuck h → (n : Text) → react_fault c false (flag_of n) [] h ≡ [] → ⊥
  stuck_flag h stuck n none =
      let bad : stuck.kind ∷ [] ≡ [] = sym stuck.fails ∙ (neither (settle_fault c false h) _ none).0 in
      cc

  module _ (place : ℕ) where
    -- ---- one step

    turn_joined : (h : Held) (n v : Text) (o : IsOption c n)
        → turn_fault shape [] (walk_at place h idle false) (joined n v) ≡ option_fault c false (built_of o.needed n) (Some v) h
    unfolding clap_on_literals
    turn_joined h n v o = go (joined n v) (o.joined_apart v) (o.joined_is v)
      where
        go : (w : Text) → bytes_eq w (45 ∷ 45 ∷ []) ≡ false → long_of w ≡ Some (n, Some v)
            → turn_fault shape [] (walk_at place h idle false) w ≡ option_fault c false (built_of o.needed n) (Some v) h
        go w apart long = rw (apart, long, o.by_long) (then_none _)

    to_joined : (h : Held) (n v : Text) (o : IsOption c n)
        → walked c [] (walk_at place h idle false) (joined n v) ≡ walk_at place (put c o.needed n v h) idle false
    unfolding clap_on_literals
    to_joined h n v o = go (joined n v) (o.joined_apart v) (o.joined_is v)
      where
        go : (w : Text) → bytes_eq w (45 ∷ 45 ∷ []) ≡ false → long_of w ≡ Some (n, Some v)
            → walked c [] (walk_at place h idle false) w ≡ walk_at place (put c o.needed n v h) idle false
        go w apart long = rw (apart, long, o.by_long) refl

    turn_alone : (h : Held) (n : Text) (o : IsOption c n) → turn_fault shape [] (walk_at place h idle false) (alone n) ≡ settle_fault c false h
    unfolding clap_on_literals
    turn_alone h n o = go (alone n) o.alone_apart o.alone_is
      where
        go : (w : Text) → bytes_eq w (45 ∷ 45 ∷ []) ≡ false → long_of w ≡ Some (n, None)
            → turn_fault shape [] (walk_at place h idle false) w ≡ settle_fault c false h
        go w apart long = rw (apart, long, o.by_long) (then_none _)

    to_alone : (h : Held) (n : Text) (o : IsOption c n)
        → walked c [] (walk_at place h idle false) (alone n) ≡ walk_at place (opened c n h) (option n) false
    unfolding clap_on_literals
    to_alone h n o = go (alone n) o.alone_apart o.alone_is
      where
        go : (w : Text) → bytes_eq w (45 ∷ 45 ∷ []) ≡ false → long_of w ≡ Some (n, None)
            → walked c [] (walk_at place h idle false) w ≡ walk_at place (opened c n h) (option n) false
        go w apart long = rw (apart, long, o.by_long) refl

    turn_raised : (h : Held) (n : Text) → IsFlag c n
        → turn_fault shape [] (walk_at place h idle false) (alone n) ≡ react_fault c false (flag_of n) [] h
    unfolding clap_on_literals
    turn_raised h n f = go (alone n) f.alone_apart f.alone_is
      where
        go : (w : Text) → bytes_eq w (45 ∷ 45 ∷ []) ≡ false → long_of w ≡ Some (n, None)
            → turn_fault shape [] (walk_at place h idle false) w ≡ react_fault c false (flag_of n) [] h
        go w apart long = rw (apart, long, f.by_long) (then_none _)

    to_raised : (h : Held) (n : Text) → IsFlag c n → walked c [] (walk_at place h idle false) (alone n) ≡ walk_at place (raised c n h) idle false
    unfolding clap_on_literals
    to_raised h n f = go (alone n) f.alone_apart f.alone_is
      where
        go : (w : Text) → bytes_eq w (45 ∷ 45 ∷ []) ≡ false → long_of w ≡ Some (n, None)
            → walked c [] (walk_at place h idle false) w ≡ walk_at place (raised c n h) idle false
        go w apart long = rw (apart, long, f.by_long) refl

    turn_value : (h : Held) (n v : Text) → is_flag v ≡ false → turn_fault shape [] (walk_at place (opened c n h) (option n) false) v ≡ []
    unfolding clap_on_literals
    turn_value h n v is_plain = rw (no_dashes v is_plain, no_long v is_plain, no_short v is_plain) refl

    to_value : (h : Held) (n v : Text) → IsOption c n → is_flag v ≡ false
        → walked c [] (walk_at place (opened c n h) (option n) false) v ≡ walk_at place (filled_in c n v h) idle false
    unfolding clap_on_literals
    to_value h n v o is_plain = rw (no_dashes v is_plain, no_long v is_plain, no_short v is_plain, o.by_id, same n) refl

    pub to_dashes : (h : Held) (waiting : Waiting) → walked c [] (walk_at place h waiting false) (codes "--") ≡ walk_at place h waiting true
    unfolding walked
    to_dashes h idle = refl
    to_dashes h (option n) = refl
    to_dashes h positional = refl

    -- ---- the end

    pub at_end : (h : Held) (t : Bool) (gs : List (Text × Value)) → IsHeld c h gs
        → level shape (walk_at place h idle t) [] ≡ (if lacks gs then MissingRequiredArgument ∷ [] else [])
    unfolding walk_fault
    at_end h t gs held = rw (held.settles, ours.defaults (settled c h).rows, finished_rows h gs held, ours.needs (rows_of gs)) refl

    pub ended : (h : Held) (t : Bool) (gs : List (Text × Value)) → IsHeld c h gs → lacks gs ≡ false → Passes (walk_at place h idle t) [] gs
    ended h t gs held enough = record {
      whole = at_end h t gs held ∙ rw enough refl;
      rows = finished_rows h gs held;
    }

    -- ---- that a line passes

    end_passes : (h : Held) (gs : List (Text × Value)) (words : List Text) → IsHeld c h gs → lacks gs ≡ false → (words ≡ []) ⊎ (words ≡ codes "--" ∷ [])
        → Passes (walk_at place h idle false) words gs
    end_passes h gs words held enough (inl is) = rw is (ended h false gs held enough)
    end_passes h gs words held enough (inr is) =
        rw is (before (walk_at place h idle false) (walk_at place h idle true) (codes "--") [] gs refl (to_dashes h idle) (ended h true gs held enough))

    pub option_passes : (h : Held) (gs all : List (Text × Value)) (n : Text) (value : Value) (words behind : List Text) → IsHeld c h gs → IsNamed ps n value
        → has_row n (rows_of gs) ≡ false → BeginWith n value words behind
        → ((more : Held) → IsHeld c more (gs ++ (n, value) ∷ []) → Passes (walk_at place more idle false) behind all) → Passes (walk_at place h idle false) words all
    option_passes h gs all n None words behind held one fresh is on =
        let f = ours.flag n one in
        let none : has_row n (settled c h).rows ≡ false = ap (λ l. has_row n l) held.rows ∙ fresh in
        let passes : react_fault c false (flag_of n) [] h ≡ [] = rw held.settles (flag_passes n (settled c h).rows none) in
        rw is (before (walk_at place h idle false) (walk_at place (raised c n h) idle false) (alone n) behind all
        (turn_raised h n f ∙ passes) (to_raised h n f) (on (raised c n h) (raised_is_held c n h gs held fresh)))
    option_passes h gs all n (Some v) words behind held one fresh (inl is) on =
        let o = ours.option n one in
        let none : has_row n (settled c h).rows ≡ false = ap (λ l. has_row n l) held.rows ∙ fresh in
        let passes : option_fault c false (built_of o.needed n) (Some v) h ≡ [] = rw held.settles (once_passes o.needed n v (settled c h).rows none) in
        rw is (before (walk_at place h idle false) (walk_at place (put c o.needed n v h) idle false) (joined n v) behind all
        (turn_joined h n v o ∙ passes) (to_joined h n v o) (on (put c o.needed n v h) (put_is_held c o.needed n v h gs held fresh)))
    option_passes h gs all n (Some v) words behind held one fresh (inr (is, is_plain)) on =
        let o = ours.option n one in
        rw is (before (walk_at place h idle false) (walk_at place (opened c n h) (option n) false) (alone n) (v ∷ behind) all
        (turn_alone h n o ∙ held.settles) (to_alone h n o)
        (before (walk_at place (opened c n h) (option n) false) (walk_at place (filled_in c n v h) idle false) v behind all
        (turn_value h n v is_plain) (to_value h n v o is_plain)
        (on (filled_in c n v h) (filled_in_is_held c n v h gs o held fresh))))

    -- ---- that arguments which pass are a line

    -- if a value that is held fails, so does an argument that is no flag, and each argument after
    -- `--`
    pub record StuckFails : Type 0 where
      pub plain : (h : Held) → IsStuck h → (x : Text) → is_flag x ≡ false → turn_fault shape [] (walk_at place h idle false) x ≡ [] → ⊥
      pub behind : (h : Held) → IsStuck h → (waiting : Waiting) (x : Text) → turn_fault shape [] (walk_at place h waiting true) x ≡ [] → ⊥

    stuck_end : (h : Held) → IsStuck h → (waiting : Waiting) (t : Bool) → level shape (walk_at place h waiting t) [] ≡ [] → ⊥
    unfolding walk_fault
    stuck_end h stuck waiting t none =
        let bad : stuck.kind ∷ [] ≡ [] = sym stuck.fails ∙ (neither (settle_fault c false h) _ none).0 in
        cc

    -- ---- a text at its place

    module _ (id : Text) (at : arg_by_index c place ≡ Some (text_built place id)) where
      turn_text : (h : Held) (x : Text) → is_flag x ≡ false → turn_fault shape [] (walk_at place h idle false) x ≡ settle_fault c false h
      unfolding clap_on_literals
      turn_text h x is = rw (no_dashes x is, no_long x is, no_short x is, at) (one_value (is_pending (text_built place id) h.pending) [] (settle_fault c false h))

      to_text : (h : Held) (x : Text) → is_flag x ≡ false → walked c [] (walk_at place h idle false) x ≡ walk_at (next_place place) (filled_in c id x h) idle false
      unfolding clap_on_literals
      to_text h x is = rw (no_dashes x is, no_long x is, no_short x is, at)
          (ap (λ k. walk_at (next_place place) (pushed id x k) idle false) (one_value (is_pending (text_built place id) h.pending) h (settled c h)))

      turn_behind : (h : Held) (waiting : Waiting) (x : Text) → turn_fault shape [] (walk_at place h waiting true) x ≡ settle_fault c false h
      unfolding clap_on_literals
      turn_behind h waiting x = rw at (one_value (is_pending (text_built place id) h.pending) [] (settle_fault c false h))

      to_behind : (h : Held) (x : Text) → walked c [] (walk_at place h idle true) x ≡ walk_at (next_place place) (filled_in c id x h) idle true
      unfolding clap_on_literals
      to_behind h x = rw at (ap (λ k. walk_at (next_place place) (pushed id x k) idle true) (one_value (is_pending (text_built place id) h.pending) h (settled c h)))

    -- or none

    module _ (no_place : arg_by_index c place ≡ None) where
      stray : (h : Held) (x : Text) → is_flag x ≡ false → turn_fault shape [] (walk_at place h idle false) x ≡ UnknownArgument ∷ []
      unfolding clap_on_literals
      stray h x is_plain = rw (no_dashes x is_plain, no_long x is_plain, no_short x is_plain, no_place) refl

      stray_behind : (h : Held) (waiting : Waiting) (x : Text) → turn_fault shape [] (walk_at place h waiting true) x ≡ UnknownArgument ∷ []
      unfolding clap_on_literals
      stray_behind h waiting x = rw no_place refl

    fails_stuck : (ids : List Text) → IsPlaced c place ids → StuckFails
    fails_stuck [] placed = record {
      plain = λ h stuck x is none. let bad : UnknownArgument ∷ [] ≡ [] = sym (stray placed h x is) ∙ none in cc;
      behind = λ h stuck waiting x none. let bad : UnknownArgument ∷ [] ≡ [] = sym (stray_behind placed h waiting x) ∙ none in cc;
    }
    fails_stuck (id ∷ ids) placed = record {
      plain = λ h stuck x is none. let bad : stuck.kind ∷ [] ≡ [] = sym stuck.fails ∙ (sym (turn_text id placed.0 h x is) ∙ none) in cc;
      behind = λ h stuck waiting x none. let bad : stuck.kind ∷ [] ≡ [] = sym stuck.fails ∙ (sym (turn_behind id placed.0 h waiting x) ∙ none) in cc;
    }

    module _ (fails : StuckFails) where
      stuck_behind : (h : Held) → IsStuck h → (waiting : Waiting) (rest : List Text) → level shape (walk_at place h waiting true) rest ≡ [] → ⊥
      stuck_behind h stuck waiting [] none = stuck_end h stuck waiting true none
      stuck_behind h stuck waiting (x ∷ rest) none = fails.behind h stuck waiting x (step_down shape (walk_at place h waiting true) x rest none).0

      -- and so does whatever follows a value that fails
      stuck_fails : (h : Held) → IsStuck h → (rest : List Text) → All IsUtf8 rest → level shape (walk_at place h idle false) rest ≡ [] → ⊥
      stuck_fails h stuck [] utf8 none = stuck_end h stuck idle false none
      stuck_fails h stuck (x ∷ rest) utf8 none = go (met_of (value_names ps) (flag_names ps) (required_names ps) c ours x h stuck.skip (All-head IsUtf8 x rest utf8) (neither _ _ down.0).0)
        where
          down : (turn_fault shape [] (walk_at place h idle false) x ≡ []) × (level shape (walked c [] (walk_at place h idle false) x) rest ≡ [])
          down = step_down shape (walk_at place h idle false) x rest none

          go : IsMet (value_names ps) (flag_names ps) (required_names ps) c ours h x → ⊥
          go (dashes is) =
              let on = subst (λ y. level shape (walked c [] (walk_at place h idle false) y) rest ≡ []) is down.1 in
              stuck_behind h stuck idle rest (ap (λ w. level shape w rest) (sym (to_dashes h idle)) ∙ on)
          go (plain is) = fails.plain h stuck x is down.0
          go (is_alone n needed one is fault) = stuck_option h stuck needed n None fault
          go (is_raised n one is fault) = stuck_flag h stuck n fault
          go (is_joined n v needed one is fault) = stuck_option h stuck needed n (Some v) fault

      open_stuck : (h : Held) (gs : List (Text × Value)) (n : Text) → IsOption c n → IsHeld c h gs → IsStuck (opened c n h)
      open_stuck h gs n o held =
          let empty : use_fault false (built_of o.needed n) [] (settled c h).rows ≡ InvalidValue ∷ [] = empty_fails o.needed n (settled c h).rows in
          record { skip = held.skip; kind = InvalidValue; fails = rw o.by_id empty }

      again_stuck : (h : Held) (gs : List (Text × Value)) (n v : Text) → IsOption c n → IsHeld c h gs → has_row n (rows_of gs) ≡ true
          → IsStuck (filled_in c n v h)
      again_stuck h gs n v o held there =
          let again : has_row n (settled c h).rows ≡ true = ap (λ l. has_row n l) held.rows ∙ there in
          let twice : use_fault false (built_of o.needed n) (v ∷ []) (settled c h).rows ≡ ArgumentConflict ∷ [] = twice_fails o.needed n v (settled c h).rows again in
          record { skip = held.skip; kind = ArgumentConflict; fails = rw o.by_id twice }

      again_joined : (h : Held) (gs : List (Text × Value)) (needed : Bool) (n v : Text) → IsHeld c h gs → has_row n (rows_of gs) ≡ true
          → option_fault c false (built_of needed n) (Some v) h ≡ [] → ⊥
      again_joined h gs needed n v held there none =
          let again : has_row n (settled c h).rows ≡ true = ap (λ l. has_row n l) held.rows ∙ there in
          let bad : ArgumentConflict ∷ [] ≡ [] = sym (twice_fails needed n v (settled c h).rows again) ∙ (neither (settle_fault c false h) _ none).1 in
          cc

      again_raised : (h : Held) (gs : List (Text × Value)) (n : Text) → IsHeld c h gs → has_row n (rows_of gs) ≡ true
          → react_fault c false (flag_of n) [] h ≡ [] → ⊥
      again_raised h gs n held there none =
          let again : has_row n (settled c h).rows ≡ true = ap (λ l. has_row n l) held.rows ∙ there in
          let bad : ArgumentConflict ∷ [] ≡ [] = sym (flag_fails n (settled c h).rows again) ∙ (neither (settle_fault c false h) _ none).1 in
          cc

      -- after an option's name comes its value
      value_then : {A : Type 0} (h : Held) (gs : List (Text × Value)) (n : Text) (rest : List Text) → IsOption c n → IsHeld c h gs → All IsUtf8 rest
          → level shape (walk_at place (opened c n h) (option n) false) rest ≡ []
          → ((v : Text) (more : List Text) → rest ≡ v ∷ more → is_flag v ≡ false → level shape (walk_at place (filled_in c n v h) idle false) more ≡ [] → A) → A
      value_then h gs n [] o held utf8 none found_it = absurd (stuck_end (opened c n h) (open_stuck h gs n o held) (option n) false none)
      value_then {A} h gs n (v ∷ more) o held utf8 none found_it =
          go (met_of (value_names ps) (flag_names ps) (required_names ps) c ours v (opened c n h) held.skip (All-head IsUtf8 v more utf8) (neither _ _ down.0).0)
        where
          stuck : IsStuck (opened c n h)
          stuck = open_stuck h gs n o held

          down : (turn_fault shape [] (walk_at place (opened c n h) (option n) false) v ≡ [])
              × (level shape (walked c [] (walk_at place (opened c n h) (option n) false) v) more ≡ [])
          down = step_down shape (walk_at place (opened c n h) (option n) false) v more none

          go : IsMet (value_names ps) (flag_names ps) (required_names ps) c ours (opened c n h) v → A
          go (dashes is) =
              let on = subst (λ y. level shape (walked c [] (walk_at place (opened c n h) (option n) false) y) more ≡ []) is down.1 in
              absurd (stuck_behind (opened c n h) stuck (option n) more (ap (λ w. level shape w more) (sym (to_dashes (opened c n h) (option n))) ∙ on))
          go (plain is) = found_it v more refl is (ap (λ w. level shape w more) (sym (to_value h n v o is)) ∙ down.1)
          go (is_alone m needed one is fault) = absurd (stuck_option (opened c n h) stuck needed m None fault)
          go (is_raised m one is fault) = absurd (stuck_flag (opened c n h) stuck m fault)
          go (is_joined m w needed one is fault) = absurd (stuck_option (opened c n h) stuck needed m (Some w) fault)

  -- ---- the names that still need a text

  pub record IsNext (place : ℕ) (ids : List Text) (gs : List (Text × Value)) : Type 0 where
    pub placed : IsPlaced c place ids
    pub texts : AllByRecursion (IsText ps c) ids
    pub apart : IsDistinct bytes_eq ids
    pub fresh : AllByRecursion (λ id. has_row id (rows_of gs) ≡ false) ids

  fresh_more : (n : Text) (v : Value) (ids : List Text) (gs : List (Text × Value)) → AllByRecursion (λ id. bytes_eq n id ≡ false) ids
      → AllByRecursion (λ id. has_row id (rows_of gs) ≡ false) ids → AllByRecursion (λ id. has_row id (rows_of (gs ++ (n, v) ∷ [])) ≡ false) ids
  fresh_more n v [] gs others fresh = tt
  fresh_more n v (id ∷ ids) gs others fresh = (no_row_more id n v gs fresh.0 others.0, fresh_more n v ids gs others.1 fresh.1)

  others_of : (n : Text) (v : Value) (ids : List Text) → IsNamed ps n v → AllByRecursion (IsText ps c) ids → AllByRecursion (λ id. bytes_eq n id ≡ false) ids
  others_of n v [] named texts = tt
  others_of n v (id ∷ ids) named texts = (texts.0.other n v named, others_of n v ids named texts.1)

  next_named : (place : ℕ) (ids : List Text) (gs : List (Text × Value)) (n : Text) (v : Value) → IsNamed ps n v → IsNext place ids gs → IsNext place ids (gs ++ (n, v) ∷ [])
  next_named place ids gs n v named next = record {
    placed = next.placed;
    texts = next.texts;
    apart = next.apart;
    fresh = fresh_more n v ids gs (others_of n v ids named next.texts) next.fresh;
  }

  next_text : (place : ℕ) (id : Text) (ids : List Text) (gs : List (Text × Value)) (v : Value) → IsNext place (id ∷ ids) gs → IsNext (next_place place) ids (gs ++ (id, v) ∷ [])
  unfolding IsDistinct
  next_text place id ids gs v next = record {
    placed = next.placed.1;
    texts = next.texts.1;
    apart = next.apart.1;
    fresh = fresh_more id v ids gs next.apart.0 next.fresh.1;
  }

  -- ---- that a line passes

  -- texts behind `--`
  texts_pass : (place : ℕ) (ids : List Text) (h : Held) (gs given : List (Text × Value)) (words : List Text) → IsNext place ids gs → IsHeld c h gs
      → IsDistinct bytes_eq (keys_of (gs ++ given)) → lacks (gs ++ given) ≡ false → GiveTexts ids words given
      → Passes (walk_at place h idle true) words (gs ++ given)
  texts_pass place ids h gs [] words next held apart enough (none, is) =
      let all : gs ++ [] ≡ gs = append-nil gs in
      subst (λ l. Passes (walk_at place h idle true) words l) (sym all)
      (subst (λ w. Passes (walk_at place h idle true) w gs) (sym is) (ended place h true gs held (ap lacks (sym all) ∙ enough)))
  texts_pass place ids h gs ((n, v) ∷ given) words next held apart enough (text, gives) =
      let here : IsNext place (n ∷ text.later) gs = subst (λ l. IsNext place l gs) text.first next in
      let x = text.text in
      let all : (gs ++ (n, v) ∷ []) ++ given ≡ gs ++ (n, v) ∷ given = append_assoc gs ((n, v) ∷ []) given in
      let fresh = apart_from gs (n, v) given apart in
      let now : IsHeld c (filled_in c n x h) (gs ++ (n, v) ∷ []) =
      subst (λ o. IsHeld c (filled_in c n x h) (gs ++ (n, o) ∷ [])) (sym text.value_is)
      (text_is_held c here.texts.0.has.place n x h gs here.texts.0.has.by_id held fresh) in
      let rest = texts_pass (next_place place) text.later (filled_in c n x h) (gs ++ (n, v) ∷ []) given text.behind (next_text place n text.later gs v here) now
      (subst (λ l. IsDistinct bytes_eq (keys_of l)) (sym all) apart) (ap lacks all ∙ enough) gives in
      subst (λ w. Passes (walk_at place h idle true) w (gs ++ (n, v) ∷ given)) (sym text.words_are)
      (before (walk_at place h idle true) (walk_at (next_place place) (filled_in c n x h) idle true) x text.behind (gs ++ (n, v) ∷ given)
      (turn_behind place n here.placed.0 h idle x ∙ held.settles) (to_behind place n here.placed.0 h x)
      (subst (λ l. Passes (walk_at (next_place place) (filled_in c n x h) idle true) text.behind l) all rest))

  -- arguments that give this
  pub gives_pass : (place : ℕ) (ids : List Text) (h : Held) (gs given : List (Text × Value)) (words : List Text) → IsNext place ids gs → IsHeld c h gs
      → IsDistinct bytes_eq (keys_of (gs ++ given)) → lacks (gs ++ given) ≡ false → Give ps ids words given
      → Passes (walk_at place h idle false) words (gs ++ given)
  gives_pass place ids h gs [] words next held apart enough (none, are) =
      let all : gs ++ [] ≡ gs = append-nil gs in
      subst (λ l. Passes (walk_at place h idle false) words l) (sym all) (end_passes place h gs words held (ap lacks (sym all) ∙ enough) are)
  gives_pass place ids h gs ((n, v) ∷ given) words next held apart enough (inl (named, (behind, first, gives))) =
      let all : (gs ++ (n, v) ∷ []) ++ given ≡ gs ++ (n, v) ∷ given = append_assoc gs ((n, v) ∷ []) given in
      option_passes place h gs (gs ++ (n, v) ∷ given) n v words behind held named (apart_from gs (n, v) given apart) first (λ more now.
      subst (λ l. Passes (walk_at place more idle false) behind l) all
      (gives_pass place ids more (gs ++ (n, v) ∷ []) given behind (next_named place ids gs n v named next) now
      (subst (λ l. IsDistinct bytes_eq (keys_of l)) (sym all) apart) (ap lacks all ∙ enough) gives))
  gives_pass place ids h gs ((n, v) ∷ given) words next held apart enough (inr (inl (text, is_plain, gives))) =
      let here : IsNext place (n ∷ text.later) gs = subst (λ l. IsNext place l gs) text.first next in
      let x = text.text in
      let all : (gs ++ (n, v) ∷ []) ++ given ≡ gs ++ (n, v) ∷ given = append_assoc gs ((n, v) ∷ []) given in
      let fresh = apart_from gs (n, v) given apart in
      let now : IsHeld c (filled_in c n x h) (gs ++ (n, v) ∷ []) =
      subst (λ o. IsHeld c (filled_in c n x h) (gs ++ (n, o) ∷ [])) (sym text.value_is)
      (text_is_held c here.texts.0.has.place n x h gs here.texts.0.has.by_id held fresh) in
      let rest = gives_pass (next_place place) text.later (filled_in c n x h) (gs ++ (n, v) ∷ []) given text.behind (next_text place n text.later gs v here) now
      (subst (λ l. IsDistinct bytes_eq (keys_of l)) (sym all) apart) (ap lacks all ∙ enough) gives in
      subst (λ w. Passes (walk_at place h idle false) w (gs ++ (n, v) ∷ given)) (sym text.words_are)
      (before (walk_at place h idle false) (walk_at (next_place place) (filled_in c n x h) idle false) x text.behind (gs ++ (n, v) ∷ given)
      (turn_text place n here.placed.0 h x is_plain ∙ held.settles) (to_text place n here.placed.0 h x is_plain)
      (subst (λ l. Passes (walk_at (next_place place) (filled_in c n x h) idle false) text.behind l) all rest))
  gives_pass place ids h gs ((n, v) ∷ given) words next held apart enough (inr (inr (behind, is, gives))) =
      subst (λ w. Passes (walk_at place h idle false) w (gs ++ (n, v) ∷ given)) (sym is)
      (before (walk_at place h idle false) (walk_at place h idle true) (codes "--") behind (gs ++ (n, v) ∷ given) refl (to_dashes place h idle)
      (texts_pass place ids h gs ((n, v) ∷ given) behind next held apart enough gives))

  -- ---- that arguments which pass are a line

  -- texts, behind `--`
  pub record AreTexts (ids : List Text) (gs : List (Text × Value)) (words : List Text) : Type 0 where
    pub given : List (Text × Value)
    pub gives : GiveTexts ids words given
    pub apart : IsDistinct bytes_eq (keys_of (gs ++ given))
    pub enough : lacks (gs ++ given) ≡ false

  -- or options, flags and texts
  pub record AreGiven (ids : List Text) (gs : List (Text × Value)) (words : List Text) : Type 0 where
    pub given : List (Text × Value)
    pub gives : Give ps ids words given
    pub apart : IsDistinct bytes_eq (keys_of (gs ++ given))
    pub enough : lacks (gs ++ given) ≡ false

  -- at the end nothing is lacking
  at_end_all : (place : ℕ) (t : Bool) (h : Held) (gs : List (Text × Value)) → IsHeld c h gs → level shape (walk_at place h idle t) [] ≡ [] → lacks gs ≡ false
  at_end_all place t h gs held none = go (lacks gs) refl
    where
      go : (b : Bool) → lacks gs ≡ b → lacks gs ≡ false
      go false e = e
      go true e =
          let missing : level shape (walk_at place h idle t) [] ≡ MissingRequiredArgument ∷ [] = at_end place h t gs held ∙ rw e refl in
          let bad : MissingRequiredArgument ∷ [] ≡ [] = sym missing ∙ none in
          cc

  none_left : (place : ℕ) (ids : List Text) (gs : List (Text × Value)) → IsNext place ids gs → lacks gs ≡ false → ids ≡ []
  none_left place [] gs next enough = refl
  none_left place (id ∷ ids) gs next enough =
      let bad : true ≡ false = sym (lacks_one id (required_names ps) gs next.texts.0.needed next.fresh.0) ∙ enough in
      cc

  reads_texts : (rest : List Text) (place : ℕ) (ids : List Text) (h : Held) (gs : List (Text × Value)) → IsNext place ids gs → IsHeld c h gs
      → IsDistinct bytes_eq (keys_of gs) → level shape (walk_at place h idle true) rest ≡ [] → AreTexts ids gs rest
  reads_texts [] place ids h gs next held apart none =
      let enough = at_end_all place true h gs held none in
      let all : gs ++ [] ≡ gs = append-nil gs in
      record {
        given = [];
        gives = (none_left place ids gs next enough, refl);
        apart = subst (λ l. IsDistinct bytes_eq (keys_of l)) (sym all) apart;
        enough = ap lacks all ∙ enough;
      }
  reads_texts (x ∷ rest) place [] h gs next held apart none =
      let bad : UnknownArgument ∷ [] ≡ [] = sym (stray_behind place next.placed h idle x) ∙ (step_down shape (walk_at place h idle true) x rest none).0 in
      cc
  reads_texts (x ∷ rest) place (id ∷ ids) h gs next held apart none =
      let down = step_down shape (walk_at place h idle true) x rest none in
      let now = text_is_held c next.texts.0.has.place id x h gs next.texts.0.has.by_id held next.fresh.0 in
      let on = reads_texts rest (next_place place) ids (filled_in c id x h) (gs ++ (id, Some x) ∷ []) (next_text place id ids gs (Some x) next) now
      (apart_more gs (id, Some x) apart next.fresh.0) (ap (λ w. level shape w rest) (sym (to_behind place id next.placed.0 h x)) ∙ down.1) in
      let all : (gs ++ (id, Some x) ∷ []) ++ on.given ≡ gs ++ (id, Some x) ∷ on.given = append_assoc gs ((id, Some x) ∷ []) on.given in
      record {
        given = (id, Some x) ∷ on.given;
        gives = (record { text = x; later = ids; behind = rest; first = refl; words_are = refl; value_is = refl }, on.gives);
        apart = subst (λ l. IsDistinct bytes_eq (keys_of l)) all on.apart;
        enough = ap lacks (sym all) ∙ on.enough;
      }

  -- with one more before
  with_option : (ids : List Text) (gs : List (Text × Value)) (n : Text) (v : Value) (words rest : List Text) → IsNamed ps n v → BeginWith n v words rest
      → AreGiven ids (gs ++ (n, v) ∷ []) rest → AreGiven ids gs words
  with_option ids gs n v words rest named begin on =
      let all : (gs ++ (n, v) ∷ []) ++ on.given ≡ gs ++ (n, v) ∷ on.given = append_assoc gs ((n, v) ∷ []) on.given in
      record {
        given = (n, v) ∷ on.given;
        gives = inl (named, (rest, begin, on.gives));
        apart = subst (λ l. IsDistinct bytes_eq (keys_of l)) all on.apart;
        enough = ap lacks (sym all) ∙ on.enough;
      }

  with_text : (ids : List Text) (gs : List (Text × Value)) (id x : Text) (rest : List Text) → is_flag x ≡ false
      → AreGiven ids (gs ++ (id, Some x) ∷ []) rest → AreGiven (id ∷ ids) gs (x ∷ rest)
  with_text ids gs id x rest is_plain on =
      let all : (gs ++ (id, Some x) ∷ []) ++ on.given ≡ gs ++ (id, Some x) ∷ on.given = append_assoc gs ((id, Some x) ∷ []) on.given in
      record {
        given = (id, Some x) ∷ on.given;
        gives = inr (inl (record { text = x; later = ids; behind = rest; first = refl; words_are = refl; value_is = refl }, is_plain, on.gives));
        apart = subst (λ l. IsDistinct bytes_eq (keys_of l)) all on.apart;
        enough = ap lacks (sym all) ∙ on.enough;
      }

  with_dashes : (ids : List Text) (gs : List (Text × Value)) (rest : List Text) → AreTexts ids gs rest → AreGiven ids gs (codes "--" ∷ rest)
  with_dashes ids gs rest on = record { given = on.given; gives = go on.given on.gives; apart = on.apart; enough = on.enough }
    where
      go : (given : List (Text × Value)) → GiveTexts ids rest given → Give ps ids (codes "--" ∷ rest) given
      go [] (none, is) = (none, inr (ap (λ l. codes "--" ∷ l) is))
      go ((n, v) ∷ given) gives = inr (inr (rest, refl, gives))

  -- what the arguments after the first are, from the walk at that point
  abbrev ReadsOn : List Text → Type 0
  ReadsOn rest = (place : ℕ) (ids : List Text) (h : Held) (gs : List (Text × Value)) → IsNext place ids gs → IsHeld c h gs → IsDistinct bytes_eq (keys_of gs)
      → level shape (walk_at place h idle false) rest ≡ [] → AreGiven ids gs rest

  -- the first argument, from what the arguments after it are
  module _ (place : ℕ) (ids : List Text) (h : Held) (gs : List (Text × Value)) (next : IsNext place ids gs) (held : IsHeld c h gs) (apart : IsDistinct bytes_eq (keys_of gs)) where
    abbrev fails : StuckFails place
    fails = fails_stuck place ids next.placed

    by_word : (x : Text) (rest : List Text) → All IsUtf8 (x ∷ rest)
        → level shape (walk_at place h idle false) (x ∷ rest) ≡ [] → ReadsOn rest
        → ((n v : Text) (more : List Text) → rest ≡ v ∷ more → ReadsOn more) → AreGiven ids gs (x ∷ rest)
    by_word x rest utf8 none on after =
        go (met_of (value_names ps) (flag_names ps) (required_names ps) c ours x h held.skip (All-head IsUtf8 x rest utf8) (neither _ _ down.0).0)
      where
        behind : All IsUtf8 rest
        behind = All-tail IsUtf8 x rest utf8

        down : (turn_fault shape [] (walk_at place h idle false) x ≡ []) × (level shape (walked c [] (walk_at place h idle false) x) rest ≡ [])
        down = step_down shape (walk_at place h idle false) x rest none

        at_joined : (n v : Text) (needed : Bool) → IsOneOf n (value_names ps) → x ≡ joined n v → option_fault c false (built_of needed n) (Some v) h ≡ []
            → (t : Bool) → has_row n (rows_of gs) ≡ t → AreGiven ids gs (x ∷ rest)
        at_joined n v needed one is fault true e = absurd (again_joined place fails h gs needed n v held e fault)
        at_joined n v needed one is fault false e =
            let o = ours.option n one in
            let there = subst (λ z. level shape (walked c [] (walk_at place h idle false) z) rest ≡ []) is down.1 in
            with_option ids gs n (Some v) (x ∷ rest) rest one (inl (ap (λ z. z ∷ rest) is))
            (on place ids (put c o.needed n v h) (gs ++ (n, Some v) ∷ []) (next_named place ids gs n (Some v) one next) (put_is_held c o.needed n v h gs held e)
            (apart_more gs (n, Some v) apart e) (ap (λ w. level shape w rest) (sym (to_joined place h n v o)) ∙ there))

        at_raised : (n : Text) → IsOneOf n (flag_names ps) → x ≡ alone n → react_fault c false (flag_of n) [] h ≡ []
            → (t : Bool) → has_row n (rows_of gs) ≡ t → AreGiven ids gs (x ∷ rest)
        at_raised n one is fault true e = absurd (again_raised place fails h gs n held e fault)
        at_raised n one is fault false e =
            let there = subst (λ z. level shape (walked c [] (walk_at place h idle false) z) rest ≡ []) is down.1 in
            with_option ids gs n None (x ∷ rest) rest one (ap (λ z. z ∷ rest) is)
            (on place ids (raised c n h) (gs ++ (n, None) ∷ []) (next_named place ids gs n None one next) (raised_is_held c n h gs held e) (apart_more gs (n, None) apart e)
            (ap (λ w. level shape w rest) (sym (to_raised place h n (ours.flag n one))) ∙ there))

        at_value : (n : Text) → IsOneOf n (value_names ps) → x ≡ alone n → (v : Text) (more : List Text) → rest ≡ v ∷ more → is_flag v ≡ false
            → level shape (walk_at place (filled_in c n v h) idle false) more ≡ [] → (t : Bool) → has_row n (rows_of gs) ≡ t → AreGiven ids gs (x ∷ rest)
        at_value n one is v more splits is_plain passes true e =
            absurd (stuck_fails place fails (filled_in c n v h) (again_stuck place fails h gs n v (ours.option n one) held e) more
            (All-tail IsUtf8 v more (subst (All IsUtf8) splits behind)) passes)
        at_value n one is v more splits is_plain passes false e =
            with_option ids gs n (Some v) (x ∷ rest) more one (inr (ap₂ (λ y z. y ∷ z) is splits, is_plain))
            (after n v more splits place ids (filled_in c n v h) (gs ++ (n, Some v) ∷ []) (next_named place ids gs n (Some v) one next)
            (filled_in_is_held c n v h gs (ours.option n one) held e) (apart_more gs (n, Some v) apart e) passes)

        at_alone : (n : Text) → IsOneOf n (value_names ps) → x ≡ alone n → AreGiven ids gs (x ∷ rest)
        at_alone n one is =
            let o = ours.option n one in
            let there = subst (λ z. level shape (walked c [] (walk_at place h idle false) z) rest ≡ []) is down.1 in
            value_then place fails h gs n rest o held behind (ap (λ w. level shape w rest) (sym (to_alone place h n o)) ∙ there)
            (λ v more splits is_plain passes. at_value n one is v more splits is_plain passes (has_row n (rows_of gs)) refl)

        at_plain : (ms : List Text) → IsNext place ms gs → is_flag x ≡ false → AreGiven ms gs (x ∷ rest)
        at_plain [] here is =
            let bad : UnknownArgument ∷ [] ≡ [] = sym (stray place here.placed h x is) ∙ down.0 in
            cc
        at_plain (id ∷ ms) here is =
            let now = text_is_held c here.texts.0.has.place id x h gs here.texts.0.has.by_id held here.fresh.0 in
            with_text ms gs id x rest is
            (on (next_place place) ms (filled_in c id x h) (gs ++ (id, Some x) ∷ []) (next_text place id ms gs (Some x) here) now
            (apart_more gs (id, Some x) apart here.fresh.0) (ap (λ w. level shape w rest) (sym (to_text place id here.placed.0 h x is)) ∙ down.1))

        go : IsMet (value_names ps) (flag_names ps) (required_names ps) c ours h x → AreGiven ids gs (x ∷ rest)
        go (dashes is) =
            let there = subst (λ z. level shape (walked c [] (walk_at place h idle false) z) rest ≡ []) is down.1 in
            subst (λ z. AreGiven ids gs (z ∷ rest)) (sym is)
            (with_dashes ids gs rest (reads_texts rest place ids h gs next held apart (ap (λ w. level shape w rest) (sym (to_dashes place h idle)) ∙ there)))
        go (plain is) = at_plain ids next is
        go (is_alone n needed one is fault) = at_alone n one is
        go (is_raised n one is fault) = at_raised n one is fault (has_row n (rows_of gs)) refl
        go (is_joined n v needed one is fault) = at_joined n v needed one is fault (has_row n (rows_of gs)) refl

  pub reads : (rest : List Text) → All IsUtf8 rest → ReadsOn rest
  reads [] utf8 place ids h gs next held apart none =
      let enough = at_end_all place false h gs held none in
      let all : gs ++ [] ≡ gs = append-nil gs in
      record {
        given = [];
        gives = (none_left place ids gs next enough, inl refl);
        apart = subst (λ l. IsDistinct bytes_eq (keys_of l)) (sym all) apart;
        enough = ap lacks all ∙ enough;
      }
  reads (x ∷ []) utf8 place ids h gs next held apart none =
      by_word place ids h gs next held apart x [] utf8 none (reads [] (All-tail IsUtf8 x [] utf8)) (λ n v more splits. let bad : [] ≡ v ∷ more = splits in cc)
  reads (x ∷ v ∷ more) utf8 place ids h gs next held apart none =
      let behind = All-tail IsUtf8 x (v ∷ more) utf8 in
      by_word place ids h gs next held apart x (v ∷ more) utf8 none (reads (v ∷ more) behind) (λ n w rest splits.
      let same_rest : more ≡ rest = cc in
      subst ReadsOn same_rest (reads more (All-tail IsUtf8 v more behind)))

  -- ---- the start

  each : {P : Text → Type 0} (ids : List Text) → ((id : Text) → IsOneOf id ids → P id) → AllByRecursion P ids
  each [] h = tt
  each (id ∷ ids) h = (h id (inl refl), each ids (λ m one. h m (inr one)))

  all_fresh : (ids : List Text) → AllByRecursion (λ id. has_row id (rows_of []) ≡ false) ids
  all_fresh [] = tt
  all_fresh (id ∷ ids) = (refl, all_fresh ids)

  at_start : IsNext 1 (text_names ps) []
  at_start = record { placed = the.placed; texts = each (text_names ps) the.texts; apart = the.apart; fresh = all_fresh (text_names ps) }

  -- arguments that pass give what is required, each name once
  pub passing_gives : (rest : List Text) → All IsUtf8 rest → level shape start rest ≡ [] → AreGiven (text_names ps) [] rest
  unfolding IsDistinct
  passing_gives rest utf8 none = reads rest utf8 1 (text_names ps) nothing_held [] at_start (nothing_is_held c) tt none

  -- and those that do so pass, and it is found
  pub giving_passes : (rest : List Text) (given : List (Text × Value)) → IsDistinct bytes_eq (keys_of given) → AllByRecursion (λ n. IsOneOf n (keys_of given)) (required_names ps)
      → Give ps (text_names ps) rest given → Passes start rest given
  giving_passes rest given apart among gives =
      gives_pass 1 (text_names ps) nothing_held [] given rest at_start (nothing_is_held c) apart (none_lacks (required_names ps) given among) gives
