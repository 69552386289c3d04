-- What the walk of clap holds once it has read these options, each once.
use Rattle.std.proofs.Common.{◌≡◌, ◌⊎◌, ◌∙◌, ℕ, sym, ap, refl, inl, inr, true, false, Bool, List, [], ◌∷◌, ◌++◌, codes, map, Option, Some, None}
use Rattle.std.specs.Prelude.{find, if◌then◌else◌, unwrap_or}
use Rattle.std.specs.List.{AllByRecursion}
use Rattle.std.specs.Str.{bytes_eq}
use Rattle.std.proofs.lemmas.List.{append-nil, map-append}
use Rattle.clap.specs.Words.{Row, Rule, Text}
use Rattle.clap.specs.Walk.{Held, arg_by_id, at_row, has_row, is_empty, more_values, nothing_held, reacted, reading_by, settled, used, with_default, without}
use Rattle.clap.specs.Faults.{default_fault, defaults_fault, given_default_fault, settle_fault, use_fault}
use Rattle.clap.specs.declared.builder.value_parser.Reading.{Reading}
use Rattle.clap.specs.declared.error.kind.ErrorKind.TheVariants.{ArgumentConflict, InvalidValue}
use Rattle.clap.specs.declared.parser.matches.ValueSource.TheVariants.{CommandLine, DefaultValue}
use Rattle.clap.proofs.OnLiterals.{clap_on_literals}
use Rattle.kd_commands.proofs.Options.{IsOption, built_of, flag_of, text_built}

-- what comes after a name: a value, or none after that of a flag
abbrev pub Value : Type 0
Value = Option Text

-- how the value of this name is read
abbrev pub reading_as : Text → Value → Reading
reading_as n (Some v) = reading_by (built_of false n)
reading_as n None = reading_by (flag_of n)

-- the text that is held for it: that of a flag is `true`
abbrev pub text_of : Value → Text
text_of v = unwrap_or v (codes "true")

-- the row of an option
abbrev pub row_of : Text × Value → Row
row_of option = record {
  id = option.0;
  values = text_of option.1 ∷ [];
  count = None;
  source = Some CommandLine;
  reading = reading_as option.0 option.1;
}

abbrev pub rows_of : List (Text × Value) → List Row
rows_of = map row_of

-- ---- one use

-- if no row has the name, one more is put after them
pub at_row_missing : (n : Text) (change : Row → List Row) (missing rows : List Row) → has_row n rows ≡ false → at_row n change missing rows ≡ rows ++ missing
at_row_missing n change missing [] h = refl
at_row_missing n change missing (r ∷ rows) h = go (bytes_eq r.id n) refl (at_row_missing n change missing rows)
  where
    go : (t : Bool) → bytes_eq r.id n ≡ t → (has_row n rows ≡ false → at_row n change missing rows ≡ rows ++ missing)
        → at_row n change missing (r ∷ rows) ≡ r ∷ rows ++ missing
    go true e more = let bad : true ≡ false = rw e at h in cc
    go false e more =
        let rest : has_row n rows ≡ false = rw e at h in
        rw e (ap (λ l. r ∷ l) (more rest))

pub used_once : (needed : Bool) (n v : Text) (gs : List (Text × Value)) → has_row n (rows_of gs) ≡ false
    → used (built_of needed n) (v ∷ []) (rows_of gs) ≡ rows_of (gs ++ (n, Some v) ∷ [])
unfolding clap_on_literals
used_once needed n v gs h =
    let gone : without n (rows_of gs) ≡ rows_of gs = at_row_missing n (λ _. []) [] (rows_of gs) h ∙ append-nil (rows_of gs) in
    let one : rows_of gs ++ row_of (n, Some v) ∷ [] ≡ rows_of (gs ++ (n, Some v) ∷ []) = sym (map-append row_of gs ((n, Some v) ∷ [])) in
    rw gone (at_row_missing n (more_values CommandLine (v ∷ [])) (row_of (n, Some v) ∷ []) (rows_of gs) h ∙ one)

pub flag_used : (n : Text) (gs : List (Text × Value)) → has_row n (rows_of gs) ≡ false
    → used (flag_of n) [] (rows_of gs) ≡ rows_of (gs ++ (n, None) ∷ [])
unfolding clap_on_literals
flag_used n gs h =
    let gone : without n (rows_of gs) ≡ rows_of gs = at_row_missing n (λ _. []) [] (rows_of gs) h ∙ append-nil (rows_of gs) in
    let one : rows_of gs ++ row_of (n, None) ∷ [] ≡ rows_of (gs ++ (n, None) ∷ []) = sym (map-append row_of gs ((n, None) ∷ [])) in
    rw gone (at_row_missing n (more_values CommandLine (codes "true" ∷ [])) (row_of (n, None) ∷ []) (rows_of gs) h ∙ one)

pub once_passes : (needed : Bool) (n v : Text) (rows : List Row) → has_row n rows ≡ false → use_fault false (built_of needed n) (v ∷ []) rows ≡ []
unfolding clap_on_literals
once_passes needed n v rows h = rw h refl

pub twice_fails : (needed : Bool) (n v : Text) (rows : List Row) → has_row n rows ≡ true
    → use_fault false (built_of needed n) (v ∷ []) rows ≡ ArgumentConflict ∷ []
unfolding clap_on_literals
twice_fails needed n v rows h = rw h refl

pub flag_passes : (n : Text) (rows : List Row) → has_row n rows ≡ false → use_fault false (flag_of n) [] rows ≡ []
unfolding clap_on_literals
flag_passes n rows h = rw h refl

pub flag_fails : (n : Text) (rows : List Row) → has_row n rows ≡ true → use_fault false (flag_of n) [] rows ≡ ArgumentConflict ∷ []
unfolding clap_on_literals
flag_fails n rows h = rw h refl

pub empty_fails : (needed : Bool) (n : Text) (rows : List Row) → use_fault false (built_of needed n) [] rows ≡ InvalidValue ∷ []
unfolding clap_on_literals
empty_fails needed n rows = refl

-- ---- what is held

-- these options are held, each once, the last perhaps pending
pub record IsHeld (c : List Rule) (h : Held) (gs : List (Text × Value)) : Type 0 where
  pub rows : (settled c h).rows ≡ rows_of gs
  pub settles : settle_fault c false h ≡ []
  pub skip : h.skip ≡ 0

-- with an option and its value in one argument
abbrev pub put : List Rule → Bool → Text → Text → Held → Held
put c needed n v h = reacted c (built_of needed n) (v ∷ []) h

-- with an option's name, and its value to come
abbrev pub opened : List Rule → Text → Held → Held
opened c n h = record (settled c h) { pending = Some (n, []) }

-- with a flag
abbrev pub raised : List Rule → Text → Held → Held
raised c n h = reacted c (flag_of n) [] h

-- with its value after it
abbrev pub filled_in : List Rule → Text → Text → Held → Held
filled_in c n v h = record (settled c h) { pending = Some (n, v ∷ []) }

pub nothing_is_held : (c : List Rule) → IsHeld c nothing_held []
nothing_is_held c = record { rows = refl; settles = refl; skip = refl }

pub put_is_held : (c : List Rule) (needed : Bool) (n v : Text) (h : Held) (gs : List (Text × Value)) → IsHeld c h gs
    → has_row n (rows_of gs) ≡ false → IsHeld c (put c needed n v h) (gs ++ (n, Some v) ∷ [])
put_is_held c needed n v h gs held fresh = record {
  rows = ap (λ l. used (built_of needed n) (v ∷ []) l) held.rows ∙ used_once needed n v gs fresh;
  settles = refl;
  skip = held.skip;
}

pub raised_is_held : (c : List Rule) (n : Text) (h : Held) (gs : List (Text × Value)) → IsHeld c h gs
    → has_row n (rows_of gs) ≡ false → IsHeld c (raised c n h) (gs ++ (n, None) ∷ [])
raised_is_held c n h gs held fresh = record {
  rows = ap (λ l. used (flag_of n) [] l) held.rows ∙ flag_used n gs fresh;
  settles = refl;
  skip = held.skip;
}

pub filled_in_is_held : (c : List Rule) (n v : Text) (h : Held) (gs : List (Text × Value)) → IsOption c n → IsHeld c h gs
    → has_row n (rows_of gs) ≡ false → IsHeld c (filled_in c n v h) (gs ++ (n, Some v) ∷ [])
filled_in_is_held c n v h gs option held fresh =
    let none : has_row n (settled c h).rows ≡ false = ap (λ l. has_row n l) held.rows ∙ fresh in
    let settles : use_fault false (built_of option.needed n) (v ∷ []) (settled c h).rows ≡ [] = once_passes option.needed n v (settled c h).rows none in
    record {
      rows = rw option.by_id (ap (λ l. used (built_of option.needed n) (v ∷ []) l) held.rows ∙ used_once option.needed n v gs fresh);
      settles = rw option.by_id settles;
      skip = held.skip;
    }

-- and with a text, which is required
text_used : (place : ℕ) (id v : Text) (rows : List Row) → used (text_built place id) (v ∷ []) rows ≡ used (built_of true id) (v ∷ []) rows
unfolding clap_on_literals
text_used place id v rows = refl

text_passes : (place : ℕ) (id v : Text) (rows : List Row) → has_row id rows ≡ false → use_fault false (text_built place id) (v ∷ []) rows ≡ []
unfolding clap_on_literals
text_passes place id v rows h = rw h refl

pub text_is_held : (c : List Rule) (place : ℕ) (id v : Text) (h : Held) (gs : List (Text × Value)) → arg_by_id c id ≡ Some (text_built place id) → IsHeld c h gs
    → has_row id (rows_of gs) ≡ false → IsHeld c (filled_in c id v h) (gs ++ (id, Some v) ∷ [])
text_is_held c place id v h gs by_id held fresh =
    let none : has_row id (settled c h).rows ≡ false = ap (λ l. has_row id l) held.rows ∙ fresh in
    let settles : use_fault false (text_built place id) (v ∷ []) (settled c h).rows ≡ [] = text_passes place id v (settled c h).rows none in
    record {
      rows = rw by_id (ap (λ l. used (text_built place id) (v ∷ []) l) held.rows ∙ text_used place id v (rows_of gs) ∙ used_once true id v gs fresh);
      settles = rw by_id settles;
      skip = held.skip;
    }

-- a name has no row if it had none and the last option has another name
pub no_row_more : (id n : Text) (v : Value) (gs : List (Text × Value)) → has_row id (rows_of gs) ≡ false → bytes_eq n id ≡ false
    → has_row id (rows_of (gs ++ (n, v) ∷ [])) ≡ false
no_row_more id n v [] fresh other = rw other refl
no_row_more id n v (g ∷ gs) fresh other = go (bytes_eq g.0 id) refl (no_row_more id n v gs)
  where
    go : (t : Bool) → bytes_eq g.0 id ≡ t → (has_row id (rows_of gs) ≡ false → bytes_eq n id ≡ false → has_row id (rows_of (gs ++ (n, v) ∷ [])) ≡ false)
        → has_row id (rows_of (g ∷ gs ++ (n, v) ∷ [])) ≡ false
    go true e more = let bad : true ≡ false = rw e at fresh in cc
    go false e more =
        let rest : has_row id (rows_of gs) ≡ false = rw e at fresh in
        rw e (more rest other)

-- ---- the end

same_both : {A : Type 0} (t : Bool) (x : A) → (if t then x else x) ≡ x
same_both true x = refl
same_both false x = refl

pub with_no_default : (rows : List Row) (a : Rule) → a.defaults ≡ [] → with_default rows a ≡ rows
with_no_default rows a e = rw e (same_both (has_row a.id rows) rows)

-- a rule has no default, or one that passes
abbrev pub DefaultPasses : Rule → Type 0
DefaultPasses a = (a.defaults ≡ []) ⊎ (given_default_fault a a.defaults ≡ [])

default_passes : (rows : List Row) (a : Rule) → DefaultPasses a → default_fault rows a ≡ []
default_passes rows a h = go (has_row a.id rows) refl h
  where
    go : (t : Bool) → has_row a.id rows ≡ t → DefaultPasses a → default_fault rows a ≡ []
    go true e more = rw e refl
    go false e (inl none) = rw (e, none) refl
    go false e (inr passes) = rw (e, passes) (same_both (is_empty a.defaults) [])

pub defaults_pass : (c : List Rule) (rows : List Row) → AllByRecursion DefaultPasses c → defaults_fault rows c ≡ []
unfolding defaults_fault
defaults_pass [] rows none = refl
defaults_pass (a ∷ c) rows (e, none) = rw (default_passes rows a e) (defaults_pass c (with_default rows a) none)

-- ---- what is found after a flag's default

find_behind : (n : Text) (rows : List Row) (r : Row) → bytes_eq r.id n ≡ false
    → find (λ x. bytes_eq x.id n) (rows ++ r ∷ []) ≡ find (λ x. bytes_eq x.id n) rows
find_behind n [] r other = rw other refl
find_behind n (x ∷ rows) r other = go (bytes_eq x.id n) refl (find_behind n rows r other)
  where
    go : (t : Bool) → bytes_eq x.id n ≡ t → find (λ x. bytes_eq x.id n) (rows ++ r ∷ []) ≡ find (λ x. bytes_eq x.id n) rows
        → find (λ x. bytes_eq x.id n) (x ∷ rows ++ r ∷ []) ≡ find (λ x. bytes_eq x.id n) (x ∷ rows)
    go true e more = rw e refl
    go false e more = rw e more

pub find_last : (n : Text) (rows : List Row) (r : Row) → has_row n rows ≡ false → bytes_eq r.id n ≡ true
    → find (λ x. bytes_eq x.id n) (rows ++ r ∷ []) ≡ Some r
find_last n [] r none own = rw own refl
find_last n (x ∷ rows) r none own = go (bytes_eq x.id n) refl (find_last n rows r)
  where
    go : (t : Bool) → bytes_eq x.id n ≡ t → (has_row n rows ≡ false → bytes_eq r.id n ≡ true → find (λ x. bytes_eq x.id n) (rows ++ r ∷ []) ≡ Some r)
        → find (λ x. bytes_eq x.id n) (x ∷ rows ++ r ∷ []) ≡ Some r
    go true e more = let bad : true ≡ false = rw e at none in cc
    go false e more =
        let rest : has_row n rows ≡ false = rw e at none in
        rw e (more rest own)

-- the row of a flag that is not given
abbrev pub default_row : Text → Row
default_row n = record {
  id = n;
  values = codes "false" ∷ [];
  count = None;
  source = Some DefaultValue;
  reading = reading_by (flag_of n);
}

pub default_put : (n : Text) (rows : List Row) → has_row n rows ≡ false → with_default rows (flag_of n) ≡ rows ++ default_row n ∷ []
default_put n rows none = rw none (at_row_missing n (more_values DefaultValue (codes "false" ∷ [])) (default_row n ∷ []) rows none)

pub default_kept : (n : Text) (rows : List Row) → has_row n rows ≡ true → with_default rows (flag_of n) ≡ rows
default_kept n rows there = rw there refl

-- the default of one flag changes no other name
pub default_apart : (f n : Text) (rows : List Row) → bytes_eq f n ≡ false
    → find (λ x. bytes_eq x.id n) (with_default rows (flag_of f)) ≡ find (λ x. bytes_eq x.id n) rows
default_apart f n rows other = go (has_row f rows) refl
  where
    go : (t : Bool) → has_row f rows ≡ t → find (λ x. bytes_eq x.id n) (with_default rows (flag_of f)) ≡ find (λ x. bytes_eq x.id n) rows
    go true e = ap (find (λ x. bytes_eq x.id n)) (default_kept f rows e)
    go false e = ap (find (λ x. bytes_eq x.id n)) (default_put f rows e) ∙ find_behind n rows (default_row f) other
