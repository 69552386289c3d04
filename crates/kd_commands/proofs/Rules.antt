-- The rules of a subcommand of the table, as clap builds them: what they hold for each name.
use Rattle.std.proofs.Common.{◌≡◌, ◌⊎◌, ◌∙◌, sym, ap, ap₂, refl, subst, inl, inr, ℕ, ◌+◌, ◌<◌, ◌≤◌, suc, arith, true, false, Bool, List, [], ◌∷◌, ◌++◌, codes, length, map, fold, Option, Some, None}
use Rattle.std.specs.Prelude.{◌&&◌, ◌||◌, ◌==◌, if◌then◌else◌, min, nat_lt, not, option_and_then, slice_get, unwrap_or}
use Rattle.std.specs.Option.{option_map_or}
use Rattle.std.specs.List.{AllByRecursion, IsDistinct, after_first, before_first, list_all, list_any, position_or_len}
use Rattle.std.specs.Str.{bytes_eq}
use Rattle.std.proofs.Math.Nat.{min-eq_left}
use Rattle.std.proofs.lemmas.Bool.Decides.{nat_tests}
use Rattle.std.proofs.lemmas.Grind.{common_steps}
use Rattle.std.proofs.lemmas.Slice.Eq.{bytes_eq-Decides}
use Rattle.clap.specs.Facts.{explicit_source}
use Rattle.clap.specs.Lexer.{has_byte, long_of, name_and_value, usize_max}
use Rattle.clap.specs.Words.{Row, Rule, Text, first_of}
use Rattle.clap.specs.Walk.{arg_by_id, arg_by_index, arg_by_long, arg_by_short, has_long, has_short, with_default}
use Rattle.clap.specs.Simple.{filled_from, help_rule}
use Rattle.clap.specs.Takes.{is_given}
use Rattle.kd_commands.specs.Line.{IsNamed, IsOneOf, flag_names, required_names, text_in, text_names, value_names}
use Rattle.kd_commands.specs.Order.{Parameter, needs_text, needs_value, parameter_rule, takes_flag, takes_value}
use Rattle.kd_commands.proofs.Apart.{flips, one_has}
use Rattle.kd_commands.proofs.Defaults.{own_found, row_at}
use Rattle.kd_commands.proofs.Flags.{ShortsFail, help_built, whole_before}
use Rattle.kd_commands.proofs.Held.{DefaultPasses, Value, default_apart, default_row, defaults_pass, rows_of, with_no_default}
use Rattle.kd_commands.proofs.Options.{AreRules, Known, alone, built_of, flag_of, is_joined_word, joined, text_built}

-- ---- the rules

abbrev pub next_place : ℕ → ℕ
next_place place = min (place + 1) usize_max

abbrev pub rules_from : ℕ → List Parameter → List Rule
rules_from place [] = help_built ∷ []
rules_from place (needs_text name ∷ parameters) = text_built place name ∷ rules_from (next_place place) parameters
rules_from place (takes_flag name ∷ parameters) = flag_of name ∷ rules_from place parameters
rules_from place (takes_value name ∷ parameters) = built_of false name ∷ rules_from place parameters
rules_from place (needs_value name ∷ parameters) = built_of true name ∷ rules_from place parameters

-- they are what clap builds
pub are_built : (place : ℕ) (ps : List Parameter) → filled_from place (map parameter_rule ps ++ help_rule ∷ []) ≡ rules_from place ps
are_built place [] = refl
are_built place (needs_text n ∷ ps) = ap (λ l. text_built place n ∷ l) (are_built (next_place place) ps)
are_built place (takes_flag n ∷ ps) = ap (λ l. flag_of n ∷ l) (are_built place ps)
are_built place (takes_value n ∷ ps) = ap (λ l. built_of false n ∷ l) (are_built place ps)
are_built place (needs_value n ∷ ps) = ap (λ l. built_of true n ∷ l) (are_built place ps)

-- ---- names

abbrev pub name_of : Parameter → Text
name_of (needs_text n) = n
name_of (takes_flag n) = n
name_of (takes_value n) = n
name_of (needs_value n) = n

abbrev pub names_of : List Parameter → List Text
names_of = map name_of

pub value_is_name : (ps : List Parameter) (n : Text) → IsOneOf n (value_names ps) → IsOneOf n (names_of ps)
value_is_name [] n one = one
value_is_name (needs_text m ∷ ps) n one = inr (value_is_name ps n one)
value_is_name (takes_flag m ∷ ps) n one = inr (value_is_name ps n one)
value_is_name (takes_value m ∷ ps) n (inl is) = inl is
value_is_name (takes_value m ∷ ps) n (inr one) = inr (value_is_name ps n one)
value_is_name (needs_value m ∷ ps) n (inl is) = inl is
value_is_name (needs_value m ∷ ps) n (inr one) = inr (value_is_name ps n one)

pub flag_is_name : (ps : List Parameter) (n : Text) → IsOneOf n (flag_names ps) → IsOneOf n (names_of ps)
flag_is_name [] n one = one
flag_is_name (needs_text m ∷ ps) n one = inr (flag_is_name ps n one)
flag_is_name (takes_value m ∷ ps) n one = inr (flag_is_name ps n one)
flag_is_name (needs_value m ∷ ps) n one = inr (flag_is_name ps n one)
flag_is_name (takes_flag m ∷ ps) n (inl is) = inl is
flag_is_name (takes_flag m ∷ ps) n (inr one) = inr (flag_is_name ps n one)

pub text_is_name : (ps : List Parameter) (n : Text) → IsOneOf n (text_names ps) → IsOneOf n (names_of ps)
text_is_name [] n one = one
text_is_name (takes_flag m ∷ ps) n one = inr (text_is_name ps n one)
text_is_name (takes_value m ∷ ps) n one = inr (text_is_name ps n one)
text_is_name (needs_value m ∷ ps) n one = inr (text_is_name ps n one)
text_is_name (needs_text m ∷ ps) n (inl is) = inl is
text_is_name (needs_text m ∷ ps) n (inr one) = inr (text_is_name ps n one)

-- a name differs from one that differs from all of these, if it is among them
other_name : (m n : Text) (ns : List Text) → AllByRecursion (λ y. bytes_eq m y ≡ false) ns → IsOneOf n ns → bytes_eq m n ≡ false
other_name m n ns apart one = one_has (λ y. bytes_eq m y ≡ false) n ns apart one

pub same : (n : Text) → bytes_eq n n ≡ true
same n = (bytes_eq-Decides n n).1 refl

-- a name has characters, and `=` (61) is not among them
abbrev is_word : Text → Bool
is_word [] = false
is_word (b ∷ bs) = not (has_byte 61 (b ∷ bs))

abbrev pub is_apart : List Text → Bool
is_apart [] = true
is_apart (n ∷ ns) = list_all (λ m. not (bytes_eq n m)) ns && is_apart ns

-- what the table must hold for each subcommand
abbrev pub is_sound : List Parameter → Bool
is_sound ps = is_apart (codes "help" ∷ names_of ps) && (list_all is_word (names_of ps) && nat_lt (length ps) 1000)

both : (a b : Bool) → a && b ≡ true → (a ≡ true) × (b ≡ true)
both true b h = (refl, h)
both false b h = cc

not_true : (b : Bool) → not b ≡ true → b ≡ false
not_true false h = refl
not_true true h = cc

all_pass : (test : Text → Bool) (ns : List Text) → list_all test ns ≡ true → AllByRecursion (λ n. test n ≡ true) ns
all_pass test [] h = tt
all_pass test (n ∷ ns) h =
    let parts = both (test n) (list_all test ns) h in
    (parts.0, all_pass test ns parts.1)

all_differ : (n : Text) (ns : List Text) → list_all (λ m. not (bytes_eq n m)) ns ≡ true → AllByRecursion (λ y. bytes_eq n y ≡ false) ns
all_differ n [] h = tt
all_differ n (m ∷ ns) h =
    let parts = both (not (bytes_eq n m)) (list_all (λ m. not (bytes_eq n m)) ns) h in
    (not_true (bytes_eq n m) parts.0, all_differ n ns parts.1)

pub are_distinct : (ns : List Text) → is_apart ns ≡ true → IsDistinct bytes_eq ns
unfolding IsDistinct
are_distinct [] h = tt
are_distinct (n ∷ ns) h =
    let parts = both (list_all (λ m. not (bytes_eq n m)) ns) (is_apart ns) h in
    (all_differ n ns parts.0, are_distinct ns parts.1)

pub record IsSound (ps : List Parameter) : Type 0 where
  pub apart : IsDistinct bytes_eq (names_of ps)
  pub no_help : AllByRecursion (λ y. bytes_eq (codes "help") y ≡ false) (names_of ps)
  pub words : AllByRecursion (λ n. is_word n ≡ true) (names_of ps)
  pub few : length ps < 1000

pub sound_is : (ps : List Parameter) → is_sound ps ≡ true → IsSound ps
unfolding IsDistinct
sound_is ps h =
    let first = both (is_apart (codes "help" ∷ names_of ps)) (list_all is_word (names_of ps) && nat_lt (length ps) 1000) h in
    let more = both (list_all is_word (names_of ps)) (nat_lt (length ps) 1000) first.1 in
    let names = are_distinct (codes "help" ∷ names_of ps) first.0 in
    let less = more.1 in
    record { apart = names.1; no_help = names.0; words = all_pass is_word (names_of ps) more.0; few = grind (arith, nat_tests) }

-- ---- the arguments of a name

lacks_sign : (n : Text) → is_word n ≡ true → has_byte 61 n ≡ false
lacks_sign [] h = cc
lacks_sign (b ∷ bs) h = not_true (has_byte 61 (b ∷ bs)) h

before_at : (n v : Text) → has_byte 61 n ≡ false → before_first (λ x. x == 61) (n ++ 61 ∷ v) ≡ n
before_at [] v h = refl
before_at (b ∷ n) v h = go (b == 61) refl (before_at n v)
  where
    go : (t : Bool) → (b == 61) ≡ t → (has_byte 61 n ≡ false → before_first (λ x. x == 61) (n ++ 61 ∷ v) ≡ n)
        → before_first (λ x. x == 61) (b ∷ n ++ 61 ∷ v) ≡ b ∷ n
    go true e more = let bad : true ≡ false = rw e at h in cc
    go false e more =
        let rest : has_byte 61 n ≡ false = rw e at h in
        let one : 1 + position_or_len (λ x. x == 61) (n ++ 61 ∷ v) ≡ suc (position_or_len (λ x. x == 61) (n ++ 61 ∷ v)) = omega arith in
        rw (e, one) (ap (λ l. b ∷ l) (more rest))

behind_at : (n v : Text) → has_byte 61 n ≡ false → after_first (λ x. x == 61) (n ++ 61 ∷ v) ≡ v
behind_at [] v h = refl
behind_at (b ∷ n) v h = go (b == 61) refl (behind_at n v)
  where
    go : (t : Bool) → (b == 61) ≡ t → (has_byte 61 n ≡ false → after_first (λ x. x == 61) (n ++ 61 ∷ v) ≡ v)
        → after_first (λ x. x == 61) (b ∷ n ++ 61 ∷ v) ≡ v
    go true e more = let bad : true ≡ false = rw e at h in cc
    go false e more =
        let rest : has_byte 61 n ≡ false = rw e at h in
        let two : 1 + position_or_len (λ x. x == 61) (n ++ 61 ∷ v) + 1 ≡ suc (position_or_len (λ x. x == 61) (n ++ 61 ∷ v) + 1) = omega arith in
        rw (e, two) (more rest)

has_at : (n v : Text) → has_byte 61 (n ++ 61 ∷ v) ≡ true
has_at [] v = refl
has_at (b ∷ n) v = go (b == 61) refl (has_at n v)
  where
    go : (t : Bool) → (b == 61) ≡ t → has_byte 61 (n ++ 61 ∷ v) ≡ true → has_byte 61 (b ∷ n ++ 61 ∷ v) ≡ true
    go true e more = rw e refl
    go false e more = rw e more

alone_is : (n : Text) → is_word n ≡ true → long_of (alone n) ≡ Some (n, None)
alone_is [] h = cc
alone_is (b ∷ bs) h =
    let lacks = lacks_sign (b ∷ bs) h in
    let parts : name_and_value (b ∷ bs) ≡ (b ∷ bs, None) = ap₂ (λ x y. (x, if y then Some (after_first (λ z. z == 61) (b ∷ bs)) else None)) (whole_before (b ∷ bs) lacks) lacks in
    ap (λ x. Some x) parts

joined_is : (n v : Text) → is_word n ≡ true → long_of (joined n v) ≡ Some (n, Some v)
joined_is [] v h = cc
joined_is (b ∷ bs) v h =
    let lacks = lacks_sign (b ∷ bs) h in
    let whole : Text = b ∷ bs ++ 61 ∷ v in
    let valued : (if has_byte 61 whole then Some (after_first (λ z. z == 61) whole) else None) ≡ Some v =
    ap (λ y. if y then Some (after_first (λ z. z == 61) whole) else None) (has_at (b ∷ bs) v) ∙ ap (λ x. Some x) (behind_at (b ∷ bs) v lacks) in
    let parts : name_and_value whole ≡ (b ∷ bs, Some v) = ap₂ (λ x y. (x, y)) (before_at (b ∷ bs) v lacks) valued in
    ap long_of (sym (is_joined_word (b ∷ bs) v)) ∙ ap (λ x. Some x) parts

alone_apart : (n : Text) → is_word n ≡ true → bytes_eq (alone n) (45 ∷ 45 ∷ []) ≡ false
alone_apart [] h = cc
alone_apart (b ∷ bs) h = refl

joined_apart : (n v : Text) → is_word n ≡ true → bytes_eq (joined n v) (45 ∷ 45 ∷ []) ≡ false
joined_apart [] v h = cc
joined_apart (b ∷ bs) v h = refl

-- ---- the rule of a name

record HasOption (c : List Rule) (n : Text) : Type 0 where
  needed : Bool
  by_id : arg_by_id c n ≡ Some (built_of needed n)
  by_long : arg_by_long c n ≡ Some (built_of needed n)

has_option : (place : ℕ) (ps : List Parameter) (n : Text) → IsDistinct bytes_eq (names_of ps) → IsOneOf n (value_names ps) → HasOption (rules_from place ps) n
unfolding IsDistinct
has_option place [] n apart one = absurd one
has_option place (needs_text m ∷ ps) n apart one =
    let more = has_option (next_place place) ps n apart.1 one in
    let other = other_name m n (names_of ps) apart.0 (value_is_name ps n one) in
    record { needed = more.needed; by_id = rw other more.by_id; by_long = more.by_long }
has_option place (takes_flag m ∷ ps) n apart one =
    let more = has_option place ps n apart.1 one in
    let other = other_name m n (names_of ps) apart.0 (value_is_name ps n one) in
    record { needed = more.needed; by_id = rw other more.by_id; by_long = rw other more.by_long }
has_option place (takes_value m ∷ ps) n apart (inl is) =
    let first : HasOption (rules_from place (takes_value m ∷ ps)) m = record { needed = false; by_id = rw (same m) refl; by_long = rw (same m) refl } in
    subst (HasOption (rules_from place (takes_value m ∷ ps))) (sym is) first
has_option place (takes_value m ∷ ps) n apart (inr one) =
    let more = has_option place ps n apart.1 one in
    let other = other_name m n (names_of ps) apart.0 (value_is_name ps n one) in
    record { needed = more.needed; by_id = rw other more.by_id; by_long = rw other more.by_long }
has_option place (needs_value m ∷ ps) n apart (inl is) =
    let first : HasOption (rules_from place (needs_value m ∷ ps)) m = record { needed = true; by_id = rw (same m) refl; by_long = rw (same m) refl } in
    subst (HasOption (rules_from place (needs_value m ∷ ps))) (sym is) first
has_option place (needs_value m ∷ ps) n apart (inr one) =
    let more = has_option place ps n apart.1 one in
    let other = other_name m n (names_of ps) apart.0 (value_is_name ps n one) in
    record { needed = more.needed; by_id = rw other more.by_id; by_long = rw other more.by_long }

has_flag : (place : ℕ) (ps : List Parameter) (n : Text) → IsDistinct bytes_eq (names_of ps) → IsOneOf n (flag_names ps)
    → arg_by_long (rules_from place ps) n ≡ Some (flag_of n)
unfolding IsDistinct
has_flag place [] n apart one = absurd one
has_flag place (needs_text m ∷ ps) n apart one = has_flag (next_place place) ps n apart.1 one
has_flag place (takes_value m ∷ ps) n apart one = rw (other_name m n (names_of ps) apart.0 (flag_is_name ps n one)) (has_flag place ps n apart.1 one)
has_flag place (needs_value m ∷ ps) n apart one = rw (other_name m n (names_of ps) apart.0 (flag_is_name ps n one)) (has_flag place ps n apart.1 one)
has_flag place (takes_flag m ∷ ps) n apart (inl is) =
    let first : arg_by_long (rules_from place (takes_flag m ∷ ps)) m ≡ Some (flag_of m) = rw (same m) refl in
    subst (λ x. arg_by_long (rules_from place (takes_flag m ∷ ps)) x ≡ Some (flag_of x)) (sym is) first
has_flag place (takes_flag m ∷ ps) n apart (inr one) = rw (other_name m n (names_of ps) apart.0 (flag_is_name ps n one)) (has_flag place ps n apart.1 one)

-- a text by its name: which place it has does not matter
pub record HasText (c : List Rule) (n : Text) : Type 0 where
  pub place : ℕ
  pub by_id : arg_by_id c n ≡ Some (text_built place n)

has_text : (place : ℕ) (ps : List Parameter) (n : Text) → IsDistinct bytes_eq (names_of ps) → IsOneOf n (text_names ps) → HasText (rules_from place ps) n
unfolding IsDistinct
has_text place [] n apart one = absurd one
has_text place (takes_flag m ∷ ps) n apart one =
    let more = has_text place ps n apart.1 one in
    record { place = more.place; by_id = rw (other_name m n (names_of ps) apart.0 (text_is_name ps n one)) more.by_id }
has_text place (takes_value m ∷ ps) n apart one =
    let more = has_text place ps n apart.1 one in
    record { place = more.place; by_id = rw (other_name m n (names_of ps) apart.0 (text_is_name ps n one)) more.by_id }
has_text place (needs_value m ∷ ps) n apart one =
    let more = has_text place ps n apart.1 one in
    record { place = more.place; by_id = rw (other_name m n (names_of ps) apart.0 (text_is_name ps n one)) more.by_id }
has_text place (needs_text m ∷ ps) n apart (inl is) =
    let first : HasText (rules_from place (needs_text m ∷ ps)) m = record { place = place; by_id = rw (same m) refl } in
    subst (HasText (rules_from place (needs_text m ∷ ps))) (sym is) first
has_text place (needs_text m ∷ ps) n apart (inr one) =
    let more = has_text (next_place place) ps n apart.1 one in
    record { place = more.place; by_id = rw (other_name m n (names_of ps) apart.0 (text_is_name ps n one)) more.by_id }

-- an option more
known_value : (needed : Bool) (m : Text) (place : ℕ) (ps : List Parameter) (n : Text) → Known (value_names ps) (flag_names ps) n (arg_by_long (rules_from place ps) n)
    → Known (m ∷ value_names ps) (flag_names ps) n (arg_by_long (built_of needed m ∷ rules_from place ps) n)
known_value needed m place ps n later = go (bytes_eq m n) refl
  where
    more_values : (o : Option Rule) → Known (value_names ps) (flag_names ps) n o → Known (m ∷ value_names ps) (flag_names ps) n o
    more_values o (inl none) = inl none
    more_values o (inr (inl help)) = inr (inl help)
    more_values o (inr (inr (inl (one, own)))) = inr (inr (inl (inr one, own)))
    more_values o (inr (inr (inr one))) = inr (inr (inr one))

    go : (t : Bool) → bytes_eq m n ≡ t → Known (m ∷ value_names ps) (flag_names ps) n (arg_by_long (built_of needed m ∷ rules_from place ps) n)
    go true e =
        let is : m ≡ n = (bytes_eq-Decides m n).0 e in
        rw e (inr (inr (inl (inl (sym is), (needed, ap (λ x. Some (built_of needed x)) is)))))
    go false e = rw e (more_values (arg_by_long (rules_from place ps) n) later)

-- a long name is one of theirs, or asks for help
known : (place : ℕ) (ps : List Parameter) (n : Text) → Known (value_names ps) (flag_names ps) n (arg_by_long (rules_from place ps) n)
known place [] n = go (has_long help_built n) refl
  where
    go : (t : Bool) → has_long help_built n ≡ t → Known [] [] n (arg_by_long (help_built ∷ []) n)
    go true e = rw e (inr (inl refl))
    go false e = rw e (inl refl)
known place (needs_text m ∷ ps) n = known (next_place place) ps n
known place (takes_flag m ∷ ps) n = go (bytes_eq m n) refl (known place ps n)
  where
    more_flags : (o : Option Rule) → Known (value_names ps) (flag_names ps) n o → Known (value_names ps) (m ∷ flag_names ps) n o
    more_flags o (inl none) = inl none
    more_flags o (inr (inl help)) = inr (inl help)
    more_flags o (inr (inr (inl one))) = inr (inr (inl one))
    more_flags o (inr (inr (inr (one, is)))) = inr (inr (inr (inr one, is)))

    go : (t : Bool) → bytes_eq m n ≡ t → Known (value_names ps) (flag_names ps) n (arg_by_long (rules_from place ps) n)
        → Known (value_names ps) (m ∷ flag_names ps) n (arg_by_long (flag_of m ∷ rules_from place ps) n)
    go true e later =
        let is : m ≡ n = (bytes_eq-Decides m n).0 e in
        rw e (inr (inr (inr (inl (sym is), ap (λ x. Some (flag_of x)) is))))
    go false e later = rw e (more_flags (arg_by_long (rules_from place ps) n) later)
known place (takes_value m ∷ ps) n = known_value false m place ps n (known place ps n)
known place (needs_value m ∷ ps) n = known_value true m place ps n (known place ps n)

shorts : (place : ℕ) (ps : List Parameter) → ShortsFail (rules_from place ps)
shorts place [] x = go (has_short help_built x) refl
  where
    go : (t : Bool) → has_short help_built x ≡ t → (arg_by_short (help_built ∷ []) x ≡ None) ⊎ (arg_by_short (help_built ∷ []) x ≡ Some help_built)
    go true e = rw e (inr refl)
    go false e = rw e (inl refl)
shorts place (needs_text m ∷ ps) x = shorts (next_place place) ps x
shorts place (takes_flag m ∷ ps) x = shorts place ps x
shorts place (takes_value m ∷ ps) x = shorts place ps x
shorts place (needs_value m ∷ ps) x = shorts place ps x

pub help_long : (place : ℕ) (ps : List Parameter) → AllByRecursion (λ y. bytes_eq (codes "help") y ≡ false) (names_of ps)
    → arg_by_long (rules_from place ps) (codes "help") ≡ Some help_built
help_long place [] none = refl
help_long place (needs_text m ∷ ps) none = help_long (next_place place) ps none.1
help_long place (takes_flag m ∷ ps) none = rw (flips (codes "help") m none.0) (help_long place ps none.1)
help_long place (takes_value m ∷ ps) none = rw (flips (codes "help") m none.0) (help_long place ps none.1)
help_long place (needs_value m ∷ ps) none = rw (flips (codes "help") m none.0) (help_long place ps none.1)

pub help_short : (place : ℕ) (ps : List Parameter) → arg_by_short (rules_from place ps) 104 ≡ Some help_built
help_short place [] = refl
help_short place (needs_text m ∷ ps) = help_short (next_place place) ps
help_short place (takes_flag m ∷ ps) = help_short place ps
help_short place (takes_value m ∷ ps) = help_short place ps
help_short place (needs_value m ∷ ps) = help_short place ps

-- ---- defaults

all_default : (place : ℕ) (ps : List Parameter) → AllByRecursion DefaultPasses (rules_from place ps)
all_default place [] = (inl refl, tt)
all_default place (needs_text m ∷ ps) = (inl refl, all_default (next_place place) ps)
all_default place (takes_flag m ∷ ps) = (inr refl, all_default place ps)
all_default place (takes_value m ∷ ps) = (inl refl, all_default place ps)
all_default place (needs_value m ∷ ps) = (inl refl, all_default place ps)

-- a row, or that of the default of one of these flags
abbrev or_default : Text → List Text → Option Row → Option Row
or_default n fs (Some r) = Some r
or_default n fs None = if list_any (λ f. bytes_eq f n) fs then Some (default_row n) else None

no_flags : (n : Text) (o : Option Row) → o ≡ or_default n [] o
no_flags n None = refl
no_flags n (Some r) = refl

flag_default : (n f : Text) (fs : List Text) (rows : List Row)
    → or_default n fs (row_at n (with_default rows (flag_of f))) ≡ or_default n (f ∷ fs) (row_at n rows)
flag_default n f fs rows = go (bytes_eq f n) refl
  where
    own : (o : Option Row) → bytes_eq f n ≡ true → or_default n fs (Some (unwrap_or o (default_row n))) ≡ or_default n (f ∷ fs) o
    own None e = rw e refl
    own (Some r) e = refl

    beside : (o : Option Row) → bytes_eq f n ≡ false → or_default n fs o ≡ or_default n (f ∷ fs) o
    beside None e = rw e refl
    beside (Some r) e = refl

    go : (t : Bool) → bytes_eq f n ≡ t → or_default n fs (row_at n (with_default rows (flag_of f))) ≡ or_default n (f ∷ fs) (row_at n rows)
    go true e =
        let is : n ≡ f = sym ((bytes_eq-Decides f n).0 e) in
        let found : row_at n (with_default rows (flag_of f)) ≡ Some (unwrap_or (row_at n rows) (default_row n)) =
        subst (λ x. row_at x (with_default rows (flag_of f)) ≡ Some (unwrap_or (row_at x rows) (default_row x))) (sym is) (own_found f rows) in
        ap (or_default n fs) found ∙ own (row_at n rows) e
    go false e = ap (or_default n fs) (default_apart f n rows e) ∙ beside (row_at n rows) e

rows_end : (place : ℕ) (ps : List Parameter) (n : Text) (rows : List Row)
    → row_at n (fold with_default rows (rules_from place ps)) ≡ or_default n (flag_names ps) (row_at n rows)
rows_end place [] n rows = ap (row_at n) (with_no_default rows help_built refl) ∙ no_flags n (row_at n rows)
rows_end place (needs_text m ∷ ps) n rows =
    ap (λ l. row_at n (fold with_default l (rules_from (next_place place) ps))) (with_no_default rows (text_built place m) refl) ∙ rows_end (next_place place) ps n rows
rows_end place (takes_value m ∷ ps) n rows =
    ap (λ l. row_at n (fold with_default l (rules_from place ps))) (with_no_default rows (built_of false m) refl) ∙ rows_end place ps n rows
rows_end place (needs_value m ∷ ps) n rows =
    ap (λ l. row_at n (fold with_default l (rules_from place ps))) (with_no_default rows (built_of true m) refl) ∙ rows_end place ps n rows
rows_end place (takes_flag m ∷ ps) n rows = rows_end place ps n (with_default rows (flag_of m)) ∙ flag_default n m (flag_names ps) rows

-- a default is not given by the arguments
given_end : (place : ℕ) (ps : List Parameter) (n : Text) (rows : List Row) → is_given n (fold with_default rows (rules_from place ps)) ≡ is_given n rows
given_end place ps n rows = ap given (rows_end place ps n rows) ∙ go (row_at n rows)
  where
    given : Option Row → Bool
    given o = option_map_or (λ r. explicit_source r.source) o false

    either : (b : Bool) → given (if b then Some (default_row n) else None) ≡ false
    either true = refl
    either false = refl

    go : (o : Option Row) → given (or_default n (flag_names ps) o) ≡ given o
    go (Some r) = refl
    go None = either (list_any (λ f. bytes_eq f n) (flag_names ps))

needs : (place : ℕ) (ps : List Parameter) (rows all : List Row) → ((n : Text) → is_given n all ≡ is_given n rows)
    → list_any (λ a. a.required && not (is_given a.id all)) (rules_from place ps) ≡ list_any (λ n. not (is_given n rows)) (required_names ps)
needs place [] rows all alike = refl
needs place (needs_text m ∷ ps) rows all alike = ap₂ (λ x y. not x || y) (alike m) (needs (next_place place) ps rows all alike)
needs place (needs_value m ∷ ps) rows all alike = ap₂ (λ x y. not x || y) (alike m) (needs place ps rows all alike)
needs place (takes_flag m ∷ ps) rows all alike = needs place ps rows all alike
needs place (takes_value m ∷ ps) rows all alike = needs place ps rows all alike

-- what clap finds for a name is its text
pub text_found : (place : ℕ) (ps : List Parameter) (gs : List (Text × Value)) (n : Text)
    → first_of n (fold with_default (rows_of gs) (rules_from place ps)) ≡ text_in ps gs n
text_found place ps gs n = ap text (rows_end place ps n (rows_of gs)) ∙ go (list_any (λ f. bytes_eq f n) (flag_names ps)) refl gs
  where
    text : Option Row → Option Text
    text o = option_and_then (λ r. slice_get r.values 0) o

    go : (b : Bool) → list_any (λ f. bytes_eq f n) (flag_names ps) ≡ b → (os : List (Text × Value))
        → text (or_default n (flag_names ps) (row_at n (rows_of os))) ≡ text_in ps os n
    go true e [] = rw e refl
    go false e [] = rw e refl
    go b e (o ∷ os) = here (bytes_eq o.0 n) refl (go b e os)
      where
        here : (t : Bool) → bytes_eq o.0 n ≡ t → text (or_default n (flag_names ps) (row_at n (rows_of os))) ≡ text_in ps os n
            → text (or_default n (flag_names ps) (row_at n (rows_of (o ∷ os)))) ≡ text_in ps (o ∷ os) n
        here true f more = rw f refl
        here false f more = rw f more

-- ---- the places of the texts

abbrev pub IsPlaced : List Rule → ℕ → List Text → Type 0
IsPlaced c place [] = arg_by_index c place ≡ None
IsPlaced c place (n ∷ ns) = (arg_by_index c place ≡ Some (text_built place n)) × IsPlaced c (next_place place) ns

next_is : (place : ℕ) → place < 5000 → next_place place ≡ place + 1
next_is place less = min-eq_left {n = place + 1} {m = usize_max} (omega arith)

skip_rule : (r : Rule) (c : List Rule) (place : ℕ) (ns : List Text) → r.index ≡ None → IsPlaced c place ns → IsPlaced (r ∷ c) place ns
skip_rule r c place [] e placed = rw e placed
skip_rule r c place (n ∷ ns) e placed = (rw e placed.0, skip_rule r c (next_place place) ns e placed.1)

differ : (k place : ℕ) → k < place → (k == place) ≡ false
differ k place less = grind (arith, nat_tests)

same_place : (k : ℕ) → (k == k) ≡ true
same_place k = grind (arith, nat_tests)

skip_text : (k : ℕ) (m : Text) (c : List Rule) (place : ℕ) (ns : List Text) → k < place → length ns + place < 5000 → IsPlaced c place ns
    → IsPlaced (text_built k m ∷ c) place ns
skip_text k m c place [] less few placed = rw (differ k place less) placed
skip_text k m c place (n ∷ ns) less few placed =
    let next : next_place place ≡ place + 1 = next_is place (grind (arith, common_steps)) in
    let later : length ns + (place + 1) < 5000 = grind (arith, common_steps) in
    let after : k < place + 1 = omega arith in (
      rw (differ k place less) placed.0,
      skip_text k m c (next_place place) ns (subst (λ x. k < x) (sym next) after) (subst (λ x. length ns + x < 5000) (sym next) later) placed.1,
    )

fewer : (ps : List Parameter) → length (text_names ps) ≤ length ps
fewer [] = omega arith
fewer (needs_text m ∷ ps) = let more = fewer ps in grind (arith, common_steps)
fewer (takes_flag m ∷ ps) = let more = fewer ps in grind (arith, common_steps)
fewer (takes_value m ∷ ps) = let more = fewer ps in grind (arith, common_steps)
fewer (needs_value m ∷ ps) = let more = fewer ps in grind (arith, common_steps)

placed : (place : ℕ) (ps : List Parameter) → length ps + place < 5000 → IsPlaced (rules_from place ps) place (text_names ps)
placed place [] few = refl
placed place (takes_flag m ∷ ps) few = skip_rule (flag_of m) (rules_from place ps) place (text_names ps) refl (placed place ps (grind (arith, common_steps)))
placed place (takes_value m ∷ ps) few = skip_rule (built_of false m) (rules_from place ps) place (text_names ps) refl (placed place ps (grind (arith, common_steps)))
placed place (needs_value m ∷ ps) few = skip_rule (built_of true m) (rules_from place ps) place (text_names ps) refl (placed place ps (grind (arith, common_steps)))
placed place (needs_text m ∷ ps) few =
    let next : next_place place ≡ place + 1 = next_is place (grind (arith, common_steps)) in
    let all : length ps + (place + 1) < 5000 = grind (arith, common_steps) in
    let texts = fewer ps in
    let some : length (text_names ps) + (place + 1) < 5000 = omega arith in
    let less : place < place + 1 = omega arith in
    let more = placed (next_place place) ps (subst (λ x. length ps + x < 5000) (sym next) all) in (
      rw (same_place place) refl,
      skip_text place m (rules_from (next_place place) ps) (next_place place) (text_names ps) (subst (λ x. place < x) (sym next) less)
          (subst (λ x. length (text_names ps) + x < 5000) (sym next) some) more,
    )

-- ---- all of it

-- the names that still need a text, once this is given
pub record IsText (ps : List Parameter) (c : List Rule) (n : Text) : Type 0 where
  pub has : HasText c n
  pub other : (m : Text) (v : Value) → IsNamed ps m v → bytes_eq m n ≡ false
  pub needed : IsOneOf n (required_names ps)

-- options and flags have other names than texts
not_text : (ps : List Parameter) (n m : Text) (v : Value) → IsDistinct bytes_eq (names_of ps) → IsOneOf n (text_names ps) → IsNamed ps m v → bytes_eq m n ≡ false
unfolding IsDistinct
not_text [] n m v apart one named = absurd one
not_text (needs_text t ∷ ps) n m (Some v) apart (inl is) named =
    subst (λ x. bytes_eq m x ≡ false) (sym is) (flips t m (other_name t m (names_of ps) apart.0 (value_is_name ps m named)))
not_text (needs_text t ∷ ps) n m None apart (inl is) named =
    subst (λ x. bytes_eq m x ≡ false) (sym is) (flips t m (other_name t m (names_of ps) apart.0 (flag_is_name ps m named)))
not_text (needs_text t ∷ ps) n m (Some v) apart (inr one) named = not_text ps n m (Some v) apart.1 one named
not_text (needs_text t ∷ ps) n m None apart (inr one) named = not_text ps n m None apart.1 one named
not_text (takes_flag f ∷ ps) n m (Some v) apart one named = not_text ps n m (Some v) apart.1 one named
not_text (takes_flag f ∷ ps) n m None apart one (inl is) =
    subst (λ x. bytes_eq x n ≡ false) (sym is) (other_name f n (names_of ps) apart.0 (text_is_name ps n one))
not_text (takes_flag f ∷ ps) n m None apart one (inr named) = not_text ps n m None apart.1 one named
not_text (takes_value f ∷ ps) n m None apart one named = not_text ps n m None apart.1 one named
not_text (takes_value f ∷ ps) n m (Some v) apart one (inl is) =
    subst (λ x. bytes_eq x n ≡ false) (sym is) (other_name f n (names_of ps) apart.0 (text_is_name ps n one))
not_text (takes_value f ∷ ps) n m (Some v) apart one (inr named) = not_text ps n m (Some v) apart.1 one named
not_text (needs_value f ∷ ps) n m None apart one named = not_text ps n m None apart.1 one named
not_text (needs_value f ∷ ps) n m (Some v) apart one (inl is) =
    subst (λ x. bytes_eq x n ≡ false) (sym is) (other_name f n (names_of ps) apart.0 (text_is_name ps n one))
not_text (needs_value f ∷ ps) n m (Some v) apart one (inr named) = not_text ps n m (Some v) apart.1 one named

text_needed : (ps : List Parameter) (n : Text) → IsOneOf n (text_names ps) → IsOneOf n (required_names ps)
text_needed [] n one = one
text_needed (needs_text m ∷ ps) n (inl is) = inl is
text_needed (needs_text m ∷ ps) n (inr one) = inr (text_needed ps n one)
text_needed (takes_flag m ∷ ps) n one = text_needed ps n one
text_needed (takes_value m ∷ ps) n one = text_needed ps n one
text_needed (needs_value m ∷ ps) n one = inr (text_needed ps n one)

texts_apart : (ps : List Parameter) → IsDistinct bytes_eq (names_of ps) → IsDistinct bytes_eq (text_names ps)
unfolding IsDistinct
texts_apart [] apart = tt
texts_apart (needs_text m ∷ ps) apart = (each (text_names ps) (λ n one. other_name m n (names_of ps) apart.0 (text_is_name ps n one)), texts_apart ps apart.1)
  where
    each : (ns : List Text) → ((n : Text) → IsOneOf n ns → bytes_eq m n ≡ false) → AllByRecursion (λ y. bytes_eq m y ≡ false) ns
    each [] h = tt
    each (n ∷ ns) h = (h n (inl refl), each ns (λ k one. h k (inr one)))
texts_apart (takes_flag m ∷ ps) apart = texts_apart ps apart.1
texts_apart (takes_value m ∷ ps) apart = texts_apart ps apart.1
texts_apart (needs_value m ∷ ps) apart = texts_apart ps apart.1

-- what is known of the rules of a subcommand
pub record AreTheRules (ps : List Parameter) (c : List Rule) : Type 0 where
  pub ours : AreRules (value_names ps) (flag_names ps) (required_names ps) c
  pub placed : IsPlaced c 1 (text_names ps)
  pub texts : (n : Text) → IsOneOf n (text_names ps) → IsText ps c n
  pub apart : IsDistinct bytes_eq (text_names ps)

pub the_rules : (ps : List Parameter) → IsSound ps → AreTheRules ps (rules_from 1 ps)
the_rules ps sound = record {
  ours = record {
    option = λ n one.
        let has = has_option 1 ps n sound.apart one in
        let word = one_has (λ x. is_word x ≡ true) n (names_of ps) sound.words (value_is_name ps n one) in
        record {
          needed = has.needed;
          by_id = has.by_id;
          by_long = has.by_long;
          alone_is = alone_is n word;
          joined_is = λ v. joined_is n v word;
          alone_apart = alone_apart n word;
          joined_apart = λ v. joined_apart n v word;
        };
    flag = λ n one.
        let word = one_has (λ x. is_word x ≡ true) n (names_of ps) sound.words (flag_is_name ps n one) in
        record { by_long = has_flag 1 ps n sound.apart one; alone_is = alone_is n word; alone_apart = alone_apart n word };
    long = known 1 ps;
    short = shorts 1 ps;
    defaults = λ rows. defaults_pass (rules_from 1 ps) rows (all_default 1 ps);
    needs = λ rows. needs 1 ps rows (fold with_default rows (rules_from 1 ps)) (λ n. given_end 1 ps n rows);
  };
  placed = placed 1 ps (let few = sound.few in omega arith);
  texts = λ n one. record {
    has = has_text 1 ps n sound.apart one;
    other = λ m v named. not_text ps n m v sound.apart one named;
    needed = text_needed ps n one;
  };
  apart = texts_apart ps sound.apart;
}
