-- Which arguments clap takes for flags, and that no flag passes except those that ask for help or
-- for the version.
use Rattle.std.proofs.Common.{◌≡◌, ◌⊎◌, ◌∙◌, ap, refl, subst, inl, inr, ℕ, suc, ◌+◌, arith, true, false, Bool, List, [], ◌∷◌, Option, Some, None}
use Rattle.std.specs.Prelude.{slice_get, ◌==◌, if◌then◌else◌}
use Rattle.std.specs.List.{before_first, position_or_len}
use Rattle.std.specs.Str.{bytes_eq, chars, IsUtf8, is_utf8}
use Rattle.std.specs.Char.{encode_utf8}
use Rattle.std.proofs.lemmas.Bool.{eqb-true}
use Rattle.std.proofs.lemmas.Str.{is_utf8-from_IsUtf8}
use Rattle.clap.specs.Lexer.{has_byte, long_of, short_of}
use Rattle.clap.specs.Words.{Kinds, Rule, Text}
use Rattle.clap.specs.Kinds.{or_else}
use Rattle.clap.specs.Walk.{Held, arg_by_long, arg_by_short, has_long, has_short}
use Rattle.clap.specs.Simple.{filled, help_rule, version_rule, with_index}
use Rattle.clap.specs.Faults.{bundle_fault, flag_word_fault, flags_fault, long_fault, react_fault, settle_fault, short_fault}
use Rattle.clap.specs.declared.error.kind.ErrorKind.TheVariants.{DisplayHelp, DisplayVersion}
use Rattle.kd_commands.specs.Line.{is_flag}

-- the flag for help, as clap builds it
abbrev pub help_built : Rule
help_built = with_index 1 (filled help_rule)

-- and the one for the version
abbrev pub version_built : Rule
version_built = with_index 1 (filled version_rule)

-- ---- two steps, neither of which fails

pub neither : (a b : Kinds) → or_else a b ≡ [] → (a ≡ []) × (b ≡ [])
neither [] b h = (refl, h)
neither (k ∷ ks) b h = cc

pub then_none : (a : Kinds) → or_else a [] ≡ a
then_none [] = refl
then_none (k ∷ ks) = refl

-- ---- arguments that are no flags

pub no_dashes : (w : Text) → is_flag w ≡ false → bytes_eq w (45 ∷ 45 ∷ []) ≡ false
no_dashes [] h = refl
no_dashes (b ∷ []) h = go (b == 45) refl
  where
    go : (t : Bool) → (b == 45) ≡ t → bytes_eq (b ∷ []) (45 ∷ 45 ∷ []) ≡ false
    go true e = rw e refl
    go false e = rw e refl
no_dashes (b ∷ c ∷ rest) h = rw h refl

pub no_long : (w : Text) → is_flag w ≡ false → long_of w ≡ None
no_long [] h = refl
no_long (b ∷ []) h = go (b == 45) refl
  where
    go : (t : Bool) → (b == 45) ≡ t → long_of (b ∷ []) ≡ None
    go true e = rw e refl
    go false e = rw e refl
no_long (b ∷ c ∷ rest) h = rw h refl

pub no_short : (w : Text) → is_flag w ≡ false → short_of w ≡ None
no_short [] h = refl
no_short (b ∷ []) h = go (b == 45) refl
  where
    go : (t : Bool) → (b == 45) ≡ t → short_of (b ∷ []) ≡ None
    go true e = rw e refl
    go false e = rw e refl
no_short (b ∷ c ∷ rest) h = rw h refl

-- ---- flags

-- a flag is unknown, or asks for help or for the version
abbrev pub IsRefused : Option Rule → Type 0
IsRefused o = (o ≡ None) ⊎ ((o ≡ Some help_built) ⊎ (o ≡ Some version_built))

-- at each flag the rules fail
pub record FlagsFail (c : List Rule) : Type 0 where
  pub long : (name : Text) → IsRefused (arg_by_long c name)
  pub short : (x : ℕ) → IsRefused (arg_by_short c x)

-- rules that have the flags for help and for the version and no others
pub both_fail : (c : List Rule)
    → ((name : Text) → arg_by_long c name ≡ (if has_long help_built name then Some help_built else (if has_long version_built name then Some version_built else None)))
    → ((x : ℕ) → arg_by_short c x ≡ (if has_short help_built x then Some help_built else (if has_short version_built x then Some version_built else None)))
    → FlagsFail c
both_fail c long short = record {
  long = λ name. go (has_long help_built name) (has_long version_built name) (arg_by_long c name) (long name);
  short = λ x. go (has_short help_built x) (has_short version_built x) (arg_by_short c x) (short x);
}
  where
    go : (t u : Bool) (o : Option Rule) → o ≡ (if t then Some help_built else (if u then Some version_built else None)) → IsRefused o
    go true u o e = inr (inl e)
    go false true o e = inr (inr e)
    go false false o e = inl e

asks : (c : List Rule) (h : Held) → react_fault c false help_built [] h ≡ [] → ⊥
asks c h none =
    let bad : DisplayHelp ∷ [] ≡ [] = (neither (settle_fault c false h) (DisplayHelp ∷ []) none).1 in
    cc

asks_version : (c : List Rule) (h : Held) → react_fault c false version_built [] h ≡ [] → ⊥
asks_version c h none =
    let bad : DisplayVersion ∷ [] ≡ [] = (neither (settle_fault c false h) (DisplayVersion ∷ []) none).1 in
    cc

pub long_refused : (c : List Rule) (o : Option Rule) (v : Option Text) (h : Held) → IsRefused o → long_fault c false o v h ≡ [] → ⊥
long_refused c o v h (inl e) none = let bad : long_fault c false None v h ≡ [] = subst (λ x. long_fault c false x v h ≡ []) e none in cc
long_refused c o (Some v) h (inr (inl e)) none = let bad = subst (λ x. long_fault c false x (Some v) h ≡ []) e none in cc
long_refused c o None h (inr (inl e)) none = asks c h (subst (λ x. long_fault c false x None h ≡ []) e none)
long_refused c o (Some v) h (inr (inr e)) none = let bad = subst (λ x. long_fault c false x (Some v) h ≡ []) e none in cc
long_refused c o None h (inr (inr e)) none = asks_version c h (subst (λ x. long_fault c false x None h ≡ []) e none)

pub long_fails : (c : List Rule) (o : Option Rule) (v : Option Text) (h : Held) → (o ≡ None) ⊎ (o ≡ Some help_built)
    → long_fault c false o v h ≡ [] → ⊥
long_fails c o v h (inl e) none = long_refused c o v h (inl e) none
long_fails c o v h (inr e) none = long_refused c o v h (inr (inl e)) none

short_fails : (c : List Rule) (o : Option Rule) (rest : Text) (h : Held) (next : Held → Kinds) → IsRefused o
    → short_fault c false o rest h next ≡ [] → ⊥
short_fails c o rest h next (inl e) none = let bad : short_fault c false None rest h next ≡ [] = subst (λ x. short_fault c false x rest h next ≡ []) e none in cc
short_fails c o rest h next (inr (inl e)) none =
    asks c h (neither _ _ (subst (λ x. short_fault c false x rest h next ≡ []) e none)).0
short_fails c o rest h next (inr (inr e)) none =
    asks_version c h (neither _ _ (subst (λ x. short_fault c false x rest h next ≡ []) e none)).0

-- text after a hyphen has a first character
first_char : (x : ℕ) (xs : Text) → IsUtf8 (45 ∷ x ∷ xs) → slice_get (chars (x ∷ xs)) 0 ≡ None → ⊥
unfolding chars is_utf8 encode_utf8
first_char x xs text none = go (chars (x ∷ xs)) refl none
  where
    go : (cs : List ℕ) → chars (x ∷ xs) ≡ cs → slice_get cs 0 ≡ None → ⊥
    go [] e n =
        let good : is_utf8 (45 ∷ x ∷ xs) ≡ true = is_utf8-from_IsUtf8 (45 ∷ x ∷ xs) text in
        let bad : false ≡ true = rw e at good in
        cc
    go (y ∷ ys) e n = cc

-- each flag of one letter is unknown or asks for help
abbrev pub ShortsFail : List Rule → Type 0
ShortsFail c = (x : ℕ) → (arg_by_short c x ≡ None) ⊎ (arg_by_short c x ≡ Some help_built)

letters_refused : (c : List Rule) → ((x : ℕ) → IsRefused (arg_by_short c x)) → (x : ℕ) (xs : Text) (h : Held) → h.skip ≡ 0 → IsUtf8 (45 ∷ x ∷ xs)
    → bundle_fault c false (x ∷ xs) h ≡ [] → ⊥
unfolding flags_fault
letters_refused c shorts x xs h start text none = go (slice_get (chars (x ∷ xs)) 0) refl
  where
    go : (o : Option ℕ) → slice_get (chars (x ∷ xs)) 0 ≡ o → ⊥
    go None e = first_char x xs text e
    go (Some y) e = short_fails c (arg_by_short c y) _ _ _ (shorts y) (rw (start, e) at none)

pub bundle_fails : (c : List Rule) → ShortsFail c → (x : ℕ) (xs : Text) (h : Held) → h.skip ≡ 0 → IsUtf8 (45 ∷ x ∷ xs)
    → bundle_fault c false (x ∷ xs) h ≡ [] → ⊥
bundle_fails c shorts = letters_refused c (λ x. elim (shorts x) [ inl none ↦ inl none | inr help ↦ inr (inl help) ])

-- after a hyphen
hyphen_fails : (c : List Rule) → FlagsFail c → (d : ℕ) (rest : Text) (h : Held) → h.skip ≡ 0 → IsUtf8 (45 ∷ d ∷ rest)
    → (if bytes_eq (45 ∷ d ∷ rest) (45 ∷ 45 ∷ []) then [] else flag_word_fault c false (long_of (45 ∷ d ∷ rest)) (45 ∷ d ∷ rest) h) ≡ []
    → (45 ∷ d ∷ rest) ≡ 45 ∷ 45 ∷ []
hyphen_fails c fails d rest h start text none = go (d == 45) refl
  where
    long : (rest2 : Text) → d ≡ 45 → rest2 ≡ rest → (45 ∷ d ∷ rest) ≡ 45 ∷ 45 ∷ []
    long [] e same = rw (e, ← same) refl
    long (y ∷ ys) e same = absurd (long_refused c _ _ h (fails.long _) (rw (e, ← same) at none))

    go : (t : Bool) → (d == 45) ≡ t → (45 ∷ d ∷ rest) ≡ 45 ∷ 45 ∷ []
    go true e = long rest (eqb-true d 45 e) refl
    go false e = absurd (letters_refused c fails.short d rest h start text (let once = rw e at none in rw e at once))

-- an argument that neither fails nor names a subcommand is `--` or no flag
pub no_flag : (c : List Rule) → FlagsFail c → (w : Text) (h : Held) → h.skip ≡ 0 → IsUtf8 w
    → (if bytes_eq w (45 ∷ 45 ∷ []) then [] else flag_word_fault c false (long_of w) w h) ≡ []
    → (w ≡ 45 ∷ 45 ∷ []) ⊎ (is_flag w ≡ false)
no_flag c fails [] h start text none = inr refl
no_flag c fails (b ∷ []) h start text none = inr refl
no_flag c fails (b ∷ d ∷ rest) h start text none = go (b == 45) refl
  where
    go : (t : Bool) → (b == 45) ≡ t → ((b ∷ d ∷ rest) ≡ 45 ∷ 45 ∷ []) ⊎ (is_flag (b ∷ d ∷ rest) ≡ false)
    go true e =
        let is : b ≡ 45 = eqb-true b 45 e in
        inl (ap (λ x. x ∷ d ∷ rest) is ∙ hyphen_fails c fails d rest h start (subst (λ x. IsUtf8 (x ∷ d ∷ rest)) is text)
        (subst (λ x. (if bytes_eq (x ∷ d ∷ rest) (45 ∷ 45 ∷ []) then [] else flag_word_fault c false (long_of (x ∷ d ∷ rest)) (x ∷ d ∷ rest) h) ≡ []) is none))
    go false e = inr e

-- ---- one flag that passes

-- a text without `=` (61) is whole before it
pub whole_before : (text : Text) → has_byte 61 text ≡ false → before_first (λ x. x == 61) text ≡ text
whole_before [] h = refl
whole_before (b ∷ text) h = go (b == 61) refl (whole_before text)
  where
    go : (t : Bool) → (b == 61) ≡ t → (has_byte 61 text ≡ false → before_first (λ x. x == 61) text ≡ text)
        → before_first (λ x. x == 61) (b ∷ text) ≡ b ∷ text
    go true e more = let bad : true ≡ false = rw e at h in cc
    go false e more =
        let rest : has_byte 61 text ≡ false = rw e at h in
        let one : 1 + position_or_len (λ x. x == 61) text ≡ suc (position_or_len (λ x. x == 61) text) = omega arith in
        rw (e, one) (ap (λ l. b ∷ l) (more rest))
