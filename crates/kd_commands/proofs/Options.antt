-- Which arguments clap takes for the options and flags of a subcommand.
use Rattle.std.proofs.Common.{◌≡◌, ◌⊎◌, ◌∙◌, ap, refl, subst, sym, inl, inr, ℕ, suc, ◌+◌, arith, true, false, Bool, List, [], ◌∷◌, ◌++◌, codes, fold, Option, Some, None, append_assoc}
use Rattle.std.specs.Prelude.{◌==◌, ◌&&◌, if◌then◌else◌, not}
use Rattle.std.specs.List.{after_first, before_first, list_any, position_or_len}
use Rattle.std.specs.Str.{bytes_eq, IsUtf8}
use Rattle.std.proofs.lemmas.Bool.{eqb-true}
use Rattle.clap.specs.Lexer.{has_byte, long_of, name_and_value}
use Rattle.clap.specs.Words.{Row, Rule, Text}
use Rattle.clap.specs.Walk.{Held, arg_by_id, arg_by_long, with_default}
use Rattle.clap.specs.Simple.{filled, with_index}
use Rattle.clap.specs.Takes.{is_given}
use Rattle.clap.specs.Faults.{defaults_fault, flag_word_fault, long_fault, option_fault, react_fault}
use Rattle.clap.specs.declared.error.kind.ErrorKind.TheVariants.{TooManyValues}
use Rattle.kd_commands.specs.Line.{IsOneOf, is_flag}
use Rattle.kd_commands.specs.Order.{flag_rule, needed_rule, value_rule}
use Rattle.kd_commands.proofs.Flags.{ShortsFail, bundle_fails, help_built, long_fails, whole_before}

-- an option, as clap builds it, and whether it is required
abbrev pub built_of : Bool → Text → Rule
built_of needed name = record (with_index 1 (filled (value_rule name))) { required = needed }

-- a flag, as clap builds it
abbrev pub flag_of : Text → Rule
flag_of name = with_index 1 (filled (flag_rule name))

-- a text that is required, as clap builds it at its place
abbrev pub text_built : ℕ → Text → Rule
text_built place id = with_index place (filled (needed_rule id))

-- the option's argument, without and with a value
abbrev pub alone : Text → Text
alone name = codes "--" ++ name

abbrev pub joined : Text → Text → Text
joined name value = codes "--" ++ name ++ codes "=" ++ value

-- ---- the rules of a subcommand

-- the rules have an option of this name
pub record IsOption (c : List Rule) (name : Text) : Type 0 where
  pub needed : Bool
  pub by_id : arg_by_id c name ≡ Some (built_of needed name)
  pub by_long : arg_by_long c name ≡ Some (built_of needed name)
  pub alone_is : long_of (alone name) ≡ Some (name, None)
  pub joined_is : (value : Text) → long_of (joined name value) ≡ Some (name, Some value)
  pub alone_apart : bytes_eq (alone name) (45 ∷ 45 ∷ []) ≡ false
  pub joined_apart : (value : Text) → bytes_eq (joined name value) (45 ∷ 45 ∷ []) ≡ false

-- the rules have a flag of this name
pub record IsFlag (c : List Rule) (name : Text) : Type 0 where
  pub by_long : arg_by_long c name ≡ Some (flag_of name)
  pub alone_is : long_of (alone name) ≡ Some (name, None)
  pub alone_apart : bytes_eq (alone name) (45 ∷ 45 ∷ []) ≡ false

-- what a name after two hyphens may be
abbrev pub Known : List Text → List Text → Text → Option Rule → Type 0
Known names flags n o = (o ≡ None) ⊎ ((o ≡ Some help_built) ⊎ ((IsOneOf n names × ((needed : Bool) × (o ≡ Some (built_of needed n))))
    ⊎ (IsOneOf n flags × (o ≡ Some (flag_of n)))))

-- the rules are options and flags of these names and the flags for help, and the needed ones are
-- required
pub record AreRules (names flags wanted : List Text) (c : List Rule) : Type 0 where
  pub option : (n : Text) → IsOneOf n names → IsOption c n
  pub flag : (n : Text) → IsOneOf n flags → IsFlag c n
  pub long : (n : Text) → Known names flags n (arg_by_long c n)
  pub short : ShortsFail c
  pub defaults : (rows : List Row) → defaults_fault rows c ≡ []
  pub needs : (rows : List Row) → list_any (λ a. a.required && not (is_given a.id (fold with_default rows c))) c ≡ list_any (λ n. not (is_given n rows)) wanted

-- ---- an argument

-- a text with `=` (61) is what comes before the first, and what comes after it
around : (text : Text) → has_byte 61 text ≡ true → text ≡ before_first (λ x. x == 61) text ++ 61 ∷ after_first (λ x. x == 61) text
around [] h = cc
around (b ∷ text) h = go (b == 61) refl (around text)
  where
    go : (t : Bool) → (b == 61) ≡ t → (has_byte 61 text ≡ true → text ≡ before_first (λ x. x == 61) text ++ 61 ∷ after_first (λ x. x == 61) text)
        → b ∷ text ≡ before_first (λ x. x == 61) (b ∷ text) ++ 61 ∷ after_first (λ x. x == 61) (b ∷ text)
    go true e more = let is : b ≡ 61 = eqb-true b 61 e in rw e (ap (λ x. x ∷ text) is)
    go false e more =
        let rest : has_byte 61 text ≡ true = rw e at h in
        let one : 1 + position_or_len (λ x. x == 61) text ≡ suc (position_or_len (λ x. x == 61) text) = omega arith in
        let two : 1 + position_or_len (λ x. x == 61) text + 1 ≡ suc (position_or_len (λ x. x == 61) text + 1) = omega arith in
        rw (e, two, one) (ap (λ l. b ∷ l) (more rest))

pub is_joined_word : (n value : Text) → codes "--" ++ (n ++ 61 ∷ value) ≡ joined n value
is_joined_word n value = ap (λ l. codes "--" ++ l) (sym (append_assoc n (codes "=") value))

module _ (names flags wanted : List Text) (c : List Rule) (ours : AreRules names flags wanted c) where
  -- what an argument is that does not fail: `--`, no flag, an option, with or without a value, or a
  -- flag
  pub data IsMet (h : Held) (word : Text) : Type 0 where
    dashes : word ≡ codes "--" → IsMet h word
    plain : is_flag word ≡ false → IsMet h word
    is_alone : (n : Text) (needed : Bool) → IsOneOf n names → word ≡ alone n → option_fault c false (built_of needed n) None h ≡ [] → IsMet h word
    is_raised : (n : Text) → IsOneOf n flags → word ≡ alone n → react_fault c false (flag_of n) [] h ≡ [] → IsMet h word
    is_joined : (n value : Text) (needed : Bool) → IsOneOf n names → word ≡ joined n value → option_fault c false (built_of needed n) (Some value) h ≡ [] → IsMet h word

  -- after two hyphens
  long_met : (text : Text) (h : Held) → long_fault c false (arg_by_long c (name_and_value text).0) (name_and_value text).1 h ≡ [] → IsMet h (codes "--" ++ text)
  long_met text h none = go (has_byte 61 text) refl (ours.long (name_and_value text).0)
    where
      go : (t : Bool) → has_byte 61 text ≡ t → Known names flags (name_and_value text).0 (arg_by_long c (name_and_value text).0) → IsMet h (codes "--" ++ text)
      go t e (inl unknown) = absurd (long_fails c _ _ h (inl unknown) none)
      go t e (inr (inl help)) = absurd (long_fails c _ _ h (inr help) none)
      go true e (inr (inr (inl (is, (needed, own))))) =
          let at_own = subst (λ o. long_fault c false o (name_and_value text).1 h ≡ []) own none in
          let n = (name_and_value text).0 in
          let value = after_first (λ b. b == 61) text in
          let fault : option_fault c false (built_of needed n) (Some value) h ≡ [] = rw e at at_own in
          is_joined n value needed is (ap (λ l. codes "--" ++ l) (around text e) ∙ is_joined_word n value) fault
      go true e (inr (inr (inr (is, own)))) =
          let at_own = subst (λ o. long_fault c false o (name_and_value text).1 h ≡ []) own none in
          let bad : TooManyValues ∷ [] ≡ [] = rw e at at_own in
          cc
      go false e (inr (inr (inr (is, own)))) =
          let at_own = subst (λ o. long_fault c false o (name_and_value text).1 h ≡ []) own none in
          let n = (name_and_value text).0 in
          let fault : react_fault c false (flag_of n) [] h ≡ [] = rw e at at_own in
          is_raised n is (ap (λ l. codes "--" ++ l) (sym (whole_before text e))) fault
      go false e (inr (inr (inl (is, (needed, own))))) =
          let at_own = subst (λ o. long_fault c false o (name_and_value text).1 h ≡ []) own none in
          let n = (name_and_value text).0 in
          let fault : option_fault c false (built_of needed n) None h ≡ [] = rw e at at_own in
          is_alone n needed is (ap (λ l. codes "--" ++ l) (sym (whole_before text e))) fault

  -- after a hyphen
  hyphen_met : (d : ℕ) (rest : Text) (h : Held) → h.skip ≡ 0 → IsUtf8 (45 ∷ d ∷ rest)
      → (if bytes_eq (45 ∷ d ∷ rest) (45 ∷ 45 ∷ []) then [] else flag_word_fault c false (long_of (45 ∷ d ∷ rest)) (45 ∷ d ∷ rest) h) ≡ []
      → IsMet h (45 ∷ d ∷ rest)
  hyphen_met d rest h start text none = go (d == 45) refl
    where
      long : (rest2 : Text) → d ≡ 45 → rest2 ≡ rest → IsMet h (45 ∷ d ∷ rest)
      long [] e same = dashes (rw (e, ← same) refl)
      long (y ∷ ys) e same =
          let at_text : long_fault c false (arg_by_long c (name_and_value (y ∷ ys)).0) (name_and_value (y ∷ ys)).1 h ≡ [] = rw (e, ← same) at none in
          rw (e, ← same) (long_met (y ∷ ys) h at_text)

      go : (t : Bool) → (d == 45) ≡ t → IsMet h (45 ∷ d ∷ rest)
      go true e = long rest (eqb-true d 45 e) refl
      go false e = absurd (bundle_fails c ours.short d rest h start text (let once = rw e at none in rw e at once))

  pub met_of : (w : Text) (h : Held) → h.skip ≡ 0 → IsUtf8 w
      → (if bytes_eq w (45 ∷ 45 ∷ []) then [] else flag_word_fault c false (long_of w) w h) ≡ [] → IsMet h w
  met_of [] h start text none = plain refl
  met_of (b ∷ []) h start text none = plain refl
  met_of (b ∷ d ∷ rest) h start text none = go (b == 45) refl
    where
      go : (t : Bool) → (b == 45) ≡ t → IsMet h (b ∷ d ∷ rest)
      go true e =
          let is : b ≡ 45 = eqb-true b 45 e in
          subst (λ x. IsMet h (x ∷ d ∷ rest)) (sym is) (hyphen_met d rest h start (subst (λ x. IsUtf8 (x ∷ d ∷ rest)) is text)
          (subst (λ x. (if bytes_eq (x ∷ d ∷ rest) (45 ∷ 45 ∷ []) then [] else flag_word_fault c false (long_of (x ∷ d ∷ rest)) (x ∷ d ∷ rest) h) ≡ []) is none))
      go false e = plain e
