-- The tokens of a text are those of the definition, and so is the tree that they form.
use Rattle.std.proofs.Common.{◌≡◌, ℕ, zero, suc, ◌+◌, ◌-◌, ◌≤◌, ◌<◌, Bool, true, false, List, [], ◌∷◌, ◌++◌, length, refl, sym, ◌∙◌, ap, subst, append-nil, append_assoc, arith, length-append, if◌then◌else◌, Option, Some, None, Result, Ok, Err}
use Rattle.kd_expr.specs.Grammar.{Spells, or_level, Parses}
use Rattle.kd_expr.specs.Lexical.{Lexeme, BadAt, a_blank, Word, NoWord, Scans, finished, blank, token, bad}
use Rattle.kd_expr.specs.Lexing.{cut, tokens_from}
use Rattle.kd_expr.specs.Reading as reading
use Rattle.kd_expr.specs.Reading.{or_at, on_ok, all_read, whole_at}
use Rattle.kd_expr.specs.declared.fault.SyntaxFault.{SyntaxFault}
use Rattle.kd_expr.specs.Tree.{Tree}
use Rattle.kd_expr.proofs.Complete.{any_complete}
use Rattle.kd_expr.proofs.Lexed.{IsCut, cut_sound}
use Rattle.kd_expr.proofs.Options.{none_is, ok_is, err_is}
use Rattle.kd_expr.proofs.Productions.{complete}
use Rattle.kd_expr.proofs.Readings.{any_sound}
use Rattle.kd_expr.proofs.Words.{cut_complete, word_starts}

-- what remains after a word is shorter
pub cut_shorter : (at : ℕ) (bytes : List ℕ) (x : Lexeme) (rest : List ℕ) → ◌≡◌ {A = Option (Lexeme × List ℕ)} (cut at bytes) (Some (x, rest)) → length rest < length bytes
cut_shorter at bytes x rest e =
    let c = cut_sound at bytes x rest e in
    let s = word_starts c.spelled in
    let size : length bytes ≡ length (c.word ++ rest) = ap (λ v. length v) c.is in
    let word : length c.word ≡ length (s.first ∷ s.others) = ap (λ v. length v) s.is in
    omega (arith, size, word, length-append c.word rest)

scans_word : (at : ℕ) (bytes : List ℕ) (x : Lexeme) (rest : List ℕ) (ts : List Lexeme) → IsCut at bytes x rest → Scans (at + (length bytes - length rest)) rest ts → Scans at bytes (x ∷ ts)
scans_word at bytes x rest ts c s =
    let size : length bytes ≡ length (c.word ++ rest) = ap (λ v. length v) c.is in
    let place : at + (length bytes - length rest) ≡ at + length c.word = omega (arith, size, length-append c.word rest) in
    subst (λ v. Scans at v (x ∷ ts)) (sym c.is) (token c.word rest c.spelled (subst (λ v. Scans v rest ts) place s))

-- the tokens after a cut
abbrev after_cut : ℕ → ℕ → List ℕ → Option (Lexeme × List ℕ) → List Lexeme
after_cut k at bytes None = BadAt at ∷ []
after_cut k at bytes (Some x) = x.0 ∷ tokens_from k (at + (length bytes - length x.1)) x.1

-- if nothing is cut off, no word begins
no_word : (at : ℕ) (bytes : List ℕ) → cut at bytes ≡ None → NoWord at bytes
no_word at bytes e word rest x is w = none_is (sym e ∙ (ap (λ v. cut at v) is ∙ cut_complete w))

-- if no word begins, nothing is cut off
nothing_cut : (at : ℕ) (bytes : List ℕ) → NoWord at bytes → cut at bytes ≡ None
nothing_cut at bytes none =
    let here : (o : Option (Lexeme × List ℕ)) → cut at bytes ≡ o → o ≡ None
    = λ o. elim o as (λ o. cut at bytes ≡ o → o ≡ None) [
      | None ↦ λ _. refl
      | Some x ↦ λ is. let c = cut_sound at bytes x.0 x.1 is in absurd (none c.word x.1 x.0 c.is c.spelled)
    ] in
    here (cut at bytes) refl

pub tokens_sound : (k at : ℕ) (bytes : List ℕ) → length bytes ≤ k → Scans at bytes (tokens_from k at bytes)
unfolding tokens_from
tokens_sound zero at [] h = finished
tokens_sound (suc k) at [] h = finished
tokens_sound zero at (b ∷ bytes) h = absurd (omega (arith, h))
tokens_sound (suc k) at (b ∷ bytes) h =
    let word : a_blank b ≡ false → (o : Option (Lexeme × List ℕ)) → cut at (b ∷ bytes) ≡ o → Scans at (b ∷ bytes) (after_cut k at (b ∷ bytes) o)
    = λ solid o. elim o as (λ o. cut at (b ∷ bytes) ≡ o → Scans at (b ∷ bytes) (after_cut k at (b ∷ bytes) o)) [
      | None ↦ λ is. bad solid (no_word at (b ∷ bytes) is)
      | Some x ↦ λ is. scans_word at (b ∷ bytes) x.0 x.1 _ (cut_sound at (b ∷ bytes) x.0 x.1 is)
          (tokens_sound k (at + (length (b ∷ bytes) - length x.1)) x.1 (omega (arith, h, cut_shorter at (b ∷ bytes) x.0 x.1 is)))
    ] in
    let here : (v : Bool) → a_blank b ≡ v → Scans at (b ∷ bytes) (if v then tokens_from k (at + 1) bytes else after_cut k at (b ∷ bytes) (cut at (b ∷ bytes)))
    = λ v. elim v as (λ v. a_blank b ≡ v → Scans at (b ∷ bytes) (if v then tokens_from k (at + 1) bytes else after_cut k at (b ∷ bytes) (cut at (b ∷ bytes)))) [
      | true ↦ λ is. blank is (tokens_sound k (at + 1) bytes (omega (arith, h)))
      | false ↦ λ solid. word solid (cut at (b ∷ bytes)) refl
    ] in
    here (a_blank b) refl

word_scanned : (k at b : ℕ) (word others rest : List ℕ) (x : Lexeme) → word ≡ b ∷ others → a_blank b ≡ false → ◌≡◌ {A = Option (Lexeme × List ℕ)} (cut at (word ++ rest)) (Some (x, rest)) → tokens_from (suc k) at (word ++ rest) ≡ x ∷ tokens_from k (at + length word) rest
unfolding tokens_from
word_scanned k at b word others rest x is no_blank e =
    let bytes_are : word ++ rest ≡ b ∷ (others ++ rest) = ap (λ v. v ++ rest) is in
    let size : length (b ∷ (others ++ rest)) ≡ length word + length rest = ap (λ v. length v) (sym bytes_are) ∙ length-append word rest in
    let place : at + (length (b ∷ (others ++ rest)) - length rest) ≡ at + length word = omega (arith, size) in
    let cut_is : ◌≡◌ {A = Option (Lexeme × List ℕ)} (cut at (b ∷ (others ++ rest))) (Some (x, rest)) = ap (λ v. cut at v) (sym bytes_are) ∙ e in
    rw bytes_are (rw (no_blank, cut_is) (ap (λ v. x ∷ tokens_from k v rest) place))

no_tokens : (k at : ℕ) → tokens_from k at [] ≡ []
unfolding tokens_from
no_tokens zero at = refl
no_tokens (suc k) at = refl

blank_scanned : {ts : List Lexeme} (k at b : ℕ) (bytes : List ℕ) → a_blank b ≡ true → length (b ∷ bytes) ≤ k → ((k : ℕ) → length bytes ≤ k → tokens_from k (at + 1) bytes ≡ ts) → tokens_from k at (b ∷ bytes) ≡ ts
unfolding tokens_from
blank_scanned zero at b bytes is h rec = absurd (omega (arith, h))
blank_scanned (suc k) at b bytes is h rec = rw is (rec k (omega (arith, h)))

token_scanned : (k at : ℕ) (word rest : List ℕ) (x : Lexeme) (ts : List Lexeme) → Word at word rest x → length (word ++ rest) ≤ k → ((k : ℕ) → length rest ≤ k → tokens_from k (at + length word) rest ≡ ts) → tokens_from k at (word ++ rest) ≡ x ∷ ts
token_scanned zero at word rest x ts w h rec =
    let s = word_starts w in
    let size : length word ≡ length (s.first ∷ s.others) = ap (λ v. length v) s.is in
    absurd (omega (arith, h, size, length-append word rest))
token_scanned (suc k) at word rest x ts w h rec =
    let s = word_starts w in
    let size : length word ≡ length (s.first ∷ s.others) = ap (λ v. length v) s.is in
    word_scanned k at s.first word s.others rest x s.is s.no_blank (cut_complete w) ∙ ap (λ v. x ∷ v) (rec k (omega (arith, h, size, length-append word rest)))

bad_scanned : (k at b : ℕ) (bytes : List ℕ) → a_blank b ≡ false → cut at (b ∷ bytes) ≡ None → length (b ∷ bytes) ≤ k → tokens_from k at (b ∷ bytes) ≡ BadAt at ∷ []
unfolding tokens_from
bad_scanned zero at b bytes solid e h = absurd (omega (arith, h))
bad_scanned (suc k) at b bytes solid e h = rw (solid, e) refl

pub tokens_complete : {at : ℕ} {bytes : List ℕ} {ts : List Lexeme} → Scans at bytes ts → (k : ℕ) → length bytes ≤ k → tokens_from k at bytes ≡ ts
tokens_complete finished k h = no_tokens k _
tokens_complete (blank {at = at} {b = b} {bytes = bytes} is s) k h = blank_scanned k at b bytes is h (tokens_complete s)
tokens_complete (token {at = at} word rest {x = x} {ts = ts} w s) k h = token_scanned k at word rest x ts w h (tokens_complete s)
tokens_complete (bad {at = at} {b = b} {bytes = bytes} solid none) k h = bad_scanned k at b bytes solid (nothing_cut at (b ∷ bytes) none) h

-- what comes of a reader's result
record Came {A B : Type 0} (o : Result A SyntaxFault) (f : A → Result B SyntaxFault) (b : B) : Type 0 where
  first : A
  is : o ≡ Ok first
  gives : f first ≡ Ok b

came_from : {A B : Type 0} (o : Result A SyntaxFault) (f : A → Result B SyntaxFault) (b : B) → on_ok o f ≡ Ok b → Came o f b
came_from (Err fault) f b e = err_is e
came_from (Ok a) f b e = record { first = a; is = refl; gives = e }

no_tokens_left : (t u : Tree) (left : List Lexeme) → all_read t left ≡ Ok u → (left ≡ []) × (t ≡ u)
no_tokens_left t u [] e = (refl, ok_is e)
no_tokens_left t u (x ∷ left) e = err_is e

-- a tree that is read from all tokens is one that they form
pub whole_sound : (end : ℕ) (ts : List Lexeme) (t : Tree) → whole_at end ts ≡ Ok t → Spells or_level 64 ts t
unfolding whole_at
whole_sound end ts t e =
    let c = came_from (or_at (reading.below 64) end ts) _ t e in
    let last = no_tokens_left c.first.0 t c.first.1 c.gives in
    let takes = any_sound 64 end ts c.first.0 c.first.1 c.is in
    let all : ts ≡ takes.front = takes.is ∙ (ap (λ v. takes.front ++ v) last.0 ∙ append-nil takes.front) in
    subst (λ v. Spells or_level 64 v t) (sym all) (subst (λ v. Spells or_level 64 takes.front v) last.1 takes.holds)

-- a tree that tokens form is read from them
pub whole_complete : (end : ℕ) (ts : List Lexeme) (t : Tree) → Spells or_level 64 ts t → whole_at end ts ≡ Ok t
unfolding whole_at
whole_complete end ts t s =
    rw (subst (λ v. ◌≡◌ {A = Result (Tree × List Lexeme) SyntaxFault} (or_at (reading.below 64) end v) (Ok (t, []))) (append-nil ts) (any_complete (complete s) end [] (record { compare = record { no_plus = refl; no_equal = refl }; no_and = refl; no_or = refl }))) refl

-- the tree of a text, computed
pub parse_sound : (text : List ℕ) (t : Tree) → length text ≤ 4096 → whole_at (length text) (tokens_from (length text) 0 text) ≡ Ok t → Parses text t
parse_sound text t short e =
    record {
      short = short;
      tokens = tokens_from (length text) 0 text;
      scanned = tokens_sound (length text) 0 text (omega arith);
      spelled = whole_sound (length text) (tokens_from (length text) 0 text) t e;
    }

pub parse_complete : (text : List ℕ) (t : Tree) → Parses text t → whole_at (length text) (tokens_from (length text) 0 text) ≡ Ok t
parse_complete text t p = ap (λ v. whole_at (length text) v) (tokens_complete p.scanned (length text) (omega arith)) ∙ whole_complete (length text) p.tokens t p.spelled

-- the tokens so far and those of the remaining bytes are all tokens
abbrev pub Left : List Lexeme → ℕ → List ℕ → List Lexeme → Type 0
Left done at rest all = (k : ℕ) × (length rest ≤ k) × (done ++ tokens_from k at rest ≡ all)

blank_at : (done : List Lexeme) (at b : ℕ) (bytes : List ℕ) (all : List Lexeme) (k : ℕ) → length (b ∷ bytes) ≤ k → a_blank b ≡ true → done ++ tokens_from k at (b ∷ bytes) ≡ all → Left done (at + 1) bytes all
unfolding tokens_from
blank_at done at b bytes all zero h is e = absurd (omega (arith, h))
blank_at done at b bytes all (suc k) h is e =
    let step : tokens_from (suc k) at (b ∷ bytes) ≡ tokens_from k (at + 1) bytes = rw is refl in
    (k, omega (arith, h), ap (λ v. done ++ v) (sym step) ∙ e)

pub blank_left : (done : List Lexeme) (at b : ℕ) (bytes rest : List ℕ) (all : List Lexeme) → rest ≡ b ∷ bytes → a_blank b ≡ true → Left done at rest all → Left done (at + 1) bytes all
blank_left done at b bytes rest all is there l =
    let here : Left done at (b ∷ bytes) all = subst (λ v. Left done at v all) is l in
    blank_at done at b bytes all here.0 here.1 there here.2

word_left_at : (done : List Lexeme) (at b : ℕ) (bytes : List ℕ) (x : Lexeme) (after : List ℕ) (all : List Lexeme) (k : ℕ) → length (b ∷ bytes) ≤ k → a_blank b ≡ false → ◌≡◌ {A = Option (Lexeme × List ℕ)} (cut at (b ∷ bytes)) (Some (x, after)) → done ++ tokens_from k at (b ∷ bytes) ≡ all → Left (done ++ x ∷ []) (at + (length (b ∷ bytes) - length after)) after all
unfolding tokens_from
word_left_at done at b bytes x after all zero h is e f = absurd (omega (arith, h))
word_left_at done at b bytes x after all (suc k) h is e f =
    let step : tokens_from (suc k) at (b ∷ bytes) ≡ x ∷ tokens_from k (at + (length (b ∷ bytes) - length after)) after = rw (is, e) refl in
    (k, omega (arith, h, cut_shorter at (b ∷ bytes) x after e), append_assoc done (x ∷ []) (tokens_from k (at + (length (b ∷ bytes) - length after)) after) ∙ (ap (λ v. done ++ v) (sym step) ∙ f))

pub word_left : (done : List Lexeme) (at b : ℕ) (bytes rest : List ℕ) (x : Lexeme) (after : List ℕ) (all : List Lexeme) → rest ≡ b ∷ bytes → a_blank b ≡ false → ◌≡◌ {A = Option (Lexeme × List ℕ)} (cut at rest) (Some (x, after)) → Left done at rest all → Left (done ++ x ∷ []) (at + (length rest - length after)) after all
word_left done at b bytes rest x after all is no_blank e l =
    let here : Left done at (b ∷ bytes) all = subst (λ v. Left done at v all) is l in
    subst (λ v. Left (done ++ x ∷ []) (at + (length v - length after)) after all) (sym is)
    (word_left_at done at b bytes x after all here.0 here.1 no_blank (ap (λ v. cut at v) (sym is) ∙ e) here.2)

bad_left_at : (done : List Lexeme) (at b : ℕ) (bytes : List ℕ) (all : List Lexeme) (k : ℕ) → length (b ∷ bytes) ≤ k → a_blank b ≡ false → cut at (b ∷ bytes) ≡ None → done ++ tokens_from k at (b ∷ bytes) ≡ all → done ++ BadAt at ∷ [] ≡ all
unfolding tokens_from
bad_left_at done at b bytes all zero h is e f = absurd (omega (arith, h))
bad_left_at done at b bytes all (suc k) h is e f =
    let step : tokens_from (suc k) at (b ∷ bytes) ≡ BadAt at ∷ [] = rw (is, e) refl in
    ap (λ v. done ++ v) (sym step) ∙ f

pub bad_left : (done : List Lexeme) (at b : ℕ) (bytes rest : List ℕ) (all : List Lexeme) → rest ≡ b ∷ bytes → a_blank b ≡ false → cut at rest ≡ None → Left done at rest all → done ++ BadAt at ∷ [] ≡ all
bad_left done at b bytes rest all is no_blank e l =
    let here : Left done at (b ∷ bytes) all = subst (λ v. Left done at v all) is l in
    bad_left_at done at b bytes all here.0 here.1 no_blank (ap (λ v. cut at v) (sym is) ∙ e) here.2

nothing_is : (rest : List ℕ) → length rest ≡ 0 → rest ≡ []
nothing_is [] h = refl
nothing_is (b ∷ rest) h = absurd (omega (arith, h))

pub end_left : (done : List Lexeme) (at : ℕ) (rest : List ℕ) (all : List Lexeme) → length rest ≡ 0 → Left done at rest all → done ≡ all
end_left done at rest all is l =
    let here : Left done at [] all = subst (λ v. Left done at v all) (nothing_is rest is) l in
    sym (append-nil done) ∙ (ap (λ v. done ++ v) (sym (no_tokens here.0 at)) ∙ here.2)
