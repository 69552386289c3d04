-- The fault that is returned is the first of the text.
use Rattle.std.proofs.Common.{◌≡◌, ◌≢◌, ◌⊎◌, inl, inr, ℕ, ◌≤◌, Result, Ok, Err, List, [], ◌∷◌, ◌++◌, length, refl, sym, ◌∙◌, ap, subst, append_assoc, append-nil, arith}
use Rattle.kd_expr.specs.Faults.{outer_fault}
use Rattle.kd_expr.specs.FirstFault.{token_place, IsLike, BeginsSome, BeginsNoneWithin, BeginsNever, bad_token, unexpected, too_large, too_low, unknown, nested, IsFaultAfter, IsTextFault}
use Rattle.kd_expr.specs.Grammar.{Spells, or_level}
use Rattle.kd_expr.specs.Lexical.{Lexeme}
use Rattle.kd_expr.specs.Lexing.{tokens_from}
use Rattle.kd_expr.specs.Reading.{or_at, below, on_ok, all_read, whole_at}
use Rattle.kd_expr.specs.Refusals.{refusal_of}
use Rattle.kd_expr.specs.Tree.{Tree}
use Rattle.kd_expr.specs.declared.fault.ExprFault.TheVariants as outside
use Rattle.kd_expr.specs.declared.fault.SyntaxFault.{SyntaxFault}
use Rattle.kd_expr.specs.declared.fault.SyntaxFault.TheVariants as faults
use Rattle.kd_expr.proofs.Faulty as faulty
use Rattle.kd_expr.proofs.Complete.{any_complete}
use Rattle.kd_expr.proofs.Faulty.{Begins, Refused, Comes, Follows, Stays, likes, nothing, token, comes, refusal_is, refusal_like}
use Rattle.kd_expr.proofs.Productions.{complete}
use Rattle.kd_expr.proofs.Options.{err_is, fault_is}
use Rattle.kd_expr.proofs.Texts.{tokens_sound}
use Rattle.kd_expr.proofs.Viable.{raised, more_nested, more_is, any_good}

-- the tree of all tokens, where n more may be nested
abbrev whole_in : ℕ → ℕ → List Lexeme → Result Tree SyntaxFault
whole_in n end ts = on_ok (or_at (below n) end ts) (λ x. all_read x.0 x.1)

whole_spelled : (n end : ℕ) (ts : List Lexeme) (t : Tree) → Spells or_level n ts t → whole_in n end ts ≡ Ok t
whole_spelled n end ts t s =
    rw (subst (λ v. ◌≡◌ {A = Result (Tree × List Lexeme) SyntaxFault} (or_at (below n) end v) (Ok (t, []))) (append-nil ts) (any_complete (complete s) end [] (record { compare = record { no_plus = refl; no_equal = refl }; no_and = refl; no_or = refl }))) refl

-- after some tokens the rest is refused, and so is what may replace it, whatever follows
abbrev Again : ℕ → List Lexeme → List Lexeme → SyntaxFault → Type 0
Again end before left fault = (j : ℕ) (us : List Lexeme) → Follows (Stays j fault) left us → ◌≡◌ {A = Result Tree SyntaxFault} (whole_in (more_nested 64 j) end (before ++ us)) (Err fault)

-- all tokens are refused
record Refuses (end : ℕ) (ts : List Lexeme) (fault : SyntaxFault) : Type 0 where
  before : List Lexeme
  left : List Lexeme
  parts : ts ≡ before ++ left
  begins : Begins (Spells or_level 65) before
  refused : Refused (Begins (Spells or_level 65)) end before left fault
  again : Again end before left fault

-- a tree is no fault
no_fault : {C : Type 0} {tree : Tree} {fault : SyntaxFault} → ◌≡◌ {A = Result Tree SyntaxFault} (Ok tree) (Err fault) → C
no_fault e = absurd (cc)

follows_like : (j : ℕ) (fault : SyntaxFault) (ts us : List Lexeme) → Follows (Stays j fault) ts us → Follows IsLike ts us
follows_like j fault _ _ nothing = nothing
follows_like j fault _ _ (token {x = x} {y = y} ts us l) = token ts us (likes j fault x y l)

-- the first remaining token is refused, whatever follows it
left_again : (tree : Tree) (x : Lexeme) (rest us : List Lexeme) (fault : SyntaxFault) → Follows IsLike (x ∷ rest) us → refusal_of x ≡ fault → ◌≡◌ {A = Result Tree SyntaxFault} (all_read tree us) (Err fault)
left_again tree _ rest _ fault (token {x = x} {y = y} ts us l) is = ap (λ v. Err v) (refusal_like x y l ∙ is)

-- what remains after an expression is refused
left_over : (end : ℕ) (ts : List Lexeme) (fault : SyntaxFault) (tree : Tree) (rest : List Lexeme) (c : faulty.Read (Spells or_level 65) (λ j. or_at (below (more_nested 64 j))) end ts tree rest) → ◌≡◌ {A = Result Tree SyntaxFault} (all_read tree rest) (Err fault) → Refuses end ts fault
left_over end ts fault tree [] c e = no_fault e
left_over end ts fault tree (x ∷ rest) c e =
    let is : refusal_of x ≡ fault = fault_is e in
    record {
      before = c.front;
      left = x ∷ rest;
      parts = c.is;
      begins = ([], tree, subst (λ v. Spells or_level 65 v tree) (sym (append-nil c.front)) c.holds);
      refused = subst (λ v. Refused (Begins (Spells or_level 65)) end c.front (x ∷ rest) v) is (refusal_is (Begins (Spells or_level 65)) end x rest);
      again = λ j us fo. let like = follows_like j fault (x ∷ rest) us fo in
          ap (λ (v : Result (Tree × List Lexeme) SyntaxFault). on_ok v (λ y. all_read y.0 y.1)) (c.again j us like) ∙ left_again tree x rest us fault like is;
    }

-- a fault of the reader is one of all tokens
stopped : (end : ℕ) (ts : List Lexeme) (fault : SyntaxFault) → faulty.Stopped (Spells or_level 65) (λ j. or_at (below (more_nested 64 j))) end ts fault → Refuses end ts fault
stopped end ts fault c = record {
  before = c.front;
  left = c.left;
  parts = c.is;
  begins = c.begins;
  refused = c.refused;
  again = λ j us fo. ap (λ (v : Result (Tree × List Lexeme) SyntaxFault). on_ok v (λ y. all_read y.0 y.1)) (c.again j us fo);
}

refuses : (end : ℕ) (ts : List Lexeme) (fault : SyntaxFault) → ◌≡◌ {A = Result Tree SyntaxFault} (whole_at end ts) (Err fault) → Refuses end ts fault
unfolding whole_at
refuses end ts fault e =
    let at : (answer : Result (Tree × List Lexeme) SyntaxFault) → Comes (Spells or_level 65) (λ j. or_at (below (more_nested 64 j))) end ts answer → ◌≡◌ {A = Result Tree SyntaxFault} (on_ok answer (λ x. all_read x.0 x.1)) (Err fault) → Refuses end ts fault
    = λ answer. elim answer as (λ v. Comes (Spells or_level 65) (λ j. or_at (below (more_nested 64 j))) end ts v → ◌≡◌ {A = Result Tree SyntaxFault} (on_ok v (λ x. all_read x.0 x.1)) (Err fault) → Refuses end ts fault) [
      | Ok x ↦ λ c k. left_over end ts fault x.0 x.1 c k
      | Err other ↦ λ c k. subst (λ v. Refuses end ts v) (fault_is k) (stopped end ts other c)
    ] in
    at (or_at (below 64) end ts) (comes (Spells or_level 65) (or_at (below 64)) (λ j. or_at (below (more_nested 64 j))) (any_good 64) end ts) e

-- what begins with one more level of nesting
some_of : (us : List Lexeme) → Begins (Spells or_level 65) us → BeginsSome us
some_of us b = b

-- no expression begins with a token that stays refused
none_of : (end : ℕ) (before : List Lexeme) (x : Lexeme) (after : List Lexeme) (fault : SyntaxFault) → Again end before (x ∷ after) fault → (n j : ℕ) → n ≤ more_nested 64 j → (y : Lexeme) → Stays j fault x y → BeginsNoneWithin n (before ++ y ∷ [])
none_of end before x after fault again n j deep y stays more tree s =
    let spelled : Spells or_level (more_nested 64 j) (before ++ y ∷ more) tree = raised (more_nested 64 j) deep (subst (λ v. Spells or_level n v tree) (append_assoc before (y ∷ []) more) s) in
    err_is (sym (again j (y ∷ more) (token after more stays)) ∙ whole_spelled (more_nested 64 j) end (before ++ y ∷ more) tree spelled)

never_of : (end : ℕ) (before : List Lexeme) (x : Lexeme) (after : List Lexeme) (fault : SyntaxFault) → Again end before (x ∷ after) fault → (y : Lexeme) → ((j : ℕ) → Stays j fault x y) → BeginsNever (before ++ y ∷ [])
never_of end before x after fault again y stays n = let size = more_is 64 n in none_of end before x after fault again n n (omega (arith, size)) y (stays n)

none_whole : (end : ℕ) (before : List Lexeme) (fault : SyntaxFault) → Again end before [] fault → (n : ℕ) (tree : Tree) → Spells or_level n before tree → ⊥
none_whole end before fault again n tree s =
    let size = more_is 64 n in
    let m : ℕ = more_nested 64 n in
    let same : ◌≡◌ {A = Result Tree SyntaxFault} (whole_in m end before) (Err fault) = ap (λ v. whole_in m end v) (sym (append-nil before)) ∙ again n [] nothing in
    err_is (sym same ∙ whole_spelled m end before tree (raised m (omega (arith, size)) s))

fault_after : (end : ℕ) (before left : List Lexeme) (fault : SyntaxFault) → Refused (Begins (Spells or_level 65)) end before left fault → Again end before left fault → IsFaultAfter before left end (outer_fault fault)
fault_after end before _ _ faulty.at_end again = (none_whole end before (faults.Expected end) again, refl)
fault_after end before _ _ (faulty.bad at ts) again = bad_token (never_of end before _ ts (faults.BadToken at) again _ (λ j. refl))
fault_after end before _ _ (faulty.unexpected x ts fine) again = unexpected fine (λ y l. never_of end before x ts (faults.Expected (token_place x)) again y (λ j. l))
fault_after end before _ _ (faulty.too_large at k m ts b) again = too_large m (never_of end before _ ts (faults.NumberTooLarge at) again _ (λ j. refl)) (some_of _ b)
fault_after end before _ _ (faulty.too_low at k m ts b) again = too_low m (never_of end before _ ts (faults.NumberTooLarge at) again _ (λ j. refl)) (some_of _ b)
fault_after end before _ _ (faulty.unknown at code name known ts e b) again = unknown code known (never_of end before _ ts (faults.UnknownName at) again _ (λ j. refl)) e (some_of _ b)
fault_after end before _ _ (faulty.nested x ts fine b) again =
    let size = more_is 64 0 in
    nested fine (none_of end before x ts (faults.TooNested (token_place x)) again 64 0 (omega (arith, size)) x (refl, refl)) (some_of _ b)

first_of : (text : List ℕ) (fault : SyntaxFault) → ◌≡◌ {A = Result Tree SyntaxFault} (whole_at (length text) (tokens_from (length text) 0 text)) (Err fault) → IsTextFault text (outer_fault fault)
first_of text fault e =
    let r = refuses (length text) (tokens_from (length text) 0 text) fault e in
    record {
      tokens = tokens_from (length text) 0 text;
      scanned = tokens_sound (length text) 0 text (omega arith);
      before = r.before;
      left = r.left;
      parts = r.parts;
      begins = some_of r.before r.begins;
      is = fault_after (length text) r.before r.left fault r.refused r.again;
    }

-- the fault that is returned, unless memory ran out
pub first_fault : (text : List ℕ) (fault : SyntaxFault) → (fault ≢ faults.Memory → ◌≡◌ {A = Result Tree SyntaxFault} (whole_at (length text) (tokens_from (length text) 0 text)) (Err fault)) → (outer_fault fault ≡ outside.Memory) ⊎ ((outer_fault fault ≡ outside.TooLong) ⊎ IsTextFault text (outer_fault fault))
first_fault text faults.Memory h = inl refl
first_fault text (faults.BadToken at) h = inr (inr (first_of text (faults.BadToken at) (h (λ e. cc))))
first_fault text (faults.Expected at) h = inr (inr (first_of text (faults.Expected at) (h (λ e. cc))))
first_fault text (faults.NumberTooLarge at) h = inr (inr (first_of text (faults.NumberTooLarge at) (h (λ e. cc))))
first_fault text (faults.TooNested at) h = inr (inr (first_of text (faults.TooNested at) (h (λ e. cc))))
first_fault text (faults.UnknownName at) h = inr (inr (first_of text (faults.UnknownName at) (h (λ e. cc))))
