-- What the grammar allows, the reader of tokens gives: by recursion on the derivation.
use Rattle.std.proofs.Common.{◌≡◌, ℕ, zero, suc, ◌≤◌, ◌<◌, ◌^◌, ℤ, true, Option, Some, None, Result, Ok, Err, List, [], ◌∷◌, ◌++◌, length, refl, sym, ◌∙◌, subst, append_assoc, length-append, codes, nat_lt, arith, lt-ltb, le-leb}
use Rattle.kd_expr.specs.Grammar.{Level, or_level, and_level, not_level, compare_level, sum_level, primary_level, IsOptionCode, code_number, code_name, IsSigned, plain, below, IsLength, counted, whole}
use Rattle.kd_expr.specs.Lexical.{Lexeme, StringAt, SignAt}
use Rattle.kd_expr.specs.Reading as reading
use Rattle.kd_expr.specs.Reading.{Reader, Deeper, on_ok, seq, either, one, done, sign_at, word_at, sign_here, word_here, code_of_option, code_of_relay, field_of, signed, length_of_part, class_name, bracketed, option_at, relay_at, field_after, packet_at, member_at, operand_then, operand_in_brackets, group_at, operands_in_brackets, ifelse_at, substring_after, form_at, named_at, primary_at, sum_of, and_of, or_of, sum_at, compare_at, not_at, and_at, or_at, operands_joined, chain}
use Rattle.kd_expr.specs.declared.fault.SyntaxFault.{SyntaxFault}
use Rattle.kd_expr.specs.Tree.{Tree, Member, Group, IfElse, Substring}
use Rattle.kd_expr.proofs.Options.{ok_pair, err_is}

-- the reader gives this, and leaves the rest
abbrev pub Answers : {A : Type 0} → Result (A × List Lexeme) SyntaxFault → A → List Lexeme → Type 0
Answers {A} o a rest = ◌≡◌ {A = Result (A × List Lexeme) SyntaxFault} o (Ok (a, rest))

-- the reader gives this fault
abbrev pub Refuses : {A : Type 0} → Result (A × List Lexeme) SyntaxFault → SyntaxFault → Type 0
Refuses {A} o fault = ◌≡◌ {A = Result (A × List Lexeme) SyntaxFault} o (Err fault)

-- the first token is of this kind, and the rest follows
abbrev pub Finds : {A : Type 0} → (Lexeme → Option A) → List Lexeme → A → List Lexeme → Type 0
Finds {A} test ts a rest = ◌≡◌ {A = Option (A × List Lexeme)} (one test ts) (Some (a, rest))

-- the first token is not of this kind
abbrev pub Misses : {A : Type 0} → (Lexeme → Option A) → List Lexeme → Type 0
Misses {A} test ts = ◌≡◌ {A = Option (A × List Lexeme)} (one test ts) None

-- a chain's loop is after the tokens, with this in hand
pub record InHand (r : Reader Tree) (next : Lexeme → Option ℕ) (operand : Reader Tree) (join : Tree → Tree → Tree) (end : ℕ) (ts rest : List Lexeme) (t : Tree) : Type 0 where
  pub count : ℕ
  pub enough : length rest ≤ count
  pub is : r end ts ≡ operands_joined next operand join count t end rest

pub joined_ends : (next : Lexeme → Option ℕ) (operand : Reader Tree) (join : Tree → Tree → Tree) (k : ℕ) (t : Tree) (end : ℕ) (rest : List Lexeme) → Misses next rest → Answers (operands_joined next operand join k t end rest) t rest
unfolding operands_joined
joined_ends next operand join zero t end rest e = refl
joined_ends next operand join (suc k) t end rest e = rw e refl

pub hand_ends : {r : Reader Tree} {next : Lexeme → Option ℕ} {operand : Reader Tree} {join : Tree → Tree → Tree} {end : ℕ} {ts rest : List Lexeme} {t : Tree} → InHand r next operand join end ts rest t → Misses next rest → Answers (r end ts) t rest
hand_ends {r} {next} {operand} {join} {end} {ts} {rest} {t} h e = h.is ∙ joined_ends next operand join h.count t end rest e

pub chain_one : (next : Lexeme → Option ℕ) (operand : Reader Tree) (join : Tree → Tree → Tree) (end : ℕ) (ts rest : List Lexeme) (t : Tree) → Answers (operand end ts) t rest → InHand (chain next operand join) next operand join end ts rest t
unfolding chain
chain_one next operand join end ts rest t e = record { count = length rest; enough = omega arith; is = rw e refl }

joined_more : (next : Lexeme → Option ℕ) (operand : Reader Tree) (join : Tree → Tree → Tree) (k : ℕ) (a b : Tree) (x : Lexeme) (o end : ℕ) (ws rest : List Lexeme) → Finds next (x ∷ ws) o ws → Answers (operand end ws) b rest → operands_joined next operand join (suc k) a end (x ∷ ws) ≡ operands_joined next operand join k (join a b) end rest
unfolding operands_joined
joined_more next operand join k a b x o end ws rest e f = rw (e, f) refl

-- what is read is joined to what comes before
joined_read : (read : Result (Tree × List Lexeme) SyntaxFault) (join : Tree → Tree → Tree) (more : Tree → List Lexeme → Result (Tree × List Lexeme) SyntaxFault) (a t : Tree) (rest : List Lexeme) → Answers (on_ok read (λ x. Ok (join a x.0, x.1))) t rest → ◌≡◌ {A = Result (Tree × List Lexeme) SyntaxFault} (on_ok read (λ x. more (join a x.0) x.1)) (more t rest)
joined_read (Err fault) join more a t rest e = err_is e
joined_read (Ok x) join more a t rest e = let p = ok_pair e in rw (p.0, p.1) refl

-- nothing is read, so nothing is joined
joined_none : (read : Result (Tree × List Lexeme) SyntaxFault) (join : Tree → Tree → Tree) (more : Tree → List Lexeme → Result (Tree × List Lexeme) SyntaxFault) (a : Tree) (fault : SyntaxFault) → Refuses (on_ok read (λ x. Ok (join a x.0, x.1))) fault → Refuses (on_ok read (λ x. more (join a x.0) x.1)) fault
joined_none (Err other) join more a fault e = e
joined_none (Ok x) join more a fault e = err_is (sym e)

-- a chain's loop has its first operand in hand
pub chain_begins : (next : Lexeme → Option ℕ) (operand : Reader Tree) (join : Tree → Tree → Tree) (n end : ℕ) (ts rest : List Lexeme) (t : Tree) → n ≤ length rest → Answers (operand end ts) t rest → (k : ℕ) × (n ≤ k) × (chain next operand join end ts ≡ operands_joined next operand join k t end rest)
unfolding chain
chain_begins next operand join n end ts rest t fits e = (length rest, fits, rw e refl)

-- a chain's loop goes on with a further operand
pub chain_goes_on : (r : Result (Tree × List Lexeme) SyntaxFault) (next : Lexeme → Option ℕ) (operand : Reader Tree) (join : Tree → Tree → Tree) (k n : ℕ) (a t : Tree) (o end : ℕ) (ts ws rest : List Lexeme) → n < k → r ≡ operands_joined next operand join k a end ts → Finds next ts o ws → Answers (seq operand (λ b. done (join a b)) end ws) t rest → (j : ℕ) × (n ≤ j) × (r ≡ operands_joined next operand join j t end rest)
unfolding operands_joined
chain_goes_on r next operand join zero n a t o end ts ws rest least is found e = absurd (omega (arith, least))
chain_goes_on r next operand join (suc k) n a t o end ts ws rest least is found e =
    let step : operands_joined next operand join (suc k) a end ts ≡ operands_joined next operand join k t end rest
    = rw found (joined_read (operand end ws) join (λ b us. operands_joined next operand join k b end us) a t rest e) in
    (k, omega (arith, least), is ∙ step)

-- a chain at which a further operand is refused
pub chain_fails : (next : Lexeme → Option ℕ) (operand : Reader Tree) (join : Tree → Tree → Tree) (k : ℕ) (a : Tree) (o end : ℕ) (ts ws : List Lexeme) (fault : SyntaxFault) → 1 ≤ k → Finds next ts o ws → Refuses (seq operand (λ b. done (join a b)) end ws) fault → Refuses (operands_joined next operand join k a end ts) fault
unfolding operands_joined
chain_fails next operand join zero a o end ts ws fault least found e = absurd (omega (arith, least))
chain_fails next operand join (suc k) a o end ts ws fault least found e =
    rw found (joined_none (operand end ws) join (λ b us. operands_joined next operand join k b end us) a fault e)

chain_more_at : (r : Reader Tree) (next : Lexeme → Option ℕ) (operand : Reader Tree) (join : Tree → Tree → Tree) (end : ℕ) (ts : List Lexeme) (k : ℕ) (a b : Tree) (x : Lexeme) (o : ℕ) (ws rest : List Lexeme) → suc (length ws) ≤ k → r end ts ≡ operands_joined next operand join k a end (x ∷ ws) → Finds next (x ∷ ws) o ws → Answers (operand end ws) b rest → length rest ≤ length ws → InHand r next operand join end ts rest (join a b)
chain_more_at r next operand join end ts zero a b x o ws rest enough is e f fits = absurd (omega (arith, enough))
chain_more_at r next operand join end ts (suc k) a b x o ws rest enough is e f fits = record {
  count = k;
  enough = omega (arith, enough, fits);
  is = is ∙ joined_more next operand join k a b x o end ws rest e f;
}

pub chain_more : {r : Reader Tree} {next : Lexeme → Option ℕ} {operand : Reader Tree} {join : Tree → Tree → Tree} {end : ℕ} {ts : List Lexeme} {a b : Tree} (x : Lexeme) (o : ℕ) (vs rest : List Lexeme) → InHand r next operand join end ts (x ∷ (vs ++ rest)) a → Finds next (x ∷ (vs ++ rest)) o (vs ++ rest) → Answers (operand end (vs ++ rest)) b rest → InHand r next operand join end ts rest (join a b)
chain_more {r} {next} {operand} {join} {end} {ts} {a} {b} x o vs rest h e f =
    chain_more_at r next operand join end ts h.count a b x o (vs ++ rest) rest h.enough h.is e f (omega (arith, length-append {A = Lexeme} vs rest))

-- no further operand of a sum or comparison follows
pub record StopsCompare (rest : List Lexeme) : Type 0 where
  pub no_plus : Misses (sign_at 43) rest
  pub no_equal : Misses (sign_at 61) rest

-- nothing of an expression follows
pub record Stops (rest : List Lexeme) : Type 0 where
  pub compare : StopsCompare rest
  pub no_and : Misses (word_at (codes "and")) rest
  pub no_or : Misses (word_at (codes "or")) rest

-- a whole expression's loop is after it, if nothing of an operand follows
pub record ReadsAny (n : ℕ) (us : List Lexeme) (t : Tree) : Type 0 where
  pub reads : (end : ℕ) (rest : List Lexeme) → StopsCompare rest → Misses (word_at (codes "and")) rest → InHand (or_at (reading.below n)) (word_at (codes "or")) (and_at (reading.below n)) or_of end (us ++ rest) rest t

-- what each level of the grammar comes to
abbrev pub Complete : Level → ℕ → List Lexeme → Tree → Type 0
Complete or_level n us t = ReadsAny n us t
Complete and_level n us t = (end : ℕ) (rest : List Lexeme) → StopsCompare rest → InHand (and_at (reading.below n)) (word_at (codes "and")) (not_at (reading.below n)) and_of end (us ++ rest) rest t
Complete not_level n us t = (end : ℕ) (rest : List Lexeme) → StopsCompare rest → Answers (not_at (reading.below n) end (us ++ rest)) t rest
Complete compare_level n us t = (end : ℕ) (rest : List Lexeme) → StopsCompare rest → Answers (compare_at (reading.below n) end (us ++ rest)) t rest × Misses (word_at (codes "not")) (us ++ rest)
Complete sum_level n us t = (end : ℕ) (rest : List Lexeme) → InHand (sum_at (reading.below n)) (sign_at 43) (primary_at (reading.below n)) sum_of end (us ++ rest) rest t × Misses (word_at (codes "not")) (us ++ rest)
Complete primary_level n us t = (end : ℕ) (rest : List Lexeme) → Answers (primary_at (reading.below n) end (us ++ rest)) t rest × Misses (word_at (codes "not")) (us ++ rest)

-- a whole expression is read if nothing of it follows
pub any_complete : {n : ℕ} {us : List Lexeme} {t : Tree} → ReadsAny n us t → (end : ℕ) (rest : List Lexeme) → Stops rest → Answers (or_at (reading.below n) end (us ++ rest)) t rest
any_complete h end rest s = hand_ends (h.reads end rest s.compare s.no_and) s.no_or

-- the operand before a sign
to_close : {n : ℕ} {us : List Lexeme} {t : Tree} → ReadsAny n us t → (c end : ℕ) (vs rest : List Lexeme) → Answers (or_at (reading.below n) end ((us ++ SignAt c 41 ∷ vs) ++ rest)) t (SignAt c 41 ∷ (vs ++ rest))
to_close {n} {us} {t} h c end vs rest = subst (λ v. Answers (or_at (reading.below n) end v) t (SignAt c 41 ∷ (vs ++ rest))) (sym (append_assoc us (SignAt c 41 ∷ vs) rest)) (any_complete h end (SignAt c 41 ∷ (vs ++ rest)) (record { compare = record { no_plus = refl; no_equal = refl }; no_and = refl; no_or = refl }))

to_comma : {n : ℕ} {us : List Lexeme} {t : Tree} → ReadsAny n us t → (c end : ℕ) (vs rest : List Lexeme) → Answers (or_at (reading.below n) end ((us ++ SignAt c 44 ∷ vs) ++ rest)) t (SignAt c 44 ∷ (vs ++ rest))
to_comma {n} {us} {t} h c end vs rest = subst (λ v. Answers (or_at (reading.below n) end v) t (SignAt c 44 ∷ (vs ++ rest))) (sym (append_assoc us (SignAt c 44 ∷ vs) rest)) (any_complete h end (SignAt c 44 ∷ (vs ++ rest)) (record { compare = record { no_plus = refl; no_equal = refl }; no_and = refl; no_or = refl }))

pub group_reads : {n : ℕ} (at c : ℕ) {us : List Lexeme} {t : Tree} → ReadsAny n us t → (end : ℕ) (rest : List Lexeme) → Answers (primary_at (reading.below (suc n)) end (SignAt at 40 ∷ ((us ++ SignAt c 41 ∷ []) ++ rest))) (Group at t) rest
unfolding primary_at group_at operand_then reading.below
group_reads at c h end rest = rw (to_close h c end [] rest) refl

pub one_reads : {n : ℕ} (o c : ℕ) {us : List Lexeme} {t : Tree} → ReadsAny n us t → (end : ℕ) (rest : List Lexeme) → Answers (operand_in_brackets (reading.below (suc n)) end (SignAt o 40 ∷ ((us ++ SignAt c 41 ∷ []) ++ rest))) t rest
unfolding operand_in_brackets operand_then reading.below
one_reads o c h end rest = rw (to_close h c end [] rest) refl

pub two_read : {n : ℕ} (o c d : ℕ) {us vs : List Lexeme} {a b : Tree} → ReadsAny n us a → ReadsAny n vs b → (end : ℕ) (rest : List Lexeme) → Answers (operands_in_brackets (reading.below (suc n)) end (SignAt o 40 ∷ ((us ++ SignAt c 44 ∷ (vs ++ SignAt d 41 ∷ [])) ++ rest))) (a, b) rest
unfolding operands_in_brackets operand_then reading.below
two_read o c d {us} {vs} h g end rest = rw (to_comma h c end (vs ++ SignAt d 41 ∷ []) rest, to_close g d end [] rest) refl

pub ifelse_reads : {n : ℕ} (at o c d e : ℕ) {us vs ws : List Lexeme} {t a b : Tree} → ReadsAny n us t → ReadsAny n vs a → ReadsAny n ws b → (end : ℕ) (rest : List Lexeme) → Answers (ifelse_at (reading.below (suc n)) at end (SignAt o 40 ∷ ((us ++ SignAt c 44 ∷ (vs ++ SignAt d 44 ∷ (ws ++ SignAt e 41 ∷ []))) ++ rest))) (IfElse at t a b) rest
unfolding ifelse_at operand_then reading.below
ifelse_reads at o c d e {us} {vs} {ws} h g f end rest = rw (to_comma h c end (vs ++ SignAt d 44 ∷ (ws ++ SignAt e 41 ∷ [])) rest, to_comma g d end (ws ++ SignAt e 41 ∷ []) rest, to_close f e end [] rest) refl

pub less_true : (a b : ℕ) → a < b → nat_lt a b ≡ true
less_true a b h = lt-ltb a b h

signed_reads : {x : Lexeme} {n : ℤ} → IsSigned x n → signed x ≡ Some n
signed_reads (plain {n = k} h) = rw (less_true k (2 ^ 31) h) refl
signed_reads (below {n = k} h) = rw (le-leb k (2 ^ 31) h) refl

length_reads : {x : Lexeme} {n : Option ℤ} → IsLength x n → length_of_part x ≡ Some n
length_reads (counted (plain {n = k} h)) = rw (less_true k (2 ^ 31) h) refl
length_reads (counted (below {n = k} h)) = rw (le-leb k (2 ^ 31) h) refl
length_reads whole = refl

pub code_reads : {x : Lexeme} {c : ℕ} → IsOptionCode x c → code_of_option x ≡ Some c
code_reads (code_number {code = c} h) = rw (less_true c 256 h) refl
code_reads (code_name e) = e

pub substring_reads : {n : ℕ} (at o c d e : ℕ) {us : List Lexeme} {x y : Lexeme} {a : Tree} {start : ℤ} {len : Option ℤ} → ReadsAny n us a → IsSigned x start → IsLength y len → (end : ℕ) (rest : List Lexeme) → Answers (substring_after (reading.below (suc n)) at end (SignAt o 40 ∷ ((us ++ SignAt c 44 ∷ x ∷ SignAt d 44 ∷ y ∷ SignAt e 41 ∷ []) ++ rest))) (Substring at a start len) rest
unfolding substring_after operand_then reading.below
substring_reads at o c d e {us} {x} {y} h i j end rest =
    rw (to_comma h c end (x ∷ SignAt d 44 ∷ y ∷ SignAt e 41 ∷ []) rest, signed_reads i, length_reads j) refl

pub class_reads : (n at o k c end : ℕ) (name rest : _) → 1 ≤ length name → length name ≤ 255 → Answers (member_at (reading.below (suc n)) at end (SignAt o 40 ∷ StringAt k name ∷ SignAt c 41 ∷ rest)) (Member at name) rest
unfolding member_at reading.below
class_reads n at o k c end name rest least most = rw (le-leb 1 (length name) least, le-leb (length name) 255 most) refl
