-- What the reader of tokens gives, the grammar allows: one lemma for each way of combining readers.
use Rattle.std.proofs.Common.{◌≡◌, ℕ, zero, suc, Option, Some, None, Result, Ok, Err, List, [], ◌∷◌, ◌++◌, length, refl, sym, ◌∙◌, ap, subst, append_assoc, append-nil}
use Rattle.kd_expr.specs.Lexical.{Lexeme}
use Rattle.kd_expr.specs.Reading.{Reader, and_then, or_else, on_ok, done, seq, either, one, wanted, operands_joined, chain}
use Rattle.kd_expr.specs.Refusals.{refused_at}
use Rattle.kd_expr.specs.declared.fault.SyntaxFault.{SyntaxFault}
use Rattle.kd_expr.specs.Tree.{Tree}
use Rattle.kd_expr.proofs.Options.{ok_pair, err_is}

-- a prefix of the tokens has the fact, and the rest remains
pub record Takes (fact : List Lexeme → Type 0) (ts rest : List Lexeme) : Type 0 where
  pub front : List Lexeme
  pub is : ts ≡ front ++ rest
  pub holds : fact front

-- what the reader gives has the fact, with the tokens that it takes
abbrev pub IsSound : {A : Type 0} → (List Lexeme → A → Type 0) → Reader A → Type 0
IsSound {A} P r = (end : ℕ) (ts : List Lexeme) (a : A) (rest : List Lexeme) → ◌≡◌ {A = Result (A × List Lexeme) SyntaxFault} (r end ts) (Ok (a, rest)) → Takes (λ us. P us a) ts rest

-- a reader that gives the same as a sound one
pub same_sound : {A : Type 0} (P : List Lexeme → A → Type 0) (r s : Reader A) → ((end : ℕ) (ts : List Lexeme) → r end ts ≡ s end ts) → IsSound P s → IsSound P r
same_sound P r s same h end ts a rest e = h end ts a rest (sym (same end ts) ∙ e)

-- two results made one after another
pub on_ok_twice : {A B C : Type 0} (o : Result A SyntaxFault) (f : A → Result B SyntaxFault) (g : B → Result C SyntaxFault) → on_ok (on_ok o f) g ≡ on_ok o (λ a. on_ok (f a) g)
on_ok_twice (Err fault) f g = refl
on_ok_twice (Ok a) f g = refl

pub done_sound : {A : Type 0} (P : List Lexeme → A → Type 0) (x : A) → P [] x → IsSound P (done x)
done_sound P x h end ts a rest e =
    let both = ok_pair e in
    record { front = []; is = both.1; holds = subst (λ b. P [] b) both.0 h }

-- the facts of two prefixes, one after another
pub takes_more : (P Q : List Lexeme → Type 0) (ts left rest : List Lexeme) (t : Takes Q ts left) → Takes (λ ws. P (t.front ++ ws)) left rest → Takes P ts rest
takes_more P Q ts left rest t u = record {
  front = t.front ++ u.front;
  is = t.is ∙ (ap (λ v. t.front ++ v) u.is ∙ sym (append_assoc t.front u.front rest));
  holds = u.holds;
}

pub seq_sound : {A B : Type 0} (Q : List Lexeme → A → Type 0) (P : List Lexeme → B → Type 0) (r : Reader A) (f : A → Reader B) → IsSound Q r → ((a : A) (us : List Lexeme) → Q us a → IsSound (λ ws b. P (us ++ ws) b) (f a)) → IsSound P (seq r f)
seq_sound {A} {B} Q P r f q h end ts b rest e =
    let at : (answer : Result (A × List Lexeme) SyntaxFault) → r end ts ≡ answer → on_ok answer (λ x. f x.0 end x.1) ≡ Ok (b, rest) → Takes (λ us. P us b) ts rest
    = λ answer. elim answer as (λ v. r end ts ≡ v → on_ok v (λ x. f x.0 end x.1) ≡ Ok (b, rest) → Takes (λ us. P us b) ts rest) [
      | Err fault ↦ λ _ k. err_is k
      | Ok x ↦ λ is k. let t = q end ts x.0 x.1 is in takes_more (λ us. P us b) (λ us. Q us x.0) ts x.1 rest t (h x.0 t.front t.holds end x.1 b rest k)
    ] in
    at (r end ts) refl e

-- one token that a test of its kind accepts
pub data OneOf {A : Type 0} (test : Lexeme → Option A) : List Lexeme → A → Type 0 where
  is_one : (x : Lexeme) {a : A} → test x ≡ Some a → OneOf test (x ∷ []) a

-- the first token is of a kind, or not
pub data Looks {A : Type 0} (test : Lexeme → Option A) : List Lexeme → Option (A × List Lexeme) → Type 0 where
  ends : Looks test [] None
  other : (x : Lexeme) (ts : List Lexeme) → test x ≡ None → Looks test (x ∷ ts) None
  found : (x : Lexeme) (ts : List Lexeme) (a : A) → test x ≡ Some a → Looks test (x ∷ ts) (Some (a, ts))

pub looks : {A : Type 0} (test : Lexeme → Option A) (ts : List Lexeme) → Looks test ts (one test ts)
looks test [] = ends
looks {A} test (x ∷ ts) =
    let at : (answer : Option A) → test x ≡ answer → Looks test (x ∷ ts) (and_then answer (λ a. Some (a, ts)))
    = λ answer. elim answer as (λ v. test x ≡ v → Looks test (x ∷ ts) (and_then v (λ a. Some (a, ts)))) [
      | None ↦ λ is. other x ts is
      | Some a ↦ λ is. found x ts a is
    ] in
    at (test x) refl

-- one token, and what follows
one_more : {A B : Type 0} (P : List Lexeme → B → Type 0) (f : A → Reader B) (g : Result (B × List Lexeme) SyntaxFault) (end : ℕ) (b : B) (rest : List Lexeme) (test : Lexeme → Option A) (ts : List Lexeme) (answer : Option (A × List Lexeme)) → Looks test ts answer → ((x : Lexeme) (a : A) → test x ≡ Some a → IsSound (λ ws b. P (x ∷ ws) b) (f a)) → (g ≡ Ok (b, rest) → Takes (λ us. P us b) ts rest) → or_else answer (λ x. f x.0 end x.1) g ≡ Ok (b, rest) → Takes (λ us. P us b) ts rest
one_more P f g end b rest test _ _ ends h o e = o e
one_more P f g end b rest test _ _ (other x ts is) h o e = o e
one_more P f g end b rest test _ _ (found x ts a is) h o e =
    let u = h x a is end ts b rest e in record { front = x ∷ u.front; is = ap (λ v. x ∷ v) u.is; holds = u.holds }

pub either_sound : {A B : Type 0} (P : List Lexeme → B → Type 0) (test : Lexeme → Option A) (f : A → Reader B) (rival : Reader B) → ((x : Lexeme) (a : A) → test x ≡ Some a → IsSound (λ ws b. P (x ∷ ws) b) (f a)) → IsSound P rival → IsSound P (either test f rival)
either_sound P test f rival h o end ts b rest e = one_more P f (rival end ts) end b rest test ts (one test ts) (looks test ts) h (o end ts b rest) e

pub wanted_sound : {A : Type 0} (test : Lexeme → Option A) (refusal : Lexeme → SyntaxFault) → IsSound (OneOf test) (wanted test refusal)
wanted_sound test refusal end ts a rest e =
    one_more (OneOf test) done (Err (refused_at refusal ts end)) end a rest test ts (one test ts) (looks test ts)
    (λ x a is. done_sound (λ ws b. OneOf test (x ∷ ws) b) a (is_one x is)) (λ k. err_is k) e

-- a reader that begins with one token
pub after_one : {A B : Type 0} (P : List Lexeme → B → Type 0) (test : Lexeme → Option A) (f : A → Reader B) → ((x : Lexeme) (a : A) → test x ≡ Some a → IsSound (λ ws b. P (x ∷ ws) b) (f a)) → (a : A) (us : List Lexeme) → OneOf test us a → IsSound (λ ws b. P (us ++ ws) b) (f a)
after_one P test f h a us (is_one x e) = h x a e

pub seq_one_sound : {A B : Type 0} (P : List Lexeme → B → Type 0) (test : Lexeme → Option A) (refusal : Lexeme → SyntaxFault) (f : A → Reader B) → ((x : Lexeme) (a : A) → test x ≡ Some a → IsSound (λ ws b. P (x ∷ ws) b) (f a)) → IsSound P (seq (wanted test refusal) f)
seq_one_sound P test refusal f h = seq_sound (OneOf test) P (wanted test refusal) f (wanted_sound test refusal) (after_one P test f h)

-- a weaker fact
pub weaker : {A : Type 0} (P Q : List Lexeme → A → Type 0) (r : Reader A) → ((us : List Lexeme) (a : A) → P us a → Q us a) → IsSound P r → IsSound Q r
weaker P Q r w h end ts a rest e = let t = h end ts a rest e in record { front = t.front; is = t.is; holds = w t.front a t.holds }

-- a chain's loop: what is in hand has the fact, and each further operand keeps it
pub joined_sound : (P Q : List Lexeme → Tree → Type 0) (test : Lexeme → Option ℕ) (operand : Reader Tree) (join : Tree → Tree → Tree) → IsSound Q operand → ((x : Lexeme) (o : ℕ) → test x ≡ Some o → (us vs : List Lexeme) (a b : Tree) → P us a → Q vs b → P (us ++ x ∷ vs) (join a b)) → (k : ℕ) (us : List Lexeme) (a : Tree) → P us a → IsSound (λ ws t. P (us ++ ws) t) (operands_joined test operand join k a)
unfolding operands_joined
joined_sound P Q test operand join q step zero us a p = done_sound (λ ws t. P (us ++ ws) t) a (subst (λ v. P v a) (sym (append-nil us)) p)
joined_sound P Q test operand join q step (suc k) us a p =
    either_sound (λ ws t. P (us ++ ws) t) test (λ _. seq operand (λ b. operands_joined test operand join k (join a b))) (done a)
    (λ x o is. seq_sound Q (λ ws t. P (us ++ x ∷ ws) t) operand (λ b. operands_joined test operand join k (join a b)) q
    (λ b vs r. weaker (λ ws t. P ((us ++ x ∷ vs) ++ ws) t) (λ ws t. P (us ++ x ∷ (vs ++ ws)) t) (operands_joined test operand join k (join a b))
    (λ ws t h. subst (λ v. P v t) (append_assoc us (x ∷ vs) ws) h)
    (joined_sound P Q test operand join q step k (us ++ x ∷ vs) (join a b) (step x o is us vs a b p r))))
    (done_sound (λ ws t. P (us ++ ws) t) a (subst (λ v. P v a) (sym (append-nil us)) p))

pub chain_sound : (P Q : List Lexeme → Tree → Type 0) (test : Lexeme → Option ℕ) (operand : Reader Tree) (join : Tree → Tree → Tree) → IsSound Q operand → ((us : List Lexeme) (a : Tree) → Q us a → P us a) → ((x : Lexeme) (o : ℕ) → test x ≡ Some o → (us vs : List Lexeme) (a b : Tree) → P us a → Q vs b → P (us ++ x ∷ vs) (join a b)) → IsSound P (chain test operand join)
unfolding chain
chain_sound P Q test operand join q first step end ts t rest e =
    let at : (answer : Result (Tree × List Lexeme) SyntaxFault) → operand end ts ≡ answer → on_ok answer (λ x. operands_joined test operand join (length x.1) x.0 end x.1) ≡ Ok (t, rest) → Takes (λ us. P us t) ts rest
    = λ answer. elim answer as (λ v. operand end ts ≡ v → on_ok v (λ x. operands_joined test operand join (length x.1) x.0 end x.1) ≡ Ok (t, rest) → Takes (λ us. P us t) ts rest) [
      | Err fault ↦ λ _ k. err_is k
      | Ok x ↦ λ is k. let u = q end ts x.0 x.1 is in
          takes_more (λ us. P us t) (λ us. Q us x.0) ts x.1 rest u
          (joined_sound P Q test operand join q step (length x.1) u.front x.0 (first u.front x.0 u.holds) end x.1 t rest k)
    ] in
    at (operand end ts) refl e
