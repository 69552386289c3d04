-- What a reader of tokens comes to: what it gives has the fact; if it refuses a token, those before
-- begin something that has it, and what follows the token does not matter. One lemma for each way
-- of combining readers.
use Rattle.std.proofs.Common.{◌≡◌, ℕ, zero, suc, ◌≤◌, false, Option, Some, None, Result, Ok, Err, List, [], ◌∷◌, ◌++◌, length, refl, sym, ◌∙◌, ap, subst, append_assoc, append-nil, arith, length-append}
use Rattle.kd_expr.specs.FirstFault.{IsNesting, token_place, is_bad, IsLike, itself, another_number, another_below_zero, an_option}
use Rattle.kd_expr.specs.Lexical.{Lexeme, StringAt, HexAt, AddressAt, NumberAt, MinusAt, NameAt, SignAt, BadAt}
use Rattle.kd_expr.specs.Names.{code_by_name}
use Rattle.kd_expr.specs.Reading.{Reader, or_else, on_ok, done, seq, either, one, wanted, operands_joined, chain}
use Rattle.kd_expr.specs.Refusals.{refused_at, refusal_of}
use Rattle.kd_expr.specs.Tree.{Tree}
use Rattle.kd_expr.specs.declared.fault.SyntaxFault.{SyntaxFault}
use Rattle.kd_expr.specs.declared.fault.SyntaxFault.TheVariants as faults
use Rattle.kd_expr.proofs.Complete.{joined_ends}
use Rattle.kd_expr.proofs.Sound.{OneOf, is_one, Looks, ends, other, found, looks}

-- tokens that may replace the remaining ones: the first is like the first
pub data Follows (R : Lexeme → Lexeme → Type 0) : List Lexeme → List Lexeme → Type 0 where
  nothing : Follows R [] []
  token : {x y : Lexeme} (ts us : List Lexeme) → R x y → Follows R (x ∷ ts) (y ∷ us)

-- the tokens that have the same fault in place of one, where j more may be nested
abbrev pub Stays : ℕ → SyntaxFault → Lexeme → Lexeme → Type 0
Stays j (faults.Expected at) x y = IsLike x y
Stays j (faults.TooNested at) x y = (j ≡ 0) × (x ≡ y)
Stays j (faults.BadToken at) x y = x ≡ y
Stays j (faults.NumberTooLarge at) x y = x ≡ y
Stays j (faults.UnknownName at) x y = x ≡ y
Stays j faults.Memory x y = x ≡ y

same_like : {x y : Lexeme} → x ≡ y → IsLike x y
same_like {x} {y} e = subst (λ v. IsLike x v) e itself

pub likes : (j : ℕ) (fault : SyntaxFault) (x y : Lexeme) → Stays j fault x y → IsLike x y
likes j (faults.Expected at) x y e = e
likes j (faults.TooNested at) x y e = same_like e.1
likes j (faults.BadToken at) x y e = same_like e
likes j (faults.NumberTooLarge at) x y e = same_like e
likes j (faults.UnknownName at) x y e = same_like e
likes j faults.Memory x y e = same_like e

-- something that has the fact begins with these tokens
abbrev pub Begins : {A : Type 0} → (List Lexeme → A → Type 0) → List Lexeme → Type 0
Begins {A} P us = (more : List Lexeme) × (a : A) × P (us ++ more) a

-- the fault of the first of the remaining tokens, after those before
pub data Refused (B : List Lexeme → Type 0) (end : ℕ) (front : List Lexeme) : List Lexeme → SyntaxFault → Type 0 where
  at_end : Refused B end front [] (faults.Expected end)
  bad : (at : ℕ) (ts : List Lexeme) → Refused B end front (BadAt at ∷ ts) (faults.BadToken at)
  unexpected : (x : Lexeme) (ts : List Lexeme) → is_bad x ≡ false → Refused B end front (x ∷ ts) (faults.Expected (token_place x))
  too_large : (at k m : ℕ) (ts : List Lexeme) → B (front ++ NumberAt at m ∷ []) → Refused B end front (NumberAt at k ∷ ts) (faults.NumberTooLarge at)
  too_low : (at k m : ℕ) (ts : List Lexeme) → B (front ++ MinusAt at m ∷ []) → Refused B end front (MinusAt at k ∷ ts) (faults.NumberTooLarge at)
  unknown : (at code : ℕ) (name known : List ℕ) (ts : List Lexeme) → code_by_name known ≡ Some code → B (front ++ NameAt at known ∷ []) → Refused B end front (NameAt at name ∷ ts) (faults.UnknownName at)
  nested : (x : Lexeme) (ts : List Lexeme) → IsNesting x → B (front ++ x ∷ []) → Refused B end front (x ∷ ts) (faults.TooNested (token_place x))

-- the same fault, if more is known of what begins so
pub refused_map : {B C : List Lexeme → Type 0} {end : ℕ} (front longer : List Lexeme) {left : List Lexeme} {fault : SyntaxFault} → ((us : List Lexeme) → B (front ++ us) → C (longer ++ us)) → Refused B end front left fault → Refused C end longer left fault
refused_map front longer h at_end = at_end
refused_map front longer h (bad at ts) = bad at ts
refused_map front longer h (unexpected x ts fine) = unexpected x ts fine
refused_map front longer h (too_large at k m ts b) = too_large at k m ts (h (NumberAt at m ∷ []) b)
refused_map front longer h (too_low at k m ts b) = too_low at k m ts (h (MinusAt at m ∷ []) b)
refused_map front longer h (unknown at code name known ts e b) = unknown at code name known ts e (h (NameAt at known ∷ []) b)
refused_map front longer h (nested x ts fine b) = nested x ts fine (h (x ∷ []) b)

-- the refusal of a token that has no fault of its own
pub refusal_is : {front : List Lexeme} (B : List Lexeme → Type 0) (end : ℕ) (x : Lexeme) (ts : List Lexeme) → Refused B end front (x ∷ ts) (refusal_of x)
refusal_is B end (StringAt at s) ts = unexpected (StringAt at s) ts refl
refusal_is B end (HexAt at s) ts = unexpected (HexAt at s) ts refl
refusal_is B end (AddressAt at s) ts = unexpected (AddressAt at s) ts refl
refusal_is B end (NumberAt at s) ts = unexpected (NumberAt at s) ts refl
refusal_is B end (MinusAt at s) ts = unexpected (MinusAt at s) ts refl
refusal_is B end (NameAt at s) ts = unexpected (NameAt at s) ts refl
refusal_is B end (SignAt at s) ts = unexpected (SignAt at s) ts refl
refusal_is B end (BadAt at) ts = bad at ts

-- something is read: a prefix has the fact, and is read so before a token like the next, at any
-- deeper nesting as well
pub record Read {A : Type 0} (P : List Lexeme → A → Type 0) (s : ℕ → Reader A) (end : ℕ) (ts : List Lexeme) (a : A) (rest : List Lexeme) : Type 0 where
  pub front : List Lexeme
  pub is : ts ≡ front ++ rest
  pub holds : P front a
  pub again : (j : ℕ) (us : List Lexeme) → Follows IsLike rest us → ◌≡◌ {A = Result (A × List Lexeme) SyntaxFault} (s j end (front ++ us)) (Ok (a, us))

-- a token is refused: those before it begin something that has the fact
pub record Stopped {A : Type 0} (P : List Lexeme → A → Type 0) (s : ℕ → Reader A) (end : ℕ) (ts : List Lexeme) (fault : SyntaxFault) : Type 0 where
  pub front : List Lexeme
  pub left : List Lexeme
  pub is : ts ≡ front ++ left
  pub begins : Begins P front
  pub refused : Refused (Begins P) end front left fault
  pub again : (j : ℕ) (us : List Lexeme) → Follows (Stays j fault) left us → ◌≡◌ {A = Result (A × List Lexeme) SyntaxFault} (s j end (front ++ us)) (Err fault)

-- what a result comes to
abbrev pub Comes : {A : Type 0} → (List Lexeme → A → Type 0) → (ℕ → Reader A) → ℕ → List Lexeme → Result (A × List Lexeme) SyntaxFault → Type 0
Comes P s end ts (Ok x) = Read P s end ts x.0 x.1
Comes P s end ts (Err fault) = Stopped P s end ts fault

-- what a reader, and those where more may be nested, come to on at most k tokens
pub record GoodTo {A : Type 0} (k : ℕ) (P : List Lexeme → A → Type 0) (r : Reader A) (s : ℕ → Reader A) : Type 0 where
  pub some : Begins P []
  pub each : (end : ℕ) (ts : List Lexeme) → length ts ≤ k → Comes P s end ts (r end ts)

-- on any number of tokens
abbrev pub Good : {A : Type 0} → (List Lexeme → A → Type 0) → Reader A → (ℕ → Reader A) → Type 0
Good P r s = (k : ℕ) → GoodTo k P r s

-- a good reader comes to this
pub comes : {A : Type 0} (P : List Lexeme → A → Type 0) (r : Reader A) (s : ℕ → Reader A) → Good P r s → (end : ℕ) (ts : List Lexeme) → Comes P s end ts (r end ts)
comes P r s g end ts = (g (length ts)).each end ts (omega arith)

-- what remains is not longer than the tokens
pub rest_shorter : (front rest ts : List Lexeme) → ts ≡ front ++ rest → length rest ≤ length ts
rest_shorter front rest ts is =
    let size : length ts ≡ length (front ++ rest) = ap (λ v. length v) is in omega (arith, size, length-append {A = Lexeme} front rest)

-- readers that give the same as good ones
same_comes : {A : Type 0} (P : List Lexeme → A → Type 0) (r s : ℕ → Reader A) → ((j end : ℕ) (ts : List Lexeme) → r j end ts ≡ s j end ts) → (end : ℕ) (ts : List Lexeme) (answer : Result (A × List Lexeme) SyntaxFault) → Comes P s end ts answer → Comes P r end ts answer
same_comes P r s same end ts (Ok x) c = record {
  front = c.front;
  is = c.is;
  holds = c.holds;
  again = λ j us fo. same j end (c.front ++ us) ∙ c.again j us fo;
}
same_comes P r s same end ts (Err fault) c = record {
  front = c.front;
  left = c.left;
  is = c.is;
  begins = c.begins;
  refused = c.refused;
  again = λ j us fo. same j end (c.front ++ us) ∙ c.again j us fo;
}

pub same_good : {A : Type 0} (k : ℕ) (P : List Lexeme → A → Type 0) (r : Reader A) (rs : ℕ → Reader A) (s : Reader A) (ss : ℕ → Reader A) → ((end : ℕ) (ts : List Lexeme) → r end ts ≡ s end ts) → ((j end : ℕ) (ts : List Lexeme) → rs j end ts ≡ ss j end ts) → GoodTo k P s ss → GoodTo k P r rs
same_good {A} k P r rs s ss same others g = record {
  some = g.some;
  each = λ end ts fits. subst (λ (v : Result (A × List Lexeme) SyntaxFault). Comes P rs end ts v) (sym (same end ts)) (same_comes P rs ss others end ts (s end ts) (g.each end ts fits));
}

pub done_good : {A : Type 0} (P : List Lexeme → A → Type 0) (x : A) → P [] x → Good P (done x) (λ j. done x)
done_good P x h k = record {
  some = ([], x, h);
  each = λ end ts fits. record { front = []; is = refl; holds = h; again = λ j us fo. refl };
}

-- what follows a prefix and begins so
begins_after : {B : Type 0} (P : List Lexeme → B → Type 0) (front us : List Lexeme) → Begins (λ ws b. P (front ++ ws) b) us → Begins P (front ++ us)
begins_after P front us b = (b.0, b.1, subst (λ v. P v b.1) (sym (append_assoc front us b.0)) b.2)

begins_longer : {B : Type 0} (P : List Lexeme → B → Type 0) (front inner us : List Lexeme) → Begins (λ ws b. P (front ++ ws) b) (inner ++ us) → Begins P ((front ++ inner) ++ us)
begins_longer P front inner us b = subst (λ v. Begins P v) (sym (append_assoc front inner us)) (begins_after P front (inner ++ us) b)

-- the first token is like the first even if more comes before
follows_more : (R : Lexeme → Lexeme → Type 0) → ((x y : Lexeme) → R x y → IsLike x y) → (front left us : List Lexeme) → Follows R left us → Follows IsLike (front ++ left) (front ++ us)
follows_more R h (x ∷ front) left us fo = token (front ++ left) (front ++ us) itself
follows_more R h [] _ _ nothing = nothing
follows_more R h [] _ _ (token {x = x} {y = y} ts us l) = token ts us (h x y l)

seq_after : {A B : Type 0} (Q : List Lexeme → A → Type 0) (P : List Lexeme → B → Type 0) (r : ℕ → Reader A) (f : ℕ → A → Reader B) (end : ℕ) (ts rest : List Lexeme) (a : A) (c : Read Q r end ts a rest) (answer : Result (B × List Lexeme) SyntaxFault) → Comes (λ ws b. P (c.front ++ ws) b) (λ j. f j a) end rest answer → Comes P (λ j. seq (r j) (f j)) end ts answer
seq_after {A} {B} Q P r f end ts rest a c (Ok y) u = record {
  front = c.front ++ u.front;
  is = c.is ∙ (ap (λ v. c.front ++ v) u.is ∙ sym (append_assoc c.front u.front y.1));
  holds = u.holds;
  again = λ j us fo.
      ap (λ v. on_ok (r j end v) (λ x. f j x.0 end x.1)) (append_assoc c.front u.front us)
      ∙ (ap (λ (v : Result (A × List Lexeme) SyntaxFault). on_ok v (λ x. f j x.0 end x.1)) (c.again j (u.front ++ us) (subst (λ v. Follows IsLike v (u.front ++ us)) (sym u.is) (follows_more IsLike (λ x y l. l) u.front y.1 us fo)))
      ∙ u.again j us fo);
}
seq_after {A} {B} Q P r f end ts rest a c (Err fault) u = record {
  front = c.front ++ u.front;
  left = u.left;
  is = c.is ∙ (ap (λ v. c.front ++ v) u.is ∙ sym (append_assoc c.front u.front u.left));
  begins = begins_after P c.front u.front u.begins;
  refused = refused_map u.front (c.front ++ u.front) (λ us b. begins_longer P c.front u.front us b) u.refused;
  again = λ j us fo.
      ap (λ v. on_ok (r j end v) (λ x. f j x.0 end x.1)) (append_assoc c.front u.front us)
      ∙ (ap (λ (v : Result (A × List Lexeme) SyntaxFault). on_ok v (λ x. f j x.0 end x.1)) (c.again j (u.front ++ us) (subst (λ v. Follows IsLike v (u.front ++ us)) (sym u.is) (follows_more (Stays j fault) (likes j fault) u.front u.left us fo)))
      ∙ u.again j us fo);
}

-- what begins the first of two begins both
begins_both : {A B : Type 0} (Q : List Lexeme → A → Type 0) (P : List Lexeme → B → Type 0) → ((a : A) (us : List Lexeme) → Q us a → Begins (λ ws b. P (us ++ ws) b) []) → (us : List Lexeme) → Begins Q us → Begins P us
begins_both Q P h us b =
    let s = h b.1 (us ++ b.0) b.2 in
    (b.0 ++ s.0, s.1, subst (λ v. P v s.1) (append_assoc us b.0 s.0) s.2)

pub seq_good_to : {A B : Type 0} (k : ℕ) (Q : List Lexeme → A → Type 0) (P : List Lexeme → B → Type 0) (r : Reader A) (f : A → Reader B) (rs : ℕ → Reader A) (fs : ℕ → A → Reader B) → GoodTo k Q r rs → ((a : A) (us : List Lexeme) → Q us a → GoodTo k (λ ws b. P (us ++ ws) b) (f a) (λ j. fs j a)) → GoodTo k P (seq r f) (λ j. seq (rs j) (fs j))
seq_good_to {A} {B} k Q P r f rs fs g h = record {
  some = begins_both Q P (λ a us q. (h a us q).some) [] g.some;
  each = λ end ts fits.
      let at : (answer : Result (A × List Lexeme) SyntaxFault) → Comes Q rs end ts answer → Comes P (λ j. seq (rs j) (fs j)) end ts (on_ok answer (λ x. f x.0 end x.1))
      = λ answer. elim answer as (λ v. Comes Q rs end ts v → Comes P (λ j. seq (rs j) (fs j)) end ts (on_ok v (λ x. f x.0 end x.1))) [
        | Err fault ↦ λ c. record {
          front = c.front;
          left = c.left;
          is = c.is;
          begins = begins_both Q P (λ a us q. (h a us q).some) c.front c.begins;
          refused = refused_map c.front c.front (λ us b. begins_both Q P (λ a us q. (h a us q).some) (c.front ++ us) b) c.refused;
          again = λ j us fo. ap (λ (v : Result (A × List Lexeme) SyntaxFault). on_ok v (λ x. fs j x.0 end x.1)) (c.again j us fo);
        }
        | Ok x ↦ λ c. seq_after Q P rs fs end ts x.1 x.0 c (f x.0 end x.1) ((h x.0 c.front c.holds).each end x.1 (omega (arith, fits, rest_shorter c.front x.1 ts c.is)))
      ] in
      at (r end ts) (g.each end ts fits);
}

pub seq_good : {A B : Type 0} (Q : List Lexeme → A → Type 0) (P : List Lexeme → B → Type 0) (r : Reader A) (f : A → Reader B) (rs : ℕ → Reader A) (fs : ℕ → A → Reader B) → Good Q r rs → ((a : A) (us : List Lexeme) → Q us a → Good (λ ws b. P (us ++ ws) b) (f a) (λ j. fs j a)) → Good P (seq r f) (λ j. seq (rs j) (fs j))
seq_good Q P r f rs fs g h k = seq_good_to k Q P r f rs fs (g k) (λ a us q. h a us q k)

-- the first tokens of the same tokens are the same
first_is : {x y : Lexeme} {ts us : List Lexeme} → x ∷ ts ≡ y ∷ us → x ≡ y
first_is e = cc

-- a token is not nothing
no_first : {C : Type 0} {x : Lexeme} {ts : List Lexeme} → ◌≡◌ {A = List Lexeme} (x ∷ ts) [] → C
no_first e = absurd (cc)

-- only nothing follows nothing
follows_nothing : (R : Lexeme → Lexeme → Type 0) (us : List Lexeme) → Follows R [] us → us ≡ []
follows_nothing R _ nothing = refl

-- if there is nothing, nothing comes before
both_empty : (R : Lexeme → Lexeme → Type 0) (front left us : List Lexeme) → [] ≡ front ++ left → Follows R left us → front ++ us ≡ []
both_empty R (x ∷ front) left us is fo = no_first (sym is)
both_empty R [] left us is fo = follows_nothing R us (subst (λ v. Follows R v us) (sym is) fo)

-- tokens begin with one that is related so to another
pub record StartsWith (R : Lexeme → Lexeme → Type 0) (x : Lexeme) (us : List Lexeme) : Type 0 where
  pub first : Lexeme
  pub more : List Lexeme
  pub like : R x first
  pub is : us ≡ first ∷ more

starts_so : (R : Lexeme → Lexeme → Type 0) (x : Lexeme) (ts us : List Lexeme) → Follows R (x ∷ ts) us → StartsWith R x us
starts_so R _ _ _ (token {x = x} {y = y} ts us l) = record { first = y; more = us; like = l; is = refl }

starts : (R : Lexeme → Lexeme → Type 0) → ((x y : Lexeme) → R x y → IsLike x y) → (x : Lexeme) (ts front left us : List Lexeme) → x ∷ ts ≡ front ++ left → Follows R left us → StartsWith IsLike x (front ++ us)
starts R h x ts (y ∷ front) left us is fo = record { first = x; more = front ++ us; like = itself; is = ap (λ v. v ∷ (front ++ us)) (sym (first_is is)) }
starts R h x ts [] _ _ is nothing = no_first is
starts R h x ts [] _ _ is (token {x = z} {y = y} vs us l) = record { first = y; more = us; like = subst (λ v. IsLike v y) (sym (first_is is)) (h z y l); is = refl }

-- readers that give the same as others after a token like this
pub head_same : {A : Type 0} (P : List Lexeme → A → Type 0) (r s : ℕ → Reader A) (x : Lexeme) (end : ℕ) (ts : List Lexeme) → ((j : ℕ) (y : Lexeme) (us : List Lexeme) → IsLike x y → r j end (y ∷ us) ≡ s j end (y ∷ us)) → (answer : Result (A × List Lexeme) SyntaxFault) → Comes P s end (x ∷ ts) answer → Comes P r end (x ∷ ts) answer
head_same {A} P r s x end ts same (Ok y) c = record {
  front = c.front;
  is = c.is;
  holds = c.holds;
  again = λ j us fo.
      let at = starts IsLike (λ x y l. l) x ts c.front y.1 us c.is fo in
      ap (λ v. r j end v) at.is ∙ (same j at.first at.more at.like ∙ (ap (λ v. s j end v) (sym at.is) ∙ c.again j us fo));
}
head_same {A} P r s x end ts same (Err fault) c = record {
  front = c.front;
  left = c.left;
  is = c.is;
  begins = c.begins;
  refused = c.refused;
  again = λ j us fo.
      let at = starts (Stays j fault) (likes j fault) x ts c.front c.left us c.is fo in
      ap (λ v. r j end v) at.is ∙ (same j at.first at.more at.like ∙ (ap (λ v. s j end v) (sym at.is) ∙ c.again j us fo));
}

-- readers that go on as others do after this token
pub goes_on : {B : Type 0} (P : List Lexeme → B → Type 0) (r s : ℕ → Reader B) (x : Lexeme) (end : ℕ) (ts : List Lexeme) → ((j : ℕ) (us : List Lexeme) → r j end (x ∷ us) ≡ s j end us) → (answer : Result (B × List Lexeme) SyntaxFault) → Comes (λ ws b. P (x ∷ ws) b) s end ts answer → Comes P r end (x ∷ ts) answer
goes_on P r s x end ts same (Ok y) c = record {
  front = x ∷ c.front;
  is = ap (λ v. x ∷ v) c.is;
  holds = c.holds;
  again = λ j us fo. same j (c.front ++ us) ∙ c.again j us fo;
}
goes_on P r s x end ts same (Err fault) c = record {
  front = x ∷ c.front;
  left = c.left;
  is = ap (λ v. x ∷ v) c.is;
  begins = c.begins;
  refused = refused_map c.front (x ∷ c.front) (λ us b. b) c.refused;
  again = λ j us fo. same j (c.front ++ us) ∙ c.again j us fo;
}

-- readers that refuse this token, and those that may replace it, whatever follows
pub stops_at : {B : Type 0} (P : List Lexeme → B → Type 0) (r : ℕ → Reader B) (x : Lexeme) (end : ℕ) (ts : List Lexeme) (fault : SyntaxFault) → Begins P [] → Refused (Begins P) end [] (x ∷ ts) fault → ((j : ℕ) (y : Lexeme) (us : List Lexeme) → Stays j fault x y → ◌≡◌ {A = Result (B × List Lexeme) SyntaxFault} (r j end (y ∷ us)) (Err fault)) → Stopped P r end (x ∷ ts) fault
stops_at {B} P r x end ts fault begins refused h = record {
  front = [];
  left = x ∷ ts;
  is = refl;
  begins = begins;
  refused = refused;
  again = λ j us fo. let at = starts_so (Stays j fault) x ts us fo in ap (λ v. r j end v) at.is ∙ h j at.first at.more at.like;
}

-- readers that read only this token
pub reads_one : {B : Type 0} (P : List Lexeme → B → Type 0) (r : ℕ → Reader B) (x : Lexeme) (end : ℕ) (ts : List Lexeme) (b : B) → P (x ∷ []) b → ((j : ℕ) (us : List Lexeme) → ◌≡◌ {A = Result (B × List Lexeme) SyntaxFault} (r j end (x ∷ us)) (Ok (b, us))) → Read P r end (x ∷ ts) b ts
reads_one P r x end ts b holds h = record { front = x ∷ []; is = refl; holds = holds; again = λ j us fo. h j us }

-- at the end nothing remains
pub at_the_end : {B : Type 0} (P : List Lexeme → B → Type 0) (r : ℕ → Reader B) (end : ℕ) → Begins P [] → ((j : ℕ) → ◌≡◌ {A = Result (B × List Lexeme) SyntaxFault} (r j end []) (Err (faults.Expected end))) → Stopped P r end [] (faults.Expected end)
at_the_end {B} P r end begins e = record {
  front = [];
  left = [];
  is = refl;
  begins = begins;
  refused = at_end;
  again = λ j us fo. ap (λ v. r j end v) (follows_nothing IsLike us fo) ∙ e j;
}

-- readers that give the same as others at the end
end_same : {A : Type 0} (P : List Lexeme → A → Type 0) (r s : ℕ → Reader A) (end : ℕ) → ((j : ℕ) → r j end [] ≡ s j end []) → (answer : Result (A × List Lexeme) SyntaxFault) → Comes P s end [] answer → Comes P r end [] answer
end_same P r s end same (Ok y) c = record {
  front = c.front;
  is = c.is;
  holds = c.holds;
  again = λ j us fo. let at = both_empty IsLike c.front y.1 us c.is fo in ap (λ v. r j end v) at ∙ (same j ∙ (ap (λ v. s j end v) (sym at) ∙ c.again j us fo));
}
end_same P r s end same (Err fault) c = record {
  front = c.front;
  left = c.left;
  is = c.is;
  begins = c.begins;
  refused = c.refused;
  again = λ j us fo. let at = both_empty (Stays j fault) c.front c.left us c.is fo in ap (λ v. r j end v) at ∙ (same j ∙ (ap (λ v. s j end v) (sym at) ∙ c.again j us fo));
}

one_misses : {A : Type 0} (test : Lexeme → Option A) (x : Lexeme) (us : List Lexeme) → test x ≡ None → ◌≡◌ {A = Option (A × List Lexeme)} (one test (x ∷ us)) None
one_misses test x us e = rw e refl

one_finds : {A : Type 0} (test : Lexeme → Option A) (x : Lexeme) (us : List Lexeme) (a : A) → test x ≡ Some a → ◌≡◌ {A = Option (A × List Lexeme)} (one test (x ∷ us)) (Some (a, us))
one_finds test x us a e = rw e refl

-- what an `either` gives after this token
pub either_found : {A B : Type 0} (test : Lexeme → Option A) (f : A → Reader B) (rival : Reader B) (x : Lexeme) (a : A) (end : ℕ) → test x ≡ Some a → (us : List Lexeme) → either test f rival end (x ∷ us) ≡ f a end us
either_found test f rival x a end e us = ap (λ o. or_else o (λ y. f y.0 end y.1) (rival end (x ∷ us))) (one_finds test x us a e)

pub either_missed : {A B : Type 0} (test : Lexeme → Option A) (f : A → Reader B) (rival : Reader B) (x : Lexeme) (end : ℕ) → test x ≡ None → (us : List Lexeme) → either test f rival end (x ∷ us) ≡ rival end (x ∷ us)
either_missed test f rival x end e us = ap (λ o. or_else o (λ y. f y.0 end y.1) (rival end (x ∷ us))) (one_misses test x us e)

-- a test does not distinguish a token that it does not accept from one like it
abbrev pub IsBlind : {A : Type 0} → (Lexeme → Option A) → Type 0
IsBlind test = (x y : Lexeme) → IsLike x y → test x ≡ None → test y ≡ None

either_each : {A B : Type 0} (k : ℕ) (P : List Lexeme → B → Type 0) (test : Lexeme → Option A) (f : A → Reader B) (rival : Reader B) (fs : ℕ → A → Reader B) (rivals : ℕ → Reader B) → IsBlind test → (end : ℕ) (ts : List Lexeme) (answer : Option (A × List Lexeme)) → Looks test ts answer → length ts ≤ k → ((x : Lexeme) (a : A) → test x ≡ Some a → (ts : List Lexeme) → suc (length ts) ≤ k → Comes P (λ j. either test (fs j) (rivals j)) end (x ∷ ts) (f a end ts)) → GoodTo k P rival rivals → Comes P (λ j. either test (fs j) (rivals j)) end ts (or_else answer (λ y. f y.0 end y.1) (rival end ts))
either_each k P test f rival fs rivals blind end _ _ ends fits h g = end_same P (λ j. either test (fs j) (rivals j)) rivals end (λ j. refl) (rival end []) (g.each end [] fits)
either_each k P test f rival fs rivals blind end _ _ (other x ts e) fits h g = head_same P (λ j. either test (fs j) (rivals j)) rivals x end ts (λ j y us l. either_missed test (fs j) (rivals j) y end (blind x y l e) us) (rival end (x ∷ ts)) (g.each end (x ∷ ts) fits)
either_each k P test f rival fs rivals blind end _ _ (found x ts a e) fits h g = h x a e ts fits

pub either_good_to : {A B : Type 0} (k : ℕ) (P : List Lexeme → B → Type 0) (test : Lexeme → Option A) (f : A → Reader B) (rival : Reader B) (fs : ℕ → A → Reader B) (rivals : ℕ → Reader B) → IsBlind test → ((end : ℕ) (x : Lexeme) (a : A) → test x ≡ Some a → (ts : List Lexeme) → suc (length ts) ≤ k → Comes P (λ j. either test (fs j) (rivals j)) end (x ∷ ts) (f a end ts)) → GoodTo k P rival rivals → GoodTo k P (either test f rival) (λ j. either test (fs j) (rivals j))
either_good_to k P test f rival fs rivals blind h g = record {
  some = g.some;
  each = λ end ts fits. either_each k P test f rival fs rivals blind end ts (one test ts) (looks test ts) fits (h end) g;
}

pub either_good : {A B : Type 0} (P : List Lexeme → B → Type 0) (test : Lexeme → Option A) (f : A → Reader B) (rival : Reader B) (fs : ℕ → A → Reader B) (rivals : ℕ → Reader B) → IsBlind test → ((x : Lexeme) (a : A) → test x ≡ Some a → Good (λ ws b. P (x ∷ ws) b) (f a) (λ j. fs j a)) → Good P rival rivals → Good P (either test f rival) (λ j. either test (fs j) (rivals j))
either_good P test f rival fs rivals blind h g k =
    either_good_to k P test f rival fs rivals blind
    (λ end x a e ts fits. goes_on P (λ j. either test (fs j) (rivals j)) (λ j. fs j a) x end ts (λ j us. either_found test (fs j) (rivals j) x a end e us) (f a end ts) (comes (λ ws b. P (x ∷ ws) b) (f a) (λ j. fs j a) (h x a e) end ts))
    (g k)

-- a token that is not accepted is refused in the same way as one that may replace it
abbrev pub IsSteady : {A : Type 0} → (Lexeme → Option A) → (Lexeme → SyntaxFault) → Type 0
IsSteady test refusal = (j : ℕ) (x y : Lexeme) → test x ≡ None → Stays j (refusal x) x y → (test y ≡ None) × (refusal y ≡ refusal x)

-- a token and itself
pub steady_same : {A : Type 0} (test : Lexeme → Option A) (refusal : Lexeme → SyntaxFault) (x y : Lexeme) → test x ≡ None → x ≡ y → (test y ≡ None) × (refusal y ≡ refusal x)
steady_same test refusal x y e same = (subst (λ v. test v ≡ None) same e, ap (λ v. refusal v) (sym same))

pub refusal_like : (x y : Lexeme) → IsLike x y → refusal_of y ≡ refusal_of x
refusal_like _ _ itself = refl
refusal_like _ _ another_number = refl
refusal_like _ _ another_below_zero = refl
refusal_like _ _ (an_option code e) = refl

-- if no token has a fault of its own
pub plain_steady : {A : Type 0} (test : Lexeme → Option A) → IsBlind test → IsSteady test refusal_of
plain_steady test blind j x y e stays = let l = likes j (refusal_of x) x y stays in (blind x y l e, refusal_like x y l)

wanted_each : {A : Type 0} (test : Lexeme → Option A) (refusal : Lexeme → SyntaxFault) → IsSteady test refusal → Begins (OneOf test) [] → ((end : ℕ) (x : Lexeme) (ts : List Lexeme) → Refused (Begins (OneOf test)) end [] (x ∷ ts) (refusal x)) → (end : ℕ) (ts : List Lexeme) (answer : Option (A × List Lexeme)) → Looks test ts answer → Comes (OneOf test) (λ j. wanted test refusal) end ts (or_else answer (λ x. Ok x) (Err (refused_at refusal ts end)))
wanted_each test refusal steady some h end _ _ ends = at_the_end (OneOf test) (λ j. wanted test refusal) end some (λ j. refl)
wanted_each test refusal steady some h end _ _ (other x ts e) = stops_at (OneOf test) (λ j. wanted test refusal) x end ts (refusal x) some (h end x ts)
    (λ j y us l. let s = steady j x y e l in ap (λ o. or_else o (λ z. Ok z) (Err (refusal y))) (one_misses test y us s.0) ∙ ap (λ v. Err v) s.1)
wanted_each test refusal steady some h end _ _ (found x ts a e) = reads_one (OneOf test) (λ j. wanted test refusal) x end ts a (is_one x e) (λ j us. ap (λ o. or_else o (λ y. Ok y) (Err (refusal x))) (one_finds test x us a e))

-- one token that must come next, if this one could, and each refusal is that of its token
pub wanted_good : {A : Type 0} (test : Lexeme → Option A) (refusal : Lexeme → SyntaxFault) → IsSteady test refusal → (x : Lexeme) (a : A) → test x ≡ Some a → ((end : ℕ) (x : Lexeme) (ts : List Lexeme) → Refused (Begins (OneOf test)) end [] (x ∷ ts) (refusal x)) → Good (OneOf test) (wanted test refusal) (λ j. wanted test refusal)
wanted_good test refusal steady x a e h k = record {
  some = (x ∷ [], a, is_one x e);
  each = λ end ts fits. wanted_each test refusal steady (x ∷ [], a, is_one x e) h end ts (one test ts) (looks test ts);
}

-- a reader that begins with one token
after_good : {A B : Type 0} (P : List Lexeme → B → Type 0) (test : Lexeme → Option A) (f : A → Reader B) (fs : ℕ → A → Reader B) → ((x : Lexeme) (a : A) → test x ≡ Some a → Good (λ ws b. P (x ∷ ws) b) (f a) (λ j. fs j a)) → (a : A) (us : List Lexeme) → OneOf test us a → Good (λ ws b. P (us ++ ws) b) (f a) (λ j. fs j a)
after_good P test f fs h a us (is_one x e) = h x a e

pub seq_one_good : {A B : Type 0} (P : List Lexeme → B → Type 0) (test : Lexeme → Option A) (refusal : Lexeme → SyntaxFault) (f : A → Reader B) (fs : ℕ → A → Reader B) → Good (OneOf test) (wanted test refusal) (λ j. wanted test refusal) → ((x : Lexeme) (a : A) → test x ≡ Some a → Good (λ ws b. P (x ∷ ws) b) (f a) (λ j. fs j a)) → Good P (seq (wanted test refusal) f) (λ j. seq (wanted test refusal) (fs j))
seq_one_good P test refusal f fs g h = seq_good (OneOf test) P (wanted test refusal) f (λ j. wanted test refusal) fs g (after_good P test f fs h)

-- a weaker fact
pub weaker_good_to : {A : Type 0} (k : ℕ) (P Q : List Lexeme → A → Type 0) (r : Reader A) (s : ℕ → Reader A) → ((us : List Lexeme) (a : A) → P us a → Q us a) → GoodTo k P r s → GoodTo k Q r s
weaker_good_to {A} k P Q r s w g = record {
  some = let b = g.some in (b.0, b.1, w b.0 b.1 b.2);
  each = λ end ts fits.
      let at : (answer : Result (A × List Lexeme) SyntaxFault) → Comes P s end ts answer → Comes Q s end ts answer
      = λ answer. elim answer as (λ v. Comes P s end ts v → Comes Q s end ts v) [
        | Err fault ↦ λ c. record {
          front = c.front;
          left = c.left;
          is = c.is;
          begins = (c.begins.0, c.begins.1, w _ c.begins.1 c.begins.2);
          refused = refused_map c.front c.front (λ us b. (b.0, b.1, w _ b.1 b.2)) c.refused;
          again = c.again;
        }
        | Ok x ↦ λ c. record { front = c.front; is = c.is; holds = w c.front x.0 c.holds; again = c.again }
      ] in
      at (r end ts) (g.each end ts fits);
}

pub weaker_good : {A : Type 0} (P Q : List Lexeme → A → Type 0) (r : Reader A) (s : ℕ → Reader A) → ((us : List Lexeme) (a : A) → P us a → Q us a) → Good P r s → Good Q r s
weaker_good P Q r s w g k = weaker_good_to k P Q r s w (g k)

-- what remains after an operand is not longer
short : {A : Type 0} (Q : List Lexeme → A → Type 0) (r : Reader A) (s : ℕ → Reader A) → Good Q r s → (end : ℕ) (ts : List Lexeme) (a : A) (rest : List Lexeme) → ◌≡◌ {A = Result (A × List Lexeme) SyntaxFault} (r end ts) (Ok (a, rest)) → length rest ≤ length ts
short {A} Q r s g end ts a rest e =
    let c : Read Q s end ts a rest = subst (λ (v : Result (A × List Lexeme) SyntaxFault). Comes Q s end ts v) e (comes Q r s g end ts) in
    rest_shorter c.front rest ts c.is

-- readers that go on alike after an operand
seq_same : (operand : Reader Tree) (f g : Tree → Reader Tree) (end : ℕ) (ts : List Lexeme) → ((b : Tree) (rest : List Lexeme) → ◌≡◌ {A = Result (Tree × List Lexeme) SyntaxFault} (operand end ts) (Ok (b, rest)) → f b end rest ≡ g b end rest) → seq operand f end ts ≡ seq operand g end ts
seq_same operand f g end ts h =
    let at : (answer : Result (Tree × List Lexeme) SyntaxFault) → operand end ts ≡ answer → on_ok answer (λ x. f x.0 end x.1) ≡ on_ok answer (λ x. g x.0 end x.1)
    = λ answer. elim answer as (λ v. operand end ts ≡ v → on_ok v (λ x. f x.0 end x.1) ≡ on_ok v (λ x. g x.0 end x.1)) [
      | Err fault ↦ λ _. refl
      | Ok x ↦ λ is. h x.0 x.1 is
    ] in
    at (operand end ts) refl

either_same : (test : Lexeme → Option ℕ) (operand : Reader Tree) (f g : Tree → Reader Tree) (a : Tree) (end : ℕ) (x : Lexeme) (ts : List Lexeme) → ((b : Tree) (rest : List Lexeme) → ◌≡◌ {A = Result (Tree × List Lexeme) SyntaxFault} (operand end ts) (Ok (b, rest)) → f b end rest ≡ g b end rest) → either test (λ _. seq operand f) (done a) end (x ∷ ts) ≡ either test (λ _. seq operand g) (done a) end (x ∷ ts)
either_same test operand f g a end x ts h =
    let at : (answer : Option ℕ) → test x ≡ answer → either test (λ _. seq operand f) (done a) end (x ∷ ts) ≡ either test (λ _. seq operand g) (done a) end (x ∷ ts)
    = λ answer. elim answer as (λ v. test x ≡ v → either test (λ _. seq operand f) (done a) end (x ∷ ts) ≡ either test (λ _. seq operand g) (done a) end (x ∷ ts)) [
      | None ↦ λ is. either_missed test (λ _. seq operand f) (done a) x end is ts ∙ sym (either_missed test (λ _. seq operand g) (done a) x end is ts)
      | Some o ↦ λ is. either_found test (λ _. seq operand f) (done a) x o end is ts ∙ (seq_same operand f g end ts h ∙ sym (either_found test (λ _. seq operand g) (done a) x o end is ts))
    ] in
    at (test x) refl

-- a chain's loop, which goes on as long as there are tokens
abbrev joined : (Lexeme → Option ℕ) → Reader Tree → (Tree → Tree → Tree) → Tree → Reader Tree
joined test operand join a end ts = operands_joined test operand join (length ts) a end ts

-- what an operand leaves is not longer
abbrev pub IsShort : Reader Tree → Type 0
IsShort operand = (end : ℕ) (ts : List Lexeme) (b : Tree) (rest : List Lexeme) → ◌≡◌ {A = Result (Tree × List Lexeme) SyntaxFault} (operand end ts) (Ok (b, rest)) → length rest ≤ length ts

-- more turns than tokens change nothing
turns : (test : Lexeme → Option ℕ) (operand : Reader Tree) (join : Tree → Tree → Tree) → IsShort operand → (j k : ℕ) (a : Tree) (end : ℕ) (ts : List Lexeme) → length ts ≤ j → length ts ≤ k → operands_joined test operand join j a end ts ≡ operands_joined test operand join k a end ts
unfolding operands_joined
turns test operand join s j k a end [] p q = joined_ends test operand join j a end [] refl ∙ sym (joined_ends test operand join k a end [] refl)
turns test operand join s zero k a end (x ∷ ts) p q = absurd (omega (arith, p))
turns test operand join s (suc j) zero a end (x ∷ ts) p q = absurd (omega (arith, q))
turns test operand join s (suc j) (suc k) a end (x ∷ ts) p q =
    either_same test operand (λ b. operands_joined test operand join j (join a b)) (λ b. operands_joined test operand join k (join a b)) a end x ts
    (λ b rest e. let fits = s end ts b rest e in turns test operand join s j k (join a b) end rest (omega (arith, p, fits)) (omega (arith, q, fits)))

joined_is : (test : Lexeme → Option ℕ) (operand : Reader Tree) (join : Tree → Tree → Tree) → IsShort operand → (a : Tree) (end : ℕ) (ts : List Lexeme) → joined test operand join a end ts ≡ either test (λ _. seq operand (λ b. joined test operand join (join a b))) (done a) end ts
unfolding operands_joined
joined_is test operand join s a end [] = refl
joined_is test operand join s a end (x ∷ ts) =
    either_same test operand (λ b. operands_joined test operand join (length ts) (join a b)) (λ b. joined test operand join (join a b)) a end x ts
    (λ b rest e. turns test operand join s (length ts) (length rest) (join a b) end rest (s end ts b rest e) (omega arith))

-- a chain's loop: what is in hand has the fact, and each further operand keeps it
joined_good : (P Q : List Lexeme → Tree → Type 0) (test : Lexeme → Option ℕ) (operand : Reader Tree) (operands : ℕ → Reader Tree) (join : Tree → Tree → Tree) → IsBlind test → Good Q operand operands → ((j : ℕ) → IsShort (operands j)) → ((x : Lexeme) (o : ℕ) → test x ≡ Some o → (us vs : List Lexeme) (a b : Tree) → P us a → Q vs b → P (us ++ x ∷ vs) (join a b)) → (k : ℕ) (us : List Lexeme) (a : Tree) → P us a → GoodTo k (λ ws t. P (us ++ ws) t) (joined test operand join a) (λ j. joined test (operands j) join a)
joined_good P Q test operand operands join blind q shorts step zero us a p =
    let here : P (us ++ []) a = subst (λ v. P v a) (sym (append-nil us)) p in
    same_good zero (λ ws t. P (us ++ ws) t) (joined test operand join a) (λ j. joined test (operands j) join a) (either test (λ _. seq operand (λ b. joined test operand join (join a b))) (done a)) (λ j. either test (λ _. seq (operands j) (λ b. joined test (operands j) join (join a b))) (done a)) (joined_is test operand join (short Q operand operands q) a) (λ j. joined_is test (operands j) join (shorts j) a)
    (either_good_to zero (λ ws t. P (us ++ ws) t) test (λ _. seq operand (λ b. joined test operand join (join a b))) (done a) (λ j _. seq (operands j) (λ b. joined test (operands j) join (join a b))) (λ j. done a) blind (λ end x o e ts fits. absurd (omega (arith, fits))) (done_good (λ ws t. P (us ++ ws) t) a here zero))
joined_good P Q test operand operands join blind q shorts step (suc k) us a p =
    let here : P (us ++ []) a = subst (λ v. P v a) (sym (append-nil us)) p in
    same_good (suc k) (λ ws t. P (us ++ ws) t) (joined test operand join a) (λ j. joined test (operands j) join a) (either test (λ _. seq operand (λ b. joined test operand join (join a b))) (done a)) (λ j. either test (λ _. seq (operands j) (λ b. joined test (operands j) join (join a b))) (done a)) (joined_is test operand join (short Q operand operands q) a) (λ j. joined_is test (operands j) join (shorts j) a)
    (either_good_to (suc k) (λ ws t. P (us ++ ws) t) test (λ _. seq operand (λ b. joined test operand join (join a b))) (done a) (λ j _. seq (operands j) (λ b. joined test (operands j) join (join a b))) (λ j. done a) blind
    (λ end x o e ts fits. goes_on (λ ws t. P (us ++ ws) t) (λ j. either test (λ _. seq (operands j) (λ b. joined test (operands j) join (join a b))) (done a)) (λ j. seq (operands j) (λ b. joined test (operands j) join (join a b))) x end ts
    (λ j us. either_found test (λ _. seq (operands j) (λ b. joined test (operands j) join (join a b))) (done a) x o end e us) (seq operand (λ b. joined test operand join (join a b)) end ts)
    ((seq_good_to k Q (λ ws t. P (us ++ x ∷ ws) t) operand (λ b. joined test operand join (join a b)) operands (λ j b. joined test (operands j) join (join a b)) (q k)
    (λ b vs r. weaker_good_to k (λ ws t. P ((us ++ x ∷ vs) ++ ws) t) (λ ws t. P (us ++ x ∷ (vs ++ ws)) t) (joined test operand join (join a b)) (λ j. joined test (operands j) join (join a b))
    (λ ws t h. subst (λ v. P v t) (append_assoc us (x ∷ vs) ws) h)
    (joined_good P Q test operand operands join blind q shorts step k (us ++ x ∷ vs) (join a b) (step x o e us vs a b p r)))).each end ts (omega (arith, fits))))
    (done_good (λ ws t. P (us ++ ws) t) a here (suc k)))

chain_is : (test : Lexeme → Option ℕ) (operand : Reader Tree) (join : Tree → Tree → Tree) (end : ℕ) (ts : List Lexeme) → chain test operand join end ts ≡ seq operand (joined test operand join) end ts
unfolding chain
chain_is test operand join end ts = refl

pub chain_good : (P Q : List Lexeme → Tree → Type 0) (test : Lexeme → Option ℕ) (operand : Reader Tree) (operands : ℕ → Reader Tree) (join : Tree → Tree → Tree) → IsBlind test → Good Q operand operands → ((j : ℕ) → IsShort (operands j)) → ((us : List Lexeme) (a : Tree) → Q us a → P us a) → ((x : Lexeme) (o : ℕ) → test x ≡ Some o → (us vs : List Lexeme) (a b : Tree) → P us a → Q vs b → P (us ++ x ∷ vs) (join a b)) → Good P (chain test operand join) (λ j. chain test (operands j) join)
chain_good P Q test operand operands join blind q shorts first step k =
    same_good k P (chain test operand join) (λ j. chain test (operands j) join) (seq operand (joined test operand join)) (λ j. seq (operands j) (joined test (operands j) join)) (chain_is test operand join) (λ j. chain_is test (operands j) join)
    (seq_good_to k Q P operand (joined test operand join) operands (λ j. joined test (operands j) join) (q k) (λ a us h. joined_good P Q test operand operands join blind q shorts step k us a (first us a h)))
