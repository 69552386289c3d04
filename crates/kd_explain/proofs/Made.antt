-- The checks that are made of a message are all that its rule has, or end at the first that it does
-- not pass.
use Rattle.std.proofs.Common.{◌≡◌, ℕ, not, Bool, true, false, List, [], ◌∷◌, ◌++◌, Option, Some, inl, inr, ◌⊎◌, refl, ap, ◌∙◌, if◌then◌else◌}
use Rattle.std.specs.List.{find}
use Rattle.std.proofs.lemmas.Bool.{and_from, false≢true, not-false}
use Rattle.kd_lease.specs.Choice.{Asking}
use Rattle.kd_lease.specs.Laws.{EndsDecide}
use Rattle.kd_lease.specs.Rules.{checks_in, end_by, ends_by, fails, holds_at, rule_of}
use Rattle.kd_lease.specs.declared.rule.Check.{Check}
use Rattle.kd_lease.specs.declared.rule.Ending.{Ending}
use Rattle.kd_lease.specs.declared.rule.Rule.{Rule}
use Rattle.kd_explain.specs.CheckLines.{made}
use Rattle.kd_explain.specs.Laws.{EndsAsRule, EndsAtCheck, Explained, passes_all}

false_if : (t : Bool) → not t ≡ true → t ≡ false
false_if true h = absurd (false≢true h)
false_if false h = refl

module _ (q : Asking) (a : Option ℕ) (done : Ending) where
  -- the end by these lines
  abbrev end_at : List (Check × Ending) → Ending
  end_at lines = ends_by (find (fails q a) lines) done

  record AllMade (lines : List (Check × Ending)) : Type 0 where
    all : made q a lines ≡ lines
    passed : passes_all q a lines ≡ true
    ends : end_at lines ≡ done

  record LastMade (lines : List (Check × Ending)) : Type 0 where
    before : List (Check × Ending)
    last : Check × Ending
    all : made q a lines ≡ before ++ last ∷ []
    passed : passes_all q a before ≡ true
    failed : holds_at q a last.0 ≡ false
    ends : end_at lines ≡ last.1

  made_of : (lines : List (Check × Ending)) → AllMade lines ⊎ LastMade lines
  made_of [] = inl (record { all = refl; passed = refl; ends = refl })
  made_of (line ∷ lines) = by (fails q a line) refl (made_of lines) where
    after : (b : Bool) → fails q a line ≡ b → made q a (line ∷ lines) ≡ line ∷ (if b then [] else made q a lines)
    after b e = ap (λ t. line ∷ (if t then [] else made q a lines)) e

    ends_so : (b : Bool) → fails q a line ≡ b → end_at (line ∷ lines) ≡ ends_by (if b then Some line else find (fails q a) lines) done
    ends_so b e = ap (λ t. ends_by (if t then Some line else find (fails q a) lines) done) e

    by : (b : Bool) → fails q a line ≡ b → AllMade lines ⊎ LastMade lines → AllMade (line ∷ lines) ⊎ LastMade (line ∷ lines)
    by true e rest = inr (record { before = []; last = line; all = after true e; passed = refl; failed = false_if (holds_at q a line.0) e; ends = ends_so true e })
    by false e (inl r) = inl (record {
      all = after false e ∙ ap (λ ls. line ∷ ls) r.all;
      passed = and_from (holds_at q a line.0) (passes_all q a lines) (not-false (holds_at q a line.0) e) r.passed;
      ends = ends_so false e ∙ r.ends;
    })
    by false e (inr r) = inr (record {
      before = line ∷ r.before;
      last = r.last;
      all = after false e ∙ ap (λ ls. line ∷ ls) r.all;
      passed = and_from (holds_at q a line.0) (passes_all q a r.before) (not-false (holds_at q a line.0) e) r.passed;
      failed = r.failed;
      ends = ends_so false e ∙ r.ends;
    })

-- the same of a rule
ends_told : (q : Asking) (a : Option ℕ) (rule : Rule) → EndsAsRule q a rule ⊎ EndsAtCheck q a rule
ends_told q a rule = by (made_of q a (end_by rule) (checks_in rule)) where
  by : AllMade q a (end_by rule) (checks_in rule) ⊎ LastMade q a (end_by rule) (checks_in rule) → EndsAsRule q a rule ⊎ EndsAtCheck q a rule
  by (inl r) = inl (record { all = r.all; passed = r.passed; ends = r.ends })
  by (inr r) = inr (record { before = r.before; last = r.last; all = r.all; passed = r.passed; failed = r.failed; ends = r.ends })

-- so an explanation tells how a message is decided
pub explained : EndsDecide → Explained
explained decide q set got text told answers =
    (ends_told q told.address (rule_of q told.type), decide q told.type told.address answers.row answers.outcome told.is told.about answers.does)
