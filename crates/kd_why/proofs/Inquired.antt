-- A replay up to a line, over a server that explains the event of that line.
use Rattle.std.specs.Prelude.{◌⊎◌}
use Rattle.std.proofs.Common.{◌≡◌, ℕ, suc, ◌+◌, ◌<◌, arith, List, [], ◌∷◌, ◌++◌, length, Option, Some, None, Ok, Err, Result, refl, sym, ap, ◌∙◌, subst, inl, inr, true≢false, is_some}
use Rattle.std.proofs.lemmas.List.{length-append}
use Rattle.kd_event.specs.declared.event.Event.{Event}
use Rattle.kd_event.specs.declared.event.Handled.{Handled}
use Rattle.kd_loops.specs.History.{History}
use Rattle.kd_loops.specs.Lines.{lines_of}
use Rattle.kd_loops.specs.Replay.{AreEvents, Did, Ends, FirstLineIs, IsNoEvent, LineFails, Replays, most_lines}
use Rattle.kd_loops.specs.declared.fault.ReplayFault.{ReplayFault}
use Rattle.kd_loops.specs.declared.fault.ReplayFault.TheVariants as faults
use Rattle.kd_loops.specs.declared.fault.ServeFault.{ServeFault}
use Rattle.kd_server.specs.Trial.{TriesStep, Trying}
use Rattle.kd_why.specs.Inquiring.{Inquiring, IsBadAt, IsEarlier, IsEnding, IsExplainedAt, IsLineAt, IsNotExplained, IsUnsaidAt, ending_fault}

-- there are as many events as lines
as_many : (lines : List (List ℕ)) (events : List Event) → AreEvents lines events → length lines ≡ length events
as_many [] [] h = refl
as_many (line ∷ lines) (event ∷ events) h = ap suc (as_many lines events h.1)
as_many [] (event ∷ events) h = absurd h
as_many (line ∷ lines) [] h = absurd h

-- what the events before the one to be explained leave
record Passed (old : Inquiring) (events : List Event) (list : List Handled) (new : Inquiring) : Type 0 where
  trial : History TriesStep old.trial events list new.trial
  left : old.left ≡ new.left + length events
  text : new.text ≡ old.text

passed : (old : Inquiring) (events : List Event) (list : List Handled) (new : Inquiring) → History IsEarlier old events list new → Passed old events list new
passed old [] [] new same =
    let left = ap (λ (i : Inquiring). i.left) same in
    record { trial = ap (λ (i : Inquiring). i.trial) same; left = omega (arith, left); text = ap (λ (i : Inquiring). i.text) same }
passed old (event ∷ events) (handled ∷ list) new h =
    let rest = passed h.0 events list new h.2 in
    record {
      trial = (h.0.trial, h.1.step, rest.trial);
      left = omega (arith, h.1.left, rest.left);
      text = rest.text ∙ h.1.text;
    }
passed old [] (handled ∷ list) new h = absurd h
passed old (event ∷ events) [] new h = absurd h

none_some : {X : Type 0} (o : Option X) (x : X) → o ≡ None → o ≡ Some x → ⊥
none_some o x none some = true≢false (ap is_some (sym some ∙ none))

module _ (F : Type 0) (t : Trying) (number : ℕ) (input : List ℕ) (start new : Inquiring) (trial_is : start.trial ≡ t) (left_is : start.left + 1 ≡ number) (none : start.text ≡ None) where
  -- the line after lines that are handled
  at : (before after : List (List ℕ)) (line : List ℕ) (mid : Inquiring) (old out : List ℕ) → lines_of input ≡ before ++ line ∷ after → Did IsEarlier before start mid old out
      → IsLineAt t input (length before + 1) line mid.trial
  at before after line mid old out all did =
      let p = passed start did.events did.list mid did.history in
      record {
        before = before;
        after = after;
        all = all;
        counted = refl;
        events = did.events;
        list = did.list;
        spelled = did.spelled;
        history = subst (λ (u : Trying). History TriesStep u did.events did.list mid.trial) trial_is p.trial;
      }

  -- at most this many lines come before
  few : (before : List (List ℕ)) (mid : Inquiring) (old out : List ℕ) → Did IsEarlier before start mid old out → length before + mid.left + 1 ≡ number
  few before mid old out did =
      let p = passed start did.events did.list mid did.history in
      let many = as_many before did.events did.spelled in
      omega (arith, p.left, many, left_is)

  unsaid : (before : List (List ℕ)) (mid : Inquiring) (old out : List ℕ) → Did IsEarlier before start mid old out → mid.text ≡ None
  unsaid before mid old out did = (passed start did.events did.list mid did.history).text ∙ none

  -- at the line of a fault of its event
  said_at : (fault : ServeFault) (before after : List (List ℕ)) (mid : Inquiring) (old out : List ℕ) (text : List ℕ) → lines_of input ≡ before ++ after → Did IsEarlier before start mid old out
      → FirstLineIs (λ line. LineFails IsEnding fault line mid new) after → new.text ≡ Some text → IsExplainedAt t input number text
  said_at fault before [] mid old out text all did fails some = absurd fails
  said_at fault before (line ∷ after) mid old out text all did fails some = by fails.failed where
    by : IsEnding mid fails.event fault new → IsExplainedAt t input number text
    by (inl (zero_left, inl (is, said))) = record {
      line = line;
      mid = mid.trial;
      at = subst (λ n. IsLineAt t input n line mid.trial) (omega (arith, few before mid old out did, zero_left)) (at before after line mid old out all did);
      event = fails.event;
      spelled = fails.spelled;
      explains = let same : said.text ≡ text = some_one (sym said.now ∙ some) in rw (sym same) said.explains;
    } where
      some_one : {X : Type 0} {x y : X} → Some x ≡ Some y → x ≡ y
      some_one e = cc
    by (inl (zero_left, inr left)) = absurd (none_some new.text text (ap (λ (i : Inquiring). i.text) left.same ∙ unsaid before mid old out did) some)
    by (inr left) = absurd (none_some new.text text (ap (λ (i : Inquiring). i.text) left.same ∙ unsaid before mid old out did) some)

  unsaid_at : (fault : ServeFault) (before after : List (List ℕ)) (mid : Inquiring) (old out : List ℕ) → lines_of input ≡ before ++ after → Did IsEarlier before start mid old out
      → FirstLineIs (λ line. LineFails IsEnding fault line mid new) after → new.text ≡ None → IsUnsaidAt t input number fault
  unsaid_at fault before [] mid old out all did fails quiet = absurd fails
  unsaid_at fault before (line ∷ after) mid old out all did fails quiet = by fails.failed where
    by : IsEnding mid fails.event fault new → IsUnsaidAt t input number fault
    by (inl (zero_left, inl (is, said))) = absurd (none_some new.text said.text quiet said.now)
    by (inl (zero_left, inr left)) = record {
      k = length before + 1;
      line = line;
      mid = mid.trial;
      at = at before after line mid old out all did;
      within = omega (arith, few before mid old out did);
      event = fails.event;
      spelled = fails.spelled;
      why = left.why;
    }
    by (inr left) = record {
      k = length before + 1;
      line = line;
      mid = mid.trial;
      at = at before after line mid old out all did;
      within = omega (arith, few before mid old out did);
      event = fails.event;
      spelled = fails.spelled;
      why = left.why;
    }

  bad_at : (k : ℕ) (before after : List (List ℕ)) (mid : Inquiring) (old out : List ℕ) → lines_of input ≡ before ++ after → Did IsEarlier before start mid old out
      → k ≡ length before + 1 → FirstLineIs IsNoEvent after → IsBadAt t input number k
  bad_at k before [] mid old out all did is bad = absurd bad
  bad_at k before (line ∷ after) mid old out all did is bad = record {
    line = line;
    mid = mid.trial;
    at = subst (λ n. IsLineAt t input n line mid.trial) (sym is) (at before after line mid old out all did);
    within = omega (arith, few before mid old out did, is);
    bad = bad;
  }

  -- if there is a text at the end, it explains the line
  pub explained : (done : Result ℕ ReplayFault) (out text : List ℕ) → Replays IsEarlier IsEnding F done (lines_of input) start new [] out → new.text ≡ Some text → IsExplainedAt t input number text
  explained (Ok count) out text r some = absurd (none_some new.text text (unsaid (lines_of input) new [] out r.2) some)
  explained (Err (faults.BadLine k)) out text r some =
      absurd (none_some new.text text (ap (λ (i : Inquiring). i.text) r.ends.2 ∙ unsaid r.before r.mid [] r.between r.did) some)
  explained (Err (faults.Serve fault)) out text r some = said_at fault r.before r.after r.mid [] r.between text r.all r.did r.ends.0 some
  explained (Err faults.Write) out text r some = cut r.after r.ends where
    cut : (after : List (List ℕ)) → Ends IsEarlier IsEnding F faults.Write (length r.before + 1) after r.mid new r.between out → IsExplainedAt t input number text
    cut [] e = absurd e
    cut (line ∷ after) e = absurd (none_some new.text text (e.given.text ∙ unsaid r.before r.mid [] r.between r.did) some)
  explained (Err faults.Read) out text r some = absurd (none_some new.text text (ap (λ (i : Inquiring). i.text) r.ends.1 ∙ unsaid r.before r.mid [] r.between r.did) some)
  explained (Err faults.Memory) out text r some = absurd (none_some new.text text (ap (λ (i : Inquiring). i.text) r.ends.1 ∙ unsaid r.before r.mid [] r.between r.did) some)

  -- if there is none, the fault says why
  pub unexplained : (done : Result ℕ ReplayFault) (out : List ℕ) → Replays IsEarlier IsEnding F done (lines_of input) start new [] out → new.text ≡ None
      → IsNotExplained F t input number (ending_fault done number)
  unexplained (Ok count) out r quiet = inr (refl, inr (omega (arith, few (lines_of input) new [] out r.2)))
  unexplained (Err (faults.BadLine k)) out r quiet = inl (bad_at k r.before r.after r.mid [] r.between r.all r.did r.ends.0 r.ends.1)
  unexplained (Err (faults.Serve fault)) out r quiet = unsaid_at fault r.before r.after r.mid [] r.between r.all r.did r.ends.0 quiet
  unexplained (Err faults.Write) out r quiet = tt
  unexplained (Err faults.Read) out r quiet = by r.ends.0 where
    by : F ⊎ ((length r.before + 1 ≡ most_lines + 1) × (0 < length r.after)) → F ⊎ (most_lines < length (lines_of input))
    by (inl failed) = inl failed
    by (inr many) =
        let all = ap length r.all ∙ length-append r.before r.after in
        inr (omega (arith, all, many.0, many.1))
  unexplained (Err faults.Memory) out r quiet = tt
