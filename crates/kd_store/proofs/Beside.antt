-- What the statement that makes the table does to a database of any schema.
use Rattle.std.proofs.Common.{◌≡◌, ◌⊎◌, inl, inr, ℕ, Bool, true, false, List, [], None, Option, Ok, Err, IfOk, IsTrue, refl, sym, ap, subst, ◌∙◌, if◌then◌else◌}
use Rattle.std.specs.Prelude.{slice_range}
use Rattle.std.proofs.lemmas.Bool.{cases_Bool}
use Rattle.std.proofs.lemmas.Result.{IfOk-weaker}
use Rattle.sqlite_schema.specs.declared.schema.Schema.{Schema}
use Rattle.sqlite_schema.specs.declared.command.Command.{Command}
use Rattle.sqlite_schema.specs.declared.command.Command.TheVariants.{CreateTable, Nothing}
use Rattle.sqlite_schema.specs.declared.command.Returning.{Returning}
use Rattle.sqlite_resolve.specs.declared.compiled.Compiled.{Compiled}
use Rattle.sqlite_resolve.specs.declared.error.CompileError.TheVariants.{NoSuchTable, Unsupported}
use Rattle.sqlite_resolve.specs.Lowering.{Checked, and_then}
use Rattle.sqlite_resolve.specs.Compile.{command, compiled, first, meaning, planned, returning, timed, with_command}
use Rattle.sqlite_tied.specs.Compute.{everything}
use Rattle.sqlite.specs.Clock as clock
use Rattle.sqlite.specs.Does.{Does, Tally, lacks_sequence}
use Rattle.sqlite.specs.Effect.{Database}
use Rattle.sqlite.specs.Listing.{if_select, is_select, listing_schema, understood}
use Rattle.sqlite.specs.State.{State, Executes, ExecutesIn, IsUnchanged, Runs, Writes, mode_of, shows_rows, text_of}
use Rattle.kd_store.specs.Lease.{make_text}
use Rattle.kd_store.specs.Opening.{AddsOurs, AddsTable}
use Rattle.kd_store.specs.Statement.{IsSettled}
use Rattle.kd_store.proofs.Puts.{same_value, went}
use Rattle.kd_store.proofs.States.{Rests}

-- ---- whatever the schema is, the text makes a table or does nothing

abbrev Makes : Command → Type 0
Makes command = (command ≡ CreateTable) ⊎ (command ≡ Nothing)

abbrev Plan : Type 0
Plan = List (List ℕ) × (Command × Option Returning)

abbrev IsPlan : Plan → Type 0
IsPlan plan = (plan.0 ≡ []) × Makes plan.1.0 × (plan.1.1 ≡ None)

record IsMaking (c : Compiled) : Type 0 where
  returning : c.returning ≡ None
  formats : c.formats ≡ []
  command : Makes c.command
  text : text_of make_text c ≡ make_text

chosen : (attached : Bool) (free : Checked Bool) → IfOk (if attached then Err Unsupported else and_then free (λ is_new. if is_new then Ok CreateTable else Ok Nothing)) Makes
chosen true free = tt
chosen false (Ok true) = inl refl
chosen false (Ok false) = inr refl
chosen false (Err e) = tt

make_query : IfOk (first make_text) (λ p. ((schema : Schema) (base : ℕ) → returning schema base p.statement ≡ Ok None) × ((schema : Schema) (formats : List (List ℕ)) → timed schema formats p.statement ≡ [])
    × ((schema : Schema) (formats : List (List ℕ)) (base : ℕ) → IfOk (command schema formats base p.statement) Makes) × (slice_range make_text p.start p.end ≡ make_text))
unfolding everything
make_query = (λ schema base. refl, λ schema formats. refl, λ schema formats base. chosen _ _, refl)

plan_making : (shown : Checked (Option Returning)) → shown ≡ Ok None → (found : Checked Command) → IfOk found Makes → (formats : List (List ℕ)) → formats ≡ []
    → IfOk (and_then (and_then shown (λ o. and_then found (λ c. Ok (c, o)))) (λ both. Ok (formats, both))) IsPlan
plan_making (Ok o) is (Ok c) makes formats none = (none, makes, cc)
plan_making (Ok o) is (Err e) makes formats none = tt
plan_making (Err e) is found makes formats none = absurd cc

planned_making : (schema : Schema) → IfOk (first make_text) (λ p. IfOk (planned schema p) IsPlan × (slice_range make_text p.start p.end ≡ make_text))
unfolding planned meaning
planned_making schema = IfOk-weaker (first make_text) _ _ (λ p query. (plan_making _ (query.0 schema _) _ (query.2 schema _ _) _ (query.1 schema _), query.3)) make_query

compiled_so : {P : Type 0} (r : Checked P) (plans : P → Checked Plan) (with : P → Plan → Compiled) (Fine : P → Type 0) → ((p : P) → Fine p → (plan : Plan) → IsPlan plan → IsMaking (with p plan))
    → IfOk r (λ p. IfOk (plans p) IsPlan × Fine p) → IfOk (and_then r (λ p. and_then (plans p) (λ plan. Ok (with p plan)))) IsMaking
compiled_so (Ok p) plans with Fine makes h = by (plans p) h.0
  where
    by : (r : Checked Plan) → IfOk r IsPlan → IfOk (and_then r (λ plan. Ok (with p plan))) IsMaking
    by (Ok plan) is = makes p h.1 plan is
    by (Err e) is = tt
compiled_so (Err e) plans with Fine makes h = tt

compiled_making : (schema : Schema) → IfOk (compiled schema make_text) IsMaking
unfolding compiled
compiled_making schema =
    compiled_so (first make_text) (planned schema) with_command (λ p. slice_range make_text p.start p.end ≡ make_text)
    (λ p text plan is. record { returning = is.2; formats = is.0; command = is.1; text = text }) (planned_making schema)

only_select : (r : Checked Compiled) → IfOk r IsMaking → IfOk (if_select r) IsMaking
only_select (Ok c) h = by (is_select c.command)
  where
    by : (b : Bool) → IfOk (if b then Ok c else Err NoSuchTable) IsMaking
    by true = h
    by false = tt
only_select (Err e) h = tt

either : (b : Bool) (r q : Checked Compiled) → IfOk r IsMaking → IfOk q IsMaking → IfOk (if b then r else q) IsMaking
either true r q one two = one
either false r q one two = two

understood_making : (schema : Schema) → IfOk (understood schema make_text) IsMaking
unfolding understood
understood_making schema = either _ _ _ (only_select _ (compiled_making listing_schema)) (compiled_making schema)

made_any : (old made : State) (count : ℕ) → Executes make_text [] old made (Ok count) → IsUnchanged old made ⊎ Writes old made None CreateTable make_text [] count
unfolding ExecutesIn
made_any old made count h =
    let c = h.0 in
    let is : IsMaking c = subst (λ r. IfOk r IsMaking) h.1.is (understood_making old.now.schema) in
    let ran : Runs old made c.returning c.command (text_of make_text c) (clock.timed [] c.formats h.1.now) count = elim (cases_Bool (shows_rows false c)) [
      | inl shows ↦ absurd (let e = (rw shows at h.2).0 in cc)
      | inr runs ↦ rw runs at h.2
    ] in
    let bare : Runs old made None c.command make_text [] count = rw (is.returning, is.formats, is.text) at ran in
    elim is.command [ inl makes ↦ inr (subst (λ k. Runs old made None k make_text [] count) makes bare) | inr none ↦ inl (subst (λ k. Runs old made None k make_text [] count) none bare).0 ]

-- ---- so the tables that are there stay

added : (old : State) (after : Database) (tally : Tally) → Does old.step_limit (mode_of old) [] old.now make_text None CreateTable (Ok (tally, after)) → AddsOurs old.now after
added old after tally does =
    let all = went does in
    let first = went all.1 in
    let now : after ≡ all.0 = ap (λ (p : Tally × Database). p.1) (same_value all.2) in
    subst (AddsOurs old.now) (sym now) (elim (cases_Bool (lacks_sequence first.0.schema)) [
      | inl lacks ↦ inr (first.0, first.1, rw lacks at first.2)
      | inr has ↦ inl (subst (AddsTable make_text old.now) (sym (same_value (rw has at first.2))) first.1)
    ])

module _ (old made : State) (count : ℕ) (ready : old.in_transaction ≡ false) (settled : IsSettled old) (ran : Executes make_text [] old made (Ok count)) where
  made_stays : (made.now ≡ old.now) ⊎ AddsOurs old.now made.now
  made_stays = elim (made_any old made count ran) [ inl same ↦ inl same.0.now_is | inr w ↦ inr (added old made.now w.tally w.changed) ]

  made_settled : made.committed ≡ made.now
  made_settled = elim (made_any old made count ran) [ inl same ↦ same.0.committed_is ∙ sym (settled same.0.was_open) ∙ sym same.0.now_is | inr w ↦ rw ready at w.shown.committed_is ]

  -- also if the table was made and then not read
  pub stays : (new : State) → Rests made new → IsTrue new.is_open → (new.now ≡ old.now) ⊎ AddsOurs old.now new.now
  stays new rests is_open = subst (λ (d : Database). (d ≡ old.now) ⊎ AddsOurs old.now d) (sym (now rests)) made_stays
    where
      now : Rests made new → new.now ≡ made.now
      now (inl same) = same.0.now_is
      now (inr back) = (back.undone is_open).0 ∙ made_settled

-- nothing was made
pub stays_same : (old new : State) → IsSettled old → Rests old new → IsTrue new.is_open → new.now ≡ old.now
stays_same old new settled (inl same) is_open = same.0.now_is
stays_same old new settled (inr back) is_open = (back.undone is_open).0 ∙ sym (settled (back.was_open is_open))
