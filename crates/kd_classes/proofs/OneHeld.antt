-- Definitions give a message one list of names.
use Rattle.std.proofs.Common.{◌≡◌, ℕ, Bool, List, [], ◌∷◌, Some, None, sym, ap, subst, ◌∙◌}
use Rattle.std.specs.Prelude.{Option, if◌then◌else◌}
use Rattle.kd_classes.specs.HeldSet.{RunGives, HeldSet, JoinInOrder, JoinsBy}
use Rattle.kd_classes.specs.declared.definition.ClassDef.{ClassDef}
use Rattle.kd_machine.specs.Held.{base_names, with_name}
use Rattle.kd_machine.specs.Laws.{HasOneEnd}
use Rattle.kd_machine.specs.declared.run.Outcome.{Outcome}
use Rattle.kd_options.specs.Joined.{value_of}
use Rattle.kd_options.specs.Message.{Seen}
use Rattle.kd_token.specs.File.{Code}

one_value : HasOneEnd → (p : Code) (message : Seen) (held : List (List ℕ)) (v x : Bool) → RunGives p message held v → RunGives p message held x → v ≡ x
one_value one_end p message held v x a b = sym a.1 ∙ ap (λ (o : Outcome). o.value) (one_end p message held a.0 b.0 a.2 b.2) ∙ b.1

one_more : HasOneEnd → (test : Option Code) (message : Seen) (name : List ℕ) (held more others : List (List ℕ)) → JoinsBy test message name held more → JoinsBy test message name held others → more ≡ others
one_more one_end None message name held more others a b = a ∙ sym b
one_more one_end (Some p) message name held more others a b = a.2 ∙ ap (λ v. if v then with_name name held else held) (one_value one_end p message held a.0 b.0 a.1 b.1) ∙ sym b.2

in_order : HasOneEnd → (defs : List ClassDef) (message : Seen) (held names others : List (List ℕ)) → JoinInOrder message defs held names → JoinInOrder message defs held others → names ≡ others
in_order one_end [] message held names others a b = a ∙ sym b
in_order one_end (def ∷ defs) message held names others a b =
    let same = one_more one_end def.test message def.name held a.0 b.0 a.1 b.1 in
    let J : List (List ℕ) → Type 0 = λ more. JoinInOrder message defs more others in
    in_order one_end defs message a.0 names others a.2 (subst J (sym same) b.2)

pub one_held : HasOneEnd → (message : Seen) (defs : List ClassDef) (names others : List (List ℕ)) → HeldSet message defs names → HeldSet message defs others → names ≡ others
one_held one_end message defs names others a b = in_order one_end defs message (base_names (value_of 60 message.options)) names others a b

pub one_join : HasOneEnd → (message : Seen) (defs : List ClassDef) (held names others : List (List ℕ)) → JoinInOrder message defs held names → JoinInOrder message defs held others → names ≡ others
one_join one_end message defs held names others a b = in_order one_end defs message held names others a b
