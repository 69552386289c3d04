use Rattle.std.proofs.Common.{◌≡◌, ◌∙◌, sym, refl, subst, arith, length, None, true, false, option_map}
use Rattle.std.specs.Prelude.{nat_le}
use Rattle.std.proofs.lemmas.Bool.{le-leb, lt-leb}
use Rattle.kd_commands.specs.Steps.{byte_at_front}
use Rattle.kd_commands.proofs.Spelled.{front_none, hardware_is}
use Rattle.kd_commands.proofs.hardware.hardware_in.Goals as goal

pub returns-in_default : goal.returns-in_default
returns-in_default c =
    let none = front_none c.args.text.now (subst (λ t. None ≡ byte_at_front t) c.as_bytes.ensures.value c.in_default.ensures) in
    rw none refl

pub returns-in_default-2 : goal.returns-in_default-2
returns-in_default-2 c =
    let is = hardware_is _ c.args.text.now _ _ _ _ (option_map (λ v. v.items) c.in_ok-all.field-0) c.as_bytes.ensures.value c.in-Some.ensures
    c.new-bytes.ensures.items c.in_ok-push.ensures.items c.in_ok-all.ensures in
    sym (is ∙ rw c.in_default-2.is refl)

pub returns-then-len-gt-MOST_BYTES : goal.returns-then-len-gt-MOST_BYTES
returns-then-len-gt-MOST_BYTES c =
    let is = hardware_is _ c.args.text.now _ _ _ _ (option_map (λ v. v.items) c.in_ok-all.field-0) c.as_bytes.ensures.value c.in-Some.ensures
    c.new-bytes.ensures.items c.in_ok-push.ensures.items c.in_ok-all.ensures in
    let long : nat_le (length c.in-Some-2.all.items) 16 ≡ false =
    lt-leb (length c.in-Some-2.all.items) 16 (omega (arith, c.if-len-gt-MOST_BYTES.true, c.len.ensures, c.in-Some-2.all.ok.0)) in
    sym (is ∙ rw (c.in-Some-2.is, long) refl)

pub returns : goal.returns
returns c =
    let is = hardware_is _ c.args.text.now _ _ _ _ (option_map (λ v. v.items) c.in_ok-all.field-0) c.as_bytes.ensures.value c.in-Some.ensures
    c.new-bytes.ensures.items c.in_ok-push.ensures.items c.in_ok-all.ensures in
    let short : nat_le (length c.in-Some-2.all.items) 16 ≡ true =
    le-leb (length c.in-Some-2.all.items) 16 (omega (arith, c.if-len-gt-MOST_BYTES.false, c.len.ensures, c.in-Some-2.all.ok.0)) in
    sym (is ∙ rw (c.in-Some-2.is, short) refl)
