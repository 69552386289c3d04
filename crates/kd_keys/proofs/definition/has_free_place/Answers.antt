use Rattle.std.proofs.Common.{◌≡◌, ◌∙◌, ℕ, Bool, true, List, ◌&&◌, sym, ap}
use Rattle.std.specs.Prelude.{if◌then◌else◌}
use Rattle.kd_keys.specs.Definitions.{is_dhcp4, is_free_code, is_free_name}
use Rattle.kd_names.specs.Table.{option_by_name}
use Rattle.kd_keys.proofs.definition.has_free_place.Goals as goal

-- the first of two, if the test holds
picked : (b first second : Bool) → b ≡ true → first ≡ (if b then first else second)
picked b first second e = ap (λ (c : Bool). if c then first else second) (sym e)

pub returns-then-is_of_messages : goal.returns-then-is_of_messages
returns-then-is_of_messages c =
    c.is_free.ensures
    ∙ ap (λ (name : List ℕ). is_free_code c.args.in_class c.args.it.now.code && is_free_name c.args.it.now.code (option_by_name name)) c.as_slice-then-is_of_messages.ensures
    ∙ picked (is_dhcp4 c.args.it.now.space) _ _
    (ap is_dhcp4 (sym c.as_slice.ensures) ∙ sym c.is_of_messages.ensures ∙ c.if-is_of_messages.true)
