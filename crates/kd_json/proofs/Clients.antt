-- Clients in a list of keys.
use Rattle.std.proofs.Common.{◌≡◌, Bool, not, List, [], ◌∷◌, map, refl, ap, sym, ◌∙◌}
use Rattle.std.specs.Prelude.{◌||◌}
use Rattle.std.specs.List.{list_any}
use Rattle.kd_json.specs.Parts.{client_by}
use Rattle.kd_json.specs.contracts.rules.reservations.ClientKeyPartialEq.TheImpl as derived
use Rattle.kd_json.specs.declared.rules.reservations.ClientKey.{ClientKey}
use Rattle.kd_json.specs.declared.rules.reservations.ClientKey.TheVariants.{Hardware, Duid, Circuit, ClientId}
use Rattle.kd_config.specs.Rules.{is_new, same_identity}
use Rattle.kd_config.specs.declared.reservation.Identity.{Identity}
use Rattle.kd_fields.specs.Steps.{must}

-- two keys are equal
abbrev are_equal : ClientKey → ClientKey → Bool
are_equal = derived.eq-value.it

-- exactly if they are of the same client
same_by : (a b : ClientKey) → are_equal a b ≡ same_identity (client_by a) (client_by b)
same_by (Hardware x) (Hardware y) = refl
same_by (Hardware x) (Duid y) = refl
same_by (Hardware x) (Circuit y) = refl
same_by (Hardware x) (ClientId y) = refl
same_by (Duid x) (Hardware y) = refl
same_by (Duid x) (Duid y) = refl
same_by (Duid x) (Circuit y) = refl
same_by (Duid x) (ClientId y) = refl
same_by (Circuit x) (Hardware y) = refl
same_by (Circuit x) (Duid y) = refl
same_by (Circuit x) (Circuit y) = refl
same_by (Circuit x) (ClientId y) = refl
same_by (ClientId x) (Hardware y) = refl
same_by (ClientId x) (Duid y) = refl
same_by (ClientId x) (Circuit y) = refl
same_by (ClientId x) (ClientId y) = refl

-- a key is in a list if and only if its client is among their clients
any_client : (key : ClientKey) (ks : List ClientKey) → list_any (are_equal key) ks ≡ list_any (same_identity (client_by key)) (map client_by ks)
any_client key [] = refl
any_client key (y ∷ ks) =
    ap (λ b. b || list_any (are_equal key) ks) (same_by key y)
    ∙ ap (λ b. same_identity (client_by key) (client_by y) || b) (any_client key ks)

pub new_client : (key : ClientKey) (client : Identity) (ks : List ClientKey) (new answer : Bool) → client_by key ≡ client → new ≡ not (list_any (are_equal key) ks) → new ≡ answer → must (is_new (map client_by ks) client) ≡ must answer
new_client key client ks new answer is e f =
    ap (λ c. must (is_new (map client_by ks) c)) (sym is)
    ∙ ap must (sym (ap not (any_client key ks)) ∙ sym e ∙ f)
