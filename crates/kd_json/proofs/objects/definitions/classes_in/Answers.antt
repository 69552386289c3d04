use Rattle.std.proofs.Common.{◌≡◌, true, false}
use Rattle.kd_json.proofs.Alike.{in_order_alike}
use Rattle.kd_json.proofs.objects.definitions.classes_in.Goals as goal

wrong : false ≡ true → ⊥
wrong e = cc

pub returns-in-Err-clause-refused : goal.returns-in-Err-clause-refused
returns-in-Err-clause-refused c =
    λ other defs h order. wrong (c.in-Err.ensures.only (in_order_alike defs c.in_ok-definitions.definitions.items (c.in_ok-definitions.ensures.same defs h) order))
