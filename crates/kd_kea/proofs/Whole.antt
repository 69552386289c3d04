-- A text of Kea's whose settings have no configuration.
use Rattle.std.proofs.Common.{◌≡◌, ◌≢◌, ℕ, List, [], Option, Some, ap, subst, sym, ◌∙◌}
use Rattle.kd_config.proofs.Tests.{some_is}
use Rattle.kd_config.specs.Configuration.{Configuration}
use Rattle.kd_json.specs.Configured.{IsConfigOf}
use Rattle.kd_json.specs.Document.{accepted}
use Rattle.kd_json.specs.Parts.{classes_fault}
use Rattle.kd_json.specs.declared.fault.ConfigFault.TheVariants as faults
use Rattle.kd_json.specs.declared.objects.faults.ClassesFault.{ClassesFault}
use Rattle.kd_json.specs.declared.objects.faults.ClassesFault.TheVariants as classes
use Rattle.kd_json.specs.declared.objects.settings.Settings.{Settings}
use Rattle.kd_kea.specs.Kea.{IsKea, kea_settings}

pub none_of_kea : (text : List ℕ) (server : Option ℕ) (s : Settings) (fault : ClassesFault)
    → accepted (kea_settings text server) ≡ Some s
    → (fault ≢ classes.Memory → (c : Configuration) → IsConfigOf s [] c → ⊥)
    → classes_fault fault ≢ faults.Memory → (c : Configuration) → IsKea text server c → ⊥
none_of_kea text server s fault e none other c h =
    none (λ k. other (ap classes_fault k)) c
    (subst (λ (x : Settings). IsConfigOf x [] c) (some_is h.settings s (sym h.written ∙ e)) h.made)
