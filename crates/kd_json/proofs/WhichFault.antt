-- Which fault a text has.
use Rattle.std.proofs.Common.{◌≡◌, ◌≢◌, ℕ, ◌≤◌, Bool, true, false, if◌then◌else◌, List, [], ◌∷◌, ◌++◌, take, Option, Some, None, refl, ap, subst, sym, ◌∙◌, arith, inl, inr}
use Rattle.kd_classes.specs.Order.{AreInOrder}
use Rattle.kd_classes.specs.declared.definition.ClassDef.{ClassDef}
use Rattle.kd_config.proofs.Tests.{some_is}
use Rattle.kd_config.specs.Configuration.{Configuration}
use Rattle.kd_json.specs.Configured.{AreDefinitions, IsConfigOf, IsConfigured}
use Rattle.kd_json.specs.Document.{accepted, accepted_settings}
use Rattle.kd_json.specs.Faults.{config_fault_number}
use Rattle.kd_json.specs.FirstFault.{all_reserved, lies_in, subnet_path, SubnetFails, SubnetsFail, IsFaultOfSettings}
use Rattle.kd_json.specs.Parts.{classes_fault, settings_fault}
use Rattle.kd_config.specs.Rules.{lies_within, may_stand}
use Rattle.kd_json.specs.declared.fault.ConfigFault.{ConfigFault}
use Rattle.kd_json.specs.declared.fault.ConfigFault.TheVariants as faults
use Rattle.kd_json.specs.declared.objects.class.ClassEntry.{ClassEntry}
use Rattle.kd_json.specs.declared.objects.faults.ClassesFault.{ClassesFault}
use Rattle.kd_json.specs.declared.objects.faults.ClassesFault.TheVariants as classes
use Rattle.kd_fields.specs.declared.faults.SettingsFault.{SettingsFault}
use Rattle.kd_fields.specs.declared.faults.SettingsFault.TheVariants as settings
use Rattle.kd_json.specs.declared.objects.settings.Settings.{Settings}
use Rattle.kd_config.specs.declared.subnet.Subnet.{Subnet}
use Rattle.kd_json.specs.declared.token_file.TokenFile.{TokenFile}

-- no settings are spelled
pub first_of_settings : (spelled : Option Settings) (fault : SettingsFault)
    → (fault ≢ settings.Memory → spelled ≡ None) → IsFaultOfSettings spelled (settings_fault fault)
first_of_settings spelled settings.Json h = h (λ e. cc)
first_of_settings spelled (settings.Missing path) h = h (λ e. cc)
first_of_settings spelled (settings.Unknown path) h = h (λ e. cc)
first_of_settings spelled (settings.BadValue path) h = h (λ e. cc)
first_of_settings spelled settings.Memory h = tt

-- then no settings are accepted
pub none_accepted : (spelled : Option Settings) (fault : SettingsFault)
    → (fault ≢ settings.Memory → spelled ≡ None)
    → settings_fault fault ≢ faults.Memory → accepted spelled ≡ None
unfolding accepted
none_accepted spelled fault h other = rw (h (λ e. other (ap settings_fault e))) refl

-- one of two numbers of rules
between : (b : Bool) (n least most : ℕ) → 74 ≤ least → least ≤ most → most ≤ 76
    → n ≡ (if b then most else least) → (74 ≤ n) × (n ≤ 76)
between true n least most p q r e = (omega arith, omega arith)
between false n least most p q r e = (omega arith, omega arith)

of_rule : (test : Subnet → Bool) (path earlier : List ℕ) (s : Subnet) (fault : ConfigFault)
    → SubnetFails test path earlier s fault
    → (74 ≤ config_fault_number fault) × (config_fault_number fault ≤ 76)
of_rule test path earlier s fault (inl h) =
    between (lies_within s.prefix h.pool) (config_fault_number fault) 74 75 (omega arith)
    (omega arith) (omega arith) h.number
of_rule test path earlier s fault (inr h) =
    between (lies_in s.prefix h.reservation.address) (config_fault_number fault) 74 76
    (omega arith) (omega arith) (omega arith) h.number

rule_number : (subnets : List Subnet) (fault : ConfigFault)
    → SubnetsFail may_stand subnets fault
    → (74 ≤ config_fault_number fault) × (config_fault_number fault ≤ 76)
rule_number subnets fault h =
    of_rule (λ s. may_stand (take h.place subnets ++ s ∷ []))
    (subnet_path (take h.place subnets) h.subnet) (all_reserved (take h.place subnets))
    h.subnet fault h.value

-- a rule is broken
pub first_of_rules : (spelled : Option Settings) (s : Settings) (fault : ConfigFault)
    → spelled ≡ Some s
    → (fault ≢ faults.Memory → SubnetsFail may_stand s.subnets fault)
    → IsFaultOfSettings spelled fault
first_of_rules spelled s faults.Json e h =
    let n = rule_number s.subnets faults.Json (h (λ k. cc)) in absurd (omega (arith, n.0))
first_of_rules spelled s (faults.Missing path) e h =
    let n = rule_number s.subnets (faults.Missing path) (h (λ k. cc)) in absurd (omega (arith, n.0))
first_of_rules spelled s (faults.Unknown path) e h =
    let n = rule_number s.subnets (faults.Unknown path) (h (λ k. cc)) in absurd (omega (arith, n.0))
first_of_rules spelled s (faults.BadValue path) e h =
    let n = rule_number s.subnets (faults.BadValue path) (h (λ k. cc)) in absurd (omega (arith, n.0))
first_of_rules spelled s (faults.PoolOutside path) e h =
    record { settings = s; given = e; broken = h (λ k. cc) }
first_of_rules spelled s (faults.Overlap path) e h =
    record { settings = s; given = e; broken = h (λ k. cc) }
first_of_rules spelled s (faults.DuplicateReservation path) e h =
    record { settings = s; given = e; broken = h (λ k. cc) }
first_of_rules spelled s (faults.Expression number why) e h =
    let n = rule_number s.subnets (faults.Expression number why) (h (λ k. cc)) in
    absurd (omega (arith, n.1))
first_of_rules spelled s (faults.Tokens number why) e h =
    let n = rule_number s.subnets (faults.Tokens number why) (h (λ k. cc)) in
    absurd (omega (arith, n.1))
first_of_rules spelled s (faults.Class why) e h =
    let n = rule_number s.subnets (faults.Class why) (h (λ k. cc)) in absurd (omega (arith, n.1))
first_of_rules spelled s faults.Memory e h = tt

-- the settings are accepted
pub first_of_classes : (spelled : Option Settings) (s : Settings) (fault : ClassesFault)
    → accepted spelled ≡ Some s → IsFaultOfSettings spelled (classes_fault fault)
first_of_classes spelled s (classes.Expression number why) e = record { settings = s; kept = e }
first_of_classes spelled s (classes.Tokens number why) e = record { settings = s; kept = e }
first_of_classes spelled s (classes.Class why) e = record { settings = s; kept = e }
first_of_classes spelled s classes.Memory e = tt

-- settings whose classes have no accepted definitions give no configuration
pub none_of_settings : (files : List TokenFile) (s : Settings) (entries : List ClassEntry)
    (fault : ClassesFault) → entries ≡ s.classes
    → (fault ≢ classes.Memory → (defs : List ClassDef) → AreDefinitions files entries defs
    → AreInOrder defs → ⊥)
    → fault ≢ classes.Memory → (c : Configuration) → IsConfigOf s files c → ⊥
none_of_settings files s entries fault is none other c h =
    none other c.classes
    (subst (λ (x : List ClassEntry). AreDefinitions files x c.classes) (sym is) h.classes) h.ordered

-- then their text gives none
pub none_configured : (text : List ℕ) (files : List TokenFile) (s : Settings)
    (fault : ClassesFault) → accepted_settings text ≡ Some s
    → (fault ≢ classes.Memory → (c : Configuration) → IsConfigOf s files c → ⊥)
    → classes_fault fault ≢ faults.Memory → (c : Configuration) → IsConfigured text files c → ⊥
none_configured text files s fault e none other c h =
    none (λ k. other (ap classes_fault k)) c
    (subst (λ (x : Settings). IsConfigOf x files c) (some_is h.settings s (sym h.written ∙ e)) h.made)
