-- What a server starts with: the configuration of a text that was read, or the built-in one.
use Rattle.std.specs.Prelude.{◌≡◌, ◌≢◌, ◌≤◌, ◌⊎◌, ℕ, Bool, false, true, List, [], length, Option, Some, None, is_some, IfSome}
use Rattle.kd_config.specs.Configuration.{Configuration, builtin_config}
use Rattle.kd_json.specs.Configured.{IsConfigured}
use Rattle.kd_json.specs.declared.fault.ConfigFault.{ConfigFault}
use Rattle.kd_json.specs.declared.fault.ConfigFault.TheVariants as configs
use Rattle.kd_json.specs.declared.token_file.TokenFile.{TokenFile}
use Rattle.kd_kea.specs.Kea.{IsKea}
use Rattle.kd_io.specs.declared.files.InputFault.TheVariants as inputs
use Rattle.kd_trouble.specs.declared.fault.StartFault.{StartFault}
use Rattle.kd_trouble.specs.declared.fault.StartFault.TheVariants as starts

-- the configuration that a text means with these token files, or the built-in one if there is no
-- text
abbrev pub IsStart : Option (List ℕ) → List TokenFile → Configuration → Type 0
IsStart None files c = c ≡ builtin_config
IsStart (Some text) files c = IsConfigured text files c

-- a fault of a text that means no configuration, or out of memory
abbrev pub IsNoStart : Option (List ℕ) → List TokenFile → StartFault → Type 0
IsNoStart text files (starts.Input fault) = fault ≡ inputs.Memory
IsNoStart None files (starts.Config fault) = ⊥
IsNoStart (Some text) files (starts.Config fault) =
    fault ≢ configs.Memory → (c : Configuration) → IsConfigured text files c → ⊥

-- the token files of a folder; none if there is no folder
abbrev pub AreOfFolder : Bool → List TokenFile → Type 0
AreOfFolder has_folder files = has_folder ≡ false → files ≡ []

-- the configuration of a text, if a file is named, with token files, if a folder is named
pub record IsOfFiles (has_file has_folder : Bool) (c : Configuration) : Type 0 where
  pub text : Option (List ℕ)
  pub named : is_some text ≡ has_file
  pub short : IfSome text (λ bytes. length bytes ≤ 16777216)
  pub files : List TokenFile
  pub of_folder : AreOfFolder has_folder files
  pub start : IsStart text files c

-- a file is named, and its text has this fault with the token files of the folder
pub record HasTextFault (has_file has_folder : Bool) (fault : ConfigFault) : Type 0 where
  pub named : has_file ≡ true
  pub text : List ℕ
  pub short : length text ≤ 16777216
  pub files : List TokenFile
  pub of_folder : AreOfFolder has_folder files
  pub refused : IsNoStart (Some text) files (starts.Config fault)

-- why files give no configuration: memory ran out, a file or a folder that is named cannot be read,
-- or the text has a fault
abbrev pub IsNoStartOfFiles : Bool → Bool → StartFault → Type 0
IsNoStartOfFiles has_file has_folder (starts.Input fault) =
    (fault ≡ inputs.Memory) ⊎ ((has_file ≡ true) ⊎ (has_folder ≡ true))
IsNoStartOfFiles has_file has_folder (starts.Config fault) =
    HasTextFault has_file has_folder fault

-- the configuration of a text in Kea's form, by the address of the server that is given
pub record IsOfKeaFile (server : Option ℕ) (c : Configuration) : Type 0 where
  pub text : List ℕ
  pub short : length text ≤ 16777216
  pub means : IsKea text server c

-- a fault of a text in Kea's form that means no configuration, or out of memory
abbrev pub IsNoKeaStart : List ℕ → Option ℕ → StartFault → Type 0
IsNoKeaStart text server (starts.Input fault) = fault ≡ inputs.Memory
IsNoKeaStart text server (starts.Config fault) =
    fault ≢ configs.Memory → (c : Configuration) → IsKea text server c → ⊥

-- a text in Kea's form has this fault
pub record HasKeaFault (server : Option ℕ) (fault : ConfigFault) : Type 0 where
  pub text : List ℕ
  pub short : length text ≤ 16777216
  pub refused : IsNoKeaStart text server (starts.Config fault)

-- why a file in Kea's form gives no configuration: memory ran out, it cannot be read, or its text
-- has a fault
abbrev pub IsNoStartOfKeaFile : Option ℕ → StartFault → Type 0
IsNoStartOfKeaFile server (starts.Input fault) = Unit {0}
IsNoStartOfKeaFile server (starts.Config fault) = HasKeaFault server fault
