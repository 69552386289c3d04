-- A configuration of a text that was read, with token files that were.
use Rattle.std.proofs.Common.{◌≡◌, ℕ, ◌≤◌, Bool, List, length, Option, Some, None, is_some, IfSome, IfErr, IfOk, Result, Ok, Err, inl, sym}
use Rattle.kd_config.specs.Configuration.{Configuration}
use Rattle.kd_json.specs.declared.token_file.TokenFile.{TokenFile}
use Rattle.kd_start.specs.Start.{AreOfFolder, IsNoKeaStart, IsNoStart, IsNoStartOfFiles, IsNoStartOfKeaFile, IsOfFiles, IsOfKeaFile, IsStart}
use Rattle.kd_kea.specs.Kea.{IsKea}
use Rattle.kd_trouble.specs.declared.fault.StartFault.{StartFault}
use Rattle.kd_trouble.specs.declared.fault.StartFault.TheVariants as starts

-- it is one of files
pub of_files : (file folder : Bool) (text : Option (List ℕ)) (files : List TokenFile)
    (result : Result Configuration StartFault) → is_some text ≡ file
    → IfSome text (λ bytes. length bytes ≤ 16777216) → AreOfFolder folder files
    → IfOk result (IsStart text files) → IfOk result (IsOfFiles file folder)
of_files file folder text files (Ok c) named short of_folder start =
    record { text = text; named = named; short = short; files = files; of_folder = of_folder; start = start }
of_files file folder text files (Err fault) named short of_folder start = tt

-- the fault of a text, or of no text, is one of files
pub fault_of_files : (file folder : Bool) (text : Option (List ℕ)) (files : List TokenFile)
    (result : Result Configuration StartFault) → is_some text ≡ file
    → IfSome text (λ bytes. length bytes ≤ 16777216) → AreOfFolder folder files
    → IfErr result (IsNoStart text files) → IfErr result (IsNoStartOfFiles file folder)
fault_of_files file folder text files (Ok c) named short of_folder why = tt
fault_of_files file folder text files (Err (starts.Input fault)) named short of_folder why = inl why
fault_of_files file folder None files (Err (starts.Config fault)) named short of_folder why = absurd why
fault_of_files file folder (Some text) files (Err (starts.Config fault)) named short of_folder why =
    record {
      named = sym named;
      text = text;
      short = short;
      files = files;
      of_folder = of_folder;
      refused = why;
    }

-- the configuration of the text of a file in Kea's form
pub of_kea_file : (server : Option ℕ) (text : List ℕ) (r : Result Configuration StartFault) → length text ≤ 16777216 → IfOk r (IsKea text server) → IfOk r (IsOfKeaFile server)
of_kea_file server text (Ok c) short means = record { text = text; short = short; means = means }
of_kea_file server text (Err fault) short means = tt

-- the fault of the text of a file in Kea's form
pub fault_of_kea_file : (server : Option ℕ) (text : List ℕ) (r : Result Configuration StartFault) → length text ≤ 16777216 → IfErr r (IsNoKeaStart text server)
    → IfErr r (IsNoStartOfKeaFile server)
fault_of_kea_file server text (Ok c) short refused = tt
fault_of_kea_file server text (Err (starts.Input fault)) short refused = tt
fault_of_kea_file server text (Err (starts.Config fault)) short refused = record { text = text; short = short; refused = refused }
