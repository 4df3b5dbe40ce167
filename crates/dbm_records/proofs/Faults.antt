-- Words that are not a command.
use Rattle.std.proofs.Common.{◌≡◌, ℕ, List, None, Bool, true, false, cond, refl}
use Rattle.std.specs.declared.alloc.Global.{Global}
use Rattle.dbm_script.specs.Commands.{command_of_words}
use Rattle.dbm_script.specs.Notation.{reads_hex}
use Rattle.dbm_args.specs.declared.options.Form.{Form}
use Rattle.dbm_script.specs.declared.notations.Notation.{Notation}
use Rattle.dbm_reports.specs.declared.databases.Given.{Given}
use Rattle.dbm_reports.specs.declared.fault.ReportFault.TheVariants.{BadHex, BadText}
use Rattle.dbm_reports.specs.Causes.{IsCaused}
use Rattle.dbm_records.specs.Commands.{command_causes}

-- words that are not a command, in hex or as text
pub no_command : (n : Notation Global) (form : Form) (given : Given) (words : List (List ℕ)) → command_of_words n words ≡ None → IsCaused (command_causes n form given words) (cond (reads_hex n) BadHex BadText)
no_command n form given words none = by_reading (reads_hex n) refl
  where
    by_reading : (hex : Bool) → reads_hex n ≡ hex → IsCaused (command_causes n form given words) (cond hex BadHex BadText)
    by_reading true is = (is, none)
    by_reading false is = (is, none)
