-- Tasks whose parts are values of their types.
use Rattle.std.specs.Prelude.{◌≡◌, IfSome, None}
use Rattle.vault_pan.specs.Draw.{IsDrawing}
use Rattle.vault_core.specs.Name.{IsName}
use Rattle.vault_core.specs.Named.{caller_of}
use Rattle.vault_core.specs.Proper.{AllProper, IsProper}
use Rattle.vault_core.specs.Scalar.{IsMoment}
use Rattle.vault_core.specs.declared.command.Command.{Command}
use Rattle.vault_changes.specs.Grants.{grants_at}
use Rattle.vault_changes.specs.Settings.{wanted_at}
use Rattle.vault_merchants.specs.ListedMerchants.{Wanted}
use Rattle.vault_rights.specs.Named.{Row}
use Rattle.vault_jobs.specs.declared.lists.ListFile.{ListFile}
use Rattle.vault_jobs.specs.declared.task.Task.{Task}
use Rattle.vault_jobs.specs.declared.task.Task.TheVariants.{Change, Give, Settle, SetMerchants, Sweep, Batch}
use Rattle.vault_jobs.specs.declared.task.Task.TheVariants.{Pipe, Serve, Show}

-- a command of no caller, which only the words of the program ask for: of a merchant or of a right
abbrev pub IsOwn : Command → Type 0
IsOwn c = caller_of c ≡ None

-- the parts of a list of rights, and of merchants, are values of their types
abbrev pub AreRightValues : ListFile Row → Type 0
AreRightValues it = IsMoment it.now × AllProper (grants_at it.now it.rows.items)

abbrev pub AreMerchantValues : ListFile Wanted → Type 0
AreMerchantValues it = AllProper (wanted_at it.now it.rows.items)

-- The parts of a task are values of their types: its names are names, its lives are lives, its moments are
-- moments and its digits a drawing. Its command is one of the words'.
abbrev pub AreValues : Task → Type 0
AreValues (Change c) = IsOwn c × IsProper c
AreValues (Give rights now) = AllProper (grants_at now rights.items)
AreValues (Settle rights now) = IsMoment now × AllProper (grants_at now rights.items)
AreValues (SetMerchants rows now) = AllProper (wanted_at now rows.items)
AreValues (Sweep who now giver) = IsName who.caller × IsName who.merchant × IsMoment now
AreValues (Batch who now digits) =
    IsName who.caller × IsName who.merchant × IfSome now IsMoment × IfSome digits IsDrawing
AreValues (Pipe now digits) = IfSome now IsMoment × IfSome digits IsDrawing
AreValues (Serve it) = IfSome it.lists.merchants AreMerchantValues × IfSome it.lists.rights AreRightValues
AreValues (Show it) = Unit {0}
