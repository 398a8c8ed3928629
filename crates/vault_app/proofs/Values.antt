-- Tasks whose parts are values of their types.
use Rattle.std.proofs.Common.{ℕ, List, [], ◌∷◌, All, Option, Some, None, Bool, true, false, sym, subst}
use Rattle.std.proofs.lemmas.List.Elements.{All-cons, All-nil}
use Rattle.std.specs.Prelude.{IfSome, if◌then◌else◌}
use Rattle.std.specs.Global.{Vec}
use Rattle.toml.specs.Data.{Members, member, no_members}
use Rattle.vault_core.specs.Name.{IsName}
use Rattle.vault_core.specs.Proper.{AllProper, HasLivesInRange, IsProper}
use Rattle.vault_core.specs.Scalar.{IsMoment}
use Rattle.vault_core.specs.declared.command.Command.{Command}
use Rattle.vault_core.proofs.Setting.{if_setting}
use Rattle.vault_live.proofs.ProperChanges.{named_proper}
use Rattle.vault_rights.specs.Named.{Row}
use Rattle.vault_changes.specs.Grants.{grants_at}
use Rattle.vault_changes.specs.Settings.{HasLives as HasListedLives, wanted_at}
use Rattle.vault_merchants.specs.ListedMerchants.{AreRowsOf, Wanted}
use Rattle.vault_jobs.specs.Tasks.{IsProper as HasLives}
use Rattle.vault_jobs.specs.declared.show.Shown.TheVariants.{Changes, Settings}
use Rattle.vault_jobs.specs.declared.lists.ListFile.{ListFile}
use Rattle.vault_jobs.specs.declared.task.Task.{Task}
use Rattle.vault_jobs.specs.declared.task.Task.TheVariants.{Change, Give, Settle, SetMerchants, Sweep, Batch}
use Rattle.vault_jobs.specs.declared.task.Task.TheVariants.{Pipe, Serve, Show}
use Rattle.vault_words.specs.declared.commands.rights_file.RightsFileJob.{RightsFileJob}
use Rattle.vault_app.specs.Commands.RightsFile.{rights_task}
use Rattle.vault_app.specs.Merchants.{AreMerchantsOf}
use Rattle.vault_app.specs.Rights.{IsListed}
use Rattle.vault_app.specs.TaskValues.{AreMerchantValues, AreValues}

-- the lives of a proper command are lives
lives_of : (c : Command) → IsProper c → HasLivesInRange c
lives_of c is = if_setting _ c (λ m x set.
    let proper = subst IsProper set is in (proper.1.0, proper.1.1))

-- and so are those of merchants that are set by proper commands
listed_lives : (now : ℕ) (rows : List Wanted) → AllProper (wanted_at now rows) → All HasListedLives rows
listed_lives now [] proper = All-nil HasListedLives
listed_lives now (row ∷ rows) proper =
    All-cons HasListedLives row rows (proper.0.1.0, proper.0.1.1) (listed_lives now rows proper.1)

-- and those of a list of a service
file_lives : (o : Option (ListFile Wanted)) → IfSome o AreMerchantValues
    → IfSome o (λ it. All HasListedLives it.rows.items)
file_lives None is = tt
file_lives (Some it) is = listed_lives it.now it.rows.items is

-- and so are those of a task
pub has_lives : (t : Task) → AreValues t → HasLives t
has_lives (Change c) is = lives_of c is.1
has_lives (Give rights now) is = tt
has_lives (Settle rights now) is = tt
has_lives (SetMerchants rows now) is = listed_lives now rows.items is
has_lives (Sweep who now giver) is = tt
has_lives (Batch who now digits) is = tt
has_lives (Pipe now digits) is = tt
has_lives (Serve it) is = file_lives it.lists.merchants is.0
has_lives (Show it) is = tt

-- the rights that a list names are given by proper commands
pub listed_proper : (says : List ℕ → Type 0) (now : ℕ) → IsMoment now → (rows : List Row)
    → IsListed says rows → AllProper (grants_at now rows)
listed_proper says now moment rows (text, (document, said, is, proper, list)) =
    named_proper document proper now moment rows (λ row. (list.1 row).0)

-- so the task of a list has values, whatever the words ask of it
rights_proper : (dry_run exact : Bool) (rows : Vec Row) (now : ℕ) → IsMoment now
    → AllProper (grants_at now rows.items)
    → AreValues (if dry_run then Show (Changes exact rows now)
    else if exact then Settle rows now
    else Give rows now)
rights_proper true exact rows now moment proper = tt
rights_proper false true rows now moment proper = (moment, proper)
rights_proper false false rows now moment proper = proper

pub task_proper : (j : RightsFileJob) (rows : Vec Row) (now : ℕ) → IsMoment now
    → AllProper (grants_at now rows.items) → AreValues (rights_task j rows now)
task_proper j = rights_proper j.dry_run j.exact

-- the merchants that a document lists are set by proper commands
members_proper : (now : ℕ) → IsMoment now → (document : Members) (rows : List Wanted)
    → AreRowsOf document rows → AllProper (wanted_at now rows)
members_proper now moment no_members [] are = tt
members_proper now moment no_members (row ∷ rows) are = absurd are
members_proper now moment (member key value rest) [] are = absurd are
members_proper now moment (member key value rest) (row ∷ rows)
    ((is, name, (single, multi, lead, table, lives)), more) = (
      (subst IsName (sym is) name, (lives.single_is.1, lives.multi_is.1), moment),
      members_proper now moment rest rows more,
    )

pub merchants_proper : (says : List ℕ → Type 0) (now : ℕ) → IsMoment now → (rows : List Wanted)
    → AreMerchantsOf says rows → AllProper (wanted_at now rows)
merchants_proper says now moment rows (text, (said, (document, of, are))) =
    members_proper now moment document rows are

-- so the task of a list of merchants has values, whatever the words ask of it
pub set_proper : (dry_run : Bool) (rows : Vec Wanted) (now : ℕ) → AllProper (wanted_at now rows.items)
    → AreValues (if dry_run then Show (Settings rows now) else SetMerchants rows now)
set_proper true rows now proper = tt
set_proper false rows now proper = proper
