-- The lists that a service follows.
use Rattle.std.specs.Prelude.{◌⊎◌, ◌||◌, ℕ, List, [], ◌++◌, Bool, Option, Some, None, is_some}
use Rattle.std.specs.Prelude.{IsSomeAnd, string_bytes}
use Rattle.vault_core.specs.Runs.{run}
use Rattle.vault_core.specs.Vault.{Vault as Content}
use Rattle.vault_core.specs.declared.command.Command.{Command}
use Rattle.vault_merchants.specs.ListedMerchants.{AreListed, Wanted}
use Rattle.vault_listen.specs.Live.{Turns}
use Rattle.vault_live.specs.Following.{AreRowsIn, Asks, Looks}
use Rattle.vault_live.specs.Kinds.{Naming, Wanting, merchants_changes, rights_changes}
use Rattle.vault_live.specs.Sweeping.{AsksPurges}
use Rattle.vault_live.specs.Turns.{Asking}
use Rattle.vault_jobs.specs.Outside.{Outside, outside}
use Rattle.vault_jobs.specs.declared.lists.ListFile.{ListFile}
use Rattle.vault_jobs.specs.declared.lists.Lists.{Lists}

module _ {X : Type 0} where
  -- the path of a list
  abbrev pub path_of : ListFile X → List ℕ
  path_of it = string_bytes it.path

  -- the text of a list, where there is one
  abbrev pub text_of : Option (ListFile X) → List ℕ
  text_of None = []
  text_of (Some it) = it.text.items

  -- the commands that a list asks for before a service, by the vault that is held
  abbrev pub first_of : Wanting X → Option (ListFile X) → Content → List Command
  first_of wants None V = []
  first_of wants (Some it) V = wants it.now it.rows.items V

  -- what it asks for between two connections, as its file changes
  abbrev pub asked_by : Naming X → Wanting X → Outside → Option (ListFile X) → Asking
  asked_by names wants at listed V cs =
      IsSomeAnd listed (λ it. Asks names wants (at.looks (path_of it)) at.tells V cs)

-- the purges that a list of merchants asks for between two connections, by the callers that it names
abbrev pub swept_by : Outside → Option (ListFile Wanted) → Asking
swept_by at listed V cs =
    IsSomeAnd listed (λ it. AsksPurges it.rows.items (at.looks (path_of it)) at.tells V cs)

-- some list is followed
abbrev pub follows : Lists → Bool
follows lists = is_some lists.merchants || is_some lists.rights

-- The commands with which a service begins: those that set the merchants of its list, and then those that
-- make the rights exactly those of the other one.
abbrev pub begin_of : Lists → Content → List Command
begin_of lists V =
    let set = first_of merchants_changes lists.merchants V in
    set ++ first_of rights_changes lists.rights (run set V)

-- what a service may be asked for between two connections: to set merchants, to change rights, or to purge
abbrev pub asked_of : Outside → Lists → Asking
asked_of at lists V cs = asked_by AreListed merchants_changes at lists.merchants V cs
    ⊎ asked_by AreRowsIn rights_changes at lists.rights V cs
    ⊎ swept_by at lists.merchants V cs

-- the same, by which text the file at a path had at which look, and by the moments that are told
abbrev pub asked_at : (List ℕ → Looks) → Lists → Turns → Asking
asked_at looks lists tells = asked_of (outside tells looks) lists
