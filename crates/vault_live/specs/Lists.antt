-- The lists of a service.
use Rattle.std.specs.Prelude.{◌⊎◌, List, ℕ, IfSome, IsSomeAnd}
use Rattle.vault_listen.specs.Live.{Turns}
use Rattle.vault_merchants.specs.ListedMerchants.{AreListed}
use Rattle.vault_live.specs.Following.{AreRowsIn, Asks, Looks, Remembers}
use Rattle.vault_live.specs.Kinds.{merchants_changes, rights_changes}
use Rattle.vault_live.specs.Sweeping.{AsksPurges}
use Rattle.vault_live.specs.Turns.{Asking}
use Rattle.vault_live.specs.declared.lists.ListsKept.{ListsKept}
use Rattle.vault_live.specs.declared.lists.ListsOffice.{ListsOffice}

-- by which text the file at a path had at which look of a desk
module _ {D : Type 0} (says : D → List ℕ → Looks) (office : ListsOffice D) where
  -- what the list of merchants asks for, where one is followed
  abbrev pub AsksSets : Turns → Asking
  AsksSets tells V cs = IsSomeAnd office.shops (λ it.
      Asks AreListed merchants_changes (says it.list.desk.now it.list.path.now) tells V cs)

  -- what the list of rights asks for
  abbrev pub AsksGrants : Turns → Asking
  AsksGrants tells V cs = IsSomeAnd office.rights (λ it.
      Asks AreRowsIn rights_changes (says it.desk.now it.path.now) tells V cs)

  -- the purges that the list of merchants asks for
  abbrev pub AsksSweeps : Turns → Asking
  AsksSweeps tells V cs = IsSomeAnd office.shops (λ it.
      AsksPurges it.began.now (says it.list.desk.now it.list.path.now) tells V cs)

  -- what is asked for where the list of merchants asks for nothing
  abbrev pub AsksRest : Turns → Asking
  AsksRest tells V cs = AsksGrants tells V cs ⊎ AsksSweeps tells V cs

  -- what is remembered of the lists is of their files
  pub record RemembersBoth (kept : ListsKept) : Type 0 where
    pub merchants : IfSome office.shops (λ it.
        Remembers AreListed (says it.list.desk.now it.list.path.now) kept.merchants)
    pub rights : IfSome office.rights (λ it.
        Remembers AreRowsIn (says it.desk.now it.path.now) kept.rights)
