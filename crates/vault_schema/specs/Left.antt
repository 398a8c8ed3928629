-- What a crash leaves of an open connection: its last commit, and nothing else.
use Rattle.std.proofs.Common.{◌≡◌, inl, subst, sym, ap, ◌∙◌}
use Rattle.sqlite.specs.Effect.{Database}
use Rattle.sqlite.specs.State.{State}
use Rattle.sqlite.specs.Tree.{Trees}
use Rattle.sqlite_catalog.specs.Listing.{IsSound}
use Rattle.sql_tables.specs.States.{LeavesNoMore}
use Rattle.vault_core.specs.Vault.{Vault}
use Rattle.vault_schema.specs.Holds.{AreOurs, Holds, LeavesEither}
use Rattle.vault_schema.specs.Schema.{newest_schema}
use Rattle.vault_schema.specs.Stands.{Stands}

-- the last commit is the vault that is held
pub last_commit : (s : State) (V : Vault) (db : Trees) → Holds s V → db ≡ s.committed.trees → AreOurs db V
last_commit s V db held is =
    let same : s.now.trees ≡ db = ap (λ (d : Database). d.trees) held.settled ∙ sym is in
    record {
      sound = subst (λ (t : Trees). IsSound newest_schema t) same
          (subst (λ schema. IsSound schema s.now.trees) held.schema held.sound);
      stands = subst (λ (t : Trees). Stands t V) same held.stands;
    }

-- where only the last commit may be left, each state that is left stands for the vault that is held
pub left_alone : (s : State) (V : Vault) → Holds s V
    → ((db : Trees) → s.may_leave db → db ≡ s.committed.trees) → LeavesEither s V V
left_alone s V held alone = λ db left. inl (last_commit s V db held (alone db left))

-- what leaves no more than that leaves nothing else either
pub left_after : (old new : State) (V : Vault) → Holds old V
    → ((db : Trees) → old.may_leave db → db ≡ old.committed.trees)
    → LeavesNoMore old new → LeavesEither new V V
left_after old new V held alone no_more = λ db left. left_alone old V held alone db (no_more db left)
