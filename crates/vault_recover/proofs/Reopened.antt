-- What was committed is found after a crash.
use Rattle.std.proofs.Common.{◌≡◌, inl, inr, IsTrue, None, sym, ap, subst, ◌∙◌}
use Rattle.std.proofs.Math.Logic.{∥∥₁_elim, ∥∥₁_map}
use Rattle.sqlite.specs.Effect.{Database, IsDatabase}
use Rattle.sqlite.specs.Files.{file_state}
use Rattle.sqlite.specs.Held.{Held, AreDatabases}
use Rattle.sqlite.specs.Schema.{Schema}
use Rattle.sqlite.proofs.Theorems.{opens_again}
use Rattle.sql_tables.specs.Schema.{no_schema}
use Rattle.sqlite_catalog.specs.Listing.{IsSound, Lists}
use Rattle.sqlite_catalog.proofs.ReadLemmas.{lists_once}
use Rattle.sqlite_disk.specs.declared.Disk.{Ghosts}
use Rattle.sqlite_store.specs.FileStore as files
use Rattle.sqlite_store.specs.declared.store.FileStore.{FileStore}
use Rattle.sqlite_trees.specs.Objects.{catalog_tree}
use Rattle.sqlite_trees.specs.Props.{Trees-set}
use Rattle.sqlite_trees.specs.Tree.{Trees}
use Rattle.sqlite_wal.specs.Recovery.{Image}
use Rattle.vault_core.specs.Vault.{Vault, empty_vault}
use Rattle.vault_schema.specs.Holds.{AreEither, AreFirst, AreOurs, Holds}
use Rattle.vault_schema.specs.Schema.{newest_schema}
use Rattle.vault_schema.specs.Stands.{Stands}
use Rattle.vault_recover.specs.Crashed.{AreBlank, HoldsEither, HoldsFirst, IsBlank, IsOpenOf}
use Rattle.vault_recover.specs.Crashed.{KeepsEither, KeepsFirst}
use Rattle.vault_recover.specs.Crashed.{Reopens, ReopensEither, ReopensFirst, ReopensSuch}

module _ {D : Type 0} {g : Ghosts D} (it : FileStore D g)
    (numbered : IsTrue (files.view it).is_numbered) where
  -- where a crash leaves these trees alone
  pub reopens : (V : Vault) (t : Trees) → AreOurs t V
      → ((db : Trees) → files.recovers it db → db ≡ t) → Reopens it V
  reopens V t ours alone left may found finds =
      let all : AreDatabases (files.recovers it) = λ db was.
      (newest_schema, (subst (λ u. AreOurs u V) (sym (alone db was)) ours).sound) in
      let same : found ≡ t = ∥∥₁_elim (opens_again it numbered all left may) (Trees-set _ _)
      (λ db. finds db.0 db.2 ∙ alone db.0 db.1) in
      subst (λ u. AreOurs u V) (sym same) ours

  -- where each state that it leaves is a database of which this is true
  pub reopens_such : (Are : Trees → Type 0) → AreDatabases (files.recovers it)
      → ((db : Trees) → files.recovers it db → Are db) → ReopensSuch it Are
  reopens_such Are sound each left may found finds =
      ∥∥₁_map (opens_again it numbered sound left may)
      (λ db. subst Are (sym (finds db.0 db.2)) (each db.0 db.1))

  -- that of one of two vaults
  pub reopens_either : (V W : Vault) → ((db : Trees) → files.recovers it db → AreEither V W db)
      → ReopensEither it V W
  reopens_either V W each = reopens_such (AreEither V W)
      (λ db was. (newest_schema, elim (each db was) [ inl one ↦ one.sound | inr other ↦ other.sound ])) each

  -- what was there before there was a table, or that of the empty vault
  pub reopens_first : (before : Trees) → AreBlank before
      → ((db : Trees) → files.recovers it db → AreFirst before db) → ReopensFirst it before
  reopens_first before blank each =
      reopens_such (AreFirst before) (λ db was. sound db (each db was)) each
    where
      sound : (db : Trees) → AreFirst before db → (schema : Schema) × IsSound schema db
      sound db (inl same) = (no_schema, subst AreBlank (sym same) blank)
      sound db (inr empty) = (newest_schema, empty.sound)

module _ {D : Type 0} {g : Ghosts D} (image : Image) (c : Held (FileStore D g)) (is : IsOpenOf image c)
    (unlimited : (file_state c).step_limit ≡ None) where
  pub now_trees : (file_state c).now.trees ≡ (file_state c).committed.trees
  now_trees = ap (λ (d : Database). d.trees) is.opened.0.clean

  pub fine : IsDatabase (file_state c).now
  fine = (is.opened.1 is.opened.0.is_open).0

  -- The trees that are found list one schema.
  pub one_schema : (s : Schema) → IsSound s (file_state c).committed.trees → (file_state c).now.schema ≡ s
  one_schema s sound =
      lists_once ((file_state c).now.trees catalog_tree) (file_state c).now.schema s fine.lists
      (subst (λ (t : Trees). Lists (t catalog_tree) s) (sym now_trees) sound.lists)

  pub held_again : (V : Vault) → AreOurs (file_state c).committed.trees V → Holds (file_state c) V
  held_again V ours = record {
    is_open = is.opened.0.is_open;
    autocommit = is.opened.0.autocommit;
    unlimited = unlimited;
    schema = one_schema newest_schema ours.sound;
    sound = fine;
    settled = is.opened.0.clean;
    stands = subst (λ (t : Trees). Stands t V) (sym now_trees) ours.stands;
  }

  blank_again : (before : Trees) → AreBlank before → (file_state c).committed.trees ≡ before
      → IsBlank (file_state c) before
  blank_again before blank same = record {
    ready = record {
      is_open = is.opened.0.is_open;
      autocommit = is.opened.0.autocommit;
      unlimited = unlimited;
      settled = is.opened.0.clean;
    };
    schema = one_schema no_schema (subst AreBlank (sym same) blank);
    same = same;
  }

  pub one_again : (V W : Vault) → KeepsEither image V W → HoldsEither (file_state c) V W
  one_again V W keeps =
      ∥∥₁_map (keeps _ is.found.holds) (λ ours. elim ours
      [ inl one ↦ inl (held_again V one) | inr other ↦ inr (held_again W other) ])

  pub first_again : (before : Trees) → AreBlank before → KeepsFirst image before
      → HoldsFirst (file_state c) before
  first_again before blank keeps =
      ∥∥₁_map (keeps _ is.found.holds) (λ first. elim first
      [ inl same ↦ inl (blank_again before blank same) | inr empty ↦ inr (held_again empty_vault empty) ])
