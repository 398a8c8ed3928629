-- A connection that was just opened, and found no table.
use Rattle.std.proofs.Common.{◌≡◌, ap, inl, subst}
use Rattle.sqlite.specs.Effect.{Database}
use Rattle.sqlite.specs.Files.{IsOpened, file_state}
use Rattle.sqlite.specs.Held.{Held}
use Rattle.sqlite.specs.Schema.{Schema}
use Rattle.sqlite_catalog.specs.Listing.{IsSound}
use Rattle.sqlite_disk.specs.declared.Disk.{Ghosts}
use Rattle.sqlite_store.specs.Laws.{settled_at}
use Rattle.sqlite_store.specs.declared.store.FileStore.{FileStore}
use Rattle.sql_tables.specs.Schema.{no_schema}
use Rattle.vault_recover.specs.Crashed.{AreBlank}
use Rattle.vault_schema.specs.Holds.{LeavesFirst}

module _ {D : Type 0} {g : Ghosts D} (conn : Held (FileStore D g)) (opened : IsOpened conn)
    (none : (file_state conn).now.schema ≡ no_schema) where
  pub are_blank : AreBlank (file_state conn).committed.trees
  are_blank =
      subst (IsSound no_schema) (ap (λ (d : Database). d.trees) opened.0.clean)
      (subst (λ (s : Schema). IsSound s (file_state conn).now.trees) none (opened.1 opened.0.is_open).0)

  pub leaves_first : ((file : D) → g.may_leave file (g.seen file))
      → LeavesFirst (file_state conn) (file_state conn).committed.trees
  leaves_first stays db left = inl (settled_at conn.store stays db opened.0.is_open left)
