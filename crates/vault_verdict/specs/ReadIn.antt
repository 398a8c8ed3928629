-- When a reading of some of the tables fails.
use Rattle.std.specs.Prelude.{◌≡◌, Result, IfErr}
use Rattle.sqlite.specs.Effect.{Database}
use Rattle.sqlite.specs.Held.{Held}
use Rattle.sqlite.specs.Schema.{Schema}
use Rattle.sqlite_trees.specs.declared.store.Store.{Ghosts}
use Rattle.sql_tables.specs.Reading.{InSchema}
use Rattle.sql_tables.specs.declared.fault.StoreFault.{StoreFault}
use Rattle.sql_tables.specs.declared.fault.StoreFault.TheVariants.{Store}

-- of a database in this schema, on an honest disk, `Store` comes only where this is why
abbrev pub RefusesIn : {S K : Type 0} → Ghosts S → Schema → Held S → Held S → Result K StoreFault
    → (Database → Held S → Type 0) → Type 0
RefusesIn g s old new result Unread =
    InSchema g s old new (λ db. IfErr result (λ e. e ≡ Store → Unread db new))
