use Rattle.std.proofs.Common.{◌≡◌, false, List, [], map}
use Rattle.sqlite.proofs.Callers.{IsPlain}
use Rattle.sqlite.specs.Given.{HasGiven}
use Rattle.sqlite.specs.Held.{state}
use Rattle.sqlite.specs.Listing.{understood}
use Rattle.sqlite.specs.State.{CommitsShowing, HasCleanDisk, IsUnchanged, Survives}
use Rattle.sql_tables.proofs.taken.taken.Given as goal

abbrev pub invariant-rows : goal.invariant-rows
invariant-rows g l =
    let old = state g.S.Store l.fn.conn in
    let now = state g.S.Store l.rows.conn.now in
    (l.rows.conn.ghost_name ≡ l.initial.rows.conn.ghost_name)
    × (old.in_transaction ≡ false → now.in_transaction ≡ false)
    × Survives old now (CommitsShowing l.sql [] old)
    × (raws : List g.row.R-Of.Denot) × g.K.Taker.took l.fn.start l.taker raws
    × (HasCleanDisk now → IsPlain (understood old.now.schema l.sql)
    → HasGiven g.S.Store l.sql [] l.rows.conn.now (map g.R.Raw.values raws) × IsUnchanged old now)

-- the rows that it may still take
abbrev pub decreases-rows : goal.decreases-rows
decreases-rows g l = g.K.Taker.room l.taker
