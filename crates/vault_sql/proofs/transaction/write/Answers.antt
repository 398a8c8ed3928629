use Rattle.std.proofs.Common.{◌≡◌, sym, subst, arith, rules, inl, inr, OnOk}
use Rattle.sqlite.specs.Held.{state}
use Rattle.sqlite.specs.State.{HasCleanDisk}
use Rattle.sql_tables.proofs.Calls.{as_ok, on_ok, steps_then}
use Rattle.vault_core.specs.Changes.{plus}
use Rattle.vault_core.specs.Vault.{Vault}
use Rattle.vault_schema.specs.Versions.{Lookups}
use Rattle.vault_tables.specs.Calls.{IsWithin}
use Rattle.vault_schema.specs.Holds.{Holds, LeavesEither}
use Rattle.vault_schema.specs.Stands.{lookups_of}
use Rattle.vault_tables.proofs.Held.{begun_over, held_after, ours}
use Rattle.vault_schema.specs.Left.{last_commit}
use Rattle.vault_schema.specs.Stands.{newest}
use Rattle.vault_sql.proofs.WrittenPlus.{has_room, written_plus}
use Rattle.vault_sql.specs.KnownCounts.{IsFitFor}
use Rattle.vault_sql.proofs.transaction.write.Given.{Over}
use Rattle.vault_sql.proofs.transaction.write.Goals as goal

-- what is left is what was committed
left_is : (g : Over) (c : goal.After-map_err g) → c.commit.new.self.0 ≡ c.conn-2-1.given.0
left_is g c = search rules

-- before the commit all changes were written
ready : (g : Over) (c : goal.After-map_err g) → HasCleanDisk (state g.S.Store c.commit.new.self.0)
    → (V : Vault) → IsFitFor c.args.ch.now c.args.known.now (state g.S.Store c.args.conn.now) V
    → IsWithin newest (state g.S.Store c.write_caller.new.tx.conn.now)
    (state g.S.Store c.args.conn.now).committed
    (lookups_of (plus V c.args.ch.now))
ready g c late V fit =
    let old = state g.S.Store c.args.conn.now in
    let first : IsWithin newest (state g.S.Store c.transaction-tx.result.conn.now) old.committed
    (lookups_of V) =
    rw c.transaction-tx.ensures.begun (begun_over old V fit.held) in
    let third : HasCleanDisk (state g.S.Store c.write_caller.new.tx.conn.now) =
    omega (arith, c.commit.ensures.survives.clean) in
    let second : HasCleanDisk (state g.S.Store c.write_merchant.new.tx.conn.now) =
    omega (arith, c.in_ok-write_caller.ensures.done.steps.clean) in
    subst (λ (after : Lookups). IsWithin newest
    (state g.S.Store c.write_caller.new.tx.conn.now) old.committed after)
    (written_plus V c.args.ch.now fit.fits)
    (c.in_ok-write_caller.ensures.done.done third old.committed _
    (c.in_ok-write_merchant.ensures.done.done second old.committed (lookups_of V) first
    (fit.known_so, has_room V fit.sound c.args.ch.now.lives c.args.ch.now.count)) tt)

pub returns-clause-done : goal.returns-clause-done
returns-clause-done g c clean =
    let late = subst (λ h. HasCleanDisk (state g.S.Store h)) (sym (left_is g c)) clean in
    let old = state g.S.Store c.args.conn.now in
    subst (λ h. OnOk c.map_err.result
    ((V : Vault) → IsFitFor c.args.ch.now c.args.known.now old V
    → Holds (state g.S.Store h) (plus V c.args.ch.now))) (left_is g c)
    (as_ok _ c.commit.result c.map_err.result c.map_err.ensures.variant
    (on_ok c.commit.result (c.commit.ensures.ok late) (λ done V fit.
    held_after (plus V c.args.ch.now) (ready g c late V fit) done.1
    c.commit.ensures.survives.limit)))

pub returns-clause-crash : goal.returns-clause-crash
returns-clause-crash g c clean V fit =
    let late = subst (λ h. HasCleanDisk (state g.S.Store h)) (sym (left_is g c)) clean in
    let old = state g.S.Store c.args.conn.now in
    let both = steps_then c.in_ok-write_merchant.ensures.done.steps c.in_ok-write_caller.ensures.done.steps in
    let middle : HasCleanDisk (state g.S.Store c.write_caller.new.tx.conn.now) =
    omega (arith, c.commit.ensures.survives.clean) in
    subst (λ x. LeavesEither (state g.S.Store x) V (plus V c.args.ch.now)) (left_is g c) (λ db left.
    elim (c.commit.ensures.survives.crash late db left) [
      | inl before ↦ inl (last_commit old V db fit.held
          (g.met.S.Store.settled c.args.conn.now.store db fit.held.is_open
          (rw c.transaction-tx.ensures.begun at (both.left middle db before))))
      | inr wrote ↦ inr (ours (plus V c.args.ch.now) (ready g c late V fit) db wrote)
    ])
