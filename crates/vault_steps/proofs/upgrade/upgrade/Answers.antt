use Rattle.std.proofs.Common.{◌≡◌, sym, arith, inl, inr, subst, rules, OnOk, ◌⊎◌}
use Rattle.sqlite.specs.Held.{state}
use Rattle.sqlite.specs.State.{HasCleanDisk}
use Rattle.sqlite.specs.Tree.{Trees}
use Rattle.sql_tables.proofs.Calls.{as_ok, on_ok}
use Rattle.vault_schema.specs.Versions.{AreOf, HoldsOf, Lookups, WithinOf, next_of}
use Rattle.vault_schema.proofs.VersionLemmas.{begun, committed, last_commit, wrote}
use Rattle.vault_steps.specs.Entries.{AreFor, joined}
use Rattle.vault_steps.proofs.upgrade.upgrade.Given.{Over}
use Rattle.vault_steps.proofs.upgrade.upgrade.Goals as goal

-- what is left is what was committed
left_is : (g : Over) (c : goal.After-map_err g) → c.commit.new.self.0 ≡ c.conn-2-1.given.0
left_is g c = search rules

-- before the commit all statements were run
ready : (g : Over) (c : goal.After-map_err g) → HasCleanDisk (state g.S.Store c.commit.new.self.0)
    → (h : Lookups) → HoldsOf c.args.from h (state g.S.Store c.args.conn.now)
    → AreFor c.args.from (joined c.args.pieces.items) h
    → WithinOf (next_of c.args.from) h (state g.S.Store c.args.conn.now).committed
    (state g.S.Store c.step_from.new.tx.conn.now)
ready g c late h held are =
    let old = state g.S.Store c.args.conn.now in
    let first : WithinOf c.args.from h old.committed (state g.S.Store c.transaction-tx.result.conn.now) =
    rw c.transaction-tx.ensures.begun (begun c.args.from h old held) in
    let before : HasCleanDisk (state g.S.Store c.step_from.new.tx.conn.now) =
    omega (arith, c.commit.ensures.survives.clean) in
    c.in_ok-step_from.ensures.done before old.committed h (first, are)

pub returns-clause-done : goal.returns-clause-done
returns-clause-done g c clean =
    let late = subst (λ h. HasCleanDisk (state g.S.Store h)) (sym (left_is g c)) clean in
    let old = state g.S.Store c.args.conn.now in
    subst (λ x. OnOk c.map_err.result ((h : Lookups) → HoldsOf c.args.from h old
    → AreFor c.args.from (joined c.args.pieces.items) h
    → HoldsOf (next_of c.args.from) h (state g.S.Store x))) (left_is g c)
    (as_ok _ c.commit.result c.map_err.result c.map_err.ensures.variant
    (on_ok c.commit.result (c.commit.ensures.ok late) (λ done h held are.
    committed (next_of c.args.from) h (ready g c late h held are) done.1 c.commit.ensures.survives.limit)))

pub returns-clause-crash : goal.returns-clause-crash
returns-clause-crash g c clean h held are =
    let late = subst (λ h. HasCleanDisk (state g.S.Store h)) (sym (left_is g c)) clean in
    let middle : HasCleanDisk (state g.S.Store c.step_from.new.tx.conn.now) =
    omega (arith, c.commit.ensures.survives.clean) in
    subst (λ x. (db : Trees) → (state g.S.Store x).may_leave db
    → AreOf c.args.from h db ⊎ AreOf (next_of c.args.from) h db) (left_is g c) (λ db left.
    elim (c.commit.ensures.survives.crash late db left) [
      | inl before ↦ inl (last_commit c.args.from h _ db held
          (g.met.S.Store.settled c.args.conn.now.store db held.free.is_open
          (rw c.transaction-tx.ensures.begun at (c.in_ok-step_from.ensures.steps.left middle db before))))
      | inr written ↦ inr (wrote (next_of c.args.from) h (ready g c late h held are) db written)
    ])
