use Rattle.std.proofs.Common.{◌≡◌, sym, subst, arith, rules, inl, inr, OnOk}
use Rattle.sqlite.specs.Held.{state}
use Rattle.sqlite.specs.State.{HasCleanDisk}
use Rattle.sql_tables.specs.Schema.{no_schema}
use Rattle.sql_tables.proofs.Calls.{on_ok}
use Rattle.vault_core.specs.Vault.{empty_vault}
use Rattle.vault_tables.specs.Calls.{IsWithin}
use Rattle.vault_schema.specs.Holds.{Holds}
use Rattle.vault_schema.specs.Making.{IsBegun, IsReady}
use Rattle.vault_schema.specs.Stands.{lookups_of}
use Rattle.vault_schema.specs.Stands.{newest}
use Rattle.vault_tables.proofs.Held.{held_after, ours}
use Rattle.vault_steps.proofs.Making.{begun_blank}
use Rattle.vault_steps.proofs.schema.create_all.Given.{Over}
use Rattle.vault_steps.proofs.schema.create_all.Goals as goal

-- what is left is what was committed
left_is : (g : Over) (c : goal.After-conn-2-1 g) → c.commit.new.self.0 ≡ c.conn-2-1.given.0
left_is g c = search rules

-- before the commit all tables were made
made : (g : Over) (c : goal.After-conn-2-1 g) → HasCleanDisk (state g.S.Store c.commit.new.self.0)
    → IsReady (state g.S.Store c.args.conn.now) → (state g.S.Store c.args.conn.now).now.schema ≡ no_schema
    → IsWithin newest (state g.S.Store c.create_tables.new.tx.conn.now)
    (state g.S.Store c.args.conn.now).committed
    (lookups_of empty_vault)
made g c late is blank =
    let old = state g.S.Store c.args.conn.now in
    let begun : IsBegun (state g.S.Store c.transaction-tx.result.conn.now) old.committed =
    rw c.transaction-tx.ensures.begun (begun_blank old is blank) in
    let before : HasCleanDisk (state g.S.Store c.create_tables.new.tx.conn.now) =
    omega (arith, c.commit.ensures.survives.clean) in
    c.in_ok-create_tables.ensures.done before old.committed begun

pub returns-clause-done : goal.returns-clause-done
returns-clause-done g c clean =
    let late = subst (λ h. HasCleanDisk (state g.S.Store h)) (sym (left_is g c)) clean in
    let old = state g.S.Store c.args.conn.now in
    subst (λ h. OnOk c.commit.result
    (IsReady old → old.now.schema ≡ no_schema → Holds (state g.S.Store h) empty_vault)) (left_is g c)
    (on_ok c.commit.result (c.commit.ensures.ok late) (λ done is blank.
    held_after empty_vault (made g c late is blank) done.1 c.commit.ensures.survives.limit))

pub returns-clause-crash : goal.returns-clause-crash
returns-clause-crash g c clean is blank db left =
    let late = subst (λ h. HasCleanDisk (state g.S.Store h)) (sym (left_is g c)) clean in
    let was : g.S.Store.recovers c.commit.new.self.0.store db =
    subst (λ h. g.S.Store.recovers h.store db) (sym (left_is g c)) left in
    let middle : HasCleanDisk (state g.S.Store c.create_tables.new.tx.conn.now) =
    omega (arith, c.commit.ensures.survives.clean) in
    elim (c.commit.ensures.survives.crash late db was) [
      | inl before ↦
          let at_first : (state g.S.Store c.args.conn.now).may_leave db = rw c.transaction-tx.ensures.begun at
          (c.in_ok-create_tables.ensures.goes_on.steps.left middle db before) in
          inl (g.met.S.Store.settled c.args.conn.now.store db is.is_open at_first)
      | inr wrote ↦ inr (ours empty_vault (made g c late is blank) db wrote)
    ]
