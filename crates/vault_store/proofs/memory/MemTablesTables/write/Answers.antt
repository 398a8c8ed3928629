use Rattle.std.proofs.Common.{sym, ap, ◌∙◌, subst, inl, inr, Err}
use Rattle.vault_core.specs.Changes.{plus, with_entry}
use Rattle.vault_store.specs.HeldInMemory.{IsHeld}
use Rattle.vault_store.specs.HeldEntries.{HoldsEntries}
use Rattle.vault_store.proofs.HeldTables.{beside_entries, whole}
use Rattle.vault_store.proofs.AddsLemmas.{adds_entry}
use Rattle.vault_store.proofs.Results.{keeps}
use Rattle.vault_store.proofs.memory.MemTablesTables.write.Goals as goal

pub returns-in_err-was-clause-kept : goal.returns-in_err-was-clause-kept
returns-in_err-was-clause-kept c =
    keeps c.from_residual-in_err-was.result (IsHeld c.args.self.now) _
    (λ V held. record {
      merchants = held.merchants;
      entries = c.in_err-was.ensures.err V.entries held.entries;
      records = held.records;
      rights = held.rights;
    })

pub returns-in_err-was-clause-allowed : goal.returns-in_err-was-clause-allowed
returns-in_err-was-clause-allowed c V held fit adds =
    let x = c.in-Some in
    absurd (adds_entry V c.args.ch.now (x.merchant, x.token, x.entry) x.is
    (sym (held.entries.rows.at (x.merchant, x.token)) ∙ c.in_err-was.ensures.new) adds)

pub returns-in-Err-clause-kept : goal.returns-in-Err-clause-kept
returns-in-Err-clause-kept c =
    keeps {X = Unit {0}} (Err c.from.result) (IsHeld c.args.self.now) _
    (λ V held.
    whole _ V (c.in-Err.ensures.kept V (beside_entries c.args.self.now V held))
    (c.put_back.ensures V.entries (c.in_ok-was.ensures.was ∙ held.entries.rows.at _)
    (c.in_ok-was.ensures.ok V.entries held.entries)))

pub returns-clause-done : goal.returns-clause-done
returns-clause-done c _ V held sound fit =
    whole _ (plus V c.args.ch.now)
    (c.in_default-write_record.ensures.done V (beside_entries c.args.self.now V held) sound fit)
    (subst (HoldsEntries c.put.new.self) (sym (ap (with_entry V.entries) c.in-Some.is))
    (c.in_ok-was.ensures.ok V.entries held.entries))

pub returns-in_err-was-clause-crash : goal.returns-in_err-was-clause-crash
returns-in_err-was-clause-crash c _ V held sound fit =
    inl (record {
      merchants = held.merchants;
      entries = c.in_err-was.ensures.err V.entries held.entries;
      records = held.records;
      rights = held.rights;
    })

pub returns-in-Err-clause-crash : goal.returns-in-Err-clause-crash
returns-in-Err-clause-crash c _ V held sound fit =
    inl
    (whole _ V (c.in-Err.ensures.kept V (beside_entries c.args.self.now V held))
    (c.put_back.ensures V.entries (c.in_ok-was.ensures.was ∙ held.entries.rows.at _)
    (c.in_ok-was.ensures.ok V.entries held.entries)))

pub returns-clause-crash : goal.returns-clause-crash
returns-clause-crash c _ V held sound fit =
    inr
    (whole _ (plus V c.args.ch.now)
    (c.in_default-write_record.ensures.done V (beside_entries c.args.self.now V held) sound fit)
    (subst (HoldsEntries c.put.new.self) (sym (ap (with_entry V.entries) c.in-Some.is))
    (c.in_ok-was.ensures.ok V.entries held.entries)))
