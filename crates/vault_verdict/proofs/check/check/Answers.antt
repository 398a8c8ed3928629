use Rattle.std.proofs.Common.{inl, rules}
use Rattle.sqlite.specs.Held.{state}
use Rattle.vault_verdict.proofs.Holders.{held_by, no_sizes}
use Rattle.vault_verdict.proofs.Judged.{no_refusal}
use Rattle.vault_verdict.proofs.Results.{if_err}
use Rattle.vault_verdict.proofs.Versioned.{wrong_mixed, wrong_other}
use Rattle.vault_verdict.proofs.check.check.Goals as goal

pub returns-in-Nobody-clause-sound : goal.returns-in-Nobody-clause-sound
returns-in-Nobody-clause-sound g c clean full =
    inl (held_by _ _ _ _ c.in-Nobody.is c.schema.ensures.value c.holder_in.ensures, no_sizes)

pub returns-in-Vault-clause-rows : goal.returns-in-Vault-clause-rows
returns-in-Vault-clause-rows g c =
    let vault = held_by _ _ _ _ c.in-Vault.is c.schema.ensures.value c.holder_in.ensures in
    record {
      damaged = λ clean. if_err c.newest_verdict.result
          (λ fault broken rule same full. broken rule same (record { schema = vault; full = full }))
          (c.newest_verdict.ensures.damaged clean);
      wrong = search rules;
      spared = λ clean. no_refusal (state g.S.Store c.args.conn.now).now vault c.newest_verdict.result
          (c.newest_verdict.ensures.damaged clean) (c.newest_verdict.ensures.versioned clean);
    }

pub returns-in-Mixed-clause-rows : goal.returns-in-Mixed-clause-rows
returns-in-Mixed-clause-rows g c = record {
  damaged = search rules;
  wrong = λ clean.
      wrong_mixed (state g.S.Store c.args.conn.now).now c.version_or.result
      (held_by _ _ _ _ c.in-Mixed.is c.schema.ensures.value c.holder_in.ensures).1
      (c.version_or.ensures.told clean);
  spared = search rules;
}

pub returns-in-Other-clause-rows : goal.returns-in-Other-clause-rows
returns-in-Other-clause-rows g c = record {
  damaged = search rules;
  wrong = λ clean.
      wrong_other (state g.S.Store c.args.conn.now).now c.version_or-in-Other.result
      (c.version_or-in-Other.ensures.told clean);
  spared = search rules;
}
