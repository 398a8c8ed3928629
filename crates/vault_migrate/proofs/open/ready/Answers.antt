use Rattle.std.proofs.Common.{◌∙◌, Err, rules, sym}
use Rattle.sqlite.specs.Held.{state}
use Rattle.vault_verdict.proofs.Holders.{held_by}
use Rattle.vault_verdict.proofs.Judged.{no_refusal}
use Rattle.vault_schema.specs.Left.{left_after}
use Rattle.vault_verdict.proofs.Opening.{apart, opens_vault}
use Rattle.vault_verdict.proofs.Versioned.{wrong_mixed, wrong_other}
use Rattle.vault_migrate.proofs.open.ready.Goals as goal

pub returns-in-Ok-newest_verdict-clause-opens : goal.returns-in-Ok-newest_verdict-clause-opens
returns-in-Ok-newest_verdict-clause-opens g c clean =
    opens_vault (state g.S.Store c.args.conn.now) (state g.S.Store c.newest_verdict.new.conn)
    c.is_autocommit-settled.result c.in-Ok-newest_verdict.field-0
    c.is_autocommit-settled.ensures.value c.requires.idle c.requires.unlimited
    c.is_autocommit-settled.ensures.settled
    (held_by _ _ _ _ c.in-Vault.is c.schema.ensures.value c.holder_in.ensures)
    c.newest_verdict.ensures.nothing_new.limit
    (c.in-Ok-newest_verdict.ensures.sound clean) (c.in-Ok-newest_verdict.ensures.kept clean)

pub returns-in-Err-newest_verdict-clause-refuses : goal.returns-in-Err-newest_verdict-clause-refuses
returns-in-Err-newest_verdict-clause-refuses g c =
    let ours = held_by _ _ _ _ c.in-Vault.is c.schema.ensures.value c.holder_in.ensures in
    record {
      damaged = λ clean rule same full.
          c.in-Err-newest_verdict.ensures.damaged clean rule same (record { schema = ours; full = full });
      wrong = search rules;
      unread = c.in-Err-newest_verdict.ensures.unread;
      spared = λ clean. no_refusal {A = Unit {0}} (state g.S.Store c.args.conn.now).now ours
          (Err c.in-Err-newest_verdict.fault) (c.in-Err-newest_verdict.ensures.damaged clean)
          (c.in-Err-newest_verdict.ensures.versioned clean);
      unchanged = search rules;
      nothing_new = search rules;
      leaves = search rules;
    }

pub returns-in-Mixed-clause-refuses : goal.returns-in-Mixed-clause-refuses
returns-in-Mixed-clause-refuses g c = record {
  damaged = search rules;
  wrong = λ clean.
      wrong_mixed (state g.S.Store c.args.conn.now).now c.version_or.result
      (held_by _ _ _ _ c.in-Mixed.is c.schema.ensures.value c.holder_in.ensures).1
      (c.version_or.ensures.told clean);
  unread = search rules;
  spared = search rules;
  unchanged = search rules;
  nothing_new = search rules;
  leaves = search rules;
}

pub returns-in-Other-clause-refuses : goal.returns-in-Other-clause-refuses
returns-in-Other-clause-refuses g c = record {
  damaged = search rules;
  wrong = λ clean.
      wrong_other (state g.S.Store c.args.conn.now).now c.version_or-in-Other.result
      (c.version_or-in-Other.ensures.told clean);
  unread = search rules;
  spared = search rules;
  unchanged = search rules;
  nothing_new = search rules;
  leaves = search rules;
}

pub returns-in-Ok-newest_verdict-clause-leaves : goal.returns-in-Ok-newest_verdict-clause-leaves
returns-in-Ok-newest_verdict-clause-leaves g c = record {
  left = λ clean.
      let old = state g.S.Store c.args.conn.now in
      let new = state g.S.Store c.newest_verdict.new.conn in
      let vault = held_by _ _ _ _ c.in-Vault.is c.schema.ensures.value c.holder_in.ensures in
      record {
        held = λ V h. left_after old new V h
            (λ db left. g.met.S.Store.settled c.args.conn.now.store db h.is_open left)
            (c.newest_verdict.ensures.nothing_new.left clean h.schema);
        blank = λ ready none. absurd (apart (sym none ∙ vault));
      };
  clean = search rules;
  idle = search rules;
}
