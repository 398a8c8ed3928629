use Rattle.std.proofs.Common.{sym, ◌∙◌}
use Rattle.vault_core.proofs.Maps.{entry_exact}
use Rattle.vault_store.proofs.Results.{on_err, none_is}
use Rattle.vault_store.proofs.memory.entries.Entries.put.Goals as goal

pub returns-in_err-was-clause-err : goal.returns-in_err-was-clause-err
returns-in_err-was-clause-err c =
    on_err c.from_residual.result
    (λ F held. record { rows = c.in_err-was.ensures.err F held.rows; index = held.index })

pub returns-then-is_some-clause-ok : goal.returns-then-is_some-clause-ok
returns-then-is_some-clause-ok c F held =
    let put = c.in_ok-was.ensures in
    record {
      rows = put.ok F held.rows;
      index =
          c.follow.ensures.shown F
          (sym (put.was ∙ held.rows.at (c.args.merchant, c.args.token))) held.index;
    }

pub returns-in-Err-clause-err : goal.returns-in-Err-clause-err
returns-in-Err-clause-err c F held =
    let put = c.in_ok-was.ensures in
    let new = none_is c.in_ok-was.was' (sym c.is_some.ensures ∙ c.if-is_some.false) in
    record {
      rows =
          c.put_back.ensures entry_exact F c.args.entry.now
          (sym new ∙ put.was ∙ held.rows.at (c.args.merchant, c.args.token))
          (put.ok F held.rows);
      index = c.in-Err.ensures.err F held.index;
    }

pub returns-clause-ok : goal.returns-clause-ok
returns-clause-ok c F held =
    let put = c.in_ok-was.ensures in
    let new = none_is c.in_ok-was.was' (sym c.is_some.ensures ∙ c.if-is_some.false) in
    record {
      rows = put.ok F held.rows;
      index =
          c.in_default.ensures.ok F
          (sym (put.was ∙ held.rows.at (c.args.merchant, c.args.token)) ∙ new) held.index;
    }
