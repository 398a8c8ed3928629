use Rattle.std.proofs.Common.{ap, inl, inr, refl}
use Rattle.vault_verdict.proofs.Results.{failed_read}
use Rattle.vault_verdict.proofs.verdict.judge_behind.Goals as goal
use Rattle.vault_rules.specs.AllRows.{Rows}
use Rattle.vault_rules.specs.declared.index.Index.{Index}

pub returns-in_err-behind-clause-told : goal.returns-in_err-behind-clause-told
returns-in_err-behind-clause-told g c cards held clean has =
    inl (failed_read c.from_residual.result _ c.from_residual.ensures.1
    (c.in_err-behind.ensures.refused clean has))

pub returns-clause-told : goal.returns-clause-told
returns-clause-told g c cards held clean has =
    let are = c.in_ok-behind.ensures.told clean has in
    let behind = c.in_ok-behind.behind in
    let index = c.args.index in
    let rows : Rows = record {
      versions = c.args.versions.now;
      merchants = index.merchants.now;
      counts = index.counts.now;
      cards = cards;
      entries = are.entries;
      records = are.records;
      rights = behind.rights.items;
      replaced = behind.replaced;
    } in
    inr (
      c.in_ok-behind.ensures.reads.kept clean has,
      rows,
      record {
        versions = refl;
        merchants = refl;
        counts = refl;
        cards = refl;
        entries = are.entries_are;
        records = are.records_are;
        rights = are.rights;
        replaced = are.replaced;
      },
      c.judge.ensures.verdict rows (record {
        versions = refl;
        replaced = refl;
        merchants = ap (λ (i : Index). i.merchants.now) (are.index_is cards held);
        counts = ap (λ (i : Index). i.counts.now) (are.index_is cards held);
        entries = are.entries_came cards held;
        records = are.records_came;
        rights = refl;
      }),
    )
