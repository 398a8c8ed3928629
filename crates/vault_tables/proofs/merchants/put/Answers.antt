use Rattle.std.proofs.Common.{Some, refl, arith}
use Rattle.sql_tables.proofs.Calls.{small}
use Rattle.sql_tables.specs.Rows.{put}
use Rattle.vault_core.specs.Keys.{bytes_cmp}
use Rattle.vault_tables.proofs.Bounds.{small_lead}
use Rattle.vault_tables.proofs.Made.{made_of}
use Rattle.vault_tables.proofs.merchants.put.Goals as goal

pub returns : goal.returns
returns g c = record {
  same_reference = cc;
  done =
      made_of (λ t. record t { merchants = put bytes_cmp t.merchants c.args.m.now (Some c.args.x.now) })
      c.put.ensures.goes_on.steps
      (c.put.ensures.done c.args.m.now c.args.x.now
      (rw (c.params-to_sql.ensures, c.params-to_sql-2.ensures, c.params-to_sql-3.ensures)
      (rw (c.params-to_sql-4.ensures, c.params-to_sql-5.ensures)
      (rw (c.seconds-moment.ensures.value, c.digits-lead.ensures)
      (rw (
        small _ c.requires.single,
        small _ c.requires.multi,
        small c.args.x.now.moment (omega (arith, c.seconds-moment.ensures.moment)),
        small _ (small_lead c.args.x.now.lead),
      ) refl)))))
      (λ h cards pointing. refl) (λ h. refl);
}
