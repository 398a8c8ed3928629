use Rattle.std.proofs.Common.{Some, refl}
use Rattle.sql_tables.proofs.Calls.{small}
use Rattle.sql_tables.specs.Rows.{put}
use Rattle.vault_core.specs.Keys.{right_cmp}
use Rattle.vault_tables.proofs.Bounds.{number_bound, small_right}
use Rattle.vault_tables.proofs.Made.{made_of}
use Rattle.vault_tables.proofs.rights.give.Goals as goal

pub returns : goal.returns
returns g c = record {
  same_reference = cc;
  done =
      made_of (λ t. record t {
        rights = put right_cmp t.rights (c.args.caller.now, (c.args.m.now, c.args.right)) (Some c.args.row);
      }) c.put.ensures.goes_on.steps
      (c.put.ensures.done (c.args.caller.now, (c.args.m.now, c.args.right)) c.args.row
      (rw (c.to_sql.ensures, c.to_sql-2.ensures, c.to_sql-3.ensures, c.moment_value.ensures)
      (rw (c.number-what.ensures, small _ (small_right c.args.right), number_bound c.args.row.ends) refl)))
      (λ h cards pointing. refl) (λ h. refl);
}
