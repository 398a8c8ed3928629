use Rattle.std.proofs.Common.{None, refl}
use Rattle.sql_tables.proofs.Calls.{small}
use Rattle.sql_tables.specs.Rows.{put}
use Rattle.vault_core.specs.Keys.{right_cmp}
use Rattle.vault_tables.proofs.Bounds.{small_right}
use Rattle.vault_tables.proofs.Made.{made_of}
use Rattle.vault_tables.proofs.rights.take.Goals as goal

pub returns : goal.returns
returns g c = record {
  same_reference = cc;
  done =
      made_of (λ t. record t {
        rights = put right_cmp t.rights (c.args.caller.now, (c.args.m.now, c.args.right)) None;
      }) c.take.ensures.goes_on.steps
      (c.take.ensures.done (c.args.caller.now, (c.args.m.now, c.args.right))
      (rw (c.params-to_sql.ensures, c.params-to_sql-2.ensures, c.params-to_sql-3.ensures)
      (rw (c.number-what.ensures, small _ (small_right c.args.right)) refl)))
      (λ h cards pointing. refl) (λ h. refl);
}
