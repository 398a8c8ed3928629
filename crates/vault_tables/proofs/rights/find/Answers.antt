use Rattle.std.proofs.Common.{refl}
use Rattle.sql_tables.proofs.Calls.{if_ok, small}
use Rattle.vault_tables.proofs.Bounds.{small_right}
use Rattle.vault_tables.proofs.rights.find.Goals as goal

pub returns : goal.returns
returns g c = record {
  reads = c.find.ensures.reads;
  told = λ clean. if_ok c.find.result _ _ (c.find.ensures.told clean) (λ found told t stands.
      told t stands (c.args.caller.now, (c.args.m.now, c.args.right))
      (rw (c.params-to_sql.ensures, c.params-to_sql-2.ensures, c.params-to_sql-3.ensures)
      (rw (c.number-what.ensures, small _ (small_right c.args.right)) refl)));
}
