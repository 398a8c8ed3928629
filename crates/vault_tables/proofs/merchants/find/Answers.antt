use Rattle.std.proofs.Common.{refl}
use Rattle.sql_tables.proofs.Calls.{if_ok}
use Rattle.vault_tables.proofs.merchants.find.Goals as goal

pub returns : goal.returns
returns g c = record {
  reads = c.find.ensures.reads;
  told = λ clean. if_ok c.find.result _ _ (c.find.ensures.told clean) (λ found told t stands.
      told t stands c.args.m.now
      (rw (c.params-to_sql.ensures) refl));
}
