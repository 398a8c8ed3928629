use Rattle.vault_sql.proofs.transaction.write_lives.Goals as goal

pub returns-in-Some : goal.returns-in-Some
returns-in-Some g c = record {
  same_reference = cc;
  done = rw (c.in-Some.is) c.set_merchant.ensures.done;
}
