use Rattle.vault_sql.proofs.transaction.write_record.Goals as goal

pub returns-in-Some : goal.returns-in-Some
returns-in-Some g c = record {
  same_reference = cc;
  done = rw (c.in-Some.is) (rw (c.caller_text.ensures, c.get.ensures.value) at c.add_record.ensures.done);
}
