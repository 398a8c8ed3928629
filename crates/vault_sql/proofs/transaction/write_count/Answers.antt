use Rattle.vault_sql.proofs.transaction.write_count.Goals as goal

pub returns-in-Some-count : goal.returns-in-Some-count
returns-in-Some-count g c = record {
  same_reference = cc;
  done = rw (c.in-Some.is, c.in-Some-count.is) c.raise_count.ensures.done;
}
