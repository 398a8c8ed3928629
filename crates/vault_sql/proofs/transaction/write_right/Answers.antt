use Rattle.vault_sql.proofs.transaction.write_right.Goals as goal

pub returns-in-Some : goal.returns-in-Some
returns-in-Some g c = record {
  same_reference = cc;
  done =
      rw (c.in-Some.is, c.in-Some.right-is, c.in-Some.row-is)
      c.set_right.ensures.done;
}
