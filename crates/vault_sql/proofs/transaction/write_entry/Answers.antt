use Rattle.vault_schema.specs.Stands.{newest}
use Rattle.vault_sql.proofs.transaction.write_entry.Goals as goal

pub returns-in-Some-Made : goal.returns-in-Some-Made
returns-in-Some-Made g c = record {
  same_reference = cc;
  done =
      rw (c.in-Some.is)
      (rw (c.merchant_text.ensures, c.as_str.ensures) at (c.add_entry.ensures.done.each newest));
}

pub returns-in_default : goal.returns-in_default
returns-in_default g c = record {
  same_reference = cc;
  done =
      rw (c.in-Some.is) (rw (c.merchant_text-in_default.ensures, c.as_str-in_default.ensures)
      at (c.put_entry.ensures.done.each newest));
}
