-- Each key is told by its columns.
use Rattle.std.proofs.Common.{refl, nat_cmp}
use Rattle.sql_tables.proofs.KeyTests.{text_eq, number_eq, and_true, two_tests, three_tests}
use Rattle.vault_core.proofs.Maps.{bytes_total, bytes_exact, entry_total, entry_exact, record_total}
use Rattle.vault_core.proofs.Maps.{record_exact, right_total, right_exact}
use Rattle.vault_core.specs.Keys.{bytes_cmp, entry_cmp, record_cmp, right_cmp}
use Rattle.vault_core.specs.Numbers.{right_number}
use Rattle.vault_schema.proofs.Placed.{KeyCodes}
use Rattle.vault_schema.specs.Entries.{entry_key}
use Rattle.vault_schema.specs.Merchants.{merchant_key}
use Rattle.vault_schema.specs.Rights.{right_key}
use Rattle.vault_schema.specs.Values.{numbered_key}

pub name_codes : KeyCodes bytes_cmp 1 merchant_key
name_codes = record {
  total = bytes_total;
  exact = bytes_exact;
  long = λ k. refl;
  same = λ q k. rw (text_eq q k) (and_true _);
}

pub numbered_codes : KeyCodes record_cmp 2 numbered_key
numbered_codes = record {
  total = record_total;
  exact = record_exact;
  long = λ k. refl;
  same = λ q k. rw (text_eq q.0 k.0, number_eq q.1 k.1) (two_tests (bytes_cmp q.0 k.0) (nat_cmp q.1 k.1));
}

pub token_codes : KeyCodes entry_cmp 2 entry_key
token_codes = record {
  total = entry_total;
  exact = entry_exact;
  long = λ k. refl;
  same = λ q k. rw (text_eq q.0 k.0, text_eq q.1 k.1) (two_tests (bytes_cmp q.0 k.0) (bytes_cmp q.1 k.1));
}

pub allowed_codes : KeyCodes right_cmp 3 right_key
allowed_codes = record {
  total = right_total;
  exact = right_exact;
  long = λ k. refl;
  same = λ q k.
      rw (text_eq q.0 k.0, text_eq q.1.0 k.1.0, number_eq (right_number q.1.1) (right_number k.1.1))
      (three_tests (bytes_cmp q.0 k.0) (bytes_cmp q.1.0 k.1.0)
      (nat_cmp (right_number q.1.1) (right_number k.1.1)));
}
