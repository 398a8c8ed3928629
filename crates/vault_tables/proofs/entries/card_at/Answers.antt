use Rattle.vault_tables.proofs.Calls.{tells_in_each, told_so}
use Rattle.vault_tables.proofs.CardOfEntry.{card_told, none_told}
use Rattle.vault_tables.proofs.entries.card_at.Goals as goal

pub returns-in-Some : goal.returns-in-Some
returns-in-Some g c = record {
  same_reference = cc;
  done = tells_in_each (λ v.
      told_so (c.in_ok-rows.ensures.done.each v) (λ t shown.
      card_told _ c.in_ok-rows.rows.items c.in-Some.row.now _ shown
      (rw (c.deref.ensures.value) at c.in-Some.ensures.value) c.in_ok-card_in-in-Some.ensures));
}

pub returns : goal.returns
returns g c = record {
  same_reference = cc;
  done = tells_in_each (λ v.
      told_so (c.in_ok-rows.ensures.done.each v) (λ t shown.
      none_told _ c.in_ok-rows.rows.items shown (rw (c.deref.ensures.value) at c.in-None.ensures.value)));
}
