use Rattle.vault_sql.proofs.KnownWrites.{lives_before, made_before, made_known}
use Rattle.vault_schema.specs.Stands.{lookups_of}
use Rattle.vault_sql.proofs.remembered.Remembered.before.Goals as goal

pub returns-in-Some-known_merchant : goal.returns-in-Some-known_merchant
returns-in-Some-known_merchant c V is =
    let known = c.in-Some-known_merchant.known in
    let is_row = c.in-Some-known_merchant.ensures V is.rows in
    rw (c.in-Some.is) (record {
      lives = rw (c.lives.ensures) (lives_before V c.in-Some.m known.row is_row);
      made = made_known c.in-Some.m known.row (lookups_of V).counts
          (made_before V c.in-Some.m known.row is_row) c.made_count.result c.made_count.ensures;
    })
