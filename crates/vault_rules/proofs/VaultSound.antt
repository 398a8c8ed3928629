-- Rows that keep the rules stand for a sound vault.
use Rattle.std.proofs.Common.{◌≡◌, ℕ, true, arith}
use Rattle.vault_core.specs.Sound.{Sound}
use Rattle.vault_rules.specs.Rules.{keeps}
use Rattle.vault_rules.specs.VaultOf.{vault_of, HasKeysApart}
use Rattle.vault_rules.specs.AllRows.{Rows}
use Rattle.vault_rules.proofs.Alone as one
use Rattle.vault_rules.proofs.Counts.{merchants_sound}
use Rattle.vault_rules.proofs.Found.{many_is, made_is}
use Rattle.vault_rules.proofs.Kept as kept
use Rattle.vault_rules.proofs.RowsSound.{entries_sound, records_sound, rights_sound, held_few}

pub vault_is_sound : (rows : Rows) → HasKeysApart rows → ((r : ℕ) → keeps rows r ≡ true)
    → Sound (vault_of rows)
vault_is_sound rows apart keep = record {
  few = let many = many_is rows apart in omega (arith, kept.few rows keep);
  merchants = merchants_sound rows keep;
  made_few = λ m. let made = made_is rows apart m in omega (arith, held_few rows keep m);
  entries = entries_sound rows keep;
  alone = one.alone rows keep;
  records = records_sound rows keep;
  rights = rights_sound rows keep;
}
