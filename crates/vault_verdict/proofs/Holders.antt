-- Whose tables a schema has, and the sizes of the empty vault.
use Rattle.std.proofs.Common.{◌≡◌, sym, subst}
use Rattle.std.specs.FinMap.{len-empty}
use Rattle.sqlite.specs.Schema.{Schema}
use Rattle.vault_core.specs.Keys.{bytes_cmp, entry_cmp, record_cmp}
use Rattle.vault_core.specs.Vault.{Merchant, empty_vault}
use Rattle.vault_core.specs.declared.row.Entry.{Entry}
use Rattle.vault_core.specs.declared.row.Record.{Record}
use Rattle.vault_verdict.specs.Names.{IsOf}
use Rattle.vault_verdict.specs.Sizes.{sizes_of}
use Rattle.vault_verdict.specs.declared.owners.Holder.{Holder}
use Rattle.vault_verdict.specs.declared.sizes.Sizes.{Sizes}

-- what was told of the schema that is read holds of the database's
pub held_by : (h k : Holder) (s t : Schema) → h ≡ k → s ≡ t → IsOf h s → IsOf k t
held_by h k s t same shown it = subst (λ x. IsOf k x) shown (subst (λ x. IsOf x s) same it)

abbrev pub nothing : Sizes
nothing = record { merchants = 0; entries = 0; records = 0 }

pub no_sizes : nothing ≡ sizes_of empty_vault
no_sizes = λ i. record {
  merchants = sym (len-empty bytes_cmp Merchant) i;
  entries = sym (len-empty entry_cmp Entry) i;
  records = sym (len-empty record_cmp Record) i;
}
