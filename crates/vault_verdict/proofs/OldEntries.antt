-- The entries of schema 1, and what their rows are with cards of their own.
use Rattle.std.proofs.Common.{◌≡◌, pos, List, [], ◌∷◌, drop, map, Option, Some, None, option_map}
use Rattle.std.proofs.Common.{refl, sym, ap, subst, ◌∙◌, arith}
use Rattle.std.specs.FinMap as finite
use Rattle.std.specs.List.Sorted.{IsPermutation}
use Rattle.sqlite.specs.Effect.{Database, IsDatabase}
use Rattle.sqlite.specs.Tree.{Trees}
use Rattle.sqlite.specs.declared.types.Value.TheVariants.{Int, Text}
use Rattle.sqlite_rules.specs.Lists.{Has}
use Rattle.sql_tables.specs.Rows.{AreRowsOf, IsApart}
use Rattle.vault_core.specs.Keys.{Bytes}
use Rattle.vault_core.specs.Numbers.{use_number}
use Rattle.vault_core.specs.Vault.{Vault, entry_at}
use Rattle.vault_core.specs.declared.row.Entry.{Entry}
use Rattle.vault_verdict.proofs.Sources.{moment_as, moment_told}
use Rattle.vault_verdict.proofs.ShowByTable.{ArePairs, AreThere}
use Rattle.vault_verdict.proofs.InTree.{in_items, in_tree}
use Rattle.vault_verdict.proofs.OldRows.{card_made, number_made, old_key, old_of, row_of}
use Rattle.vault_verdict.proofs.Permuted.{apart_as}
use Rattle.vault_verdict.proofs.Table.{keys_apart, stand_for}
use Rattle.vault_verdict.proofs.Tables.{old_entries}
use Rattle.vault_verdict.specs.Made.{as_entry}
use Rattle.sql_tables.specs.Values.{int_value, maybe_text_value}
use Rattle.vault_tables.specs.EntryTexts.{entry_values}
use Rattle.vault_tables.specs.EntryTexts.{old_entry_values}
use Rattle.vault_verdict.specs.ReadAs.{AreOlders}
use Rattle.sql_tables.specs.KeptTexts.{text_bytes}
use Rattle.vault_tables.specs.declared.entries.old.OldEntry.{OldEntry}
use Rattle.sql_tables.specs.declared.text.RowText.{RowText}
use Rattle.vault_rules.specs.Showing.{Shows, ShowsEntry}
use Rattle.vault_rules.specs.VaultOf.{AreKeysApart, vault_of}
use Rattle.vault_rules.specs.AllRows.{Rows}
use Rattle.vault_schema.specs.Entries.{entry_row}
use Rattle.vault_schema.specs.Values.{number_or_null, text_or_null}
use Rattle.vault_schema.specs.Schemas.{v1}

text_as : (o : Option RowText)
    → maybe_text_value o ≡ text_or_null (option_map text_bytes o)
text_as None = refl
text_as (Some text) = refl

text_told : (o : Option RowText) (n : Option Bytes) → maybe_text_value o ≡ text_or_null n
    → option_map text_bytes o ≡ n
text_told None None e = refl
text_told None (Some n) e = absurd cc
text_told (Some o) None e = absurd cc
text_told (Some o) (Some n) e = cc

-- what the columns of an old entry tell
record IsOldOf (o : OldEntry) (k : Bytes × Bytes) (x : Entry) : Type 0 where
  merchant : text_bytes o.merchant ≡ k.0
  token : text_bytes o.token ≡ k.1
  number : maybe_text_value o.number ≡ text_or_null x.number
  usage : o.usage ≡ pos (use_number x.usage)
  birth : o.birth ≡ pos x.birth
  expires : o.expires ≡ pos x.expires
  revoked : int_value o.revoked ≡ number_or_null x.revoked

old_told : (o : OldEntry) (k : Bytes × Bytes) (x : Entry) → drop 1 (old_entry_values o) ≡ entry_row k x
    → IsOldOf o k x
old_told o k x e = record {
  merchant = grind arith;
  token = grind arith;
  number = grind arith;
  usage = grind arith;
  birth = grind arith;
  expires = grind arith;
  revoked = grind arith;
}

module _ (db : Trees) (olders : List OldEntry) (rows : Rows) (are : AreOlders db olders rows) where
  -- entries that were made of old ones have their rowids
  pub olders_apart : IsApart (map entry_values rows.entries) → IsApart (map old_entry_values olders)
  olders_apart apart = apart_as as_entry old_entry_values (λ o. refl) olders
      (subst IsApart (sym are.entries) apart)

  module _ (up : IsApart (map old_entry_values olders)) where
    -- where the rows show the vault of its rows, the table stands for its entries
    module _ (shows : Shows rows (vault_of rows)) where
      entry_pair : (o : OldEntry) → Has olders o
          → (k : Bytes × Bytes) × (x : Entry) × (drop 1 (old_entry_values o) ≡ entry_row k x)
          × (finite.get (vault_of rows).entries k ≡ Some x)
      entry_pair o h =
          let e = row_of db olders rows are up o h in
          let it = shows.entries e.0 e.1 in
          let number : maybe_text_value o.number ≡ text_or_null it.0.number =
          text_as o.number
          ∙ ap text_or_null (sym (number_made db olders rows are up e.0 o h e.2) ∙ it.2.number) in
          let revoked : int_value o.revoked ≡ number_or_null it.0.revoked =
          sym e.2.revoked ∙ ap int_value it.2.revoked ∙ moment_as it.0.revoked in
          let usage = sym e.2.usage ∙ it.2.usage in
          let birth = sym e.2.birth ∙ it.2.birth in
          let expires = sym e.2.expires ∙ it.2.expires in (
            old_key o,
            it.0,
            λ i. Text (text_bytes o.merchant) ∷ Text (text_bytes o.token) ∷ number i ∷ Int (usage i)
                ∷ Int (birth i) ∷ Int (expires i) ∷ revoked i ∷ [],
            ap (finite.get (vault_of rows).entries) (λ i. (sym e.2.merchant i, sym e.2.token i)) ∙ it.1,
          )

      entry_there : (k : Bytes × Bytes) (x : Entry) → finite.get (vault_of rows).entries k ≡ Some x
          → (o : OldEntry) × Has olders o × (old_key o ≡ k)
      entry_there k x h =
          let e = shows.entries_there k.0 k.1 x h in
          let o = old_of db olders rows are up e.0 e.1 in
          let merchant = sym o.2.merchant ∙ e.2 in
          let token = sym o.2.token ∙ e.3 in
          (o.0, o.1, λ i. (merchant i, token i))

    pub old_entries_stand : (d : Database) → d.schema ≡ v1 → IsDatabase d → d.trees ≡ db
        → Shows rows (vault_of rows) → AreRowsOf entry_row (db 5) (finite.get (vault_of rows).entries)
    old_entries_stand d ours sound same shows =
        subst (λ (t : Trees). AreRowsOf entry_row (t 5) (finite.get (vault_of rows).entries)) same
        (stand_for old_entries d ours sound olders
        (subst (λ (t : Trees). IsPermutation (t 5) (map old_entry_values olders)) (sym same) are.stand) up
        (entry_pair shows) (entry_there shows))

    -- and where the table stands for the entries of a vault, the rows show them
    module _ (V : Vault) (stands : AreRowsOf entry_row (db 5) (finite.get V.entries)) where
      pub old_pairs : ArePairs V rows
      old_pairs e h =
          let o = old_of db olders rows are up e h in
          let there = in_tree old_entry_values olders are.stand o.0 o.1 in
          let it = stands.sound (old_entry_values o.0) there in
          let told = old_told o.0 it.0 it.1 it.2 in
          let merchant = o.2.merchant ∙ told.merchant in
          let token = o.2.token ∙ told.token in
          let revoked = moment_told e.revoked it.1.revoked (o.2.revoked ∙ told.revoked) in
          let shown : ShowsEntry rows.cards e it.1 = record {
            number = number_made db olders rows are up e o.0 o.1 o.2
                ∙ text_told o.0.number it.1.number told.number;
            card = card_made db olders rows are up e o.0 o.1 o.2;
            usage = o.2.usage ∙ told.usage;
            birth = o.2.birth ∙ told.birth;
            expires = o.2.expires ∙ told.expires;
            revoked = revoked;
          } in
          (it.1, (λ i. entry_at V (merchant i) (token i)) ∙ it.3, shown)

      pub old_there : AreThere V rows
      old_there key entry h =
          let row = stands.complete key entry h in
          let o = in_items old_entry_values olders are.stand row.0 row.1 in
          let told = old_told o.0 key entry (ap (drop 1) (sym o.2) ∙ row.2) in
          let e = row_of db olders rows are up o.0 o.1 in
          let merchant = e.2.merchant ∙ told.merchant in
          let token = e.2.token ∙ told.token in
          (e.0, e.1, λ i. (merchant i, token i))

    -- no key of the old entries comes twice
    pub old_keys : (d : Database) → d.schema ≡ v1 → IsDatabase d → d.trees ≡ db → AreKeysApart old_key olders
    old_keys d ours sound same =
        keys_apart old_entries d ours sound olders (subst
        (λ (t : Trees). IsPermutation (t 5) (map old_entry_values olders)) (sym same) are.stand) up
