-- The table of cards, and its rows as they were read.
use Rattle.std.proofs.Common.{◌≡◌, ◌&&◌, pos, true, List, [], ◌∷◌, map, Some, refl, sym, ap, ◌∙◌}
use Rattle.std.proofs.Common.{slice_get, subst, option_map}
use Rattle.std.proofs.lemmas.Cmp.{tied_itself}
use Rattle.std.proofs.lemmas.List.Sorted.{IsPermutation-sym}
use Rattle.std.specs.List.Sorted.{IsPermutation}
use Rattle.std.specs.Prelude.{string_bytes}
use Rattle.sqlite.specs.Collation.TheVariants.{Binary}
use Rattle.sqlite.specs.Effect.{Database, IsDatabase}
use Rattle.sqlite.specs.Order.{value_cmp}
use Rattle.sqlite.specs.Schema.{Schema}
use Rattle.sqlite.specs.declared.types.Value.TheVariants.{Null, Int, Text}
use Rattle.sqlite_rules.specs.Lists.{Has}
use Rattle.sqlite_schema.specs.Rules.{equal}
use Rattle.sqlite_value.proofs.OrderLemmas.{value_cmp_total}
use Rattle.sql_tables.specs.Maps.{IsGuarded}
use Rattle.sql_tables.proofs.Unique.{one_at_key}
use Rattle.sql_tables.specs.Rows.{AreRowsById, IsApart}
use Rattle.sql_tables.specs.Schema.{table_of}
use Rattle.vault_core.specs.Keys.{Bytes}
use Rattle.vault_verdict.proofs.InTree.{in_items, in_tree, keys_by_rowid}
use Rattle.vault_verdict.proofs.Joining.{card_there, card_value, cards_in}
use Rattle.vault_verdict.proofs.Permuted.{apart_permuted}
use Rattle.vault_verdict.proofs.Tables.{same_text}
use Rattle.vault_tables.specs.CardTexts.{card_row}
use Rattle.vault_rules.specs.Codes.{natural}
use Rattle.vault_rules.proofs.Options.{mapped_is}
use Rattle.vault_rules.specs.Lookups.{card_of}
use Rattle.vault_rules.specs.VaultOf.{AreKeysApart, card_key}
use Rattle.vault_rules.specs.declared.rows.RawCard.{RawCard}
use Rattle.vault_schema.specs.Cards.{card_columns}
use Rattle.vault_schema.specs.Cards.{cards as cards_table}

same_texts : (m n p q : Bytes) → m ≡ p → n ≡ q
    → (equal Binary (Text m) (Text p) && (equal Binary (Text n) (Text q) && true)) ≡ true
same_texts m n p q first second =
    (λ i. equal Binary (Text m) (Text (sym first i)) && (equal Binary (Text n) (Text (sym second i)) && true))
    ∙ rw (same_text m, same_text n) refl

module _ (db : Database) (items : List RawCard) (same : IsPermutation (db.trees 12) (map card_row items))
    (up : IsApart (map card_row items)) where
  -- no id comes twice
  pub ids_apart : AreKeysApart (λ (c : RawCard). c.id) items
  ids_apart =
      keys_by_rowid card_row (λ c. c.id) items up
      (λ a b h g e. ap (λ n. value_cmp (Int n) (Int b.id)) e ∙ tied_itself value_cmp_total (Int b.id))

  -- nor does a number of a merchant
  pub numbers_apart : (s : Schema) → db.schema ≡ s → IsDatabase db
      → slice_get s.tables 6 ≡ Some (table_of cards_table)
      → IsGuarded s.indexes (table_of cards_table) (2 ∷ 3 ∷ []) → AreKeysApart card_key items
  numbers_apart s ours sound here guarded =
      keys_by_rowid card_row card_key items up (λ a b h g e.
      let one = one_at_key s db ours sound cards_table 6 here (2 ∷ 3 ∷ []) guarded a.id b.id _ _
      (in_tree card_row items same a h) (in_tree card_row items same b g)
      (same_texts _ _ _ _ (ap (λ (k : Bytes × Bytes). k.0) e) (ap (λ (k : Bytes × Bytes). k.1) e)) in
      ap (λ n. value_cmp (Int n) (Int b.id)) one ∙ tied_itself value_cmp_total (Int b.id))

  -- rows whose uses aren't negative stand for what they have at each id
  pub cards_by_id : ((c : RawCard) → Has items c → card_of items c.id ≡ Some c)
      → ((c : RawCard) → Has items c → c.uses ≡ pos (natural c.uses))
      → AreRowsById card_columns (db.trees 12) (cards_in items)
  cards_by_id held counted = record {
    apart = apart_permuted _ _ (IsPermutation-sym _ _ same) up;
    sound = λ r h.
        let it = in_items card_row items same r h in
        (it.0.id, card_value it.0, it.2 ∙ stored it.0 it.1, ap (option_map card_value) (held it.0 it.1));
    complete = λ n x h.
        let it = mapped_is card_value (card_of items n) x h in
        let there = card_there items n it.0 it.1 in
        subst (Has (db.trees 12))
        (stored it.0 there.0 ∙ (λ i. Int (there.1 i) ∷ card_columns (it.2 i)))
        (in_tree card_row items same it.0 there.0);
  }
    where
      stored : (c : RawCard) → Has items c → card_row c ≡ Int c.id ∷ card_columns (card_value c)
      stored c h = λ i. Int c.id ∷ Null ∷ Text (string_bytes c.merchant) ∷ Text (string_bytes c.number)
          ∷ Int (counted c h i) ∷ []
