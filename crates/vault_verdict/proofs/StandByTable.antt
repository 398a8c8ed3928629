-- A database whose rows keep the rules stands for the vault of its rows, table by table.
use Rattle.std.proofs.Common.{◌≡◌, ℕ, zero, pos, List, [], ◌∷◌, drop, map, true, Some}
use Rattle.std.proofs.Common.{option_map, refl, sym, ap, ◌∙◌, arith, string_bytes}
use Rattle.sqlite.specs.Effect.{Database, IsDatabase}
use Rattle.sqlite.specs.Table.{Table as SqlTable}
use Rattle.sqlite.specs.declared.types.Value.TheVariants.{Int, Text}
use Rattle.sqlite_rules.specs.Lists.{Has}
use Rattle.sqlite_schema.specs.declared.schema.Index.{Index}
use Rattle.sql_tables.specs.Maps.{IsGuarded}
use Rattle.sql_tables.specs.Rows.{AreRowsById, AreRowsOf, IsApart}
use Rattle.sql_tables.specs.Schema.{columns_to, grown, guards_of, table_of}
use Rattle.std.specs.List.Sorted.{IsPermutation}
use Rattle.vault_core.specs.Keys.{Bytes}
use Rattle.vault_core.specs.declared.row.Entry.{Entry}
use Rattle.vault_verdict.proofs.Sources.{some_unless, unless_some}
use Rattle.vault_verdict.proofs.CardRows.{cards_by_id, numbers_apart}
use Rattle.vault_schema.proofs.TablesBehind.{behind, indexes_behind, schema_is}
use Rattle.vault_verdict.proofs.InVersion.{counts_free, records_free}
use Rattle.vault_verdict.proofs.Joining.{cards_in, entry_first, pointing_in, pointing_value, rows_joined}
use Rattle.vault_verdict.proofs.Table.{stand_for}
use Rattle.vault_verdict.proofs.Tables as tables
use Rattle.vault_tables.specs.CardTexts.{card_row}
use Rattle.vault_tables.specs.CountTexts.{count_values}
use Rattle.vault_tables.specs.EntryTexts.{entry_values}
use Rattle.vault_tables.specs.RecordTexts.{record_values}
use Rattle.vault_verdict.specs.ReadAs.{AreCards}
use Rattle.vault_rules.specs.Codes.{natural}
use Rattle.vault_rules.proofs.Counts.{counts_are, count_cases}
use Rattle.vault_rules.proofs.FoundRows.{entry_found, record_row}
use Rattle.vault_rules.proofs.Held.{card_held}
use Rattle.vault_rules.proofs.Kept.{counts_well}
use Rattle.vault_rules.proofs.Numbers.{pos_same}
use Rattle.vault_rules.proofs.Options.{mapped_is}
use Rattle.vault_rules.proofs.RowsShow.{rows_show, count_held}
use Rattle.vault_rules.specs.Rules.{keeps}
use Rattle.vault_rules.specs.Showing.{Shows, ShowsEntry}
use Rattle.vault_rules.specs.VaultOf.{HasKeysApart, vault_of, entry_key}
use Rattle.vault_rules.specs.declared.rows.RawCard.{RawCard}
use Rattle.vault_rules.specs.declared.rows.RawCount.{RawCount}
use Rattle.vault_rules.specs.declared.rows.RawEntry.{RawEntry}
use Rattle.vault_rules.specs.AllRows.{Rows}
use Rattle.vault_schema.specs.Stands.{count_at, lookups_of, unless_zero}
use Rattle.vault_schema.specs.Counts.{count_row}
use Rattle.vault_schema.specs.Records.{record_row as one_record_row}
use Rattle.vault_schema.specs.Joined.{AreJoined, nothing_owed}
use Rattle.vault_schema.specs.Cards.{card_columns}
use Rattle.vault_schema.specs.Entries.{pointing_row}
use Rattle.vault_schema.specs.Cards.{cards as cards_table}
use Rattle.vault_schema.specs.Entries.{entries as entries_table}
use Rattle.vault_schema.specs.Schemas.{v2 as second_schema}
use Rattle.vault_schema.specs.Versions.{Lookups, schema_of}
use Rattle.vault_schema.specs.declared.version.Version.{Version}

-- a row of an entry is listed as it points
entry_listed : (cards : List RawCard) (e : RawEntry) (entry : Entry) → ShowsEntry cards e entry
    → drop 1 (entry_values e) ≡ pointing_row (entry_key e) (pointing_value e)
entry_listed cards e entry it = grind (arith, it.usage, it.birth, it.expires, it.revoked)

module _ (rows : Rows) (apart : HasKeysApart rows) (keep : (r : ℕ) → keeps rows r ≡ true) where
  abbrev h : Lookups
  h = lookups_of (vault_of rows)

  shows : Shows rows (vault_of rows)
  shows = rows_show rows apart keep

  abbrev HasRow : Bytes × ℕ → Type 0
  HasRow k = (c : RawCount) × Has rows.counts c × ((string_bytes c.merchant, natural c.kind) ≡ k)

  counts_there : (k : Bytes × ℕ) (x : ℕ) → unless_zero (count_at (vault_of rows) k.0 k.1) ≡ Some x → HasRow k
  counts_there k x h =
      let it = some_unless (count_at (vault_of rows) k.0 k.1) x h in
      count_cases rows.counts k.0 (pos k.1) (λ z. z ≡ pos x → HasRow k)
      (λ e. let none : zero ≡ x = pos_same e in absurd (omega (arith, none, it.0, it.1)))
      (λ c row e. (c, row.there, λ i. (row.merchant_is i, natural (row.kind_is i))))
      (counts_are rows apart keep k.0 k.1 ∙ ap pos it.0)

  module _ (db : Database) (sound : IsDatabase db) where
    -- ---- the tables that each version has

    module _ (v : Version) (ours : db.schema ≡ schema_of v) where
      pub counts_stand : IsPermutation (db.trees 3) (map count_values rows.counts)
          → IsApart (map count_values rows.counts) → AreRowsOf count_row (db.trees 3) h.counts
      counts_stand are up =
          stand_for (tables.counts_in (behind v) (indexes_behind v) (counts_free v)) db (ours ∙ schema_is v)
          sound _ are up
          (λ c h.
          let it = counts_well rows keep c h in
          let at = ap unless_zero (sym (count_held rows apart keep c h)) ∙ unless_some _ it.total.low_is in
          let name = string_bytes c.merchant in
          (_, _, (λ i. Text name ∷ Int (it.kind.is i) ∷ Int (it.total.is i) ∷ []), at))
          counts_there

      pub records_stand : IsPermutation (db.trees 8) (map record_values rows.records)
          → IsApart (map record_values rows.records)
          → AreRowsOf one_record_row (db.trees 8) h.records
      records_stand are up =
          stand_for (tables.records_in (behind v) (indexes_behind v) (records_free v)) db (ours ∙ schema_is v)
          sound _ are up
          (λ r h.
          let it = shows.records r h in
          let listed : drop 1 (record_values r) ≡ one_record_row _ it.1 = grind (arith, it.2, it.4) in
          ((string_bytes r.caller, it.0), it.1, listed, it.3))
          (λ k x h. let it = record_row rows k.0 k.1 x h in (it.0, it.1, it.2))

    -- cards, and the entries that point at them
    module _ (others : List SqlTable) (indexes : List Index)
        (free : guards_of indexes (table_of entries_table) (columns_to 2) ≡ [])
        (guarded : IsGuarded (grown second_schema others indexes).indexes (table_of cards_table) (2 ∷ 3 ∷ []))
        (ours : db.schema ≡ grown second_schema others indexes) (are : AreCards db.trees rows)
        (cards_up : IsApart (map card_row rows.cards))
        (entries_up : IsApart (map entry_values rows.entries)) where
      pub cards_stand : AreRowsById card_columns (db.trees 12) (cards_in rows.cards)
      cards_stand = cards_by_id db _ are.cards cards_up (card_held rows apart)
          (λ c there. let it = (shows.cards c there).uses in it ∙ ap (λ z. pos (natural z)) (sym it))

      pub pointing_stand : AreRowsOf pointing_row (db.trees 14) (pointing_in rows.entries)
      pointing_stand = stand_for (tables.entries_in others indexes free) db ours sound _ are.entries
          entries_up
          (λ e there.
          let it = (shows.entries e there).2 in (
            entry_key e,
            pointing_value e,
            entry_listed rows.cards e _ it,
            ap (option_map pointing_value) (entry_first rows.entries apart.entries e there),
          ))
          (λ k x is.
          let it = mapped_is pointing_value _ x is in
          let found = entry_found rows.entries k.0 k.1 it.0 it.1 in
          (it.0, found.there, λ i. (found.merchant_is i, found.token_is i)))

      pub joined_stand : AreJoined nothing_owed (cards_in rows.cards) (pointing_in rows.entries)
          h.entries
      joined_stand = rows_joined rows apart shows (numbers_apart db _ are.cards cards_up
          (grown second_schema others indexes) ours sound refl guarded)
