-- What stands behind the tables of an older schema, in each version.
use Rattle.std.proofs.Common.{◌≡◌, true, false, List, [], ◌∷◌, refl, subst}
use Rattle.sqlite.specs.Table.{Table}
use Rattle.sqlite_schema.specs.declared.schema.Index.{Index}
use Rattle.sql_tables.proofs.Grown.{guarded_in_grown}
use Rattle.sql_tables.specs.Maps.{IsGuarded}
use Rattle.sql_tables.specs.Schema.{columns_to, grown, guards_of, is_plain, table_of}
use Rattle.vault_schema.proofs.Layers.{are_split, free_in, indexes_from, layers_after, no_indexes, no_tables}
use Rattle.vault_schema.proofs.Layers.{plain_at, tables_from}
use Rattle.vault_schema.specs.Cards.{cards}
use Rattle.vault_schema.specs.Entries.{entries}
use Rattle.vault_schema.specs.Layers.{indexes_at, is_from, tables_at}
use Rattle.vault_schema.specs.Schemas.{v1, v2}
use Rattle.vault_schema.specs.Versioned.{HasVersion}
use Rattle.vault_schema.specs.Versions.{has_cards, layers, schema_of, second_layers, third_layers}
use Rattle.vault_schema.specs.declared.version.Version.{Version}
use Rattle.vault_schema.specs.declared.version.Version.TheVariants.{Two}

guard_of_cards : IsGuarded v2.indexes (table_of cards) (2 ∷ 3 ∷ [])
guard_of_cards = record { index = _; only = refl; order = refl; columns = refl }

module _ (v : Version) where
  -- behind the tables of an older version
  abbrev pub behind_from : Version → List Table
  behind_from w = tables_at v (layers_after w layers)

  abbrev pub indexes_behind_from : Version → List Index
  indexes_behind_from w = indexes_at v (layers_after w layers)

  -- each version begins with the tables and indexes of those before it
  pub schema_from : (w : Version) → are_split w layers ≡ true → is_from w v ≡ true
      → schema_of v ≡ grown (schema_of w) (behind_from w) (indexes_behind_from w)
  schema_from w split from = λ i. record {
    tables = tables_from w v layers split from i;
    indexes = indexes_from w v layers split from i;
    views = [];
  }

  -- behind schema 1
  abbrev pub behind : List Table
  behind = tables_at v second_layers

  abbrev pub indexes_behind : List Index
  indexes_behind = indexes_at v second_layers

  -- behind schema 2
  abbrev pub behind_two : List Table
  behind_two = tables_at v third_layers

  abbrev pub indexes_behind_two : List Index
  indexes_behind_two = indexes_at v third_layers

  pub schema_is : schema_of v ≡ grown v1 behind indexes_behind
  schema_is = refl

  pub has_version : HasVersion (schema_of v)
  has_version = record { tables = refl; views = refl }

  pub schema_first : has_cards v ≡ false → schema_of v ≡ v1
  schema_first none =
      rw (no_tables Two v second_layers refl none, no_indexes Two v second_layers refl none) refl

  pub schema_second : has_cards v ≡ true → schema_of v ≡ grown v2 behind_two indexes_behind_two
  schema_second has = schema_from Two refl has

  -- the index of a merchant's numbers stays the only one that guards them
  pub cards_guarded : IsGuarded (grown v2 behind_two indexes_behind_two).indexes (table_of cards)
      (2 ∷ 3 ∷ [])
  cards_guarded = guarded_in_grown v2.indexes guard_of_cards indexes_behind_two
      (free_in v cards (2 ∷ 3 ∷ []) third_layers refl)

  -- nor does a later index guard the key of entries that point at cards
  pub entries_free : guards_of indexes_behind_two (table_of entries) (columns_to 2) ≡ []
  entries_free = free_in v entries (columns_to 2) third_layers refl

  pub plain_is : is_plain (schema_of v) ≡ true
  plain_is = plain_at v layers refl refl

  pub plain_second : has_cards v ≡ true → is_plain (grown v2 behind_two indexes_behind_two) ≡ true
  plain_second has = subst (λ s. is_plain s ≡ true) (schema_second has) plain_is
