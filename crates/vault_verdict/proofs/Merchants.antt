-- Merchants in each version: what its tables have of them, read as the rows of the newest one.
use Rattle.std.proofs.Common.{◌≡◌, ◌∙◌, ℕ, ℤ, pos, true, List, [], ◌∷◌, drop, map, Some}
use Rattle.std.proofs.Common.{ap, arith, option_map, refl, sym}
use Rattle.std.specs.List.Sorted.{IsPermutation}
use Rattle.std.specs.Prelude.{string_bytes}
use Rattle.sqlite.specs.Effect.{Database, IsDatabase}
use Rattle.sqlite.specs.Order.{Row}
use Rattle.sqlite.specs.Table.{Table as SqlTable}
use Rattle.sqlite.specs.Tree.{Trees}
use Rattle.sqlite.specs.declared.types.Value.TheVariants.{Int, Text}
use Rattle.sqlite_rules.specs.Lists.{Has}
use Rattle.sqlite_schema.specs.declared.schema.Index.{Index}
use Rattle.sql_tables.proofs.Grown.{keyed_in_grown}
use Rattle.sql_tables.specs.Rows.{IsApart}
use Rattle.sql_tables.specs.Schema.{columns_to}
use Rattle.vault_core.proofs.Finds.{some_same}
use Rattle.vault_core.specs.Keys.{Bytes}
use Rattle.vault_core.specs.Lives.{lives_in}
use Rattle.vault_core.specs.Vault.{Merchant, Vault, merchant_at}
use Rattle.vault_core.specs.declared.row.Lives.{Lives}
use Rattle.vault_pan.specs.Mask.{lead_digits}
use Rattle.vault_pan.specs.declared.lead.Lead.{Lead}
use Rattle.vault_pan.specs.declared.lead.Lead.TheVariants.{Eight, Six}
use Rattle.vault_rules.proofs.Numbers.{pos_same}
use Rattle.vault_rules.proofs.Options.{mapped_is}
use Rattle.vault_rules.proofs.RowsShow.{rows_show}
use Rattle.vault_rules.specs.AllRows.{Rows}
use Rattle.vault_rules.specs.MerchantRows.{ShowsMerchant}
use Rattle.vault_rules.specs.Rules.{keeps}
use Rattle.vault_rules.specs.Showing.{Shows}
use Rattle.vault_rules.specs.VaultOf.{AreKeysApart, HasKeysApart, vault_of}
use Rattle.vault_rules.specs.declared.rows.RawMerchant.{RawMerchant}
use Rattle.vault_schema.proofs.TablesBehind.{behind, behind_from, indexes_behind, indexes_behind_from}
use Rattle.vault_schema.proofs.TablesBehind.{schema_from, schema_is}
use Rattle.vault_schema.proofs.ByTable.{AreHeld}
use Rattle.vault_schema.proofs.Layers.{free_in}
use Rattle.vault_schema.proofs.Newest as newest_tables
use Rattle.vault_schema.proofs.MerchantCodes.{old_merchants_in_first}
use Rattle.vault_schema.proofs.MerchantCodes.{merchant_coding, merchants_in_third}
use Rattle.vault_schema.specs.Stands.{lookups_of}
use Rattle.vault_schema.specs.Merchants.{old_lives_columns, old_merchant_row}
use Rattle.vault_schema.specs.Merchants.{merchant_key}
use Rattle.vault_schema.specs.Merchants.{old_merchants}
use Rattle.vault_schema.specs.Merchants.{lives_columns, merchants as merchants_table}
use Rattle.vault_schema.specs.Merchants.{older_lives}
use Rattle.vault_schema.specs.declared.rows.OldLives as one_lives
use Rattle.vault_schema.specs.Versions.{AreSix, HasDefaults, Lookups, Merchants, OldMerchants, fourth_layers}
use Rattle.vault_schema.specs.Versions.{layers, newest, schema_of, second_layers}
use Rattle.vault_schema.specs.Merchants.{merchant_row}
use Rattle.vault_schema.specs.declared.version.Version.{Version}
use Rattle.vault_schema.specs.declared.version.Version.TheVariants.{Three}
use Rattle.vault_tables.specs.MerchantTexts.{merchant_values, with_first_lead}
use Rattle.vault_verdict.proofs.Left.{AreGone}
use Rattle.vault_verdict.proofs.ReplacedTable.{AreSaid, Replaced, by_table, narrow_up, said_of_read}
use Rattle.vault_verdict.proofs.ReplacedTable.{said_where_read}
use Rattle.vault_verdict.proofs.Table.{Table, keys_apart, listed_by, pair_of, row_at, stand_for}
use Rattle.vault_verdict.proofs.Tables.{IsFree, by_name}
use Rattle.vault_verdict.proofs.Widened.{widened}
use Rattle.vault_verdict.specs.ReadAs.{merchants_in}

-- ---- the tables

-- what the older table has of a merchant
abbrev old_merchant_values : RawMerchant → Row
old_merchant_values m =
    Int m.rowid ∷ Text (string_bytes m.name) ∷ Int m.single_life ∷ Int m.multi_life ∷ Int m.moment ∷ []

module _ (others : List SqlTable) (indexes : List Index) where
  -- without a lead
  abbrev old_merchant_table : (free : IsFree others indexes old_merchants 1)
      → Table (keyed_in_grown old_merchants_in_first others indexes free) RawMerchant Bytes
  old_merchant_table free = listed_by by_name old_merchant_values (λ m. string_bytes m.name) (λ m. refl)

  -- with a lead
  abbrev led_merchant_table : (free : IsFree others indexes merchants_table 1)
      → Table (keyed_in_grown merchants_in_third others indexes free) RawMerchant Bytes
  led_merchant_table free = listed_by by_name merchant_values (λ m. string_bytes m.name) (λ m. refl)

-- that of the newest schema
abbrev newest_merchant_table : Table newest_tables.merchant_table RawMerchant Bytes
newest_merchant_table = led_merchant_table (behind_from newest Three) (indexes_behind_from newest Three) refl

-- no later index guards their keys
module _ (v : Version) where
  old_merchants_free : IsFree (behind v) (indexes_behind v) old_merchants 1
  old_merchants_free = free_in v old_merchants (columns_to 1) second_layers refl

  led_merchants_free : IsFree (behind_from v Three) (indexes_behind_from v Three) merchants_table 1
  led_merchants_free = free_in v merchants_table (columns_to 1) fourth_layers refl

-- the older table, and the one that came for it: what is read of the older one has a lead of six digits
abbrev pub replaced_merchants : Replaced RawMerchant
replaced_merchants = record {
  since = Three;
  older = λ db. db 1;
  newer = 17;
  wide = merchant_values;
  narrow = old_merchant_values;
  extra = λ m. Int m.lead;
  parts = λ m. refl;
  rowids = λ m. refl;
  default = Int (pos 6);
}

-- no name comes twice in them, where no rowid does
pub merchants_apart : (v : Version) (db : Database) → db.schema ≡ schema_of v → IsDatabase db
    → (items : List RawMerchant) → IsPermutation (merchants_in v db.trees) (map merchant_values items)
    → IsApart (map merchant_values items) → AreKeysApart (λ (m : RawMerchant). string_bytes m.name) items
merchants_apart v db ours sound items are up =
    by_table replaced_merchants v db.trees items are
    (λ b. AreKeysApart (λ (m : RawMerchant). string_bytes m.name) items)
    (λ has these. keys_apart
    (led_merchant_table (behind_from v Three) (indexes_behind_from v Three) (led_merchants_free v)) db
    (ours ∙ schema_from v Three refl has) sound items these up)
    (λ these six. keys_apart (old_merchant_table (behind v) (indexes_behind v) (old_merchants_free v)) db
    (ours ∙ schema_is v) sound items these (narrow_up replaced_merchants v db.trees items are up))

-- ---- from what a version says of its tables

-- the older table with the lead of six digits beside each row
with_leads : (held : Bytes → _) (rows : List Row)
    → ((m : Bytes) (x : Lives) → held m ≡ Some x → Int (pos (lead_digits x.lead)) ≡ Int (pos 6))
    → OldMerchants held rows → Merchants held (map with_first_lead rows)
with_leads held rows six are =
    widened (Int (pos 6)) merchant_key old_lives_columns lives_columns merchant_coding
    older_lives
    (λ m x at. λ i. Int (pos x.single_life)
    ∷ Int (pos x.multi_life) ∷ Int (pos x.moment) ∷ six m x at i ∷ []) are

-- what a version says of its tables is so of the rows that are read
pub merchants_claimed : (v : Version) (db : Trees) (h : Lookups) → AreHeld v db h → HasDefaults v h
    → Merchants h.merchants (merchants_in v db)
merchants_claimed v db h it defaults =
    said_of_read replaced_merchants v db (OldMerchants h.merchants) (Merchants h.merchants) (AreSix h)
    (record { older = it.hold.1.0 refl; newer = it.hold.1.1.1.1.1.1.1.1.0; default = defaults.0 })
    (λ six. with_leads h.merchants (db 1) (λ m x at. ap (λ lead. Int (pos (lead_digits lead))) (six m x at)))

-- rows that stand for the merchants of a vault show them
module _ (V : Vault) (tree : List Row) (items : List RawMerchant)
    (are : IsPermutation tree (map merchant_values items))
    (claimed : Merchants (lookups_of V).merchants tree) where
  pub merchant_shown : (m : RawMerchant) → Has items m
      → (merchant : Merchant) × (merchant_at V (string_bytes m.name) ≡ Some merchant)
      × ShowsMerchant m merchant
  merchant_shown m h =
      let it = pair_of newest_merchant_table _ are claimed m h in
      let back = mapped_is lives_in (merchant_at V (string_bytes m.name)) it.0 it.2 in
      let is = it.1 ∙ ap (merchant_row (string_bytes m.name)) (sym back.2) in
      let shown : ShowsMerchant m back.0 = grind (arith, is) in
      (back.0, back.1, shown)

  pub merchant_there : (name : Bytes) (merchant : Merchant) → merchant_at V name ≡ Some merchant
      → (m : RawMerchant) × Has items m × (string_bytes m.name ≡ name)
  merchant_there name merchant h =
      (row_at newest_merchant_table _ are claimed name _ (ap (option_map lives_in) h)).0

-- ---- from rows that keep the rules

-- the lead of six digits
six_told : (lead : Lead) → lead_digits lead ≡ 6 → lead ≡ Six
six_told Six is = refl
six_told Eight is = absurd cc

digits_of : (lead : Lead) (n : ℤ) → n ≡ pos (lead_digits lead) → Int n ≡ Int (pos 6) → lead_digits lead ≡ 6
digits_of lead n shown six = let same : n ≡ pos 6 = cc in pos_same (sym shown ∙ same)

module _ (rows : Rows) (apart : HasKeysApart rows) (keep : (r : ℕ) → keeps rows r ≡ true) where
  abbrev h : Lookups
  h = lookups_of (vault_of rows)

  shows : Shows rows (vault_of rows)
  shows = rows_show rows apart keep

  -- where each row has it, each merchant has
  are_six : ((m : RawMerchant) → Has rows.merchants m → Int m.lead ≡ Int (pos 6)) → AreSix h
  are_six six name x is =
      let merchant = mapped_is lives_in (merchant_at (vault_of rows) name) x is in
      let row = shows.merchants_there name merchant.0 merchant.1 in
      let it = shows.merchants row.0 row.1 in
      let same : it.0 ≡ merchant.0 =
      some_same (sym it.1 ∙ ap (merchant_at (vault_of rows)) row.2 ∙ merchant.1) in
      let lead = six_told it.0.lead (digits_of it.0.lead row.0.lead it.2.lead (six row.0 row.1)) in
      sym (ap (λ (y : _). y.lead) merchant.2) ∙ sym (ap (λ (y : Merchant). y.lead) same) ∙ lead

  -- each row has the columns of a merchant, and each merchant has its row
  listed : (m : RawMerchant) → Has rows.merchants m
      → (name : Bytes) × (x : Lives) × (drop 1 (merchant_values m) ≡ merchant_row name x)
      × (h.merchants name ≡ Some x)
  listed m there =
      let it = shows.merchants m there in
      let name = string_bytes m.name in
      let columns : drop 1 (merchant_values m) ≡ merchant_row name (lives_in it.0) = grind (arith, it.2) in
      (name, lives_in it.0, columns, ap (option_map lives_in) it.1)

  row_there : (name : Bytes) (x : Lives) → h.merchants name ≡ Some x
      → (m : RawMerchant) × Has rows.merchants m × (string_bytes m.name ≡ name)
  row_there name x is =
      let it = mapped_is lives_in (merchant_at (vault_of rows) name) x is in
      shows.merchants_there name it.0 it.1

  -- so it is without the lead
  old_listed : (m : RawMerchant) → Has rows.merchants m
      → (name : Bytes) × (x : one_lives.OldLives) × (drop 1 (old_merchant_values m) ≡ old_merchant_row name x)
      × (option_map older_lives (h.merchants name) ≡ Some x)
  old_listed m there =
      let it = listed m there in
      (it.0, older_lives it.1, grind (arith, it.2), ap (option_map older_lives) it.3)

  module _ (db : Database) (sound : IsDatabase db) (v : Version) (ours : db.schema ≡ schema_of v) where
    -- what is said of the table of schema 1, of that of schema 3, and of each lead before schema 3
    pub merchants_said : IsPermutation (merchants_in v db.trees) (map merchant_values rows.merchants)
        → IsApart (map merchant_values rows.merchants) → AreGone v db.trees layers
        → AreSaid replaced_merchants v db.trees (OldMerchants h.merchants) (Merchants h.merchants) (AreSix h)
    merchants_said are up gone =
        said_where_read replaced_merchants v db.trees rows.merchants are up _ _ _ gone.1.0
        (λ has these up. stand_for
        (led_merchant_table (behind_from v Three) (indexes_behind_from v Three) (led_merchants_free v)) db
        (ours ∙ schema_from v Three refl has) sound _ these up listed row_there)
        (λ these up. stand_for (old_merchant_table (behind v) (indexes_behind v) (old_merchants_free v)) db
        (ours ∙ schema_is v) sound _ these up old_listed
        (λ name x is.
        let lives = mapped_is older_lives (h.merchants name) x is in row_there name lives.0 lives.1)) are_six
