-- The newest version: its tables, each by its key at its place, what its texts mean, and what a vault that is
-- held there is. Of the versions themselves, what is to be seen one by one.
use Rattle.std.proofs.Common.{◌≡◌, ◌∙◌, ◌-◌, ◌<◌, ◌==◌, ℕ, true, false, cond, drop, length, List, [], ◌∷◌}
use Rattle.std.proofs.Common.{None, ap, arith, refl, subst, sym}
use Rattle.sqlite.specs.Order.{Row}
use Rattle.sqlite.specs.Schema.{Schema}
use Rattle.sqlite.specs.State.{State}
use Rattle.sqlite.specs.Table.{Table}
use Rattle.sqlite.specs.Tree.{Trees}
use Rattle.sqlite_schema.specs.declared.schema.Index.{Index}
use Rattle.sql_tables.proofs.ById.{ById}
use Rattle.sql_tables.proofs.ByKey.{no_rows}
use Rattle.sql_tables.proofs.Grown.{keyed_in_grown}
use Rattle.sql_tables.specs.Maps.{Keyed}
use Rattle.sql_tables.specs.Rows.{AreRowsById, AreRowsOf}
use Rattle.sql_tables.specs.States.{Claim, StandsIn}
use Rattle.vault_core.specs.Keys.{bytes_cmp, entry_cmp, record_cmp, right_cmp}
use Rattle.vault_core.specs.Vault.{Vault}
use Rattle.vault_schema.proofs.CardCodes.{cards_in_second}
use Rattle.vault_schema.proofs.CountCodes.{counts_in_first}
use Rattle.vault_schema.proofs.EntryCodes.{entries_in_second}
use Rattle.vault_schema.proofs.MerchantCodes.{merchants_in_third}
use Rattle.vault_schema.proofs.Placed.{by_id_in_grown}
use Rattle.vault_schema.proofs.RecordCodes.{records_in_first}
use Rattle.vault_schema.proofs.RightCodes.{rights_in_fourth}
use Rattle.vault_schema.proofs.TablesBehind.{behind, behind_from, behind_two, indexes_behind}
use Rattle.vault_schema.proofs.TablesBehind.{indexes_behind_from, indexes_behind_two}
use Rattle.vault_schema.specs.Cards.{card_columns}
use Rattle.vault_schema.specs.Counts.{count_row}
use Rattle.vault_schema.specs.Entries.{entry_key, pointing_columns, pointing_row}
use Rattle.vault_schema.specs.Holds.{AreIn, AreOurs, Holds, HoldsIn}
use Rattle.vault_schema.specs.Layers.{is_from, rank}
use Rattle.vault_schema.specs.Making.{empties}
use Rattle.vault_schema.specs.Merchants.{merchant_key, lives_columns, merchant_row}
use Rattle.vault_schema.specs.Merchants.{merchants as newest_merchants}
use Rattle.vault_schema.specs.Records.{record_columns, record_row}
use Rattle.vault_schema.specs.Rights.{right_key, ends_column, right_row}
use Rattle.vault_schema.specs.Schema.{newest_schema}
use Rattle.vault_schema.specs.Stands.{lookups_of, newest_claims}
use Rattle.vault_schema.specs.Values.{number_column, numbered_key}
use Rattle.vault_schema.specs.VersionRows.{IsVersion}
use Rattle.vault_schema.specs.Versions.{HasDefaults, Lookups, Tables, has_cards, natural_of, newest, next_of}
use Rattle.vault_schema.specs.Versions.{schema_of}
use Rattle.vault_schema.specs.declared.version.Version.{Version}
use Rattle.vault_schema.specs.declared.version.Version.TheVariants.{One, Two, Three, Four}

-- ---- the tables and indexes behind those of an older version

abbrev pub behind_second : List Table
behind_second = behind_two newest

abbrev pub behind_first : List Table
behind_first = behind newest

abbrev pub indexes_behind_second : List Index
indexes_behind_second = indexes_behind_two newest

abbrev pub indexes_behind_first : List Index
indexes_behind_first = indexes_behind newest

-- ---- the tables

abbrev pub merchant_table : Keyed newest_schema bytes_cmp merchant_key lives_columns
merchant_table =
    keyed_in_grown merchants_in_third (behind_from newest Three) (indexes_behind_from newest Three) refl

abbrev pub right_table : Keyed newest_schema right_cmp right_key ends_column
right_table = keyed_in_grown rights_in_fourth (behind_from newest Four) (indexes_behind_from newest Four) refl

abbrev pub count_table : Keyed newest_schema record_cmp numbered_key number_column
count_table = keyed_in_grown counts_in_first behind_first indexes_behind_first refl

abbrev pub record_table : Keyed newest_schema record_cmp numbered_key record_columns
record_table = keyed_in_grown records_in_first behind_first indexes_behind_first refl

abbrev pub pointing_table : Keyed newest_schema entry_cmp entry_key pointing_columns
pointing_table = keyed_in_grown entries_in_second behind_second indexes_behind_second refl

abbrev pub card_table : ById newest_schema card_columns
card_table = by_id_in_grown cards_in_second behind_second indexes_behind_second

-- what is said of that of merchants
pub merchants_held : (t : Tables) (db : Trees) → StandsIn newest_schema.tables (newest_claims t) db
    → AreRowsOf merchant_row (db newest_merchants.tree) t.merchants
merchants_held t db rows = rows.1.1.1.1.1.1.1.1.0

-- ---- a vault that is made

-- the version is said, and no other table has a row
abbrev pub emptied_claims : List Claim
emptied_claims = IsVersion (natural_of newest) ∷ empties (length (drop 1 newest_schema.tables))

-- tables that have nothing
abbrev pub no_tables : Tables
no_tables = record {
  merchants = λ m. None;
  counts = λ key. None;
  records = λ key. None;
  rights = λ key. None;
  cards = λ id. None;
  pointing = λ key. None;
}

no_ids : (rows : List Row) → rows ≡ [] → AreRowsById card_columns rows no_tables.cards
no_ids rows is = subst (λ l. AreRowsById card_columns l no_tables.cards) (sym is) (record {
  apart = tt;
  sound = λ r h. absurd h;
  complete = λ n x some. absurd cc;
})

pub emptied : (db : Trees) → StandsIn newest_schema.tables emptied_claims db
    → StandsIn newest_schema.tables (newest_claims no_tables) db
emptied db s = (
  s.0,
  (
    s.1.0,
    (
      no_rows count_row (db 3) no_tables.counts s.1.1.0 (λ key. refl),
      (
        s.1.1.1.0,
        (
          no_rows record_row (db 8) no_tables.records s.1.1.1.1.0 (λ key. refl),
          (
            s.1.1.1.1.1.0,
            (
              no_ids (db 12) s.1.1.1.1.1.1.0,
              (
                no_rows pointing_row (db 14) no_tables.pointing s.1.1.1.1.1.1.1.0 (λ key. refl),
                (
                  no_rows merchant_row (db 17) no_tables.merchants s.1.1.1.1.1.1.1.1.0 (λ m. refl),
                  (
                    no_rows right_row (db 19) no_tables.rights s.1.1.1.1.1.1.1.1.1.0 (λ key. refl),
                    tt,
                  ),
                ),
              ),
            ),
          ),
        ),
      ),
    ),
  ),
)

-- ---- a vault that is held

-- the newest version can hold all that is looked up
no_defaults : (h : Lookups) → HasDefaults newest h
no_defaults h = (tt, (tt, tt))

pub held_in_newest : (V : Vault) (st : State) → Holds st V → HoldsIn newest V st
held_in_newest V st h = record {
  free = record { is_open = h.is_open; unlimited = h.unlimited };
  autocommit = h.autocommit;
  settled = h.settled;
  is = record {
    schema = h.schema;
    sound = h.sound;
    stand = record { rows = h.stands; defaults = no_defaults (lookups_of V) };
  };
}

pub held_by_newest : (V : Vault) (st : State) → HoldsIn newest V st → Holds st V
held_by_newest V st it = record {
  is_open = it.free.is_open;
  autocommit = it.autocommit;
  unlimited = it.free.unlimited;
  schema = it.is.schema;
  sound = it.is.sound;
  settled = it.settled;
  stands = it.is.stand.rows;
}

pub ours_in_newest : (V : Vault) (db : Trees) → AreOurs db V → AreIn newest V db
ours_in_newest V db a = record {
  sound = a.sound;
  stand = record { rows = a.stands; defaults = no_defaults (lookups_of V) };
}

-- ---- the versions, one by one

-- what a step leads to has cards
pub next_has_cards : (v : Version) → has_cards (next_of v) ≡ true
next_has_cards One = refl
next_has_cards Two = refl
next_has_cards Three = refl
next_has_cards Four = refl

-- a version before the newest one has fewer before it than the one that it leads to
pub fewer_left : (v : Version) → is_from newest v ≡ false
    → rank newest - rank (next_of v) < rank newest - rank v
fewer_left One before = omega arith
fewer_left Two before = omega arith
fewer_left Three before = omega arith
fewer_left Four before = absurd (let clash = before in cc)

-- and any other is the newest one
pub newest_is : (v : Version) → is_from newest v ≡ true → v ≡ newest
newest_is One from = absurd (let clash = from in cc)
newest_is Two from = absurd (let clash = from in cc)
newest_is Three from = absurd (let clash = from in cc)
newest_is Four from = refl

-- the version that has so many tables
abbrev version_with : ℕ → Version
version_with n = cond (n == 6) One (cond (n == 8) Two (cond (n == 9) Three Four))

number_tells : (v : Version) → version_with (length (schema_of v).tables) ≡ v
number_tells One = refl
number_tells Two = refl
number_tells Three = refl
number_tells Four = refl

-- so a schema is that of one version
pub one_version : (v w : Version) → schema_of v ≡ schema_of w → v ≡ w
one_version v w same =
    sym (number_tells v) ∙ ap (λ (s : Schema). version_with (length s.tables)) same ∙ number_tells w
