-- A vault that is held, as claims on the tables.
use Rattle.std.proofs.Common.{◌≡◌, sym, true, false, ℤ, Option, subst}
use Rattle.std.specs.FinMap as map
use Rattle.sqlite.specs.Effect.{Database}
use Rattle.sqlite.specs.State.{State, Shows}
use Rattle.sqlite.specs.Tree.{Trees}
use Rattle.sqlite_catalog.specs.Listing.{IsSound}
use Rattle.sql_tables.proofs.Calls as calls
use Rattle.sql_tables.specs.States as maps
use Rattle.vault_core.specs.Keys.{Bytes}
use Rattle.vault_core.specs.Vault.{Vault}
use Rattle.vault_schema.specs.Holds.{AreOurs, Holds}
use Rattle.vault_schema.specs.Joined.{AreJoined, nothing_owed}
use Rattle.vault_schema.specs.Schema.{newest_schema}
use Rattle.vault_schema.specs.Stands.{newest_claims, Stands, lookups_of, newest}
use Rattle.vault_schema.specs.Versions.{Tables, tables_of}
use Rattle.vault_schema.specs.declared.rows.Card.{Card}
use Rattle.vault_schema.specs.declared.rows.Pointing.{Pointing}
use Rattle.vault_tables.specs.Calls.{IsWithin}

-- what the tables have
abbrev pub held_tables : (st : State) (V : Vault) → Holds st V → Tables
held_tables st V h = tables_of (lookups_of V) h.stands.cards h.stands.pointing

pub as_held : (st : State) (V : Vault) (h : Holds st V)
    → maps.Holds newest_schema (newest_claims (held_tables st V h)) st
as_held st V h = record {
  free = record { is_open = h.is_open; unlimited = h.unlimited };
  autocommit = h.autocommit;
  settled = h.settled;
  stands = record { schema = h.schema; sound = h.sound; rows = h.stands.rows };
}

pub as_vault : (st : State) (V : Vault) (cards : ℤ → Option Card)
    (pointing : Bytes × Bytes → Option Pointing) → AreJoined nothing_owed cards pointing (map.get V.entries)
    → maps.Holds newest_schema (newest_claims (tables_of (lookups_of V) cards pointing)) st → Holds st V
as_vault st V cards pointing joined h = record {
  is_open = h.free.is_open;
  autocommit = h.autocommit;
  unlimited = h.free.unlimited;
  schema = h.stands.schema;
  sound = h.stands.sound;
  settled = h.settled;
  stands = record { cards = cards; pointing = pointing; rows = h.stands.rows; joined = joined };
}

-- a transaction that was just begun
pub begun_over : (st : State) (V : Vault) → Holds st V
    → IsWithin newest (record st { in_transaction = true }) st.committed (lookups_of V)
begun_over st V h = record {
  cards = h.stands.cards;
  pointing = h.stands.pointing;
  has = calls.begun newest_schema (newest_claims (held_tables st V h)) st (as_held st V h);
  joined = h.stands.joined;
}

-- and one that is committed
pub held_after : {mid new : State} {base : Database} (V : Vault) → IsWithin newest mid base (lookups_of V)
    → Shows mid new mid.now mid.now false → new.step_limit ≡ mid.step_limit → Holds new V
held_after {new = new} V w shows limit =
    as_vault new V w.cards w.pointing w.joined (calls.committed w.has shows limit)

-- what a commit of the transaction writes
pub ours : {st : State} {base : Database} (V : Vault) → IsWithin newest st base (lookups_of V) → (db : Trees)
    → db ≡ st.now.trees → AreOurs db V
ours {st} V w db is = record {
  sound = subst (λ (t : Trees). IsSound newest_schema t) (sym is)
      (subst (λ schema. IsSound schema st.now.trees) w.has.stands.schema w.has.stands.sound);
  stands = subst (λ (t : Trees). Stands t V) (sym is)
      (record { cards = w.cards; pointing = w.pointing; rows = w.has.stands.rows; joined = w.joined });
}
