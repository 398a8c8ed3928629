-- What a statement makes of the tables, and so of the lookups.
use Rattle.std.proofs.Common.{◌≡◌, ℕ, List, Ok, Result, OnOk, sym, IsTrue, ℤ, Option, subst, refl}
use Rattle.sqlite.specs.Effect.{Database}
use Rattle.sqlite.specs.Order.{Row}
use Rattle.sqlite.specs.State.{State, HasCleanDisk, ExecutesInside}
use Rattle.sql_tables.proofs.Calls as calls
use Rattle.sql_tables.proofs.Statements.{Ran}
use Rattle.sql_tables.specs.States.{Steps}
use Rattle.vault_core.specs.Keys.{Bytes}
use Rattle.vault_schema.specs.Joined.{AreJoined, nothing_owed}
use Rattle.vault_schema.specs.Schema.{newest_schema}
use Rattle.vault_schema.specs.Stands.{newest_claims, newest}
use Rattle.vault_schema.specs.Versions.{Lookups, Tables, tables_of}
use Rattle.vault_schema.specs.declared.rows.Card.{Card}
use Rattle.vault_schema.specs.declared.rows.Pointing.{Pointing}
use Rattle.vault_tables.specs.Calls.{HasTables, Makes, Turns}

-- what it makes of the tables is done, where it tells how many rows it changed
pub turns_telling : {R E : Type 0} {y : R} {old new : State} {sql : List ℕ} {params : Row} {count : ℕ}
    {Can : Tables → Type 0} {After : R → Tables → Tables → Type 0} → Steps old new
    → (HasCleanDisk new → IsTrue old.in_transaction → ExecutesInside 0 sql params old new (Ok count))
    → ((t : Tables) (base : Database) → Can t → (run : Ran newest_schema
    (newest_claims t) base old new sql params)
    → run.count ≡ count → (after : Tables) × After y t after × HasTables newest new base after)
    → Turns newest (let it : Result R E = Ok y in it) Can After old new
turns_telling {count = count} steps ran lemma = record {
  steps = steps;
  done = λ clean base t w can.
      lemma t base can (record { within = w; count = count; ran = ran clean w.inside; limit = steps.limit })
      refl;
}

-- what it makes of lookups is done, where the entries stay
pub makes : {R E : Type 0} {result : Result R E} {old new : State} {sql : List ℕ} {params : Row}
    {Can : Lookups → Type 0} {after : Lookups → Lookups} → Steps old new
    → (HasCleanDisk new
    → OnOk result
    (IsTrue old.in_transaction → (count : ℕ) × ExecutesInside 0 sql params old new (Ok count)))
    → ((h : Lookups) → (after h).entries ≡ h.entries)
    → ((h : Lookups) (cards : ℤ → Option Card) (pointing : Bytes × Bytes → Option Pointing) (base : Database)
    → Can h → Ran newest_schema (newest_claims (tables_of h cards pointing)) base old new sql params
    → HasTables newest new base (tables_of (after h) cards pointing))
    → Makes newest result Can after old new
makes {result = result} steps ran keeps lemma = record {
  steps = steps;
  done = λ clean. calls.on_ok result (ran clean) (λ did base h w can.
      let it = did w.has.inside in record {
        cards = w.cards;
        pointing = w.pointing;
        has = lemma h w.cards w.pointing base can
            (record { within = w.has; count = it.0; ran = it.1; limit = steps.limit });
        joined = subst (AreJoined nothing_owed w.cards w.pointing) (sym (keeps h)) w.joined;
      });
}

-- what is made of the tables is made of the lookups
pub made_of : {R E : Type 0} {result : Result R E} {old new : State} {after : Lookups → Lookups}
    (on : Tables → Tables) → Steps old new
    → (HasCleanDisk new → OnOk result ((base : Database) (t : Tables) → HasTables newest old base t
    → HasTables newest new base (on t)))
    → ((h : Lookups) (cards : ℤ → Option Card) (pointing : Bytes × Bytes → Option Pointing)
    → on (tables_of h cards pointing) ≡ tables_of (after h) cards pointing)
    → ((h : Lookups) → (after h).entries ≡ h.entries) → Makes newest result (λ h. Unit {0}) after old new
made_of {result = result} {new = new} on steps done same keeps = record {
  steps = steps;
  done = λ clean. calls.on_ok result (done clean) (λ did base h w can. record {
    cards = w.cards;
    pointing = w.pointing;
    has = subst (HasTables newest new base) (same h w.cards w.pointing)
        (did base (tables_of h w.cards w.pointing) w.has);
    joined = subst (AreJoined nothing_owed w.cards w.pointing) (sym (keeps h)) w.joined;
  });
}
