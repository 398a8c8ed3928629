-- What making the schema leads to: the empty vault.
use Rattle.std.proofs.Common.{◌≡◌, ℕ, suc, pos, List, [], ◌∷◌, Ok, true, length}
use Rattle.std.proofs.Common.{option_map, refl, sym, ap, subst, ◌∙◌, arith, IsTrue, Result, OnOk}
use Rattle.std.proofs.Common.{◌+◌, ◌<◌, get_or}
use Rattle.std.proofs.lemmas.Bool.Decides.{nat_tests}
use Rattle.sqlite.specs.State.{HasCleanDisk, State, ExecutesInside}
use Rattle.sqlite.specs.Change.{indexed, created}
use Rattle.sqlite_schema.specs.declared.schema.Index.{Index}
use Rattle.sql_tables.specs.States.{Steps, IsEmpty, StandsIn}
use Rattle.sql_tables.specs.Texts.{MakesIndex, MakesTable}
use Rattle.sql_tables.proofs.Calls.{on_ok, steps_then}
use Rattle.std.specs.FinMap as map
use Rattle.std.specs.Ordering.{eq_by_cmp}
use Rattle.sqlite.specs.Effect.{Database}
use Rattle.sqlite.specs.Schema.{Schema}
use Rattle.sqlite.specs.Table.{Table}
use Rattle.sqlite.specs.Tree.{Trees}
use Rattle.sqlite.specs.declared.types.Value.TheVariants.{Null, Int}
use Rattle.sql_tables.specs.Schema.{no_schema}
use Rattle.sql_tables.proofs.Making.{makes_index, makes_table}
use Rattle.sql_tables.proofs.Statements.{insert_first, retold}
use Rattle.vault_core.proofs.Maps.{entry_total, entry_exact, get-retained}
use Rattle.vault_core.specs.Keys.{Bytes, bytes_cmp, entry_cmp, record_cmp, right_cmp}
use Rattle.vault_core.specs.Vault.{Merchant, empty_vault, entries_of, made_count}
use Rattle.vault_core.specs.declared.row.Entry.{Entry}
use Rattle.vault_schema.specs.VersionRows.{vault}
use Rattle.vault_schema.specs.Stands.{newest_claims}
use Rattle.vault_schema.specs.Joined.{AreJoined, nothing_owed}
use Rattle.vault_schema.proofs.Newest.{emptied, emptied_claims}
use Rattle.vault_tables.proofs.LaterMaking.{later_made, later_makes, later_texts}
use Rattle.vault_schema.proofs.Newest.{no_tables}
use Rattle.vault_tables.proofs.LaterMaking.{put_version_is}
use Rattle.vault_schema.specs.Schemas.{v2}
use Rattle.vault_tables.specs.declared.versions.TheConstants.{PUT_VERSION}
use Rattle.vault_tables.specs.Calls.{IsWithin}
use Rattle.vault_schema.specs.Making.{IsRowless, IsBegun, IsReady, empties}
use Rattle.vault_schema.specs.Schema.{newest_schema}
use Rattle.vault_core.specs.Lives.{lives_in}
use Rattle.vault_schema.specs.Stands.{count_at, lookups_of, unless_zero}
use Rattle.vault_schema.specs.Versions.{newest, number_of, tables_of}

-- ---- the tables, one after the other

-- a transaction that was just begun
pub begun_blank : (s : State) → IsReady s → s.now.schema ≡ no_schema
    → IsBegun (record s { in_transaction = true }) s.committed
begun_blank s is blank = assumption

-- a transaction that was begun so has come as far as this
abbrev pub Reached : (Database → Type 0) → State → Schema → ℕ → Type 0
Reached Begun st s n = HasCleanDisk st → (base : Database) → Begun base → IsRowless s n st base

-- it has come as far as it was begun
pub as_begun : (s : Schema) (n : ℕ) (st : State) → Reached (IsRowless s n st) st s n
as_begun s n st = λ clean base b. b

module _ {old new : State} {sql : List ℕ} (steps : Steps old new)
    (ran : HasCleanDisk new → IsTrue old.in_transaction
    → (count : ℕ) × ExecutesInside 0 sql [] old new (Ok count)) where
  pub first_made : {t : Table} → MakesTable no_schema sql t
      → Reached (IsBegun old) new (created no_schema t) 1
  first_made it clean base b = let did = ran clean b.inside in
      makes_table no_schema [] base old new (record { is_open = b.is_open; unlimited = b.unlimited })
      b.committed b.schema tt sql did.0 did.1 steps.limit _ it IsEmpty refl

  -- one more table
  pub table_made : {Begun : Database → Type 0} {s : Schema} {t : Table} (n : ℕ) → MakesTable s sql t
      → Reached Begun old s n → Reached Begun new (created s t) (suc n)
  table_made {s = s} n it before clean base b =
      let w = before (omega (arith, steps.clean, clean)) base b in
      let did = ran clean w.inside in
      makes_table s (empties n) base old new w.free w.committed w.stands.schema w.stands.rows sql did.0 did.1
      steps.limit _ it IsEmpty refl

  -- one more index
  pub index_made : {Begun : Database → Type 0} {s : Schema} {at : ℕ} {t : Table} {i : Index} (n : ℕ)
      → MakesIndex s sql at t i → Reached Begun old s n → Reached Begun new (indexed s t i) n
  index_made {s = s} n it before clean base b =
      let w = before (omega (arith, steps.clean, clean)) base b in
      let did = ran clean w.inside in
      makes_index s (empties n) base old new w.free w.committed w.stands.schema w.stands.rows sql did.0 did.1
      steps.limit _ _ _ it

-- the last index of a version, whose step is the last one
pub last_index : {R E : Type 0} (result : Result R E) {Begun : Database → Type 0} {old new : State}
    {sql : List ℕ} → Steps old new
    → (HasCleanDisk new → OnOk result (IsTrue old.in_transaction
    → (count : ℕ) × ExecutesInside 0 sql [] old new (Ok count)))
    → {s next : Schema} {at : ℕ} {t : Table} {i : Index} (n : ℕ) → MakesIndex s sql at t i
    → indexed s t i ≡ next → Reached Begun old s n → HasCleanDisk new
    → OnOk result ((base : Database) → Begun base → IsRowless next n new base)
last_index result {new = new} steps ran n it same before clean = on_ok result (ran clean) (λ did base b.
    subst (λ s. IsRowless s n new base) same
    (index_made steps (λ clean. did) n it before clean base b))

-- all tables of a version
pub all_tables : (n : ℕ) {s next : Schema} → s ≡ next → (Begun : Database → Type 0) (st : State)
    → Reached Begun st s n → Reached Begun st next n
all_tables n same Begun st made clean base b =
    subst (λ s. IsRowless s n st base) same (made clean base b)

-- so many of the tables that came since schema 2 are made
pub record AreMade (old new : State) (n : ℕ) : Type 0 where
  pub steps : Steps old new
  pub made : Reached (IsRowless v2 8 old) new (later_made n) (length (later_made n).tables)

-- and one more
pub later_more : {old mid new : State} (n : ℕ) (text : List ℕ) → n < length later_texts
    → text ≡ get_or later_texts n [] → AreMade old mid n → Steps mid new
    → (HasCleanDisk new → IsTrue mid.in_transaction
    → (count : ℕ) × ExecutesInside 0 text [] mid new (Ok count))
    → AreMade old new (n + 1)
later_more {old} {mid} {new} n text inside is before steps ran =
    let it = later_makes n text inside is in
    let made = all_tables (suc (length (later_made n).tables)) it.made (IsRowless v2 8 old) new
    (table_made steps ran (length (later_made n).tables) it.makes before.made) in
    let next : suc n ≡ n + 1 = omega arith in
    subst (AreMade old new) next (record {
      steps = steps_then before.steps steps;
      made = subst (Reached (IsRowless v2 8 old) new (later_made (suc n))) it.more made;
    })

-- ---- the empty vault

none_made : (m : Bytes) → made_count empty_vault m ≡ 0
none_made m = ap map.len (map.same_map entry_total entry_exact (entries_of empty_vault m) map.empty none)
    ∙ map.len-empty entry_cmp Entry
  where
    none : (key : Bytes × Bytes)
        → map.get (entries_of empty_vault m) key ≡ map.get (map.empty {R = entry_cmp}) key
    none key = rw (
      get-retained entry_total entry_exact empty_vault.entries (λ k. eq_by_cmp bytes_cmp m k.0) key,
      map.get-empty entry_cmp key,
    ) (grind arith)

no_count : (m : Bytes) (kind : ℕ) → count_at empty_vault m kind ≡ 0
no_count m kind = let none = none_made m in let empty = map.get-empty {X = Merchant} bytes_cmp m in
    grind (arith, nat_tests, none, empty)

none_joined : AreJoined nothing_owed no_tables.cards no_tables.pointing (map.get empty_vault.entries)
none_joined = record {
  same = λ key. map.get-empty entry_cmp key;
  owned = λ key id at. absurd cc;
  once = λ a b c d here. absurd cc;
  used = λ id c is. absurd cc;
}

-- nothing is looked up in the empty vault
nothing_held : no_tables ≡ tables_of (lookups_of empty_vault) no_tables.cards no_tables.pointing
nothing_held = λ i. record {
  merchants = λ m. sym (ap (option_map lives_in) (map.get-empty bytes_cmp m)) i;
  counts = λ key. sym (ap unless_zero (no_count key.0 key.1)) i;
  records = λ key. sym (map.get-empty record_cmp key) i;
  rights = λ key. sym (map.get-empty right_cmp key) i;
  cards = no_tables.cards;
  pointing = no_tables.pointing;
}

-- tables without rows stand for it
emptied_vault : (db : Trees) → StandsIn newest_schema.tables emptied_claims db
    → StandsIn newest_schema.tables
    (newest_claims (tables_of (lookups_of empty_vault) no_tables.cards no_tables.pointing)) db
emptied_vault db s =
    subst (λ t. StandsIn newest_schema.tables (newest_claims t) db) nothing_held (emptied db s)

-- the version stands in its table, and all others are empty
pub version_put : {R E : Type 0} (result : Result R E) {Begun : Database → Type 0} {old new : State}
    → Steps old new
    → (HasCleanDisk new → OnOk result (IsTrue old.in_transaction
    → (count : ℕ) × ExecutesInside 0 PUT_VERSION.now [] old new (Ok count)))
    → Reached Begun old newest_schema (length newest_schema.tables) → HasCleanDisk new
    → OnOk result ((base : Database) → Begun base → IsWithin newest new base (lookups_of empty_vault))
version_put result {old = old} {new = new} steps ran before clean =
    on_ok result (ran clean) (λ ran base b.
    let ready = before (omega (arith, steps.clean, clean)) base b in
    let did = ran ready.inside in
    record {
      cards = no_tables.cards;
      pointing = no_tables.pointing;
      has = retold newest_schema emptied_claims
          (newest_claims (tables_of (lookups_of empty_vault) no_tables.cards no_tables.pointing)) base new
          emptied_vault
          (insert_first refl (record { within = ready; count = did.0; ran = did.1; limit = steps.limit })
          vault 0 refl 3 _ put_version_is (pos 1) (Null ∷ Int (number_of newest) ∷ []) ready.stands.rows.0
          refl refl);
      joined = none_joined;
    })
