-- The entries of a vault in schema 1 are those that its rows show.
use Rattle.std.proofs.Common.{arith, true, false, refl, ◌≡◌, List, drop, map, Some, sym, ap, subst, ◌∙◌}
use Rattle.std.specs.FinMap as finite
use Rattle.sqlite.specs.Order.{Row}
use Rattle.sqlite.specs.Tree.{Trees}
use Rattle.sqlite_rules.proofs.ProbeLemmas.{has_mapped, mapped_has}
use Rattle.sqlite_rules.specs.Lists.{Has}
use Rattle.sql_tables.specs.Rows.{AreRowsOf}
use Rattle.sql_tables.specs.States.{StandsIn}
use Rattle.std.specs.List.Sorted.{IsPermutation}
use Rattle.vault_core.specs.Keys.{Bytes}
use Rattle.vault_core.specs.Vault.{Vault, entry_at}
use Rattle.vault_core.specs.declared.row.Entry.{Entry}
use Rattle.vault_verdict.proofs.InTree.{in_items, in_tree}
use Rattle.vault_verdict.specs.Opened.{AreOldersIn}
use Rattle.vault_tables.specs.EntryTexts.{old_entry_values}
use Rattle.vault_tables.specs.declared.entries.old.OldEntry.{OldEntry}
use Rattle.vault_schema.proofs.EntryCodes.{entry_codes}
use Rattle.vault_schema.specs.Stands.{lookups_of}
use Rattle.vault_schema.specs.Entries.{entry_row}
use Rattle.vault_schema.proofs.ByTable.{first_entries}
use Rattle.vault_schema.specs.Layers.{Either}
use Rattle.vault_schema.specs.Versions.{Stand, StandJoined, has_cards, schema_of, uncarded_claims}
use Rattle.vault_schema.specs.declared.version.Version.{Version}
use Rattle.vault_migrate.specs.Typed.{old_columns, typed_columns}
use Rattle.vault_steps.specs.Entries.{AreEntriesOf, AreFor}

-- the columns of an entry tell its key and what it is
key_told : (k l : Bytes × Bytes) (x y : Entry) → entry_row k x ≡ entry_row l y → k ≡ l
key_told k l x y e =
    let first : k.0 ≡ l.0 = grind arith in
    let second : k.1 ≡ l.1 = grind arith in
    λ i. (first i, second i)

value_told : (k l : Bytes × Bytes) (x y : Entry) → entry_row k x ≡ entry_row l y → x ≡ y
value_told k l x y e = entry_codes.value_back x y (ap (drop 2) e)

module _ (rows : List Row) (V : Vault) (stands : AreRowsOf entry_row rows (finite.get V.entries))
    (olders : List OldEntry) (xs : List (Bytes × Bytes × Entry))
    (are : IsPermutation rows (map old_entry_values olders))
    (same : map old_columns olders ≡ map typed_columns xs) where
  sound : (x : Bytes × Bytes × Entry) → Has xs x → entry_at V x.0 x.1 ≡ Some x.2
  sound x h =
      let shown = subst (λ l. Has l (typed_columns x)) (sym same) (mapped_has typed_columns xs x h) in
      let e = has_mapped old_columns olders (typed_columns x) shown in
      let it = stands.sound (old_entry_values e.0) (in_tree old_entry_values olders are e.0 e.1) in
      let one = sym it.2 ∙ sym e.2 in
      ap (finite.get V.entries) (sym (key_told it.0 (x.0, x.1) it.1 x.2 one)) ∙ it.3
      ∙ ap (λ v. Some v) (value_told it.0 (x.0, x.1) it.1 x.2 one)

  complete : (m token : Bytes) (e : Entry) → entry_at V m token ≡ Some e → Has xs (m, token, e)
  complete m token e h =
      let row = stands.complete (m, token) e h in
      let older = in_items old_entry_values olders are row.0 row.1 in
      let shown = subst (λ l. Has l (old_columns older.0)) same
      (mapped_has old_columns olders older.0 older.1) in
      let x = has_mapped typed_columns xs (old_columns older.0) shown in
      let one = sym x.2 ∙ ap (drop 1) (sym older.2) ∙ row.2 in
      let key = key_told (x.0.0, x.0.1) (m, token) x.0.2 e one in
      let value = value_told (x.0.0, x.0.1) (m, token) x.0.2 e one in
      let first : x.0.0 ≡ m = ap (λ (k : Bytes × Bytes). k.0) key in
      let second : x.0.1 ≡ token = ap (λ (k : Bytes × Bytes). k.1) key in
      let is : x.0 ≡ (m, token, e) = λ i. (first i, second i, value i) in
      subst (Has xs) is x.1

  are_entries : AreEntriesOf xs (lookups_of V)
  are_entries = record { sound = sound; complete = complete }

-- so they are what the step from a version is given
pub are_for : (v : Version) (db : Trees) (V : Vault) → Stand v db (lookups_of V) → (olders : List OldEntry)
    → (xs : List (Bytes × Bytes × Entry)) → AreOldersIn v db olders
    → map old_columns olders ≡ map typed_columns xs → AreFor v xs (lookups_of V)
are_for v db V s olders xs are same =
    elim (has_cards v) as (λ b. has_cards v ≡ b → Either b (StandJoined v db (lookups_of V))
    (StandsIn (schema_of v).tables (uncarded_claims v (lookups_of V)) db)
    → Either b (Unit {0}) (IsPermutation (db 5) (map old_entry_values olders))
    → Either b (Unit {0}) (AreEntriesOf xs (lookups_of V))) [
      | true ↦ λ has j none. tt
      | false ↦ λ none stands stood.
          are_entries (db 5) V (first_entries v db (lookups_of V) none stands) olders xs stood same
    ] refl s.rows are
