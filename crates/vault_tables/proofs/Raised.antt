-- A count goes up by an update of its row, or by its first row.
use Rattle.std.proofs.Common.{arith, ◌≡◌, ◌↔◌, ◌∙◌, inl, inr, ℕ, pos, [], ◌∷◌, Bool, true, false, nat_lt}
use Rattle.std.proofs.Common.{Option, Some, None, IsSome, IsTrue, Ok, Result, refl, sym, ap, subst}
use Rattle.std.proofs.Common.{if◌then◌else◌}
use Rattle.sqlite.specs.State.{State, HasCleanDisk, ExecutesInside}
use Rattle.sqlite.specs.declared.types.Value.TheVariants.{Int, Text}
use Rattle.sql_tables.proofs.Calls as calls
use Rattle.sql_tables.specs.States.{Steps}
use Rattle.vault_core.specs.Keys.{Bytes}
use Rattle.vault_schema.specs.Stands.{newest}
use Rattle.vault_schema.specs.Versions.{Tables, tables_of}
use Rattle.vault_tables.proofs.Calls.{on_if}
use Rattle.vault_tables.proofs.CountStatements.{count_raised}
use Rattle.vault_tables.proofs.Made.{turns_telling}
use Rattle.vault_tables.specs.Calls.{HasTables, Makes, Turns}
use Rattle.vault_tables.specs.Raising.{HasRoomAt, IsRaised, raise_at}
use Rattle.vault_tables.specs.declared.counts.TheConstants.{RAISE_COUNT}

module _ (at : Bytes × ℕ) where
  abbrev raised : Tables → Tables
  raised t = record t { counts = raise_at t.counts at }

  no_row : (t : Tables) (n : ℕ) → n ≡ 0 → t.counts at ≡ None → IsRaised (nat_lt 0 n) t t at
  no_row t n is none = subst (λ (m : ℕ). IsRaised (nat_lt 0 m) t t at) (sym is)
      (record { told = told (t.counts at) none; after = refl })
    where
      told : (o : Option ℕ) → o ≡ None → IsTrue false ↔ IsSome o
      told o none = grind (arith, none)

  one_row : (t : Tables) (n y : ℕ) → n ≡ 1 → t.counts at ≡ Some y → IsRaised (nat_lt 0 n) t (raised t) at
  one_row t n y is there = subst (λ (m : ℕ). IsRaised (nat_lt 0 m) t (raised t) at) (sym is)
      (record { told = told (t.counts at) there; after = refl })
    where
      told : (o : Option ℕ) → o ≡ Some y → IsTrue true ↔ IsSome o
      told o there = grind (arith, there)

  -- the update tells by the number of rows that it changed
  pub row_raised : {E : Type 0} {old new : State} (count : ℕ) → Steps old new
      → (HasCleanDisk new → IsTrue old.in_transaction
      → ExecutesInside 0 RAISE_COUNT.now (Text at.0 ∷ Int (pos at.1) ∷ []) old new (Ok count))
      → Turns newest (let it : Result Bool E = Ok (nat_lt 0 count) in it) (λ t. HasRoomAt t.counts at)
      (λ has t after. IsRaised has t after at) old new
  row_raised count steps ran = turns_telling steps ran (λ t base room run is.
      elim (count_raised at room run) [
        | inl none ↦ (t, no_row t count (sym is ∙ none.1) none.0, none.2)
        | inr some ↦ (raised t, one_row t count some.0 (sym is ∙ some.2) some.1, some.3)
      ])

  -- where there was a row, that is all
  pub raised_at_once : {E F : Type 0} {has : Bool} {old new : State}
      → Turns newest (let it : Result Bool E = Ok has in it) (λ t. HasRoomAt t.counts at)
      (λ has t after. IsRaised has t after at) old new → has ≡ true
      → Makes newest (let it : Result (Unit {0}) F = Ok tt in it) (λ h. HasRoomAt h.counts at)
      (λ h. record h { counts = raise_at h.counts at }) old new
  raised_at_once {new = new} one has = record {
    steps = one.steps;
    done = λ clean base h w room.
        let start = tables_of h w.cards w.pointing in
        let it = one.done clean base start w.has room in record {
          cards = w.cards;
          pointing = w.pointing;
          has = subst (HasTables newest new base)
              (it.1.after ∙ ap (λ (b : Bool). if b then raised start else start) has) it.2;
          joined = w.joined;
        };
  }

  is_none : (o : Option ℕ) (has : Bool) → IsTrue has ↔ IsSome o → has ≡ false → o ≡ None
  is_none o has told lacks = grind (arith, told, lacks)

  -- else its first row follows
  pub raised_anew : {E F : Type 0} {has : Bool} {second : Result (Unit {0}) F} {a b c : State}
      → Turns newest (let it : Result Bool E = Ok has in it) (λ t. HasRoomAt t.counts at)
      (λ has t after. IsRaised has t after at) a b → has ≡ false
      → Turns newest second (λ t. t.counts at ≡ None) (λ it t new. new ≡ raised t) b c
      → Makes newest second (λ h. HasRoomAt h.counts at) (λ h. record h { counts = raise_at h.counts at }) a c
  raised_anew {has = has} {second = second} {b = b} {c = c} one lacks two = record {
    steps = calls.steps_then one.steps two.steps;
    done = λ clean. on_if second (two.done clean) (λ it did base h w room.
        let before : HasCleanDisk b = omega (arith, two.steps.clean, clean) in
        let start = tables_of h w.cards w.pointing in
        let mid = one.done before base start w.has room in
        let same = mid.1.after ∙ ap (λ (b : Bool). if b then raised start else start) lacks in
        let end = did base mid.0 mid.2
        (ap (λ (t : Tables). t.counts at) same ∙ is_none (start.counts at) has mid.1.told lacks) in
        record {
          cards = w.cards;
          pointing = w.pointing;
          has = subst (HasTables newest c base) (end.1 ∙ ap raised same) end.2;
          joined = w.joined;
        });
  }
