-- A count whose total is known goes up by an update of the row with a rowid, or as another one.
use Rattle.std.proofs.Common.{◌≡◌, ◌∙◌, ◌+◌, arith, inl, inr, ℕ, ℤ, pos, [], ◌∷◌, Bool, true, false, nat_lt}
use Rattle.std.proofs.Common.{Some, IsTrue, Ok, Result, refl, sym, ap, subst, if◌then◌else◌}
use Rattle.sqlite.specs.State.{State, HasCleanDisk, ExecutesInside}
use Rattle.sqlite.specs.declared.types.Value.TheVariants.{Int, Text}
use Rattle.sql_tables.proofs.Calls as calls
use Rattle.sql_tables.specs.Rows.{put}
use Rattle.sql_tables.specs.States.{Steps}
use Rattle.vault_core.specs.Keys.{Bytes, record_cmp}
use Rattle.vault_schema.specs.Stands.{newest}
use Rattle.vault_schema.specs.Versions.{Lookups, Tables, tables_of}
use Rattle.vault_tables.proofs.CountStatements.{count_set}
use Rattle.vault_tables.proofs.Made.{turns_telling}
use Rattle.vault_tables.specs.Calls.{HasTables, Makes, Turns}
use Rattle.vault_tables.specs.Raising.{IsTotal, raise_at}
use Rattle.vault_tables.specs.declared.counts.TheConstants.{SET_COUNT}

module _ (at : Bytes × ℕ) where
  abbrev raised : Tables → Tables
  raised t = record t { counts = raise_at t.counts at }

  -- it went up, if it has gone up
  abbrev pub IsUp : Bool → Tables → Tables → Type 0
  IsUp has old new = new ≡ (if has then raised old else old)

  -- the update tells by the number of rows that it changed
  pub row_set : {E : Type 0} {old new : State} (count total : ℕ) (rowid : ℤ) → Steps old new
      → (HasCleanDisk new → IsTrue old.in_transaction
      → ExecutesInside 0 SET_COUNT.now (Text at.0 ∷ Int (pos at.1) ∷ Int (pos (total + 1)) ∷ Int rowid ∷ [])
      old new (Ok count))
      → Turns newest (let it : Result Bool E = Ok (nat_lt 0 count) in it) (λ t. IsTotal t.counts at total)
      IsUp old new
  row_set {old = old} {new = new} count total rowid steps ran = turns_telling steps ran (λ t base is run same.
      elim (count_set at (total + 1) rowid run) [
        | inl none ↦ (t, up t t count 0 (sym same ∙ none.0) refl, none.1)
        | inr some ↦ (
          raised t,
          up t (raised t) count 1 (sym same ∙ some.0) refl,
          subst (λ (n : ℕ). HasTables newest new base
              (record t { counts = put record_cmp t.counts at (Some (n + 1)) })) (sym is) some.1,
        )
      ])
    where
      up : (t after : Tables) (n k : ℕ) → n ≡ k → IsUp (nat_lt 0 k) t after → IsUp (nat_lt 0 n) t after
      up t after n k same is = subst (λ (m : ℕ). IsUp (nat_lt 0 m) t after) (sym same) is

  -- a total that no column holds isn't written
  pub not_set : {E : Type 0} {st : State} {Can : Tables → Type 0}
      → Turns newest (let it : Result Bool E = Ok false in it) Can IsUp st st
  not_set = record {
    steps = record { clean = omega arith; limit = refl; left = λ clean db left. left };
    done = λ clean base t w can. (t, refl, w);
  }

  -- where a row had the rowid, that is all
  pub up_at_once : {E F : Type 0} {has : Bool} {old new : State} {First : Tables → Type 0}
      {Can : Lookups → Type 0} → Turns newest (let it : Result Bool E = Ok has in it) First IsUp old new
      → has ≡ true → ((h : Lookups) → Can h → (t : Tables) → t.counts ≡ h.counts → First t)
      → Makes newest (let it : Result (Unit {0}) F = Ok tt in it) Can
      (λ h. record h { counts = raise_at h.counts at }) old new
  up_at_once {new = new} one has first = record {
    steps = one.steps;
    done = λ clean base h w can.
        let start = tables_of h w.cards w.pointing in
        let it = one.done clean base start w.has (first h can start refl) in record {
          cards = w.cards;
          pointing = w.pointing;
          has = subst (HasTables newest new base)
              (it.1 ∙ ap (λ (b : Bool). if b then raised start else start) has) it.2;
          joined = w.joined;
        };
  }

  -- else it is raised as another one
  pub up_after : {E F : Type 0} {has : Bool} {second : Result (Unit {0}) F} {a b c : State}
      {First : Tables → Type 0} {Can Next : Lookups → Type 0} {after : Lookups → Lookups}
      → Turns newest (let it : Result Bool E = Ok has in it) First IsUp a b → has ≡ false
      → Makes newest second Next after b c
      → ((h : Lookups) → Can h → (t : Tables) → t.counts ≡ h.counts → First t)
      → ((h : Lookups) → Can h → Next h) → Makes newest second Can after a c
  up_after {second = second} {b = b} one lacks two first next = record {
    steps = calls.steps_then one.steps two.steps;
    done = λ clean. calls.on_ok second (two.done clean) (λ did base h w can.
        let before : HasCleanDisk b = omega (arith, two.steps.clean, clean) in
        let start = tables_of h w.cards w.pointing in
        let it = one.done before base start w.has (first h can start refl) in
        did base h (record {
          cards = w.cards;
          pointing = w.pointing;
          has = subst (HasTables newest b base)
              (it.1 ∙ ap (λ (b : Bool). if b then raised start else start) lacks) it.2;
          joined = w.joined;
        }) (next h can));
  }
