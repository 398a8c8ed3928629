-- What a call tells of a vault, from what it tells of the tables.
use Rattle.std.proofs.Common.{◌≡◌, ℕ, List, Ok, Err, Result, IfOk, OnOk, sym, IsTrue, true}
use Rattle.std.proofs.Common.{false, true≢false}
use Rattle.std.proofs.Common.{ℤ, arith, Option, IsErr}
use Rattle.sqlite.specs.Order.{Row}
use Rattle.sqlite.specs.State.{State, HasCleanDisk, Shown}
use Rattle.sqlite.specs.Tree.{Trees}
use Rattle.sqlite.specs.Listing.{understood}
use Rattle.sqlite.specs.Query.{Query}
use Rattle.sqlite.specs.Schema.{Schema}
use Rattle.sqlite.proofs.Callers.{IsPlain}
use Rattle.sql_tables.specs.Texts.{IsQuery}
use Rattle.sql_tables.specs.States.{Reads}
use Rattle.sql_tables.specs.States as maps
use Rattle.sql_tables.proofs.Calls as calls
use Rattle.vault_core.specs.Keys.{Bytes}
use Rattle.vault_core.specs.Vault.{Vault}
use Rattle.std.specs.FinMap as map
use Rattle.vault_schema.specs.Versions.{Tables}
use Rattle.vault_schema.specs.Stands.{newest_claims}
use Rattle.vault_schema.specs.Joined.{AreJoined, nothing_owed}
use Rattle.vault_schema.specs.declared.rows.Card.{Card}
use Rattle.vault_schema.specs.declared.rows.Pointing.{Pointing}
use Rattle.vault_sql.specs.Calls.{Tells}
use Rattle.vault_tables.specs.Calls.{TellsTables}
use Rattle.vault_schema.specs.Holds.{Holds, LeavesEither}
use Rattle.vault_schema.specs.Left.{left_after}
use Rattle.vault_schema.specs.Schema.{newest_schema}
use Rattle.vault_schema.specs.Stands.{lookups_of}
use Rattle.vault_schema.specs.Versions.{tables_of}
use Rattle.vault_tables.proofs.Held.{as_held, as_vault, held_tables}
use Rattle.vault_tables.proofs.Told.{reads_as}

on_err : {R E : Type 0} (r : Result R E) (A : Type 0) → IsErr r → OnOk r A
on_err (Err e) A failed = tt
on_err (Ok x) A failed = absurd (true≢false (sym failed))

if_err : {R E : Type 0} (r : Result R E) (P : R → Type 0) → IsErr r → IfOk r P
if_err (Err e) P failed = tt
if_err (Ok x) P failed = absurd (true≢false (sym failed))

-- and so what they show of a vault
pub tells_of : {R E : Type 0} {result : Result R E} {old new : State} {Is : Tables → R → Type 0}
    {Of : Vault → R → Type 0} → TellsTables result Is old new
    → ((V : Vault) (cards : ℤ → Option Card) (pointing : Bytes × Bytes → Option Pointing) (x : R)
    → AreJoined nothing_owed cards pointing (map.get V.entries)
    → Is (tables_of (lookups_of V) cards pointing) x → Of V x) → Tells result Of old new
tells_of {result = result} {old = old} {Is = Is} it of = record {
  reads = it.reads;
  told = λ clean. calls.if_ok result (λ x. (t : Tables) → maps.Stands newest_schema (newest_claims t) old.now
      → Is t x) _
      (it.told clean) (λ x so V h.
      of V h.stands.cards h.stands.pointing x h.stands.joined
      (so (held_tables old V h) (as_held old V h).stands));
}

-- what its rows show of a vault is told
pub tells : {R E : Type 0} {result : Result R E} {old new : State} {sql : List ℕ} {body : Query}
    {Is : Vault → R → Type 0} → IsQuery newest_schema sql body
    → ((s : Schema) → IsPlain (understood s sql) → Reads s result old new)
    → (items : R → List Row) (params : Row)
    → (HasCleanDisk new → IfOk result (λ rows. Shown sql params old new (items rows)))
    → ((V : Vault) (cards : ℤ → Option Card) (pointing : Bytes × Bytes → Option Pointing) (rows : R)
    → AreJoined nothing_owed cards pointing (map.get V.entries)
    → maps.Stands newest_schema (newest_claims (tables_of (lookups_of V) cards pointing)) old.now
    → Shown sql params old new (items rows) → Is V rows) → Tells result Is old new
tells {result = result} {old = old} {new = new} {sql = sql} means reads items params told lemma = record {
  reads = reads newest_schema means.plain;
  told = λ clean. calls.if_ok result (λ rows. Shown sql params old new (items rows)) _ (told clean)
      (λ rows shown V h.
      lemma V h.stands.cards h.stands.pointing rows h.stands.joined (as_held old V h).stands shown);
}

-- a call that reads leaves each vault as it was, where the connection holds one
pub still_held : {R E : Type 0} {x : R} {old new : State} {P : Type 0}
    → Reads newest_schema (let it : Result R E = Ok x in it) old new → (V : Vault)
    → P × (HasCleanDisk old → Holds old V) → P × (HasCleanDisk new → Holds new V)
still_held {old = old} {new = new} reads V h = (
  h.0,
  λ clean.
      let held = h.1 (omega (arith, reads.clean, clean)) in
      as_vault new V held.stands.cards held.stands.pointing held.stands.joined
      (calls.holds_on newest_schema (newest_claims (held_tables old V held)) old new
      (reads.kept clean held.schema)
      reads.limit (as_held old V held)),
)

-- where a later query fails, all that was done is that some was read
pub fails_then : {R E R' E' R'' E'' : Type 0} {x : R} {second : Result R' E'} {third : Result R'' E''}
    {a b c : State} {Is : Vault → R'' → Type 0}
    → Reads newest_schema (let it : Result R E = Ok x in it) a b → Reads newest_schema second b c
    → IsErr third
    → Tells third Is a c
fails_then {third = third} one two failed =
    let both = calls.reads_then one one.kept two in record {
      reads = record {
        clean = both.clean;
        mode = both.mode;
        limit = both.limit;
        left = both.left;
        kept = λ clean known. on_err third _ failed;
      };
      told = λ clean. if_err third _ failed;
    }

-- what a crash leaves of a connection that only read
pub left_by : {R E P : Type 0} {result : Result R E} {old new : State} → Reads newest_schema result old new
    → ((db : Trees) → IsTrue old.is_open → old.may_leave db → db ≡ old.committed.trees) → HasCleanDisk new
    → (V : Vault) → P × (HasCleanDisk old → Holds old V) → LeavesEither new V V
left_by {old = old} {new = new} reads alone clean V h =
    let held = h.1 (omega (arith, reads.clean, clean)) in
    left_after old new V held (λ db. alone db held.is_open) (reads.left clean held.schema)

-- what the answer of a query tells
pub answers : {R E R' E' : Type 0} {x : R} {y : R'} {old new : State} {Is : Vault → R → Type 0}
    {Is' : Vault → R' → Type 0} → Tells (let it : Result R E = Ok x in it) Is old new
    → ((V : Vault) → Is V x → Is' V y) → Tells (let it : Result R' E' = Ok y in it) Is' old new
answers tells so = record { reads = reads_as tells.reads; told = λ clean V h. so V (tells.told clean V h) }
