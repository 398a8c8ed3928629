-- What a query shows of the tables, from what the functions that run a text say.
use Rattle.std.proofs.Common.{◌≡◌, ℕ, List, Ok, Result, IfOk, sym, ◌∷◌, ◌++◌, [], suc, ℤ, arith, Option}
use Rattle.std.proofs.Common.{Ordering, subst}
use Rattle.sqlite.proofs.Callers.{IsPlain}
use Rattle.sqlite.specs.Listing.{understood}
use Rattle.sqlite.specs.Order.{Row}
use Rattle.sqlite.specs.Query.{Query}
use Rattle.sqlite.specs.Schema.{Schema}
use Rattle.sqlite.specs.State.{State, HasCleanDisk, Shown}
use Rattle.sqlite.specs.Term.{Term}
use Rattle.sqlite.specs.declared.types.Value.TheVariants.{Int}
use Rattle.sql_tables.proofs.Answers.{shown_as}
use Rattle.sql_tables.proofs.Calls as calls
use Rattle.sql_tables.proofs.Reading.{look_up}
use Rattle.sql_tables.specs.Codes.{row_of}
use Rattle.sql_tables.specs.Maps.{Keyed, claim_at}
use Rattle.sql_tables.specs.Rows.{AreRowsOf, one_of}
use Rattle.sql_tables.specs.States.{Reads}
use Rattle.sql_tables.specs.States as maps
use Rattle.sql_tables.specs.Texts.{IsQuery, by_key, query_of}
use Rattle.vault_schema.specs.Schema.{newest_schema}
use Rattle.vault_schema.specs.Stands.{newest_claims}
use Rattle.vault_schema.specs.Versions.{Tables}
use Rattle.vault_tables.specs.Calls.{TellsTables}

-- what its rows show of the tables is told
pub tells_tables : {R E : Type 0} {result : Result R E} {old new : State} {sql : List ℕ} {body : Query}
    {Is : Tables → R → Type 0} → IsQuery newest_schema sql body
    → ((s : Schema) → IsPlain (understood s sql) → Reads s result old new)
    → (items : R → List Row) (params : Row)
    → (HasCleanDisk new → IfOk result (λ rows. Shown sql params old new (items rows)))
    → ((t : Tables) (rows : R) → maps.Stands newest_schema (newest_claims t) old.now
    → Shown sql params old new (items rows) → Is t rows) → TellsTables result Is old new
tells_tables {result = result} {old = old} {new = new} {sql = sql} means reads items params told
    lemma = record {
      reads = reads newest_schema means.plain;
      told = λ clean. calls.if_ok result (λ rows. Shown sql params old new (items rows)) _ (told clean)
          (λ rows shown t it. lemma t rows it shown);
    }

-- a look-up by key tells what is at the key
pub looks_up : {R E K X : Type 0} {result : Result R E} {old new : State} {sql : List ℕ} {project : List Term}
    {cmp : K → K → Ordering} {key : K → Row} {value : X → Row} (t : Keyed newest_schema cmp key value)
    (held : Tables → K → Option X)
    (said : (h : Tables) (rows : List Row) → claim_at (newest_claims h) t.place rows
    → AreRowsOf (row_of key value) rows (held h))
    → IsQuery newest_schema sql (query_of t.table.tree (by_key (suc t.more)) project)
    → ((s : Schema) → IsPlain (understood s sql) → Reads s result old new)
    → (items : R → List Row) (params : Row)
    → (HasCleanDisk new → IfOk result (λ rows. Shown sql params old new (items rows)))
    → (k : K) → params ≡ key k ++ [] → (show : X → Row)
    → ((m : ℤ) (x : X) → shown_as params project (Int m ∷ row_of key value k x) ≡ show x)
    → TellsTables result (λ h rows. items rows ≡ one_of show (held h k)) old new
looks_up {old = old} {new = new} t held said means reads items params told k given show shows =
    tells_tables means reads items params told (λ h rows it shown.
    look_up old new it _ params (items rows) shown t (held h) (said h _) _ means k given show shows)

-- what was read is answered in other words
pub reads_as : {R E R' E' : Type 0} {x : R} {y : R'} {old new : State}
    → Reads newest_schema (let it : Result R E = Ok x in it) old new
    → Reads newest_schema (let it : Result R' E' = Ok y in it) old new
reads_as it = assumption it

-- two queries of the tables, one after the other
pub tables_then : {R E R' E' : Type 0} {x : R} {second : Result R' E'} {a b c : State}
    {Is : Tables → R → Type 0} {Is' So : Tables → R' → Type 0}
    → TellsTables (let it : Result R E = Ok x in it) Is a b → TellsTables second Is' b c
    → ((t : Tables) (y : R') → Is t x → Is' t y → So t y) → TellsTables second So a c
tables_then {second = second} {b = b} one two so = record {
  reads = calls.reads_then one.reads one.reads.kept two.reads;
  told = λ clean. calls.if_ok second _ _ (two.told clean) (λ y did t st.
      let before : HasCleanDisk b = omega (arith, two.reads.clean, clean) in
      let still = one.reads.kept before st.schema in
      so t y (one.told before t st)
      (did t (subst (maps.Stands newest_schema (newest_claims t)) (sym still.0.now_is) st)));
}

-- what the answer of a query tells of the tables
pub tables_so : {R E R' E' : Type 0} {x : R} {y : R'} {old new : State} {Is : Tables → R → Type 0}
    {So : Tables → R' → Type 0} → TellsTables (let it : Result R E = Ok x in it) Is old new
    → ((t : Tables) → Is t x → So t y) → TellsTables (let it : Result R' E' = Ok y in it) So old new
tables_so tells so =
    record { reads = reads_as tells.reads; told = λ clean t st. so t (tells.told clean t st) }
