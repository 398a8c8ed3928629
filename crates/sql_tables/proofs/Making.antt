-- What CREATE TABLE and CREATE INDEX make inside a transaction, over tables that have rows: the schema grows,
-- and the rows stay.
use Rattle.std.proofs.Common.{◌≡◌, ℕ, List, [], ◌∷◌, ◌++◌, None, Ok, false, sym, ap, subst, ◌∙◌}
use Rattle.sqlite.specs.Change.{created, indexed, next_tree}
use Rattle.sqlite.specs.Command.TheVariants.{CreateTable, CreateIndex}
use Rattle.sqlite.specs.Does.{Tally, Does, AtPlace, Defines, lacks_sequence, MakesIndex as DoesIndex}
use Rattle.sqlite.specs.Effect.{Database}
use Rattle.sqlite.specs.Schema.{Schema}
use Rattle.sqlite.specs.State.{State, Writes, ExecutesInside, mode_of}
use Rattle.sqlite.specs.Table.{Table}
use Rattle.sqlite_catalog.specs.Change.{KeepsRows}
use Rattle.sqlite_schema.specs.declared.schema.Index.{Index}
use Rattle.sqlite.proofs.Callers.{runs_as}
use Rattle.sql_tables.specs.States.{Claim, IsFree, StandsIn, Stands, Within}
use Rattle.sql_tables.specs.Texts.{MakesTable, MakesIndex}
use Rattle.sql_tables.proofs.Plain.{one_more, stays}
use Rattle.sql_tables.proofs.Steps.{went, same_value}

module _ (s : Schema) (claims : List Claim) (base : Database) (old new : State) (free : IsFree old)
    (kept : old.committed ≡ base) (has : old.now.schema ≡ s) (stood : StandsIn s.tables claims old.now.trees)
    (text : List ℕ) (count : ℕ) (ran : ExecutesInside 0 text [] old new (Ok count))
    (limit : new.step_limit ≡ old.step_limit) where
  grows : (t : Schema) (others : List Claim) → Stands t others new.now → Within t others base new
  grows t others stands = record {
    free = record { is_open = ran.1.is_open; unlimited = limit ∙ free.unlimited };
    inside = ran.1.mode;
    committed = ran.1.committed_is ∙ kept;
    stands = stands;
  }

  -- a table that is made is empty
  pub makes_table : (t : Table) → MakesTable s text t → (Q : Claim) → Q []
      → Within (created s t) (claims ++ Q ∷ []) base new
  makes_table t it Q none =
      let run = runs_as text [] old new s has CreateTable it.is it.plain count ran.0 in
      let w' = subst (λ x. Writes old new None CreateTable x [] count) it.whole run in
      let all = went w'.changed in
      let first = went all.1 in
      let made = first.1 in
      let both : Ok made.table ≡ Ok t = sym made.defined ∙ it.defines in
      let same : made.table ≡ t = cc in
      let schema : first.0.schema ≡ created s t = made.is ∙ ap (λ x. created x made.table) has
      ∙ ap (created s) same in
      let plain : lacks_sequence first.0.schema ≡ false = ap lacks_sequence schema ∙ it.uncounted in
      let now : new.now ≡ first.0 = ap (λ (p : Tally × Database). p.1) (same_value all.2)
      ∙ same_value (rw plain at first.2) in
      let others : KeepsRows s.tables old.now.trees first.0.trees =
      subst (λ (x : Schema). KeepsRows x.tables old.now.trees first.0.trees) has made.others in
      let last : first.0.trees (next_tree s) ≡ [] =
      subst (λ x. first.0.trees (next_tree x) ≡ []) has made.empty in
      grows (created s t) (claims ++ Q ∷ []) (record {
        schema = ap (λ (d : Database). d.schema) now ∙ schema;
        sound = w'.sound;
        rows = subst (λ (d : Database). StandsIn (created s t).tables (claims ++ Q ∷ []) d.trees) (sym now)
            (one_more s.tables claims (record t { tree = next_tree s }) Q first.0.trees
            (stays s.tables claims old.now.trees first.0.trees others stood) (subst Q (sym last) none));
      })

  -- an index changes no rows
  pub makes_index : (at : ℕ) (t : Table) (i : Index) → MakesIndex s text at t i
      → Within (indexed s t i) claims base new
  makes_index at t i it =
      let w' = subst (λ x. Writes old new None (CreateIndex at) x [] count) it.whole
      (runs_as text [] old new s has (CreateIndex at) it.is it.plain count ran.0) in
      let db : Database = record old.now { schema = s } in
      let does =
      subst (λ x. Does old.step_limit (mode_of old) [] (record old.now { schema = x }) text None
      (CreateIndex at) (Ok (w'.tally, new.now))) has w'.changed in
      let all =
      went (subst
      (λ o. AtPlace (λ table. Defines (mode_of old) (DoesIndex text db table)) o (Ok (w'.tally, new.now)))
      it.here does) in
      let made = all.1 in
      let both : Ok made.index ≡ Ok i = sym made.defined ∙ it.defines in
      let same : made.index ≡ i = cc in
      let now : new.now ≡ all.0 = ap (λ (p : Tally × Database). p.1) (same_value all.2) in
      grows (indexed s t i) claims (record {
        schema = ap (λ (d : Database). d.schema) now ∙ made.is ∙ ap (indexed s t) same;
        sound = w'.sound;
        rows = subst (λ (d : Database). StandsIn s.tables claims d.trees) (sym now)
            (stays s.tables claims old.now.trees all.0.trees made.rows stood);
      })
