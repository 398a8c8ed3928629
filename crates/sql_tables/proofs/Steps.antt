-- What an INSERT, an upsert, an UPDATE and a DELETE of one table come to, whatever its columns.
use Rattle.std.proofs.Common.{◌≡◌, ◌≢◌, ◌⊎◌, inl, inr, ℕ, ℤ, List, [], ◌∷◌, ◌++◌, drop, length, ◌/◌, map}
use Rattle.std.proofs.Common.{true, slice_get, Option, Some, None, option_map, Ok, Err, Result, refl, sym, ap}
use Rattle.std.proofs.Common.{subst, ◌∙◌, append-nil, unwrap_or, Bool, false, MatchBool}
use Rattle.std.specs.List.{AllByRecursion}
use Rattle.std.specs.Option.{option_or}
use Rattle.std.proofs.lemmas.List.{length-map}
use Rattle.sqlite.specs.Cast.{cast_row}
use Rattle.sqlite.specs.Command.TheVariants.{Insert, InsertOr, Update, Delete}
use Rattle.sqlite.specs.Does.{Tally, OnRows, OnTable, WritesRows, AtPlace}
use Rattle.sqlite.specs.Edit.{edit_of, put_all, without_all, with_rowid, are_fresh, have_rowids, id_in}
use Rattle.sqlite.specs.Edit.{numbered}
use Rattle.sqlite.specs.Effect.{Database, IsDatabase, IsSource, edit_error, value_rows}
use Rattle.sqlite.specs.Listing.{understood}
use Rattle.sqlite.specs.Order.{Row, column}
use Rattle.sqlite.specs.Program.{overlay}
use Rattle.sqlite.specs.Query.{Query, IsAnswer}
use Rattle.sqlite.specs.Rowids.TheVariants.{Chosen, Given}
use Rattle.sqlite.specs.Rows.{Written, Task, Tries, TriesEach, Upserts, Clears, Puts, nothing, count_of}
use Rattle.sqlite.specs.Rows.{Gives, Refuses, joined, last_id, mended, passes_over, shown}
use Rattle.sqlite.specs.Schema.{Schema}
use Rattle.sqlite.specs.Source.TheVariants.{Values}
use Rattle.sqlite.specs.State.{State, Runs, mode_of, Executes}
use Rattle.sqlite.specs.Table.{Table}
use Rattle.sqlite.specs.Term.{Term}
use Rattle.sqlite.specs.Tree.{Trees, rowid}
use Rattle.sqlite.specs.declared.types.Value.TheVariants.{Null}
use Rattle.sqlite_rules.proofs.ListLemmas.{all_from}
use Rattle.sqlite_rules.proofs.PlaceLemmas.{given}
use Rattle.sqlite_rules.specs.Action.{Writes}
use Rattle.sqlite_rules.specs.Calls.{ids_of}
use Rattle.sqlite_rules.specs.Keys.{conflicts}
use Rattle.sqlite_rules.specs.Lists.{Has}
use Rattle.sqlite_rules.specs.declared.error.Rowids.{Rowids}
use Rattle.sqlite_schema.specs.declared.command.Command.{Command}
use Rattle.sqlite_schema.specs.declared.command.Conflict.{Conflict}
use Rattle.sqlite_schema.specs.declared.command.Conflict.TheVariants.{Abort, Ignore}
use Rattle.sqlite_schema.specs.declared.command.Source.{Source}
use Rattle.sqlite_schema.specs.declared.command.Upsert.{Upsert}
use Rattle.sqlite_schema.specs.declared.schema.Keys.{Keys}
use Rattle.sqlite.proofs.Callers.{runs_as, statement_of, one_step}
use Rattle.sql_tables.specs.Schema.{Descriptor, table_of, is_plain}
use Rattle.sql_tables.specs.Texts.{IsWrite}
use Rattle.sql_tables.proofs.Plain.{no_works}

pub went : {B E R : Type 0} {b : B} {Stops : E → Type 0} → ((stop : E) × Stops stop × (Ok b ≡ Err stop)) ⊎ R
    → R
went (inl stopped) = absurd (let e = stopped.2 in cc)
went (inr on) = on

pub same_value : {B E : Type 0} {a b : B} → ◌≡◌ {A = Result B E} (Ok a) (Ok b) → a ≡ b
same_value e = cc

-- One table of a schema has lost the rows with these rowids and then got these rows, and the others are as
-- they were.
pub record Wrote (s : Schema) (tree : ℕ) (ids : List ℤ) (news : List Row) (old : Trees)
    (new : Database) : Type 0
  where
    pub schema : new.schema ≡ s
    pub keyed : have_rowids news ≡ true
    pub fresh : are_fresh (without_all (old tree) ids) news ≡ true
    pub is : new.trees tree ≡ put_all (without_all (old tree) ids) news
    pub beside : AllByRecursion (λ t. t.tree ≢ tree → new.trees t.tree ≡ old t.tree) s.tables

-- what becomes of a new row that met one: an update of what its query shows, or nothing
abbrev pub Resolves : Option Query → Row → List Row → Trees → Type 0
Resolves None params rows db = rows ≡ []
Resolves (Some body) params rows db = IsAnswer body (overlay db []) params rows

-- the row is new, or it met one
abbrev pub Tried : Schema → Descriptor → Option (List ℕ) → Option Query → Row → Row → Trees → Database
    → Type 0
Tried s d target update params new old now =
    (Wrote s d.tree [] (cast_row (table_of d) new ∷ []) old now
    × ((r : Row) → Has (old d.tree) r → conflicts target s.indexes (table_of d) new r ≡ true → ⊥))
    ⊎ ((there : Row) × Has (old d.tree) there × (conflicts target s.indexes (table_of d) new there ≡ true)
    × (rows : List Row) × Resolves update (params ++ rowid there ∷ shown (table_of d) new) rows old
    × Wrote s d.tree (ids_of rows) (map (λ r. cast_row (table_of d) (drop 1 r)) rows) old now)

-- the row is new, and its rowid the last, or nothing was written
abbrev pub Came : Schema → Descriptor → Row → Trees → State → ℕ → Type 0
Came s d new old now count =
    (Wrote s d.tree [] (cast_row (table_of d) new ∷ []) old now.now × (count ≡ 1)
    × (now.last_rowid ≡ id_in (rowid (cast_row (table_of d) new))))
    ⊎ (Wrote s d.tree [] [] old now.now × (count ≡ 0))

-- ON CONFLICT, with an update or without
abbrev pub clause_of : Option (List ℕ) → Option Query → Upsert
clause_of target update =
    record { target = target; update = option_map (λ body. record { lets = []; body = body }) update }

module _ (s : Schema) (plain : is_plain s ≡ true) (d : Descriptor) where
  abbrev pub under : Trees → Database
  under db = record { schema = s; trees = db }

  -- no foreign key acts, so an edit is its one step
  edited : (keys : Keys) (db next : Trees) (new : Database) (ids : List ℤ) (rowids : Rowids) (from : ℕ)
      (rows : List Row)
      → new ≡ under next → Writes s keys db (edit_of db (table_of d) ids rowids from rows) (Ok next)
      → Wrote s d.tree ids (edit_of db (table_of d) ids rowids from rows).news db new
  edited keys db next new ids rowids from rows is wrote =
      let edit = edit_of db (table_of d) ids rowids from rows in
      let a = one_step s keys db next edit (no_works s plain keys 0 d.tree _ _) wrote in
      subst (Wrote s d.tree ids edit.news db) (sym is)
      (record { schema = refl; keyed = a.keyed; fresh = a.fresh; is = a.rows; beside = a.tables })

  module _ (text : List ℕ) (params : Row) (old new : State) (count : ℕ) (at : ℕ)
      (here : slice_get s.tables at ≡ Some (table_of d)) (has : old.now.schema ≡ s)
      (ran : Executes text params old new (Ok count)) where
    abbrev db : Trees
    db = old.now.trees

    abbrev task_of : Table → Task
    task_of t =
        record { limit = old.step_limit; keys = (mode_of old).keys; schema = s; table = t; params = params }

    abbrev task : Task
    task = task_of (table_of d)

    abbrev IsOnRows : Command → Tally → Database → Type 0
    IsOnRows command tally it = OnTable old.step_limit (mode_of old) params it at
        (λ task. OnRows task (mode_of old) None command it.trees) (Ok (tally, new.now))

    concluded : (command : Command) → IsWrite s text command
        → (Runs old new None command (statement_of text (understood s text)) params count
        → (tally : Tally) × IsOnRows command tally old.now × IsDatabase new.now
        × (count ≡ unwrap_or tally.rows 0) × (new.last_rowid ≡ unwrap_or tally.last old.last_rowid))
        → (w : Written) × WritesRows task db command (Ok w) × (new.now ≡ under w.trees) × IsDatabase new.now
        × (count ≡ length w.rows) × (new.last_rowid ≡ unwrap_or w.last old.last_rowid)
    concluded command it on =
        let w = on (runs_as text params old new s has command it.is it.plain count ran) in
        let done =
        went (subst
        (λ o. AtPlace (λ t. OnRows (task_of t) (mode_of old) None command db) o (Ok (w.0, new.now))) here
        (subst (λ x. IsOnRows command w.0 (record old.now { schema = x })) has w.1)) in
        let told = same_value (went (went done.2).2).2 in (
          done.0,
          done.1,
          ap (λ (p : Tally × Database). p.1) told,
          w.2,
          w.3 ∙ ap (λ (p : Tally × Database). unwrap_or p.0.rows 0) told,
          w.4 ∙ ap (λ (p : Tally × Database). unwrap_or p.0.last old.last_rowid) told,
        )

    abbrev trees_of : Written → Database
    trees_of w = under w.trees

    -- the rows of a source as they are inserted, with their rowids
    abbrev inserted : List Row → List Row
    inserted rows = numbered Chosen (db d.tree) (map (cast_row (table_of d)) rows)

    -- an insert: the last rowid is now that of the last new row, if there is one
    pub insert_wrote : (from : Source) → IsWrite s text (Insert at from)
        → (rows : List Row) × IsSource (under db) params from rows
        × Wrote s d.tree [] (inserted rows) db new.now × IsDatabase new.now
        × (new.last_rowid ≡ unwrap_or (last_id (inserted rows)) old.last_rowid)
    insert_wrote from it =
        let done = concluded (Insert at from) it
        (λ w. (w.tally, w.changed, w.sound, w.counted, w.last_rowid)) in
        let rows = went done.1 in
        let edit = went (went rows.2).2 in
        let end = went edit.2 in (
          rows.0,
          subst (λ p. IsSource (under db) p from rows.0) (append-nil params) rows.1,
          edited (mode_of old).keys db edit.0 new.now [] Chosen 0 rows.0
              (done.2 ∙ ap trees_of (same_value end.2) ∙ ap under (same_value end.1)) edit.1,
          done.3,
          done.5 ∙ ap (λ (w : Written). unwrap_or w.last old.last_rowid) (same_value end.2),
        )

    -- a delete of the rows that pass
    pub delete_wrote : (body : Query) → IsWrite s text (Delete at (record { lets = []; body = body }))
        → (rows : List Row) × IsAnswer body (overlay db []) params rows
        × Wrote s d.tree (ids_of rows) [] db new.now × IsDatabase new.now
    delete_wrote body it =
        let done = concluded (Delete at (record { lets = []; body = body })) it
        (λ w. (w.tally, w.changed, w.sound, w.counted, w.last_rowid)) in
        let rows = went done.1 in
        let edit = went rows.2 in (
          rows.0,
          rows.1.answer Null,
          edited (mode_of old).keys db edit.0 new.now (ids_of rows.0) Given 0 []
              (done.2 ∙ ap trees_of (same_value edit.2)) edit.1,
          done.3,
        )

    -- an update of the rows that pass, whose rowids it shows first: it changed as many as passed
    pub update_wrote : (body : Query) → IsWrite s text (Update at (record { lets = []; body = body }))
        → (rows : List Row) × IsAnswer body (overlay db []) params rows
        × Wrote s d.tree (ids_of rows) (map (λ r. cast_row (table_of d) (drop 1 r)) rows) db new.now
        × IsDatabase new.now × (count ≡ length rows)
    update_wrote body it =
        let done = concluded (Update at (record { lets = []; body = body })) it
        (λ w. (w.tally, w.changed, w.sound, w.counted, w.last_rowid)) in
        let rows = went done.1 in
        let edit = went rows.2 in
        let news = map (λ r. cast_row (table_of d) (drop 1 r)) rows.0 in
        let are = given (without_all (db d.tree) (ids_of rows.0)) news in (
          rows.0,
          rows.1.answer Null,
          subst (λ news. Wrote s d.tree (ids_of rows.0) news db new.now) are
              (edited (mode_of old).keys db edit.0 new.now (ids_of rows.0) Given 1 rows.0
              (done.2 ∙ ap trees_of (same_value edit.2)) edit.1),
          done.3,
          done.4 ∙ ap (λ (w : Written). length w.rows) (same_value edit.2) ∙ ap length are
              ∙ length-map rows.0 (λ r. cast_row (table_of d) (drop 1 r)),
        )

    puts : (row : Row) (one : Written) → Puts task row db (Ok one)
        → Wrote s d.tree [] (cast_row (table_of d) row ∷ []) db (trees_of one)
    puts row one h = let p = went h in
        edited (mode_of old).keys db p.0 (trees_of one) [] Given 0 (row ∷ []) (ap trees_of (same_value p.2))
        p.1

    clears : (row : Row) (one : Written) (found : List Row) → Clears task Abort row db found (Ok one)
        → Puts task row db (Ok one)
    clears row one [] h = h
    clears row one (x ∷ more) h = h

    nothing_wrote : (one : Written) → one ≡ nothing db → Wrote s d.tree [] [] db (trees_of one)
    nothing_wrote one is = record {
      schema = refl;
      keyed = refl;
      fresh = refl;
      is = ap (λ (w : Written). w.trees d.tree) is;
      beside = all_from _ s.tables (λ t h far. ap (λ (w : Written). w.trees t.tree) is);
    }

    met : (target : Option (List ℕ)) (update : Option Query) (row : Row) (one : Written)
        → Upserts task Abort row db (clause_of target update ∷ []) (Ok one)
        → Tried s d target update params row db (trees_of one)
    met target update row one ([], are, rest) = inl
        (puts row one (clears row one rest.0 rest.2), are.complete)
    met target None row one (x ∷ more, are, rest) =
        let from = are.sound x (inl refl) in
        inr (from.0, from.1, from.2, [], refl, nothing_wrote one (same_value rest))
    met target (Some body) row one (x ∷ more, are, rest) =
        let from = are.sound x (inl refl) in
        let u = went rest in
        let e = went u.2 in
        inr (
          from.0,
          from.1,
          from.2,
          u.0,
          subst (λ y. IsAnswer body (overlay db []) (params ++ column y 0 ∷ shown (table_of d) row) u.0)
              from.3 (u.1.answer Null),
          subst (λ news. Wrote s d.tree (ids_of u.0) news db (trees_of one))
              (given (without_all (db d.tree) (ids_of u.0)) (map (λ r. cast_row (table_of d) (drop 1 r)) u.0))
              (edited (mode_of old).keys db e.0 (trees_of one) (ids_of u.0) Given 1 u.0
              (ap trees_of (same_value e.2)) e.1),
        )

    tried : (target : Option (List ℕ)) (update : Option Query) (row : Row) (one : Written)
        → Tries task Abort (clause_of target update ∷ []) row db (Ok one)
        → Tried s d target update params row db (trees_of one)
    tried target update row one (inl refused) = absurd (let e = refused.1 in cc)
    tried target update row one (inr (None, judged, h)) = met target update row one h
    tried target update row one (inr (Some why, judged, h)) = absurd (let e : Ok one ≡ Err _ = h in cc)

    -- one row that was tried, and what came of it
    tried_one : (way : Conflict) (clauses : List Upsert) (terms : List Term) (width : ℕ) (source : Row)
        → IsWrite s text (InsertOr at way (Values terms width) clauses)
        → value_rows params width (length terms / width) terms ≡ source ∷ []
        → (one : Written)
        × Tries task way clauses
        (with_rowid Chosen (db d.tree) (cast_row (table_of d) (mended way (table_of d) source))) db (Ok one)
        × (new.now ≡ trees_of one) × IsDatabase new.now × (count ≡ length one.rows)
        × (new.last_rowid ≡ unwrap_or (option_or one.last None) old.last_rowid)
    tried_one way clauses terms width source it one =
        let done = concluded (InsertOr at way (Values terms width) clauses) it
        (λ w. (w.tally, w.changed, w.sound, w.counted, w.last_rowid)) in
        let rows = went done.1 in
        let counter = went rows.2 in
        let tries = went counter.2 in
        let last = went tries.2 in
        let all : rows.0 ≡ source ∷ [] = rows.1.1 ∙ ap (λ p. value_rows p width (length terms / width) terms)
        (append-nil params) ∙ one in
        let each =
        went (subst
        (λ rs. TriesEach task way clauses rs (count_of counter.0) (nothing db) (Ok tries.0)) all tries.1) in
        let is : done.0 ≡ joined (nothing db) each.0 =
        same_value last.2 ∙ ap (λ t. record tries.0.0 { trees = t }) (same_value last.1)
        ∙ ap (λ (p : Written × ℤ). p.0) (same_value each.2) in (
          each.0,
          each.1,
          done.2 ∙ ap trees_of is,
          done.3,
          done.4 ∙ ap (λ (w : Written). length w.rows) is,
          done.5 ∙ ap (λ (w : Written). unwrap_or w.last old.last_rowid) is,
        )

    -- INSERT .. ON CONFLICT of one row
    pub upsert_wrote : (target : Option (List ℕ)) (update : Option Query) (terms : List Term) (width : ℕ)
        (source : Row)
        → IsWrite s text (InsertOr at Abort (Values terms width) (clause_of target update ∷ []))
        → value_rows params width (length terms / width) terms ≡ source ∷ []
        → Tried s d target update params (with_rowid Chosen (db d.tree) (cast_row (table_of d) source)) db
        new.now × IsDatabase new.now
    upsert_wrote target update terms width source it one =
        let row = with_rowid Chosen (db d.tree) (cast_row (table_of d) source) in
        let did = tried_one Abort (clause_of target update ∷ []) terms width source it one in
        let now = tried target update row did.0 did.1 in
        (subst (Tried s d target update params row db) (sym did.2) now, did.3)

    -- a row that came, or was passed over
    let_in : (row : Row) (one : Written) → Upserts task Ignore row db [] (Ok one)
        → (Puts task row db (Ok one)) ⊎ (one ≡ nothing db)
    let_in row one ([], are, put) = inl put
    let_in row one (x ∷ more, are, passed) = inr (same_value passed)

    came : (row : Row) (one : Written) → Tries task Ignore [] row db (Ok one)
        → (Puts task row db (Ok one)) ⊎ (one ≡ nothing db)
    came row one (inl refused) = absurd (let e = refused.1 in cc)
    came row one (inr (None, judged, h)) = let_in row one h
    came row one (inr (Some why, judged, h)) = passed (passes_over Ignore why) h
      where
        passed : (b : Bool)
            → MatchBool b (Gives (nothing db) (Ok one)) (Refuses {A = Written} (edit_error why) (Ok one))
            → (Puts task row db (Ok one)) ⊎ (one ≡ nothing db)
        passed true h = inr (same_value h)
        passed false h = absurd (let e : Ok one ≡ Err _ = h in cc)

    -- INSERT OR IGNORE of one row
    pub ignore_wrote : (terms : List Term) (width : ℕ) (source : Row)
        → IsWrite s text (InsertOr at Ignore (Values terms width) [])
        → value_rows params width (length terms / width) terms ≡ source ∷ []
        → Came s d (with_rowid Chosen (db d.tree) (cast_row (table_of d) source)) db new count
        × IsDatabase new.now
    ignore_wrote terms width source it one =
        let row = with_rowid Chosen (db d.tree) (cast_row (table_of d) source) in
        let did = tried_one Ignore [] terms width source it one in
        elim (came row did.0 did.1) as (λ _. Came s d row db new count × IsDatabase new.now) [
          | inl put ↦
              let is = same_value (went put).2 in (
                inl (
                  subst (Wrote s d.tree [] (cast_row (table_of d) row ∷ []) db) (sym did.2)
                      (puts row did.0 put),
                  did.4 ∙ ap (λ (w : Written). length w.rows) is,
                  did.5 ∙ ap (λ (w : Written). unwrap_or (option_or w.last None) old.last_rowid) is,
                ),
                did.3,
              )
          | inr none ↦ (
            inr (
              subst (Wrote s d.tree [] [] db) (sym did.2) (nothing_wrote did.0 none),
              did.4 ∙ ap (λ (w : Written). length w.rows) none,
            ),
            did.3,
          )
        ]
