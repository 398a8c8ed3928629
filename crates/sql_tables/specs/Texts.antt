-- What a text means in a schema: the shapes of command that are used.
use Rattle.std.specs.Prelude.{◌≡◌, ℕ, pos, negsuc, suc, false, List, [], ◌∷◌, map, Some, None, Ok, slice_get}
use Rattle.sqlite.specs.Change.{created}
use Rattle.sqlite.specs.Collation.TheVariants.{Binary}
use Rattle.sqlite_value.specs.declared.keys.Collation.{Collation}
use Rattle.sqlite_value.specs.declared.keys.Key.{Key}
use Rattle.sqlite.specs.Command.TheVariants.{Select, Insert, InsertOr, Update, Delete, CreateTable}
use Rattle.sqlite.specs.Command.TheVariants.{CreateIndex}
use Rattle.sqlite.specs.Compile.{table_defined_by, index_defined_by}
use Rattle.sqlite.specs.Does.{lacks_sequence}
use Rattle.sqlite.specs.Listing.{understood, reads_listing}
use Rattle.sqlite.specs.Query.{Query, inner, end}
use Rattle.sqlite.specs.Schema.{Schema}
use Rattle.sqlite.specs.Source.{Source}
use Rattle.sqlite.specs.Source.TheVariants.{Values, Query as FromQuery}
use Rattle.sqlite.specs.Table.{Table}
use Rattle.sqlite.specs.Term.{Term, lit, col, op2}
use Rattle.sqlite.specs.declared.types.Value.TheVariants.{Null, Int}
use Rattle.sqlite_schema.specs.declared.command.Command.{Command}
use Rattle.sqlite_schema.specs.declared.command.Conflict.TheVariants.{Abort, Ignore}
use Rattle.sqlite_schema.specs.declared.schema.Index.{Index}
use Rattle.sqlite_sql.specs.declared.aggregate.AggregateOp.TheVariants.{CountRows}
use Rattle.sqlite_sql.specs.declared.ops.BinaryOp.TheVariants.{Compare}
use Rattle.sqlite_sql.specs.declared.ops.CompareOp.TheVariants.{Eq}
use Rattle.sqlite.proofs.Callers.{IsPlain, command_of, statement_of}
use Rattle.sql_tables.specs.Schema.{below, columns_to}

-- a query of one table
abbrev pub sorted_of : ℕ → List Term → List Term → List Collation → List (Term × Key) → Query
sorted_of tree tests project collations order = record {
  from = inner tree end;
  filter = tests;
  group = None;
  project = project;
  distinct = false;
  collations = collations;
  order = order;
  limit = lit (Int (negsuc 0));
  offset = lit (Int (pos 0));
}

-- in no order of its own
abbrev pub query_of : ℕ → List Term → List Term → Query
query_of tree tests project = sorted_of tree tests project [] []

-- by these columns, as ORDER BY says
abbrev pub ordered_by : List ℕ → List (Term × Key)
ordered_by columns = map (λ c. (col 1 c, record { collation = Binary; descending = false })) columns

-- one column of the rows, in its order, of the first of them: as many as a parameter says
abbrev pub first_of : ℕ → List Term → ℕ → ℕ → Query
first_of tree tests column many =
    record (sorted_of tree tests (col 1 column ∷ []) [] (ordered_by (column ∷ []))) { limit = col 0 many }

-- how many rows a table has
abbrev pub counting_of : ℕ → Query
counting_of tree = record (query_of tree [] (col 1 0 ∷ [])) {
  group = Some
      (record {
        keys = [];
        collations = [];
        aggregates =
            record { op = CountRows; distinct = false; collation = Binary; argument = lit Null } ∷ [];
        having =
            [];
      });
}

-- two terms are equal, byte by byte
abbrev pub eq : Term → Term → Term
eq = op2 (Compare Eq Binary)

-- the first n columns are the first n parameters
abbrev pub by_key : ℕ → List Term
by_key n = map (λ i. eq (col 1 (suc i)) (col 0 i)) (below n)

-- the rowid is a parameter
abbrev pub by_id : ℕ → List Term
by_id place = eq (col 1 0) (col 0 place) ∷ []

-- the rowid is this parameter, and the first n columns are the first n parameters
abbrev pub by_both : ℕ → ℕ → List Term
by_both place n = eq (col 1 0) (col 0 place) ∷ by_key n

-- an insert of one row, which fails where its key is there
abbrev pub insert : ℕ → ℕ → List Term → Command
insert place width terms = Insert place (Values terms width)

-- an insert of what a query of the whole of another table shows
abbrev pub insert_from : ℕ → ℕ → List Term → Command
insert_from place tree project =
    Insert place
    (FromQuery (record { lets = []; body = sorted_of tree [] project (map (λ _. Binary) project) [] }))

-- the update of the row that a new one met, whose rowid stands behind the parameters
abbrev pub met_update : ℕ → ℕ → List Term → Query
met_update tree place project = query_of tree (by_id place) (col 1 0 ∷ col 1 0 ∷ project)

-- an insert of one row, which updates the row with its key, the first n columns
abbrev pub upsert : ℕ → ℕ → Source → Query → Command
upsert place n row update =
    InsertOr place Abort row
    (record {
      target = Some (columns_to n);
      update =
          Some (record { lets = []; body = update });
    } ∷ [])

-- an insert of one row, which leaves the row that is in its way
abbrev pub insert_or_ignore : ℕ → ℕ → List Term → Command
insert_or_ignore place width terms = InsertOr place Ignore (Values terms width) []

-- an update of the rows that pass, which keep their rowids
abbrev pub update : ℕ → ℕ → List Term → List Term → Command
update place tree tests set =
    Update place (record { lets = []; body = query_of tree tests (col 1 0 ∷ col 1 0 ∷ set) })

-- a delete of the rows that pass
abbrev pub delete : ℕ → ℕ → List Term → Command
delete place tree tests = Delete place (record { lets = []; body = query_of tree tests (col 1 0 ∷ []) })

module _ (s : Schema) (text : List ℕ) where
  -- the text is one plain query, and reads no list of the schema
  pub record IsQuery (body : Query) : Type 0 where
    pub names : List (List ℕ)
    pub is : command_of (understood s text) ≡ Select (record { lets = []; body = body }) names
    pub plain : IsPlain (understood s text)
    pub unlisted : reads_listing s text ≡ false

  -- the text is one plain command
  pub record IsWrite (command : Command) : Type 0 where
    pub is : command_of (understood s text) ≡ command
    pub plain : IsPlain (understood s text)

  -- the text makes this table
  pub record MakesTable (t : Table) : Type 0 where
    pub is : command_of (understood s text) ≡ CreateTable
    pub whole : statement_of text (understood s text) ≡ text
    pub plain : IsPlain (understood s text)
    pub defines : table_defined_by text ≡ Ok t
    pub uncounted : lacks_sequence (created s t) ≡ false

  -- the text makes this index of the table at this place
  pub record MakesIndex (at : ℕ) (t : Table) (i : Index) : Type 0 where
    pub is : command_of (understood s text) ≡ CreateIndex at
    pub whole : statement_of text (understood s text) ≡ text
    pub plain : IsPlain (understood s text)
    pub here : slice_get s.tables at ≡ Some t
    pub defines : index_defined_by t text ≡ Ok i
