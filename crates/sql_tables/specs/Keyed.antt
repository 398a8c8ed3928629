-- The commands that a table is given, computed from its descriptor.
use Rattle.std.specs.Prelude.{ℕ, pos, suc, List, [], ◌∷◌, ◌++◌, drop, length, map}
use Rattle.sqlite.specs.Order.{Row}
use Rattle.sqlite.specs.Query.{Query}
use Rattle.sqlite.specs.Source.TheVariants.{Values}
use Rattle.sqlite.specs.Term.{Term, lit, col}
use Rattle.sqlite.specs.declared.types.Value.TheVariants.{Int, Null}
use Rattle.sqlite_schema.specs.declared.command.Command.{Command}
use Rattle.sql_tables.specs.Schema.{Descriptor, below, columns_to}
use Rattle.sql_tables.specs.Texts.{by_key, delete, met_update, query_of, upsert}

-- these columns, or 1 where there are none
abbrev pub shown_columns : List ℕ → List Term
shown_columns [] = lit (Int (pos 1)) ∷ []
shown_columns (c ∷ cs) = map (λ i. col 1 i) (c ∷ cs)

-- what is shown of the columns behind a key
abbrev pub at_least : Row → Row
at_least [] = Int (pos 1) ∷ []
at_least (v ∷ vs) = v ∷ vs

-- a new row, of which each column is a parameter
abbrev pub new_terms : Descriptor → List Term
new_terms d = lit Null ∷ map (λ i. col 0 i) (below (length d.columns))

-- a row with the key that it has, and the columns behind it from parameters
abbrev pub changed_terms : Descriptor → ℕ → List Term
changed_terms d n =
    map (λ i. col 1 i) (columns_to n) ++ map (λ i. col 0 i) (drop n (below (length d.columns)))

-- SELECT the columns behind the key WHERE the key's columns are the parameters
abbrev pub finding : Descriptor → ℕ → Query
finding d n = query_of d.tree (by_key n) (shown_columns (drop n (columns_to (length d.columns))))

-- INSERT .. ON CONFLICT (key) DO UPDATE SET all columns behind the key
abbrev pub putting : Descriptor → ℕ → ℕ → Command
putting d place n =
    upsert place n (Values (new_terms d) (suc (length d.columns)))
    (met_update d.tree (length d.columns) (changed_terms d n))

-- DELETE WHERE the key's columns are the parameters
abbrev pub taking : Descriptor → ℕ → ℕ → Command
taking d place n = delete place d.tree (by_key n)
