-- What is inside a transaction, said of the tables, and one statement further there.
use Rattle.std.proofs.Common.{◌≡◌, ◌∙◌, ◌++◌, ℕ, List, [], ◌∷◌, Ok, Result, IsTrue, arith, subst}
use Rattle.sqlite.specs.Change.{created, indexed}
use Rattle.sqlite.specs.Effect.{Database}
use Rattle.sqlite.specs.Held.{state}
use Rattle.sqlite.specs.Schema.{Schema}
use Rattle.sqlite.specs.State.{State, ExecutesInside, HasCleanDisk}
use Rattle.sqlite.specs.Table.{Table}
use Rattle.sqlite.specs.declared.transaction.Transaction.{Transaction}
use Rattle.sqlite_schema.specs.declared.schema.Index.{Index}
use Rattle.sqlite_trees.specs.declared.store.Store.{Ghosts}
use Rattle.sql_tables.proofs.Calls.{on_ok, steps_then}
use Rattle.sql_tables.proofs.Making.{makes_index, makes_table}
use Rattle.sql_tables.proofs.Statements.{Ran}
use Rattle.sql_tables.specs.States.{Claim, IsEmpty, Steps, Within}
use Rattle.sql_tables.specs.Texts.{MakesIndex, MakesTable}
use Rattle.sql_tables.specs.Transactions.{LeadsTo, RunsText}
use Rattle.vault_schema.specs.Versions.{HasDefaults, Lookups, StandJoined, StandRows, WithinOf, claims_of}
use Rattle.vault_schema.specs.Versions.{schema_of, tables_of}
use Rattle.vault_schema.specs.declared.version.Version.{Version}

-- what stands with cards is said of the tables, and the other way round
pub opened : (v : Version) {h : Lookups} {base : Database} {st : State} → WithinOf v h base st
    → (j : StandJoined v st.now.trees h)
    → Within (schema_of v) (claims_of v (tables_of h j.cards j.pointing)) base st
opened v w j = record {
  free = w.free;
  inside = w.inside;
  committed = w.committed;
  stands = record { schema = w.is.schema; sound = w.is.sound; rows = j.rows };
}

pub closed : (v : Version) {h : Lookups} {base : Database} {new : State} → StandRows v new.now.trees h
    → HasDefaults v h → (claims : List Claim) → Within (schema_of v) claims base new → WithinOf v h base new
closed v rows defaults claims w = record {
  free = w.free;
  inside = w.inside;
  committed = w.committed;
  is = record {
    schema = w.stands.schema;
    sound = w.stands.sound;
    stand = record { rows = rows; defaults = defaults };
  };
}

-- what stood with cards still does in the next version, with these rows
pub closed_over : (v u : Version) {h : Lookups} {base : Database} (old : State) {new : State}
    (j : StandJoined u old.now.trees h) → HasDefaults v h
    → (StandJoined v new.now.trees h → StandRows v new.now.trees h)
    → Within (schema_of v) (claims_of v (tables_of h j.cards j.pointing)) base new → WithinOf v h base new
closed_over v u {h = h} old j defaults with_cards end =
    closed v (with_cards (record {
      cards = j.cards;
      pointing = j.pointing;
      rows = end.stands.rows;
      joined = j.joined;
    })) defaults (claims_of v (tables_of h j.cards j.pointing)) end

-- what a statement of a step did
abbrev pub Did : List ℕ → State → State → Type 0
Did sql old new = IsTrue old.in_transaction → (count : ℕ) × ExecutesInside 0 sql [] old new (Ok count)

-- a statement that ran, as the function that runs one says
pub ran_in : {s : Schema} {claims : List Claim} {base : Database} {old new : State} {sql : List ℕ}
    → Steps old new
    → Did sql old new → Within s claims base old → Ran s claims base old new sql []
ran_in steps ran w =
    let did = ran w.inside in
    record { within = w; count = did.0; ran = did.1; limit = steps.limit }

-- a table more, which is empty
pub table_in : {s next : Schema} {claims : List Claim} {base : Database} {old new : State} {sql : List ℕ}
    {t : Table} → created s t ≡ next → MakesTable s sql t → Ran s claims base old new sql []
    → Within next (claims ++ IsEmpty ∷ []) base new
table_in {s} {next} {claims} {base} {old} {new} {sql} made it run =
    subst (λ x. Within x (claims ++ IsEmpty ∷ []) base new) made
    (makes_table s claims base old new run.within.free run.within.committed run.within.stands.schema
    run.within.stands.rows sql run.count run.ran run.limit _ it IsEmpty (λ i. []))

-- an index more
pub index_in : {s next : Schema} {claims : List Claim} {base : Database} {old new : State} {sql : List ℕ}
    {at : ℕ} {t : Table} {i : Index} → indexed s t i ≡ next → MakesIndex s sql at t i
    → Ran s claims base old new sql [] → Within next claims base new
index_in {s} {next} {claims} {base} {old} {new} {sql} made it run =
    subst (λ x. Within x claims base new) made
    (makes_index s claims base old new run.within.free run.within.committed run.within.stands.schema
    run.within.stands.rows sql run.count run.ran run.limit _ _ _ it)

-- four texts were run, one after the other
pub record RunsFour (p q r s : List ℕ) (a b c d e : State) : Type 0 where
  pub one : Steps a b
  pub two : Steps b c
  pub three : Steps c d
  pub four : Steps d e
  pub first : Did p a b
  pub second : Did q b c
  pub third : Did r c d
  pub fourth : Did s d e

-- four texts, one after the other, lead where what they did leads
pub four_texts : {S R E F : Type 0} {g : Ghosts S} {a b c d e : Transaction S} {p q r s : List ℕ} {x y z : R}
    {last : Result R F} {From To : Lookups → Database → State → Type 0}
    → RunsText g a b (let it : Result R E = Ok x in it) p [] → RunsText g b c
    (let it : Result R E = Ok y in it) q []
    → RunsText g c d (let it : Result R E = Ok z in it) r [] → RunsText g d e last s []
    → ((h : Lookups) (base : Database) → From h base (state g a.conn.now)
    → RunsFour p q r s (state g a.conn.now) (state g b.conn.now) (state g c.conn.now) (state g d.conn.now)
    (state g e.conn.now) → To h base (state g e.conn.now)) → LeadsTo g a e last From To
four_texts {g = g} {b = b} {c = c} {d = d} {last = last} one two three four lead = record {
  same_reference =
      four.same_reference ∙ three.same_reference ∙ two.same_reference ∙ one.same_reference;
  steps = steps_then one.steps (steps_then two.steps (steps_then three.steps four.steps));
  done = λ clean.
      let third : HasCleanDisk (state g d.conn.now) = omega (arith, four.steps.clean, clean) in
      let second : HasCleanDisk (state g c.conn.now) = omega (arith, three.steps.clean, third) in
      let first : HasCleanDisk (state g b.conn.now) = omega (arith, two.steps.clean, second) in
      on_ok last (four.ran clean) (λ did base h from.
      lead h base from (record {
        one = one.steps;
        two = two.steps;
        three = three.steps;
        four = four.steps;
        first = one.ran first;
        second = two.ran second;
        third = three.ran third;
        fourth = did;
      }));
}
