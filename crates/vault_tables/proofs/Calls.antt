-- The one clause of a call, from what the functions that run a text say.
use Rattle.std.proofs.Common.{◌≡◌, ◌∙◌, ◌<◌, ◌^◌, ℕ, List, Ok, Err, Result, IfOk, OnOk, sym, IsTrue, arith}
use Rattle.std.proofs.Common.{Option, subst, ℤ, refl}
use Rattle.std.specs.Global.{Vec}
use Rattle.sqlite.proofs.Callers.{IsPlain}
use Rattle.sqlite.specs.Effect.{Database}
use Rattle.sqlite.specs.Held.{state}
use Rattle.sqlite.specs.Listing.{understood}
use Rattle.sqlite.specs.Order.{Row}
use Rattle.sqlite.specs.Query.{Query}
use Rattle.sqlite.specs.Schema.{Schema}
use Rattle.sqlite.specs.State.{State, HasCleanDisk, ExecutesInside, IsUnchanged, Shown}
use Rattle.sqlite.specs.Values.{bound_value}
use Rattle.sqlite.specs.declared.transaction.Transaction.{Transaction}
use Rattle.sqlite_trees.specs.declared.store.Store.{Ghosts}
use Rattle.sql_tables.proofs.Calls as calls
use Rattle.sql_tables.proofs.Statements.{Ran}
use Rattle.sql_tables.specs.States.{Steps}
use Rattle.sql_tables.specs.States as maps
use Rattle.sql_tables.specs.Texts.{IsQuery}
use Rattle.sql_tables.specs.Transactions.{Inside, Proceeds}
use Rattle.vault_core.specs.Numbers.{use_number}
use Rattle.vault_core.specs.declared.usage.Use.{Use}
use Rattle.vault_schema.specs.Values.{id_or_null}
use Rattle.vault_schema.specs.Versions.{Lookups, Tables, claims_of, schema_of}
use Rattle.vault_schema.specs.declared.version.Version.{Version}
use Rattle.vault_schema.specs.declared.version.Version.TheVariants.{One}
use Rattle.vault_tables.proofs.Places.{HasCards, cards_where}
use Rattle.vault_tables.specs.Calls.{HasTables, Makes, MakesInEach, TellsInEach, TellsInside, Turns}
use Rattle.vault_tables.specs.Calls.{TurnsInEach}

-- ---- parameters

pub small_use : (usage : Use) → use_number usage < 2 ^ 63
small_use usage = grind arith

pub id_bound : (o : Option ℤ) → bound_value (id_or_null o) ≡ id_or_null o
id_bound o = grind arith

-- ---- a statement and a query

-- what a statement makes of the tables is done
pub turns : {v : Version} {E : Type 0} {result : Result (Unit {0}) E} {old new : State} {sql : List ℕ}
    {params : Row} {Can : Tables → Type 0} {After : Unit {0} → Tables → Tables → Type 0} → Steps old new
    → (HasCleanDisk new
    → OnOk result
    (IsTrue old.in_transaction → (count : ℕ) × ExecutesInside 0 sql params old new (Ok count)))
    → ((t : Tables) (base : Database) → Can t
    → Ran (schema_of v) (claims_of v t) base old new sql params
    → (after : Tables) × After tt t after × HasTables v new base after) → Turns v result Can After old new
turns {v} {E} {result} {old} {new} {sql} {params} {Can} {After} steps ran lemma = record {
  steps = steps;
  done = λ clean. go result (ran clean);
}
  where
    go : (r : Result (Unit {0}) E)
        → OnOk r (IsTrue old.in_transaction → (count : ℕ) × ExecutesInside 0 sql params old new (Ok count))
        → IfOk r (λ x. (base : Database) (t : Tables) → HasTables v old base t → Can t
        → (after : Tables) × After x t after × HasTables v new base after)
    go (Err e) did = tt
    go (Ok x) did = λ base t w can.
        let it = did w.inside in
        lemma t base can (record { within = w; count = it.0; ran = it.1; limit = steps.limit })

-- and where it tells how many rows it changed
pub turns_counted : {v : Version} {R E : Type 0} {y : R} {old new : State} {sql : List ℕ} {params : Row}
    {count : ℕ} {Can : Tables → Type 0} {After : R → Tables → Tables → Type 0} → Steps old new
    → (HasCleanDisk new → IsTrue old.in_transaction → ExecutesInside 0 sql params old new (Ok count))
    → ((t : Tables) (base : Database) → Can t
    → (run : Ran (schema_of v) (claims_of v t) base old new sql params) → run.count ≡ count
    → (after : Tables) × After y t after × HasTables v new base after)
    → Turns v (let it : Result R E = Ok y in it) Can After old new
turns_counted {count = count} steps ran lemma = record {
  steps = steps;
  done = λ clean base t w can.
      lemma t base can (record { within = w; count = count; ran = ran clean w.inside; limit = steps.limit })
      refl;
}

-- what the rows of a query show of the tables is told, and they stay
pub tells_inside : {v : Version} {R E : Type 0} {result : Result R E} {old new : State} {sql : List ℕ}
    {body : Query} {Is : Tables → R → Type 0} → (HasCards v → IsQuery (schema_of v) sql body)
    → Steps old new → (items : R → List Row) (params : Row)
    → (HasCleanDisk new → IfOk result (λ rows. Shown sql params old new (items rows)))
    → (HasCleanDisk new → (s : Schema) → IsPlain (understood s sql) → old.now.schema ≡ s
    → OnOk result (IsUnchanged old new))
    → ((t : Tables) (rows : R) → maps.Stands (schema_of v) (claims_of v t) old.now
    → Shown sql params old new (items rows) → Is t rows) → TellsInside v result Is old new
tells_inside {v} {R} {E} {result} {old} {new} {sql} {Is = Is} means steps items params told kept
    lemma = record {
      steps = steps;
      told = λ clean. go result (told clean) (kept clean);
    }
  where
    go : (r : Result R E) → IfOk r (λ rows. Shown sql params old new (items rows))
        → ((s : Schema) → IsPlain (understood s sql) → old.now.schema ≡ s → OnOk r (IsUnchanged old new))
        → IfOk r (λ x. (base : Database) (t : Tables) → HasTables v old base t
        → Is t x × HasTables v new base t)
    go (Err e) shown same = tt
    go (Ok rows) shown same = λ base t w.
        let plain = (means (cards_where v t old.now.trees w.stands.rows)).plain in
        let still = same (schema_of v) plain w.stands.schema in (
          lemma t rows w.stands shown,
          record {
            free = record { is_open = still.0.is_open; unlimited = steps.limit ∙ w.free.unlimited };
            inside = still.0.mode ∙ w.inside;
            committed = still.0.committed_is ∙ w.committed;
            stands = subst (maps.Stands (schema_of v) (claims_of v t)) (sym still.0.now_is) w.stands;
          },
        )

-- ---- what is so in one version after the other

pub makes_in_each : {R E : Type 0} {result : Result R E} {old new : State} {Can : Lookups → Type 0}
    {after : Lookups → Lookups} → ((v : Version) → Makes v result Can after old new)
    → MakesInEach result Can after old new
makes_in_each each = record { steps = (each One).steps; each = each }

pub turns_in_each : {R E : Type 0} {result : Result R E} {old new : State} {Can : Tables → Type 0}
    {After : R → Tables → Tables → Type 0} → ((v : Version) → Turns v result Can After old new)
    → TurnsInEach result Can After old new
turns_in_each each = record { steps = (each One).steps; each = each }

pub tells_in_each : {R E : Type 0} {result : Result R E} {old new : State} {Is : Tables → R → Type 0}
    → ((v : Version) → TellsInside v result Is old new) → TellsInEach result Is old new
tells_in_each each = record { steps = (each One).steps; each = each }

-- the rows of a query that means this in each version with cards tell of the tables
pub rows_tell : {S E : Type 0} (g : Ghosts S) {old new : Transaction S} {result : Result (Vec Row) E}
    {sql : List ℕ} {body : Query} {Is : Tables → Vec Row → Type 0}
    → ((v : Version) → HasCards v → IsQuery (schema_of v) sql body) → Proceeds g old new → (params : Row)
    → (HasCleanDisk (state g new.conn.now)
    → IfOk result (λ rows. Shown sql params (state g old.conn.now) (state g new.conn.now) rows.items))
    → (HasCleanDisk (state g new.conn.now) → (s : Schema) → IsPlain (understood s sql)
    → (state g old.conn.now).now.schema ≡ s
    → OnOk result (IsUnchanged (state g old.conn.now) (state g new.conn.now)))
    → ((v : Version) (t : Tables) (rows : Vec Row)
    → maps.Stands (schema_of v) (claims_of v t) (state g old.conn.now).now
    → Shown sql params (state g old.conn.now) (state g new.conn.now) rows.items → Is t rows)
    → Inside g old new (TellsInEach result Is)
rows_tell g means it params told kept lemma = record {
  same_reference = it.same_reference;
  done = tells_in_each (λ v.
      tells_inside (means v) it.steps (λ rows. rows.items) params told kept (lemma v));
}

-- ---- one after another

pub on_if : {X E : Type 0} {P : X → Type 0} {A : Type 0} (r : Result X E) → IfOk r P → ((x : X) → P x → A)
    → OnOk r A
on_if (Ok x) h f = f x h
on_if (Err e) h f = tt

-- what a step made is said in other words
pub turns_as : {v : Version} {R R' E E' : Type 0} {x : R} {y : R'} {a b : State}
    {Can First : Tables → Type 0} {Mid : R → Tables → Tables → Type 0}
    {After : R' → Tables → Tables → Type 0}
    → Turns v (let it : Result R E = Ok x in it) First Mid a b → ((t : Tables) → Can t → First t)
    → ((t new : Tables) → Can t → Mid x t new → After y t new)
    → Turns v (let it : Result R' E' = Ok y in it) Can After a b
turns_as one first after = record {
  steps = one.steps;
  done = λ clean base t w can. let it = one.done clean base t w (first t can) in
      (it.0, after t it.0 can it.1, it.2);
}

pub turns_so : {v : Version} {R E : Type 0} {result : Result R E} {a b : State} {Can : Tables → Type 0}
    {Mid After : R → Tables → Tables → Type 0} → Turns v result Can Mid a b
    → ((x : R) (t new : Tables) → Mid x t new → After x t new) → Turns v result Can After a b
turns_so {result = result} one so = record {
  steps = one.steps;
  done = λ clean. calls.if_ok result _ _ (one.done clean) (λ x did base t w can.
      let it = did base t w can in (it.0, so x t it.0 it.1, it.2));
}

-- what a query inside a transaction told is answered in other words
pub told_so : {v : Version} {R R' E E' : Type 0} {x : R} {y : R'} {a b : State} {Is : Tables → R → Type 0}
    {So : Tables → R' → Type 0} → TellsInside v (let it : Result R E = Ok x in it) Is a b
    → ((t : Tables) → Is t x → So t y) → TellsInside v (let it : Result R' E' = Ok y in it) So a b
told_so one so = record {
  steps = one.steps;
  told = λ clean base t w. let it = one.told clean base t w in (so t it.0, it.1);
}

module _ {v : Version} {R R' E E' : Type 0} {x : R} {second : Result R' E'} {a b c : State}
    {Can Next : Tables → Type 0} {After After' : R' → Tables → Tables → Type 0} where
  -- a step after a query
  pub turns_told : {Is : Tables → R → Type 0} → TellsInside v (let it : Result R E = Ok x in it) Is a b
      → Turns v second Next After' b c → ((t : Tables) → Can t → Is t x → Next t)
      → ((y : R') (t new : Tables) → Can t → Is t x → After' y t new → After y t new)
      → Turns v second Can After a c
  turns_told one two next after = record {
    steps = calls.steps_then one.steps two.steps;
    done = λ clean. calls.if_ok second _ _ (two.done clean) (λ y did base t w can.
        let told = one.told (omega (arith, two.steps.clean, clean)) base t w in
        let end = did base t told.1 (next t can told.0) in
        (end.0, after y t end.0 can told.0 end.1, end.2));
  }

-- a step after one that changed nothing
pub turns_still : {v : Version} {R R' E E' : Type 0} {x : R} {second : Result R' E'} {a b c : State}
    {Can : Tables → Type 0} {Mid : R → Tables → Tables → Type 0} {After : R' → Tables → Tables → Type 0}
    → Turns v (let it : Result R E = Ok x in it) (λ t. Unit {0}) Mid a b
    → ((t new : Tables) → Mid x t new → new ≡ t) → Turns v second Can After b c
    → Turns v second Can After a c
turns_still {v = v} {second = second} {b = b} one still two = record {
  steps = calls.steps_then one.steps two.steps;
  done = λ clean. calls.if_ok second _ _ (two.done clean) (λ y did base t w can.
      let mid = one.done (omega (arith, two.steps.clean, clean)) base t w tt in
      did base t (subst (HasTables v b base) (still t mid.0 mid.1) mid.2) can);
}

-- one step after another, on lookups
pub makes_then : {v : Version} {R E R' E' : Type 0} {x : R} {second : Result R' E'} {a b c : State}
    {Can First Next : Lookups → Type 0} {f f' : Lookups → Lookups}
    → Makes v (let it : Result R E = Ok x in it) First f a b → Makes v second Next f' b c
    → ((h : Lookups) → Can h → First h) → ((h : Lookups) → Can h → Next (f h))
    → Makes v second Can (λ h. f' (f h)) a c
makes_then {second = second} {b = b} {f = f} one two can next = record {
  steps = calls.steps_then one.steps two.steps;
  done = λ clean. calls.on_ok second (two.done clean) (λ did base h w ok.
      let before : HasCleanDisk b = omega (arith, two.steps.clean, clean) in
      did base (f h) (one.done before base h w (can h ok)) (next h ok));
}
