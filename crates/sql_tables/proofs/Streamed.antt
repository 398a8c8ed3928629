-- What a reading row by row comes to.
use Rattle.std.proofs.Common.{◌≡◌, ◌≢◌, ◌↔◌, ◌∙◌, ◌++◌, ◌∷◌, ℕ, List, [], map, sym, ap, subst, false}
use Rattle.std.proofs.Common.{Result, Ok, Err, IfErr, IfOk, IsErrAnd, OnOk}
use Rattle.sqlite.proofs.Callers.{IsPlain, unchanged_then}
use Rattle.sqlite.proofs.StateLemmas.{survives_then}
use Rattle.sqlite.specs.Clock.{timed}
use Rattle.sqlite.specs.Held.{Held, state}
use Rattle.sqlite.specs.Listing.{IsSourceOf, reads_listing, understood}
use Rattle.sqlite.specs.Order.{Row}
use Rattle.sqlite.specs.Schema.{Schema}
use Rattle.sqlite.specs.State.{State, CommitsShowing, HasCleanDisk, IsLive, IsUnchanged, Shown, ShowsRows}
use Rattle.sqlite.specs.State.{Survives}
use Rattle.sqlite.specs.Tree.{Trees}
use Rattle.sqlite.specs.declared.error.Error.{Error}
use Rattle.sqlite.specs.declared.error.Error.TheVariants.{SqliteFailure}
use Rattle.sqlite.specs.declared.error.ErrorCode.TheVariants.{OutOfMemory}
use Rattle.sqlite_trees.specs.declared.store.Store.{Ghosts}
use Rattle.sql_tables.proofs.Calls.{reads, was_sound}
use Rattle.sqlite.specs.Effect.{Database, IsDatabase}
use Rattle.sql_tables.specs.States.{Reads}
use Rattle.sql_tables.specs.Values.{IsStrange}
use Rattle.sql_tables.specs.Reading.{IsUnread, Look, TakesRows}
use Rattle.sql_tables.specs.declared.fault.StoreFault.{StoreFault}
use Rattle.sql_tables.specs.declared.fault.StoreFault.TheVariants.{Memory, Store}

-- a fault that isn't for want of memory comes from an error that isn't
pub other_cause : (error : Error) (fault : StoreFault)
    → (fault ≡ Memory) ↔ (error ≡ SqliteFailure OutOfMemory) → fault ≡ Store
    → error ≢ SqliteFailure OutOfMemory
other_cause error fault same store memory = absurd (let both = same.1 memory in cc)

-- no raw rows show a list that ends with a strange row
pub strange_end : {R : Type 0} (values : R → Row) (row : Row) → IsStrange values row → (before : List Row)
    → IsStrange (map values) (before ++ row ∷ [])
strange_end values row none [] [] is = absurd cc
strange_end values row none [] (raw ∷ raws) is = none raw cc
strange_end values row none (first ∷ before) [] is = absurd cc
strange_end values row none (first ∷ before) (raw ∷ raws) is = strange_end values row none before raws cc

-- one call more, which commits nothing
pub further : {a b c : State} {P : Trees → Type 0} → Survives a b P → Survives b c (λ _. ⊥) → Survives a c P
further {a} {b} {c} {P} = survives_then a b c P (λ _. ⊥) P (λ _ db may. may) (λ _ db none. absurd none)

-- what is shown from where nothing changed was shown from the start
shown_from : (text : List ℕ) (old at new : State) (rows : List Row) → IsPlain (understood old.now.schema text)
    → IsUnchanged old at → Shown text [] at new rows → Shown text [] old new rows
unfolding Shown
shown_from text old at new rows plain same h =
    let now = same.0.now_is in
    let is = subst (λ (d : Database). understood d.schema text ≡ Ok h.0) now h.1.is in
    let full = timed [] h.0.formats h.1.now in
    let none = (subst IsPlain is plain).0 in
    let it = subst (ShowsRows at new text h.0 full rows) none h.2 in (
      h.0,
      record { is = is; whole = h.1.whole; given = h.1.given; now = h.1.now },
      subst (ShowsRows old new text h.0 full rows) (sym none) (
        it.0,
        subst (λ (d : Database). IsSourceOf (reads_listing d.schema text) d it.0) now it.1,
        it.2,
        unchanged_then old at new same it.3,
      ),
    )

-- what isn't read after a table that was read
pub after : {S : Type 0} (g : Ghosts S) {X E : Type 0} {s : Schema} (Unread : Database → Held S → Type 0)
    (old mid : Held S) {new : Held S} {r : Result X E} {x : X} → r ≡ Ok x
    → Reads s r (state g old) (state g mid) → HasCleanDisk (state g mid) → (state g old).now.schema ≡ s
    → ((state g mid).now.schema ≡ s → Unread (state g mid).now new) → Unread (state g old).now new
after g Unread old mid {new} is read clean has unread =
    let same = (rw is at (read.kept clean has)).0.now_is in
    subst (λ db. Unread db new) same (unread (ap (λ (d : Database). d.schema) same ∙ has))

-- the connection is what the rows lent
pub settled : {S : Type 0} {g : Ghosts S} {R K : Type 0} {look : Look R} {Has : K → List R → Type 0}
    {result : Result K StoreFault} {old now new : Held S} → TakesRows g look Has result old now → now ≡ new
    → TakesRows g look Has result old new
settled {g = g} {look = look} {Has = Has} {result = result} {old = old} takes same =
    subst (TakesRows g look Has result old) same takes

module _ {S : Type 0} (g : Ghosts S) {R K : Type 0} (s : Schema) (text : List ℕ) (values : R → Row)
    (Has : K → List R → Type 0) (old new : Held S) (plain : IsPlain (understood s text))
    (mode : (state g old).in_transaction ≡ false → (state g new).in_transaction ≡ false)
    (survives : Survives (state g old) (state g new) (CommitsShowing text [] (state g old)))
    (live : IsLive (state g old)) where
  abbrev look : Look R
  look = record { schema = s; text = text; values = values }

  abbrev was : State
  was = state g old

  abbrev is : State
  is = state g new

  plain_in : was.now.schema ≡ s → IsPlain (understood was.now.schema text)
  plain_in known = subst (λ (x : Schema). IsPlain (understood x text)) (sym known) plain

  -- what is said of rows that were shown
  abbrev IsShown : List R → Type 0
  IsShown raws = Shown text [] was is (map values raws)

  takes_kept : HasCleanDisk is → was.now.schema ≡ s → (result : Result K StoreFault)
      → IfOk result (λ k. (raws : List R) × Has k raws × IsShown raws) → OnOk result (IsUnchanged was is)
  takes_kept clean known (Err e) told = tt
  takes_kept clean known (Ok k) told =
      let it : Result (List Row) StoreFault = Ok (map values told.0) in
      (reads (λ rows. rows) s text [] was is it plain mode survives (λ c h. told.2)).kept clean known

  takes_sound : was.now.schema ≡ s → (result : Result K StoreFault)
      → IfOk result (λ k. (raws : List R) × Has k raws × IsShown raws) → OnOk result (IsDatabase was.now)
  takes_sound known (Err e) told = tt
  takes_sound known (Ok k) told =
      let it : Result (List Row) StoreFault = Ok (map values told.0) in
      was_sound (λ rows. rows) s text [] was is it plain known live told.2

  streamed : (result : Result K StoreFault)
      → (HasCleanDisk is → was.now.schema ≡ s
      → IfOk result (λ k. (raws : List R) × Has k raws × IsShown raws))
      → (HasCleanDisk is → was.now.schema ≡ s
      → IfErr result (λ e. e ≡ Store → IsUnread g text values was.now new))
      → TakesRows g look Has result old new
  streamed result told refused =
      let none : Result (List Row) StoreFault = Err Store in
      let it = reads (λ rows. rows) s text [] was is none plain mode survives (λ clean has. tt) in
      record {
        reads = record {
          clean = it.clean;
          mode = it.mode;
          limit = it.limit;
          left = it.left;
          kept = λ clean has. takes_kept clean has result (told clean has);
        };
        told = told;
        sound = λ clean has. takes_sound has result (told clean has);
        refused = refused;
      }

  -- it stopped before the end
  pub stopped : {P : StoreFault → Type 0} (result : Result K StoreFault) → IsErrAnd result P
      → ((fault : StoreFault) → P fault → HasCleanDisk is → IsPlain (understood was.now.schema text)
      → fault ≡ Store → IsUnread g text values was.now new)
      → TakesRows g look Has result old new
  stopped (Ok k) failed why = absurd failed
  stopped (Err fault) failed why =
      streamed (Err fault) (λ clean has. tt) (λ clean has. why fault failed clean (plain_in has))

  -- it came to the end
  pub ended : (k : K) (raws : List R) → Has k raws → (at : State)
      → (HasCleanDisk is → IsPlain (understood was.now.schema text) → IsUnchanged was at)
      → (HasCleanDisk is → IsPlain (understood was.now.schema text) → Shown text [] at is (map values raws))
      → TakesRows g look Has (Ok k) old new
  ended k raws has at same shown = streamed (Ok k)
      (λ clean known. let fine = plain_in known in
      (raws, has, shown_from text was at is _ fine (same clean fine) (shown clean fine)))
      (λ clean known. tt)
