-- The lists of a service, as their files have them at the look before it listens.
use Rattle.std.specs.Prelude.{◌≡◌, ◌⊎◌, ℕ, List, Option, Some, None, IsSome, true, false}
use Rattle.std.specs.Borrow.{Bor}
use Rattle.std.specs.declared.io.ErrorKind.{ErrorKind}
use Rattle.vault_engine.specs.declared.stop.Stop.TheVariants as service
use Rattle.vault_live.specs.Kinds.{Naming}
use Rattle.vault_live.specs.Following.{is_whole}
use Rattle.vault_live.specs.declared.subject.Subject.{Subject}
use Rattle.vault_jobs.specs.Lists.{path_of}
use Rattle.vault_jobs.specs.Moments.{IsMomentOf}
use Rattle.vault_jobs.specs.declared.lists.ListFile.{ListFile}
use Rattle.vault_jobs.specs.declared.stop.Stop.TheVariants as stop
use Rattle.vault_app.specs.Endings.{EndsSo, no_ending}
use Rattle.vault_app.specs.World.{World}
use Rattle.vault_app.specs.declared.ending.Ending.{Ending}

-- the text of a list is said, whole, and names its rows
abbrev pub IsTaken : {X : Type 0} → Naming X → (List ℕ → Type 0) → ListFile X → Type 0
IsTaken names says it =
    says it.text.items × (is_whole it.text.items ≡ true) × names it.text.items it.rows.items

-- There is a list exactly where the words name a file. Its text is one of this file, whole, and names its
-- rows, and its moment was told.
abbrev pub IsFollowed : {X : Type 0} → Naming X → World → Option (Bor (List ℕ)) → Option (ListFile X) → Type 0
IsFollowed names world None listed = listed ≡ None
IsFollowed names world (Some path) listed = (it : ListFile _) × (listed ≡ Some it)
    × IsTaken names (world.looks path.now 0) it × IsMomentOf world.tells None it.now × (path_of it ≡ path.now)

-- where the words name a file, a text of it is whole and has a fault of this number
abbrev pub IsFaultyAt : (List ℕ → ℕ → Type 0) → World → Option (Bor (List ℕ)) → ℕ → Type 0
IsFaultyAt faults world None n = ⊥
IsFaultyAt faults world (Some path) n =
    (text : List ℕ) × world.looks path.now 0 text × (is_whole text ≡ true) × faults text n

-- where they name one, a text of it isn't whole
abbrev pub IsUnfinishedAt : World → Option (Bor (List ℕ)) → Type 0
IsUnfinishedAt world None = ⊥
IsUnfinishedAt world (Some path) = (text : List ℕ) × world.looks path.now 0 text × (is_whole text ≡ false)

-- it stops for want of a moment, or of memory for the list of this
abbrev pub HasNoMoment : Subject → Ending → Type 0
HasNoMoment about ending = EndsSo (record no_ending {
  stopped = λ s. (s ≡ stop.Service service.Source) ⊎ ((why : ErrorKind) × (s ≡ stop.Unread about why));
}) ending

-- How a job ends without the list of this that the words name: it is refused, isn't whole, or isn't read; or
-- there is no moment.
abbrev pub EndsUnfollowed : Subject → (List ℕ → ℕ → Type 0) → World → Option (Bor (List ℕ)) → Ending → Type 0
EndsUnfollowed about faults world path ending = EndsSo (record no_ending {
  refused = IsFaultyAt faults world path;
  unfinished = λ it. (it ≡ about) × IsUnfinishedAt world path;
  stopped = λ s. (s ≡ stop.Service service.Source) × IsSome path
      ⊎ ((why : ErrorKind) × (s ≡ stop.Unread about why)) × IsSome path;
}) ending
