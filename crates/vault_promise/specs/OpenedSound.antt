-- A file is opened only where its rows are those of a sound vault.
use Rattle.std.specs.Prelude.{◌≡◌, ◌⊎◌, ℕ, List, Some}
use Rattle.clap.specs.Words.{Text}
use Rattle.sql_tables.specs.Schema.{no_schema}
use Rattle.sqlite.specs.View.{IsClean}
use Rattle.sqlite_disk.specs.declared.Disk.{Ghosts}
use Rattle.sqlite_store.specs.FileStore as files
use Rattle.sqlite_store.specs.declared.store.FileStore.{FileStore}
use Rattle.sqlite_wal.specs.Recovery.{Image}
use Rattle.vault_app.specs.Ending.{said_on}
use Rattle.vault_app.specs.Jobs.{DoesRun}
use Rattle.vault_app.specs.World.{World}
use Rattle.vault_file.specs.Found.{HoldsSuch}
use Rattle.vault_file.specs.declared.fault.NotOpened.{NotOpened as FileFault}
use Rattle.vault_schema.specs.Schema.{newest_schema}
use Rattle.vault_verdict.specs.Opened.{StandsSound}
use Rattle.vault_verdict.specs.Reading.{IsFull}
use Rattle.vault_live.specs.Turns.{Turn}
use Rattle.vault_wire.specs.declared.watched.Watched.{Watched}
use Rattle.vault_jobs.specs.Streams.{Known, seen_over, seen_with}
use Rattle.vault_app.specs.declared.ending.Ending.{Ending}
use Rattle.vault_app.specs.declared.ending.Ending.TheVariants.{NotOpened}
use Rattle.vault_promise.specs.Runs.{AsksTask, IsFound}

-- Files with these bytes hold a database without a table; or one in the newest schema, whose rows are those
-- of a sound vault, if none of them lacks its last column.
abbrev pub HoldSound : Image → Type 0
HoldSound image = HoldsSuch image (λ db.
    (db.schema ≡ no_schema) ⊎ (db.schema ≡ newest_schema) × (IsFull db → StandsSound db))

-- the file wasn't opened
abbrev pub IsNotOpened : Ending → Type 0
IsNotOpened ending = (why : FileFault) × (ending ≡ NotOpened why)

-- Whatever a run of the program does, by the clause `does` of `run`, in a world where the files at the path
-- of its words hold these bytes. If its words ask for a task, it leaves files and opened them, and the disk
-- is honest in the end, the bytes hold a sound vault or no table.
module _ {D R W E K X P : Type 0} (g : Ghosts D) (remaining : R → Known) (contents : W → Known)
    (said : E → Known) (world_of : K → X → P → World) where
  abbrev pub FilesOpenSound : Type 0
  FilesOpenSound =
      (time : K) (desk : X) (paths : P) (image : Image) (left : FileStore D g) (words : List Text)
      (status : ℕ) (turns : List Turn) (i i' : Watched R) (o told o' : Watched W) (e e' : Watched E)
      → (let world : World = world_of time desk paths in
      (it : DoesRun world words (status, Some left)
      (seen_with (seen_over remaining i i' contents o told) turns) (said_on contents told o')
      (said_on said e e'))
      → IsFound words (λ path. world.holds path image) → AsksTask words → ¬ (IsNotOpened it.ending)
      → IsClean (files.view left) → HoldSound image)
