-- Where asking stops, by its cause.
use Rattle.std.specs.Prelude.{◌≡◌, ◌⊎◌, [], ◌∷◌, Bool, true, false, Result, Ok, Err}
use Rattle.vault_core.specs.Vault.{Vault as Content}
use Rattle.vault_core.specs.declared.reply.Reply.{Reply}
use Rattle.vault_store.specs.Applied.{is_broken}
use Rattle.vault_wire.specs.Watching.{is_stopped}
use Rattle.vault_wire.specs.declared.watched.Watched.{Watched}
use Rattle.vault_store.specs.declared.vault.Vault.{Vault}
use Rattle.vault_engine.specs.Answered.{Answered, AnsweredBefore, CutAt, SilentAt, UndecidedAt}
use Rattle.vault_engine.specs.Asking.{Asked, Kind, kind, reply_to}
use Rattle.vault_engine.specs.Passing.{IsBefore, Passage}
use Rattle.vault_engine.specs.declared.stop.Stop.{Stop}
use Rattle.vault_engine.specs.declared.unit.Unit as unit
use Rattle.vault_store.specs.LookUps.{WasHonest}
use Rattle.vault_store.specs.declared.tables.Tables.{Ghosts}
use Rattle.vault_engine.specs.declared.stop.Stop.TheVariants as stop

-- what was seen of the one unit at which asking stopped
abbrev pub StopsAt : {X : Type 0} → Kind X → Passage → X → Stop → Type 0
StopsAt k w u stop.Source = Answered k [] w []
StopsAt k w u stop.Read = ⊥
StopsAt k w u stop.Write = (x : Asked _) × (x.unit ≡ u) × CutAt k [] w [] x
StopsAt k w u stop.Store = (x : Asked _) × (x.unit ≡ u) × UndecidedAt k [] w [] x
StopsAt k w u stop.Memory =
    AnsweredBefore k [] w [] ⊎ ((x : Asked _) × (x.unit ≡ u) × SilentAt k [] w [] x)

-- the unit is answered, and this is the reply
abbrev pub IsAnswered : {X : Type 0} → Kind X → Passage → X → Reply → Type 0
IsAnswered k w u reply = (x : Asked _) × (x.unit ≡ u) × Answered k [] w (x ∷ [])
    × ((V : Content) → IsBefore w V → reply ≡ reply_to V x.wanted)

-- this stands of a unit, by what it may ask for and by the texts that may answer it
abbrev pub of_unit : {U C : Type 0} (g : unit.Ghosts U) → U → (Kind g.Shown → Passage → g.Shown → C → Type 0)
    → Passage → C → Type 0
of_unit g u Stands w = Stands (kind (g.wants u) g.text) w (g.shown u)

-- which of the four have failed: the source refused, the reader or the writer failed, the vault is broken
pub record Failures : Type 0 where
  pub source : Bool
  pub reader : Bool
  pub writer : Bool
  pub vault : Bool

abbrev pub failures : Bool → Bool → Bool → Bool → Failures
failures s r w v = record { source = s; reader = r; writer = w; vault = v }

-- those of a source, a reader, a writer and a vault
abbrev pub failures_of : {R W T : Type 0} → Bool → Watched R → Watched W → Vault T → Failures
failures_of refused r w v = failures refused (is_stopped r) (is_stopped w) (is_broken v)

-- those where nothing is read
abbrev pub failures_unread : {W T : Type 0} → Bool → Watched W → Vault T → Failures
failures_unread refused w v = failures refused false (is_stopped w) (is_broken v)

-- a stop but Memory tells which of the four has failed; all else stays as it was
abbrev pub Tells : {X : Type 0} → Result X Stop → Failures → Failures → Type 0
Tells (Ok x) old new = new ≡ old
Tells (Err stop.Source) old new = new ≡ record old { source = true }
Tells (Err stop.Read) old new = new ≡ record old { reader = true }
Tells (Err stop.Write) old new = new ≡ record old { writer = true }
Tells (Err stop.Store) old new = new ≡ record old { vault = true }
Tells (Err stop.Memory) old new = new ≡ old

-- over tables that can't fail, a vault that wasn't broken never comes to this
abbrev pub NeverFails : {T : Type 0} → Bool → Vault T → Type 0 → Type 0
NeverFails may_fail old Is = may_fail ≡ false → is_broken old ≡ false → ¬ Is

-- an honest disk was honest before, and tables that can't fail don't
pub record Trusts {T : Type 0} (g : Ghosts T) (old new : Vault T) (Fails : Type 0) : Type 0 where
  pub disk_honest : WasHonest g old new
  pub infallible : NeverFails g.may_fail old Fails
