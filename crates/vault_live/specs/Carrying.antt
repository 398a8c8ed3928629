-- The changes of a list, carried out a hundred at a time.
use Rattle.std.specs.Prelude.{◌≡◌, ◌⊎◌, ℕ, List, Bool, false, Result, Ok, Err}
use Rattle.vault_core.specs.Proper.{AllProper}
use Rattle.vault_core.specs.Runs.{run}
use Rattle.vault_core.specs.Vault.{Vault as Content}
use Rattle.vault_engine.specs.Passing.{IsBefore, Keeps, Passage}
use Rattle.vault_listen.specs.declared.fault.ListenFault.{ListenFault}
use Rattle.vault_live.specs.Following.{AreSettled, Looks}
use Rattle.vault_live.specs.Kinds.{Naming, Wanting}
use Rattle.vault_live.specs.Turns.{Asking}
use Rattle.vault_live.specs.declared.news.News.{News}
use Rattle.vault_live.specs.declared.news.News.TheVariants.{Refused}
use Rattle.vault_live.specs.declared.subject.Subject.{Subject}

-- what is said, without whether some changes are left
abbrev pub news_in : Result (News × Bool) ListenFault → Result News ListenFault
news_in (Ok it) = Ok it.0
news_in (Err f) = Err f

-- the commands are those that the rows ask for at a moment, and they are proper
abbrev pub AsksRows : {X : Type 0} → Wanting X → ℕ → List X → Asking
AsksRows wants now rows V cs = (cs ≡ wants now rows V) × AllProper cs

-- the same, for rows of a text that was settled
abbrev pub AsksAt : {X : Type 0} → Naming X → Wanting X → Looks → ℕ → Asking
AsksAt {X = X} names wants says now V cs = (rows : List X) × AreSettled names says rows
    × AsksRows wants now rows V cs

-- it is said that a list of this is refused
abbrev pub IsRefusal : Subject → News → Type 0
IsRefusal about news = (number now : ℕ) × (news ≡ Refused about number now)

-- all is done that the rows ask for by the vault that was held; or nothing is, and it is said that a list of
-- this is refused
abbrev pub IsDoneOrRefused : {X : Type 0} → Subject → Wanting X → ℕ → List X → Passage → News → Type 0
IsDoneOrRefused about wants now rows w news = (V : Content) → IsBefore w V
    → Keeps w (run (wants now rows V) V) ⊎ (IsRefusal about news × Keeps w V)

-- where an answer says that no changes are left, it is so
abbrev pub EndsSettled : {X : Type 0} → Subject → Wanting X → ℕ → List X → Passage
    → Result (News × Bool) ListenFault → Type 0
EndsSettled about wants now rows w (Ok it) =
    it.1 ≡ false → IsDoneOrRefused about wants now rows w it.0
EndsSettled about wants now rows w (Err f) = Unit {0}
