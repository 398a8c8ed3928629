-- The rights that runs make by a list are those of a text that its file had.
use Rattle.std.proofs.Common.{inl, inr}
use Rattle.std.specs.Prelude.{◌≡◌, ◌⊎◌, ◌+◌, ℕ, List, [], ◌∷◌, ◌++◌, All, IfSome, IsSomeAnd, false}
use Rattle.std.specs.Prelude.{length, true}
use Rattle.clap.specs.Words.{Text}
use Rattle.vault_core.specs.Runs.{run}
use Rattle.vault_core.specs.Vault.{Vault as Content}
use Rattle.vault_core.specs.declared.command.Command.{Command}
use Rattle.vault_rights.specs.Named.{Row}
use Rattle.vault_changes.specs.Changes.{changes_at, rights_of}
use Rattle.vault_changes.specs.Grants.{AreDone}
use Rattle.vault_live.specs.Following.{AreRowsIn, is_whole}
use Rattle.vault_live.specs.News.{gives, withdraws}
use Rattle.vault_live.specs.Turns.{Turn}
use Rattle.vault_live.specs.Turns.Turn.{Lost, Served, Attended}
use Rattle.vault_words.specs.declared.jobs.Job.{Job}
use Rattle.vault_words.specs.declared.jobs.Job.TheVariants.{Rights, Serve as ServeJob}
use Rattle.vault_jobs.specs.Lists.{begin_of}
use Rattle.vault_jobs.specs.declared.task.Task.{Task}
use Rattle.vault_jobs.specs.declared.task.Task.TheVariants.{Give, Settle, Serve}
use Rattle.vault_app.specs.Asked.{AsksFor}
use Rattle.vault_promise.specs.Exact.{AreRightsIn}
use Rattle.vault_promise.specs.Runs.{OfRun, Run}

-- the words name at this path the file of a list of rights
abbrev pub IsRightsPath : Job → List ℕ → Type 0
IsRightsPath (Rights j) path = j.rights.now ≡ path
IsRightsPath (ServeJob j) path = IsSomeAnd j.rights (λ file. file.now ≡ path)
IsRightsPath job path = ⊥

abbrev pub NamesList : List Text → List ℕ → Type 0
NamesList words path = AsksFor words (λ job. IsRightsPath job path)

-- the file of the run's list had this text before the run
abbrev pub HadBefore : Run → List ℕ → Type 0
HadBefore r text = (path : List ℕ) × NamesList r.words path × (r.texts.said path text ≡ true)

-- it had it, whole, at the look before a service listens
abbrev pub HadFirst : Run → List ℕ → Type 0
HadFirst r text = (path : List ℕ) × NamesList r.words path × (r.texts.looked path 0 text ≡ true)
    × (is_whole text ≡ true)

-- it had it at two looks, one after the other
abbrev pub HadTwice : Run → List ℕ → Type 0
HadTwice r text = (path : List ℕ) × NamesList r.words path
    × ((look : ℕ) × (r.texts.looked path look text ≡ true) × (r.texts.looked path (look + 1) text ≡ true))

-- The commands are the first of those that make the rights of the vault exactly those of rows; these are left.
-- The rows are those of a text that the file had; and where none is left and all are done, the rights are
-- exactly those that it names.
pub record MakesRights (Had : List ℕ → Type 0) (V : Content) (cs left : List Command) : Type 0 where
  pub text : List ℕ
  pub had : Had text
  pub rows : List Row
  pub listed : AreRowsIn text rows
  pub now : ℕ
  pub are : cs ++ left ≡ changes_at true now rows (rights_of V)
  pub exact : left ≡ [] → AreDone (length cs) cs V → AreRightsIn text (run cs V)

-- no command gives or withdraws a right
abbrev pub KeepsRights : Command → Type 0
KeepsRights c = (gives c ≡ false) × (withdraws c ≡ false)

-- What is done between two connections gives and withdraws no right; or it makes the rights those of a text
-- that the file had at two looks.
abbrev pub TurnsFollow : Run → Content → List Turn → List Command → Type 0
TurnsFollow r V [] cs = Unit {0}
TurnsFollow r V (Lost ∷ ts) cs = TurnsFollow r V ts cs
TurnsFollow r V (Served x ∷ ts) cs = (first more : List Command) × (cs ≡ first ++ more)
    × TurnsFollow r (run first V) ts more
TurnsFollow r V (Attended first news ∷ ts) cs =
    (All KeepsRights first ⊎ (left : List Command) × MakesRights (HadTwice r) V first left)
    × ((more : List Command) × (cs ≡ first ++ more) × TurnsFollow r (run first V) ts more)

-- Rights that are given by a list, or made those of a list, are those of a text that its file had before the
-- run. Before a service answers a connection the rights are exactly those of a whole text that it had then.
abbrev pub FollowsList : Run → Task → Content → List Command → Type 0
FollowsList r (Give rows now) V cs = (text : List ℕ) × HadBefore r text × AreRowsIn text rows.items
FollowsList r (Settle rows now) V cs = (left : List Command) × MakesRights (HadBefore r) V cs left
FollowsList r (Serve service) V cs =
    (let first = begin_of service.lists V in
    IfSome service.lists.rights (λ it. HadFirst r it.text.items × AreRowsIn it.text.items it.rows.items)
    × ((r.streams.turns ≡ []) ⊎ ((more : List Command) × (cs ≡ first ++ more)
    × IfSome service.lists.rights (λ it. AreRightsIn it.text.items (run first V))
    × TurnsFollow r (run first V) r.streams.turns more)))
FollowsList r task V cs = Unit {0}

-- so of a run that worked
abbrev pub FollowsIts : OfRun
FollowsIts V c r (inl w) rs end more = FollowsList r w.task w.opened w.answered
FollowsIts V c r (inr rests) rs end more = Unit {0}
