-- Lists that are followed.
use Rattle.std.specs.Str.{bytes_eq}
use Rattle.std.specs.Prelude.{◌≡◌, ◌⊎◌, ◌+◌, ◌<◌, ◌≤◌, ℕ, List, Option, Some, None, IfSome, IsSomeAnd, true, ◌||◌}
use Rattle.std.specs.Prelude.{Bool, codes, nat_eq}
use Rattle.std.specs.Prelude.{unwrap_or}
use Rattle.std.specs.Duration.{as_nanos}
use Rattle.std.specs.declared.time.Duration.{Duration}
use Rattle.std.specs.List.{ends_with}
use Rattle.std.specs.Global.{Vec}
use Rattle.toml.specs.Data.{Members}
use Rattle.vault_core.specs.Proper.{AllProper}
use Rattle.vault_core.specs.Vault.{Vault as Content}
use Rattle.vault_core.specs.declared.command.Command.{Command}
use Rattle.vault_listen.specs.Live.{Turns}
use Rattle.vault_merchants.specs.ListedMerchants.{AreListed}
use Rattle.vault_rights.specs.Faults.{IsDocument}
use Rattle.vault_rights.specs.Named.{IsListOf, Names, Row}
use Rattle.vault_rights.specs.Proper.{IsProper}
use Rattle.vault_live.specs.Kinds.{Naming, Wanting, merchants_changes, rights_changes}
use Rattle.vault_live.specs.declared.follower.Followed.{Followed}
use Rattle.vault_live.specs.declared.remembered.Left.TheVariants.{Nothing}
use Rattle.vault_live.specs.declared.remembered.Remembered.{Remembered}

-- which text a file had at which look
abbrev pub Looks : Type 1
Looks = ℕ → List ℕ → Type 0

-- the bytes of a text that is kept
abbrev pub text_in : Option (Vec ℕ) → Option (List ℕ)
text_in None = None
text_in (Some text) = Some text.items

-- the text in force
abbrev pub in_force : Followed → List ℕ
in_force f = unwrap_or (text_in f.taken) f.began.now

-- the text of the last look, where it isn't the one in force
abbrev pub pending_of : Followed → Option (List ℕ)
pending_of f = text_in f.pending

-- the text ends with a line, given with the end of the line before it and by itself
abbrev pub has_last : List ℕ → List ℕ → List ℕ → Bool
has_last text behind alone = ends_with nat_eq text behind || bytes_eq text alone

-- A list is whole where its last line is `# end`, whether LF, CR LF or nothing ends that line.
abbrev pub is_whole : List ℕ → Bool
is_whole text = has_last text (codes "\n# end\n") (codes "# end\n")
    || (has_last text (codes "\n# end\r\n") (codes "# end\r\n")
    || has_last text (codes "\n# end") (codes "# end"))

-- the text is settled at a look: it is whole, and the file had it then and at the look before
pub record IsSettledAt (says : Looks) (look : ℕ) (text : List ℕ) : Type 0 where
  pub before : ℕ
  pub next : before + 1 ≡ look
  pub first : says before text
  pub again : says look text
  pub whole : is_whole text ≡ true

-- the rows are the rights that a text names, in order and each once, with the latest of its ends
abbrev pub AreRowsIn : List ℕ → List Row → Type 0
AreRowsIn text rows = (document : Members) × IsDocument text document × IsProper document
    × IsListOf (Names document) rows

-- the rows are those of a text that is settled at some look
abbrev pub AreSettled : {X : Type 0} → Naming X → Looks → List X → Type 0
AreSettled names says rows = (look : ℕ) × (text : List ℕ) × IsSettledAt says look text × names text rows

-- The commands are those that rows of a text ask for that was settled at a look, at a moment that was told
-- for it alone. They are proper.
pub record Asks {X : Type 0} (names : Naming X) (wants : Wanting X) (says : Looks) (tells : Turns)
    (V : Content) (cs : List Command) : Type 0 where
  pub rows : List X
  pub settled : AreSettled names says rows
  pub now : ℕ
  pub told : tells 0 now
  pub are : cs ≡ wants now rows V
  pub proper : AllProper cs

-- the commands make the rights exactly those of such a text
abbrev pub AsksExact : Looks → Turns → Content → List Command → Type 0
AsksExact says tells V cs = Asks AreRowsIn rights_changes says tells V cs

-- the commands set the merchants of such a text that aren't held so; none is removed
abbrev pub AsksMerchants : Looks → Turns → Content → List Command → Type 0
AsksMerchants says tells V cs = Asks AreListed merchants_changes says tells V cs

-- the text that was taken last
abbrev pub taken_of : Followed → Option (List ℕ)
taken_of f = text_in f.taken

-- it was settled at one of the looks that were made
abbrev pub WasSettled : Looks → ℕ → List ℕ → Type 0
WasSettled says looks text = (look : ℕ) × (look < looks) × IsSettledAt says look text

-- the rows are those of the text that was taken last, and there are none where none was
abbrev pub HaveTaken : {X : Type 0} → Naming X → Option (List ℕ) → Option (Vec X) → Type 0
HaveTaken names None None = Unit {0}
HaveTaken names None (Some rows) = ⊥
HaveTaken names (Some text) None = ⊥
HaveTaken names (Some text) (Some rows) = names text rows.items

-- What waits to be seen again was the file's at the last look, and the text that was taken last was settled at
-- one. The rows are those of that text, and of none before it.
pub record Remembers {X : Type 0} (names : Naming X) (says : Looks) (kept : Remembered X) : Type 0 where
  pub pending : IfSome (pending_of kept.list) (λ text. (last : ℕ) × (last + 1 ≡ kept.look) × says last text)
  pub taken : IfSome (taken_of kept.list) (WasSettled says kept.look)
  pub rows : HaveTaken names (taken_of kept.list) kept.rows

-- half a second or more lies between two times
abbrev pub IsPaused : Duration → Duration → Type 0
IsPaused before now = as_nanos before + 500000000 ≤ as_nanos now

-- no look was made, or one, half a second or more after the one before it
abbrev pub LooksOnce : {X : Type 0} → Remembered X → Remembered X → Type 0
LooksOnce old new = (new.look ≡ old.look)
    ⊎ (new.look ≡ old.look + 1) × IsSomeAnd new.last (λ now. IfSome old.last (λ before. IsPaused before now))

-- nothing was looked at yet, and this text is in force
pub record IsFresh {X : Type 0} (kept : Remembered X) (text : List ℕ) : Type 0 where
  pub force : in_force kept.list ≡ text
  pub none : pending_of kept.list ≡ None
  pub untaken : taken_of kept.list ≡ None
  pub rowless : kept.rows ≡ None
  pub done : kept.left ≡ Nothing
