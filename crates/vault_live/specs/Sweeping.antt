-- Sweeps between connections: whose dead tokens are purged, and by whom.
use Rattle.std.specs.Prelude.{◌≡◌, ◌⊎◌, ℕ, List, Option, Some, None, true, false, slice_get, take}
use Rattle.std.specs.Global.{Vec}
use Rattle.vault_core.specs.Dead.{dead_tokens}
use Rattle.vault_core.specs.Keys.{Bytes}
use Rattle.vault_core.specs.Proper.{AllProper}
use Rattle.vault_core.specs.Vault.{Vault as Content}
use Rattle.vault_core.specs.declared.command.Command.{Command}
use Rattle.vault_listen.specs.Live.{Turns}
use Rattle.vault_merchants.specs.ListedMerchants.{AreListed, Wanted}
use Rattle.vault_changes.specs.Grants.{AreDone}
use Rattle.vault_changes.specs.Moments.{is_merchant_ahead, is_merchant_behind}
use Rattle.vault_changes.specs.Purges.{purges_of}
use Rattle.vault_live.specs.Following.{AreSettled, Looks}
use Rattle.vault_live.specs.News.{IsSaidOf}
use Rattle.vault_live.specs.Turns.{Asking}
use Rattle.vault_live.specs.declared.news.News.{News}
use Rattle.vault_live.specs.declared.sweeping.Due.{Due}
use Rattle.vault_live.specs.declared.sweeping.Due.TheVariants.{Nothing, Ahead, Behind, Purges}
use Rattle.vault_live.specs.declared.sweeping.Sweeper.{Sweeper}

-- a row of the list names the merchant, and the caller by whom its dead tokens are purged
abbrev pub NamesSweeper : List Wanted → Sweeper → Type 0
NamesSweeper rows it = (i : ℕ) × (row : Wanted) × (slice_get rows i ≡ Some row)
    × (row.0 ≡ it.merchant) × (row.4 ≡ Some it.caller)

-- So does the list with which the service began, or one of a text that was settled.
abbrev pub IsSweeper : List Wanted → Looks → Sweeper → Type 0
IsSweeper began says it = (rows : List Wanted) × (rows ≡ began ⊎ AreSettled AreListed says rows)
    × NamesSweeper rows it

-- the purges of the merchant's first dead tokens at a moment, a hundred at most
abbrev pub first_purges : Sweeper → ℕ → Content → List Command
first_purges it now V = purges_of it.caller it.merchant now (take 100 (dead_tokens V it.merchant now))

-- the merchant's moment is neither more than a day ahead of this one nor more than 31 days behind it
abbrev pub IsNear : Content → Bytes → ℕ → Type 0
IsNear V m now = (is_merchant_ahead V m now ≡ false) × (is_merchant_behind V m now ≡ false)

-- what a sweep of the merchant asks for at a moment that is near: those purges, which are proper
abbrev pub AsksFirst : Sweeper → ℕ → Asking
AsksFirst it now V cs = IsNear V it.merchant now × (cs ≡ first_purges it now V) × AllProper cs

-- what is due of a merchant, by the vault that is held
abbrev pub IsDue : Bytes → ℕ → Due → Content → Type 0
IsDue m now Nothing V = Unit {0}
IsDue m now Ahead V = is_merchant_ahead V m now ≡ true
IsDue m now Behind V = is_merchant_behind V m now ≡ true
IsDue m now (Purges tokens) V = IsNear V m now × (tokens.items ≡ take 100 (dead_tokens V m now))

-- this is said of the first of some commands, where so many of them are done
abbrev pub IsSaidOfFirst : News → ℕ → List Command → Content → Type 0
IsSaidOfFirst news done cs V = AreDone done cs V → IsSaidOf news V (take done cs)

-- The commands are the purges of the first dead tokens of a merchant of a list, by the caller that it names,
-- at a moment that was told for them alone and is near the merchant's.
pub record AsksPurges (began : List Wanted) (says : Looks) (tells : Turns) (V : Content) (cs : List Command)
    : Type 0 where
  pub sweeper : Sweeper
  pub named : IsSweeper began says sweeper
  pub now : ℕ
  pub told : tells 0 now
  pub are : AsksFirst sweeper now V cs

-- the rows of the list in force: those with which the service began, until a text is taken
abbrev pub rows_in : List Wanted → Option (Vec Wanted) → List Wanted
rows_in began None = began
rows_in began (Some rows) = rows.items
