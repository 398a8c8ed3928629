-- What is said of a list that is followed.
use Rattle.std.specs.Prelude.{◌≡◌, ◌==◌, ℕ, Bool, true, false, List, [], ◌++◌, codes, decimal, filter}
use Rattle.std.specs.Prelude.{◌<◌, IfSome, None, Option, Some, length}
use Rattle.vault_changes.specs.Grants.{AreDone}
use Rattle.vault_changes.specs.Moments.{is_merchant_behind}
use Rattle.vault_changes.specs.Purges.{purges_of}
use Rattle.vault_core.specs.Keys.{Bytes}
use Rattle.vault_core.specs.Name.{IsName}
use Rattle.vault_core.specs.Scalar.{IsMoment}
use Rattle.vault_core.specs.Runs.{run}
use Rattle.vault_core.specs.Vault.{Vault as Content}
use Rattle.vault_core.specs.declared.command.Command.{Command}
use Rattle.vault_core.specs.declared.command.Command.TheVariants.{Grant, SetMerchant, Withdraw}
use Rattle.vault_refusal.specs.Refusal.{number_of}
use Rattle.vault_refusal.specs.declared.refusal.Refusal.TheVariants.{NoMerchant}
use Rattle.vault_live.specs.Subject.{name_of}
use Rattle.vault_live.specs.declared.news.News.{News}
use Rattle.vault_live.specs.declared.news.News.TheVariants.{Nothing, Changed, Set, Refused, Unread}
use Rattle.vault_live.specs.declared.news.News.TheVariants.{Unfinished, Purged, Unswept, Waits}

-- the end of a line, which says when
abbrev pub at_text : ℕ → List ℕ
at_text now = codes " at " ++ decimal now ++ codes "\n"

-- the beginning of a line of a sweep, which says of which merchant
abbrev pub sweep_text : Bytes → List ℕ
sweep_text m = codes "sweep of " ++ m

-- the line that says it; there is none of nothing
abbrev pub line_of : News → List ℕ
line_of Nothing = []
line_of (Changed given withdrawn now) =
    codes "rights granted " ++ decimal given ++ codes " withdrawn " ++ decimal withdrawn ++ at_text now
line_of (Set count now) = codes "merchants set " ++ decimal count ++ at_text now
line_of (Refused about number now) = name_of about ++ codes " refused " ++ decimal number ++ at_text now
line_of (Unread about now) = name_of about ++ codes " unread" ++ at_text now
line_of (Unfinished about now) = name_of about ++ codes " unfinished" ++ at_text now
line_of (Purged m count now) = sweep_text m ++ codes " purged " ++ decimal count ++ at_text now
line_of (Unswept m number now) = sweep_text m ++ codes " refused " ++ decimal number ++ at_text now
line_of (Waits m now) = sweep_text m ++ codes " waits" ++ at_text now

-- whether it says that a list is refused for want of a merchant
abbrev pub wants_merchant : News → Bool
wants_merchant (Refused about number now) = number == number_of NoMerchant
wants_merchant news = false

-- whether a command gives a right
abbrev pub gives : Command → Bool
gives (Grant caller m right until now) = true
gives c = false

-- whether it withdraws one
abbrev pub withdraws : Command → Bool
withdraws (Withdraw caller m right now) = true
withdraws c = false

-- whether it sets a merchant
abbrev pub sets : Command → Bool
sets (SetMerchant m single multi lead now) = true
sets c = false

-- it says that a merchant isn't swept
abbrev pub is_idle : News → Bool
is_idle (Unswept m number now) = true
is_idle (Waits m now) = true
is_idle news = false

-- the moment that it says, the number of a refusal, and the merchant, where it says one
abbrev pub moment_in : News → Option ℕ
moment_in Nothing = None
moment_in (Changed given withdrawn now) = Some now
moment_in (Set count now) = Some now
moment_in (Refused about number now) = Some now
moment_in (Unread about now) = Some now
moment_in (Unfinished about now) = Some now
moment_in (Purged m count now) = Some now
moment_in (Unswept m number now) = Some now
moment_in (Waits m now) = Some now

abbrev pub number_in : News → Option ℕ
number_in (Refused about number now) = Some number
number_in (Unswept m number now) = Some number
number_in news = None

abbrev pub merchant_in : News → Option Bytes
merchant_in (Purged m count now) = Some m
merchant_in (Unswept m number now) = Some m
merchant_in (Waits m now) = Some m
merchant_in news = None

-- they are values of their types: a moment is one up to the year 9999, a number has three digits at most, and a
-- merchant's name is a name
pub record AreNewsValues (news : News) : Type 0 where
  pub moment : IfSome (moment_in news) IsMoment
  pub number : IfSome (number_in news) (λ n. n < 256)
  pub merchant : IfSome (merchant_in news) IsName

-- What is said of commands that were carried out from a vault. Nothing is said of none. All were done, and
-- so many of them gave and withdrew rights, or set merchants; or they purge tokens of the merchant, and are
-- so many. Or a list or a sweep is refused, or a list can't be read or isn't whole, and nothing changed. Or a
-- sweep waits, and the merchant's moment is far behind.
abbrev pub IsSaidOf : News → Content → List Command → Type 0
IsSaidOf Nothing V cs = cs ≡ []
IsSaidOf (Changed given withdrawn now) V cs =
    (given ≡ length (filter gives cs)) × (withdrawn ≡ length (filter withdraws cs))
    × AreDone (length cs) cs V
IsSaidOf (Set count now) V cs = (count ≡ length (filter sets cs)) × AreDone (length cs) cs V
IsSaidOf (Refused about number now) V cs = run cs V ≡ V
IsSaidOf (Unread about now) V cs = cs ≡ []
IsSaidOf (Unfinished about now) V cs = cs ≡ []
IsSaidOf (Purged m count now) V cs = (caller : Bytes) × (tokens : List Bytes)
    × (cs ≡ purges_of caller m now tokens) × (count ≡ length tokens) × AreDone (length cs) cs V
IsSaidOf (Unswept m number now) V cs = run cs V ≡ V
IsSaidOf (Waits m now) V cs = (cs ≡ []) × (is_merchant_behind V m now ≡ true)
