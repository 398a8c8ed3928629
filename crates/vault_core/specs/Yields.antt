-- Numbers are yielded to those entitled, and counted, over every list of commands.
use Rattle.std.specs.Prelude.{◌≡◌, ℕ, ◌+◌, ◌<◌, ◌&&◌, Bool, true, false, List, [], ◌∷◌, Some, if◌then◌else◌}
use Rattle.std.specs.Option.{option_map_or}
use Rattle.vault_pan.specs.CardText.{same}
use Rattle.vault_core.specs.Keys.{Bytes}
use Rattle.vault_core.specs.Named.{merchant_of, is_denial}
use Rattle.vault_core.specs.Proper.{AllProper}
use Rattle.vault_core.specs.Runs.{run}
use Rattle.vault_core.specs.Sound.{Sound}
use Rattle.vault_core.specs.Table.{reply, after}
use Rattle.vault_core.specs.Vault.{Vault, merchant_at, entry_at, entitled, is_live}
use Rattle.vault_core.specs.Window.{moment_at}
use Rattle.vault_core.specs.declared.limit.TheConstants.{MOST_COUNT}
use Rattle.vault_core.specs.declared.command.Command.{Command}
use Rattle.vault_core.specs.declared.command.Command.TheVariants.{Detokenize as Redeem}
use Rattle.vault_core.specs.declared.reply.Reply.{Reply}
use Rattle.vault_core.specs.declared.reply.Reply.TheVariants.{Number, Refused}
use Rattle.vault_core.specs.declared.right.Right.TheVariants.{Detokenize}
use Rattle.vault_core.specs.declared.row.Entry.{Entry}

-- how many numbers a merchant gave; none where it isn't known
abbrev pub given_by : Vault → Bytes → ℕ
given_by V m = option_map_or (λ merchant. merchant.given) (merchant_at V m) 0

-- how many numbers a merchant denied; none where it isn't known
abbrev pub denied_by : Vault → Bytes → ℕ
denied_by V m = option_map_or (λ merchant. merchant.denied) (merchant_at V m) 0

-- After any commands from a sound vault a Detokenize by a caller that is entitled, of a token that is live at
-- the command's moment, is answered the number that the token stands for, while the merchant's count of
-- numbers given is below its limit
abbrev pub LiveTokensYield : Type 0
LiveTokensYield =
    (V : Vault) (cs : List Command) → Sound V → AllProper cs
    → (caller m token : Bytes) (now : ℕ) (entry : Entry)
    → entitled (run cs V) caller m Detokenize (moment_at (run cs V) m now) ≡ true
    → entry_at (run cs V) m token ≡ Some entry
    → is_live entry (moment_at (run cs V) m now) ≡ true
    → given_by (run cs V) m < MOST_COUNT
    → (number : Bytes) × (entry.number ≡ Some number)
    × (reply (run cs V) (Redeem caller m token now) ≡ Number number)

-- whether a reply gives a number
abbrev pub gives_number : Reply → Bool
gives_number (Number number) = true
gives_number reply = false

-- whether the reply to a command is a denial, which is counted
abbrev pub denies_number : Command → Reply → Bool
denies_number c (Refused number) = is_denial c number
denies_number c reply = false

-- how many of the commands at a merchant were answered so
abbrev pub answered_so : (Command → Reply → Bool) → Bytes → List Command → Vault → ℕ
answered_so so m [] V = 0
answered_so so m (c ∷ cs) V =
    (if same (merchant_of c) m && so c (reply V c) then 1 else 0) + answered_so so m cs (after V c)

-- each number that a merchant gave, and each that it denied, is exactly one step of its count, and
-- nothing else is a step
abbrev pub CountsFollow : Type 0
CountsFollow =
    (V : Vault) (cs : List Command) (m : Bytes)
    → (given_by (run cs V) m ≡ given_by V m + answered_so (λ c. gives_number) m cs V)
    × (denied_by (run cs V) m ≡ denied_by V m + answered_so denies_number m cs V)
