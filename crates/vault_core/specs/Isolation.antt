-- What one merchant's commands are answered doesn't depend on the others: one command, and whole lists.
use Rattle.std.specs.Prelude.{◌≡◌, ◌≢◌, ℕ, Bool, List, [], ◌∷◌, Some, filter, if◌then◌else◌}
use Rattle.std.specs.List.{Contains}
use Rattle.vault_pan.specs.CardText.{same}
use Rattle.vault_core.specs.Keys.{Bytes}
use Rattle.vault_core.specs.Named.{merchant_of, caller_of}
use Rattle.vault_core.specs.Refusals.{too_many_merchants}
use Rattle.vault_core.specs.Runs.{replies}
use Rattle.vault_core.specs.Parts.{command_of}
use Rattle.vault_core.specs.Table.{reply, after}
use Rattle.vault_core.specs.Vault.{Vault, merchant_at, entry_at, record_at, entitled}
use Rattle.vault_core.specs.declared.command.Command.{Command}
use Rattle.vault_core.specs.declared.command.TokenRequest.{TokenRequest}
use Rattle.vault_core.specs.declared.reply.Reply.{Reply}
use Rattle.vault_core.specs.declared.reply.Reply.TheVariants.{Refused}
use Rattle.vault_core.specs.declared.right.Right.{Right}

-- two vaults have the same rows of a merchant: its own, its entries and whoever is entitled there
pub record AgreeAt (m : Bytes) (V W : Vault) : Type 0 where
  pub merchant : merchant_at V m ≡ merchant_at W m
  pub entries : (token : Bytes) → entry_at V m token ≡ entry_at W m token
  pub rights : (caller : Bytes) (right : Right) (at : ℕ)
      → entitled V caller m right at ≡ entitled W caller m right at

-- two vaults have the same records of a caller
abbrev pub AgreeFor : Bytes → Vault → Vault → Type 0
AgreeFor caller V W = (request : ℕ) → record_at V caller request ≡ record_at W caller request

-- a command of a caller at a merchant leaves all other merchants' rows and all other callers' records
pub record TouchesOnly (caller m : Bytes) (V W : Vault) : Type 0 where
  pub others : (other : Bytes) → other ≢ m → AgreeAt other V W
  pub records : (other : Bytes) → other ≢ caller → AgreeFor other V W

-- Where two vaults, sound or not, agree on a merchant's rows and on a caller's records, a command of that
-- caller at that merchant is answered the same in both, they agree on both afterwards, and nothing else
-- changes.
abbrev pub StepsAreIsolated : Type 0
StepsAreIsolated =
    (V W : Vault) (c : Command) (caller : Bytes) → caller_of c ≡ Some caller
    → AgreeAt (merchant_of c) V W → AgreeFor caller V W
    → (reply V c ≡ reply W c)
    × AgreeAt (merchant_of c) (after V c) (after W c)
    × AgreeFor caller (after V c) (after W c)
    × TouchesOnly caller (merchant_of c) V (after V c)

-- whether a command names a merchant
abbrev pub names : Bytes → Command → Bool
names m c = same (merchant_of c) m

-- the commands that name a merchant, in order
abbrev pub naming : Bytes → List Command → List Command
naming m cs = filter (names m) cs

-- the replies to the commands that name a merchant, where all commands are run
abbrev pub replies_naming : Bytes → List Command → Vault → List Reply
replies_naming m [] V = []
replies_naming m (c ∷ cs) V =
    if names m c then reply V c ∷ replies_naming m cs (after V c) else replies_naming m cs (after V c)

-- no caller's requests for tokens name two merchants
abbrev pub EachAtOneMerchant : List Command → Type 0
EachAtOneMerchant cs =
    (a b : TokenRequest) → Contains cs (command_of a) → Contains cs (command_of b)
    → a.caller ≡ b.caller → a.merchant ≡ b.merchant

-- no reply says that there are too many merchants
abbrev pub HasRoomForMerchants : List Command → Vault → Type 0
HasRoomForMerchants cs V = ¬ Contains (replies cs V) (Refused too_many_merchants)

-- Where no caller asks for tokens at two merchants and there is room for all merchants, leaving out all
-- commands that don't name a merchant leaves every reply to those that do.
abbrev pub RunsAreIsolated : Type 0
RunsAreIsolated =
    (V : Vault) (cs : List Command) (m : Bytes) → EachAtOneMerchant cs → HasRoomForMerchants cs V
    → replies_naming m cs V ≡ replies (naming m cs) V
