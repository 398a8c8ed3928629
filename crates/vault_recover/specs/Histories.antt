-- Sessions one after the other: commands that are answered or that a stop leaves undecided, stores that are
-- opened again, and stores that move to the next schema.
use Rattle.std.specs.Prelude.{◌≡◌, ◌⊎◌, ◌≤◌, ◌+◌, ◌==◌, ◌&&◌, ℕ, Bool, true, false, List, [], ◌∷◌, Option}
use Rattle.std.specs.Prelude.{Some, None, IfSome, nat_lt, if◌then◌else◌}
use Rattle.std.specs.FinMap as map
use Rattle.std.specs.List.{Contains}
use Rattle.std.specs.Option.{option_map_or}
use Rattle.vault_pan.specs.CardText.{same}
use Rattle.vault_core.specs.Keys.{Bytes}
use Rattle.vault_core.specs.Named.{merchant_of, is_redeem}
use Rattle.vault_core.specs.Proper.{IsProper}
use Rattle.vault_core.specs.Sound.{Sound}
use Rattle.vault_core.specs.Parts.{command_of, request_in}
use Rattle.vault_core.specs.Table.{reply, after}
use Rattle.vault_core.specs.Vault.{Vault, empty_vault}
use Rattle.vault_core.specs.Yields.{given_by, gives_number}
use Rattle.vault_core.specs.declared.command.Command.{Command}
use Rattle.vault_core.specs.declared.command.TokenRequest.{TokenRequest}
use Rattle.vault_core.specs.declared.reply.Reply.{Reply}
use Rattle.vault_core.specs.declared.reply.Reply.TheVariants.{Token}

-- what happens to a store
pub data Step : Type 0 where
  Answered : Command → Reply → Step
  Undecided : Command → Step
  Reopened : Step
  Migrated : Step

-- One vault before the step and one after it. A command that is answered is done, and one without an answer
-- is done or not. A store that moves stands for the vault before: what an older schema can't hold has its
-- default in the vault that its rows stand for.
abbrev pub IsStep : Vault → Step → Vault → Type 0
IsStep V (Answered c r) W = (r ≡ reply V c) × (W ≡ after V c)
IsStep V (Undecided c) W = (W ≡ V) ⊎ (W ≡ after V c)
IsStep V Reopened W = W ≡ V
IsStep V Migrated W = W ≡ V

-- the command of a step
abbrev pub command_in : Step → Option Command
command_in (Answered c r) = Some c
command_in (Undecided c) = Some c
command_in Reopened = None
command_in Migrated = None

-- steps one after the other from a vault, each with the vault that it leaves; their commands are proper
abbrev pub IsHistory : Vault → List (Step × Vault) → Type 0
IsHistory V [] = Unit {0}
IsHistory V (s ∷ more) = IfSome (command_in s.0) IsProper × IsStep V s.0 s.1 × IsHistory s.1 more

-- the vault that the last step leaves
abbrev pub last : Vault → List (Step × Vault) → Vault
last V [] = V
last V (s ∷ more) = last s.1 more

-- each vault that a history from the empty vault leaves is sound; as the history is any, so is every vault on
-- the way
abbrev pub EveryVaultIsSound : Type 0
EveryVaultIsSound = (h : List (Step × Vault)) → IsHistory empty_vault h → Sound (last empty_vault h)

-- the step answers a caller's request with this token and its expires
abbrev pub AnswersToken : Bytes → ℕ → Bytes → ℕ → Step → Type 0
AnswersToken caller request token expires s =
    (a : TokenRequest) × (a.caller ≡ caller) × (a.request ≡ request)
    × (s ≡ Answered (command_of a) (Token token expires))

-- Whatever two tokens a history answers to one request of a caller, for whatever merchant, use and card
-- number: they are one, and so is the expires.
abbrev pub RequestsAnswerOnce : Type 0
RequestsAnswerOnce =
    (h : List (Step × Vault)) → IsHistory empty_vault h
    → (caller : Bytes) (request : ℕ) (token token' : Bytes) (expires expires' : ℕ) (s s' : Step × Vault)
    → Contains h s → Contains h s'
    → AnswersToken caller request token expires s.0 → AnswersToken caller request token' expires' s'.0
    → (token ≡ token') × (expires ≡ expires')

-- whether a command asks for a token by a caller's request
abbrev pub is_request_of : Bytes → ℕ → Command → Bool
is_request_of caller request c =
    option_map_or (λ a. same a.caller caller && a.request == request) (request_in c) false

-- whether a step makes an entry for a caller's request: its command is that request, and there is an entry
-- more afterwards
abbrev pub makes_entry : Bytes → ℕ → Vault → Step × Vault → Bool
makes_entry caller request V s =
    option_map_or (is_request_of caller request) (command_in s.0) false
    && nat_lt (map.len V.entries) (map.len s.1.entries)

-- how many steps from a vault make an entry for a caller's request
abbrev pub entries_made : Bytes → ℕ → Vault → List (Step × Vault) → ℕ
entries_made caller request V [] = 0
entries_made caller request V (s ∷ more) =
    (if makes_entry caller request V s then 1 else 0) + entries_made caller request s.1 more

-- at most one step of a history makes an entry for a caller's request
abbrev pub EntriesComeOnce : Type 0
EntriesComeOnce =
    (h : List (Step × Vault)) → IsHistory empty_vault h → (caller : Bytes) (request : ℕ)
    → entries_made caller request empty_vault h ≤ 1

-- whether a step answers a number of this merchant's
abbrev pub answers_number : Bytes → Step → Bool
answers_number m (Answered c r) = same (merchant_of c) m && gives_number r
answers_number m (Undecided c) = false
answers_number m Reopened = false
answers_number m Migrated = false

-- whether a step leaves it open that a number of this merchant's was given
abbrev pub leaves_number : Bytes → Step → Bool
leaves_number m (Answered c r) = false
leaves_number m (Undecided c) = same (merchant_of c) m && is_redeem c
leaves_number m Reopened = false
leaves_number m Migrated = false

-- how many steps are so
abbrev pub how_many : (Step → Bool) → List (Step × Vault) → ℕ
how_many so [] = 0
how_many so (s ∷ more) = (if so s.0 then 1 else 0) + how_many so more

-- a merchant's count of numbers given lies between those answered and those that may have been given
abbrev pub GivenIsWithin : Type 0
GivenIsWithin =
    (h : List (Step × Vault)) → IsHistory empty_vault h → (m : Bytes)
    → (how_many (answers_number m) h ≤ given_by (last empty_vault h) m)
    × (given_by (last empty_vault h) m ≤ how_many (answers_number m) h + how_many (leaves_number m) h)
