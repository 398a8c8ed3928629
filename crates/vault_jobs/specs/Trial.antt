-- The vault of a trial, and what a trial does with its input.
use Rattle.std.specs.Prelude.{◌≡◌, ℕ, List, [], ◌∷◌, ◌++◌, map, take, false}
use Rattle.std.specs.Prelude.{All, Option, Some, None}
use Rattle.std.specs.Io.KnownBytes.{Appends, Consumes, IsAtEnd}
use Rattle.vault_core.specs.Lives.{setting, usual_lives}
use Rattle.vault_core.specs.Table.{after}
use Rattle.vault_core.specs.Vault.{Vault as Content, empty_vault}
use Rattle.vault_core.specs.declared.command.Command.{Command}
use Rattle.vault_core.specs.declared.command.Command.TheVariants.{Grant}
use Rattle.vault_core.specs.declared.right.Right.{Right}
use Rattle.vault_core.specs.declared.right.Right.TheVariants.{Tokenize, Detokenize, View}
use Rattle.vault_core.specs.declared.right.Right.TheVariants.{Revoke, Purge, Audit}
use Rattle.vault_wire.specs.Messages.{Request, Reads}
use Rattle.vault_wire.specs.declared.fault.WireFault.{WireFault}
use Rattle.vault_wire.specs.Parts.{Parts}
use Rattle.vault_http.specs.Exchanges.{answer_for, has_close, last_text, message_kind, shown}
use Rattle.vault_engine.specs.Answered.{pairs_of, units_of}
use Rattle.vault_engine.specs.Asking.{Asked, Asks, Pair, texts}
use Rattle.vault_http.specs.Exchanges.{up_to_close}
use Rattle.vault_http.specs.Served.{Begins, answered_fault}
use Rattle.vault_listen.specs.Live.{AreGiven, Turns}
use Rattle.vault_jobs.specs.Streams.{Known}
use Rattle.vault_jobs.specs.declared.trial.Trial.{Trial}

-- all rights
abbrev pub all_rights : List Right
all_rights = Tokenize ∷ Detokenize ∷ View ∷ Revoke ∷ Purge ∷ Audit ∷ []

-- the vault that a command leaves
unfoldable pub left_by : Content → Command → Content
left_by V c = after V c

-- the vault that commands leave, one after the other
abbrev pub left_by_all : Content → List Command → Content
left_by_all V [] = V
left_by_all V (c ∷ cs) = left_by_all (left_by V c) cs

-- the grants of rights without an end to a caller at a merchant
abbrev pub grants : List ℕ → List ℕ → ℕ → List Right → List Command
grants caller m now rights = map (λ right. Grant caller m right None now) rights

-- one merchant with this life of single-use tokens and without multi-use ones, whose masks show six digits
-- at the left, where the caller has all rights
abbrev pub trial_vault : List ℕ → List ℕ → ℕ → ℕ → Content
trial_vault caller m life now =
    left_by_all empty_vault (setting m (usual_lives life 0 now) ∷ grants caller m now all_rights)

-- this stands of a trial, by the pairs that it may give and by its vault
abbrev pub of_trial : {C : Type 1} → Turns → Trial → ((List Pair → Type 0) → Content → C) → C
of_trial tells it Stands =
    Stands (AreGiven tells it.moment it.digits) (trial_vault it.caller it.merchant it.life it.made)

-- The bytes that were read are messages, and an open rest or a fault. All messages up to the first that
-- closes are asked, each with a pair of the trial's own. What went out is the texts that answer them, each by
-- the vault that those before it leave, and then the one that answers the fault; and where nothing closes, no
-- byte is left.
pub record IsTrial (Own : List Pair → Type 0) (V : Content) (left_old left_new sent_old sent_new : Known)
    : Type 0 where
  pub bytes : List ℕ
  pub messages : List Request
  pub fault : Option WireFault
  pub exchanges : List (Asked Parts)
  pub read : Consumes left_old left_new bytes
  pub reads : Reads bytes messages fault
  pub fixed : Own (pairs_of exchanges)
  pub asked : All (Asks message_kind) exchanges
  pub whole : units_of exchanges ≡ up_to_close (shown messages)
  pub ended : has_close (shown messages) ≡ false → fault ≡ None → IsAtEnd left_new
  pub sent : Appends sent_old sent_new
      (texts answer_for V exchanges ++ last_text (answered_fault messages fault))

-- a fault is answered last only where it comes after the messages and all of them are asked
abbrev pub IsLast : List ℕ → List Request → List (Asked Parts) → Option WireFault → Type 0
IsLast bytes messages exchanges None = Unit {0}
IsLast bytes messages exchanges (Some e) =
    Reads bytes messages (Some e) × (has_close (shown messages) ≡ false)
    × (units_of exchanges ≡ shown messages)

-- The bytes that were read begin with messages. The first of them, up to the first that closes at most, are
-- asked as in a trial, and of the texts that answer them, and the one that answers a fault after them, a
-- beginning went out.
pub record IsCut (Own : List Pair → Type 0) (V : Content) (left_old left_new sent_old sent_new : Known)
    : Type 0 where
  pub bytes : List ℕ
  pub messages : List Request
  pub exchanges : List (Asked Parts)
  pub rest : List Parts
  pub last : Option WireFault
  pub count : ℕ
  pub read : Consumes left_old left_new bytes
  pub begins : Begins bytes messages
  pub fixed : Own (pairs_of exchanges)
  pub asked : All (Asks message_kind) exchanges
  pub first : up_to_close (shown messages) ≡ units_of exchanges ++ rest
  pub ends : IsLast bytes messages exchanges last
  pub sent : Appends sent_old sent_new (take count (texts answer_for V exchanges ++ last_text last))
