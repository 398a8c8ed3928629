-- Two readings of one connection agree.
use Rattle.std.specs.Prelude.{◌≡◌, ◌⊎◌, ℕ, List, ◌++◌, All, Option, Some, None}
use Rattle.std.specs.List.{flat_map}
use Rattle.httparse.specs.Grammar.{EndsInTarget, NeverHasRequest, RequestHead, ReadsRequest}
use Rattle.vault_core.specs.Vault.{Vault as Content}
use Rattle.vault_core.specs.declared.command.Command.{Command}
use Rattle.vault_wire.specs.Messages.{Ends, HasNoMessage, HasTooManyFields, IsMessage, IsTooLong, Reads}
use Rattle.vault_wire.specs.Messages.{Request, WaitsForHead, print_message}
use Rattle.vault_wire.specs.Parts.{Parts}
use Rattle.vault_wire.specs.declared.fault.WireFault.{WireFault}
use Rattle.vault_wire.specs.declared.fault.WireFault.TheVariants as fault
use Rattle.vault_routes.specs.Wanted.{Wanted, Wants}
use Rattle.vault_engine.specs.Answered.{pairs_of, units_of}
use Rattle.vault_engine.specs.Asking.{Asked, Asks, texts}
use Rattle.vault_http.specs.Exchanges.{answer_for, message_kind}

-- no fault, or a fault of a head that isn't whole: 50 or 51
abbrev pub IsOfHead : Option WireFault → Type 0
IsOfHead e = (e ≡ None) ⊎ ((e ≡ Some fault.BadHead) ⊎ (e ≡ Some fault.HeadTooLarge))

-- Two readings of the same bytes have the same fault, but for the freedom among none, 50 and 51, where bytes
-- with no whole head may still become one, or are too many already.
abbrev pub FaultsAgree : Type 0
FaultsAgree = (bytes : List ℕ) (ms ns : List Request) (d e : Option WireFault)
    → Reads bytes ms d → Reads bytes ns e → (d ≡ e) ⊎ (IsOfHead d × IsOfHead e)

-- these bytes come after all whole messages of the bytes
pub record IsRest (bytes rest : List ℕ) : Type 0 where
  pub messages : List Request
  pub whole : bytes ≡ flat_map print_message messages ++ rest
  pub each : All IsMessage messages
  pub none : HasNoMessage rest

-- Bytes are ambiguous where two of none, 50 and 51 fit them: no bytes can follow that make a head, and these
-- end within a target, or are more than a head may have, or have a 33rd field; or some bytes can follow that
-- make a head, and these have a 33rd field.
abbrev pub IsAmbiguous : List ℕ → Type 0
IsAmbiguous rest =
    (NeverHasRequest rest × (EndsInTarget rest ⊎ (IsTooLong rest ⊎ HasTooManyFields rest)))
    ⊎ (WaitsForHead rest × HasTooManyFields rest)

-- Two readings of the same bytes have the same fault; but where the bytes after all whole messages are
-- ambiguous, each may have another of none, 50 and 51.
abbrev pub FaultsDifferOnlyWhereAmbiguous : Type 0
FaultsDifferOnlyWhereAmbiguous =
    (bytes : List ℕ) (ms ns : List Request) (d e : Option WireFault) → Reads bytes ms d → Reads bytes ns e
    → (d ≡ e) ⊎ ((rest : List ℕ) × IsRest bytes rest × IsAmbiguous rest × IsOfHead d × IsOfHead e)

-- ambiguous bytes have two readings whose faults differ
abbrev pub AmbiguousFitsTwo : Type 0
AmbiguousFitsTwo =
    (rest : List ℕ) → IsAmbiguous rest
    → (d : Option WireFault) × (e : Option WireFault) × (¬ (d ≡ e)) × Ends rest d × Ends rest e

-- where a whole head comes after all whole messages, of any size, two readings have the same fault
abbrev pub WholeHeadsAgree : Type 0
WholeHeadsAgree =
    (bytes rest after : List ℕ) (h : RequestHead) (ms ns : List Request) (d e : Option WireFault)
    → IsRest bytes rest → ReadsRequest rest h after → Reads bytes ms d → Reads bytes ns e → d ≡ e

-- what a message wants at a moment, with drawn digits, is one thing
abbrev pub WantsAgree : Type 0
WantsAgree = (p : Parts) (now : ℕ) (drawn : List ℕ) (one other : Wanted Command)
    → Wants p now drawn one → Wants p now drawn other → one ≡ other

-- messages that are asked with the same pairs are the same exchanges; and so are the texts that answer them
abbrev pub ExchangesAgree : Type 0
ExchangesAgree = (xs ys : List (Asked Parts)) → All (Asks message_kind) xs → All (Asks message_kind) ys
    → units_of xs ≡ units_of ys → pairs_of xs ≡ pairs_of ys
    → (xs ≡ ys) × ((V : Content) → texts answer_for V xs ≡ texts answer_for V ys)
