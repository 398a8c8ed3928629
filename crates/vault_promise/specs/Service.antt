-- What a service does with a connection is one function of the vault, the bytes and the pairs.
use Rattle.std.specs.Prelude.{◌≡◌, ◌⊎◌, ℕ, List, ◌∷◌, ◌++◌, take, All, Option, Some}
use Rattle.std.specs.List.{flat_map}
use Rattle.vault_core.specs.Vault.{Vault as Content}
use Rattle.vault_store.specs.declared.vault.Vault.{Vault}
use Rattle.vault_wire.specs.Messages.{IsMessage, Request, print_message}
use Rattle.vault_wire.specs.declared.fault.WireFault.{WireFault}
use Rattle.vault_wire.specs.declared.watched.Watched.{Watched}
use Rattle.vault_http.specs.Exchanges.{fault_text, last_text}
use Rattle.vault_engine.specs.Asking.{Pair}
use Rattle.vault_engine.specs.Passing.{IsBefore, Keeps, Passage, Sends, Takes, giving, vault_passing}
use Rattle.vault_engine.specs.Passing.{sending}
use Rattle.vault_http.specs.Served.{IsServed, IsStopped}
use Rattle.vault_engine.specs.declared.stop.Stop.{Stop as ServeFault}
use Rattle.vault_http.specs.declared.served.Served.{Served}
use Rattle.vault_promise.specs.Agreement.{IsAmbiguous, IsOfHead, IsRest}

-- a service with these pairs, from this vault, did this with what it left of the bytes
pub record ServesSo (pairs : List Pair) (V : Content) (w : Passage) (Does : Option (List ℕ) → Type 0)
    : Type 0 where
  pub left : Option (List ℕ)
  pub does : Does left
  pub taken : Takes w pairs
  pub before : IsBefore w V

-- a service served these bytes, all that a reader had, to the end, with these pairs, from this vault
abbrev pub Serves : List ℕ → List Pair → Content → Passage → Served → Type 0
Serves bytes pairs V w served = ServesSo pairs V w (λ left. IsServed (Some bytes) left w served)

-- some beginning of the bytes is ambiguous after all its whole messages
pub record HasAmbiguousRest (bytes : List ℕ) : Type 0 where
  pub front : List ℕ
  pub later : List ℕ
  pub rest : List ℕ
  pub whole : bytes ≡ front ++ later
  pub after : IsRest front rest
  pub ambiguous : IsAmbiguous rest

-- two services sent the same bytes, told the same and keep the same vault
pub record DidTheSame (w w' : Passage) (served served' : Served) : Type 0 where
  pub out : List ℕ
  pub sent : Sends w out
  pub sent' : Sends w' out
  pub told : served ≡ served'
  pub after : Content
  pub kept : Keeps w after
  pub kept' : Keeps w' after

-- the same, but for the last answer: each may have answered another of no fault, 50 and 51
pub record DidTheSameTillFault (w w' : Passage) (served served' : Served) : Type 0 where
  pub out : List ℕ
  pub sent : Sends w (out ++ last_text served.fault)
  pub sent' : Sends w' (out ++ last_text served'.fault)
  pub messages : served.messages ≡ served'.messages
  pub fault : IsOfHead served.fault
  pub fault' : IsOfHead served'.fault
  pub after : Content
  pub kept : Keeps w after
  pub kept' : Keeps w' after

-- Two services that served these bytes to the end, with these pairs, from this vault, did the same, to the
-- byte; but where some beginning of the bytes has an ambiguous rest, their last answers may differ.
abbrev pub ServicesAgree : Passage → Passage → Type 0
ServicesAgree w w' =
    (bytes : List ℕ) (pairs : List Pair) (V : Content) (served served' : Served)
    → Serves bytes pairs V w served → Serves bytes pairs V w' served'
    → DidTheSame w w' served served' ⊎ (HasAmbiguousRest bytes × DidTheSameTillFault w w' served served')

-- Bytes that are whole messages, or a beginning of some, have no ambiguous rest: of these two services that
-- served to the end did the same, to the byte.
abbrev pub MessagesAreClear : Type 0
MessagesAreClear =
    (bytes more : List ℕ) (m : Request) (ms : List Request) → All IsMessage (m ∷ ms)
    → bytes ++ more ≡ flat_map print_message (m ∷ ms) → ¬ HasAmbiguousRest bytes

-- a service of these bytes, with these pairs, from this vault, stopped by a fault
abbrev pub StopsServing : List ℕ → List Pair → Content → Passage → ServeFault → Type 0
StopsServing bytes pairs V w e = ServesSo pairs V w (λ left. IsStopped (Some bytes) left w e)

-- what the second one sent is a beginning of what the first one sent
pub record SentBeginning (w w' : Passage) : Type 0 where
  pub out : List ℕ
  pub later : List ℕ
  pub sent : Sends w (out ++ later)
  pub sent' : Sends w' out

-- the same, but for the last answer: the second one sent a beginning of another of 50 and 51
pub record SentBeginningTillFault (w w' : Passage) (served : Served) : Type 0 where
  pub out : List ℕ
  pub other : WireFault
  pub part : ℕ
  pub sent : Sends w (out ++ last_text served.fault)
  pub sent' : Sends w' (out ++ take part (fault_text other))
  pub fault : IsOfHead served.fault
  pub fault' : IsOfHead (Some other)

-- A service that stopped sent a beginning of what one sends that serves the same bytes to the end from the
-- same vault, with the same pairs and then maybe more; but where some beginning of the bytes has an ambiguous
-- rest, their last answers may differ.
abbrev pub StoppedServicesAgree : Passage → Passage → Type 0
StoppedServicesAgree w w' =
    (bytes : List ℕ) (pairs more : List Pair) (V : Content) (served : Served) (e : ServeFault)
    → Serves bytes (pairs ++ more) V w served → StopsServing bytes pairs V w' e
    → SentBeginning w w' ⊎ (HasAmbiguousRest bytes × SentBeginningTillFault w w' served)

-- this holds of each passage of a kind of source, of writer and of tables
abbrev pub EachPassage : {S W T : Type 0} → (S → List Pair) → (W → Option (List ℕ)) → (T → Type 0)
    → (T → Content → Type 0) → (T → Content → Content → Type 0) → (Passage → Type 0) → Type 0
EachPassage {S} {W} {T} given contents honest holds leaves P =
    (s s' : S) (w w' : Watched W) (v v' : Vault T)
    → P (sending contents w w' (giving given s s' (vault_passing honest holds leaves v v')))
