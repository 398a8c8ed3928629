-- What a service does with the bytes of a connection.
use Rattle.std.specs.Prelude.{◌≡◌, ℕ, ◌+◌, ◌<◌, ◌⊎◌, List, [], ◌++◌, length, take, All, false, Option}
use Rattle.std.specs.Prelude.{Some, None, IfErr, IfOk, MatchResult, Result, if◌then◌else◌}
use Rattle.std.specs.List.{flat_map}
use Rattle.std.specs.Io.KnownBytes.{Consumes, IsAtEnd}
use Rattle.vault_core.specs.Keys.{Bytes}
use Rattle.vault_core.specs.Vault.{Vault as Content}
use Rattle.vault_core.specs.Yields.{answered_so, given_by, gives_number}
use Rattle.vault_wire.specs.Messages.{Request, IsMessage, Reads, print_message}
use Rattle.vault_wire.specs.declared.fault.WireFault.{WireFault}
use Rattle.vault_wire.specs.Parts.{Parts}
use Rattle.vault_engine.specs.Answered.{pairs_of, units_of}
use Rattle.vault_engine.specs.Asking.{Asked, Asks, commands_of, texts, vault_after}
use Rattle.vault_engine.specs.Passing.{Passage, IsBefore, Keeps, Sends, Takes}
use Rattle.vault_engine.specs.Within.{AllAnswered, StopsWithin}
use Rattle.vault_http.specs.Exchanges.{answer_for, fault_text, has_close, last_text, message_kind, shown}
use Rattle.vault_http.specs.Exchanges.{up_to_close}
use Rattle.vault_engine.specs.declared.stop.Stop.{Stop as ServeFault}
use Rattle.vault_engine.specs.declared.stop.Stop.TheVariants as fault
use Rattle.vault_http.specs.declared.served.Served.{Served}

-- bytes as a reader has them left
abbrev Left : Type 0
Left = Option (List ℕ)

-- a fault is answered where no message closes the connection before it
abbrev pub answered_fault : List Request → Option WireFault → Option WireFault
answered_fault ms e = if has_close (shown ms) then None else e

-- the messages up to the first that closes are answered, or answering stopped among them
abbrev pub EndsAmong : {X : Type 0} → List Parts → Passage → Result X ServeFault → Type 0
EndsAmong messages w result = MatchResult result
    (λ _. AllAnswered message_kind [] w (up_to_close messages))
    (StopsWithin message_kind [] w (up_to_close messages))

-- The bytes that were read are messages, and an open rest or a fault; all messages up to the first that
-- closes are answered, and then the fault; where nothing closes the connection no byte is left.
pub record IsServed (left_old left_new : Left) (w : Passage) (served : Served) : Type 0 where
  pub bytes : List ℕ
  pub messages : List Request
  pub fault : Option WireFault
  pub exchanges : List (Asked Parts)
  pub read : Consumes left_old left_new bytes
  pub reads : Reads bytes messages fault
  pub taken : Takes w (pairs_of exchanges)
  pub asked : All (Asks message_kind) exchanges
  pub whole : units_of exchanges ≡ up_to_close (shown messages)
  pub counted : served.messages ≡ length exchanges
  pub told : served.fault ≡ answered_fault messages fault
  pub ended : has_close (shown messages) ≡ false → fault ≡ None → IsAtEnd left_new
  pub answered : (V : Content) → IsBefore w V
      → Sends w (texts answer_for V exchanges ++ last_text served.fault) × Keeps w (vault_after V exchanges)

-- Exchanges were answered, and of each merchant its count of numbers given is the one before and one more for
-- each of its numbers that went out in their texts.
pub record IsCounted (w : Passage) (served : Served) : Type 0 where
  pub exchanges : List (Asked Parts)
  pub answered : (V : Content) → IsBefore w V
      → Sends w (texts answer_for V exchanges ++ last_text served.fault) × Keeps w (vault_after V exchanges)
  pub given : (V : Content) (m : Bytes) → given_by (vault_after V exchanges) m
      ≡ given_by V m + answered_so (λ c. gives_number) m (commands_of exchanges) V

-- bytes begin with messages
pub record Begins (bytes : List ℕ) (ms : List Request) : Type 0 where
  pub rest : List ℕ
  pub whole : bytes ≡ flat_map print_message ms ++ rest
  pub each : All IsMessage ms

-- the bytes that were read are messages, and an open rest or this fault, and the service stopped among them
pub record StopsAmong (e : ServeFault) (left_old left_new : Left) (w : Passage)
    (fault : Option WireFault) : Type 0 where
  pub bytes : List ℕ
  pub messages : List Request
  pub read : Consumes left_old left_new bytes
  pub reads : Reads bytes messages fault
  pub stops : StopsWithin message_kind [] w (up_to_close (shown messages)) e

-- all messages are answered, and of the text that answers the fault after them only a beginning went out
pub record StopsAtFault (left_old left_new : Left) (w : Passage) : Type 0 where
  pub bytes : List ℕ
  pub messages : List Request
  pub fault : WireFault
  pub exchanges : List (Asked Parts)
  pub sent : ℕ
  pub read : Consumes left_old left_new bytes
  pub reads : Reads bytes messages (Some fault)
  pub open_till : has_close (shown messages) ≡ false
  pub taken : Takes w (pairs_of exchanges)
  pub asked : All (Asks message_kind) exchanges
  pub whole : units_of exchanges ≡ shown messages
  pub part : sent < length (fault_text fault)
  pub answered : (V : Content) → IsBefore w V
      → Sends w (texts answer_for V exchanges ++ take sent (fault_text fault))
      × Keeps w (vault_after V exchanges)

-- the bytes that were read begin with messages, and memory was refused among them or after them
pub record StopsForMemory (left_old left_new : Left) (w : Passage) : Type 0 where
  pub bytes : List ℕ
  pub messages : List Request
  pub read : Consumes left_old left_new bytes
  pub begins : Begins bytes messages
  pub stops : StopsWithin message_kind [] w (up_to_close (shown messages)) fault.Memory

-- where a service stopped, by its fault
abbrev pub IsStopped : Left → Left → Passage → ServeFault → Type 0
IsStopped old new w fault.Source = (e : Option WireFault) × StopsAmong fault.Source old new w e
IsStopped old new w fault.Read = StopsAmong fault.Read old new w None
IsStopped old new w fault.Write = ((e : Option WireFault) × StopsAmong fault.Write old new w e)
    ⊎ StopsAtFault old new w
IsStopped old new w fault.Store = (e : Option WireFault) × StopsAmong fault.Store old new w e
IsStopped old new w fault.Memory = StopsForMemory old new w

-- how a service of a connection ends: all is answered and each number that went out is counted, or it stopped
pub record Serves (old new : Left) (w : Passage) (r : Result Served ServeFault) : Type 0 where
  pub served : IfOk r (IsServed old new w)
  pub counted : IfOk r (IsCounted w)
  pub stopped : IfErr r (IsStopped old new w)
