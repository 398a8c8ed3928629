-- Messages as a kind of what is asked, and the texts that answer them (RFC 9112, section 9.3).
use Rattle.std.specs.Prelude.{ℕ, List, [], ◌∷◌, map, Bool, true, Option, Some, None}
use Rattle.std.specs.Prelude.{Ok, Err, if◌then◌else◌}
use Rattle.std.specs.List.{list_any}
use Rattle.vault_core.specs.declared.command.Command.{Command}
use Rattle.vault_core.specs.declared.reply.Reply.{Reply}
use Rattle.vault_engine.specs.Asking.{Kind, kind}
use Rattle.vault_wire.specs.Answer.{answer_bytes}
use Rattle.vault_refusal.specs.Refusal.{number_of}
use Rattle.vault_refusal.specs.declared.refusal.Refusal.TheVariants.{BadMethod}
use Rattle.vault_wire.specs.Faults.{refusal_of}
use Rattle.vault_wire.specs.Messages.{Request}
use Rattle.vault_wire.specs.Parts.{Parts, parts_of, closes}
use Rattle.vault_wire.specs.declared.fault.WireFault.{WireFault}
use Rattle.vault_routes.specs.Reply.{body_text, refusal_text}
use Rattle.vault_routes.specs.Status.{status_for, status_of}
use Rattle.vault_routes.specs.Route.{methods_at}
use Rattle.vault_routes.specs.Wanted.{Wanted, Wants}

-- the methods that a message's target takes, which go with the refusal of another method
abbrev pub methods_with : Parts → Wanted Command → Option (List ℕ)
methods_with p (Err BadMethod) = methods_at p.target
methods_with p other = None

-- the text that answers a message which asks for this and is replied to so
abbrev pub answer_for : Parts → Wanted Command → Reply → List ℕ
answer_for p wanted r = answer_bytes (status_of r) (methods_with p wanted) (body_text r) (closes p)

-- messages, and the texts that answer them
abbrev pub message_kind : Kind Parts
message_kind = kind (λ p pair. Wants p pair.0 pair.1) answer_for

-- the text that answers a fault of the bytes, after which the connection closes
unfoldable pub fault_text : WireFault → List ℕ
fault_text e =
    let number = number_of (refusal_of e) in answer_bytes (status_for number) None (refusal_text number) true

-- the same, where there is a fault
abbrev pub last_text : Option WireFault → List ℕ
last_text None = []
last_text (Some e) = fault_text e

-- the messages up to the first that closes the connection, with it
abbrev pub up_to_close : List Parts → List Parts
up_to_close [] = []
up_to_close (p ∷ ps) = p ∷ (if closes p then [] else up_to_close ps)

-- one of them closes the connection
abbrev pub has_close : List Parts → Bool
has_close ps = list_any closes ps

-- the parts of messages
abbrev pub shown : List Request → List Parts
shown ms = map parts_of ms
