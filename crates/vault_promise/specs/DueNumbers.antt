-- A card number goes to nobody but those that it is due to.
use Rattle.std.specs.Prelude.{◌≡◌, ◌↔◌, ℕ, List, ◌∷◌, ◌++◌, All, Bool, true, Some, None}
use Rattle.std.specs.List.{Contains}
use Rattle.vault_core.specs.Keys.{Bytes}
use Rattle.vault_core.specs.Table.{reply}
use Rattle.vault_core.specs.Vault.{Vault as Content, entry_at, entitled, is_live}
use Rattle.vault_core.specs.Window.{moment_at}
use Rattle.vault_core.specs.declared.command.Command.{Command}
use Rattle.vault_core.specs.declared.command.Command.TheVariants as command
use Rattle.vault_core.specs.declared.reply.Reply.TheVariants.{Number}
use Rattle.vault_core.specs.declared.right.Right.TheVariants as right
use Rattle.vault_core.specs.declared.row.Entry.{Entry}
use Rattle.vault_wire.specs.Answer.{answer_bytes}
use Rattle.vault_wire.specs.Parts.{Parts, closes}
use Rattle.vault_wire.specs.declared.fault.WireFault.{WireFault}
use Rattle.vault_routes.specs.Reply.{body_text}
use Rattle.vault_routes.specs.Wanted.{AsksForNumber}
use Rattle.vault_http.specs.Exchanges.{answer_for, fault_text, message_kind}
use Rattle.vault_engine.specs.Answered.{pairs_of, units_of}
use Rattle.vault_engine.specs.Asking.{Asked, Asks, reply_to, text_at, vault_after}

-- At a moment a card number is due to a caller that asks for the number of a merchant's token: its right to
-- numbers there lasts, and the token is live and stands for that number.
pub record IsDue (V : Content) (caller merchant token : Bytes) (now : ℕ) (number : Bytes) : Type 0 where
  pub right : entitled V caller merchant right.Detokenize (moment_at V merchant now) ≡ true
  pub entry : Entry
  pub held : entry_at V merchant token ≡ Some entry
  pub live : is_live entry (moment_at V merchant now) ≡ true
  pub stands : entry.number ≡ Some number

-- the command asks for the number of a token, and this number is due to its caller
pub record AsksForDue (V : Content) (c : Command) (number : Bytes) : Type 0 where
  pub caller : Bytes
  pub merchant : Bytes
  pub token : Bytes
  pub now : ℕ
  pub asks : c ≡ command.Detokenize caller merchant token now
  pub due : IsDue V caller merchant token now number

-- A command that is answered with a card number asks for it, and the number is due to its caller; the vault
-- is any, sound or not.
abbrev pub OnlyDueIsGiven : Type 0
OnlyDueIsGiven =
    (V : Content) (c : Command) (number : Bytes) → reply V c ≡ Number number → AsksForDue V c number

-- the text of an answer with a card number, after which the connection closes or not
abbrev pub number_text : Bytes → Bool → List ℕ
number_text number close = answer_bytes 200 None (body_text (Number number)) close

-- The text that answers a message is that of an answer with a card number exactly where the reply is that
-- number: no other reply's text reads as one.
abbrev pub TextsTellNumbers : Type 0
TextsTellNumbers =
    (V : Content) (x : Asked Parts) (number : Bytes) (close : Bool)
    → (text_at answer_for V x ≡ number_text number close)
    ↔ ((reply_to V x.wanted ≡ Number number) × (closes x.unit ≡ close))

-- the message asks for the number of a token, and this number is due to the caller that its field names
pub record IsAskedWhereDue (V : Content) (p : Parts) (now : ℕ) (number : Bytes) : Type 0 where
  pub caller : Bytes
  pub merchant : Bytes
  pub token : Bytes
  pub asks : AsksForNumber p caller merchant token
  pub due : IsDue V caller merchant token now number

-- Where the text that answers a message reads as an answer with a card number, the message asks for the
-- number of a token, and the number is due to its caller at its moment.
abbrev pub OnlyDueGoesOut : Type 0
OnlyDueGoesOut =
    (V : Content) (x : Asked Parts) (number : Bytes) (close : Bool)
    → Asks message_kind x → text_at answer_for V x ≡ number_text number close
    → IsAskedWhereDue V x.unit x.pair.0 number

-- The same of messages that are asked one after the other: where the text that answers one reads so, it is
-- one of the messages, asked with one of the pairs, and the number is due by the vault that those before it
-- leave.
abbrev pub EachIsDue : Type 0
EachIsDue =
    (V : Content) (xs before later : List (Asked Parts)) (x : Asked Parts) (number : Bytes) (close : Bool)
    → xs ≡ before ++ x ∷ later → All (Asks message_kind) xs
    → text_at answer_for (vault_after V before) x ≡ number_text number close
    → Contains (units_of xs) x.unit × Contains (pairs_of xs) x.pair
    × IsAskedWhereDue (vault_after V before) x.unit x.pair.0 number

-- the text that answers a fault of the bytes is never that of an answer with a card number
abbrev pub FaultsTellNoNumber : Type 0
FaultsTellNoNumber =
    (e : WireFault) (number : Bytes) (close : Bool) → ¬ (fault_text e ≡ number_text number close)
