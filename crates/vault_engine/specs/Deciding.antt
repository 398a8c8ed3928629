-- What a unit comes to.
use Rattle.std.specs.Prelude.{◌≡◌, Ok, Err}
use Rattle.vault_core.specs.Vault.{Vault as Content}
use Rattle.vault_core.specs.declared.reply.Reply.{Reply}
use Rattle.vault_core.specs.declared.reply.Reply.TheVariants as reply
use Rattle.vault_refusal.specs.Refusal.{number_of}
use Rattle.vault_engine.specs.Asking.{Kind, Pair, Wanted, left_by, reply_to}
use Rattle.vault_engine.specs.Passing.{Passage}
use Rattle.vault_engine.specs.declared.ask.Outcome.{Outcome}
use Rattle.vault_engine.specs.declared.ask.Outcome.TheVariants.{Replied, Refused}

-- a command was replied to, or this refusal stands
abbrev pub StandsFor : Outcome → Wanted → Type 0
StandsFor (Replied r) (Ok c) = Unit {0}
StandsFor (Replied r) (Err n) = ⊥
StandsFor (Refused m) (Ok c) = ⊥
StandsFor (Refused m) (Err n) = m ≡ n

-- the reply
abbrev pub reply_in : Outcome → Reply
reply_in (Replied r) = r
reply_in (Refused refusal) = reply.Refused (number_of refusal)

-- the unit asked for something with this pair, and came to this
pub record Decided {X : Type 0} (k : Kind X) (u : X) (pair : Pair) (o : Outcome) (w : Passage) : Type 0 where
  pub wanted : Wanted
  pub asks : k.wants u pair wanted
  pub stands : StandsFor o wanted
  pub told : w.honest → (V : Content) → w.held_old V
      → (reply_in o ≡ reply_to V wanted) × w.held_new (left_by V wanted)

-- the unit asked for something with this pair, and a crash leaves the vault before or after it
pub record Undecided {X : Type 0} (k : Kind X) (u : X) (pair : Pair) (w : Passage) : Type 0 where
  pub wanted : Wanted
  pub asks : k.wants u pair wanted
  pub told : w.honest → (V : Content) → w.held_old V → w.left_new V (left_by V wanted)
