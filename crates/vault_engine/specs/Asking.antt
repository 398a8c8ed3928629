-- What is asked of a vault, one thing after the other, and the texts that answer.
use Rattle.std.specs.Prelude.{ℕ, List, [], ◌∷◌, ◌++◌, Result, Ok, Err}
use Rattle.std.specs.List.{flat_map}
use Rattle.vault_core.specs.Proper.{HasLivesInRange}
use Rattle.vault_core.specs.Runs.{run}
use Rattle.vault_core.specs.Table.{after, reply}
use Rattle.vault_core.specs.Vault.{Vault as Content}
use Rattle.vault_core.specs.declared.command.Command.{Command}
use Rattle.vault_core.specs.declared.reply.Reply.{Reply}
use Rattle.vault_core.specs.declared.reply.Reply.TheVariants.{Refused}
use Rattle.vault_refusal.specs.Refusal.{number_of}
use Rattle.vault_refusal.specs.declared.refusal.Refusal.{Refusal}

-- a moment, and drawn digits
abbrev pub Pair : Type 0
Pair = ℕ × List ℕ

-- a command, or a refusal
abbrev pub Wanted : Type 0
Wanted = Result Command Refusal

-- a command that is wanted is proper
abbrev pub AreProper : Wanted → Type 0
AreProper (Ok c) = HasLivesInRange c
AreProper (Err n) = Unit {0}

-- what a kind of units asks for, and the texts that answer
pub record Kind (X : Type 0) : Type 1 where
  pub wants : X → Pair → Wanted → Type 0
  pub text : X → Wanted → Reply → List ℕ

abbrev pub kind : {X : Type 0} → (X → Pair → Wanted → Type 0) → (X → Wanted → Reply → List ℕ) → Kind X
kind wants text = record { wants = wants; text = text }

-- a unit, the pair that was taken for it, and what it asks for
pub record Asked (X : Type 0) : Type 0 where
  pub unit : X
  pub pair : Pair
  pub wanted : Wanted

-- it asks so
abbrev pub Asks : {X : Type 0} → Kind X → Asked X → Type 0
Asks k x = k.wants x.unit x.pair x.wanted

-- the command that is asked for, where there is one
abbrev pub commands_in : Wanted → List Command
commands_in (Ok c) = c ∷ []
commands_in (Err n) = []

-- the commands that are asked for
abbrev pub commands_of : {X : Type 0} → List (Asked X) → List Command
commands_of xs = flat_map (λ x. commands_in x.wanted) xs

-- the vault after them
unfoldable pub vault_after : {X : Type 0} → Content → List (Asked X) → Content
vault_after V xs = run (commands_of xs) V

-- the vault that one leaves which asks for this
abbrev pub left_by : Content → Wanted → Content
left_by V (Ok c) = after V c
left_by V (Err n) = V

-- a command is answered by the vault, and a refusal by its number
abbrev pub reply_to : Content → Wanted → Reply
reply_to V (Ok c) = reply V c
reply_to V (Err refusal) = Refused (number_of refusal)

-- the text that answers one, by how units of its kind are answered
unfoldable pub text_at : {X : Type 0} → (X → Wanted → Reply → List ℕ) → Content → Asked X → List ℕ
text_at text V x = text x.unit x.wanted (reply_to V x.wanted)

-- the texts that answer, each by the vault that those before it leave
abbrev pub texts : {X : Type 0} → (X → Wanted → Reply → List ℕ) → Content → List (Asked X) → List ℕ
texts text V [] = []
texts text V (x ∷ xs) = text_at text V x ++ texts text (vault_after V (x ∷ [])) xs
