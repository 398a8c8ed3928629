-- What is told to a task while it is done.
use Rattle.std.specs.Prelude.{ℕ, List}
use Rattle.vault_listen.specs.Live.{Turns}
use Rattle.vault_live.specs.Following.{Looks}

-- Which moments are told at which turn, and which text the file at a path had at which look.
pub record Outside : Type 1 where
  pub tells : Turns
  pub looks : List ℕ → Looks

abbrev pub outside : Turns → (List ℕ → Looks) → Outside
outside tells looks = record { tells = tells; looks = looks }
