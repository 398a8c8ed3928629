-- Rows that are answered, and what was seen of the row at which a batch stopped.
use Rattle.std.specs.Prelude.{◌≡◌, ◌+◌, ◌<◌, ℕ, List, [], ◌∷◌, count_by, length, take}
use Rattle.vault_core.specs.Keys.{Bytes}
use Rattle.vault_core.specs.Vault.{Vault as Content}
use Rattle.vault_core.specs.declared.reply.Reply.{Reply}
use Rattle.vault_engine.specs.Answered as engine
use Rattle.vault_engine.specs.Asking.{reply_to, text_at, texts, vault_after}
use Rattle.vault_engine.specs.Passing.{Passage, IsBefore, Keeps, Sends, Takes}
use Rattle.vault_batch.specs.Asking.{Asked, answer_line, rows_by}
use Rattle.vault_batch.specs.Lines.{first_line, has_token}
use Rattle.vault_batch.specs.Rows.{Row}
use Rattle.vault_batch.specs.declared.asker.Asker.{Asker}
use Rattle.vault_batch.specs.declared.row_counts.Counts.{Counts}

-- the rows themselves
abbrev pub rows_of : List Asked → List Row
rows_of xs = engine.units_of xs

-- the line that answers a row
abbrev pub line_at : Content → Asked → Bytes
line_at V x = text_at answer_line V x

-- the lines that answer rows, each by the vault that those before it leave
abbrev pub lines : Content → List Asked → Bytes
lines V xs = texts answer_line V xs

-- what rows are replied to
abbrev pub replies : Content → List Asked → List Reply
replies V [] = []
replies V (x ∷ xs) = reply_to V x.wanted ∷ replies (vault_after V (x ∷ [])) xs

-- how many of these have a token
unfoldable pub tokens : Content → List Asked → ℕ
tokens V xs = count_by has_token (replies V xs)

-- the rows are asked and answered: after what comes first their lines went out, and the vault after them
-- is kept
abbrev pub Answered : Asker → Bytes → Passage → List Asked → Type 0
Answered who first w xs = engine.Answered (rows_by who) first w xs

-- so many rows were answered, and so many of them by a token
pub record Counted (w : Passage) (xs : List Asked) (counts : Counts) : Type 0 where
  pub rows : counts.rows ≡ length xs
  pub both : counts.rows ≡ counts.tokens + counts.refused
  pub tokens : (V : Content) → IsBefore w V → counts.tokens ≡ tokens V xs

-- nothing was taken and nothing changed
abbrev pub Unchanged : Passage → Type 0
Unchanged w = Takes w [] × ((V : Content) → IsBefore w V → Keeps w V)

-- nothing was taken and nothing changed, and of the first line only a beginning went out
pub record FirstLineCut (w : Passage) : Type 0 where
  pub sent : ℕ
  pub part : sent < length first_line
  pub went : Sends w (take sent first_line)
  pub unchanged : Unchanged w
