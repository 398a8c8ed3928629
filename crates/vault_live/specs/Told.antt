-- A line that is written.
use Rattle.std.specs.Prelude.{◌≡◌, ℕ, ◌<◌, ◌⊎◌, List, length, take, Bool, true}
use Rattle.std.specs.Io.KnownBytes.{Appends}
use Rattle.vault_listen.specs.Peers.{Known}

-- the line went out, or only a beginning of it, where the writer failed
abbrev pub Tells : Known → Known → Bool → List ℕ → Type 0
Tells old new stopped line =
    Appends old new line
    ⊎ ((stopped ≡ true) × ((n : ℕ) × (n < length line) × Appends old new (take n line)))
