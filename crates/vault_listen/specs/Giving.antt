-- When a peer gives way to another one, and has a last turn.
use Rattle.std.specs.Prelude.{◌≡◌, true, false}
use Rattle.vault_listen.specs.declared.stream.Seen.{Seen}

-- a look may find that the peer has sent nothing, and that another one waits
abbrev pub FindsOther : (Seen → Type 0) → Type 0
FindsOther shows = (seen : Seen) × shows seen × (seen.sent ≡ false) × (seen.other ≡ true)
