-- What has failed after a call.
use Rattle.std.specs.Prelude.{◌≡◌, false, Result, OnOk}
use Rattle.vault_wire.specs.Watching.{is_stopped}
use Rattle.vault_wire.specs.declared.watched.Watched.{Watched}

-- with Ok the stream hasn't failed
abbrev pub GoesOn : {S X E : Type 0} → Result X E → Watched S → Type 0
GoesOn result stream = OnOk result (is_stopped stream ≡ false)
