-- What a clause sees of a watched reader or writer.
use Rattle.std.specs.Prelude.{ℕ, Bool, ◌&&◌, ◌==◌, nat_lt, true, Result, Ok, Err}
use Rattle.vault_wire.specs.declared.watched.Watched.{Watched}

-- the reader or writer underneath
abbrev pub inner_of : {T : Type 0} → Watched T → T
inner_of w = w.inner

-- a call failed, so that every later one is refused
abbrev pub is_stopped : {T : Type 0} → Watched T → Bool
is_stopped w = w.stopped

-- this stands between what the reader or writer underneath shows before a call and after it
abbrev pub underneath : {A X : Type 0} {C : Type 1} → (A → X) → (X → X → C) → Watched A → Watched A → C
underneath shown Stands old new = Stands (shown (inner_of old)) (shown (inner_of new))

-- a write of so many bytes failed: it took none, though there were some, or it was refused
abbrev pub tells_failure : {E : Type 0} → ℕ → Result ℕ E → Bool
tells_failure given (Ok taken) = taken == 0 && nat_lt 0 given
tells_failure given (Err e) = true
