-- A text that is sent, or a beginning of it.
use Rattle.std.specs.Prelude.{◌≡◌, ℕ, ◌<◌, List, length, take, Option, Result, Ok, Err}
use Rattle.std.specs.Io.KnownBytes.{Appends}
use Rattle.vault_engine.specs.declared.stop.Stop.{Stop as ServeFault}
use Rattle.vault_engine.specs.declared.stop.Stop.TheVariants as fault

-- the text went out; or a beginning of it and not all, where the writer failed; or nothing, for want
-- of memory
abbrev pub IsRefused : {X : Type 0} → Option (List ℕ) → Option (List ℕ) → List ℕ
    → Result X ServeFault → Type 0
IsRefused old new text (Ok x) = Appends old new text
IsRefused old new text (Err fault.Source) = ⊥
IsRefused old new text (Err fault.Read) = ⊥
IsRefused old new text (Err fault.Write) = (n : ℕ) × (n < length text) × Appends old new (take n text)
IsRefused old new text (Err fault.Store) = ⊥
IsRefused old new text (Err fault.Memory) = new ≡ old
