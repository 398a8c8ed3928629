-- What comes of a text at a look.
use Rattle.std.specs.Prelude.{ℕ, List}
use Rattle.vault_live.specs.declared.listed.Taken.{Taken}
use Rattle.vault_live.specs.declared.listed.Taken.TheVariants.{Nothing, Unfinished, Faulty, Good}

-- P holds of its rows, where it is taken
abbrev pub IfTaken : {X : Type 0} → Taken X → (List X → Type 0) → Type 0
IfTaken Nothing P = Unit {0}
IfTaken Unfinished P = Unit {0}
IfTaken (Faulty number) P = Unit {0}
IfTaken (Good rows) P = P rows.items

-- P holds of the number of its refusal, where it is no good list
abbrev pub IfRefused : {X : Type 0} → Taken X → (ℕ → Type 0) → Type 0
IfRefused Nothing P = Unit {0}
IfRefused Unfinished P = Unit {0}
IfRefused (Faulty number) P = P number
IfRefused (Good rows) P = Unit {0}

-- P holds, where it isn't taken
abbrev pub IfUntaken : {X : Type 0} → Taken X → Type 0 → Type 0
IfUntaken Nothing P = P
IfUntaken Unfinished P = P
IfUntaken (Faulty number) P = P
IfUntaken (Good rows) P = Unit {0}
