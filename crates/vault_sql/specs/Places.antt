-- The places of which tables know that no dead token comes before.
use Rattle.std.specs.Prelude.{◌≡◌, ℕ, List, [], ◌∷◌, Option, Some, None}
use Rattle.vault_core.specs.Keys.{Bytes}
use Rattle.vault_core.specs.Vault.{Vault}
use Rattle.vault_core.specs.declared.row.Entry.{Entry}
use Rattle.vault_sql.specs.DeadBefore.{HasNoDeadBefore}
use Rattle.vault_sql.specs.declared.place.Place.{Place}

-- no token of the place's merchant that comes before its token is dead at its moment
abbrev pub IsPast : Option Place → Vault → Type 0
IsPast None V = Unit {0}
IsPast (Some place) V = HasNoDeadBefore V place.merchant place.moment place.token

-- the place of the first of these tokens
abbrev pub first_place : Bytes → ℕ → List Bytes → Option Place
first_place m at [] = None
first_place m at (token ∷ rest) = Some (record { merchant = m; moment = at; token = token })

-- no entry with a number is written
abbrev pub HasNoNumber : Option (Bytes × Bytes × Entry) → Type 0
HasNoNumber None = Unit {0}
HasNoNumber (Some x) = x.2.number ≡ None
