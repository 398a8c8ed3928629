-- Rows of `entries`, the table of schema 1, as rows of schema 2 in which each number is a card of its own.
use Rattle.std.specs.Prelude.{ℤ, pos, [], ◌∷◌, Option, option_map}
use Rattle.sqlite.specs.Order.{Row}
use Rattle.sqlite.specs.declared.types.Value.TheVariants.{Int}
use Rattle.sql_tables.specs.Values.{int_value, row_text_value}
use Rattle.vault_tables.specs.declared.entries.old.OldEntry.{OldEntry}

-- the card of an entry that has a number: its own, by the entry's rowid
abbrev pub own_card : OldEntry → Option ℤ
own_card e = option_map (λ number. e.rowid) e.number

-- an entry, which points at that card
abbrev pub as_entry : OldEntry → Row
as_entry e =
    Int e.rowid ∷ row_text_value e.merchant ∷ row_text_value e.token ∷ int_value (own_card e)
    ∷ Int e.usage ∷ Int e.birth ∷ Int e.expires ∷ int_value e.revoked ∷ []

-- that card, of one use
abbrev pub as_card : OldEntry → Option Row
as_card e =
    option_map
    (λ number. Int e.rowid ∷ row_text_value e.merchant ∷ row_text_value number ∷ Int (pos 1) ∷ [])
    e.number
