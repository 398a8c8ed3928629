-- What makes the rights of a vault those of a list.
use Rattle.std.specs.Prelude.{◌≡◌, ℕ, ◌-◌, ◌==◌, ◌&&◌, Bool, true, false, not, List, [], ◌++◌}
use Rattle.std.specs.Prelude.{filter, length, map}
use Rattle.std.specs.Prelude.{Option, Some, None, if◌then◌else◌, codes, decimal}
use Rattle.std.specs.FinMap as fin
use Rattle.std.specs.List.{flat_map, list_any}
use Rattle.std.specs.Ordering.{eq_by_cmp}
use Rattle.vault_pan.specs.Mask.{lead_digits}
use Rattle.vault_pan.specs.declared.lead.Lead.{Lead}
use Rattle.vault_core.specs.Keys.{Bytes, right_cmp}
use Rattle.vault_core.specs.Vault.{Vault as Content}
use Rattle.vault_core.specs.Words.{right_word}
use Rattle.vault_core.specs.declared.command.Command.{Command}
use Rattle.vault_core.specs.declared.command.Command.TheVariants.{Grant, SetMerchant, Withdraw}
use Rattle.vault_core.specs.declared.right.Right.{Right}
use Rattle.vault_core.specs.declared.row.GrantRow.{GrantRow}
use Rattle.vault_rights.specs.Named.{Row}
use Rattle.vault_changes.specs.Grants.{grants_at}
use Rattle.vault_changes.specs.declared.changes.Changes.{Changes}

-- the right of a caller at a merchant, and such a right with its end
abbrev pub Key : Type 0
Key = Bytes × (Bytes × Right)

abbrev pub Held : Type 0
Held = Key × GrantRow

-- the right of a row
abbrev pub right_of : Row → Key
right_of row = (row.0, (row.1, row.2))

-- two rights have the same end, or none
abbrev pub is_same_end : Option ℕ → Option ℕ → Bool
is_same_end None None = true
is_same_end (Some a) (Some b) = a == b
is_same_end None (Some b) = false
is_same_end (Some a) None = false

-- the right that is held is the one that the row lists, with its end
abbrev pub is_as_listed : Held → Row → Bool
is_as_listed held row = eq_by_cmp right_cmp held.0 (right_of row) && is_same_end held.1.ends row.3

-- the right of the row is held, with its end
abbrev pub is_held : List Held → Row → Bool
is_held held row = list_any (λ it. is_as_listed it row) held

-- a row lists the right, whatever its end
abbrev pub is_listed : List Row → Key → Bool
is_listed rows right = list_any (λ row. eq_by_cmp right_cmp (right_of row) right) rows

-- the rows whose rights aren't held, or with another end
abbrev pub missing_rows : List Row → List Held → List Row
missing_rows rows held = filter (λ row. not (is_held held row)) rows

-- the rights that are held and that no row lists
abbrev pub surplus_rights : List Row → List Held → List Held
surplus_rights rows held = filter (λ it. not (is_listed rows it.0)) held

-- the commands that withdraw rights at a moment, in their order
abbrev pub withdrawals_at : ℕ → List Held → List Command
withdrawals_at now held = map (λ it. Withdraw it.0.0 it.0.1.0 it.0.1.1 now) held

-- The commands that give the rights of a list: those that are missing, in the list's order. Where no others
-- may stay, those that it doesn't have are withdrawn after them, by caller, merchant and right.
abbrev pub changes_at : Bool → ℕ → List Row → List Held → List Command
changes_at exact now rows held = grants_at now (missing_rows rows held)
    ++ (if exact then withdrawals_at now (surplus_rights rows held) else [])

-- the rights of a vault, by caller, merchant and right
abbrev pub rights_of : Content → List Held
rights_of V = fin.entries V.rights

-- these are the changes of a vault: its commands, and how many of them give a right
pub record AreChangesOf (exact : Bool) (now : ℕ) (rows : List Row) (V : Content) (it : Changes) : Type 0 where
  pub commands : it.commands.items ≡ changes_at exact now rows (rights_of V)
  pub granted : it.granted ≡ length (missing_rows rows (rights_of V))

-- the end of a right, where it has one
abbrev pub until_text : Option ℕ → List ℕ
until_text None = []
until_text (Some end) = codes " until " ++ decimal end

-- a right: its caller, its merchant, its word and its end
abbrev pub right_text : Bytes → Bytes → Right → Option ℕ → List ℕ
right_text caller m right until =
    caller ++ codes " " ++ m ++ codes " " ++ right_word right ++ until_text until

-- a merchant's lives and its lead
abbrev pub setting_text : Bytes → ℕ → ℕ → Lead → List ℕ
setting_text m single multi lead = m ++ codes " single " ++ decimal single ++ codes " multi " ++ decimal multi
    ++ codes " lead " ++ decimal (lead_digits lead)

-- the line of a command that sets a merchant, or gives or withdraws a right
abbrev pub change_line : Command → List ℕ
change_line (Grant caller m right until now) =
    codes "grant " ++ right_text caller m right until ++ codes "\n"
change_line (Withdraw caller m right now) = codes "withdraw " ++ right_text caller m right None ++ codes "\n"
change_line (SetMerchant m single multi lead now) =
    codes "merchant " ++ setting_text m single multi lead ++ codes "\n"
change_line c = []

-- the lines of what would change
abbrev pub changes_text : List Command → List ℕ
changes_text = flat_map change_line

-- the line of what was changed
abbrev pub settled_line : Changes → List ℕ
settled_line it = codes "granted " ++ decimal it.granted ++ codes " withdrawn "
    ++ decimal (length it.commands.items - it.granted) ++ codes "\n"
