-- What makes rights exactly those of a list leaves these and no others.
use Rattle.std.specs.Prelude.{◌≡◌, ◌↔◌, ℕ, true, List, Option, Some, find, length, option_map}
use Rattle.std.specs.List.Sorted.{IsStrictlySortedBy}
use Rattle.std.specs.Ordering.{eq_by_cmp}
use Rattle.vault_core.specs.Keys.{Bytes, right_cmp}
use Rattle.vault_core.specs.Runs.{run}
use Rattle.vault_core.specs.Vault.{Vault as Content, right_at}
use Rattle.vault_core.specs.declared.right.Right.{Right}
use Rattle.toml.specs.Data.{Members}
use Rattle.vault_rights.specs.Faults.{IsDocument}
use Rattle.vault_rights.specs.Named.{Names, Row, row_cmp}
use Rattle.vault_live.specs.Following.{AreRowsIn}
use Rattle.vault_changes.specs.Changes.{Key, changes_at, right_of, rights_of}
use Rattle.vault_changes.specs.Grants.{AreDone}

-- the end of a right in a list, where it is listed
abbrev pub listed_end : List Row → Key → Option (Option ℕ)
listed_end rows right =
    option_map (λ row. row.3) (find (λ row. eq_by_cmp right_cmp (right_of row) right) rows)

-- each right of the vault is listed, with its end, and each that is listed is there
abbrev pub AreRights : List Row → Content → Type 0
AreRights rows V = (caller m : Bytes) (right : Right)
    → option_map (λ g. g.ends) (right_at V caller m right) ≡ listed_end rows (caller, (m, right))

-- the rights of the vault are exactly those that the document of a text names, each with the latest of its ends
abbrev pub AreRightsIn : List ℕ → Content → Type 0
AreRightsIn text V = (document : Members) × IsDocument text document
    × ((caller m : Bytes) (right : Right) (until : Option ℕ)
    → (option_map (λ g. g.ends) (right_at V caller m right) ≡ Some until)
    ↔ Names document (caller, m, right, until))

-- So it is of every vault once the changes are done that a list asks for, whose rows are in order and each
-- once, as a rights file gives them. And then the rights are those of the text.
abbrev pub RightsBecomeExact : Type 0
RightsBecomeExact = ((now : ℕ) (rows : List Row) (V : Content) → IsStrictlySortedBy row_cmp rows
    → AreDone (length (changes_at true now rows (rights_of V))) (changes_at true now rows (rights_of V)) V
    → AreRights rows (run (changes_at true now rows (rights_of V)) V))
    × ((text : List ℕ) (rows : List Row) (V : Content) → AreRowsIn text rows → AreRights rows V
    → AreRightsIn text V)
