-- The rows of members, one by one.
use Rattle.std.proofs.Common.{List, [], ◌∷◌, ◌++◌, string_bytes}
use Rattle.toml.specs.View.{view, members_view}
use Rattle.toml.proofs.Views.{Entry}
use Rattle.vault_rights.proofs.Members.{EachEntry}
use Rattle.vault_merchants.specs.Faults.{IsProperMerchant}
use Rattle.vault_merchants.specs.ListedMerchants.{AreRowsOf, IsRowOf, Wanted}

-- those of one member more
pub rows_then : (done : List Entry) (e : Entry) (rows : List Wanted) (row : Wanted)
    → AreRowsOf (members_view done) rows → IsRowOf (string_bytes e.0) (view e.1) row
    → AreRowsOf (members_view (done ++ e ∷ [])) (rows ++ row ∷ [])
rows_then [] e [] row are is = (is, tt)
rows_then [] e (r ∷ rows) row are is = absurd are
rows_then (x ∷ done) e [] row are is = absurd are
rows_then (x ∷ done) e (r ∷ rows) row (first, rest) is = (first, rows_then done e rows row rest is)

-- each member that has a row is proper
pub rows_proper : (done : List Entry) (rows : List Wanted) → AreRowsOf (members_view done) rows
    → EachEntry IsProperMerchant done
rows_proper [] rows are = tt
rows_proper (x ∷ done) [] are = absurd are
rows_proper (x ∷ done) (r ∷ rows) (first, rest) = ((r, first), rows_proper done rows rest)
