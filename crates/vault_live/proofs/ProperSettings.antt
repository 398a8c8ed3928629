-- What sets the merchants of a good list is proper.
use Rattle.std.proofs.Common.{ℕ, List, [], ◌∷◌, All, true, false, cond, not, subst, sym}
use Rattle.std.proofs.lemmas.List.Elements.{All-cons, All-nil}
use Rattle.toml.specs.Data.{Members, no_members, member}
use Rattle.vault_core.specs.Name.{IsName}
use Rattle.vault_core.specs.Proper.{AllProper}
use Rattle.vault_core.specs.Scalar.{IsMoment}
use Rattle.vault_core.specs.Vault.{Vault as Content}
use Rattle.vault_merchants.specs.ListedMerchants.{AreListed, AreRowsOf, Wanted}
use Rattle.vault_store.specs.Listed.{merchant_rows}
use Rattle.vault_changes.specs.Settings.{HasLives, Named, missing_merchants, settings_at, stands_in}
use Rattle.vault_changes.specs.Settings.{wanted_at}
use Rattle.vault_live.specs.Kinds.{merchants_changes}

rows_lives : (members : Members) (rows : List Wanted) → AreRowsOf members rows → All HasLives rows
rows_lives no_members [] are = All-nil HasLives
rows_lives no_members (row ∷ rows) are = absurd are
rows_lives (member key value rest) [] are = absurd are
rows_lives (member key value rest) (row ∷ rows) (first, others) =
    let (single, multi, lead, value, are) = first.2 in
    All-cons HasLives row rows (are.single_is.1, are.multi_is.1) (rows_lives rest rows others)

-- the lives of listed merchants are lives
pub listed_lives : (text : List ℕ) (rows : List Wanted) → AreListed text rows → All HasLives rows
listed_lives text rows (document, is, are) = rows_lives document rows are

missing_proper : (now : ℕ) → IsMoment now → (held : List Named) (members : Members) (rows : List Wanted)
    → AreRowsOf members rows → AllProper (settings_at now rows held)
missing_proper now moment held no_members [] are = tt
missing_proper now moment held no_members (row ∷ rows) are = absurd are
missing_proper now moment held (member key value rest) [] are = absurd are
missing_proper now moment held (member key value rest) (row ∷ rows) (first, others) =
    let (single, multi, lead, value, are) = first.2 in
    let more = missing_proper now moment held rest rows others in
    let name = subst IsName (sym first.0) first.1 in
    elim (not (stands_in held row)) as (λ b. AllProper (wanted_at now
    (cond b (row ∷ missing_merchants rows held) (missing_merchants rows held)))) [
      | true ↦ ((name, (are.single_is.1, are.multi_is.1), moment), more)
      | false ↦ more
    ]

-- what sets those that a vault lacks, by the rows of a good text, at a moment
pub settings_proper : (text : List ℕ) (rows : List Wanted) (now : ℕ) (V : Content) → AreListed text rows
    → IsMoment now → AllProper (merchants_changes now rows V)
settings_proper text rows now V (document, is, are) moment =
    missing_proper now moment (merchant_rows V) document rows are
