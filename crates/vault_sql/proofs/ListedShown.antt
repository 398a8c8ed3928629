-- What all rows of rights and of merchants show.
use Rattle.std.proofs.Common.{◌≡◌, ℤ, List, [], ◌∷◌, Option, Some, None, refl, sym, ap, ◌∙◌}
use Rattle.std.proofs.Common.{is_some, option_map}
use Rattle.std.specs.BTreeMap as tree
use Rattle.std.specs.FinMap as map
use Rattle.sqlite.specs.Order.{Row}
use Rattle.sqlite.specs.declared.types.Value.{Value}
use Rattle.sqlite.specs.declared.types.Value.TheVariants.{Int, Text}
use Rattle.vault_core.specs.Keys.{Bytes, bytes_cmp, right_cmp}
use Rattle.vault_core.specs.Vault.{Merchant, Vault, merchant_at}
use Rattle.vault_core.specs.declared.right.Right.{Right}
use Rattle.vault_core.specs.declared.row.GrantRow.{GrantRow}
use Rattle.vault_sql.specs.ListedRows.{ShowsAll, ShowsRight}
use Rattle.vault_schema.proofs.RightCodes.{right_coding}
use Rattle.vault_core.specs.Lives.{lives_in}
use Rattle.vault_schema.specs.Merchants.{merchant_row}
use Rattle.vault_schema.specs.Rights.{right_row}
use Rattle.vault_core.specs.declared.row.Lives.{Lives}
use Rattle.vault_sql.specs.Gathered.{Gathers, ShowsName}
use Rattle.vault_sql.proofs.Gathered.{gathered-is}
use Rattle.vault_store.specs.Listed.{HasNames, HasRights}

-- a row of a right shows no other one
right_read : (n : ℤ) (k : Bytes × (Bytes × Right)) (x : GrantRow) (q : Bytes × (Bytes × Right))
    (y : GrantRow) → ShowsRight (Int n ∷ right_row k x) q y → (q ≡ k) × (y ≡ x)
right_read n k x q y shows =
    let same : right_row k x ≡ right_row q y =
    λ i. shows.caller i ∷ shows.merchant i ∷ shows.what i ∷ shows.ends i ∷ [] in
    (sym (right_coding.key k q x y same), sym (right_coding.value k q x y same))

same_option : {X : Type 0} (o : Option X) → option_map (λ x. x) o ≡ o
same_option None = refl
same_option (Some x) = refl

-- the rights that are gathered are those of the vault
pub rights_gathered : (rows : List Row) (V : Vault)
    (found : tree.BTreeMap (Bytes × (Bytes × Right)) GrantRow)
    → ShowsAll right_row rows (map.get V.rights) → Gathers right_cmp ShowsRight rows found
    → HasRights found V.rights
rights_gathered rows V found shown gathered key =
    gathered-is {cmp = right_cmp} {encode = right_row} ShowsRight (λ g. g) right_read rows (map.get V.rights)
    shown found gathered key
    ∙ same_option (map.get V.rights key)

same_text : (a b : Bytes) → ◌≡◌ {A = Value} (Text a) (Text b) → a ≡ b
same_text a b e = cc

abbrev there : Lives → Unit {0}
there x = tt

-- a row of a merchant shows no other name
name_read : (n : ℤ) (k : Bytes) (x : Lives) (q : Bytes) (y : Unit {0})
    → ShowsName (Int n ∷ merchant_row k x) q y → (q ≡ k) × (y ≡ there x)
name_read n k x q y shows = (sym (same_text k q shows), refl)

still_some : (o : Option Merchant) → is_some (option_map there (option_map lives_in o)) ≡ is_some o
still_some None = refl
still_some (Some merchant) = refl

-- the names that are gathered are those of the vault
pub names_gathered : (rows : List Row) (V : Vault) (found : tree.BTreeMap Bytes (Unit {0}))
    → ShowsAll merchant_row rows (λ m. option_map lives_in (merchant_at V m))
    → Gathers bytes_cmp ShowsName rows found → HasNames found V
names_gathered rows V found shown gathered m =
    ap is_some
    (gathered-is {cmp = bytes_cmp} {encode = merchant_row} ShowsName there name_read rows
    (λ m. option_map lives_in (merchant_at V m)) shown found gathered m)
    ∙ still_some (merchant_at V m)
