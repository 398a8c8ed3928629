-- What a vault holds, in lines.
use Rattle.std.specs.Prelude.{ℕ, List, ◌++◌, Option, Some, None, codes, decimal}
use Rattle.std.specs.List.{flat_map}
use Rattle.vault_pan.specs.Mask.{lead_digits}
use Rattle.vault_core.specs.Keys.{Bytes}
use Rattle.vault_core.specs.Vault.{Vault as Content}
use Rattle.vault_core.specs.Words.{right_word}
use Rattle.vault_core.specs.declared.row.MerchantRow.{MerchantRow}
use Rattle.vault_store.specs.Listed.{merchant_rows}
use Rattle.vault_changes.specs.Changes.{Held, changes_at, changes_text, right_text, rights_of}
use Rattle.vault_changes.specs.Settings.{settings_at}
use Rattle.vault_jobs.specs.declared.show.Form.{Form}
use Rattle.vault_jobs.specs.declared.show.Form.TheVariants.{Lines, Objects}
use Rattle.vault_jobs.specs.declared.show.Shown.{Shown}
use Rattle.vault_jobs.specs.declared.show.Shown.TheVariants.{Listing, Changes, Settings}

-- a merchant: its lives, its lead, its moment, and its counts
abbrev pub merchant_line : Form → Bytes × MerchantRow → List ℕ
merchant_line Lines it = codes "merchant " ++ it.0 ++ codes " single " ++ decimal it.1.single_life
    ++ codes " multi " ++ decimal it.1.multi_life ++ codes " lead " ++ decimal (lead_digits it.1.lead)
    ++ codes " moment " ++ decimal it.1.moment ++ codes " made " ++ decimal it.1.made
    ++ codes " given " ++ decimal it.1.given ++ codes " denied " ++ decimal it.1.denied ++ codes "\n"
merchant_line Objects it = codes "{\"merchant\":\"" ++ it.0 ++ codes "\",\"single\":"
    ++ decimal it.1.single_life ++ codes ",\"multi\":" ++ decimal it.1.multi_life
    ++ codes ",\"lead\":" ++ decimal (lead_digits it.1.lead) ++ codes ",\"moment\":" ++ decimal it.1.moment
    ++ codes ",\"made\":" ++ decimal it.1.made ++ codes ",\"given\":" ++ decimal it.1.given
    ++ codes ",\"denied\":" ++ decimal it.1.denied ++ codes "}\n"

-- the end of a right as a JSON value
abbrev pub until_value : Option ℕ → List ℕ
until_value None = codes "null"
until_value (Some end) = decimal end

-- a right: its caller, its merchant, its word, and its end, where it has one
abbrev pub right_line : Form → Held → List ℕ
right_line Lines it = codes "right " ++ right_text it.0.0 it.0.1.0 it.0.1.1 it.1.ends ++ codes "\n"
right_line Objects it = codes "{\"caller\":\"" ++ it.0.0 ++ codes "\",\"merchant\":\"" ++ it.0.1.0
    ++ codes "\",\"right\":\"" ++ right_word it.0.1.1 ++ codes "\",\"until\":" ++ until_value it.1.ends
    ++ codes "}\n"

-- the merchants of a vault by name, and its rights by caller, merchant and right
abbrev pub list_text : Form → Content → List ℕ
list_text form V = flat_map (merchant_line form) (merchant_rows V) ++ flat_map (right_line form) (rights_of V)

-- what is said of a vault
abbrev pub shown_text : Shown → Content → List ℕ
shown_text (Listing form) V = list_text form V
shown_text (Changes exact rows now) V = changes_text (changes_at exact now rows.items (rights_of V))
shown_text (Settings rows now) V = changes_text (settings_at now rows.items (merchant_rows V))
