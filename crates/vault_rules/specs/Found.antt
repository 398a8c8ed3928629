-- An entry beside the rows that it names.
use Rattle.std.specs.Prelude.{◌≡◌, List, option_and_then, option_map, string_bytes}
use Rattle.std.specs.Option.{option_copied}
use Rattle.vault_rules.specs.HeldRows.{seen_card}
use Rattle.vault_rules.specs.Kept.{kept_card}
use Rattle.vault_rules.specs.Lookups.{card_of, merchant_of}
use Rattle.vault_rules.specs.declared.index.found.Found.{Found}
use Rattle.vault_rules.specs.declared.rows.RawMerchant.{RawMerchant}
use Rattle.vault_rules.specs.declared.rows.RawCard.{RawCard}

-- its merchant and its card row among these
pub record IsFoundIn (merchants : List RawMerchant) (cards : List RawCard) (it : Found) : Type 0 where
  pub merchant : option_copied it.merchant ≡ merchant_of merchants (string_bytes it.entry.now.merchant)
  pub card : option_map seen_card it.card
      ≡ option_map (kept_card merchants) (option_and_then (card_of cards) it.entry.now.card)

-- this is so of whatever merchants and cards the entry's own are among
abbrev pub WhereFound : Found → (List RawMerchant → List RawCard → Type 0) → Type 0
WhereFound it Is = (merchants : List RawMerchant) (cards : List RawCard) → IsFoundIn merchants cards it
    → Is merchants cards
