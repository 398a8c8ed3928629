-- The rules that the rows of a sound vault keep, over the rows as they stand.
use Rattle.std.specs.Prelude.{◌≡◌, ◌<◌, ℕ, zero, suc, ℤ, pos, ◌+ℤ◌, ◌&&◌, ◌||◌, ◌==◌, not, Bool, true}
use Rattle.std.specs.Prelude.{false, List, [], ◌∷◌, length, map, slice_index_or, Option, None, option_map}
use Rattle.std.specs.Prelude.{option_and_then, is_none, is_some, nat_lt, bytes_eq, string_bytes}
use Rattle.std.specs.Prelude.{if◌then◌else◌}
use Rattle.std.specs.Int.RustNames.{int_lt, int_le}
use Rattle.std.specs.List.{list_all, list_any, filter_map}
use Rattle.std.specs.Option.{option_map_or}
use Rattle.std.specs.Ordering.{int_eq}
use Rattle.vault_core.specs.Keys.{Bytes}
use Rattle.vault_pan.specs.CardText.{fits}
use Rattle.vault_rules.specs.declared.rows.RawVersion.{RawVersion}
use Rattle.vault_rules.specs.declared.rows.RawMerchant.{RawMerchant}
use Rattle.vault_rules.specs.declared.rows.RawCount.{RawCount}
use Rattle.vault_rules.specs.declared.rows.RawCard.{RawCard}
use Rattle.vault_rules.specs.declared.rows.RawEntry.{RawEntry}
use Rattle.vault_rules.specs.declared.rows.RawRecord.{RawRecord}
use Rattle.vault_rules.specs.declared.rows.RawRight.{RawRight}
use Rattle.vault_rules.specs.AllRows.{Rows}
use Rattle.vault_rules.specs.Lookups.{is_known, moment_of, total_of, held_by, entry_of, card_of}
use Rattle.vault_rules.specs.Lookups.{number_of, used_by}
use Rattle.vault_rules.specs.Texts.{is_name, is_token, is_pan}

-- from low up to high
abbrev pub is_within : ℤ → ℤ → ℤ → Bool
is_within low high x = int_le low x && int_le x high

-- 1: `vault` has exactly one row, its id is 1; tables that a later schema replaced are empty
abbrev pub is_current : List RawVersion → ℕ → Bool
is_current versions replaced =
    length versions == 1 && list_all (λ v. int_eq v.id (pos 1)) versions && replaced == 0

-- 2: each merchant's name is a name; there are at most 10000
abbrev pub are_named : List RawMerchant → Bool
are_named merchants =
    nat_lt (length merchants) 10001 && list_all (λ m. is_name (string_bytes m.name)) merchants

-- lives are 0 to 3155760000, moments 0 to 253402300799
abbrev pub is_lasting : RawMerchant → Bool
is_lasting m =
    is_within (pos 0) (pos 3155760000) m.single_life && is_within (pos 0) (pos 3155760000) m.multi_life
    && is_within (pos 0) (pos 253402300799) m.moment

-- 4: a count's merchant exists, its kind is 1 to 3, its total 1 to 4611686018427387903
abbrev pub is_count : List RawMerchant → RawCount → Bool
is_count merchants c =
    is_known merchants (string_bytes c.merchant) && is_within (pos 1) (pos 3) c.kind
    && is_within (pos 1) (pos 4611686018427387903) c.total

-- 5: an entry's merchant exists; its token is 10 to 19 digits that fail the check
abbrev pub has_token : List RawMerchant → RawEntry → Bool
has_token merchants e = is_known merchants (string_bytes e.merchant) && is_token (string_bytes e.token)

-- 6: the number of an entry's card row, where there is one, is a card number, as long as the token
-- and with its last four digits
abbrev pub has_number : List RawCard → RawEntry → Bool
has_number cards e =
    option_map_or (λ number. is_pan number && fits (string_bytes e.token) number) (number_of cards e) true

-- 7: an entry's usage is 1 or 2; its birth is 0 to its merchant's moment; it expires 1 to 3155760000 seconds
-- later; it is revoked never, or from its birth to the moment
abbrev pub is_timed : ℤ → RawEntry → Bool
is_timed moment e =
    is_within (pos 1) (pos 2) e.usage && is_within (pos 0) moment e.birth
    && is_within (e.birth +ℤ pos 1) (e.birth +ℤ pos 3155760000) e.expires
    && option_map_or (is_within e.birth moment) e.revoked true

-- 8: a purged entry, which has no card, is revoked or has expired at its merchant's moment
abbrev pub is_kept : ℤ → RawEntry → Bool
is_kept moment e = is_some e.card || is_some e.revoked || int_le e.expires moment

-- a test of each entry whose merchant exists, with the merchant's moment
abbrev pub at_moments : List RawMerchant → (ℤ → RawEntry → Bool) → RawEntry → Bool
at_moments merchants test e =
    option_map_or (λ moment. test moment e) (moment_of merchants (string_bytes e.merchant)) true

-- a multi-use entry that is live at a moment
abbrev pub is_live_multi : ℤ → RawEntry → Bool
is_live_multi moment e = int_eq e.usage (pos 2) && is_none e.revoked && int_lt moment e.expires

-- its number
abbrev pub live_number : List RawCard → ℤ → RawEntry → Option Bytes
live_number cards moment e = if is_live_multi moment e then number_of cards e else None

-- the merchant and the number of a multi-use entry that is live at its merchant's moment
abbrev pub live_key : List RawMerchant → List RawCard → RawEntry → Option (Bytes × Bytes)
live_key merchants cards e =
    option_and_then
    (λ moment. option_map (λ number. (string_bytes e.merchant, number)) (live_number cards moment e))
    (moment_of merchants (string_bytes e.merchant))

-- whether two pairs have the same texts
abbrev pub alike : Bytes × Bytes → Bytes × Bytes → Bool
alike a b = bytes_eq a.0 b.0 && bytes_eq a.1 b.1

-- no pair comes twice
abbrev pub are_distinct : List (Bytes × Bytes) → Bool
are_distinct [] = true
are_distinct (key ∷ keys) = not (list_any (alike key) keys) && are_distinct keys

-- 10: a merchant's made count is the number of its entries, at most 1000000
abbrev pub is_counted : List RawCount → List RawEntry → RawMerchant → Bool
is_counted counts entries m =
    let held = held_by entries (string_bytes m.name) in
    int_eq (total_of counts (string_bytes m.name) (pos 1)) (pos held) && nat_lt held 1000001

-- a record's entry exists and has its usage
abbrev pub has_usage : List RawEntry → RawRecord → Bool
has_usage entries r =
    option_map_or (λ (e : RawEntry). int_eq e.usage r.usage)
    (entry_of entries (string_bytes r.merchant) (string_bytes r.token)) false

-- 11: so it is of each record, whose caller is a name, and its request 1 to 9223372036854775807
abbrev pub is_record : List RawEntry → RawRecord → Bool
is_record entries r =
    is_name (string_bytes r.caller) && is_within (pos 1) (pos 9223372036854775807) r.request
    && has_usage entries r

-- 12: a right's caller is a name, its merchant exists, and it is 1 to 6
abbrev pub is_right : List RawMerchant → RawRight → Bool
is_right merchants r =
    is_name (string_bytes r.caller) && is_known merchants (string_bytes r.merchant)
    && is_within (pos 1) (pos 6) r.what

-- 13: a card row's merchant exists, and its uses are the number of entries that point at it, 1 or
-- more
abbrev pub is_card : List RawMerchant → List RawEntry → RawCard → Bool
is_card merchants entries c =
    is_known merchants (string_bytes c.merchant) && int_le (pos 1) c.uses
    && int_eq c.uses (pos (used_by entries c.id))

-- and the card of an entry, unless it is purged, is a card row of its merchant
abbrev pub has_card : List RawCard → RawEntry → Bool
has_card cards e =
    option_map_or
    (λ id.
    option_map_or (λ (c : RawCard). bytes_eq (string_bytes c.merchant) (string_bytes e.merchant))
    (card_of cards id) false)
    e.card true

-- 14: a merchant's masks show at most 6 or 8 digits at the left
abbrev pub has_lead : RawMerchant → Bool
has_lead m = int_eq m.lead (pos 6) || int_eq m.lead (pos 8)

-- 15: a right has no end, or it ends at a moment, 0 to 253402300799
abbrev pub has_end : RawRight → Bool
has_end r = option_map_or (is_within (pos 0) (pos 253402300799)) r.ends true

-- what is asked of all rows
abbrev pub Rule : Type 0
Rule = Rows → Bool

-- each rule, from 1 on
abbrev pub rules : List Rule
rules =
    (λ rows. is_current rows.versions rows.replaced)
    ∷ (λ rows. are_named rows.merchants)
    ∷ (λ rows. list_all is_lasting rows.merchants)
    ∷ (λ rows. list_all (is_count rows.merchants) rows.counts)
    ∷ (λ rows. list_all (has_token rows.merchants) rows.entries)
    ∷ (λ rows. list_all (has_number rows.cards) rows.entries)
    ∷ (λ rows. list_all (at_moments rows.merchants is_timed) rows.entries)
    ∷ (λ rows. list_all (at_moments rows.merchants is_kept) rows.entries)
    ∷ (λ rows. are_distinct (filter_map (live_key rows.merchants rows.cards) rows.entries))
    ∷ (λ rows. list_all (is_counted rows.counts rows.entries) rows.merchants)
    ∷ (λ rows. list_all (is_record rows.entries) rows.records)
    ∷ (λ rows. list_all (is_right rows.merchants) rows.rights)
    ∷ (λ rows. list_all (is_card rows.merchants rows.entries) rows.cards
    && list_all (has_card rows.cards) rows.entries)
    ∷ (λ rows. list_all has_lead rows.merchants)
    ∷ (λ rows. list_all has_end rows.rights)
    ∷ []

-- whether the rows keep each of these rules
abbrev pub verdicts_of : Rows → List Rule → List Bool
verdicts_of rows rest = map (λ rule. rule rows) rest

-- whether the rows keep the rule of this number
abbrev pub keeps : Rows → ℕ → Bool
keeps rows zero = true
keeps rows (suc n) = slice_index_or (verdicts_of rows rules) n true

-- the rows break this rule, and none below it
pub record IsLeastBroken (rows : Rows) (rule : ℕ) : Type 0 where
  pub broken : keeps rows rule ≡ false
  pub below : (r : ℕ) → r < rule → keeps rows r ≡ true
