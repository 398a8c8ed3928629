-- The index of multi-use tokens by merchant and number.
use Rattle.std.specs.Prelude.{◌≡◌, ℕ, ◌&&◌, true, Option, Some, None, Ok, is_none, option_map, if◌then◌else◌}
use Rattle.std.specs.BTreeSet as keys
use Rattle.std.specs.FinMap as map
use Rattle.std.specs.Ordering.{nat_cmp, ordering_then}
use Rattle.std.specs.Result.{result_cmp}
use Rattle.std.specs.declared.cmp.Ordering.{Ordering}
use Rattle.std.specs.declared.cmp.Ordering.TheVariants.{Equal}
use Rattle.vault_core.specs.Keys.{Bytes, bytes_cmp, entry_cmp}
use Rattle.vault_core.specs.Repeats.{same_use}
use Rattle.vault_core.specs.declared.row.Entry.{Entry}
use Rattle.vault_core.specs.declared.usage.Use.TheVariants.{Multi}
use Rattle.vault_store.specs.declared.memory.index.NumberKey.{NumberKey}

-- the end of an entry's life, and its token
abbrev pub Place : Type 0
Place = ℕ × Bytes

-- by end and token
abbrev pub place_cmp : Place → Place → Ordering
place_cmp a b = ordering_then (nat_cmp a.0 b.0) (bytes_cmp a.1 b.1)

-- by merchant, number and place, and after all places of the number
abbrev pub number_cmp : NumberKey → NumberKey → Ordering
number_cmp a b =
    ordering_then (bytes_cmp a.merchant b.merchant)
    (ordering_then (bytes_cmp a.number b.number) (result_cmp place_cmp (λ _ _. Equal) a.place b.place))

-- the key of a place of a merchant's number
abbrev pub key_at : Bytes → Bytes → Place → NumberKey
key_at m pan place = record { merchant = m; number = pan; place = Ok place }

-- the key of an entry that is live until it ends: a multi-use one that has its number and isn't revoked
abbrev pub number_key : Bytes → Bytes → Entry → Option NumberKey
number_key m token entry =
    if same_use entry.usage Multi && is_none entry.revoked
    then option_map (λ pan. key_at m pan (entry.expires, token)) entry.number
    else None

-- the index of entries has the key of each that has one, and no other: a purged number isn't in it
pub record Indexes (index : keys.BTreeSet NumberKey) (F : map.FinMap entry_cmp Entry) : Type 0 where
  pub each : (m token : Bytes) (entry : Entry) (key : NumberKey)
      → map.get F (m, token) ≡ Some entry → number_key m token entry ≡ Some key
      → keys.contains number_cmp index key ≡ true
  pub only : (key : NumberKey) → keys.contains number_cmp index key ≡ true
      → (token : Bytes) × (entry : Entry) × (map.get F (key.merchant, token) ≡ Some entry)
      × (number_key key.merchant token entry ≡ Some key)

-- the index of entries, where there is one
abbrev pub ShowsIndex : Option (keys.BTreeSet NumberKey) → map.FinMap entry_cmp Entry → Type 0
ShowsIndex None F = Unit {0}
ShowsIndex (Some index) F = Indexes index F

-- entries with another one at a key, or with none there
abbrev pub with_at : map.FinMap entry_cmp Entry → Bytes × Bytes → Option Entry → map.FinMap entry_cmp Entry
with_at F key None = map.remove F key
with_at F key (Some entry) = map.insert F key entry
