-- A live multi-use token is in the index of its number.
use Rattle.std.proofs.Common.{◌≡◌, ◌<◌, ℕ, Bool, true, false, Option, Some, None, ◌&&◌, refl, ap, ◌∙◌, arith}
use Rattle.std.specs.Prelude.{is_none, is_some, option_map, if◌then◌else◌, nat_lt}
use Rattle.std.specs.BTreeSet as keys
use Rattle.std.specs.FinMap as map
use Rattle.std.specs.Option.{option_map_or}
use Rattle.std.proofs.lemmas.Bool.Decides.{nat_tests}
use Rattle.vault_pan.specs.CardText.{same}
use Rattle.vault_core.specs.Keys.{Bytes, entry_cmp}
use Rattle.vault_core.specs.Repeats.{is_reusable, same_use}
use Rattle.vault_core.specs.declared.row.Entry.{Entry}
use Rattle.vault_core.specs.declared.usage.Use.TheVariants.{Multi}
use Rattle.vault_core.proofs.CurrentLemmas.{same-is}
use Rattle.vault_store.specs.Index.{Indexes, key_at, number_cmp, number_key}
use Rattle.vault_store.specs.declared.memory.index.NumberKey.{NumberKey}

both : (a b : Bool) → (a && b) ≡ true → (a ≡ true) × (b ≡ true)
both true true h = (refl, refl)
both true false h = cc
both false b h = cc

all : (a b c d e : Bool) → (a && b && (c && d && e)) ≡ true
    → (a ≡ true) × (b ≡ true) × (d ≡ true) × (e ≡ true)
all a b c d e h =
    let x = both (a && b) (c && d && e) h in
    let y = both a b x.0 in
    let z = both (c && d) e x.1 in
    (y.0, y.1, (both c d z.0).1, z.1)

number_is : (o : Option Bytes) (pan : Bytes) → option_map_or (λ number. same number pan) o false ≡ true
    → o ≡ Some pan
number_is None pan h = cc
number_is (Some number) pan h = ap Some (same-is number pan h)

before : (a b : ℕ) → nat_lt a b ≡ true → a < b
before a b h = grind (arith, nat_tests)

module _ (m pan token : Bytes) (at : ℕ) (entry : Entry) (live : is_reusable pan at entry ≡ true) where
  parts : (same_use entry.usage Multi ≡ true)
      × (option_map_or (λ number. same number pan) entry.number false ≡ true)
      × (is_none entry.revoked ≡ true) × (nat_lt at entry.expires ≡ true)
  parts =
      all (same_use entry.usage Multi) (option_map_or (λ number. same number pan) entry.number false)
      (is_some entry.number) (is_none entry.revoked) (nat_lt at entry.expires) live

  key_is : number_key m token entry ≡ Some (key_at m pan (entry.expires, token))
  key_is =
      let test : (same_use entry.usage Multi && is_none entry.revoked) ≡ true =
      λ i. parts.0 i && parts.2 i in
      ap (λ b. if b then option_map (λ n. key_at m n (entry.expires, token)) entry.number else None) test
      ∙ ap (option_map (λ n. key_at m n (entry.expires, token))) (number_is entry.number pan parts.1)

  -- its life isn't over
  pub ends_after : at < entry.expires
  ends_after = before at entry.expires parts.3

  pub listed : (index : keys.BTreeSet NumberKey) (F : map.FinMap entry_cmp Entry) → Indexes index F
      → map.get F (m, token) ≡ Some entry
      → keys.contains number_cmp index (key_at m pan (entry.expires, token)) ≡ true
  listed index F h found = h.each m token entry (key_at m pan (entry.expires, token)) found key_is
