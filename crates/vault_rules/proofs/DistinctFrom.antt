-- No two rows have one live number at a merchant of a sound vault.
use Rattle.std.proofs.Common.{◌≡◌, ◌&&◌, Bool, true, false, List, [], ◌∷◌, not, Option, Some, None, inl}
use Rattle.std.proofs.Common.{inr, refl, sym, ap, subst, ◌∙◌}
use Rattle.std.specs.Prelude.{string_bytes, bytes_eq}
use Rattle.std.specs.List.{filter_map, cons_option, list_any}
use Rattle.std.proofs.lemmas.Bool.{and_parts, and_from}
use Rattle.sqlite_rules.specs.Lists.{Has}
use Rattle.sqlite_rules.proofs.ListLemmas.{some_has}
use Rattle.vault_core.specs.Keys.{Bytes}
use Rattle.vault_core.specs.Repeats.{is_reusable}
use Rattle.vault_core.specs.Sound.{Sound}
use Rattle.vault_core.specs.Vault.{Vault, Merchant, merchant_at, entry_at}
use Rattle.vault_core.proofs.Finds.{some_same}
use Rattle.vault_rules.specs.Rules.{live_number, live_key, are_distinct}
use Rattle.vault_rules.specs.Showing.{Shows}
use Rattle.vault_rules.specs.VaultOf.{AreKeysApart, entry_key}
use Rattle.vault_rules.specs.declared.rows.RawEntry.{RawEntry}
use Rattle.vault_rules.specs.AllRows.{Rows}
use Rattle.vault_rules.proofs.Found.{bytes_are}
use Rattle.vault_rules.proofs.Live.{live_reusable, key_is}
use Rattle.vault_rules.proofs.Options.{mapped_is}
use Rattle.vault_rules.proofs.ShownRows.{Entered, entered}

-- what was given is of a row
has_given : {R K : Type 0} (f : R → Option K) (rows : List R) (k : K) → Has (filter_map f rows) k
    → (r : R) × Has rows r × (f r ≡ Some k)
has_given f [] k h = absurd h
has_given {R = R} {K = K} f (s ∷ rows) k h = by_first (f s) refl h (has_given f rows k)
  where
    by_first : (o : Option K) → f s ≡ o → Has (cons_option o (filter_map f rows)) k
        → (Has (filter_map f rows) k → (r : R) × Has rows r × (f r ≡ Some k))
        → (r : R) × Has (s ∷ rows) r × (f r ≡ Some k)
    by_first None is h later = let it = later h in (it.0, inr it.1, it.2)
    by_first (Some x) is (inl same) later = (s, inl refl, is ∙ ap (λ y. Some y) (sym same))
    by_first (Some x) is (inr h) later = let it = later h in (it.0, inr it.1, it.2)

-- pairs of rows whose keys are apart are apart
distinct_from : {R K : Type 0} (f : R → Option (Bytes × Bytes)) (key : R → K) (rows : List R)
    → AreKeysApart key rows
    → ((a b : R) → Has rows a → Has rows b → (k : Bytes × Bytes) → f a ≡ Some k → f b ≡ Some k
    → key a ≡ key b)
    → are_distinct (filter_map f rows) ≡ true
distinct_from f key [] apart alone = refl
distinct_from f key (r ∷ rows) apart alone =
    by_first (f r) refl (distinct_from f key rows apart.1 (λ a b h g. alone a b (inr h) (inr g)))
  where
    clash : (k : Bytes × Bytes) → f r ≡ Some k → (b : Bool)
        → list_any (λ other. bytes_eq k.0 other.0 && bytes_eq k.1 other.1) (filter_map f rows) ≡ b
        → not b ≡ true
    clash k is false none = refl
    clash k is true some =
        let found =
        some_has (λ other. bytes_eq k.0 other.0 && bytes_eq k.1 other.1) (filter_map f rows) some in
        let parts = and_parts (bytes_eq k.0 found.0.0) (bytes_eq k.1 found.0.1) found.2 in
        let same : k ≡ found.0 =
        λ i. (bytes_are k.0 found.0.0 parts.0 i, bytes_are k.1 found.0.1 parts.1 i) in
        let row = has_given f rows found.0 found.1 in
        absurd (apart.0 row.0 row.1
        (alone r row.0 (inl refl) (inr row.1) k is (row.2 ∙ ap (λ y. Some y) (sym same))))

    by_first : (o : Option (Bytes × Bytes)) → f r ≡ o → are_distinct (filter_map f rows) ≡ true
        → are_distinct (cons_option o (filter_map f rows)) ≡ true
    by_first None is rest = rest
    by_first (Some k) is rest =
        and_from
        (not (list_any (λ other. bytes_eq k.0 other.0 && bytes_eq k.1 other.1) (filter_map f rows)))
        (are_distinct (filter_map f rows)) (clash k is _ refl) rest

module _ (rows : Rows) (V : Vault) (shows : Shows rows V) (sound : Sound V) where
  -- a row with a live number has an entry that is reused for it
  live_back : (e : RawEntry) (k : Bytes × Bytes)
      → (it : Entered rows V e) → live_key rows.merchants rows.cards e ≡ Some k
      → (string_bytes e.merchant ≡ k.0) × (is_reusable k.1 it.merchant.moment it.entry ≡ true)
  live_back e k it h =
      let pair = λ (number : Bytes). let made : Bytes × Bytes = (string_bytes e.merchant, number) in made in
      let own =
      mapped_is pair (live_number rows.cards it.row.m.moment e) k
      (sym (key_is rows.merchants rows.cards e it.row.m it.row.first) ∙ h) in
      let number : own.0 ≡ k.1 = ap (λ p. p.1) own.2 in
      let live =
      ap (λ z. live_number rows.cards z e) (sym it.moment) ∙ own.1 ∙ ap (λ n. Some n) number in (
        ap (λ p. p.0) own.2,
        live_reusable rows.cards e it.entry it.shown it.merchant.moment k.1 live,
      )

  same_key : (a b : RawEntry) → Has rows.entries a → Has rows.entries b → (k : Bytes × Bytes)
      → live_key rows.merchants rows.cards a ≡ Some k
      → live_key rows.merchants rows.cards b ≡ Some k
      → entry_key a ≡ entry_key b
  same_key a b h g k p q =
      let one = entered rows V shows sound a h in
      let two = entered rows V shows sound b g in
      let first = live_back a k one p in
      let second = live_back b k two q in
      let merchant : string_bytes b.merchant ≡ string_bytes a.merchant = second.0 ∙ sym first.0 in
      let own : two.merchant ≡ one.merchant =
      some_same (sym two.merchant_is ∙ ap (merchant_at V) merchant ∙ one.merchant_is) in
      let at = ap (λ n. entry_at V n (string_bytes b.token)) (sym merchant) ∙ two.at in
      let live = subst (λ (x : Merchant). is_reusable k.1 x.moment two.entry ≡ true) own second.1 in
      let token = sound.alone (string_bytes a.merchant) k.1 (string_bytes a.token) (string_bytes b.token)
      one.entry two.entry one.merchant
      one.merchant_is one.at first.1 at live in
      λ i. (sym merchant i, token i)

  pub keys_distinct : AreKeysApart entry_key rows.entries
      → are_distinct (filter_map (live_key rows.merchants rows.cards) rows.entries) ≡ true
  keys_distinct apart =
      distinct_from (live_key rows.merchants rows.cards) entry_key rows.entries apart
      same_key
