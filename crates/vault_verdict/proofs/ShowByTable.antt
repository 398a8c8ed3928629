-- Rows that stand for a vault, table by table, show it.
use Rattle.std.proofs.Common.{◌≡◌, ◌⊎◌, inl, inr, ℕ, zero, suc, pos, List, [], ◌∷◌, map, ◌<◌}
use Rattle.std.proofs.Common.{Option, Some, None, option_map, refl, sym, ap, subst, ◌∙◌, arith}
use Rattle.std.proofs.lemmas.Bool.Decides.{nat_tests}
use Rattle.std.proofs.lemmas.List.{length-map}
use Rattle.std.proofs.lemmas.List.Sorted.{length_permutation}
use Rattle.std.specs.FinMap as finite
use Rattle.std.specs.List.Sorted.{IsPermutation}
use Rattle.std.specs.Option.{option_map_or}
use Rattle.std.specs.Ordering.{eq_by_cmp}
use Rattle.std.specs.Prelude.{string_bytes}
use Rattle.sqlite.proofs.Callers.{one_permutation}
use Rattle.sqlite.specs.Tree.{Trees}
use Rattle.sqlite_rules.specs.Lists.{Has}
use Rattle.sql_tables.proofs.HowMany.{as_many}
use Rattle.sql_tables.specs.Rows.{AreRowsOf}
use Rattle.vault_core.proofs.Maps.{entry_total, entry_exact}
use Rattle.vault_core.specs.Keys.{Bytes, bytes_cmp}
use Rattle.vault_core.specs.Vault.{Vault, Merchant, merchant_at, entry_at, made_count}
use Rattle.vault_core.specs.Numbers.{use_number}
use Rattle.vault_core.specs.declared.row.Entry.{Entry}
use Rattle.vault_core.specs.declared.usage.Use.{Use}
use Rattle.vault_core.specs.declared.usage.Use.TheVariants.{Single, Multi}
use Rattle.sql_tables.proofs.Determined.{both_ways}
use Rattle.vault_verdict.proofs.Merchants.{merchant_shown, merchant_there}
use Rattle.vault_verdict.proofs.Rights.{right_shown}
use Rattle.vault_schema.specs.Versions.{Merchants, Rights}
use Rattle.vault_verdict.proofs.Sources.{none_unless, some_unless}
use Rattle.vault_verdict.proofs.Table.{pair_of, row_at}
use Rattle.vault_verdict.proofs.Tables as tables
use Rattle.vault_verdict.proofs.VersionRows.{one_shown}
use Rattle.vault_verdict.specs.Opened.{AreVersions}
use Rattle.vault_verdict.specs.ReadAs.{merchants_in, rights_in}
use Rattle.vault_tables.specs.VersionTexts.{version_values}
use Rattle.vault_tables.specs.MerchantTexts.{merchant_values}
use Rattle.vault_tables.specs.RightTexts.{right_values}
use Rattle.vault_tables.specs.CountTexts.{count_values}
use Rattle.vault_tables.specs.RecordTexts.{record_values}
use Rattle.vault_verdict.specs.Reading.{shown_by, version_columns}
use Rattle.vault_rules.specs.Codes.{natural, use_of}
use Rattle.vault_rules.proofs.Counts.{count_total, count_cases}
use Rattle.vault_rules.proofs.Found.{made_is}
use Rattle.vault_rules.proofs.FoundRows.{entry_row}
use Rattle.vault_rules.proofs.Held.{entry_held}
use Rattle.vault_rules.specs.Lookups.{total_of, held_by}
use Rattle.vault_rules.specs.Showing.{Shows, ShowsCard, ShowsCount, ShowsEntry, ShowsRecord}
use Rattle.vault_rules.specs.VaultOf.{HasKeysApart, entry_key, entry_value}
use Rattle.vault_rules.specs.VaultOf.{vault_of}
use Rattle.vault_rules.specs.declared.rows.RawVersion.{RawVersion}
use Rattle.vault_rules.specs.declared.rows.RawCard.{RawCard}
use Rattle.vault_rules.specs.declared.rows.RawCount.{RawCount}
use Rattle.vault_rules.specs.declared.rows.RawEntry.{RawEntry}
use Rattle.vault_rules.specs.AllRows.{Rows}
use Rattle.vault_schema.proofs.MerchantCodes.{merchant_coding}
use Rattle.vault_schema.specs.VersionRows.{IsVersion}
use Rattle.vault_schema.specs.Counts.{count_row}
use Rattle.vault_schema.specs.Records.{record_row}
use Rattle.vault_schema.specs.declared.version.Version.{Version}
use Rattle.vault_core.specs.Lives.{lives_in}
use Rattle.vault_schema.specs.Stands.{count_at, lookups_of, unless_zero}

-- which of a merchant's counts this is
abbrev IsWhich : Vault → Bytes → ℕ → ℕ → Type 0
IsWhich V m kind total =
    (kind ≡ 1) × (total ≡ made_count V m)
    ⊎ (merchant : Merchant) × (merchant_at V m ≡ Some merchant)
    × ((kind ≡ 2) × (total ≡ merchant.given) ⊎ (kind ≡ 3) × (total ≡ merchant.denied))

-- a merchant's field that isn't 0
of_merchant : (field : Merchant → ℕ) (o : Option Merchant) → 0 < option_map_or field o 0
    → (merchant : Merchant) × (o ≡ Some merchant) × (option_map_or field o 0 ≡ field merchant)
of_merchant field None some = absurd (omega (arith, some))
of_merchant field (Some merchant) some = (merchant, refl, refl)

which : (V : Vault) (m : Bytes) (kind : ℕ) → 0 < count_at V m kind → IsWhich V m kind (count_at V m kind)
which V m zero some = absurd (omega (arith, some))
which V m (suc zero) some = inl (refl, refl)
which V m (suc (suc zero)) some =
    let it = of_merchant (λ x. x.given) (merchant_at V m) some in inr (it.0, it.1, inl (refl, it.2))
which V m (suc (suc (suc zero))) some =
    let it = of_merchant (λ x. x.denied) (merchant_at V m) some in inr (it.0, it.1, inr (refl, it.2))
which V m (suc (suc (suc (suc n)))) some =
    let none : count_at V m (suc (suc (suc (suc n)))) ≡ 0 = grind (arith, nat_tests) in
    absurd (omega (arith, none, some))

-- the one row of `vault` has the id 1 and the version
pub version_of : (n : ℕ) (db : Trees) → IsVersion n (db 0) → (versions : List RawVersion)
    → AreVersions db versions → (v : RawVersion) × (versions ≡ v ∷ []) × (v.id ≡ pos 1) × (v.version ≡ pos n)
version_of n db is versions same =
    let all = map (shown_by version_columns) in
    let one = subst (λ l. IsPermutation (all l) (map version_values versions)) is same in
    let it = one_shown version_values versions _ (one_permutation _ _ one) in
    (it.0, it.1, grind (arith, it.2), grind (arith, it.2))

-- a use, and a moment, are those of their numbers
use_same : (u : Use) → use_of (pos (use_number u)) ≡ u
use_same Single = refl
use_same Multi = refl

moment_same : (o : Option ℕ) → option_map natural (option_map pos o) ≡ o
moment_same None = refl
moment_same (Some n) = refl

-- what the rows of the tables that each version has are claimed to be, read as those of the newest one, and
-- how they were read
pub record AreShared (v : Version) (db : Trees) (V : Vault) (rows : Rows) : Type 0 where
  pub merchants : Merchants (lookups_of V).merchants (merchants_in v db)
  pub counts : AreRowsOf count_row (db 3) (lookups_of V).counts
  pub records : AreRowsOf record_row (db 8) (lookups_of V).records
  pub rights : Rights (lookups_of V).rights (rights_in v db)
  pub merchants_are : IsPermutation (merchants_in v db) (map merchant_values rows.merchants)
  pub counts_are : IsPermutation (db 3) (map count_values rows.counts)
  pub records_are : IsPermutation (db 8) (map record_values rows.records)
  pub rights_are : IsPermutation (rights_in v db) (map right_values rows.rights)

-- each row of an entry shows the entry that the vault has at its key
abbrev pub ArePairs : Vault → Rows → Type 0
ArePairs V rows =
    (e : RawEntry) → Has rows.entries e
    → (entry : Entry) × (entry_at V (string_bytes e.merchant) (string_bytes e.token) ≡ Some entry)
    × ShowsEntry rows.cards e entry

-- and each entry of the vault has its row
abbrev pub AreThere : Vault → Rows → Type 0
AreThere V rows =
    (key : Bytes × Bytes) (entry : Entry) → finite.get V.entries key ≡ Some entry
    → (e : RawEntry) × Has rows.entries e × (entry_key e ≡ key)

module _ (v : Version) (db : Trees) (V : Vault) (rows : Rows) (claimed : AreShared v db V rows)
    (apart : HasKeysApart rows) (entry_pair : ArePairs V rows)
    (entry_there : AreThere V rows) where
  abbrev count_of : RawCount → ℕ
  count_of c = count_at V (string_bytes c.merchant) (natural c.kind)

  count_is : (c : RawCount) → Has rows.counts c
      → (c.kind ≡ pos (natural c.kind)) × (c.total ≡ pos (count_of c)) × (0 < count_of c)
  count_is c h =
      let it = pair_of tables.counts _ claimed.counts_are claimed.counts c h in
      let some = some_unless (count_of c) it.0 it.2 in
      (grind (arith, it.1), grind (arith, it.1, some.0), some.1)

  count_shown : (c : RawCount) → Has rows.counts c → ShowsCount c V
  count_shown c h =
      let it = count_is c h in
      record {
        kind = natural c.kind;
        total = count_of c;
        kind_is = it.0;
        total_is = it.1;
        some = it.2;
        counted = which V (string_bytes c.merchant) (natural c.kind) it.2;
      }

  made_counted : (name : Bytes) → total_of rows.counts name (pos 1) ≡ pos (made_count V name)
  made_counted name = elim (unless_zero (made_count V name))
      as (λ o. unless_zero (made_count V name) ≡ o
      → total_of rows.counts name (pos 1) ≡ pos (made_count V name)) [
        | None ↦ λ none. count_cases rows.counts name (pos 1) (λ z. z ≡ pos (made_count V name))
            (ap pos (sym (none_unless (made_count V name) none)))
            (λ c at. (count_is c at.there).1
            ∙ (λ i. pos (count_at V (at.merchant_is i) (natural (at.kind_is i)))))
        | Some x ↦ λ some.
            let it = row_at tables.counts _ claimed.counts_are claimed.counts (name, 1) x some in
            let is = count_is it.0.0 it.0.1 in
            (λ i. total_of rows.counts (sym it.0.2 i).0 (pos (sym it.0.2 i).1))
            ∙ ap (total_of rows.counts _) (sym is.0) ∙ count_total rows apart it.0.0 it.0.1
            ∙ is.1 ∙ (λ i. pos (count_at V (it.0.2 i).0 (it.0.2 i).1))
      ] refl

  -- a row's entry is what it says
  entry_said : (e : RawEntry) (h : Has rows.entries e)
      → entry_value rows.cards e ≡ (entry_pair e h).0
  entry_said e h =
      let it = (entry_pair e h).2 in
      let entry = (entry_pair e h).0 in
      let usage : use_of e.usage ≡ entry.usage = ap use_of it.usage ∙ use_same entry.usage in
      let revoked : option_map natural e.revoked ≡ entry.revoked =
      ap (option_map natural) it.revoked ∙ moment_same entry.revoked in
      λ i. record {
        number = it.number i;
        usage = usage i;
        birth = natural (it.birth i);
        expires = natural (it.expires i);
        revoked = revoked i;
      }

  -- the entries of the vault are those of the vault of rows
  same_entries : V.entries ≡ (vault_of rows).entries
  same_entries = finite.same_map entry_total entry_exact _ _ (λ q. both_ways _ _
      (λ x e.
      let it = entry_there q x e in
      let pair = entry_pair it.0 it.1 in
      ap (finite.get (vault_of rows).entries) (sym it.2) ∙ entry_held rows apart it.0 it.1
      ∙ ap (λ v. Some v) (entry_said it.0 it.1) ∙ sym pair.1 ∙ ap (finite.get V.entries) it.2 ∙ e)
      (λ y e.
      let row = entry_row rows q.0 q.1 y e in
      let it = entry_pair row.0.e row.0.there in
      sym (λ i. entry_at V (row.0.merchant_is i) (row.0.token_is i)) ∙ it.1
      ∙ ap (λ v. Some v) (sym (entry_said row.0.e row.0.there) ∙ row.1)))

  held_made : (name : Bytes) → held_by rows.entries name ≡ made_count V name
  held_made name = sym (made_is rows apart name)
      ∙ (λ i. finite.len (finite.retain_keys (sym same_entries i) (λ key. eq_by_cmp bytes_cmp name key.0)))

  pub shows_of : (version : RawVersion) → rows.versions ≡ version ∷ [] → version.id ≡ pos 1
      → rows.replaced ≡ 0 → ((c : RawCard) → Has rows.cards c → ShowsCard rows.entries c)
      → Shows rows V
  shows_of version one id replaced cards =
      let size = length_permutation _ _ claimed.merchants_are in
      let many = as_many merchant_coding lives_in (merchants_in v db) V.merchants claimed.merchants in
      record {
        version = version;
        versions = one;
        id = id;
        replaced = replaced;
        many = sym (length-map rows.merchants _) ∙ size ∙ many;
        merchants = merchant_shown V _ rows.merchants claimed.merchants_are claimed.merchants;
        merchants_there = merchant_there V _ rows.merchants claimed.merchants_are claimed.merchants;
        counts = count_shown;
        counted = made_counted;
        held = held_made;
        entries = entry_pair;
        cards = cards;
        entries_there = λ m token entry h.
            let it = entry_there (m, token) entry h in
            (it.0, it.1, ap (λ k. k.0) it.2, ap (λ k. k.1) it.2);
        records = λ r h.
            let it = pair_of tables.records _ claimed.records_are claimed.records r h in
            let shown : ShowsRecord r it.0 = grind (arith, it.1) in
            (natural r.request, it.0, grind (arith, it.1), it.2, shown);
        rights = right_shown V _ rows.rights claimed.rights_are claimed.rights;
      }
