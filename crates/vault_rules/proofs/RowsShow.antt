-- Rows that keep the rules show their vault.
use Rattle.std.proofs.Common.{◌≡◌, ◌⊎◌, inl, inr, ℕ, zero, suc, pos, ◌≤◌, ◌==◌, ◌&&◌, true, List, [], ◌∷◌}
use Rattle.std.proofs.Common.{length, Option, refl, sym, ap, ◌∙◌, arith, true≢false}
use Rattle.std.specs.Prelude.{string_bytes}
use Rattle.std.specs.List.{list_all}
use Rattle.std.specs.Option.{option_map_or}
use Rattle.std.specs.Ordering.{int_eq}
use Rattle.std.proofs.lemmas.Bool.{and_parts}
use Rattle.std.proofs.lemmas.Bool.Decides.{Decides-eqb}
use Rattle.sqlite_rules.specs.Lists.{Has}
use Rattle.vault_core.specs.Numbers.{use_number}
use Rattle.vault_core.specs.Vault.{Merchant}
use Rattle.vault_rules.specs.Codes.{natural, right_of, use_of}
use Rattle.vault_rules.specs.Lookups.{total_of, entry_of}
use Rattle.vault_rules.specs.Rules.{is_current, keeps}
use Rattle.vault_rules.specs.Showing.{Shows, ShowsCount, ShowsRecord}
use Rattle.vault_rules.specs.VaultOf.{HasKeysApart, vault_of, merchant_value}
use Rattle.vault_rules.specs.VaultOf.{entry_value, record_value, grant_value}
use Rattle.vault_rules.specs.declared.rows.RawVersion.{RawVersion}
use Rattle.vault_rules.specs.declared.rows.RawCount.{RawCount}
use Rattle.vault_rules.specs.declared.rows.RawEntry.{RawEntry}
use Rattle.vault_rules.specs.declared.rows.RawRecord.{RawRecord}
use Rattle.vault_rules.specs.AllRows.{Rows}
use Rattle.vault_rules.proofs.Alone.{entry_shown}
use Rattle.vault_rules.proofs.Counts.{count_of, count_total, counts_are}
use Rattle.vault_rules.proofs.Ends.{ends_are}
use Rattle.vault_rules.proofs.Found.{many_is, made_is}
use Rattle.vault_rules.proofs.FoundRows.{merchant_known, merchant_there, merchant_row, entry_found, entry_row}
use Rattle.vault_rules.proofs.Held.{merchant_held, entry_held, record_held, right_held}
use Rattle.vault_rules.proofs.Kept as kept
use Rattle.vault_rules.proofs.MerchantRows.{row_shown}
use Rattle.vault_rules.proofs.Numbers.{int_is, pos_same}
use Rattle.vault_rules.proofs.Options.{tested_is}
use Rattle.vault_rules.proofs.RightNumbers.{what_is}

one_row : (versions : List RawVersion)
    → (length versions == 1 && list_all (λ x. int_eq x.id (pos 1)) versions) ≡ true
    → (v : RawVersion) × (versions ≡ v ∷ []) × (v.id ≡ pos 1)
one_row [] h = absurd (true≢false (sym h))
one_row (v ∷ []) h = (v, refl, int_is v.id (pos 1) (and_parts (int_eq v.id (pos 1)) true h).0)
one_row (v ∷ w ∷ versions) h =
    let size =
    (Decides-eqb (length (v ∷ w ∷ versions)) 1).0 (and_parts (length (v ∷ w ∷ versions) == 1)
    (list_all (λ x. int_eq x.id (pos 1)) (v ∷ w ∷ versions)) h).0 in
    absurd (omega arith)

-- one version row, and no row that was replaced
current_is : (versions : List RawVersion) (replaced : ℕ) → is_current versions replaced ≡ true
    → ((v : RawVersion) × (versions ≡ v ∷ []) × (v.id ≡ pos 1)) × (replaced ≡ 0)
current_is versions replaced h =
    let parts = and_parts _ _ h in
    (one_row versions parts.0, (Decides-eqb replaced 0).0 parts.1)

one_of_three : (n : ℕ) → 1 ≤ n → n ≤ 3 → (n ≡ 1) ⊎ ((n ≡ 2) ⊎ (n ≡ 3))
one_of_three zero low high = absurd (omega arith)
one_of_three (suc zero) low high = inl refl
one_of_three (suc (suc zero)) low high = inr (inl refl)
one_of_three (suc (suc (suc zero))) low high = inr (inr refl)
one_of_three (suc (suc (suc (suc n)))) low high = absurd (omega arith)

module _ (rows : Rows) (apart : HasKeysApart rows) (keep : (r : ℕ) → keeps rows r ≡ true) where
  -- the total of a count's row is the vault's count
  pub count_held : (c : RawCount) → Has rows.counts c
      → natural c.total ≡ count_of (vault_of rows) (string_bytes c.merchant) (natural c.kind)
  count_held c h =
      let well = kept.counts_well rows keep c h in
      pos_same (sym well.total.is ∙ sym (count_total rows apart c h)
      ∙ ap (total_of rows.counts (string_bytes c.merchant)) well.kind.is
      ∙ counts_are rows apart keep (string_bytes c.merchant) (natural c.kind))

  count_shown : (c : RawCount) → Has rows.counts c → ShowsCount c (vault_of rows)
  count_shown c h =
      let well = kept.counts_well rows keep c h in
      let name = string_bytes c.merchant in
      let row = merchant_known rows.merchants name well.known in
      let merchant = merchant_value rows.counts row.m in
      let at = merchant_there rows name row in
      let total = count_held c h in
      let more = λ (kind : ℕ) (is : natural c.kind ≡ kind). total ∙ ap (count_of (vault_of rows) name) is in
      record {
        kind = natural c.kind;
        total = natural c.total;
        kind_is = well.kind.is;
        total_is = well.total.is;
        some = omega (arith, well.total.low_is);
        counted = elim (one_of_three (natural c.kind) well.kind.low_is well.kind.high_is) [
          | inl one ↦ inl (one, more 1 one)
          | inr other ↦ elim other [
            | inl two ↦
                let given = ap (λ (o : Option Merchant). option_map_or (λ (x : Merchant). x.given) o 0) at in
                inr (merchant, at, inl (two, more 2 two ∙ given))
            | inr three ↦
                let denied =
                ap (λ (o : Option Merchant). option_map_or (λ (x : Merchant). x.denied) o 0) at
                in
                inr (merchant, at, inr (three, more 3 three ∙ denied))
          ]
        ];
      }

  record_shown : (r : RawRecord) → Has rows.records r → ShowsRecord r (record_value r)
  record_shown r h =
      let well = kept.records_well rows keep r h in
      let it =
      tested_is (λ (e : RawEntry). int_eq e.usage r.usage)
      (entry_of rows.entries (string_bytes r.merchant) (string_bytes r.token)) well.usage in
      let row = entry_found rows.entries (string_bytes r.merchant) (string_bytes r.token) it.0 it.1 in
      let same = int_is it.0.usage r.usage it.2 in
      record {
        merchant = refl;
        token = refl;
        usage =
            sym same ∙ (entry_shown rows keep it.0 row.there).usage
            ∙ ap (λ z. pos (use_number (use_of z))) same;
      }

  pub rows_show : Shows rows (vault_of rows)
  rows_show =
      let current = current_is rows.versions rows.replaced (keep 1) in
      let one = current.0 in
      record {
        version = one.0;
        versions = one.1;
        id = one.2;
        replaced = current.1;
        many = sym (many_is rows apart);
        merchants =
            λ m h. (
              merchant_value rows.counts m,
              merchant_held rows apart m h,
              row_shown rows keep m h,
            );
        merchants_there =
            λ name merchant at.
            let row = (merchant_row rows name merchant at).0 in
            (row.m, row.there, row.name_is);
        counts = count_shown;
        counted = λ name. counts_are rows apart keep name 1;
        held = λ name. sym (made_is rows apart name);
        entries =
            λ e h. (
              entry_value rows.cards e,
              entry_held rows apart e h,
              entry_shown rows keep e h,
            );
        cards = λ c h.
            let well = kept.cards_well rows keep c h in
            record { uses = well.uses; used = well.used };
        entries_there =
            λ m token entry at.
            let row = (entry_row rows m token entry at).0 in
            (row.e, row.there, row.merchant_is, row.token_is);
        records =
            λ r h. (
              natural r.request,
              record_value r,
              (kept.records_well rows keep r h).request.is,
              record_held rows apart keep r h,
              record_shown r h,
            );
        rights = λ r h.
            let what = (kept.rights_well rows keep r h).2 in (
              right_of r.what,
              grant_value r,
              what_is r.what what,
              right_held rows apart keep r h,
              ends_are r.ends (kept.ended rows keep r h),
            );
      }
