-- The rows of a sound vault.
use Rattle.std.proofs.Common.{◌≡◌, ℤ, pos, ◌<◌, ◌&&◌, Bool, true, false, Some, is_some, refl, sym, ap}
use Rattle.std.proofs.Common.{subst, ◌∙◌, arith}
use Rattle.std.specs.Prelude.{string_bytes, bytes_eq}
use Rattle.std.proofs.lemmas.Bool.{and_from}
use Rattle.sqlite_rules.specs.Lists.{Has}
use Rattle.vault_core.specs.Keys.{Bytes}
use Rattle.vault_core.specs.Sound.{Sound, IsSoundEntry}
use Rattle.vault_core.specs.Vault.{Vault, Merchant, merchant_at, entry_at, made_count}
use Rattle.vault_core.specs.declared.row.Entry.{Entry}
use Rattle.vault_core.proofs.Finds.{some_same}
use Rattle.vault_rules.specs.Lookups.{is_known}
use Rattle.vault_rules.specs.Rules.{at_moments}
use Rattle.vault_rules.specs.Showing.{Shows, ShowsEntry}
use Rattle.vault_rules.specs.declared.rows.RawEntry.{RawEntry}
use Rattle.vault_rules.specs.AllRows.{Rows}
use Rattle.vault_rules.proofs.Found.{bytes_are, bytes_same}
use Rattle.vault_rules.proofs.FoundRows.{MerchantRow, EntryRow, merchant_found, entry_found, at_moment}
use Rattle.vault_rules.proofs.Keyed.{find-some}
use Rattle.vault_rules.proofs.RowsSound.{none_kept}

module _ (rows : Rows) (V : Vault) (shows : Shows rows V) where
  -- the row of a merchant has its moment
  pub merchant_shown : (name : Bytes) (merchant : Merchant) → merchant_at V name ≡ Some merchant
      → (row : MerchantRow rows.merchants name) × (row.m.moment ≡ pos merchant.moment)
  merchant_shown name merchant at =
      let there = shows.merchants_there name merchant at in
      let found =
      find-some (λ n. bytes_eq (string_bytes n.name) name) rows.merchants there.0 there.1
      (bytes_same (string_bytes there.0.name) name there.2) in
      let row = merchant_found rows.merchants name found.0 found.1 in
      let shown = shows.merchants row.m row.there in
      let own : shown.0 ≡ merchant = some_same (sym shown.1 ∙ ap (merchant_at V) row.name_is ∙ at) in
      (row, shown.2.moment ∙ ap (λ (x : Merchant). pos x.moment) own)

  pub known : (name : Bytes) (merchant : Merchant) → merchant_at V name ≡ Some merchant
      → is_known rows.merchants name ≡ true
  known name merchant at = ap is_some (merchant_shown name merchant at).0.first

  -- the row of an entry has its columns
  pub entry_shown : (m token : Bytes) (entry : Entry) → entry_at V m token ≡ Some entry
      → (row : EntryRow rows.entries m token) × ShowsEntry rows.cards row.e entry
  entry_shown m token entry at =
      let there = shows.entries_there m token entry at in
      let found = find-some
      (λ n. bytes_eq (string_bytes n.merchant) m && bytes_eq (string_bytes n.token) token)
      rows.entries there.0 there.1
      (and_from (bytes_eq (string_bytes there.0.merchant) m) (bytes_eq (string_bytes there.0.token) token)
      (bytes_same (string_bytes there.0.merchant) m there.2)
      (bytes_same (string_bytes there.0.token) token there.3)) in
      let row = entry_found rows.entries m token found.0 found.1 in
      let shown = shows.entries row.e row.there in
      let own : shown.0 ≡ entry =
      some_same (sym shown.1 ∙ (λ i. entry_at V (row.merchant_is i) (row.token_is i)) ∙ at) in
      (row, subst (ShowsEntry rows.cards row.e) own shown.2)

-- an entry's row, with its entry and its merchant
pub record Entered (rows : Rows) (V : Vault) (e : RawEntry) : Type 0 where
  pub entry : Entry
  pub at : entry_at V (string_bytes e.merchant) (string_bytes e.token) ≡ Some entry
  pub shown : ShowsEntry rows.cards e entry
  pub merchant : Merchant
  pub merchant_is : merchant_at V (string_bytes e.merchant) ≡ Some merchant
  pub sound : IsSoundEntry (string_bytes e.token) entry merchant
  pub row : MerchantRow rows.merchants (string_bytes e.merchant)
  pub moment : row.m.moment ≡ pos merchant.moment

module _ (rows : Rows) (V : Vault) (shows : Shows rows V) (sound : Sound V) where
  pub entered : (e : RawEntry) → Has rows.entries e → Entered rows V e
  entered e h =
      let it = shows.entries e h in
      let fine = sound.entries (string_bytes e.merchant) (string_bytes e.token) it.0 it.1 in
      let row = merchant_shown rows V shows (string_bytes e.merchant) fine.0 fine.1 in
      record {
        entry = it.0;
        at = it.1;
        shown = it.2;
        merchant = fine.0;
        merchant_is = fine.1;
        sound = fine.2;
        row = row.0;
        moment = row.1;
      }

  -- a test of an entry is one at the moment of its merchant
  pub tested : (test : ℤ → RawEntry → Bool) (e : RawEntry)
      → (it : Entered rows V e) → test (pos it.merchant.moment) e ≡ true
      → at_moments rows.merchants test e ≡ true
  tested test e it h =
      at_moment rows.merchants test e it.row.m it.row.first ∙ ap (λ z. test z e) it.moment ∙ h

  -- a merchant with entries is there
  pub held_known : (name : Bytes) → 0 < made_count V name → is_known rows.merchants name ≡ true
  held_known name some = by_known (is_known rows.merchants name) refl
    where
      fails : is_known rows.merchants name ≡ false → (e : RawEntry) → Has rows.entries e
          → (b : Bool) → bytes_eq (string_bytes e.merchant) name ≡ b → b ≡ false
      fails unknown e h false is = refl
      fails unknown e h true is =
          let it = entered e h in
          sym (known rows V shows (string_bytes e.merchant) it.merchant it.merchant_is)
          ∙ ap (is_known rows.merchants) (bytes_are (string_bytes e.merchant) name is) ∙ unknown

      by_known : (b : Bool) → is_known rows.merchants name ≡ b → b ≡ true
      by_known true is = refl
      by_known false is =
          let none =
          none_kept (λ e. bytes_eq (string_bytes e.merchant) name) rows.entries
          (λ e h. fails is e h (bytes_eq (string_bytes e.merchant) name) refl) in
          let same = shows.held name in
          absurd (omega arith)
