-- Of one merchant and number at most one multi-use entry of rows is live.
use Rattle.std.proofs.Common.{◌≡◌, ℕ, ℤ, pos, ◌≤◌, true, Option, Some, None, option_map, refl, sym, ap}
use Rattle.std.proofs.Common.{subst, ◌∙◌, zero, suc, arith}
use Rattle.std.specs.Prelude.{string_bytes}
use Rattle.std.specs.Option.{option_map_or}
use Rattle.sqlite_rules.specs.Lists.{Has}
use Rattle.vault_core.specs.Keys.{Bytes}
use Rattle.vault_core.specs.Numbers.{use_number}
use Rattle.vault_core.specs.Repeats.{is_reusable}
use Rattle.vault_core.specs.Vault.{Merchant, merchant_at, entry_at}
use Rattle.vault_core.specs.declared.row.Entry.{Entry}
use Rattle.vault_rules.specs.Codes.{natural, use_of}
use Rattle.vault_rules.specs.Lookups.{merchant_of}
use Rattle.vault_rules.specs.Rules.{is_within, is_timed, live_key, live_number, keeps}
use Rattle.vault_rules.specs.Showing.{ShowsEntry}
use Rattle.vault_rules.specs.VaultOf.{vault_of, entry_value}
use Rattle.vault_rules.specs.declared.rows.RawEntry.{RawEntry}
use Rattle.vault_rules.specs.AllRows.{Rows}
use Rattle.vault_rules.proofs.FoundRows.{EntryRow, at_moment, merchant_row, entry_row}
use Rattle.vault_rules.proofs.Kept as kept
use Rattle.vault_rules.proofs.Live.{reusable_live, key_is, distinct_once}
use Rattle.vault_rules.proofs.Numbers.{IsBetween, within_is}
use Rattle.vault_rules.proofs.RowsSound.{merchant_of_entry, lasting_moment}
use Rattle.vault_rules.proofs.Timed.{timely}

used : (z : ℤ) → IsBetween 1 2 z → z ≡ pos (use_number (use_of z))
used z h =
    h.is ∙ ap pos (own (natural z) h.low_is h.high_is) ∙ ap (λ x. pos (use_number (use_of x))) (sym h.is)
  where
    own : (n : ℕ) → 1 ≤ n → n ≤ 2 → n ≡ use_number (use_of (pos n))
    own zero low high = absurd (omega arith)
    own (suc zero) low high = refl
    own (suc (suc zero)) low high = refl
    own (suc (suc (suc n))) low high = absurd (omega arith)

back : (moment birth : ℕ) (o : Option ℤ) → option_map_or (is_within (pos birth) (pos moment)) o true ≡ true
    → o ≡ option_map pos (option_map natural o)
back moment birth None h = refl
back moment birth (Some at) h = ap (λ x. Some x) (within_is birth moment at h).is

module _ (rows : Rows) (keep : (r : ℕ) → keeps rows r ≡ true) where
  -- a row has the columns of its entry
  pub entry_shown : (e : RawEntry) → Has rows.entries e
      → ShowsEntry rows.cards e (entry_value rows.cards e)
  entry_shown e h =
      let row = merchant_of_entry rows keep e h in
      let moment = lasting_moment rows keep (string_bytes e.merchant) row in
      let timed : is_timed (pos (natural row.m.moment)) e ≡ true =
      subst (λ z. is_timed z e ≡ true) moment
      (sym (at_moment rows.merchants is_timed e row.m row.first) ∙ kept.timed rows keep e h) in
      let times = timely (natural row.m.moment) e timed in
      record {
        number = refl;
        card = kept.own_card rows keep e h;
        usage = used e.usage times.usage;
        birth = times.birth.is;
        expires = times.expires.is;
        revoked = back (natural row.m.moment) (natural e.birth) e.revoked times.revoked;
      }

  live_at : (m pan token : Bytes) (entry : Entry) (merchant : Merchant)
      → merchant_at (vault_of rows) m ≡ Some merchant
      → (row : EntryRow rows.entries m token) → entry_value rows.cards row.e ≡ entry
      → is_reusable pan merchant.moment entry ≡ true
      → live_key rows.merchants rows.cards row.e ≡ Some (m, pan)
  live_at m pan token entry merchant at row value h =
      let known = merchant_row rows m merchant at in
      let moment : known.0.m.moment ≡ pos merchant.moment =
      lasting_moment rows keep m known.0 ∙ ap (λ (x : Merchant). pos x.moment) known.1 in
      let live =
      reusable_live rows.cards row.e entry
      (subst (ShowsEntry rows.cards row.e) value (entry_shown row.e row.there))
      merchant.moment pan h in
      key_is rows.merchants rows.cards row.e known.0.m
      (ap (merchant_of rows.merchants) row.merchant_is ∙ known.0.first)
      ∙ ap
      (λ z. option_map (λ number. (string_bytes row.e.merchant, number))
      (live_number rows.cards z row.e))
      moment
      ∙ ap (option_map (λ number. (string_bytes row.e.merchant, number))) live
      ∙ ap (λ n. Some (n, pan)) row.merchant_is

  pub alone : (m pan token other : Bytes) (entry entry' : Entry) (merchant : Merchant)
      → merchant_at (vault_of rows) m ≡ Some merchant
      → entry_at (vault_of rows) m token ≡ Some entry → is_reusable pan merchant.moment entry ≡ true
      → entry_at (vault_of rows) m other ≡ Some entry' → is_reusable pan merchant.moment entry' ≡ true
      → token ≡ other
  alone m pan token other entry entry' merchant at one live two live' =
      let a = entry_row rows m token entry one in
      let b = entry_row rows m other entry' two in
      let same = distinct_once (live_key rows.merchants rows.cards) rows.entries
      (kept.distinct rows keep) a.0.e b.0.e (m, pan) a.0.there b.0.there
      (live_at m pan token entry merchant at a.0 a.1 live)
      (live_at m pan other entry' merchant at b.0 b.1 live') in
      sym a.0.token_is ∙ ap (λ e. string_bytes e.token) same ∙ b.0.token_is
