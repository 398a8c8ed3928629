-- The merchants, entries, records and rights of rows that keep the rules.
use Rattle.std.proofs.Common.{◌≡◌, ℕ, pos, ◌≤◌, Bool, true, false, cond, List, [], ◌∷◌, length, filter}
use Rattle.std.proofs.Common.{Option, Some, None, is_some, inl, inr, refl, sym, ap, subst, ◌∙◌, arith}
use Rattle.std.proofs.Common.{true≢false}
use Rattle.std.specs.Prelude.{string_bytes, bytes_eq, IfSome}
use Rattle.std.specs.Ordering.{int_eq}
use Rattle.sqlite_rules.specs.Lists.{Has}
use Rattle.vault_core.specs.Keys.{Bytes}
use Rattle.vault_core.specs.Name.{IsName}
use Rattle.vault_core.specs.Scalar.{IsMoment, IsRequest}
use Rattle.vault_core.specs.Sound.{IsSoundEntry, IsEntryOf}
use Rattle.vault_core.specs.Vault.{Merchant, merchant_at, entry_at, record_at, right_at}
use Rattle.vault_core.specs.declared.right.Right.{Right}
use Rattle.vault_core.specs.declared.row.Entry.{Entry}
use Rattle.vault_core.specs.declared.row.GrantRow.{GrantRow}
use Rattle.vault_core.specs.declared.row.Record.{Record}
use Rattle.vault_rules.specs.Codes.{natural, use_of}
use Rattle.vault_rules.specs.Lookups.{merchant_of, entry_of, held_by, is_known}
use Rattle.vault_rules.specs.Rules.{is_timed, is_kept, keeps}
use Rattle.vault_rules.specs.VaultOf.{vault_of, merchant_value, entry_value, record_value}
use Rattle.vault_rules.specs.declared.rows.RawMerchant.{RawMerchant}
use Rattle.vault_rules.specs.declared.rows.RawEntry.{RawEntry}
use Rattle.vault_rules.specs.declared.rows.RawRecord.{RawRecord}
use Rattle.vault_rules.specs.AllRows.{Rows}
use Rattle.vault_rules.proofs.Ends.{ends_sound}
use Rattle.vault_rules.proofs.Found.{bytes_are}
use Rattle.vault_rules.proofs.FoundRows.{MerchantRow, merchant_known, merchant_found, entry_found}
use Rattle.vault_rules.proofs.FoundRows.{at_moment, merchant_there, entry_there, entry_row, record_row}
use Rattle.vault_rules.proofs.FoundRows.{right_row}
use Rattle.vault_rules.proofs.Kept as kept
use Rattle.vault_rules.proofs.MerchantRows.{lasts}
use Rattle.vault_rules.proofs.Numbers.{int_is}
use Rattle.vault_rules.proofs.Options.{tested_is}
use Rattle.vault_rules.proofs.Timed.{entry_sound}

pub none_kept : {X : Type 0} (p : X → Bool) (xs : List X) → ((x : X) → Has xs x → p x ≡ false)
    → length (filter p xs) ≡ 0
none_kept p [] fails = refl
none_kept p (x ∷ xs) fails =
    ap (λ b. length (cond b (x ∷ filter p xs) (filter p xs))) (fails x (inl refl))
    ∙ none_kept p xs (λ y h. fails y (inr h))

module _ (rows : Rows) (keep : (r : ℕ) → keeps rows r ≡ true) where
  pub lasting_moment : (name : Bytes) (row : MerchantRow rows.merchants name)
      → row.m.moment ≡ pos (natural row.m.moment)
  lasting_moment name row = (lasts rows keep row.m row.there).moment.is

  -- the merchant of an entry's row
  pub merchant_of_entry : (e : RawEntry) → Has rows.entries e
      → MerchantRow rows.merchants (string_bytes e.merchant)
  merchant_of_entry e h =
      merchant_known rows.merchants (string_bytes e.merchant) (kept.tokens rows keep e h).0

  row_sound : (e : RawEntry) → Has rows.entries e
      → (merchant : Merchant) × (merchant_at (vault_of rows) (string_bytes e.merchant) ≡ Some merchant)
      × IsSoundEntry (string_bytes e.token) (entry_value rows.cards e) merchant
  row_sound e h =
      let row = merchant_of_entry e h in
      let merchant = merchant_value rows.counts row.m in
      let moment = lasting_moment (string_bytes e.merchant) row in
      let timed : is_timed (pos merchant.moment) e ≡ true =
      subst (λ z. is_timed z e ≡ true) moment
      (sym (at_moment rows.merchants is_timed e row.m row.first) ∙ kept.timed rows keep e h) in
      let over : is_kept (pos merchant.moment) e ≡ true =
      subst (λ z. is_kept z e ≡ true) moment
      (sym (at_moment rows.merchants is_kept e row.m row.first) ∙ kept.live_or_over rows keep e h) in (
        merchant,
        merchant_there rows (string_bytes e.merchant) row,
        entry_sound rows.cards e merchant (kept.tokens rows keep e h).1 (kept.numbers rows keep e h)
            (kept.own_card rows keep e h) timed over,
      )

  pub entries_sound : (m token : Bytes) (entry : Entry) → entry_at (vault_of rows) m token ≡ Some entry
      → (merchant : Merchant) × (merchant_at (vault_of rows) m ≡ Some merchant)
      × IsSoundEntry token entry merchant
  entries_sound m token entry h =
      let it = entry_row rows m token entry h in
      let sound = row_sound it.0.e it.0.there in
      let at = subst (λ name. merchant_at (vault_of rows) name ≡ Some sound.0) it.0.merchant_is sound.1 in
      let own =
      subst (λ t. IsSoundEntry t (entry_value rows.cards it.0.e) sound.0) it.0.token_is sound.2 in
      (sound.0, at, subst (λ x. IsSoundEntry token x sound.0) it.1 own)

  record_fine : (r : RawRecord) → Has rows.records r
      → IsName (string_bytes r.caller) × IsRequest (natural r.request)
      × IsEntryOf (record_value r)
      (entry_at (vault_of rows) (string_bytes r.merchant) (string_bytes r.token))
  record_fine r h =
      let well = kept.records_well rows keep r h in
      let entries = rows.entries in
      let it =
      tested_is (λ (e : RawEntry). int_eq e.usage r.usage)
      (entry_of entries (string_bytes r.merchant) (string_bytes r.token)) well.usage in
      let row = entry_found entries (string_bytes r.merchant) (string_bytes r.token) it.0 it.1 in (
        well.caller,
        (well.request.low_is, well.request.high_is),
        (
          entry_value rows.cards it.0,
          entry_there rows (string_bytes r.merchant) (string_bytes r.token) row,
          ap use_of (int_is it.0.usage r.usage it.2),
        ),
      )

  pub records_sound : (caller : Bytes) (request : ℕ) (r : Record)
      → record_at (vault_of rows) caller request ≡ Some r
      → IsName caller × IsRequest request × IsEntryOf r (entry_at (vault_of rows) r.merchant r.token)
  records_sound caller request r h =
      let it = record_row rows caller request r h in
      let fine = record_fine it.0 it.1 in
      let own = subst (λ (k : Bytes × ℕ). IsName k.0 × IsRequest k.1) it.2 (fine.0, fine.1) in (
        own.0,
        own.1,
        subst (λ (x : Record). IsEntryOf x (entry_at (vault_of rows) x.merchant x.token)) it.3 fine.2,
      )

  pub rights_sound : (caller m : Bytes) (right : Right) (g : GrantRow)
      → right_at (vault_of rows) caller m right ≡ Some g
      → IsName caller × (merchant : Merchant) × (merchant_at (vault_of rows) m ≡ Some merchant)
      × IfSome g.ends IsMoment
  rights_sound caller m right g h =
      let it = right_row rows caller m right g h in
      let well = kept.rights_well rows keep it.0 it.1 in
      let row = merchant_known rows.merchants (string_bytes it.0.merchant) well.1 in
      let value = merchant_value rows.counts row.m in
      let at = merchant_there rows (string_bytes it.0.merchant) row in
      let ended = ends_sound it.0.ends (kept.ended rows keep it.0 it.1) in (
        subst (λ (k : Bytes × (Bytes × Right)). IsName k.0) it.2 well.0,
        value,
        subst (λ (k : Bytes × (Bytes × Right)). merchant_at (vault_of rows) k.1.0 ≡ Some value) it.2 at,
        subst (λ (x : GrantRow). IfSome x.ends IsMoment) it.3 ended,
      )

  -- a merchant that isn't there has no entries
  pub held_none : (name : Bytes) → merchant_of rows.merchants name ≡ None
      → held_by rows.entries name ≡ 0
  held_none name none =
      none_kept (λ e. bytes_eq (string_bytes e.merchant) name) rows.entries
      (λ e h. fails e h (bytes_eq (string_bytes e.merchant) name) refl)
    where
      fails : (e : RawEntry)
          → Has rows.entries e → (b : Bool) → bytes_eq (string_bytes e.merchant) name ≡ b → b ≡ false
      fails e h false is = refl
      fails e h true is =
          let known =
          subst (λ n. is_known rows.merchants n ≡ true)
          (bytes_are (string_bytes e.merchant) name is) (kept.tokens rows keep e h).0 in
          absurd (true≢false (sym known ∙ ap is_some none))

  pub held_few : (name : Bytes) → held_by rows.entries name ≤ 1000000
  held_few name = by_merchant (merchant_of rows.merchants name) refl
    where
      by_merchant : (o : Option RawMerchant) → merchant_of rows.merchants name ≡ o
          → held_by rows.entries name ≤ 1000000
      by_merchant None is = let zero_is = held_none name is in omega arith
      by_merchant (Some m) is =
          let row = merchant_found rows.merchants name m is in
          subst (λ n. held_by rows.entries n ≤ 1000000) row.name_is
          (kept.counted rows keep row.m row.there).1
