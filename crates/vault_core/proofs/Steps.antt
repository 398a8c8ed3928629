-- What keeps a vault sound.
use Rattle.std.proofs.Common.{◌≡◌, ℕ, ◌<◌, ◌≤◌, Bool, true, false, cond, Option, Some, None, inl, inr, refl}
use Rattle.std.proofs.Common.{sym, ap}
use Rattle.std.proofs.Common.{◌∙◌, subst, arith}
use Rattle.std.specs.FinMap as map
use Rattle.std.specs.Ordering.{eq_by_cmp, is_eq}
use Rattle.std.specs.Cmp.{tied_itself}
use Rattle.std.proofs.lemmas.Bool.Decides.{nat_tests}
use Rattle.vault_core.specs.Keys.{Bytes, bytes_cmp, right_cmp}
use Rattle.vault_core.specs.Name.{IsName}
use Rattle.vault_core.specs.Repeats.{is_reusable}
use Rattle.std.specs.Prelude.{IfSome}
use Rattle.vault_core.specs.Scalar.{IsMoment, IsRequest}
use Rattle.vault_core.specs.Sound.{Sound, IsSoundMerchant, IsSoundEntry, IsNumber, IsRevocation, IsEntryOf}
use Rattle.vault_core.specs.Vault.{Vault, Merchant, merchant_at, entry_at, made_count}
use Rattle.vault_core.specs.declared.limit.TheConstants.{MOST_MERCHANTS, MOST_TOKENS}
use Rattle.vault_core.specs.declared.row.Entry.{Entry}
use Rattle.vault_core.specs.declared.row.GrantRow.{GrantRow}
use Rattle.vault_core.specs.declared.row.Record.{Record}
use Rattle.vault_core.specs.declared.right.Right.{Right}
use Rattle.vault_core.proofs.Maps.{bytes_total, bytes_exact, entry_total, entry_exact, record_total}
use Rattle.vault_core.proofs.Maps.{record_exact, right_total, right_exact, tied, get-insert_same}
use Rattle.vault_core.proofs.Maps.{get-insert_other, get-insert_cases, retained-len_yes, retained-len_same}
use Rattle.vault_core.proofs.Maps.{retained-no}
use Rattle.vault_core.proofs.Finds.{some_same}

later_number : (token : Bytes) (entry : Entry) (a b : ℕ) (number : Option Bytes) → a ≤ b
    → IsNumber token entry a number → IsNumber token entry b number
later_number token entry a b None le h = elim h [ inl revoked ↦ inl revoked | inr over ↦ inr (omega arith) ]
later_number token entry a b (Some number) le h = h

later_revocation : (entry : Entry) (a b : ℕ) (at : Option ℕ) → a ≤ b
    → IsRevocation entry a at → IsRevocation entry b at
later_revocation entry a b None le h = tt
later_revocation entry a b (Some at) le h = let until = h.1 in (h.0, omega arith)

-- a sound entry stays so when the merchant's moment moves on
pub later_entry : (token : Bytes) (entry : Entry) (old new : Merchant) → old.moment ≤ new.moment
    → IsSoundEntry token entry old → IsSoundEntry token entry new
later_entry token entry old new le h = record {
  token_fails = h.token_fails;
  number = later_number token entry _ _ entry.number le h.number;
  birth = let before = h.birth in omega arith;
  lives = h.lives;
  life = h.life;
  revoked = later_revocation entry _ _ entry.revoked le h.revoked;
}

-- what can be given again at a moment could be at each earlier one
earlier : (pan : Bytes) (a b : ℕ) (entry : Entry) → a ≤ b
    → is_reusable pan b entry ≡ true → is_reusable pan a entry ≡ true
earlier pan a b entry le h = grind (arith, nat_tests)

-- a merchant is set whose moment doesn't fall
pub sound-merchant : (V : Vault) → Sound V → (m : Bytes) (new : Merchant) → IsSoundMerchant m new
    → ((old : Merchant) → merchant_at V m ≡ Some old → old.moment ≤ new.moment)
    → map.len (map.insert V.merchants m new) ≤ MOST_MERCHANTS
    → Sound (record V { merchants = map.insert V.merchants m new })
sound-merchant V s m new fine later room = record {
  few = room;
  merchants = λ q row e. elim (get-insert_cases bytes_total bytes_exact V.merchants m new q row e) [
    | inl h ↦ subst (λ (x : Bytes). IsSoundMerchant x row) (sym h.0)
        (subst (λ (x : Merchant). IsSoundMerchant m x) (sym h.1) fine)
    | inr h ↦ s.merchants q row h.1
  ];
  made_few = s.made_few;
  entries = λ q token entry e.
      let old = s.entries q token entry e in
      elim (tied bytes_exact q m) [
        | inl same ↦ (
          new,
          ap (map.get (map.insert V.merchants m new)) same
              ∙ get-insert_same bytes_total bytes_exact V.merchants m new,
          later_entry token entry old.0 new (later old.0 (sym (ap (map.get V.merchants) same) ∙ old.1)) old.2,
        )
        | inr apart ↦ (
          old.0,
          get-insert_other bytes_total bytes_exact V.merchants m new q apart
              ∙ old.1,
          old.2,
        )
      ];
  alone = λ q pan token other entry entry' row e e1 r1 e2 r2.
      let old = s.entries q token entry e1 in
      let le : old.0.moment ≤ row.moment = not_before q row old.0 e old.1 in
      s.alone q pan token other entry entry' old.0 old.1 e1 (earlier pan _ _ entry le r1) e2
      (earlier pan _ _ entry' le r2);
  records = s.records;
  rights = λ caller q right g e.
      let old = s.rights caller q right g e in
      elim (tied bytes_exact q m) [
        | inl same ↦ (
          old.0,
          new,
          ap (map.get (map.insert V.merchants m new)) same
              ∙ get-insert_same bytes_total bytes_exact V.merchants m new,
          old.3,
        )
        | inr apart ↦ (
          old.0,
          old.1,
          get-insert_other bytes_total bytes_exact V.merchants m new q apart
              ∙ old.2,
          old.3,
        )
      ];
}
  where
    not_before : (q : Bytes) (row old : Merchant) → map.get (map.insert V.merchants m new) q ≡ Some row
        → merchant_at V q ≡ Some old → old.moment ≤ row.moment
    not_before q row old e before =
        elim (get-insert_cases bytes_total bytes_exact V.merchants m new q row e) [
          | inl h ↦ let le = later old (sym (ap (map.get V.merchants) h.0) ∙ before) in let is =
              ap (λ (x : Merchant). x.moment) h.1 in omega arith
          | inr h ↦ let is : old ≡ row = cc in let at = ap (λ (x : Merchant). x.moment) is in omega arith
        ]

-- a right is given at a merchant that is known
pub sound-right : (V : Vault) → Sound V → (caller m : Bytes) (right : Right) (g : GrantRow) (known : Merchant)
    → IsName caller → IfSome g.ends IsMoment → merchant_at V m ≡ Some known
    → Sound (record V { rights = map.insert V.rights (caller, (m, right)) g })
sound-right V s caller m right g known name end is = record {
  few = s.few;
  merchants = s.merchants;
  made_few = s.made_few;
  entries = s.entries;
  alone = s.alone;
  records = s.records;
  rights = λ caller' q right' g' e.
      elim (get-insert_cases right_total right_exact V.rights (caller, (m, right)) g (caller', (q, right')) g'
      e) [
        | inl at ↦ (
          subst IsName (sym (ap (λ (k : Bytes × (Bytes × Right)). k.0) at.0)) name,
          known,
          ap (map.get V.merchants) (ap (λ (k : Bytes × (Bytes × Right)). k.1.0) at.0) ∙ is,
          subst (λ (x : GrantRow). IfSome x.ends IsMoment) (sym at.1) end,
        )
        | inr was ↦ s.rights caller' q right' g' was.1
      ];
}

kept : (b : Bool) (o : Option GrantRow) (g : GrantRow) → cond b None o ≡ Some g → o ≡ Some g
kept true o g e = absurd cc
kept false o g e = e

-- a right is taken away
pub sound-unright : (V : Vault) → Sound V → (caller m : Bytes) (right : Right)
    → Sound (record V { rights = map.remove V.rights (caller, (m, right)) })
sound-unright V s caller m right = record {
  few = s.few;
  merchants = s.merchants;
  made_few = s.made_few;
  entries = s.entries;
  alone = s.alone;
  records = s.records;
  rights = λ caller' q right' g e.
      s.rights caller' q right' g
      (kept (eq_by_cmp right_cmp (caller', (q, right')) (caller, (m, right))) _ g
      (sym (map.get-remove right_total V.rights (caller, (m, right)) (caller', (q, right'))) ∙ e));
}

-- a request is recorded with an entry that is there
pub sound-record : (V : Vault) → Sound V → (caller : Bytes) (request : ℕ) (r : Record)
    → IsName caller → IsRequest request → IsEntryOf r (entry_at V r.merchant r.token)
    → Sound (record V { records = map.insert V.records (caller, request) r })
sound-record V s caller request r name number entry = record {
  few = s.few;
  merchants = s.merchants;
  made_few = s.made_few;
  entries = s.entries;
  alone = s.alone;
  records = λ caller' request' r' e.
      elim (get-insert_cases record_total record_exact V.records (caller, request) r (caller', request') r'
      e) [
        | inl h ↦ (
          subst IsName (sym (ap (λ (k : Bytes × ℕ). k.0) h.0)) name,
          subst IsRequest (sym (ap (λ (k : Bytes × ℕ). k.1) h.0)) number,
          subst (λ (x : Record). IsEntryOf x (entry_at V x.merchant x.token)) (sym h.1) entry,
        )
        | inr h ↦ s.records caller' request' r' h.1
      ];
  rights = s.rights;
}

same_reusable : (pan : Bytes) (a b : ℕ) (e entry : Entry) → a ≡ b → e ≡ entry
    → is_reusable pan a e ≡ true → is_reusable pan b entry ≡ true
same_reusable pan a b e entry ab ee h = sym (λ i. is_reusable pan (ab i) (ee i)) ∙ h

same_row : (V : Vault) (q m : Bytes) (row known : Merchant) → q ≡ m
    → merchant_at V q ≡ Some row → merchant_at V m ≡ Some known → row ≡ known
same_row V q m row known qm a b =
    let c = sym a ∙ ap (map.get V.merchants) qm ∙ b in cc

-- no multi-use entry of the same number is live
abbrev pub IsSole : Vault → Bytes → Bytes → Entry → ℕ → Type 0
IsSole V m token entry at =
    (pan other : Bytes) (e : Entry) → entry_at V m other ≡ Some e
    → is_reusable pan at e ≡ true → is_reusable pan at entry ≡ true → ⊥

-- with an entry that is sound all are
inserted-sound : (V : Vault) → Sound V → (m token : Bytes) (entry : Entry) (known : Merchant)
    → merchant_at V m ≡ Some known → IsSoundEntry token entry known
    → (q t : Bytes) (e : Entry) → map.get (map.insert V.entries (m, token) entry) (q, t) ≡ Some e
    → (row : Merchant) × (merchant_at V q ≡ Some row) × IsSoundEntry t e row
inserted-sound V s m token entry known is fine q t e h =
    elim (get-insert_cases entry_total entry_exact V.entries (m, token) entry (q, t) e h) [
      | inl i ↦ (
        known,
        ap (λ (k : Bytes × Bytes). map.get V.merchants k.0) i.0 ∙ is,
        subst (λ (x : Bytes). IsSoundEntry x e known) (sym (ap (λ (k : Bytes × Bytes). k.1) i.0))
            (subst (λ (x : Entry). IsSoundEntry token x known) (sym i.1) fine),
      )
      | inr i ↦ s.entries q t e i.1
    ]

-- a new entry comes
pub sound-entry : (V : Vault) → Sound V → (m token : Bytes) (entry : Entry) (known : Merchant)
    → merchant_at V m ≡ Some known → IsSoundEntry token entry known → entry_at V m token ≡ None
    → made_count V m < MOST_TOKENS → IsSole V m token entry known.moment
    → Sound (record V { entries = map.insert V.entries (m, token) entry })
sound-entry V s m token entry known is fine new few sole = record {
  few = s.few;
  merchants = s.merchants;
  made_few = λ q. elim (tied bytes_exact q m) [
    | inl same ↦
        let more = retained-len_yes entry_total entry_exact V.entries (m, token) entry
        (λ key. eq_by_cmp bytes_cmp q key.0)
        (ap (λ r. is_eq r) (ap (λ x. bytes_cmp x m) same ∙ tied_itself bytes_total m)) new in
        let here : made_count V q < MOST_TOKENS =
        subst (λ (x : Bytes). made_count V x < MOST_TOKENS) (sym same) few in
        omega arith
    | inr apart ↦
        let equal = ap map.len (retained-no entry_total entry_exact V.entries (m, token) entry
        (λ key. eq_by_cmp bytes_cmp q key.0) apart) in
        let before = s.made_few q in
        omega arith
  ];
  entries = inserted-sound V s m token entry known is fine;
  alone = λ q pan t other e e' row at_q e1 r1 e2 r2.
      elim (get-insert_cases entry_total entry_exact V.entries (m, token) entry (q, t) e e1) [
        | inl i ↦
            let qm = ap (λ (k : Bytes × Bytes). k.0) i.0 in
            let moments = ap (λ (x : Merchant). x.moment) (same_row V q m row known qm at_q is) in
            elim (get-insert_cases entry_total entry_exact V.entries (m, token) entry (q, other) e' e2) [
              | inl j ↦ ap (λ (k : Bytes × Bytes). k.1) i.0 ∙ sym (ap (λ (k : Bytes × Bytes). k.1) j.0)
              | inr j ↦ absurd (sole pan other e' (ap (λ x. entry_at V x other) (sym qm) ∙ j.1)
                  (same_reusable pan _ _ e' e' moments refl r2)
                  (same_reusable pan _ _ e entry moments i.1 r1))
            ]
        | inr i ↦
            elim (get-insert_cases entry_total entry_exact V.entries (m, token) entry (q, other) e' e2) [
              | inl j ↦
                  let qm = ap (λ (k : Bytes × Bytes). k.0) j.0 in
                  let moments = ap (λ (x : Merchant). x.moment) (same_row V q m row known qm at_q is) in
                  absurd (sole pan t e (ap (λ x. entry_at V x t) (sym qm) ∙ i.1)
                  (same_reusable pan _ _ e e moments refl r1)
                  (same_reusable pan _ _ e' entry moments j.1 r2))
              | inr j ↦ s.alone q pan t other e e' row at_q i.1 r1 j.1 r2
            ]
      ];
  records = λ caller request r e.
      let old = s.records caller request r e in
      (old.0, old.1, (old.2.0, still r old.2.0 old.2.1, old.2.2));
  rights = s.rights;
}
  where
    still : (r : Record) (found : Entry) → entry_at V r.merchant r.token ≡ Some found
        → map.get (map.insert V.entries (m, token) entry) (r.merchant, r.token) ≡ Some found
    still r found before =
        elim (tied entry_exact (r.merchant, r.token) (m, token)) [
          | inl same ↦ let clash = sym before ∙ ap (map.get V.entries) same ∙ new in cc
          | inr apart ↦ get-insert_other entry_total entry_exact V.entries (m, token) entry
              (r.merchant, r.token) apart ∙ before
        ]

-- an entry changes, and can't be given again where it couldn't before
pub sound-changed : (V : Vault) → Sound V → (m token : Bytes) (old new : Entry) (known : Merchant)
    → merchant_at V m ≡ Some known → entry_at V m token ≡ Some old → IsSoundEntry token new known
    → new.usage ≡ old.usage
    → ((pan : Bytes) → is_reusable pan known.moment new ≡ true → is_reusable pan known.moment old ≡ true)
    → Sound (record V { entries = map.insert V.entries (m, token) new })
sound-changed V s m token old new known is here fine same_usage reuse = record {
  few = s.few;
  merchants = s.merchants;
  made_few = λ q.
      let equal = retained-len_same entry_total entry_exact V.entries (m, token) new
      (λ key. eq_by_cmp bytes_cmp q key.0) old here in
      let before = s.made_few q in
      omega (arith, equal, before);
  entries = inserted-sound V s m token new known is fine;
  alone = λ q pan t other e e' row at_q e1 r1 e2 r2.
      let one = before q pan t e row at_q e1 r1 in
      let two = before q pan other e' row at_q e2 r2 in
      s.alone q pan t other one.0 two.0 row at_q one.1 one.2 two.1 two.2;
  records = λ caller request r e.
      let was = s.records caller request r e in
      (was.0, was.1, still r was.2.0 was.2.1 was.2.2);
  rights = s.rights;
}
  where
    -- what can be given again could be before
    before : (q pan t : Bytes) (e : Entry) (row : Merchant) → merchant_at V q ≡ Some row
        → map.get (map.insert V.entries (m, token) new) (q, t) ≡ Some e → is_reusable pan row.moment e ≡ true
        → (e' : Entry) × (entry_at V q t ≡ Some e') × (is_reusable pan row.moment e' ≡ true)
    before q pan t e row at_q found again =
        elim (get-insert_cases entry_total entry_exact V.entries (m, token) new (q, t) e found) [
          | inl i ↦
              let qm = ap (λ (k : Bytes × Bytes). k.0) i.0 in
              let moments = ap (λ (x : Merchant). x.moment) (same_row V q m row known qm at_q is) in (
                old,
                ap (map.get V.entries) i.0 ∙ here,
                same_reusable pan _ _ old old (sym moments) refl
                    (reuse pan (same_reusable pan _ _ e new moments i.1 again)),
              )
          | inr i ↦ (e, i.1, again)
        ]

    still : (r : Record) (found : Entry) → entry_at V r.merchant r.token ≡ Some found → found.usage ≡ r.usage
        → IsEntryOf r (map.get (map.insert V.entries (m, token) new) (r.merchant, r.token))
    still r found before_it usage =
        elim (tied entry_exact (r.merchant, r.token) (m, token)) [
          | inl same ↦
              let was : found ≡ old = some_same (sym before_it ∙ ap (map.get V.entries) same ∙ here) in (
                new,
                ap (map.get (map.insert V.entries (m, token) new)) same
                    ∙ get-insert_same entry_total entry_exact V.entries (m, token) new,
                same_usage ∙ sym (ap (λ (x : Entry). x.usage) was) ∙ usage,
              )
          | inr apart ↦ (
            found,
            get-insert_other entry_total entry_exact V.entries (m, token) new
                (r.merchant, r.token) apart ∙ before_it,
            usage,
          )
        ]
