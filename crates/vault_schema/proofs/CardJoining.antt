-- What a use more, an entry that is written, and a use less make of cards and the entries that point at them.
use Rattle.std.proofs.Common.{◌≡◌, ◌⊎◌, inl, inr, ℕ, ℤ, suc, ◌+◌, ◌≤◌, Bool, true, false, cond, Option, Some}
use Rattle.std.proofs.Common.{None, option_map, option_and_then, refl, sym, ap, subst, ◌∙◌, arith, int_cmp}
use Rattle.std.proofs.Common.{true≢false, Ordering}
use Rattle.std.specs.Cmp.{int_cmp_total, tied_itself, IsTotalOrder}
use Rattle.std.specs.FinMap.{int_cmp-IsAntisymmetric}
use Rattle.std.specs.Ordering.{eq_by_cmp}
use Rattle.sql_tables.proofs.KeyTests.{equal_is}
use Rattle.sql_tables.specs.Rows.{put}
use Rattle.vault_core.proofs.Maps.{entry_total, entry_exact}
use Rattle.vault_core.specs.Keys.{Bytes, entry_cmp}
use Rattle.vault_core.specs.declared.row.Entry.{Entry}
use Rattle.vault_schema.proofs.CardCounting.{as_many, none_are, none_is, one_less, one_more}
use Rattle.vault_schema.specs.Joined.{AreJoined, AreMany, card_of, joined, nothing_owed, owed_to}
use Rattle.vault_schema.specs.declared.rows.Card.{Card}
use Rattle.vault_schema.specs.declared.rows.Pointing.{Pointing}

-- ---- a map with one value put

module _ {K X : Type 0} {cmp : K → K → Ordering} (total : IsTotalOrder cmp)
    (exact : (a b : K) → eq_by_cmp cmp a b ≡ true → a ≡ b) (held : K → Option X) (k : K) (v : Option X) where
  itself : eq_by_cmp cmp k k ≡ true
  itself = rw (tied_itself total k) refl

  pub put_at : put cmp held k v k ≡ v
  put_at = ap (λ b. cond b v (held k)) itself

  pub put_beside : (q : K) → (q ≡ k → ⊥) → put cmp held k v q ≡ held q
  put_beside q far = elim (eq_by_cmp cmp q k) as (λ b. eq_by_cmp cmp q k ≡ b → cond b v (held q) ≡ held q) [
    | true ↦ λ e. absurd (far (exact q k e))
    | false ↦ λ e. refl
  ] refl

  -- one key is it or it isn't
  pub is_at : (q : K) → (q ≡ k) ⊎ (q ≡ k → ⊥)
  is_at q = elim (eq_by_cmp cmp q k) as (λ b. eq_by_cmp cmp q k ≡ b → (q ≡ k) ⊎ (q ≡ k → ⊥)) [
    | true ↦ λ e. inl (exact q k e)
    | false ↦ λ e. inr (λ same. true≢false (sym itself ∙ ap (λ x. eq_by_cmp cmp x k) (sym same) ∙ e))
  ] refl

id_exact : (a b : ℤ) → eq_by_cmp int_cmp a b ≡ true → a ≡ b
id_exact a b e = int_cmp-IsAntisymmetric a b (equal_is _ e)

-- a card that is put is there
pub put_id : (cards : ℤ → Option Card) (id : ℤ) (v : Option Card) → put int_cmp cards id v id ≡ v
put_id cards id v = put_at int_cmp_total id_exact cards id v

-- and the others are as they were
pub put_far : (cards : ℤ → Option Card) (id : ℤ) (v : Option Card) (n : ℤ) → (n ≡ id → ⊥)
    → put int_cmp cards id v n ≡ cards n
put_far cards id v n far = put_beside int_cmp_total id_exact cards id v n far

-- an id is this one, or another
pub id_is : (id n : ℤ) → (n ≡ id) ⊎ (n ≡ id → ⊥)
id_is id n = is_at int_cmp_total id_exact no_cards id None n
  where
    no_cards : ℤ → Option Card
    no_cards n = None

key_exact : (a b : Bytes × Bytes) → eq_by_cmp entry_cmp a b ≡ true → a ≡ b
key_exact a b e = entry_exact a b (equal_is _ e)

-- ---- what is owed to a card

owed_at : (id : ℤ) → owed_to (Some id) id ≡ 1
owed_at id = let same : eq_by_cmp int_cmp id id ≡ true = rw (tied_itself int_cmp_total id) refl in
    let one : ℕ = 1 in ap (λ b. cond b one 0) same

owed_beside : (w id : ℤ) → (id ≡ w → ⊥) → owed_to (Some w) id ≡ 0
owed_beside w id far = go (eq_by_cmp int_cmp id w) refl
  where
    go : (b : Bool) → eq_by_cmp int_cmp id w ≡ b → cond {A = ℕ} b 1 0 ≡ 0
    go true e = absurd (far (id_exact id w e))
    go false e = refl

-- a card is the one that is meant, and one is owed to it, or it isn't
meant : (o : Option ℤ) (id : ℤ) → (o ≡ Some id) × (owed_to o id ≡ 1) ⊎ (o ≡ Some id → ⊥) × (owed_to o id ≡ 0)
meant None id = inr (λ e. let no : ⊥ = cc in no, refl)
meant (Some w) id = elim (is_at int_cmp_total id_exact nothing w None id) [
  | inl same ↦ inl (ap (λ n. Some n) (sym same), ap (λ n. owed_to (Some n) id) (sym same) ∙ owed_at id)
  | inr far ↦ inr (λ e. far (let it : w ≡ id = cc in sym it), owed_beside w id far)
]
  where
    nothing : ℤ → Option ℕ
    nothing n = None

some_card : (a b : Card) → Some a ≡ Some b → a ≡ b
some_card a b e = cc

-- one card changes
record Recarded (cards : ℤ → Option Card) (pointing : Bytes × Bytes → Option Pointing) (owed owed' : ℤ → ℕ)
    (id : ℤ) (v : Option Card) : Type 0 where
  agrees : (key : Bytes × Bytes) → card_of pointing key ≡ Some id
      → (d : Card) × (v ≡ Some d) × (d.merchant ≡ key.0)
      × (option_map (λ (c : Card). c.number) (cards id) ≡ Some d.number)
  alone : (n : ℤ) (c d : Card) → (n ≡ id → ⊥) → v ≡ Some c → cards n ≡ Some d → c.merchant ≡ d.merchant
      → c.number ≡ d.number → ⊥
  counted : (d : Card) → v ≡ Some d
      → (many : ℕ) × AreMany (λ key. card_of pointing key ≡ Some id) many × (d.uses ≡ many + owed' id)
      × (1 ≤ d.uses)
  others : (n : ℤ) → (n ≡ id → ⊥) → owed' n ≡ owed n

module _ {cards : ℤ → Option Card} {pointing : Bytes × Bytes → Option Pointing}
    {entries : Bytes × Bytes → Option Entry} where
  recarded : {owed owed' : ℤ → ℕ} → AreJoined owed cards pointing entries → (id : ℤ) (v : Option Card)
      → Recarded cards pointing owed owed' id v → AreJoined owed' (put int_cmp cards id v) pointing entries
  recarded {owed} {owed'} it id v by = record {
    same = λ key. it.same key ∙ kept key (pointing key) refl;
    owned = λ key n at. elim (at_id n) [
      | inl e ↦ let a = by.agrees key (at ∙ ap (λ x. Some x) e) in (a.0, ap now e ∙ here ∙ a.1, a.2)
      | inr far ↦ let was = it.owned key n at in (was.0, beside n far ∙ was.1, was.2)
    ];
    once = λ a b c d ca cb m number. elim (at_id a) [
      | inl ea ↦ elim (at_id b) [
        | inl eb ↦ ea ∙ sym eb
        | inr far ↦ absurd (by.alone b c d far (sym here ∙ ap now (sym ea) ∙ ca) (sym (beside b far)
            ∙ cb) m number)
      ]
      | inr fara ↦ elim (at_id b) [
        | inl eb ↦ absurd (by.alone a d c fara (sym here ∙ ap now (sym eb) ∙ cb) (sym (beside a fara) ∙ ca)
            (sym m) (sym number))
        | inr farb ↦ it.once a b c d (sym (beside a fara) ∙ ca) (sym (beside b farb) ∙ cb) m number
      ]
    ];
    used = λ n c is. elim (at_id n) [
      | inl e ↦ subst (λ x. (many : ℕ) × AreMany (λ key. card_of pointing key ≡ Some x) many
          × (c.uses ≡ many + owed' x) × (1 ≤ c.uses)) (sym e) (by.counted c (sym here ∙ ap now (sym e) ∙ is))
      | inr far ↦ let was = it.used n c (sym (beside n far) ∙ is) in
          (was.0, was.1, was.2 ∙ ap (λ x. was.0 + x) (sym (by.others n far)), was.3)
    ];
  }
    where
      now : ℤ → Option Card
      now = put int_cmp cards id v

      here : now id ≡ v
      here = put_at int_cmp_total id_exact cards id v

      beside : (n : ℤ) → (n ≡ id → ⊥) → now n ≡ cards n
      beside = put_beside int_cmp_total id_exact cards id v

      at_id : (n : ℤ) → (n ≡ id) ⊎ (n ≡ id → ⊥)
      at_id = is_at int_cmp_total id_exact cards id v

      number_of : Card → Bytes
      number_of c = c.number

      numbers : (key : Bytes × Bytes) (o : Option ℤ) → card_of pointing key ≡ o
          → option_and_then (λ n. option_map number_of (cards n)) o
          ≡ option_and_then (λ n. option_map number_of (now n)) o
      numbers key None at = refl
      numbers key (Some n) at = elim (at_id n) [
        | inl e ↦
            let a = by.agrees key (at ∙ ap (λ x. Some x) e) in
            ap (λ x. option_map number_of (cards x)) e ∙ a.3
            ∙ ap (option_map number_of) (sym (ap now e ∙ here ∙ a.1))
        | inr far ↦ ap (option_map number_of) (sym (beside n far))
      ]

      kept : (key : Bytes × Bytes) (o : Option Pointing) → pointing key ≡ o
          → option_map (joined cards) o ≡ option_map (joined now) o
      kept key None is = refl
      kept key (Some e) is =
          let number = numbers key e.card (ap (option_and_then (λ (p : Pointing). p.card)) is) in
          λ i. Some (record {
            number = number i;
            usage = e.usage;
            birth = e.birth;
            expires = e.expires;
            revoked = e.revoked;
          })

  -- a card has another number of uses
  reused : {owed owed' : ℤ → ℕ} → AreJoined owed cards pointing entries → (id : ℤ) (c : Card)
      → cards id ≡ Some c → (uses : ℕ)
      → (many : ℕ) × AreMany (λ key. card_of pointing key ≡ Some id) many × (uses ≡ many + owed' id)
      × (1 ≤ uses)
      → ((n : ℤ) → (n ≡ id → ⊥) → owed' n ≡ owed n)
      → AreJoined owed' (put int_cmp cards id (Some (record c { uses = uses }))) pointing entries
  reused {owed} {owed'} it id c is uses counted others = recarded it id (Some (record c { uses = uses }))
      (record {
        agrees = λ key at.
            let own = it.owned key id at in
            let same : own.0 ≡ c = some_card own.0 c (sym own.1 ∙ is) in (
              record c { uses = uses },
              refl,
              ap (λ (x : Card). x.merchant) (sym same) ∙ own.2,
              ap (option_map (λ (x : Card). x.number)) is,
            );
        alone = λ n x d far e other m number.
            let same = some_card _ _ e in
            far (it.once n id d c other is (sym (ap (λ (y : Card). y.merchant) same ∙ m))
            (sym (ap (λ (y : Card). y.number) same ∙ number)));
        counted = λ d e. subst (λ u. (many : ℕ) × AreMany (λ key. card_of pointing key ≡ Some id) many
            × (u ≡ many + owed' id) × (1 ≤ u)) (ap (λ (y : Card). y.uses) (some_card _ _ e)) counted;
        others = others;
      })

  -- ---- one use more, owed

  -- of a card that is there
  pub raised : AreJoined nothing_owed cards pointing entries → (id : ℤ) (c : Card) → cards id ≡ Some c
      → AreJoined (owed_to (Some id)) (put int_cmp cards id (Some (record c { uses = c.uses + 1 }))) pointing
      entries
  raised it id c is = reused it id c is (c.uses + 1)
      (let was = it.used id c is in
      let owes = owed_at id in
      let many = was.2 in
      (was.0, was.1, omega (arith, owes, many), omega arith)) (λ n far. owed_beside id n far)

  -- of a card that is new
  pub added : AreJoined nothing_owed cards pointing entries → (id : ℤ) → cards id ≡ None → (m number : Bytes)
      → ((n : ℤ) (d : Card) → cards n ≡ Some d → d.merchant ≡ m → d.number ≡ number → ⊥)
      → AreJoined (owed_to (Some id))
      (put int_cmp cards id (Some (record { merchant = m; number = number; uses = 1 }))) pointing entries
  added it id none m number new = recarded it id (Some (record { merchant = m; number = number; uses = 1 }))
      (record {
        agrees = λ key at. absurd (nobody key at);
        alone = λ n x d far e other own same.
            let one = some_card _ _ e in
            new n d other (sym (ap (λ (y : Card). y.merchant) one ∙ own))
            (sym (ap (λ (y : Card). y.number) one
            ∙ same));
        counted = λ d e.
            let uses = ap (λ (y : Card). y.uses) (some_card _ _ e) in
            let owes = owed_at id in
            (0, none_are nobody, omega (arith, uses, owes), omega (arith, uses));
        others = λ n far. owed_beside id n far;
      })
    where
      nobody : (key : Bytes × Bytes) → card_of pointing key ≡ Some id → ⊥
      nobody key at = let own = it.owned key id at in let both : None ≡ Some own.0 = sym none ∙ own.1 in cc

  -- ---- an entry that is written

  pub pointed : (card : Option ℤ) → AreJoined (owed_to card) cards pointing entries → (key : Bytes × Bytes)
      → (e : Pointing) → e.card ≡ card
      → ((id : ℤ) → card ≡ Some id → (c : Card) × (cards id ≡ Some c) × (c.merchant ≡ key.0))
      → AreJoined (owed_to (card_of pointing key)) cards (put entry_cmp pointing key (Some e))
      (put entry_cmp entries key (Some (joined cards e)))
  pointed card it key e points own = record {
    same = λ q. written (eq_by_cmp entry_cmp q key) (it.same q);
    owned = λ q id at. elim (at_key q) [
      | inl same ↦
          let its = own id (sym (here q same) ∙ at) in
          (its.0, its.1, its.2 ∙ ap (λ (k : Bytes × Bytes). k.0) (sym same))
      | inr far ↦ it.owned q id (sym (beside q far) ∙ at)
    ];
    once = it.once;
    used = λ id c is. counted id c (it.used id c is) (meant card id) (meant (card_of pointing key) id);
  }
    where
      now : Bytes × Bytes → Option Pointing
      now = put entry_cmp pointing key (Some e)

      written : (b : Bool) {q : Bytes × Bytes} → entries q ≡ option_map (joined cards) (pointing q)
          → cond b (Some (joined cards e)) (entries q) ≡ option_map (joined cards)
          (cond b (Some e) (pointing q))
      written true is = refl
      written false is = is

      at_key : (q : Bytes × Bytes) → (q ≡ key) ⊎ (q ≡ key → ⊥)
      at_key = is_at entry_total key_exact pointing key (Some e)

      card_in : Option Pointing → Option ℤ
      card_in = option_and_then (λ (p : Pointing). p.card)

      here : (q : Bytes × Bytes) → q ≡ key → card_of now q ≡ card
      here q same = ap (λ k. card_in (now k)) same
          ∙ ap card_in (put_at entry_total key_exact pointing key (Some e))
          ∙ points

      beside : (q : Bytes × Bytes) → (q ≡ key → ⊥) → card_of now q ≡ card_of pointing q
      beside q far = ap card_in (put_beside entry_total key_exact pointing key (Some e) q far)

      was : (q : Bytes × Bytes) → q ≡ key → card_of pointing q ≡ card_of pointing key
      was q same = ap (card_of pointing) same

      counted : (id : ℤ) (c : Card)
          → (many : ℕ) × AreMany (λ q. card_of pointing q ≡ Some id) many × (c.uses ≡ many + owed_to card id)
          × (1 ≤ c.uses)
          → (card ≡ Some id) × (owed_to card id ≡ 1) ⊎ (card ≡ Some id → ⊥) × (owed_to card id ≡ 0)
          → (card_of pointing key ≡ Some id) × (owed_to (card_of pointing key) id ≡ 1)
          ⊎ (card_of pointing key ≡ Some id → ⊥) × (owed_to (card_of pointing key) id ≡ 0)
          → (many : ℕ) × AreMany (λ q. card_of now q ≡ Some id) many
          × (c.uses ≡ many + owed_to (card_of pointing key) id) × (1 ≤ c.uses)
      counted id c (many, are, uses, some) (inl (is, owes)) (inl (before, owed)) = (
        many,
        as_many are
            (λ q at. elim (at_key q) [ inl same ↦ here q same ∙ is | inr far ↦ beside q far ∙ at ])
            (λ q at. elim (at_key q) [ inl same ↦ was q same ∙ before | inr far ↦ sym (beside q far) ∙ at ]),
        omega (arith, uses, owes, owed),
        some,
      )
      counted id c (many, are, uses, some) (inl (is, owes)) (inr (before, owed)) = (
        suc many,
        one_more are key before (here key refl ∙ is)
            (λ q at. elim (at_key q) [ inl same ↦ here q same ∙ is | inr far ↦ beside q far ∙ at ])
            (λ q at. elim (at_key q) [ inl same ↦ inl same | inr far ↦ inr (sym (beside q far) ∙ at) ]),
        omega (arith, uses, owes, owed),
        some,
      )
      counted id c (many, are, uses, some) (inr (isnt, owes)) (inl (before, owed)) =
          let less = one_less are key before
          (λ q at. elim (at_key q) [ inl same ↦ inl same | inr far ↦ inr (beside q far ∙ at) ])
          (λ q at. elim (at_key q) [
            | inl same ↦ absurd (isnt (sym (here q same) ∙ at))
            | inr far ↦ (sym (beside q far) ∙ at, far)
          ]) in
          let fewer = less.1 in
          (less.0, less.2, omega (arith, uses, owes, owed, fewer), some)
      counted id c (many, are, uses, some) (inr (isnt, owes)) (inr (before, owed)) = (
        many,
        as_many are
            (λ q at. elim (at_key q) [
              | inl same ↦ absurd (before (sym (was q same) ∙ at))
              | inr far ↦ beside q
                  far ∙ at
            ])
            (λ q at. elim (at_key q) [
              | inl same ↦ absurd (isnt (sym (here q same) ∙ at))
              | inr far ↦ sym
                  (beside q far) ∙ at
            ]),
        omega (arith, uses, owes, owed),
        some,
      )

  -- ---- one use less, which was owed

  -- of a card that keeps others
  pub lowered : (id : ℤ) → AreJoined (owed_to (Some id)) cards pointing entries → (c : Card)
      → cards id ≡ Some c
      → (fewer : ℕ) → c.uses ≡ suc fewer → 1 ≤ fewer
      → AreJoined nothing_owed (put int_cmp cards id (Some (record c { uses = fewer }))) pointing entries
  lowered id it c is fewer less some = reused it id c is fewer
      (let was = it.used id c is in
      let owes = owed_at id in
      let many = was.2 in
      (was.0, was.1, omega (arith, owes, many, less), some)) (λ n far. sym (owed_beside id n far))

  -- of a card that goes
  pub dropped : (id : ℤ) → AreJoined (owed_to (Some id)) cards pointing entries → (c : Card)
      → cards id ≡ Some c
      → c.uses ≡ 1 → AreJoined nothing_owed (put int_cmp cards id None) pointing entries
  dropped id it c is last = recarded it id None (record {
    agrees = λ key at. absurd (nobody key at);
    alone = λ n x d far e other m number. cc;
    counted = λ d e. cc;
    others = λ n far. sym (owed_beside id n far);
  })
    where
      nobody : (key : Bytes × Bytes) → card_of pointing key ≡ Some id → ⊥
      nobody key at =
          let was = it.used id c is in
          let owes = owed_at id in
          let many = was.2 in
          let none : was.0 ≡ 0 = omega (arith, owes, many, last) in
          none_is (subst (AreMany (λ key. card_of pointing key ≡ Some id)) none was.1) key at
