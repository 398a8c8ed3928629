-- The live multi-use entries of rows.
use Rattle.std.proofs.Common.{◌≡◌, ℕ, pos, ◌&&◌, Bool, true, false, cond, List, [], ◌∷◌, not, Option, Some}
use Rattle.std.proofs.Common.{None, option_map, is_some, is_none, inl, inr, refl, sym, ap, ◌∙◌, true≢false}
use Rattle.std.specs.Prelude.{string_bytes, bytes_eq, nat_lt, option_and_then}
use Rattle.std.specs.Cmp.{Equal-is}
use Rattle.std.specs.Cmp.Lexicographic.{texts_ties}
use Rattle.std.specs.Int.RustNames.{int_lt}
use Rattle.std.specs.List.{filter_map, cons_option, list_any}
use Rattle.std.specs.Option.{option_map_or}
use Rattle.std.specs.Ordering.{int_eq}
use Rattle.std.proofs.lemmas.Bool.{and_parts, and_from}
use Rattle.sqlite_rules.specs.Lists.{Has}
use Rattle.sqlite_rules.proofs.ListLemmas.{some_from}
use Rattle.vault_core.specs.Keys.{Bytes, bytes_cmp}
use Rattle.vault_core.specs.Numbers.{use_number}
use Rattle.vault_core.specs.Repeats.{is_reusable, same_use}
use Rattle.vault_core.specs.declared.row.Entry.{Entry}
use Rattle.vault_core.specs.declared.usage.Use.{Use}
use Rattle.vault_core.specs.declared.usage.Use.TheVariants.{Single, Multi}
use Rattle.vault_core.proofs.Maps.{bytes_exact}
use Rattle.vault_core.proofs.Repeats.{same-refl}
use Rattle.vault_pan.specs.CardText.{same}
use Rattle.vault_rules.specs.Lookups.{merchant_of}
use Rattle.vault_rules.specs.Rules.{live_number, live_key, are_distinct}
use Rattle.vault_rules.specs.Showing.{ShowsEntry}
use Rattle.vault_rules.specs.declared.rows.RawMerchant.{RawMerchant}
use Rattle.vault_rules.specs.declared.rows.RawCard.{RawCard}
use Rattle.vault_rules.specs.declared.rows.RawEntry.{RawEntry}
use Rattle.vault_rules.proofs.Found.{bytes_same}
use Rattle.vault_rules.proofs.Options.{tested_is}

same_is : (a b : Bytes) → same a b ≡ true → a ≡ b
same_is a b h = bytes_exact a b ((Equal-is (bytes_cmp a b)).0 (sym (texts_ties a b) ∙ h))

multi_is : (u : Use) → int_eq (pos (use_number u)) (pos 2) ≡ same_use u Multi
multi_is Single = refl
multi_is Multi = refl

none_is : (o : Option ℕ) → is_none (option_map pos o) ≡ is_none o
none_is None = refl
none_is (Some x) = refl

module _ (cards : List RawCard) (e : RawEntry) (entry : Entry) (shows : ShowsEntry cards e entry)
    (moment : ℕ) where
  number_shown : live_number cards (pos moment) e
      ≡ cond (same_use entry.usage Multi && is_none entry.revoked && nat_lt moment entry.expires)
      entry.number None
  number_shown =
      (λ i. cond
      (int_eq (shows.usage i) (pos 2) && is_none (shows.revoked i) && int_lt (pos moment) (shows.expires i))
      (shows.number i) None)
      ∙ (λ i. cond (multi_is entry.usage i && none_is entry.revoked i && nat_lt moment entry.expires)
      entry.number None)

  -- its number is live
  pub reusable_live : (pan : Bytes) → is_reusable pan moment entry ≡ true
      → live_number cards (pos moment) e ≡ Some pan
  reusable_live pan h =
      let outer = and_parts
      (same_use entry.usage Multi && option_map_or (λ number. same number pan) entry.number false)
      (is_some entry.number && is_none entry.revoked && nat_lt moment entry.expires) h in
      let first =
      and_parts (same_use entry.usage Multi)
      (option_map_or (λ number. same number pan) entry.number false) outer.0 in
      let live =
      and_parts (is_some entry.number && is_none entry.revoked) (nat_lt moment entry.expires) outer.1 in
      let unrevoked = and_parts (is_some entry.number) (is_none entry.revoked) live.0 in
      let found = tested_is (λ number. same number pan) entry.number first.1 in
      number_shown
      ∙ ap (λ b. cond b entry.number None)
      (and_from (same_use entry.usage Multi && is_none entry.revoked) (nat_lt moment entry.expires)
      (and_from (same_use entry.usage Multi) (is_none entry.revoked) first.0 unrevoked.1) live.1)
      ∙ found.1 ∙ ap (λ x. Some x) (same_is found.0 pan found.2)

  -- it is reused where its number is live
  pub live_reusable : (pan : Bytes) → live_number cards (pos moment) e ≡ Some pan
      → is_reusable pan moment entry ≡ true
  live_reusable pan h =
      back (same_use entry.usage Multi) (is_none entry.revoked) (nat_lt moment entry.expires) entry.number
      (sym number_shown ∙ h)
    where
      back : (multi unrevoked before : Bool) (o : Option Bytes)
          → cond (multi && unrevoked && before) o None ≡ Some pan
          → (multi && option_map_or (λ number. same number pan) o false
          && (is_some o && unrevoked && before)) ≡ true
      back true true true None e = cc
      back true true true (Some x) e =
          let is : x ≡ pan = cc in
          and_from (same x pan) true (ap (λ y. same y pan) is ∙ same-refl pan) refl
      back true true false o e = cc
      back true false before o e = cc
      back false unrevoked before o e = cc

-- the key of a live entry, by the row of its merchant
pub key_is : (merchants : List RawMerchant) (cards : List RawCard) (e : RawEntry) (m : RawMerchant)
    → merchant_of merchants (string_bytes e.merchant) ≡ Some m
    → live_key merchants cards e
    ≡ option_map (λ number. (string_bytes e.merchant, number)) (live_number cards m.moment e)
key_is merchants cards e m first =
    ap (λ (o : Option RawMerchant). option_and_then
    (λ moment. option_map (λ number. let pair : Bytes × Bytes = (string_bytes e.merchant, number) in pair)
    (live_number cards moment e))
    (option_map (λ n. n.moment) o)) first

module _ {R : Type 0} (f : R → Option (Bytes × Bytes)) where
  given : (rows : List R) (r : R) (k : Bytes × Bytes) → Has rows r → f r ≡ Some k → Has (filter_map f rows) k
  given [] r k h is = absurd h
  given (s ∷ rows) r k (inl first) is = here (f s) (ap f (sym first) ∙ is)
    where
      here : (o : Option (Bytes × Bytes)) → o ≡ Some k → Has (cons_option o (filter_map f rows)) k
      here None e = cc
      here (Some x) e = let own : k ≡ x = cc in inl own
  given (s ∷ rows) r k (inr later) is = there (f s) (given rows r k later is)
    where
      there : (o : Option (Bytes × Bytes)) → Has (filter_map f rows) k
          → Has (cons_option o (filter_map f rows)) k
      there None h = h
      there (Some x) h = inr h

  apart : (k : Bytes × Bytes) (o : Option (Bytes × Bytes)) (keys : List (Bytes × Bytes))
      → are_distinct (cons_option o keys) ≡ true → o ≡ Some k → Has keys k → ⊥
  apart k None keys distinct is h = cc
  apart k (Some x) keys distinct is h =
      let own : x ≡ k = cc in
      let parts =
      and_parts (not (list_any (λ other. bytes_eq x.0 other.0 && bytes_eq x.1 other.1) keys))
      (are_distinct keys) distinct in
      let hit = some_from (λ other. bytes_eq x.0 other.0 && bytes_eq x.1 other.1) keys k h
      (and_from (bytes_eq x.0 k.0) (bytes_eq x.1 k.1) (bytes_same x.0 k.0 (ap (λ p. p.0) own))
      (bytes_same x.1 k.1 (ap (λ p. p.1) own))) in
      true≢false (sym parts.0 ∙ ap not hit)

  rest : (o : Option (Bytes × Bytes)) (keys : List (Bytes × Bytes))
      → are_distinct (cons_option o keys) ≡ true → are_distinct keys ≡ true
  rest None keys h = h
  rest (Some x) keys h =
      (and_parts (not (list_any (λ other. bytes_eq x.0 other.0 && bytes_eq x.1 other.1) keys))
      (are_distinct keys) h).1

  -- a key is that of one row alone
  pub distinct_once : (rows : List R)
      → are_distinct (filter_map f rows) ≡ true → (a b : R) (k : Bytes × Bytes) → Has rows a → Has rows b
      → f a ≡ Some k → f b ≡ Some k → a ≡ b
  distinct_once [] distinct a b k h g p q = absurd h
  distinct_once (r ∷ rows) distinct a b k (inl first) (inl second) p q = first ∙ sym second
  distinct_once (r ∷ rows) distinct a b k (inl first) (inr later) p q =
      absurd (apart k (f r) (filter_map f rows) distinct (ap f (sym first) ∙ p) (given rows b k later q))
  distinct_once (r ∷ rows) distinct a b k (inr later) (inl first) p q =
      absurd (apart k (f r) (filter_map f rows) distinct (ap f (sym first) ∙ q) (given rows a k later p))
  distinct_once (r ∷ rows) distinct a b k (inr h) (inr g) p q =
      distinct_once rows (rest (f r) (filter_map f rows) distinct) a b k h g p q
