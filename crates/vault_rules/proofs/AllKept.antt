-- The rows of a sound vault keep each rule.
use Rattle.std.proofs.Common.{◌≡◌, inl, inr, ℕ, zero, suc, ℤ, pos, ◌≤◌, ◌&&◌, true, false}
use Rattle.std.proofs.Common.{List, [], ◌∷◌, Option, length, refl, sym, ap, ◌∙◌, arith}
use Rattle.std.specs.Prelude.{string_bytes, nat_lt, slice_index_or}
use Rattle.std.specs.List.{list_all}
use Rattle.std.specs.Option.{option_map_or}
use Rattle.std.specs.Ordering.{int_eq}
use Rattle.std.proofs.lemmas.Bool.{and_from}
use Rattle.sqlite_rules.specs.Lists.{Has}
use Rattle.sqlite_rules.proofs.ListLemmas.{test_from}
use Rattle.vault_core.specs.Numbers.{right_number, use_number}
use Rattle.vault_core.specs.Sound.{Sound}
use Rattle.vault_core.specs.Vault.{Vault, entry_at}
use Rattle.vault_core.specs.declared.right.Right.{Right}
use Rattle.vault_core.specs.declared.right.Right.TheVariants.{Tokenize, Detokenize, View, Revoke, Purge}
use Rattle.vault_core.specs.declared.right.Right.TheVariants.{Audit}
use Rattle.vault_rules.specs.Lookups.{is_known, total_of, held_by}
use Rattle.vault_rules.specs.Rules.{Rule, is_within, is_current, are_named, is_count, has_token}
use Rattle.vault_rules.specs.Rules.{has_number, is_timed, is_kept, at_moments, is_counted, is_record}
use Rattle.vault_rules.specs.Rules.{is_right, has_end, keeps, rules, verdicts_of}
use Rattle.vault_rules.specs.Showing.{Shows, ShowsCount}
use Rattle.vault_rules.specs.Texts.{is_name, is_token}
use Rattle.vault_rules.specs.VaultOf.{HasKeysApart}
use Rattle.vault_rules.specs.declared.rows.RawCount.{RawCount}
use Rattle.vault_rules.specs.declared.rows.RawEntry.{RawEntry}
use Rattle.vault_rules.specs.declared.rows.RawRecord.{RawRecord}
use Rattle.vault_rules.specs.AllRows.{Rows}
use Rattle.vault_rules.proofs.CardsFrom.{cards_kept}
use Rattle.vault_rules.proofs.DistinctFrom.{keys_distinct}
use Rattle.vault_rules.proofs.Ends.{ends_from}
use Rattle.vault_rules.proofs.MerchantRows.{leads_kept, lives_kept}
use Rattle.vault_rules.proofs.Numbers.{within_from, int_same, below_from}
use Rattle.vault_rules.proofs.ShownRows.{entered, tested, held_known, known, entry_shown}
use Rattle.vault_rules.proofs.TextLemmas.{name_from, token_from}
use Rattle.vault_rules.proofs.TimedFrom.{number_kept, times_kept, number_or_over}

-- each of these rules is kept
data AreKept (rows : Rows) : List Rule → Type 0 where
  NoneLeft : AreKept rows []
  KeptToo : {rule : Rule} {rest : List Rule} → rule rows ≡ true → AreKept rows rest
      → AreKept rows (rule ∷ rest)

-- so is the one at a place
kept_at : (rows : Rows) (rest : List Rule) → AreKept rows rest → (n : ℕ)
    → slice_index_or (verdicts_of rows rest) n true ≡ true
kept_at rows [] all n = refl
kept_at rows (rule ∷ rest) (KeptToo is others) zero = is
kept_at rows (rule ∷ rest) (KeptToo is others) (suc n) = kept_at rows rest others n

right_within : (r : Right) (z : ℤ) → z ≡ pos (right_number r) → is_within (pos 1) (pos 6) z ≡ true
right_within Tokenize z is = within_from 1 6 1 z is (omega arith) (omega arith)
right_within Detokenize z is = within_from 1 6 2 z is (omega arith) (omega arith)
right_within View z is = within_from 1 6 3 z is (omega arith) (omega arith)
right_within Revoke z is = within_from 1 6 4 z is (omega arith) (omega arith)
right_within Purge z is = within_from 1 6 5 z is (omega arith) (omega arith)
right_within Audit z is = within_from 1 6 6 z is (omega arith) (omega arith)

module _ (rows : Rows) (V : Vault) (shows : Shows rows V) (sound : Sound V) where
  kept_1 : is_current rows.versions rows.replaced ≡ true
  kept_1 =
      (λ i. is_current (shows.versions i) (shows.replaced i))
      ∙ ap (λ z. (int_eq z (pos 1) && true) && true) shows.id

  kept_2 : are_named rows.merchants ≡ true
  kept_2 =
      and_from (nat_lt (length rows.merchants) 10001)
      (list_all (λ m. is_name (string_bytes m.name)) rows.merchants)
      (below_from (length rows.merchants) 10001 (omega (arith, shows.many, sound.few)))
      (test_from (λ m. is_name (string_bytes m.name)) rows.merchants (λ m h.
      let it = shows.merchants m h in
      name_from (string_bytes m.name) (sound.merchants (string_bytes m.name) it.0 it.1).name))

  -- what a count's row says
  abbrev CountFine : RawCount → ℕ → ℕ → Type 0
  CountFine c kind total =
      (is_known rows.merchants (string_bytes c.merchant) ≡ true) × (1 ≤ kind) × (kind ≤ 3)
      × (total ≤ 4611686018427387903)

  count_fine : (c : RawCount) → (it : ShowsCount c V) → CountFine c it.kind it.total
  count_fine c it = elim it.counted as (λ _. CountFine c it.kind it.total) [
    | inl first ↦
        let few = sound.made_few (string_bytes c.merchant) in
        let kind_is = first.0 in
        let total_is = first.1 in
        let some = it.some in (
          held_known rows V shows sound (string_bytes c.merchant) (omega arith),
          omega arith,
          omega arith,
          omega arith,
        )
    | inr later ↦
        let fine = sound.merchants (string_bytes c.merchant) later.0 later.1 in
        let there = known rows V shows (string_bytes c.merchant) later.0 later.1 in
        elim later.2 as (λ _. CountFine c it.kind it.total) [
          | inl gave ↦
              let kind_is = gave.0 in
              let total_is = gave.1 in
              let most = fine.given in
              (there, omega arith, omega arith, omega arith)
          | inr denied ↦
              let kind_is = denied.0 in
              let total_is = denied.1 in
              let most = fine.denied in
              (there, omega arith, omega arith, omega arith)
        ]
  ]

  kept_4 : list_all (is_count rows.merchants) rows.counts ≡ true
  kept_4 = test_from (is_count rows.merchants) rows.counts (λ c h.
      let it = shows.counts c h in
      let fine = count_fine c it in
      and_from _ _ (and_from _ _ fine.0 (within_from 1 3 it.kind c.kind it.kind_is fine.1 fine.2))
      (within_from 1 4611686018427387903 it.total c.total it.total_is (omega (arith, it.some)) fine.3))

  kept_5 : list_all (has_token rows.merchants) rows.entries ≡ true
  kept_5 = test_from (has_token rows.merchants) rows.entries (λ e h.
      let it = entered rows V shows sound e h in
      and_from (is_known rows.merchants (string_bytes e.merchant)) (is_token (string_bytes e.token))
      (known rows V shows (string_bytes e.merchant) it.merchant it.merchant_is)
      (token_from (string_bytes e.token) it.sound.token_fails))

  kept_6 : list_all (has_number rows.cards) rows.entries ≡ true
  kept_6 =
      test_from (has_number rows.cards) rows.entries (λ e h.
      let it = entered rows V shows sound e h in
      number_kept rows.cards e it.entry it.shown it.merchant it.sound)

  kept_7 : list_all (at_moments rows.merchants is_timed) rows.entries ≡ true
  kept_7 = test_from (at_moments rows.merchants is_timed) rows.entries (λ e h.
      let it = entered rows V shows sound e h in
      tested rows V shows sound is_timed e it
      (times_kept rows.cards e it.entry it.shown it.merchant it.sound))

  kept_8 : list_all (at_moments rows.merchants is_kept) rows.entries ≡ true
  kept_8 = test_from (at_moments rows.merchants is_kept) rows.entries (λ e h.
      let it = entered rows V shows sound e h in
      tested rows V shows sound is_kept e it
      (number_or_over rows.cards e it.entry it.shown it.merchant it.sound))

  kept_10 : list_all (is_counted rows.counts rows.entries) rows.merchants ≡ true
  kept_10 = test_from (is_counted rows.counts rows.entries) rows.merchants (λ m h.
      let name = string_bytes m.name in
      let held = held_by rows.entries name in
      and_from (int_eq (total_of rows.counts name (pos 1)) (pos held)) (nat_lt held 1000001)
      (int_same (total_of rows.counts name (pos 1)) (pos held)
      (shows.counted name ∙ ap pos (sym (shows.held name))))
      (below_from held 1000001 (let same = shows.held name in omega (arith, sound.made_few name))))

  record_kept : (r : RawRecord) → Has rows.records r → is_record rows.entries r ≡ true
  record_kept r h =
      let it = shows.records r h in
      let fine = sound.records (string_bytes r.caller) it.0 it.1 it.3 in
      let row = entry_shown rows V shows (string_bytes r.merchant) (string_bytes r.token) fine.2.0
      ((λ i. entry_at V (it.4.merchant i) (it.4.token i)) ∙ fine.2.1) in
      let usage : row.0.e.usage ≡ r.usage =
      row.1.usage ∙ ap (λ u. pos (use_number u)) fine.2.2 ∙ sym it.4.usage in
      and_from _ _ (and_from _ _ (name_from (string_bytes r.caller) fine.0)
      (within_from 1 9223372036854775807 it.0 r.request it.2 fine.1.0 fine.1.1))
      (ap (λ (o : Option RawEntry). option_map_or (λ (e : RawEntry). int_eq e.usage r.usage) o false)
      row.0.first
      ∙ int_same row.0.e.usage r.usage usage)

  kept_11 : list_all (is_record rows.entries) rows.records ≡ true
  kept_11 = test_from (is_record rows.entries) rows.records record_kept

  kept_12 : list_all (is_right rows.merchants) rows.rights ≡ true
  kept_12 = test_from (is_right rows.merchants) rows.rights (λ r h.
      let it = shows.rights r h in
      let fine = sound.rights (string_bytes r.caller) (string_bytes r.merchant) it.0 it.1 it.3 in
      and_from _ _ (and_from _ _ (name_from (string_bytes r.caller) fine.0)
      (known rows V shows (string_bytes r.merchant) fine.1 fine.2))
      (right_within it.0 r.what it.2))

  kept_15 : list_all has_end rows.rights ≡ true
  kept_15 = test_from has_end rows.rights (λ r h.
      let it = shows.rights r h in
      let fine = sound.rights (string_bytes r.caller) (string_bytes r.merchant) it.0 it.1 it.3 in
      ap (λ o. option_map_or (is_within (pos 0) (pos 253402300799)) o true) it.4 ∙ ends_from it.1.ends fine.3)

  -- each rule, in their order
  all_rules : HasKeysApart rows → AreKept rows rules
  all_rules apart =
      KeptToo kept_1 (KeptToo kept_2 (KeptToo (lives_kept rows V shows sound) (KeptToo kept_4
      (KeptToo kept_5 (KeptToo kept_6 (KeptToo kept_7 (KeptToo kept_8
      (KeptToo (keys_distinct rows V shows sound apart.entries) (KeptToo kept_10 (KeptToo kept_11
      (KeptToo kept_12 (KeptToo (cards_kept rows V shows sound apart)
      (KeptToo (leads_kept rows V shows sound) (KeptToo kept_15 NoneLeft))))))))))))))

pub all_kept : (rows : Rows) (V : Vault) → Shows rows V → Sound V → HasKeysApart rows → (r : ℕ)
    → keeps rows r ≡ true
all_kept rows V shows sound apart zero = refl
all_kept rows V shows sound apart (suc n) = kept_at rows rules (all_rules rows V shows sound apart) n
