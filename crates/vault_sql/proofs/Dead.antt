-- The dead tokens of a merchant as the first of a list that rises.
use Rattle.std.proofs.Common.{◌≡◌, ◌∙◌, ◌&&◌, ◌||◌, ℕ, ℤ, pos, List, [], ◌∷◌, map, filter, take, Bool, true}
use Rattle.std.proofs.Common.{false}
use Rattle.std.proofs.Common.{Option, Some, None, option_map, option_and_then, is_some, is_none, nat_lt}
use Rattle.std.proofs.Common.{is_eq, is_ge, is_lt, is_le, int_cmp, cond}
use Rattle.std.proofs.Common.{◌≤◌, length, min, suc, zero}
use Rattle.std.proofs.Common.{refl, sym, ap, subst, arith, inl, inr, Less, Equal, Greater, T, Ordering, not}
use Rattle.std.proofs.lemmas.Bool.{and_parts}
use Rattle.std.proofs.lemmas.Bool.Decides.{nat_tests}
use Rattle.std.proofs.lemmas.Int.{ints}
use Rattle.std.proofs.lemmas.List.{length-map, take_all}
use Rattle.std.specs.Cmp.{IsTotalOrder, tied_itself}
use Rattle.std.specs.FinMap as map
use Rattle.std.specs.FinMap.Entries.{below_all, find as lookup, is_sorted}
use Rattle.std.specs.List.{list_all}
use Rattle.std.specs.Ordering.{eq_by_cmp, ordering_reverse, ordering_then}
use Rattle.sqlite.specs.Collation.TheVariants.{Binary}
use Rattle.sqlite.specs.Order.{Row, column, value_cmp}
use Rattle.sqlite.specs.Ops.{binary, from_truth, is_true, unary}
use Rattle.sqlite.specs.State.{State, Shown}
use Rattle.sqlite.specs.Term.{holds}
use Rattle.sqlite.specs.declared.types.Value.{Value}
use Rattle.sqlite.specs.declared.types.Value.TheVariants.{Int, Null, Text}
use Rattle.sqlite_rules.proofs.ListLemmas.{all_from, all_has, has_filtered, has_kept}
use Rattle.sqlite_rules.proofs.ProbeLemmas.{has_mapped, mapped_has}
use Rattle.sqlite_rules.specs.Lists.{Has}
use Rattle.sqlite_sql.specs.declared.ops.BinaryOp.TheVariants.{Compare, Is, Or}
use Rattle.sqlite_sql.specs.declared.ops.CompareOp.TheVariants.{Ge, Le}
use Rattle.sqlite_sql.specs.declared.ops.UnaryOp.TheVariants.{Not}
use Rattle.sqlite_value.proofs.OrderLemmas.{value_cmp-Int, value_cmp-Text, value_cmp_total}
use Rattle.sql_tables.proofs.KeyTests.{equal_is, text_eq}
use Rattle.sql_tables.proofs.Reading.{shown_first}
use Rattle.sql_tables.proofs.RisingLists.{Rises}
use Rattle.sql_tables.specs.States.{Stands}
use Rattle.vault_schema.proofs.Newest.{behind_second, indexes_behind_second, pointing_table}
use Rattle.vault_core.proofs.CurrentLemmas.{get-entries_of}
use Rattle.vault_core.proofs.Finds.{true-T, some_same}
use Rattle.vault_core.proofs.Maps.{bytes_exact, bytes_total, entry_exact, entry_total}
use Rattle.vault_core.specs.Dead.{dead_tokens, is_dead}
use Rattle.vault_core.specs.Keys.{Bytes, bytes_cmp, entry_cmp}
use Rattle.vault_core.specs.Sound.{Sound}
use Rattle.vault_core.specs.Vault.{Vault, entries_of}
use Rattle.vault_core.specs.Window.{moment_at}
use Rattle.vault_core.specs.declared.row.Entry.{Entry}
use Rattle.vault_tables.specs.EntryTexts.{dead_is, dead_tests}
use Rattle.vault_schema.specs.Values.{number_or_null}
use Rattle.vault_schema.specs.Versions.{Tables}
use Rattle.vault_schema.specs.Stands.{newest_claims}
use Rattle.vault_schema.specs.Joined.{AreJoined, joined, nothing_owed, number_of}
use Rattle.vault_schema.specs.Values.{id_or_null}
use Rattle.vault_schema.specs.Entries.{pointing_row}
use Rattle.vault_schema.specs.declared.rows.Card.{Card}
use Rattle.vault_schema.specs.declared.rows.Pointing.{Pointing}
use Rattle.vault_tables.specs.declared.entries.TheConstants.{FIND_DEAD}
use Rattle.vault_sql.specs.DeadBefore.{HasNoDeadBefore}
use Rattle.vault_sql.proofs.JoinedEntries.{entry_there, points_there}
use Rattle.vault_schema.specs.Schema.{newest_schema}
use Rattle.vault_tables.specs.Shown.{text_column}

-- ---- the test of a row

card_there : (o : Option ℤ)
    → is_true (unary Not (binary (Is Binary) (id_or_null o) Null)) ≡ is_some o
unfolding unary binary value_cmp lib.Ieee.is_nan lib.Ieee.lt
card_there None = refl
card_there (Some id) = refl

low_is : (a b : ℕ) → is_le (int_cmp (pos a) (pos b)) ≡ not (nat_lt b a)
low_is a b = grind (arith, ints, nat_tests)

null_is : (o : Option ℕ)
    → unary Not (binary (Is Binary) (number_or_null o) Null) ≡ from_truth (Some (is_some o))
unfolding unary binary value_cmp lib.Ieee.is_nan lib.Ieee.lt
null_is None = refl
null_is (Some n) = refl

le_is : (a b : ℕ) → binary (Compare Le Binary) (Int (pos a)) (Int (pos b))
    ≡ from_truth (Some (is_le (int_cmp (pos a) (pos b))))
unfolding binary
le_is a b = rw value_cmp-Int refl

or_is : (a b : Bool) → is_true (binary Or (from_truth (Some a)) (from_truth (Some b))) ≡ (a || b)
unfolding binary
or_is true true = refl
or_is true false = refl
or_is false true = refl
or_is false false = refl

over_is : (o : Option ℕ) (e at : ℕ)
    → is_true (binary Or (unary Not (binary (Is Binary) (number_or_null o) Null))
    (binary (Compare Le Binary) (Int (pos e)) (Int (pos at)))) ≡ (is_some o || not (nat_lt at e))
over_is o e at = rw (null_is o, le_is e at)
    (or_is (is_some o) (is_le (int_cmp (pos e) (pos at))) ∙ ap (λ b. is_some o || b) (low_is e at))

text_ge : (a b : List ℕ) → is_true (binary (Compare Ge Binary) (Text a) (Text b)) ≡ is_ge (bytes_cmp a b)
unfolding binary
text_ge a b = rw value_cmp-Text (grind arith)

-- an entry of this merchant, not before this text, that has a card and isn't live
abbrev is_good : Bytes → Bytes → ℕ → Bytes × Bytes → Pointing → Bool
is_good m from at key y =
    is_eq (bytes_cmp key.0 m)
    && (is_ge (bytes_cmp key.1 from)
    && (is_some y.card && ((is_some y.revoked || not (nat_lt at y.expires)) && true)))

dead_is_over : (number : Option Bytes) (revoked : Option ℕ) (low : Bool)
    → (is_some number && ((is_some revoked || not low) && true))
    ≡ (is_some number && not (is_some number && is_none revoked && low))
dead_is_over number revoked low = grind arith

-- what a query is given
abbrev dead_params : Bytes → Bytes → ℕ → ℕ → Row
dead_params m from at many = Text m ∷ Text from ∷ Int (pos at) ∷ Int (pos many) ∷ []

dead_hits : (m from : Bytes) (at limit : ℕ) (n : _) (q : Bytes × Bytes) (y : Pointing)
    → list_all (holds (dead_params m from at limit ∷ (Int n ∷ pointing_row q y) ∷ [])) dead_tests
    ≡ is_good m from at q y
dead_hits m from at limit n q y =
    rw (text_eq q.0 m, text_ge q.1 from, card_there y.card, over_is y.revoked y.expires at) refl

-- ---- lists of entries in order

below_has : {K X : Type 0} (R : K → K → Ordering) (k : K) (es : List (K × X)) → T (below_all R k es)
    → (e : K × X) → Has es e → R k e.0 ≡ Less
below_has R k [] low e h = absurd h
below_has R k (f ∷ es) low e (inl same) =
    ap (λ x. R k x.0) same ∙ less _ (and_parts _ _ (true-T _ low)).0
  where
    less : (o : Ordering) → is_lt o ≡ true → o ≡ Less
    less o is = grind arith
below_has R k (f ∷ es) low e (inr later) =
    below_has R k es (subst T (sym (and_parts _ _ (true-T _ low)).1) tt) e later

-- what is found stands there, at that key
found_has : {K X : Type 0} (R : K → K → Ordering) → ((a b : K) → R a b ≡ Equal → a ≡ b) → (q : K) (y : X)
    → (es : List (K × X)) → lookup R q es ≡ Some y → Has es (q, y)
found_has R exact q y [] found = absurd cc
found_has R exact q y (e ∷ es) found =
    elim (R q e.0) as (λ o. R q e.0 ≡ o → cond (is_eq o) (Some e.1) (lookup R q es) ≡ Some y
    → Has (e ∷ es) (q, y)) [
      | Less ↦ λ is there. inr (found_has R exact q y es there)
      | Equal ↦ λ is there. inl (λ i. (exact q e.0 is i, some_same (sym there) i))
      | Greater ↦ λ is there. inr (found_has R exact q y es there)
    ] refl found

-- what stands there is found
pub has_found : {K X : Type 0} {R : K → K → Ordering} → IsTotalOrder R → (es : List (K × X))
    → T (is_sorted R es)
    → (e : K × X) → Has es e → lookup R e.0 es ≡ Some e.1
has_found total [] sorted e h = absurd h
has_found {R = R} total (f ∷ es) sorted e (inl same) =
    ap (λ o. cond (is_eq o) (Some f.1) (lookup R e.0 es))
    (ap (λ x. R e.0 x.0) (sym same) ∙ tied_itself total e.0) ∙ ap (λ x. Some x.1) (sym same)
has_found {R = R} total (f ∷ es) sorted e (inr later) =
    let parts = and_parts _ _ (true-T _ sorted) in
    let low = below_has R f.0 es (subst T (sym parts.0) tt) e later in
    let over : R e.0 f.0 ≡ Greater = total.antisymm e.0 f.0 ∙ ap ordering_reverse low in
    ap (λ o. cond (is_eq o) (Some f.1) (lookup R e.0 es)) over
    ∙ has_found total es (subst T (sym parts.1) tt) e later

-- ---- the dead tokens of a merchant

abbrev token_value : (Bytes × Bytes) × Entry → Value
token_value e = Text e.0.1

later_token : (a b : Bytes × Bytes) → a.0 ≡ b.0 → entry_cmp a b ≡ Less → bytes_cmp a.1 b.1 ≡ Less
later_token a b same low =
    ap (λ o. ordering_then o (bytes_cmp a.1 b.1))
    (sym (ap (bytes_cmp a.0) (sym same) ∙ tied_itself bytes_total a.0)) ∙ low

rising_tokens : (m : Bytes) (test : (Bytes × Bytes) × Entry → Bool) (es : List ((Bytes × Bytes) × Entry))
    → T (is_sorted entry_cmp es) → ((e : (Bytes × Bytes) × Entry) → Has es e → e.0.0 ≡ m)
    → Rises value_cmp_total (map token_value (filter test es))
rising_tokens m test [] sorted own = tt
rising_tokens m test (e ∷ es) sorted own =
    let parts = and_parts _ _ (true-T _ sorted) in
    let rest = rising_tokens m test es (subst T (sym parts.1) tt) (λ x h. own x (inr h)) in
    elim (test e) as (λ b. Rises value_cmp_total
    (map token_value (cond b (e ∷ filter test es) (filter test es)))) [
      | true ↦ (
        all_from _ (map token_value (filter test es)) (λ v h.
            let it = has_mapped token_value (filter test es) v h in
            let there = (has_filtered test es it.0 it.1).0 in
            ap (value_cmp (token_value e)) it.2 ∙ value_cmp-Text e.0.1 it.0.0.1
            ∙ later_token e.0 it.0.0 (own e (inl refl) ∙ sym (own it.0 (inr there)))
            (below_has entry_cmp e.0 es (subst T (sym parts.0) tt) it.0 there)),
        rest,
      )
      | false ↦ rest
    ]

taken_tokens : (n : ℕ) (es : List ((Bytes × Bytes) × Entry))
    → take n (map (λ v. v ∷ []) (map token_value es)) ≡ map text_column (take n (map (λ e. e.0.1) es))
taken_tokens zero es = refl
taken_tokens (suc n) [] = refl
taken_tokens (suc n) (e ∷ es) = ap (λ l. text_column e.0.1 ∷ l) (taken_tokens n es)

-- none of them comes before the first
behind_first : (n : ℕ) (es : List ((Bytes × Bytes) × Entry)) → Rises value_cmp_total (map token_value es)
    → (token : Bytes) (rest : List Bytes) → token ∷ rest ≡ take n (map (λ e. e.0.1) es)
    → (e : (Bytes × Bytes) × Entry) → Has es e → bytes_cmp e.0.1 token ≡ Less → ⊥
behind_first zero es up token rest first e h low = cc
behind_first (suc n) [] up token rest first e h low = h
behind_first (suc n) (x ∷ es) up token rest first e (inl same) low =
    let is : token ≡ x.0.1 = cc in
    let tie = tied_itself bytes_total x.0.1 in
    let clash = sym tie ∙ ap (λ (y : (Bytes × Bytes) × Entry). bytes_cmp y.0.1 x.0.1) (sym same)
    ∙ ap (bytes_cmp e.0.1) (sym is) ∙ low in cc
behind_first (suc n) (x ∷ es) up token rest first e (inr later) low =
    let is : token ≡ x.0.1 = cc in
    let over = all_has _ (map token_value es) (token_value e) up.0 (mapped_has token_value es e later) in
    let above : bytes_cmp x.0.1 e.0.1 ≡ Less = sym (value_cmp-Text x.0.1 e.0.1) ∙ over in
    let turned : bytes_cmp e.0.1 x.0.1 ≡ Greater =
    bytes_total.antisymm e.0.1 x.0.1 ∙ ap ordering_reverse above in
    let clash = sym turned ∙ ap (bytes_cmp e.0.1) (sym is) ∙ low in cc

fewer_kept : {X : Type 0} (p : X → Bool) (xs : List X) → length (filter p xs) ≤ length xs
fewer_kept p [] = omega arith
fewer_kept p (x ∷ xs) =
    let rest = fewer_kept p xs in
    elim (p x) as (λ b. length (cond b (x ∷ filter p xs) (filter p xs)) ≤ length (x ∷ xs)) [
      | true ↦ omega (arith, rest)
      | false ↦ omega (arith, rest)
    ]

take_enough : {X : Type 0} (most limit many : ℕ) (xs : List X) → length xs ≤ most → many ≡ min most limit
    → take many xs ≡ take limit xs
take_enough most limit many xs few is =
    elim (nat_lt limit most) as (λ b. nat_lt limit most ≡ b → take many xs ≡ take limit xs) [
      | true ↦ λ low. let same : many ≡ limit = grind (arith, nat_tests, low, is) in ap (λ n. take n xs) same
      | false ↦ λ over.
          let within : length xs ≤ many = grind (arith, nat_tests, over, is, few) in
          let limited : length xs ≤ limit = grind (arith, nat_tests, over, few) in
          take_all many xs within ∙ sym (take_all limit xs limited)
    ] refl

module _ (V : Vault) (m : Bytes) where
  abbrev own : List ((Bytes × Bytes) × Entry)
  own = map.entries (entries_of V m)

  -- an entry of the merchant in the vault
  own_there : (e : (Bytes × Bytes) × Entry) → Has own e → (e.0.0 ≡ m) × (map.get V.entries e.0 ≡ Some e.1)
  own_there e h = go (eq_by_cmp bytes_cmp m e.0.0) refl
      (sym (get-entries_of V m e.0) ∙ map.get-entries (entries_of V m) e.0
      ∙ has_found entry_total own (map.entries_sorted (entries_of V m)) e h)
    where
      go : (b : Bool) → eq_by_cmp bytes_cmp m e.0.0 ≡ b → cond b (map.get V.entries e.0) None ≡ Some e.1
          → (e.0.0 ≡ m) × (map.get V.entries e.0 ≡ Some e.1)
      go true ties found = (sym (bytes_exact m e.0.0 (equal_is _ ties)), found)
      go false apart found = absurd cc

  there_own : (q : Bytes × Bytes) (y : Entry) → map.get V.entries q ≡ Some y → q.0 ≡ m → Has own (q, y)
  there_own q y found same =
      found_has entry_cmp entry_exact q y own
      (sym (map.get-entries (entries_of V m) q) ∙ get-entries_of V m q
      ∙ ap (λ b. cond b (map.get V.entries q) None)
      (ap (λ x. eq_by_cmp bytes_cmp x q.0) (sym same) ∙ ap is_eq (tied_itself bytes_total q.0)) ∙ found)

  module _ (t : Tables) (are : AreJoined nothing_owed t.cards t.pointing (map.get V.entries)) (at : ℕ) where
    -- an entry has a number where it points at a card
    numbered : (q : Bytes × Bytes) (y : Pointing) → t.pointing q ≡ Some y
        → is_some y.card ≡ is_some (joined t.cards y).number
    numbered q y is = go y.card refl
      where
        go : (o : Option ℤ) → y.card ≡ o → is_some o ≡ is_some (option_and_then (number_of t.cards) o)
        go None none = refl
        go (Some id) some =
            let own = are.owned q id (ap (option_and_then (λ (p : Pointing). p.card)) is ∙ some) in
            ap (λ o. is_some (option_map (λ (c : Card). c.number) o)) (sym own.1)

    module _ (from : Bytes) (none : HasNoDeadBefore V m at from) where
      -- it passes where it is dead, and not before the text
      passes : (q : Bytes × Bytes) (y : Pointing) → t.pointing q ≡ Some y
          → is_good m from at q y
          ≡ (is_eq (bytes_cmp q.0 m) && (is_ge (bytes_cmp q.1 from) && is_dead (joined t.cards y) at))
      passes q y is =
          ap (λ b. is_eq (bytes_cmp q.0 m) && (is_ge (bytes_cmp q.1 from)
          && (b && ((is_some y.revoked || not (nat_lt at y.expires)) && true))))
          (numbered q y is)
          ∙ ap (λ b. is_eq (bytes_cmp q.0 m) && (is_ge (bytes_cmp q.1 from) && b))
          (dead_is_over (joined t.cards y).number y.revoked (nat_lt at y.expires))

      alike : (q : Bytes × Bytes) (y : Pointing) → t.pointing q ≡ Some y → is_good m from at q y ≡ true
          → (q.0 ≡ m) × (is_dead (joined t.cards y) at ≡ true)
      alike q y is good =
          let parts = and_parts _ _ (sym (passes q y is) ∙ good) in
          (bytes_exact q.0 m (equal_is _ parts.0), (and_parts _ _ parts.1).1)

      -- what is dead isn't before the text
      not_before : (q : Bytes × Bytes) (e : Entry) → q.0 ≡ m → map.get V.entries q ≡ Some e
          → is_dead e at ≡ true → is_ge (bytes_cmp q.1 from) ≡ true
      not_before q e own there dead =
          elim (bytes_cmp q.1 from) as (λ o. bytes_cmp q.1 from ≡ o → is_ge o ≡ true) [
            | Less ↦ λ low.
                let at_m = ap (λ (x : Bytes). map.get V.entries (x, q.1)) (sym own) ∙ there in
                let clash = sym dead ∙ none q.1 e low at_m in cc
            | Equal ↦ λ tie. refl
            | Greater ↦ λ high. refl
          ] refl

      good_dead : (q : Bytes × Bytes) (y : Pointing) → t.pointing q ≡ Some y → q.0 ≡ m
          → map.get V.entries q ≡ Some (joined t.cards y) → is_dead (joined t.cards y) at ≡ true
          → is_good m from at q y ≡ true
      good_dead q y is own there dead =
          passes q y is
          ∙ ap (λ x. is_eq (bytes_cmp x m)
          && (is_ge (bytes_cmp q.1 from) && is_dead (joined t.cards y) at)) own
          ∙ ap (λ o. is_eq o && (is_ge (bytes_cmp q.1 from) && is_dead (joined t.cards y) at))
          (tied_itself bytes_total m)
          ∙ ap (λ b. b && is_dead (joined t.cards y) at) (not_before q _ own there dead) ∙ dead

    same_token : (q p : Bytes × Bytes) → q.0 ≡ m → p.0 ≡ m → value_cmp (Text q.1) (Text p.1) ≡ Equal → q ≡ p
    same_token q p own own' tie =
        let merchant = own ∙ sym own' in
        let token = bytes_exact q.1 p.1 (sym (value_cmp-Text q.1 p.1) ∙ tie) in
        λ i. (merchant i, token i)

    -- what a query shows of them
    pub shows_dead : (from : Bytes) → HasNoDeadBefore V m at from
        → (old new : State) → Stands newest_schema (newest_claims t) old.now → (many now : ℕ)
        → moment_at V m now ≡ at → (rows : List Row)
        → Shown FIND_DEAD.now (dead_params m from at many) old new rows
        → rows ≡ map text_column (take many (dead_tokens V m now))
    unfolding dead_tokens
    shows_dead from none old new it many now is rows shown =
        let test = λ (e : (Bytes × Bytes) × Entry). is_dead e.1 at in
        shown_first old new it _ (dead_params m from at many) rows shown pointing_table
        t.pointing (λ are. are)
        dead_tests 2 3 (dead_is behind_second indexes_behind_second) (is_good m from at)
        (dead_hits m from at many) (λ q y. Text q.1) (λ n q y. refl)
        many refl
        (λ q p y x found good found' good' tie.
        same_token q p (alike from none q y found good).0 (alike from none p x found' good').0 tie)
        (map token_value (filter test own))
        (rising_tokens m test own (map.entries_sorted (entries_of V m)) (λ e h. (own_there e h).0))
        (λ v h.
        let e = has_mapped token_value (filter test own) v h in
        let kept = has_filtered test own e.0 e.1 in
        let there = own_there e.0 kept.0 in
        let y = points_there are e.0.0 e.0.1 there.1 in (
          e.0.0,
          y.0,
          y.1,
          good_dead from none e.0.0 y.0 y.1 there.0 (there.1 ∙ ap (λ x. Some x) y.2)
              (ap (λ x. is_dead x at) (sym y.2) ∙ kept.1),
          e.2,
        ))
        (λ q y found good.
        let its = alike from none q y found good in
        let e = joined t.cards y in
        mapped_has token_value (filter test own) (q, e)
        (has_kept test own (q, e) (there_own q e (entry_there are q y found) its.0) its.1))
        ∙ taken_tokens many (filter test own)
        ∙ ap (λ t. map text_column (take many (map (λ e. e.0.1) (filter (λ e. is_dead e.1 t) own)))) (sym is)

  few_dead : Sound V → (now : ℕ) → length (dead_tokens V m now) ≤ 1000000
  unfolding dead_tokens
  few_dead sound now =
      let all = sound.made_few m in
      let kept = fewer_kept (λ e. is_dead e.1 (moment_at V m now)) own in
      let counted = map.len-entries (entries_of V m) in
      let listed = length-map (filter (λ (e : (Bytes × Bytes) × Entry). is_dead e.1 (moment_at V m now)) own)
      (λ e. e.0.1) in
      omega (arith, all, kept, counted, listed)

  -- no more than these are dead, so more can't be shown
  pub all_dead : Sound V → (now limit many : ℕ) → many ≡ min 1000000 limit
      → take many (dead_tokens V m now) ≡ take limit (dead_tokens V m now)
  all_dead sound now limit many is = take_enough 1000000 limit many (dead_tokens V m now)
      (few_dead sound now) is

  -- none is dead before the first of them
  pub first_dead : (now many : ℕ) (token : Bytes) (rest : List Bytes)
      → token ∷ rest ≡ take many (dead_tokens V m now) → HasNoDeadBefore V m (moment_at V m now) token
  unfolding dead_tokens
  first_dead now many token rest first other e low found =
      let at = moment_at V m now in
      let test = λ (x : (Bytes × Bytes) × Entry). is_dead x.1 at in
      elim (is_dead e at) as (λ b. is_dead e at ≡ b → b ≡ false) [
        | false ↦ λ live. refl
        | true ↦ λ dead.
            absurd (behind_first many (filter test own)
            (rising_tokens m test own (map.entries_sorted (entries_of V m)) (λ x h. (own_there x h).0))
            token rest first ((m, other), e)
            (has_kept test own ((m, other), e) (there_own (m, other) e found refl) dead) low)
      ] refl

-- ---- tokens that are read from rows

texts_same : (a b : List Bytes) → map Text a ≡ map Text b → a ≡ b
texts_same [] [] same = refl
texts_same [] (y ∷ b) same = cc
texts_same (x ∷ a) [] same = cc
texts_same (x ∷ a) (y ∷ b) same =
    let first : x ≡ y = cc in
    let rest : map Text a ≡ map Text b = cc in
    λ i. first i ∷ texts_same a b rest i

cells_of : (list : List Bytes) → map (λ row. column row 0) (map text_column list) ≡ map Text list
cells_of [] = refl
cells_of (x ∷ list) = ap (λ l. Text x ∷ l) (cells_of list)

pub tokens_read : (rows : List Row) (tokens list : List Bytes)
    → map (λ row. column row 0) rows ≡ map Text tokens → rows ≡ map text_column list → tokens ≡ list
tokens_read rows tokens list read shown =
    texts_same tokens list (sym read ∙ ap (map (λ row. column row 0)) shown ∙ cells_of list)
