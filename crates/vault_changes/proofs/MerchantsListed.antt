-- Merchants of a list that were set are there.
use Rattle.std.proofs.Common.{◌≡◌, ◌∙◌, ◌⊎◌, ℕ, List, [], ◌∷◌, Bool, true, false, not, cond, Option}
use Rattle.std.proofs.Common.{Some, None}
use Rattle.std.proofs.Common.{ap, map, refl, sym, subst, nat_lt, inl, inr, length, is_some, arith, is_eq}
use Rattle.std.proofs.Common.{is_lt}
use Rattle.std.proofs.Common.{Less, Greater, T, Ordering, ◌==◌, ◌&&◌}
use Rattle.std.proofs.lemmas.Bool.{and_parts}
use Rattle.std.proofs.lemmas.Bool.Decides.{nat_tests}
use Rattle.std.specs.Cmp.{IsTotalOrder, tied_itself}
use Rattle.std.specs.FinMap as fin
use Rattle.std.specs.FinMap.Entries.{below_all, find as lookup, is_sorted}
use Rattle.std.specs.List.{AllByRecursion, list_any}
use Rattle.std.specs.Ordering.{eq_by_cmp, ordering_reverse}
use Rattle.vault_pan.specs.Mask.{lead_digits}
use Rattle.vault_pan.specs.declared.lead.Lead.{Lead}
use Rattle.vault_pan.specs.declared.lead.Lead.TheVariants.{Six, Eight}
use Rattle.vault_core.proofs.Finds.{true-T}
use Rattle.vault_core.proofs.Maps.{bytes_exact, bytes_total, get-insert_other, get-insert_same, tied, untied}
use Rattle.vault_core.specs.Keys.{Bytes, bytes_cmp}
use Rattle.vault_core.specs.Lives.{handed_lives, new_merchant}
use Rattle.vault_core.specs.Merchants.{set_from, set_to}
use Rattle.vault_core.specs.Outcome.{Outcome, plain_refusal}
use Rattle.vault_core.specs.Refusals.{too_many_merchants}
use Rattle.vault_core.specs.Runs.{run}
use Rattle.vault_core.specs.Table.{after, reply}
use Rattle.vault_core.specs.Vault.{Merchant, Vault as Content, merchant_at}
use Rattle.vault_core.specs.Window.{row_of}
use Rattle.vault_core.specs.declared.command.Command.{Command}
use Rattle.vault_core.specs.declared.limit.TheConstants.{MOST_MERCHANTS}
use Rattle.vault_core.specs.declared.reply.Reply.TheVariants as answer
use Rattle.vault_store.specs.Listed.{merchant_rows}
use Rattle.vault_changes.specs.Grants.{AreDone}
use Rattle.vault_changes.specs.MerchantsListed.{AreApart, HasMerchant, IsOther, KeepsMerchants}
use Rattle.vault_changes.specs.MerchantsListed.{MerchantsBecomeListed}
use Rattle.vault_changes.specs.Settings.{Named, is_set, missing_merchants, setting_at, settings_at, stands_in}
use Rattle.vault_merchants.specs.ListedMerchants.{Wanted}

-- ---- what is held

abbrev Among : {X : Type 0} → List X → X → Type 0
Among [] x = ⊥
Among (y ∷ ys) x = (x ≡ y) ⊎ Among ys x

below_among : {K X : Type 0} (R : K → K → Ordering) (k : K) (es : List (K × X)) → T (below_all R k es)
    → (e : K × X) → Among es e → R k e.0 ≡ Less
below_among R k [] low e h = absurd h
below_among R k (f ∷ es) low e (inl same) =
    ap (λ x. R k x.0) same ∙ less _ (and_parts _ _ (true-T _ low)).0
  where
    less : (o : Ordering) → is_lt o ≡ true → o ≡ Less
    less o is = grind arith
below_among R k (f ∷ es) low e (inr later) =
    below_among R k es (subst T (sym (and_parts _ _ (true-T _ low)).1) tt) e later

found_among : {K X : Type 0} {R : K → K → Ordering} → IsTotalOrder R → (es : List (K × X))
    → T (is_sorted R es) → (e : K × X) → Among es e → lookup R e.0 es ≡ Some e.1
found_among total [] sorted e h = absurd h
found_among {R = R} total (f ∷ es) sorted e (inl same) =
    ap (λ o. cond (is_eq o) (Some f.1) (lookup R e.0 es))
    (ap (λ x. R e.0 x.0) (sym same) ∙ tied_itself total e.0) ∙ ap (λ x. Some x.1) (sym same)
found_among {R = R} total (f ∷ es) sorted e (inr later) =
    let parts = and_parts _ _ (true-T _ sorted) in
    let low = below_among R f.0 es (subst T (sym parts.0) tt) e later in
    let over : R e.0 f.0 ≡ Greater = total.antisymm e.0 f.0 ∙ ap ordering_reverse low in
    ap (λ o. cond (is_eq o) (Some f.1) (lookup R e.0 es)) over
    ∙ found_among total es (subst T (sym parts.1) tt) e later

same_lead : (a b : Lead) → lead_digits a ≡ lead_digits b → a ≡ b
same_lead Six Six h = refl
same_lead Six Eight h = absurd (omega (arith, h))
same_lead Eight Six h = absurd (omega (arith, h))
same_lead Eight Eight h = refl

-- one that passes is among them
passing : {X Y : Type 0} (f : X → Y) (p : Y → Bool) (es : List X) → list_any p (map f es) ≡ true
    → (e : X) × Among es e × (p (f e) ≡ true)
passing f p [] h = absurd (cc h)
passing f p (e ∷ es) h =
    elim (p (f e)) as (λ b. p (f e) ≡ b → (x : _) × Among (e ∷ es) x × (p (f x) ≡ true)) [
      | true ↦ λ is. (e, inl refl, is)
      | false ↦ λ is.
          let it : list_any p (map f (e ∷ es)) ≡ list_any p (map f es) = rw is refl in
          let rest = passing f p es (sym it ∙ h) in
          (rest.0, inr rest.1, rest.2)
    ] refl

-- a merchant that stands as the list has it
stands : (V : Content) (row : Wanted) → stands_in (merchant_rows V) row ≡ true → HasMerchant V row
stands V row is =
    let it = passing (λ (e : Bytes × Merchant). (e.0, row_of V e.0 e.1)) (λ held. is_set held row)
    (fin.entries V.merchants) is in
    let e : Bytes × Merchant = it.0 in
    let a : Bool = eq_by_cmp bytes_cmp e.0 row.0 in
    let b : Bool = e.1.single_life == row.1 in
    let c : Bool = e.1.multi_life == row.2 in
    let d : Bool = lead_digits e.1.lead == lead_digits row.3 in
    let first : (a ≡ true) × (b && (c && d) ≡ true) = and_parts a (b && (c && d)) it.2 in
    let second : (b ≡ true) × (c && d ≡ true) = and_parts b (c && d) first.1 in
    let third : (c ≡ true) × (d ≡ true) = and_parts c d second.1 in
    let single_is : (e.1.single_life == row.1) ≡ true = second.0 in
    let multi_is : (e.1.multi_life == row.2) ≡ true = third.0 in
    let lead_is : (lead_digits e.1.lead == lead_digits row.3) ≡ true = third.1 in
    let named : e.0 ≡ row.0 = elim (tied bytes_exact e.0 row.0) [
      | inl same ↦ same
      | inr apart ↦ absurd (let yes : eq_by_cmp bytes_cmp e.0 row.0 ≡ true = first.0 in cc (yes, apart))
    ] in
    let found : merchant_at V e.0 ≡ Some e.1 = fin.get-entries V.merchants e.0
    ∙ found_among bytes_total (fin.entries V.merchants) (fin.entries_sorted V.merchants) e it.1 in
    record {
      merchant = e.1;
      there = ap (merchant_at V) (sym named) ∙ found;
      single = grind (arith, nat_tests, single_is);
      multi = grind (arith, nat_tests, multi_is);
      lead = same_lead e.1.lead row.3 (grind (arith, nat_tests, lead_is));
    }

-- ---- what is set

-- each of the commands is done
abbrev EachDone : List Command → Content → Type 0
EachDone [] V = Unit {0}
EachDone (c ∷ cs) V = (reply V c ≡ answer.Done) × EachDone cs (after V c)

each_done : (cs : List Command) (V : Content) → AreDone (length cs) cs V → EachDone cs V
each_done [] V done = tt
each_done (c ∷ cs) V done = (cc done, each_done cs (after V c) (cc done))

-- one that is set is there, and the others are as they were
record IsSetIn (V W : Content) (row : Wanted) : Type 0 where
  has : HasMerchant W row
  others : (m : Bytes) → ¬ (m ≡ row.0) → merchant_at W m ≡ merchant_at V m

module _ (now : ℕ) (row : Wanted) (V : Content) where
  abbrev outcome : Option Merchant → Outcome
  outcome found = set_from V row.0 (handed_lives row.1 row.2 row.3 now) found

  set_as : (x : Merchant) → x.single_life ≡ row.1 → x.multi_life ≡ row.2 → x.lead ≡ row.3
      → IsSetIn V (set_to V row.0 x).after row
  set_as x a b c = record {
    has = record {
      merchant = x;
      there = get-insert_same bytes_total bytes_exact V.merchants row.0 x;
      single = a;
      multi = b;
      lead = c;
    };
    others = λ m apart. get-insert_other bytes_total bytes_exact V.merchants row.0 x m
        (untied bytes_exact m row.0 apart);
  }

  by_found : (found : Option Merchant) → (outcome found).reply ≡ answer.Done
      → IsSetIn V (outcome found).after row
  by_found (Some old) done = set_as _ refl refl refl
  by_found None done = by_room (nat_lt (fin.len V.merchants) MOST_MERCHANTS) done
    where
      made : Bool → Outcome
      made b = cond b (set_to V row.0 (new_merchant (handed_lives row.1 row.2 row.3 now)))
          (plain_refusal V too_many_merchants)

      by_room : (b : Bool) → (made b).reply ≡ answer.Done → IsSetIn V (made b).after row
      by_room true done = set_as _ refl refl refl
      by_room false done = absurd (cc done)

  set_one : reply V (setting_at now row) ≡ answer.Done → IsSetIn V (after V (setting_at now row)) row
  set_one done = by_found (merchant_at V row.0) done

moved : (V W : Content) (row : Wanted) → merchant_at W row.0 ≡ merchant_at V row.0 → HasMerchant V row
    → HasMerchant W row
moved V W row same it = record {
  merchant = it.merchant;
  there = same ∙ it.there;
  single = it.single;
  multi = it.multi;
  lead = it.lead;
}

-- the merchants of the rows are in the one vault as in the other
abbrev Agree : Content → Content → List Wanted → Type 0
Agree V W rows = AllByRecursion (λ (row : Wanted). merchant_at W row.0 ≡ merchant_at V row.0) rows

-- they agree still, where others were set
agree_still : (V W U : Content) (m : Bytes) (rows : List Wanted)
    → ((n : Bytes) → ¬ (n ≡ m) → merchant_at U n ≡ merchant_at W n) → IsOther rows m → Agree V W rows
    → Agree V U rows
agree_still V W U m [] others apart agree = tt
agree_still V W U m (row ∷ rows) others (first, apart) (same, agree) =
    (others row.0 (λ is. first (sym is)) ∙ same, agree_still V W U m rows others apart agree)

record AreSet (W U : Content) (rows : List Wanted) : Type 0 where
  all : AllByRecursion (HasMerchant U) rows
  others : (m : Bytes) → IsOther rows m → merchant_at U m ≡ merchant_at W m
  kept : KeepsMerchants W U

module _ (now : ℕ) (V : Content) where
  abbrev held : List Named
  held = merchant_rows V

  abbrev commands : Bool → Wanted → List Wanted → List Command
  commands b row rows = map (λ r. setting_at now r)
      (cond (not b) (row ∷ missing_merchants rows held) (missing_merchants rows held))

  are_set : (rows : List Wanted) (W : Content) → Agree V W rows → AreApart rows
      → EachDone (settings_at now rows held) W → AreSet W (run (settings_at now rows held) W) rows
  are_set [] W agree apart done = record { all = tt; others = λ m other. refl; kept = λ m there. there }
  are_set (row ∷ rows) W (same, agree) (other, apart) done =
      elim (stands_in held row) as (λ b. stands_in held row ≡ b → EachDone (commands b row rows) W
      → AreSet W (run (commands b row rows) W) (row ∷ rows)) [
        | true ↦ λ is done.
            let rest = are_set rows W agree apart done in
            let U : Content = run (settings_at now rows held) W in
            record {
              all = (
                moved W U row (rest.others row.0 other) (moved V W row same (stands V row is)),
                rest.all,
              );
              others = λ m apart_from. rest.others m apart_from.1;
              kept = rest.kept;
            }
        | false ↦ λ is done.
            let one = set_one now row W done.0 in
            let X : Content = after W (setting_at now row) in
            let rest = are_set rows X (agree_still V W X row.0 rows one.others other agree) apart done.1 in
            let U : Content = run (settings_at now rows held) X in
            record {
              all = (moved X U row (rest.others row.0 other) one.has, rest.all);
              others = λ m apart_from. rest.others m apart_from.1 ∙ one.others m apart_from.0;
              kept = λ m there. rest.kept m (elim (tied bytes_exact m row.0) [
                | inl named ↦ ap (λ n. is_some (merchant_at X n)) named ∙ ap is_some one.has.there
                | inr differ ↦ ap is_some (one.others m (λ named.
                    let yes =
                    ap (λ n. eq_by_cmp bytes_cmp m n) (sym named)
                    ∙ ap is_eq (tied_itself bytes_total m) in
                    cc (yes, differ))) ∙ there
              ]);
            }
      ] refl done

agree_itself : (V : Content) (rows : List Wanted) → Agree V V rows
agree_itself V [] = tt
agree_itself V (row ∷ rows) = (refl, agree_itself V rows)

pub merchants_listed : MerchantsBecomeListed
merchants_listed now rows V apart done =
    let it = are_set now V rows V (agree_itself V rows) apart
    (each_done (settings_at now rows (merchant_rows V)) V done) in
    (it.all, it.kept)
