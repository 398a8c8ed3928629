-- Rights that are made those of a list are these, and no others are left.
use Rattle.std.proofs.Common.{◌≡◌, ◌||◌, ◌∙◌, ℕ, Bool, true, false, cond, not, List, [], ◌∷◌}
use Rattle.std.proofs.Common.{◌++◌, length, find, Option, Some, None, inl, inr, refl}
use Rattle.std.proofs.Common.{arith, sym, ap, ap₂, subst, suc, zero, Less, Equal, Greater, Ordering, Contains}
use Rattle.std.proofs.lemmas.Bool.{and_parts}
use Rattle.std.specs.Cmp.{tied_itself}
use Rattle.std.specs.FinMap as fin
use Rattle.std.specs.FinMap.Entries.{find as lookup}
use Rattle.std.specs.List.{AllByRecursion, list_any}
use Rattle.std.specs.List.Sorted.{IsStrictlySortedBy}
use Rattle.std.specs.Option.{option_map, option_map_or}
use Rattle.std.specs.Ordering.{eq_by_cmp, is_eq, ordering_reverse}
use Rattle.sqlite_rules.specs.Lists.{Has}
use Rattle.vault_core.proofs.Maps.{right_exact, right_total, tied}
use Rattle.vault_core.specs.Keys.{right_cmp}
use Rattle.vault_core.specs.Merchants.{granting, withdrawal}
use Rattle.vault_core.specs.Outcome.{Outcome, plain_refusal}
use Rattle.vault_core.specs.Refusals.{no_merchant}
use Rattle.vault_core.specs.Runs.{run}
use Rattle.vault_core.specs.Table.{after, reply}
use Rattle.vault_core.specs.Vault.{Merchant, Vault as Content, merchant_at}
use Rattle.vault_core.specs.declared.command.Command.{Command}
use Rattle.vault_core.specs.declared.command.Command.TheVariants.{Grant, Withdraw}
use Rattle.vault_core.specs.declared.reply.Reply.TheVariants as answer
use Rattle.vault_core.specs.declared.row.GrantRow.{GrantRow}
use Rattle.vault_core.specs.Keys.{Bytes}
use Rattle.vault_core.specs.declared.right.Right.{Right}
use Rattle.vault_rights.specs.Named.{Names, Row, row_cmp}
use Rattle.vault_live.specs.Following.{AreRowsIn}
use Rattle.vault_sql.proofs.Dead.{has_found}
use Rattle.vault_changes.specs.Changes.{Held, Key, changes_at, is_as_listed, is_held, is_listed, is_same_end}
use Rattle.vault_changes.specs.Changes.{missing_rows, right_of, rights_of, surplus_rights, withdrawals_at}
use Rattle.vault_changes.specs.Grants.{AreDone, grants_at}
use Rattle.vault_promise.proofs.PipedMessages.{run_append}
use Rattle.vault_promise.specs.Exact.{AreRights, AreRightsIn, RightsBecomeExact, listed_end}

-- ---- keys

abbrev same : Key → Key → Bool
same a b = eq_by_cmp right_cmp a b

same_itself : (a : Key) → same a a ≡ true
same_itself a = ap is_eq (tied_itself right_total a)

-- what isn't said to differ is the same
are_same : (a b : Key) → same a b ≡ true → a ≡ b
are_same a b is = elim (tied right_exact a b) [ inl equal ↦ equal | inr apart ↦ absurd (cc (is, apart)) ]

turned : (o : Ordering) → is_eq (ordering_reverse o) ≡ is_eq o
turned Less = refl
turned Equal = refl
turned Greater = refl

same_turned : (a b : Key) → same a b ≡ same b a
same_turned a b = ap is_eq (right_total.antisymm a b) ∙ turned (right_cmp b a)

-- ---- what commands leave at a right

-- the end of the last row that gives it, or what was there
abbrev given : Key → List Row → Option GrantRow → Option GrantRow
given k [] o = o
given k (row ∷ rows) o = given k rows (cond (same k (right_of row)) (Some (record { ends = row.3 })) o)

-- nothing, where it is withdrawn
abbrev taken : Key → List Held → Option GrantRow → Option GrantRow
taken k [] o = o
taken k (it ∷ held) o = taken k held (cond (same k it.0) None o)

-- each of the commands is done
abbrev EachDone : List Command → Content → Type 0
EachDone [] V = Unit {0}
EachDone (c ∷ cs) V = (reply V c ≡ answer.Done) × EachDone cs (after V c)

each_done : (cs : List Command) (V : Content) → AreDone (length cs) cs V → EachDone cs V
each_done [] V done = tt
each_done (c ∷ cs) V done = (cc done, each_done cs (after V c) (cc done))

done_first : (cs ds : List Command) (V : Content) → EachDone (cs ++ ds) V
    → EachDone cs V × EachDone ds (run cs V)
done_first [] ds V done = (tt, done)
done_first (c ∷ cs) ds V done =
    let rest = done_first cs ds (after V c) done.1 in
    ((done.0, rest.0), rest.1)

granted_one : (V : Content) (row : Row) (now : ℕ) (k : Key)
    → reply V (Grant row.0 row.1 row.2 row.3 now) ≡ answer.Done
    → fin.get (after V (Grant row.0 row.1 row.2 row.3 now)).rights k
    ≡ cond (same k (right_of row)) (Some (record { ends = row.3 })) (fin.get V.rights k)
granted_one V row now k = by_merchant (merchant_at V row.1)
  where
    outcome : Option Merchant → Outcome
    outcome o = option_map_or (granting V (right_of row) row.3 now) o (plain_refusal V no_merchant)

    by_merchant : (o : Option Merchant) → (outcome o).reply ≡ answer.Done
        → fin.get (outcome o).after.rights k
        ≡ cond (same k (right_of row)) (Some (record { ends = row.3 })) (fin.get V.rights k)
    by_merchant None done = absurd (cc done)
    by_merchant (Some merchant) done =
        fin.get-insert right_total V.rights (right_of row) (record { ends = row.3 }) k

withdrawn_one : (V : Content) (it : Held) (now : ℕ) (k : Key)
    → reply V (Withdraw it.0.0 it.0.1.0 it.0.1.1 now) ≡ answer.Done
    → fin.get (after V (Withdraw it.0.0 it.0.1.0 it.0.1.1 now)).rights k
    ≡ cond (same k it.0) None (fin.get V.rights k)
withdrawn_one V it now k = by_merchant (merchant_at V it.0.1.0)
  where
    outcome : Option Merchant → Outcome
    outcome o = option_map_or (withdrawal V it.0.0 it.0.1.0 it.0.1.1 now) o (plain_refusal V no_merchant)

    by_merchant : (o : Option Merchant) → (outcome o).reply ≡ answer.Done
        → fin.get (outcome o).after.rights k ≡ cond (same k it.0) None (fin.get V.rights k)
    by_merchant None done = absurd (cc done)
    by_merchant (Some merchant) done = fin.get-remove right_total V.rights it.0 k

granted_all : (now : ℕ) (rows : List Row) (V : Content) (k : Key) → EachDone (grants_at now rows) V
    → fin.get (run (grants_at now rows) V).rights k ≡ given k rows (fin.get V.rights k)
granted_all now [] V k done = refl
granted_all now (row ∷ rows) V k done =
    granted_all now rows (after V (Grant row.0 row.1 row.2 row.3 now)) k done.1
    ∙ ap (given k rows) (granted_one V row now k done.0)

withdrawn_all : (now : ℕ) (held : List Held) (V : Content) (k : Key) → EachDone (withdrawals_at now held) V
    → fin.get (run (withdrawals_at now held) V).rights k ≡ taken k held (fin.get V.rights k)
withdrawn_all now [] V k done = refl
withdrawn_all now (it ∷ held) V k done =
    withdrawn_all now held (after V (Withdraw it.0.0 it.0.1.0 it.0.1.1 now)) k done.1
    ∙ ap (taken k held) (withdrawn_one V it now k done.0)

-- ---- a right that isn't listed

either_false : (a b : Bool) → (a || b) ≡ false → (a ≡ false) × (b ≡ false)
either_false false false h = (refl, refl)
either_false false true h = absurd (cc h)
either_false true b h = absurd (cc h)

given_none : (rows : List Row) (held : List Held) (k : Key) (o : Option GrantRow) → is_listed rows k ≡ false
    → given k (missing_rows rows held) o ≡ o
given_none [] held k o none = refl
given_none (row ∷ rows) held k o none =
    let parts = either_false _ _ none in
    let rest = given_none rows held k o parts.1 in
    let other : same k (right_of row) ≡ false = same_turned k (right_of row) ∙ parts.0 in
    elim (not (is_held held row)) as (λ b. given k (cond b (row ∷ missing_rows rows held)
    (missing_rows rows held)) o ≡ o) [
      | true ↦ ap (λ b. given k (missing_rows rows held) (cond b (Some (record { ends = row.3 })) o)) other
          ∙ rest
      | false ↦ rest
    ]

taken_none : (held : List Held) (k : Key) → taken k held None ≡ None
taken_none [] k = refl
taken_none (it ∷ held) k =
    elim (same k it.0) as (λ b. taken k held (cond b None None) ≡ None) [
      | true ↦ taken_none held k
      | false ↦ taken_none held k
    ]

taken_gone : (rows : List Row) (held : List Held) (k : Key) (g : GrantRow) (o : Option GrantRow)
    → is_listed rows k ≡ false → lookup right_cmp k held ≡ Some g
    → taken k (surplus_rights rows held) o ≡ None
taken_gone rows [] k g o none found = absurd (cc found)
taken_gone rows (it ∷ held) k g o none found =
    elim (same k it.0) as (λ b. same k it.0 ≡ b → cond b (Some it.1) (lookup right_cmp k held) ≡ Some g
    → taken k (surplus_rights rows (it ∷ held)) o ≡ None) [
      | true ↦ λ is found.
          let unlisted : not (is_listed rows it.0) ≡ true =
          ap (λ key. not (is_listed rows key)) (sym (are_same k it.0 is)) ∙ ap not none in
          ap (λ b. taken k (cond b (it ∷ surplus_rights rows held) (surplus_rights rows held)) o) unlisted
          ∙ ap (λ b. taken k (surplus_rights rows held) (cond b None o)) is
          ∙ taken_none (surplus_rights rows held) k
      | false ↦ λ is found.
          let rest = taken_gone rows held k g o none found in
          elim (not (is_listed rows it.0)) as (λ b. taken k (cond b (it ∷ surplus_rights rows held)
          (surplus_rights rows held)) o ≡ None) [
            | true ↦ ap (λ b. taken k (surplus_rights rows held) (cond b None o)) is ∙ rest
            | false ↦ rest
          ]
    ] refl found

-- ---- a right that is listed

taken_kept : (rows : List Row) (held : List Held) (k : Key) (o : Option GrantRow) → is_listed rows k ≡ true
    → taken k (surplus_rights rows held) o ≡ o
taken_kept rows [] k o listed = refl
taken_kept rows (it ∷ held) k o listed =
    let rest = taken_kept rows held k o listed in
    elim (not (is_listed rows it.0)) as (λ b. not (is_listed rows it.0) ≡ b
    → taken k (cond b (it ∷ surplus_rights rows held) (surplus_rights rows held)) o ≡ o) [
      | true ↦ λ is. elim (tied right_exact k it.0) [
        | inl equal ↦ absurd (let it : not (is_listed rows k) ≡ true =
            ap (λ key. not (is_listed rows key)) equal ∙ is in
            cc (it, listed))
        | inr apart ↦ ap (λ b. taken k (surplus_rights rows held) (cond b None o)) apart ∙ rest
      ]
      | false ↦ λ is. rest
    ] refl

-- no later row lists the right of the first
listed_once : (row : Row) (rows : List Row) (k : Key) → right_of row ≡ k
    → AllByRecursion (λ y. row_cmp row y ≡ Less) rows → is_listed rows k ≡ false
listed_once row [] k is below = refl
listed_once row (y ∷ rows) k is below =
    let here : same (right_of y) k ≡ false =
    same_turned (right_of y) k ∙ ap (λ key. same key (right_of y)) (sym is) ∙ ap is_eq below.0 in
    let rest = listed_once row rows k is below.1 in
    rw (here, rest) refl

given_found : (rows : List Row) (held : List Held) (k : Key) (o : Option GrantRow) (r : Row)
    → IsStrictlySortedBy row_cmp rows → find (λ row. same (right_of row) k) rows ≡ Some r
    → given k (missing_rows rows held) o ≡ cond (is_held held r) o (Some (record { ends = r.3 }))
unfolding IsStrictlySortedBy
given_found [] held k o r sorted found = absurd (cc found)
given_found (row ∷ rows) held k o r sorted found =
    elim (same (right_of row) k) as (λ b. same (right_of row) k ≡ b
    → cond b (Some row) (find (λ row. same (right_of row) k) rows) ≡ Some r
    → given k (missing_rows (row ∷ rows) held) o ≡ cond (is_held held r) o (Some (record { ends = r.3 }))) [
      | true ↦ λ is found.
          let first : row ≡ r = cc found in
          let later = listed_once row rows k (are_same (right_of row) k is) sorted.0 in
          let own : same k (right_of row) ≡ true = same_turned k (right_of row) ∙ is in
          let at_row : given k (missing_rows (row ∷ rows) held) o
          ≡ cond (is_held held row) o (Some (record { ends = row.3 })) =
          elim (is_held held row) as (λ b. given k (cond (not b) (row ∷ missing_rows rows held)
          (missing_rows rows held)) o ≡ cond b o (Some (record { ends = row.3 }))) [
            | true ↦ given_none rows held k o later
            | false ↦ ap
                (λ b. given k (missing_rows rows held) (cond b (Some (record { ends = row.3 })) o)) own
                ∙ given_none rows held k (Some (record { ends = row.3 })) later
          ] in
          at_row ∙ ap (λ (x : Row). cond (is_held held x) o (Some (record { ends = x.3 }))) first
      | false ↦ λ is found.
          let rest = given_found rows held k o r sorted.1 found in
          let other : same k (right_of row) ≡ false = same_turned k (right_of row) ∙ is in
          elim (not (is_held held row)) as (λ b. given k (cond b (row ∷ missing_rows rows held)
          (missing_rows rows held)) o ≡ cond (is_held held r) o (Some (record { ends = r.3 }))) [
            | true ↦ ap
                (λ b. given k (missing_rows rows held) (cond b (Some (record { ends = row.3 })) o)) other
                ∙ rest
            | false ↦ rest
          ]
    ] refl found

-- the row that is found lists the right
found_lists : (rows : List Row) (k : Key) (r : Row) → find (λ row. same (right_of row) k) rows ≡ Some r
    → (right_of r ≡ k) × (is_listed rows k ≡ true)
found_lists [] k r found = absurd (cc found)
found_lists (row ∷ rows) k r found =
    elim (same (right_of row) k) as (λ b. same (right_of row) k ≡ b
    → cond b (Some row) (find (λ row. same (right_of row) k) rows) ≡ Some r
    → (right_of r ≡ k) × ((b || is_listed rows k) ≡ true)) [
      | true ↦ λ is found.
          let first : row ≡ r = cc found in
          (ap right_of (sym first) ∙ are_same (right_of row) k is, refl)
      | false ↦ λ is found. found_lists rows k r found
    ] refl found

none_lists : (rows : List Row) (k : Key) → find (λ row. same (right_of row) k) rows ≡ None
    → is_listed rows k ≡ false
none_lists [] k none = refl
none_lists (row ∷ rows) k none =
    elim (same (right_of row) k) as (λ b. cond b (Some row) (find (λ row. same (right_of row) k) rows) ≡ None
    → (b || is_listed rows k) ≡ false) [
      | true ↦ λ none. absurd (cc none)
      | false ↦ λ none. none_lists rows k none
    ] none

-- one that passes a test
any_found : {X : Type 0} (p : X → Bool) (xs : List X) → list_any p xs ≡ true
    → (x : X) × Has xs x × (p x ≡ true)
any_found p [] any = absurd (cc any)
any_found p (x ∷ xs) any =
    elim (p x) as (λ b. p x ≡ b → (b || list_any p xs) ≡ true → (y : _) × Has (x ∷ xs) y × (p y ≡ true)) [
      | true ↦ λ is any. (x, inl refl, is)
      | false ↦ λ is any. let it = any_found p xs any in (it.0, inr it.1, it.2)
    ] refl any

same_ends : (a b : Option ℕ) → is_same_end a b ≡ true → a ≡ b
same_ends None None is = refl
same_ends (Some a) (Some b) is = ap Some (grind (arith, is))
same_ends None (Some b) is = absurd (cc is)
same_ends (Some a) None is = absurd (cc is)

-- a right that is held as listed stands in the vault with that end
held_end : (V : Content) (r : Row) → is_held (rights_of V) r ≡ true
    → option_map (λ g. g.ends) (fin.get V.rights (right_of r)) ≡ Some r.3
held_end V r held =
    let it = any_found (λ h. is_as_listed h r) (rights_of V) held in
    let parts = and_parts _ _ it.2 in
    let stands : fin.get V.rights it.0.0 ≡ Some it.0.1 = fin.get-entries V.rights it.0.0
    ∙ has_found right_total (rights_of V) (fin.entries_sorted V.rights) it.0 it.1 in
    ap (λ key. option_map (λ g. g.ends) (fin.get V.rights key)) (sym (are_same it.0.0 (right_of r) parts.0))
    ∙ ap (option_map (λ g. g.ends)) stands ∙ ap Some (same_ends it.0.1.ends r.3 parts.1)

module _ (now : ℕ) (rows : List Row) (V : Content) (sorted : IsStrictlySortedBy row_cmp rows)
    (done : AreDone (length (changes_at true now rows (rights_of V)))
    (changes_at true now rows (rights_of V)) V)
    (k : Key) where
  abbrev held : List Held
  held = rights_of V

  abbrev was : Option GrantRow
  was = fin.get V.rights k

  -- what is at the right afterwards
  left_at : fin.get (run (changes_at true now rows held) V).rights k
      ≡ taken k (surplus_rights rows held) (given k (missing_rows rows held) was)
  left_at =
      let gs = grants_at now (missing_rows rows held) in
      let ws = withdrawals_at now (surplus_rights rows held) in
      let each = done_first gs ws V (each_done (gs ++ ws) V done) in
      ap (λ (W : Content). fin.get W.rights k) (run_append gs ws V)
      ∙ withdrawn_all now (surplus_rights rows held) (run gs V) k each.1
      ∙ ap (taken k (surplus_rights rows held)) (granted_all now (missing_rows rows held) V k each.0)

  -- is what the list says
  is_listed_end : option_map (λ g. g.ends)
      (taken k (surplus_rights rows held) (given k (missing_rows rows held) was)) ≡ listed_end rows k
  is_listed_end = by_row (find (λ row. same (right_of row) k) rows) refl
    where
      by_was : is_listed rows k ≡ false → (o : Option GrantRow) → was ≡ o
          → taken k (surplus_rights rows held) was ≡ None
      by_was none None is =
          ap (taken k (surplus_rights rows held)) is ∙ taken_none (surplus_rights rows held) k
      by_was none (Some g) is =
          taken_gone rows held k g was none (sym (fin.get-entries V.rights k) ∙ is)

      by_held : (r : Row) → right_of r ≡ k → (b : Bool) → is_held held r ≡ b
          → option_map (λ g. g.ends) (cond b was (Some (record { ends = r.3 }))) ≡ Some r.3
      by_held r key true is =
          ap (λ q. option_map (λ g. g.ends) (fin.get V.rights q)) (sym key) ∙ held_end V r is
      by_held r key false is = refl

      by_row : (o : Option Row) → find (λ row. same (right_of row) k) rows ≡ o → option_map (λ g. g.ends)
          (taken k (surplus_rights rows held) (given k (missing_rows rows held) was))
          ≡ option_map (λ row. row.3) o
      by_row None is =
          let none = none_lists rows k is in
          ap (λ o. option_map (λ g. g.ends) (taken k (surplus_rights rows held) o))
          (given_none rows held k was none)
          ∙ ap (option_map (λ g. g.ends)) (by_was none was refl)
      by_row (Some r) is =
          let lists = found_lists rows k r is in
          ap (option_map (λ g. g.ends)) (taken_kept rows held k _ lists.1)
          ∙ ap (option_map (λ g. g.ends)) (given_found rows held k was r sorted is)
          ∙ by_held r lists.0 (is_held held r) refl

exact_rows : (now : ℕ) (rows : List Row) (V : Content) → IsStrictlySortedBy row_cmp rows
    → AreDone (length (changes_at true now rows (rights_of V))) (changes_at true now rows (rights_of V)) V
    → AreRights rows (run (changes_at true now rows (rights_of V)) V)
exact_rows now rows V sorted done caller m right =
    ap (option_map (λ g. g.ends)) (left_at now rows V sorted done (caller, (m, right)))
    ∙ is_listed_end now rows V sorted done (caller, (m, right))

-- ---- what a text names

-- the row that is found is one
found_in : (rows : List Row) (k : Key) (r : Row) → find (λ row. same (right_of row) k) rows ≡ Some r
    → Contains rows r
found_in [] k r found = absurd (cc found)
found_in (row ∷ rows) k r found =
    elim (same (right_of row) k) as (λ b. cond b (Some row) (find (λ row. same (right_of row) k) rows) ≡ Some r
    → Contains (row ∷ rows) r) [
      | true ↦ λ found. (0, omega arith, cc found)
      | false ↦ λ found.
          let rest = found_in rows k r found in (suc rest.0, omega (arith, rest.1), rest.2)
    ] found

-- and each row is found by its right
found_by : (rows : List Row) (r : Row) → IsStrictlySortedBy row_cmp rows → Contains rows r
    → find (λ row. same (right_of row) (right_of r)) rows ≡ Some r
unfolding IsStrictlySortedBy
found_by [] r sorted (k, below, is) = absurd (omega (arith, below))
found_by (row ∷ rows) r sorted (zero, below, is) =
    let own : same (right_of row) (right_of r) ≡ true =
    ap (λ (x : Row). same (right_of row) (right_of x)) (sym is) ∙ same_itself (right_of row) in
    ap (λ b. cond b (Some row) (find (λ row. same (right_of row) (right_of r)) rows)) own ∙ ap Some is
found_by (row ∷ rows) r sorted (suc k, below, is) =
    let rest = found_by rows r sorted.1 (k, omega (arith, below), is) in
    elim (same (right_of row) (right_of r)) as (λ b. same (right_of row) (right_of r) ≡ b
    → cond b (Some row) (find (λ row. same (right_of row) (right_of r)) rows) ≡ Some r) [
      | true ↦ λ own. absurd (let once = listed_once row rows (right_of row) refl sorted.0 in
          let twice : is_listed rows (right_of row) ≡ true =
          ap (is_listed rows) (are_same (right_of row) (right_of r) own) ∙ (found_lists rows (right_of r) r rest).1 in
          cc (once, twice))
      | false ↦ λ other. rest
    ] refl

text_rights : (text : List ℕ) (rows : List Row) (V : Content) → AreRowsIn text rows → AreRights rows V
    → AreRightsIn text V
text_rights text rows V (document, is, proper, (sorted, lists)) are = (
  document,
  is,
  λ caller m right until. (
    λ stands. named caller m right until (find (λ row. same (right_of row) (caller, (m, right))) rows) refl
        (sym (are caller m right) ∙ stands),
    λ names. are caller m right
        ∙ ap (option_map (λ row. row.3))
        (found_by rows (caller, m, right, until) sorted ((lists (caller, m, right, until)).1 names)),
  ),
)
  where
    named : (caller m : Bytes) (right : Right) (until : Option ℕ) (o : Option Row)
        → find (λ row. same (right_of row) (caller, (m, right))) rows ≡ o
        → option_map (λ row. row.3) o ≡ Some until → Names document (caller, m, right, until)
    named caller m right until None found ends = absurd (cc ends)
    named caller m right until (Some r) found ends =
        let key = (found_lists rows (caller, (m, right)) r found).0 in
        let end : r.3 ≡ until = cc ends in
        let whole : r ≡ (caller, m, right, until) =
        ap₂ (λ (k : Key) (e : Option ℕ). (k.0, k.1.0, k.1.1, e)) key end in
        subst (Names document) whole ((lists r).0 (found_in rows (caller, (m, right)) r found))

pub rights_become_exact : RightsBecomeExact
rights_become_exact = (exact_rows, text_rights)
