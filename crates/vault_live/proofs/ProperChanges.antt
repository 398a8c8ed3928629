-- What makes a sound vault's rights those of a good list is proper.
use Rattle.std.proofs.Common.{◌≡◌, ◌∙◌, ◌⊎◌, ℕ, List, [], ◌∷◌, ◌++◌, true, false, Some, cond, not}
use Rattle.std.proofs.Common.{refl, sym, ap, subst, arith, inl, inr, Less, Greater, T, Ordering, is_eq, is_lt}
use Rattle.std.proofs.Common.{Contains}
use Rattle.std.proofs.lemmas.Bool.{and_parts}
use Rattle.std.specs.Prelude.{IfSome}
use Rattle.std.specs.Cmp.{IsTotalOrder, tied_itself}
use Rattle.std.specs.FinMap as finmap
use Rattle.std.specs.FinMap.Entries.{below_all, find as lookup, is_sorted}
use Rattle.std.specs.List.{AllByRecursion}
use Rattle.std.specs.Ordering.{ordering_reverse}
use Rattle.toml.specs.Data.{Members, get_item, get_member}
use Rattle.vault_core.proofs.Finds.{true-T}
use Rattle.vault_core.proofs.Maps.{right_total}
use Rattle.vault_core.specs.Name.{IsName}
use Rattle.vault_core.specs.Proper.{AllProper}
use Rattle.vault_core.specs.Scalar.{IsMoment}
use Rattle.vault_core.specs.Sound.{Sound}
use Rattle.vault_core.specs.Vault.{Vault as Content}
use Rattle.vault_core.specs.declared.command.Command.{Command}
use Rattle.vault_rights.proofs.Lists.{all-contained}
use Rattle.vault_rights.proofs.Words.{grant-exact}
use Rattle.vault_rights.specs.Items.{grant_of}
use Rattle.vault_rights.specs.Named.{Names, Row}
use Rattle.vault_rights.specs.Proper.{IsProper as IsProperDocument}
use Rattle.vault_changes.specs.Changes.{Held, is_held, is_listed, missing_rows, rights_of}
use Rattle.vault_changes.specs.Changes.{surplus_rights, withdrawals_at}
use Rattle.vault_changes.specs.Grants.{grants_at}
use Rattle.vault_live.specs.Following.{AreRowsIn}
use Rattle.vault_live.specs.Kinds.{rights_changes}

abbrev pub Among : {X : Type 0} → List X → X → Type 0
Among [] x = ⊥
Among (y ∷ ys) x = (x ≡ y) ⊎ Among ys x

below_among : {K X : Type 0} (R : K → K → Ordering) (k : K) (es : List (K × X)) → T (below_all R k es)
    → (e : K × X) → Among es e → R k e.0 ≡ Less
below_among R k [] low e h = absurd h
below_among R k (f ∷ es) low e (inl same) =
    ap (λ x. R k x.0) same ∙ less _ (and_parts _ _ (true-T _ low)).0
  where
    less : (o : Ordering) → is_lt o ≡ true → o ≡ Less
    less o is = grind arith
below_among R k (f ∷ es) low e (inr later) =
    below_among R k es (subst T (sym (and_parts _ _ (true-T _ low)).1) tt) e later

-- what stands among sorted entries is found
pub found_among : {K X : Type 0} {R : K → K → Ordering} → IsTotalOrder R → (es : List (K × X))
    → T (is_sorted R es) → (e : K × X) → Among es e → lookup R e.0 es ≡ Some e.1
found_among total [] sorted e h = absurd h
found_among {R = R} total (f ∷ es) sorted e (inl same) =
    ap (λ o. cond (is_eq o) (Some f.1) (lookup R e.0 es))
    (ap (λ x. R e.0 x.0) (sym same) ∙ tied_itself total e.0) ∙ ap (λ x. Some x.1) (sym same)
found_among {R = R} total (f ∷ es) sorted e (inr later) =
    let parts = and_parts _ _ (true-T _ sorted) in
    let low = below_among R f.0 es (subst T (sym parts.0) tt) e later in
    let over : R e.0 f.0 ≡ Greater = total.antisymm e.0 f.0 ∙ ap ordering_reverse low in
    ap (λ o. cond (is_eq o) (Some f.1) (lookup R e.0 es)) over
    ∙ found_among total es (subst T (sym parts.1) tt) e later

proper_append : (cs ds : List Command) → AllProper cs → AllProper ds → AllProper (cs ++ ds)
proper_append [] ds a b = b
proper_append (c ∷ cs) ds a b = (a.0, proper_append cs ds a.1 b)

-- the first of proper commands are proper
pub proper_first : (cs ds : List Command) → AllProper (cs ++ ds) → AllProper cs
proper_first [] ds a = tt
proper_first (c ∷ cs) ds a = (a.0, proper_first cs ds a.1)

-- the names of a row are names, and its end is a moment
abbrev IsProperRow : Row → Type 0
IsProperRow row = IsName row.0 × IsName row.1 × IfSome row.3 IsMoment

row_proper : (document : Members) → IsProperDocument document → (row : Row) → Names document row
    → IsProperRow row
row_proper document proper row
    (value, found, (members, is_table, (inner, at, (items, is_array, (item, last))))) =
    let caller = proper row.0 value found in
    let same : members ≡ caller.1.0 = cc (is_table, caller.1.1) in
    let merchant = caller.1.2 row.1 inner (subst (λ ms. get_member row.1 ms ≡ Some inner) same at) in
    let listed : items ≡ merchant.1.0 = cc (is_array, merchant.1.1) in
    let grant = merchant.1.2 item.0 (grant_of row.2 row.3)
    (subst (λ xs. get_item item.0 xs ≡ Some (grant_of row.2 row.3)) listed item.1) in (
      caller.0,
      merchant.0,
      subst (λ until. IfSome until IsMoment)
          (sym (grant-exact row.2 grant.0 row.3 grant.1 grant.2).1) grant.3,
    )

rows_proper : (now : ℕ) → IsMoment now → (rows : List Row) → AllByRecursion IsProperRow rows
    → AllProper (grants_at now rows)
rows_proper now moment [] each = tt
rows_proper now moment (row ∷ rows) each =
    let it : IsProperRow row = each.0 in
    ((it.0, it.1, it.2, moment), rows_proper now moment rows each.1)

-- the rights that a proper document names are given by proper commands
pub named_proper : (document : Members) → IsProperDocument document → (now : ℕ) → IsMoment now
    → (rows : List Row) → ((row : Row) → Contains rows row → Names document row)
    → AllProper (grants_at now rows)
named_proper document proper now moment rows named =
    rows_proper now moment rows (all-contained IsProperRow rows
    (λ row inside. row_proper document proper row (named row inside)))

-- grants of some of the rows are proper where those of all are
some_proper : (now : ℕ) (held : List Held) (rows : List Row) → AllProper (grants_at now rows)
    → AllProper (grants_at now (missing_rows rows held))
some_proper now held [] proper = tt
some_proper now held (row ∷ rows) proper =
    let rest = some_proper now held rows proper.1 in
    elim (not (is_held held row)) as (λ b. AllProper (grants_at now (cond b (row ∷ missing_rows rows held)
    (missing_rows rows held)))) [
      | true ↦ (proper.0, rest)
      | false ↦ rest
    ]

-- a right has names
abbrev IsNamed : Held → Type 0
IsNamed it = IsName it.0.0 × IsName it.0.1.0

named_in : (V : Content) → Sound V → (it : Held) → Among (rights_of V) it → IsNamed it
named_in V sound it there =
    let stands = finmap.get-entries V.rights it.0
    ∙ found_among right_total (rights_of V) (finmap.entries_sorted V.rights) it there in
    let right = sound.rights it.0.0 it.0.1.0 it.0.1.1 it.1 stands in
    (right.0, (sound.merchants it.0.1.0 right.1 right.2).name)

withdrawn_proper : (now : ℕ) (rows : List Row) → IsMoment now → (held : List Held)
    → ((it : Held) → Among held it → IsNamed it)
    → AllProper (withdrawals_at now (surplus_rights rows held))
withdrawn_proper now rows moment [] named = tt
withdrawn_proper now rows moment (it ∷ held) named =
    let rest = withdrawn_proper now rows moment held (λ x h. named x (inr h)) in
    let own = named it (inl refl) in
    elim (not (is_listed rows it.0)) as (λ b. AllProper (withdrawals_at now
    (cond b (it ∷ surplus_rights rows held) (surplus_rights rows held)))) [
      | true ↦ ((own.0, own.1, moment), rest)
      | false ↦ rest
    ]

-- what makes a sound vault's rights those of a list is proper, where grants of the list's rows are
pub settled_proper : (now : ℕ) (rows : List Row) (V : Content) → Sound V → IsMoment now
    → AllProper (grants_at now rows) → AllProper (rights_changes now rows V)
settled_proper now rows V sound moment proper =
    proper_append (grants_at now (missing_rows rows (rights_of V)))
    (withdrawals_at now (surplus_rights rows (rights_of V)))
    (some_proper now (rights_of V) rows proper)
    (withdrawn_proper now rows moment (rights_of V) (named_in V sound))

-- the changes of a sound vault, by the rows of a good text, at a moment
pub changes_proper : (text : List ℕ) (rows : List Row) (now : ℕ) (V : Content) → AreRowsIn text rows
    → IsMoment now → Sound V → AllProper (rights_changes now rows V)
changes_proper text rows now V (document, is, proper, list) moment sound =
    settled_proper now rows V sound moment
    (named_proper document proper now moment rows (λ row. (list.1 row).0))
