-- Look-ups in the members of a table.
use Rattle.std.proofs.Common.{◌≡◌, ◌⊎◌, ◌↔◌, List, [], ◌∷◌, ◌++◌, Option, Some, String, Global}
use Rattle.std.proofs.Common.{string_bytes, refl, sym, ap, ◌∙◌, subst, inl, inr, Less, Equal, Greater}
use Rattle.std.proofs.lemmas.Map.Lookups.{exact_bytes}
use Rattle.std.specs.Cmp.{tied_itself}
use Rattle.std.specs.Cmp.Lexicographic.{nat_list_cmp_total}
use Rattle.std.specs.List.{AllByRecursion}
use Rattle.std.specs.List.Sorted.{IsStrictlySortedBy}
use Rattle.std.specs.Map.{keys_of}
use Rattle.std.specs.Ordering.{match_ordering, ordering_reverse}
use Rattle.std.specs.String.{string_cmp}
use Rattle.toml.specs.Data.{Data, Members, no_members, member, get_member}
use Rattle.toml.specs.View.{view, members_view}
use Rattle.toml.proofs.Views.{Entry}
use Rattle.vault_core.specs.Keys.{Bytes, bytes_cmp}
use Rattle.vault_rights.specs.Faults.{IsFirstFault}
use Rattle.vault_rights.specs.Named.{Row, row_cmp, IsExtendedBy}
use Rattle.vault_rights.specs.Proper.{EachMember}
use Rattle.vault_rights.proofs.Lists.{extended-join, extended-same}

abbrev pub Ascend : List Entry → Type 0
Ascend es = IsStrictlySortedBy string_cmp (keys_of es)

-- the key is this one, or it is looked for further on
pub at-or-on : (k l : Bytes)
    → (k ≡ l) ⊎ ((x : Option Data) (y : Data) → match_ordering (bytes_cmp k l) x (Some y) x ≡ x)
at-or-on k l =
    elim (bytes_cmp k l) as
    (λ r. bytes_cmp k l ≡ r → (k ≡ l)
    ⊎ ((x : Option Data) (y : Data) → match_ordering r x (Some y) x ≡ x)) [
      | Less ↦ λ e. inr (λ x y. refl)
      | Equal ↦ λ e. inl (exact_bytes k l e)
      | Greater ↦ λ e. inr (λ x y. refl)
    ] refl

-- a key finds what stands first at it
pub here : (k l : Bytes) (d : Data) (ms : Members) → k ≡ l → get_member k (member l d ms) ≡ Some d
here k l d ms same = rw (same, tied_itself nat_list_cmp_total l) refl

middle-above : (first : String Global) (es : List Entry) (e : Entry) (more : List Entry)
    → AllByRecursion (λ y. string_cmp first y ≡ Less) (keys_of (es ++ e ∷ more)) → string_cmp first e.0 ≡ Less
middle-above first [] e more h = h.0
middle-above first (x ∷ es) e more h = middle-above first es e more h.1

pub key-below : (done : List Entry) (e : Entry) (more : List Entry) (k : Bytes) (d : Data)
    → Ascend (done ++ e ∷ more)
    → get_member k (members_view done) ≡ Some d → bytes_cmp k (string_bytes e.0) ≡ Less
unfolding IsStrictlySortedBy
key-below [] e more k d h found = cc
key-below (x ∷ done) e more k d h found =
    elim (at-or-on k (string_bytes x.0)) [
      | inl same ↦ ap (λ t. bytes_cmp t (string_bytes e.0)) same ∙ middle-above x.0 done e more h.0
      | inr on ↦ key-below done e more k d h.1 (sym (on _ _) ∙ found)
    ]

key-above : (first : String Global) (es : List Entry) (k : Bytes) (d : Data)
    → AllByRecursion (λ y. string_cmp first y ≡ Less) (keys_of es) → get_member k (members_view es) ≡ Some d
    → bytes_cmp (string_bytes first) k ≡ Less
key-above first [] k d h found = cc
key-above first (x ∷ es) k d h found =
    elim (at-or-on k (string_bytes x.0)) [
      | inl same ↦ ap (bytes_cmp (string_bytes first)) same ∙ h.0
      | inr on ↦ key-above first es k d h.1 (sym (on _ _) ∙ found)
    ]

pub found-at : (done : List Entry) (e : Entry) (more : List Entry) → Ascend (done ++ e ∷ more)
    → get_member (string_bytes e.0) (members_view (done ++ e ∷ more)) ≡ Some (view e.1)
unfolding IsStrictlySortedBy
found-at [] e more h = here (string_bytes e.0) (string_bytes e.0) (view e.1) (members_view more) refl
found-at (x ∷ done) e more h =
    let above : bytes_cmp (string_bytes e.0) (string_bytes x.0) ≡ Greater =
    nat_list_cmp_total.antisymm (string_bytes e.0) (string_bytes x.0)
    ∙ ap ordering_reverse (middle-above x.0 done e more h.0) in
    rw above (found-at done e more h.1)

pub found-early : (done rest : List Entry) (k : Bytes) (d : Data) → get_member k (members_view done) ≡ Some d
    → get_member k (members_view (done ++ rest)) ≡ Some d
found-early [] rest k d found = cc
found-early (x ∷ done) rest k d found =
    elim (at-or-on k (string_bytes x.0)) [
      | inl same ↦ here k (string_bytes x.0) (view x.1) (members_view (done ++ rest)) same
          ∙ sym (here k (string_bytes x.0) (view x.1) (members_view done) same) ∙ found
      | inr on ↦ on _ _ ∙ found-early done rest k d (sym (on _ _) ∙ found)
    ]

pub some_same : {X : Type 0} {a b : X} → Some a ≡ Some b → a ≡ b
some_same h = cc

pub found-cases : (done : List Entry) (e : Entry) (k : Bytes) (d : Data)
    → get_member k (members_view (done ++ e ∷ [])) ≡ Some d
    → (get_member k (members_view done) ≡ Some d) ⊎ ((k ≡ string_bytes e.0) × (view e.1 ≡ d))
found-cases [] e k d found =
    elim (at-or-on k (string_bytes e.0)) [
      | inl same ↦ inr (same, some_same (sym (here k (string_bytes e.0) (view e.1) no_members same) ∙ found))
      | inr on ↦ inl (sym (on _ _) ∙ found)
    ]
found-cases (x ∷ done) e k d found =
    elim (at-or-on k (string_bytes x.0)) [
      | inl same ↦ inl (here k (string_bytes x.0) (view x.1) (members_view done) same
          ∙ sym (here k (string_bytes x.0) (view x.1) (members_view (done ++ e ∷ [])) same) ∙ found)
      | inr on ↦ elim (found-cases done e k d (sym (on _ _) ∙ found)) [
        | inl early ↦ inl (on _ _ ∙ early)
        | inr last ↦ inr last
      ]
    ]

pub found-before : (done : List Entry) (e : Entry) (more : List Entry) (k : Bytes) (d : Data)
    → Ascend (done ++ e ∷ more)
    → bytes_cmp k (string_bytes e.0) ≡ Less → get_member k (members_view (done ++ e ∷ more)) ≡ Some d
    → get_member k (members_view done) ≡ Some d
unfolding IsStrictlySortedBy
found-before [] e more k d h below found =
    let later : get_member k (members_view more) ≡ Some d =
    sym (ap (λ r. match_ordering r (get_member k (members_view more)) (Some (view e.1))
    (get_member k (members_view more))) below)
    ∙ found in
    let above = key-above e.0 more k d h.0 later in
    let round = nat_list_cmp_total.trans k (string_bytes e.0) k below above in
    let level = tied_itself nat_list_cmp_total k in
    cc
found-before (x ∷ done) e more k d h below found =
    elim (at-or-on k (string_bytes x.0)) [
      | inl same ↦ here k (string_bytes x.0) (view x.1) (members_view done) same
          ∙ sym (here k (string_bytes x.0) (view x.1) (members_view (done ++ e ∷ more)) same) ∙ found
      | inr on ↦ on _ _ ∙ found-before done e more k d h.1 below (sym (on _ _) ∙ found)
    ]

-- P of each entry
abbrev pub EachEntry : (Bytes → Data → Type 0) → List Entry → Type 0
EachEntry P es = AllByRecursion (λ (e : Entry). P (string_bytes e.0) (view e.1)) es

pub each-member : (P : Bytes → Data → Type 0) (es : List Entry) → EachEntry P es
    → EachMember P (members_view es)
each-member P [] h key value found = cc
each-member P (x ∷ es) h key value found =
    elim (at-or-on key (string_bytes x.0)) [
      | inl same ↦
          let at = some_same (sym (here key (string_bytes x.0) (view x.1) (members_view es) same) ∙ found) in
          subst (λ (t : Bytes × Data). P t.0 t.1) (λ i. (sym same i, at i)) h.0
      | inr on ↦ each-member P es h.1 key value (sym (on _ _) ∙ found)
    ]

pub first-fault : {F : Type 0} (Good : Bytes → Data → Type 0) (Bad : Bytes → Data → F → Type 0)
    (done : List Entry) (e : Entry)
    (more : List Entry) (fault : F) → Ascend (done ++ e ∷ more) → EachEntry Good done
    → Bad (string_bytes e.0) (view e.1) fault → IsFirstFault Good Bad (members_view (done ++ e ∷ more)) fault
first-fault Good Bad done e more fault h good bad = (
  string_bytes e.0,
  view e.1,
  found-at done e more h,
  bad,
  λ before earlier below found. each-member Good done good before earlier
      (found-before done e more before earlier h below found),
)

-- a row at one of the members
abbrev pub HasRow : (Row → Bytes) → (Data → Row → Type 0) → Members → Row → Type 0
HasRow key W members row = (value : Data) × (get_member (key row) members ≡ Some value) × W value row

ascend-cut-below : (first : String Global) (es : List Entry) (e : Entry) (more : List Entry)
    → AllByRecursion (λ y. string_cmp first y ≡ Less) (keys_of (es ++ e ∷ more))
    → AllByRecursion (λ y. string_cmp first y ≡ Less) (keys_of (es ++ e ∷ []))
ascend-cut-below first [] e more h = (h.0, tt)
ascend-cut-below first (x ∷ es) e more h = (h.0, ascend-cut-below first es e more h.1)

ascend-cut : (es : List Entry) (x : Entry) (rest : List Entry) → Ascend (es ++ x ∷ rest)
    → Ascend (es ++ x ∷ [])
unfolding IsStrictlySortedBy
ascend-cut [] x rest s = (tt, tt)
ascend-cut (y ∷ es) x rest s = (ascend-cut-below y.0 es x rest s.0, ascend-cut es x rest s.1)

alone : (es : List Entry) (x : Entry) (rest : List Entry) (k : Bytes) → Ascend (es ++ x ∷ rest)
    → k ≡ string_bytes x.0
    → get_member k (members_view (es ++ x ∷ [])) ≡ Some (view x.1)
alone es x rest k s at =
    ap (λ t. get_member t (members_view (es ++ x ∷ []))) at ∙ found-at es x [] (ascend-cut es x rest s)

-- the rows of one more member
pub rows-more : (key : Row → Bytes) (W : Data → Row → Type 0) (Q : Row → Type 0) (done : List Entry)
    (e : Entry) (more : List Entry)
    (before middle after : List Row) → Ascend (done ++ e ∷ more)
    → IsExtendedBy (HasRow key W (members_view done)) before middle
    → IsExtendedBy Q middle after
    → ((row : Row) → Q row ↔ ((key row ≡ string_bytes e.0) × W (view e.1) row))
    → ((a b : Row) (c d : Data) → bytes_cmp (key a) (key b) ≡ Less → W c a → W d b → row_cmp a b ≡ Less)
    → IsExtendedBy (HasRow key W (members_view (done ++ e ∷ []))) before after
rows-more key W Q done e more before middle after h first second says below =
    extended-same _ _ before after
    (extended-join _ _ before middle after first second
    (λ a b p q.
    let (at, w) = (says b).0 q in
    let less = key-below done e more (key a) p.0 h p.1 in
    below a b p.0 (view e.1) (ap (bytes_cmp (key a)) at ∙ less) p.2 w))
    (λ row. (
      λ s. elim s [
        | inl p ↦ (p.0, found-early done (e ∷ []) (key row) p.0 p.1, p.2)
        | inr q ↦
            let (at, w) = (says row).0 q in
            (view e.1, alone done e more (key row) h at, w)
      ],
      λ r. elim (found-cases done e (key row) r.0 r.1) [
        | inl p ↦ inl (r.0, p, r.2)
        | inr q ↦ inr ((says row).1 (q.0, subst (λ d. W d row) (sym q.1) r.2))
      ],
    ))
