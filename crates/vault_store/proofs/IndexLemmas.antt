-- The index of multi-use tokens after an entry's key was put in, or taken out.
use Rattle.std.proofs.Common.{◌≡◌, Bool, true, false, cond, Option, Some, None, Result, Ok, Err, ◌&&◌}
use Rattle.std.proofs.Common.{◌⊎◌, inl, inr, refl, sym, ap, ◌∙◌, []}
use Rattle.std.specs.Prelude.{is_none, option_map, if◌then◌else◌}
use Rattle.std.specs.BTreeSet as keys
use Rattle.std.specs.BTreeMap.{is_at}
use Rattle.std.specs.FinMap as map
use Rattle.std.specs.List.{list_any}
use Rattle.std.specs.Cmp.{tied_itself, nat_cmp_total, on_total, then_total}
use Rattle.std.specs.Ordering.{nat_cmp, ordering_then, eq_by_cmp, is_eq}
use Rattle.std.specs.Result.{result_cmp}
use Rattle.std.specs.declared.cmp.Ordering.{Ordering}
use Rattle.std.specs.declared.cmp.Ordering.TheVariants.{Equal}
use Rattle.std.proofs.lemmas.Map.Lookups.{exact_pairs, exact_unsigned}
use Rattle.vault_core.specs.Keys.{Bytes, bytes_cmp, entry_cmp}
use Rattle.vault_core.specs.Repeats.{same_use}
use Rattle.vault_core.specs.declared.row.Entry.{Entry}
use Rattle.vault_core.specs.declared.usage.Use.TheVariants.{Multi}
use Rattle.vault_core.proofs.Finds.{some_same}
use Rattle.vault_core.proofs.Maps.{bytes_total, bytes_exact, entry_total, entry_exact, tied, get-insert_same}
use Rattle.vault_core.proofs.Maps.{get-insert_other, get-insert_cases}
use Rattle.vault_store.specs.Index.{Place, Indexes, key_at, number_cmp, number_key, place_cmp}
use Rattle.vault_store.specs.declared.memory.index.NumberKey.{NumberKey}

-- whether a place is there, or the end of all places
abbrev pub Mark : Type 0
Mark = Result Place (Unit {0})

abbrev pub mark_cmp : Mark → Mark → Ordering
mark_cmp a b = result_cmp place_cmp (λ _ _. Equal) a b

mark_exact : map.IsAntisymmetric mark_cmp
mark_exact (Ok x) (Ok y) h = ap Ok (exact_pairs nat_cmp bytes_cmp exact_unsigned bytes_exact x y h)
mark_exact (Ok x) (Err e) h = cc
mark_exact (Err e) (Ok y) h = cc
mark_exact (Err e) (Err d) h = refl

mark_itself : (a : Mark) → mark_cmp a a ≡ Equal
mark_itself (Ok x) =
    let by_end = on_total (λ (p : Place). p.0) nat_cmp_total in
    let by_token = on_total (λ (p : Place). p.1) bytes_total in
    tied_itself (then_total by_end by_token) x
mark_itself (Err e) = refl

-- keys that tie are the same
pub number_exact : map.IsAntisymmetric number_cmp
number_exact a b h =
    ap (λ (p : Bytes × (Bytes × Mark)). record { merchant = p.0; number = p.1.0; place = p.1.1 })
    (exact_pairs bytes_cmp (λ (x y : Bytes × Mark). ordering_then (bytes_cmp x.0 y.0) (mark_cmp x.1 y.1))
    bytes_exact (exact_pairs bytes_cmp mark_cmp bytes_exact mark_exact)
    (a.merchant, (a.number, a.place)) (b.merchant, (b.number, b.place)) h)

-- a key ties with itself
number_itself : (k : NumberKey) → number_cmp k k ≡ Equal
number_itself k =
    ap (λ r. ordering_then r (ordering_then (bytes_cmp k.number k.number) (mark_cmp k.place k.place)))
    (tied_itself bytes_total k.merchant)
    ∙ ap (λ r. ordering_then r (mark_cmp k.place k.place)) (tied_itself bytes_total k.number)
    ∙ mark_itself k.place

-- what a key says of its entry
pub record IsKeyOf (m token : Bytes) (entry : Entry) (key : NumberKey) : Type 0 where
  pub passes : (same_use entry.usage Multi && is_none entry.revoked) ≡ true
  pub number : entry.number ≡ Some key.number
  pub is : key_at m key.number (entry.expires, token) ≡ key

pub key_of : (m token : Bytes) (entry : Entry) (key : NumberKey) → number_key m token entry ≡ Some key
    → IsKeyOf m token entry key
key_of m token entry key =
    by_test (same_use entry.usage Multi && is_none entry.revoked) entry.number refl refl
  where
    by_test : (b : Bool) (number : Option Bytes)
        → (same_use entry.usage Multi && is_none entry.revoked) ≡ b → entry.number ≡ number
        → (if b then option_map (λ pan. key_at m pan (entry.expires, token)) number else None) ≡ Some key
        → IsKeyOf m token entry key
    by_test false number test has h = cc
    by_test true None test has h = cc
    by_test true (Some pan) test has h =
        let e = some_same h in
        let n : pan ≡ key.number = ap (λ (k : NumberKey). k.number) e in
        record {
          passes = test;
          number = has ∙ ap Some n;
          is = sym (ap (λ n. key_at m n (entry.expires, token)) n) ∙ e;
        }

pub ok_same : {a b : Place} → ◌≡◌ {A = Result Place (Unit {0})} (Ok a) (Ok b) → a ≡ b
ok_same h = cc

-- a key is that of one token of one merchant
same_owner : (m m' token token' : Bytes) (entry entry' : Entry) (key : NumberKey)
    → IsKeyOf m token entry key → IsKeyOf m' token' entry' key
    → ◌≡◌ {A = Bytes × Bytes} (m', token') (m, token)
same_owner m m' token token' entry entry' key h h' =
    let both = h'.is ∙ sym h.is in
    let owner : m' ≡ m = ap (λ (k : NumberKey). k.merchant) both in
    let place = ok_same (ap (λ (k : NumberKey). k.place) both) in
    λ i. (owner i, (place i).1)

pub clash : {A : Type 0} (b : Bool) → b ≡ true → b ≡ false → A
clash b holds fails = let e = sym holds ∙ fails in cc

none_some : {A X : Type 0} {x : X} (o : Option X) → o ≡ None → o ≡ Some x → A
none_some o none some = let e = sym none ∙ some in cc

module _ (old new : keys.BTreeSet NumberKey) (F : map.FinMap entry_cmp Entry) (at : Bytes × Bytes)
    (entry : Entry) where
  -- an entry was put in at a new token: its key, if it has one, is in the index with those that were
  pub indexes-put : map.get F at ≡ None
      → ((k : NumberKey) → keys.contains number_cmp old k ≡ true → keys.contains number_cmp new k ≡ true)
      → ((k : NumberKey) → number_key at.0 at.1 entry ≡ Some k → keys.contains number_cmp new k ≡ true)
      → ((k : NumberKey) → keys.contains number_cmp new k ≡ true
      → (number_key at.0 at.1 entry ≡ Some k) ⊎ (keys.contains number_cmp old k ≡ true))
      → Indexes old F → Indexes new (map.insert F at entry)
  indexes-put absent stay come from h = record {
    each = λ m token e k found is.
        elim (get-insert_cases entry_total entry_exact F at entry (m, token) e found) [
          | inl same ↦
              come k
              (sym (λ i. number_key (same.0 i).0 (same.0 i).1 (same.1 i)) ∙ is)
          | inr other ↦ stay k (h.each m token e k other.1 is)
        ];
    only = λ k there.
        elim (from k there) [
          | inl own ↦
              let is = (key_of at.0 at.1 entry k own).is in
              let merchant : at.0 ≡ k.merchant = ap (λ (x : NumberKey). x.merchant) is in (
                at.1,
                entry,
                ap (λ (x : Bytes). map.get (map.insert F at entry) (x, at.1)) (sym merchant)
                    ∙ get-insert_same entry_total entry_exact F at entry,
                ap (λ (x : Bytes). number_key x at.1 entry) (sym merchant) ∙ own,
              )
          | inr was ↦
              let x = h.only k was in (
                x.0,
                x.1,
                elim (tied entry_exact (k.merchant, x.0) at) [
                  | inl same ↦ none_some (map.get F at) absent (ap (map.get F) (sym same) ∙ x.2)
                  | inr apart ↦
                      get-insert_other entry_total entry_exact F at entry (k.merchant, x.0) apart ∙ x.2
                ],
                x.3,
              )
        ];
  }

  -- the entry at a token was taken out, with its key, if it had one
  pub indexes-taken : map.get F at ≡ Some entry
      → ((k : NumberKey) → keys.contains number_cmp new k ≡ true
      → (keys.contains number_cmp old k ≡ true) × ¬ (number_key at.0 at.1 entry ≡ Some k))
      → ((k : NumberKey) → keys.contains number_cmp old k ≡ true
      → ¬ (number_key at.0 at.1 entry ≡ Some k) → keys.contains number_cmp new k ≡ true)
      → Indexes old F → Indexes new (map.remove F at)
  indexes-taken there from stay h = record {
    each = λ m token e k found is.
        elim (tied entry_exact (m, token) at) [
          | inl same ↦
              none_some (map.get (map.remove F at) at)
              (map.get-remove entry_total F at at
              ∙ ap (λ r. cond (is_eq r) None (map.get F at)) (tied_itself entry_total at))
              (ap (map.get (map.remove F at)) (sym same) ∙ found)
          | inr apart ↦
              stay k
              (h.each m token e k
              (sym (map.get-remove entry_total F at (m, token)
              ∙ ap (λ b. cond b None (map.get F (m, token))) apart) ∙ found) is)
              (λ own.
              let here = key_of at.0 at.1 entry k own in
              let same = same_owner at.0 m at.1 token entry e k here (key_of m token e k is) in
              clash (eq_by_cmp entry_cmp (m, token) at)
              (ap (λ (x : Bytes × Bytes). eq_by_cmp entry_cmp x at) same
              ∙ ap is_eq (tied_itself entry_total at)) apart)
        ];
    only = λ k left.
        let was = from k left in
        let x = h.only k was.0 in (
          x.0,
          x.1,
          elim (tied entry_exact (k.merchant, x.0) at) [
            | inl same ↦
                let is : x.1 ≡ entry = some_same (sym x.2 ∙ ap (map.get F) same ∙ there) in
                absurd (was.1 (sym (λ i. number_key (same i).0 (same i).1 (is i)) ∙ x.3))
            | inr apart ↦
                map.get-remove entry_total F at (k.merchant, x.0)
                ∙ ap (λ b. cond b None (map.get F (k.merchant, x.0))) apart ∙ x.2
          ],
          x.3,
        );
  }

-- how a set changes at a key
pub record ChangesAt (old new : keys.BTreeSet NumberKey) (key : NumberKey) (now : Bool) : Type 0 where
  pub there : keys.contains number_cmp new key ≡ now
  pub others : (q : NumberKey) → eq_by_cmp number_cmp key q ≡ false
      → keys.contains number_cmp new q ≡ keys.contains number_cmp old q

module _ (old new : keys.BTreeSet NumberKey) (F : map.FinMap entry_cmp Entry) (at : Bytes × Bytes)
    (entry : Entry) where
  -- the key of a new entry was put in
  pub indexes-put_key : (key : NumberKey) → number_key at.0 at.1 entry ≡ Some key
      → ChangesAt old new key true
      → map.get F at ≡ None → Indexes old F → Indexes new (map.insert F at entry)
  indexes-put_key key is change absent =
      indexes-put old new F at entry absent
      (λ k was.
      elim (tied number_exact key k) [
        | inl same ↦ ap (keys.contains number_cmp new) (sym same) ∙ change.there
        | inr apart ↦ change.others k apart ∙ was
      ])
      (λ k own. ap (keys.contains number_cmp new) (some_same (sym own ∙ is)) ∙ change.there)
      (λ k now.
      elim (tied number_exact key k) [
        | inl same ↦ inl (is ∙ ap Some same)
        | inr apart ↦ inr (sym (change.others k apart) ∙ now)
      ])

  -- the key of an entry was taken out
  pub indexes-taken_key : (key : NumberKey) → number_key at.0 at.1 entry ≡ Some key
      → ChangesAt old new key false
      → map.get F at ≡ Some entry → Indexes old F → Indexes new (map.remove F at)
  indexes-taken_key key is change there =
      indexes-taken old new F at entry there
      (λ k now.
      elim (tied number_exact key k) [
        | inl same ↦
            clash (keys.contains number_cmp new k) now
            (ap (keys.contains number_cmp new) (sym same) ∙ change.there)
        | inr apart ↦ (
          sym (change.others k apart) ∙ now,
          λ own. clash (eq_by_cmp number_cmp key k) (tie key k (some_same (sym is ∙ own))) apart,
        )
      ])
      (λ k was not_own.
      elim (tied number_exact key k) [
        | inl same ↦ absurd (not_own (is ∙ ap Some same))
        | inr apart ↦ change.others k apart ∙ was
      ])
    where
      tie : (a b : NumberKey) → a ≡ b → eq_by_cmp number_cmp a b ≡ true
      tie a b e = ap (λ x. eq_by_cmp number_cmp x b) e ∙ ap is_eq (number_itself b)

module _ (index : keys.BTreeSet NumberKey) (F : map.FinMap entry_cmp Entry) (at : Bytes × Bytes)
    (entry : Entry) (none : number_key at.0 at.1 entry ≡ None) where
  -- an entry that has no key was put in, or taken out
  pub indexes-put_none : map.get F at ≡ None → Indexes index F → Indexes index (map.insert F at entry)
  indexes-put_none absent =
      indexes-put index index F at entry absent (λ k was. was)
      (λ k own. none_some (number_key at.0 at.1 entry) none own) (λ k now. inr now)

  pub indexes-taken_none : map.get F at ≡ Some entry → Indexes index F → Indexes index (map.remove F at)
  indexes-taken_none there =
      indexes-taken index index F at entry there
      (λ k now. (now, λ own. none_some (number_key at.0 at.1 entry) none own)) (λ k was not_own. was)

-- an index with nothing in it is that of no entries
pub indexes-empty : (index : keys.BTreeSet NumberKey) → index.keys ≡ [] → Indexes index map.empty
indexes-empty index none = record {
  each = λ m token entry key found is.
      none_some (map.get map.empty (m, token)) (map.get-empty entry_cmp (m, token)) found;
  only = λ key there.
      clash (keys.contains number_cmp index key) there (ap (list_any (is_at (number_cmp key))) none);
}
