-- The last of the keys of an index up to the end of a number's places.
use Rattle.std.proofs.Common.{◌≡◌, ◌≤◌, Bool, true, false, Option, Some, None, Ok, Err, List, [], ◌∷◌}
use Rattle.std.proofs.Common.{◌++◌, refl, sym, ap, ◌∙◌, subst, arith}
use Rattle.std.specs.Prelude.{IfSome, IfNone}
use Rattle.std.specs.BTreeSet as keys
use Rattle.std.specs.Cmp.{tied_itself}
use Rattle.std.specs.Ordering.{ordering_then, is_lt}
use Rattle.std.specs.Result.{result_ok}
use Rattle.std.specs.declared.cmp.Ordering.{Ordering}
use Rattle.std.specs.declared.cmp.Ordering.TheVariants.{Less, Equal, Greater}
use Rattle.std.specs.declared.ops.Bound.TheVariants.{Excluded, Unbounded}
use Rattle.std.proofs.lemmas.Bool.Decides.{nat_tests}
use Rattle.vault_core.specs.Keys.{Bytes, bytes_cmp}
use Rattle.vault_core.proofs.Maps.{bytes_total, bytes_exact}
use Rattle.vault_store.specs.Index.{Place, key_at, number_cmp, place_cmp}
use Rattle.vault_store.specs.declared.memory.index.NumberKey.{NumberKey}
use Rattle.vault_store.proofs.IndexLemmas.{Mark, mark_cmp, ok_same}

pub not_true : (b : Bool) → ¬ (b ≡ true) → b ≡ false
not_true true never = absurd (never refl)
not_true false never = refl

pub on_none : {X P : Type 0} (o : Option X) → P → IfNone o P
on_none None p = p
on_none (Some x) p = tt

-- the end of a number's places
abbrev pub end_of : Bytes → Bytes → NumberKey
end_of m pan = record { merchant = m; number = pan; place = Err tt }

-- each place of the number is before it
pub before_end : (m pan : Bytes) (place : Place) → number_cmp (key_at m pan place) (end_of m pan) ≡ Less
before_end m pan place =
    ap (λ r. ordering_then r (ordering_then (bytes_cmp pan pan) Less)) (tied_itself bytes_total m)
    ∙ ap (λ r. ordering_then r Less) (tied_itself bytes_total pan)

-- what lies between two of a kind is of that kind
between : (r s t : Ordering) → ordering_then r s ≡ Less → is_lt (ordering_then r t) ≡ false
    → (r ≡ Equal) × (s ≡ Less) × (is_lt t ≡ false)
between Less s t h g = cc
between Equal s t h g = (refl, h, g)
between Greater s t h g = cc

later : (x y : Place) → is_lt (place_cmp x y) ≡ false → y.0 ≤ x.0
later x y h = grind (arith, nat_tests)

last_place : (a : Mark) (other : Place) → mark_cmp a (Err tt) ≡ Less → is_lt (mark_cmp a (Ok other)) ≡ false
    → (place : Place) × (a ≡ Ok place) × (other.0 ≤ place.0)
last_place (Ok place) other h g = (place, refl, later place other g)
last_place (Err e) other h g = cc

-- a key of the number, whose place ends no earlier than another
pub record IsLater (m pan : Bytes) (other : Place) (k : NumberKey) : Type 0 where
  pub merchant : k.merchant ≡ m
  pub number : k.number ≡ pan
  pub place : Place
  pub is : k.place ≡ Ok place
  pub ends : other.0 ≤ place.0

is_later : (k : NumberKey) (m pan : Bytes) (other : Place) → number_cmp k (end_of m pan) ≡ Less
    → is_lt (number_cmp k (key_at m pan other)) ≡ false → IsLater m pan other k
is_later k m pan other h g =
    let owner = between (bytes_cmp k.merchant m) _ _ h g in
    let number = between (bytes_cmp k.number pan) _ _ owner.1 owner.2 in
    let place = last_place k.place other number.1 number.2 in
    record {
      merchant = bytes_exact k.merchant m owner.0;
      number = bytes_exact k.number pan number.0;
      place = place.0;
      is = place.1;
      ends = place.2;
    }

module _ (s : keys.BTreeSet NumberKey) (m pan : Bytes) (r : List NumberKey)
    (range : keys.IsKeyRangeOf number_cmp Unbounded (Excluded (end_of m pan)) s r) where
  -- nothing of the number is there
  pub empty-none : r ≡ [] → (place : Place) → keys.contains number_cmp s (key_at m pan place) ≡ false
  empty-none none place = range.5 none (key_at m pan place) (tt, before_end m pan place)

  module _ (t : List NumberKey) (k : NumberKey) (last : r ≡ t ++ k ∷ []) where
    pub last-later : (other : Place) → keys.contains number_cmp s (key_at m pan other) ≡ true
        → IsLater m pan other k
    last-later other there =
        is_later k m pan other (range.3 k t last).0.1
        (range.4 k t last (key_at m pan other) (tt, before_end m pan other) there)

    module _ (o : Option Place) (is : o ≡ result_ok k.place) where
      -- the last key is one of the number
      pub last-there : k.merchant ≡ m → k.number ≡ pan
          → IfSome o (λ place. keys.contains number_cmp s (key_at m pan place) ≡ true)
      last-there merchant number =
          subst (λ (x : Option Place). IfSome x (λ place.
          keys.contains number_cmp s (key_at m pan place) ≡ true))
          (sym is) (by_place k.place refl)
        where
          by_place : (a : Mark) → k.place ≡ a
              → IfSome (result_ok a) (λ place. keys.contains number_cmp s (key_at m pan place) ≡ true)
          by_place (Ok x) e =
              let same : k ≡ key_at m pan x =
              λ i. record { merchant = merchant i; number = number i; place = e i } in
              ap (keys.contains number_cmp s) (sym same) ∙ (range.3 k t last).1
          by_place (Err x) e = tt

      pub last-latest : IfSome o (λ place. (other : Place)
          → keys.contains number_cmp s (key_at m pan other) ≡ true → other.0 ≤ place.0)
      last-latest =
          subst (λ (x : Option Place). IfSome x (λ place. (other : Place)
          → keys.contains number_cmp s (key_at m pan other) ≡ true → other.0 ≤ place.0))
          (sym is) (by_place k.place refl)
        where
          by_place : (a : Mark) → k.place ≡ a
              → IfSome (result_ok a) (λ place. (other : Place)
              → keys.contains number_cmp s (key_at m pan other) ≡ true → other.0 ≤ place.0)
          by_place (Ok x) e = λ other there.
              let l = last-later other there in
              subst (λ (p : Place). other.0 ≤ p.0) (ok_same (sym l.is ∙ e)) l.ends
          by_place (Err x) e = tt

      pub last-none : IfNone o ((place : Place) → keys.contains number_cmp s (key_at m pan place) ≡ false)
      last-none =
          subst (λ (x : Option Place). IfNone x ((place : Place)
          → keys.contains number_cmp s (key_at m pan place) ≡ false))
          (sym is) (by_place k.place refl)
        where
          by_place : (a : Mark) → k.place ≡ a
              → IfNone (result_ok a) ((place : Place)
              → keys.contains number_cmp s (key_at m pan place) ≡ false)
          by_place (Ok x) e = tt
          by_place (Err x) e = λ place.
              not_true _ (λ there.
              let l = last-later place there in
              let apart = sym l.is ∙ e in cc)
