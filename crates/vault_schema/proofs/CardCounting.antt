-- How many things are so, with one more and with one less.
use Rattle.std.proofs.Common.{◌≡◌, ◌⊎◌, inl, inr, ℕ, suc, List, [], ◌∷◌, length, refl, sym, ap, subst, ◌∙◌}
use Rattle.sqlite_rules.specs.Lists.{Has}
use Rattle.vault_schema.specs.Joined.{AreApart, AreMany}

-- a list without one of its items
record Without {X : Type 0} (xs : List X) (x : X) : Type 0 where
  rest : List X
  shorter : length xs ≡ suc (length rest)
  apart : AreApart rest
  from : (y : X) → Has rest y → Has xs y × (y ≡ x → ⊥)
  there : (y : X) → Has xs y → (y ≡ x) ⊎ Has rest y

without : {X : Type 0} (xs : List X) (x : X) → AreApart xs → Has xs x → Without xs x
without [] x up h = absurd h
without (z ∷ xs) x up (inl same) = record {
  rest = xs;
  shorter = refl;
  apart = up.1;
  from = λ y h. (inr h, λ e. up.0 (subst (Has xs) (e ∙ same) h));
  there = λ y h. elim h [ inl is ↦ inl (is ∙ sym same) | inr later ↦ inr later ];
}
without (z ∷ xs) x up (inr later) =
    let it = without xs x up.1 later in record {
      rest = z ∷ it.rest;
      shorter = ap (λ n. suc n) it.shorter;
      apart = (λ h. up.0 (it.from z h).0, it.apart);
      from = λ y h. elim h [
        | inl is ↦ (inl is, λ e. up.0 (subst (Has xs) (sym e ∙ is) later))
        | inr more ↦ (inr (it.from y more).0, (it.from y more).1)
      ];
      there = λ y h. elim h [
        | inl is ↦ inr (inl is)
        | inr more ↦ elim (it.there y more) [ inl e ↦ inl e | inr kept ↦ inr (inr kept) ]
      ];
    }

module _ {X : Type 0} {Is Is' : X → Type 0} {many : ℕ} (it : AreMany Is many) where
  -- the same things are so
  pub as_many : ((x : X) → Is x → Is' x) → ((x : X) → Is' x → Is x) → AreMany Is' many
  as_many to back = record {
    these = it.these;
    apart = it.apart;
    long = it.long;
    sound = λ x h. to x (it.sound x h);
    complete = λ x is. it.complete x (back x is);
  }

  -- one more
  pub one_more : (k : X) → (Is k → ⊥) → Is' k → ((x : X) → Is x → Is' x) → ((x : X) → Is' x → (x ≡ k) ⊎ Is x)
      → AreMany Is' (suc many)
  one_more k new is to back = record {
    these = k ∷ it.these;
    apart = (λ h. new (it.sound k h), it.apart);
    long = ap (λ n. suc n) it.long;
    sound = λ x h. elim h [ inl e ↦ subst Is' (sym e) is | inr old ↦ to x (it.sound x old) ];
    complete = λ x now. elim (back x now) [ inl e ↦ inl e | inr was ↦ inr (it.complete x was) ];
  }

  -- one less
  pub one_less : (k : X) → Is k → ((x : X) → Is x → (x ≡ k) ⊎ Is' x) → ((x : X) → Is' x → Is x × (x ≡ k → ⊥))
      → (fewer : ℕ) × (many ≡ suc fewer) × AreMany Is' fewer
  one_less k was to back =
      let w = without it.these k it.apart (it.complete k was) in (
        length w.rest,
        sym it.long ∙ w.shorter,
        record {
          these = w.rest;
          apart = w.apart;
          long = refl;
          sound = λ x h.
              let from = w.from x h in
              elim (to x (it.sound x from.0)) [ inl e ↦ absurd (from.1 e) | inr is ↦ is ];
          complete = λ x is.
              let before = back x is in
              elim (w.there x (it.complete x before.0)) [ inl e ↦ absurd (before.1 e) | inr h ↦ h ];
        },
      )

-- nothing is so
pub none_are : {X : Type 0} {Is : X → Type 0} → ((x : X) → Is x → ⊥) → AreMany Is 0
none_are never = record {
  these = [];
  apart = tt;
  long = refl;
  sound = λ x h. absurd h;
  complete = λ x is. never x is;
}

pub none_is : {X : Type 0} {Is : X → Type 0} → AreMany Is 0 → (x : X) → Is x → ⊥
none_is {X = X} it x is = go it.these it.long (it.complete x is)
  where
    go : (xs : List X) → length xs ≡ 0 → Has xs x → ⊥
    go [] e h = h
    go (y ∷ xs) e h = cc
