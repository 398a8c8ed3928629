-- Units that are answered, one part of them after another.
use Rattle.std.proofs.Common.{◌≡◌, ℕ, List, [], ◌∷◌, ◌++◌, refl, sym, ap, ◌∙◌, append_assoc, append-nil}
use Rattle.std.proofs.Common.{arith, inl, inr}
use Rattle.std.proofs.lemmas.List.{map-append}
use Rattle.vault_core.specs.Vault.{Vault as Content}
use Rattle.vault_core.specs.declared.reply.Reply.{Reply}
use Rattle.vault_engine.specs.Answered.{Answered, AnsweredBefore, units_of}
use Rattle.vault_engine.specs.Asking.{Asked, Kind}
use Rattle.vault_engine.specs.Passing.{Passage, IsBefore, Keeps, Sends}
use Rattle.vault_engine.specs.Stops.{IsAnswered, StopsAt}
use Rattle.vault_engine.specs.Within.{AllAnswered, FirstOf, StopsWithin}
use Rattle.vault_engine.specs.declared.stop.Stop.{Stop}
use Rattle.vault_engine.specs.declared.stop.Stop.TheVariants as stop
use Rattle.vault_engine.proofs.Answering.{none_answered}
use Rattle.vault_engine.proofs.JoinedUnits.{Joins, answered_then, before_then, cut_then, joined, silent_then}
use Rattle.vault_engine.proofs.JoinedUnits.{undecided_then}

module _ {X : Type 0} (k : Kind X) (w : Passage) where
  -- nothing is asked, and the vault stays
  pub all_nothing : w.given_new ≡ w.given_old → Sends w [] → ((V : Content) → IsBefore w V → Keeps w V)
      → AllAnswered k [] w []
  all_nothing given sent kept =
      record { exchanges = []; whole = refl; done = none_answered k w given sent kept }

  -- all are answered, and nothing was taken for the next one
  pub before_of : (first : List ℕ) (xs : List (Asked X)) → Answered k first w xs
      → AnsweredBefore k first w xs
  before_of first xs a = record {
    unused = [];
    one = omega arith;
    taken = a.taken ∙ ap (λ ps. w.given_old ++ ps) (sym (append-nil _));
    asked = a.asked;
    answered = a.answered;
  }

  pub stops_after : (first : List ℕ) (us : List X) → AllAnswered k first w us
      → StopsWithin k first w us stop.Memory
  stops_after first us f = inl (
    [],
    record {
      exchanges = f.exchanges;
      whole = sym f.whole ∙ sym (append-nil _);
      known = before_of first f.exchanges f.done;
    },
  )

  -- one is answered
  pub all_one : (u : X) (reply : Reply) → IsAnswered k w u reply → AllAnswered k [] w (u ∷ [])
  all_one u reply (x, same, a, told) =
      record { exchanges = x ∷ []; whole = ap (λ y. y ∷ []) same; done = a }

  none_before : (u : X) (us : List X) (x : Asked X) (Known : List (Asked X) → Type 0) → x.unit ≡ u
      → Known [] → FirstOf (u ∷ us) (x.unit ∷ us) Known
  none_before u us x Known same h =
      record { exchanges = []; whole = ap (λ y. y ∷ us) (sym same); known = h }

  -- asking stopped at the first one
  pub stops_at_first : (u : X) (us : List X) (e : Stop) → StopsAt k w u e → StopsWithin k [] w (u ∷ us) e
  stops_at_first u us stop.Source q = (u, us, record { exchanges = []; whole = refl; known = q })
  stops_at_first u us stop.Read q = absurd q
  stops_at_first u us stop.Write (x, same, q) = (x, us, none_before u us x _ same q)
  stops_at_first u us stop.Store (x, same, q) = (x, us, none_before u us x _ same q)
  stops_at_first u us stop.Memory (inl q) =
      inl (u ∷ us, record { exchanges = []; whole = refl; known = q })
  stops_at_first u us stop.Memory (inr (x, same, q)) = inr (x, us, none_before u us x _ same q)

module _ {X : Type 0} (k : Kind X) (first : List ℕ) (early late : Passage) (us vs : List X)
    (f : AllAnswered k first early us) where
  units_both : (ys : List (Asked X)) → units_of (f.exchanges ++ ys) ≡ us ++ units_of ys
  units_both ys =
      map-append (λ (y : Asked X). y.unit) f.exchanges ys ∙ ap (λ zs. zs ++ units_of ys) f.whole

  -- all are answered, and then all others
  pub all_then : AllAnswered k [] late vs → Joins early late
      → AllAnswered k first (joined early late) (us ++ vs)
  all_then q j = record {
    exchanges = f.exchanges ++ q.exchanges;
    whole = units_both q.exchanges ∙ ap (λ zs. us ++ zs) q.whole;
    done = answered_then k first early late f.exchanges f.done j q.exchanges q.done;
  }

  first_then : (rest : List X) (K L : List (Asked X) → Type 0)
      → ((ys : List (Asked X)) → K ys → L (f.exchanges ++ ys)) → FirstOf vs rest K
      → FirstOf (us ++ vs) rest L
  first_then rest K L up q = record {
    exchanges = f.exchanges ++ q.exchanges;
    whole =
        ap (λ zs. us ++ zs) q.whole ∙ sym (append_assoc us (units_of q.exchanges) rest)
        ∙ ap (λ zs. zs ++ rest) (sym (units_both q.exchanges));
    known = up q.exchanges q.known;
  }

  -- and then asking stopped among the others
  pub stops_then : (e : Stop) → StopsWithin k [] late vs e → Joins early late
      → StopsWithin k first (joined early late) (us ++ vs) e
  stops_then stop.Source (next, rest, q) j =
      (next, rest, first_then _ _ _ (answered_then k first early late f.exchanges f.done j) q)
  stops_then stop.Read q j = all_then q j
  stops_then stop.Write (x, rest, q) j =
      (x, rest, first_then _ _ _ (λ ys. cut_then k first early late f.exchanges f.done j ys x) q)
  stops_then stop.Store (x, rest, q) j =
      (x, rest, first_then _ _ _ (λ ys. undecided_then k first early late f.exchanges f.done j ys x) q)
  stops_then stop.Memory (inl (rest, q)) j =
      inl (rest, first_then _ _ _ (before_then k first early late f.exchanges f.done j) q)
  stops_then stop.Memory (inr (x, rest, q)) j =
      inr (x, rest, first_then _ _ _ (λ ys. silent_then k first early late f.exchanges f.done j ys x) q)
