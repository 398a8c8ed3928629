-- The latest of some ends.
use Rattle.std.proofs.Common.{◌≡◌, ◌⊎◌, ◌↔◌, ◌<◌, ◌≤◌, ◌+◌, ℕ, List, [], ◌∷◌, ◌++◌, Option, Some, None}
use Rattle.std.proofs.Common.{length, take, get_or, Contains, refl, sym, ap, ◌∙◌, subst, inl, inr, arith}
use Rattle.std.proofs.lemmas.List.{take_all, take_more}
use Rattle.std.proofs.lemmas.List.Elements.{Contains-append_left, Contains-append_right}
use Rattle.std.proofs.lemmas.List.Elements.{Contains-append_cases}
use Rattle.std.specs.Prelude.{IfNone}
use Rattle.vault_core.specs.declared.right.Right.{Right}
use Rattle.vault_rights.specs.Items.{IsGranted}
use Rattle.vault_rights.specs.Named.{IsNoLater, IsLatest}
use Rattle.vault_rights.proofs.Lists.{contains-head, contains-only}

abbrev pub Grant : Type 0
Grant = Right × Option ℕ

no-later-both : (a b : Option ℕ) → IsNoLater a b → IsNoLater b a → a ≡ b
no-later-both None None h k = refl
no-later-both None (Some n) h k = absurd h
no-later-both (Some m) None h k = absurd k
no-later-both (Some m) (Some n) h k = let same : m ≡ n = omega arith in ap (λ t. Some t) same

-- there is one latest end
pub latest-exact : (P : Option ℕ → Type 0) (a b : Option ℕ) → IsLatest P a → IsLatest P b → a ≡ b
latest-exact P a b h k = no-later-both a b (k.1 a h.0) (h.1 b k.0)

pub latest-same : (P Q : Option ℕ → Type 0) (until : Option ℕ) → ((end : Option ℕ) → P end ↔ Q end)
    → IsLatest P until
    → IsLatest Q until
latest-same P Q until same h = ((same until).0 h.0, λ other q. h.1 other ((same other).1 q))

no-later-along : (a b c : Option ℕ) → IsNoLater a b → IsNoLater b c → IsNoLater a c
no-later-along a b None h k = tt
no-later-along a None (Some n) h k = absurd k
no-later-along None (Some m) (Some n) h k = absurd h
no-later-along (Some l) (Some m) (Some n) h k = omega arith

-- the latest end so far, or that there is none
abbrev pub IsLatestOf : (Option ℕ → Type 0) → Option (Option ℕ) → Type 0
IsLatestOf P None = (until : Option ℕ) → ¬ P until
IsLatestOf P (Some until) = IsLatest P until

module _ (grants : List Grant) (i : ℕ) (x : Grant) (inside : i < length grants) (is : x ≡ get_or grants i x)
    (right : Right) where
  more : take (i + 1) grants ≡ take i grants ++ x ∷ []
  more = take_more grants i x inside ∙ ap (λ y. take i grants ++ y ∷ []) (sym is)

  early : (until : Option ℕ) → IsGranted (take i grants) right until
      → IsGranted (take (i + 1) grants) right until
  early until h =
      subst (λ xs. Contains xs (right, until)) (sym more)
      (Contains-append_left (take i grants) (x ∷ []) (right, until) h)

  last : (until : Option ℕ) → x ≡ (right, until) → IsGranted (take (i + 1) grants) right until
  last until same =
      subst (λ xs. Contains xs (right, until)) (sym more)
      (Contains-append_right (take i grants) (x ∷ []) (right, until)
      (subst (Contains (x ∷ [])) same (contains-head x [])))

  one-of : (until : Option ℕ) → IsGranted (take (i + 1) grants) right until
      → IsGranted (take i grants) right until ⊎ (x ≡ (right, until))
  one-of until h =
      elim (Contains-append_cases (take i grants) (x ∷ []) (right, until)
      (subst (λ xs. Contains xs (right, until)) more h)) [
        | inl before ↦ inl before
        | inr now ↦ inr (sym (contains-only x (right, until) now))
      ]

  -- the later of the latest and one more
  pub latest-more : (latest : Option (Option ℕ)) (until : Option ℕ) → x.0 ≡ right
      → IsLatestOf (IsGranted (take i grants) right) latest
      → IsLatest (λ end. (end ≡ x.1) ⊎ (latest ≡ Some end)) until
      → IsLatest (IsGranted (take (i + 1) grants) right) until
  latest-more latest until same so_far later =
      (granted latest so_far later.0, λ other h. below other (one-of other h))
    where
      granted : (latest : Option (Option ℕ)) → IsLatestOf (IsGranted (take i grants) right) latest
          → (until ≡ x.1) ⊎ (latest ≡ Some until)
          → IsGranted (take (i + 1) grants) right until
      granted latest so_far (inl new) = last until (λ j. (same j, sym new j))
      granted None so_far (inr old) = cc
      granted (Some end) so_far (inr old) =
          let level : end ≡ until = cc in
          early until (subst (IsGranted (take i grants) right) level so_far.0)

      before : (other : Option ℕ) → (latest : Option (Option ℕ))
          → IsLatestOf (IsGranted (take i grants) right) latest
          → ((end : Option ℕ) → latest ≡ Some end → IsNoLater end until)
          → IsGranted (take i grants) right other → IsNoLater other until
      before other None so_far most h = absurd (so_far other h)
      before other (Some end) so_far most h =
          no-later-along other end until (so_far.1 other h) (most end refl)

      below : (other : Option ℕ) → IsGranted (take i grants) right other ⊎ (x ≡ (right, other))
          → IsNoLater other until
      below other (inl h) = before other latest so_far (λ end old. later.1 end (inr old)) h
      below other (inr now) = later.1 other (inl (sym (ap (λ (y : Grant). y.1) now)))

  -- one more of another right
  pub latest-other : (latest : Option (Option ℕ)) → ¬ (x.0 ≡ right)
      → IsLatestOf (IsGranted (take i grants) right) latest
      → IsLatestOf (IsGranted (take (i + 1) grants) right) latest
  latest-other latest other = walk latest
    where
      only : (until : Option ℕ) → IsGranted (take (i + 1) grants) right until
          → IsGranted (take i grants) right until
      only until h =
          elim (one-of until h) [
            | inl before ↦ before
            | inr now ↦ absurd (other (ap (λ (y : Grant). y.0) now))
          ]

      walk : (latest : Option (Option ℕ)) → IsLatestOf (IsGranted (take i grants) right) latest
          → IsLatestOf (IsGranted (take (i + 1) grants) right) latest
      walk None h = λ until granted. h until (only until granted)
      walk (Some end) h = latest-same _ _ end (λ until. (early until, only until)) h

-- after the last of the grants
pub none-granted : (grants : List Grant) (i : ℕ) (right : Right) (latest : Option (Option ℕ))
    → length grants ≤ i
    → IsLatestOf (IsGranted (take i grants) right) latest
    → IfNone latest ((until : Option ℕ) → ¬ IsGranted grants right until)
none-granted grants i right None past h =
    λ until. subst (λ xs. ¬ Contains xs (right, until)) (take_all i grants past) (h until)
none-granted grants i right (Some end) past h = tt
