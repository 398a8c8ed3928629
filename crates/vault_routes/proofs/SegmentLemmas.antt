-- A text and its first slash, as the router walks over it.
use Rattle.std.proofs.Common.{◌≡◌, ℕ, zero, suc, ◌-◌, ◌<◌, List, [], ◌∷◌, ◌++◌, length, drop, Bool, true}
use Rattle.std.proofs.Common.{false, cond, refl, ap, arith, ◌⊎◌, inl, inr, ◌==◌, ◌&&◌, nat_eq, ltb}
use Rattle.std.proofs.Math.Seq.{drop-append_seam}
use Rattle.std.proofs.lemmas.Bool.{eqb-true, lt-ltb}
use Rattle.std.proofs.lemmas.List.{length-append}
use Rattle.std.specs.Cmp.Lexicographic.{pointwise, bytes_decides}
use Rattle.matchit.specs.Seek.{cuts, has_slash, segment}

-- a text that has no slash, or its part before the first one and its part behind it
pub first_slash : (text : List ℕ)
    → (has_slash text ≡ false) ⊎ ((front : List ℕ) × (rest : List ℕ) × (text ≡ front ++ 47 ∷ rest)
    × (has_slash front ≡ false))
first_slash [] = inl refl
first_slash (b ∷ text) = by (b == 47) refl (first_slash text)
  where
    by : (v : Bool) → (b == 47) ≡ v
        → (has_slash text ≡ false) ⊎ ((front : List ℕ) × (rest : List ℕ) × (text ≡ front ++ 47 ∷ rest)
        × (has_slash front ≡ false))
        → (has_slash (b ∷ text) ≡ false) ⊎ ((front : List ℕ) × (rest : List ℕ)
        × (b ∷ text ≡ front ++ 47 ∷ rest) × (has_slash front ≡ false))
    by true q h = let e : b ≡ 47 = eqb-true _ _ q in inr ([], text, ap (λ x. x ∷ text) e, refl)
    by false q (inl n) = inl (rw q n)
    by false q (inr h) = inr (b ∷ h.0, h.1, ap (λ t. b ∷ t) h.2, rw q h.3)

-- the segment ends with the first slash
pub segment-at_slash : (front rest : List ℕ) → has_slash front ≡ false
    → segment (front ++ 47 ∷ rest) ≡ front ++ 47 ∷ []
segment-at_slash [] rest h = refl
segment-at_slash (b ∷ front) rest h = by (b == 47) refl h (segment-at_slash front rest)
  where
    by : (v : Bool) → (b == 47) ≡ v → cond v true (has_slash front) ≡ false
        → (has_slash front ≡ false → segment (front ++ 47 ∷ rest) ≡ front ++ 47 ∷ [])
        → segment ((b ∷ front) ++ 47 ∷ rest) ≡ (b ∷ front) ++ 47 ∷ []
    by true q n more = absurd (cc)
    by false q n more = rw q (ap (λ t. b ∷ t) (more n))

-- or it is the whole text
pub segment-no_slash : (text : List ℕ) → has_slash text ≡ false → segment text ≡ text
segment-no_slash [] h = refl
segment-no_slash (b ∷ text) h = by (b == 47) refl h (segment-no_slash text)
  where
    by : (v : Bool) → (b == 47) ≡ v → cond v true (has_slash text) ≡ false
        → (has_slash text ≡ false → segment text ≡ text) → segment (b ∷ text) ≡ b ∷ text
    by true q n more = absurd (cc)
    by false q n more = rw q (ap (λ t. b ∷ t) (more n))

pub has_slash-drop : (text : List ℕ) (k : ℕ) → has_slash text ≡ false → has_slash (drop k text) ≡ false
has_slash-drop text zero h = h
has_slash-drop [] (suc k) h = refl
has_slash-drop (b ∷ text) (suc k) h = has_slash-drop text k (tail (b == 47) h)
  where
    tail : (v : Bool) → cond v true (has_slash text) ≡ false → has_slash text ≡ false
    tail true n = absurd (cc)
    tail false n = n

-- a parameter takes what stands before the slash, where that is not empty
pub cuts-at_slash : (b : ℕ) (front : List ℕ) → cuts ((b ∷ front) ++ 47 ∷ []) (47 ∷ []) ≡ true
cuts-at_slash b front =
    let long : 1 < length ((b ∷ front) ++ 47 ∷ []) = omega (arith, length-append (b ∷ front) (47 ∷ [])) in
    let place : length ((b ∷ front) ++ 47 ∷ []) - 1 ≡ length (b ∷ front) =
    omega (arith, length-append (b ∷ front) (47 ∷ [])) in
    rw (lt-ltb _ _ long, place, drop-append_seam (b ∷ front) (47 ∷ [])) refl

pub cuts-no_slash : (text : List ℕ) → has_slash text ≡ false → cuts text (47 ∷ []) ≡ false
cuts-no_slash text h =
    by (pointwise nat_eq (47 ∷ []) (drop (length text - 1) text)) refl (ltb 1 (length text))
  where
    by : (v : Bool) → pointwise nat_eq (47 ∷ []) (drop (length text - 1) text) ≡ v → (u : Bool)
        → (u && pointwise nat_eq (47 ∷ []) (drop (length text - 1) text)) ≡ false
    by true e u =
        let same = (bytes_decides (47 ∷ []) (drop (length text - 1) text)).0 e in
        let none = has_slash-drop text (length text - 1) h in absurd (cc)
    by false e true = e
    by false e false = refl
