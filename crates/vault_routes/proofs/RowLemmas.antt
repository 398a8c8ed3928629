-- What the router's walk over rows finds: a row whose pattern fits, where there is one.
use Rattle.std.proofs.Common.{◌≡◌, ℕ, zero, suc, ◌-◌, ◌∙◌, List, [], ◌∷◌, ◌++◌, length, drop, Option, Some}
use Rattle.std.proofs.Common.{None, Bool, true, false, cond, refl, sym, ap, arith, ◌⊎◌, inl, inr, ◌==◌, ◌&&◌}
use Rattle.std.proofs.Common.{true≢false, subst, append-nil}
use Rattle.std.proofs.Math.Seq.{drop-append_seam}
use Rattle.std.proofs.lemmas.Bool.{and_parts, eqb-true}
use Rattle.std.proofs.lemmas.List.{length-append}
use Rattle.std.specs.List.{list_all}
use Rattle.matchit.specs.Level.{IsText}
use Rattle.matchit.specs.Rows.{RowsOf, catch_all_token, param_token}
use Rattle.matchit.specs.Seek.{cuts, first, has_slash, longest_from, longest_suffix, or_else, own}
use Rattle.matchit.specs.Seek.{param_step, same_text, seek, segment, slash, step, with_suffix}
use Rattle.vault_routes.proofs.Patterns.{are_apart, before_slash, fits, from_slash, is_closed}
use Rattle.vault_routes.proofs.Patterns.{is_tidy, never_both, parted, token_cases}
use Rattle.vault_routes.proofs.SegmentLemmas.{cuts-at_slash, cuts-no_slash, first_slash, segment-at_slash}
use Rattle.vault_routes.proofs.SegmentLemmas.{segment-no_slash}

-- the row is one of these
abbrev pub IsIn : {X : Type 0} → X → List X → Type 0
IsIn x [] = ⊥
IsIn x (y ∷ ys) = (y ≡ x) ⊎ IsIn x ys

all_in : {X : Type 0} (test : X → Bool) (xs : List X) (x : X) → list_all test xs ≡ true → IsIn x xs
    → test x ≡ true
all_in test [] x all is = elim is [ ]
all_in test (y ∷ ys) x all (inl same) = subst (λ z. test z ≡ true) same (and_parts _ _ all).0
all_in test (y ∷ ys) x all (inr later) = all_in test ys x (and_parts _ _ all).1 later

-- only the slash goes on behind a parameter
abbrev slash_on : List ℕ
slash_on = slash ∷ []

same_byte : (b : ℕ) → (b == b) ≡ true
same_byte b = grind arith

one_less : (n : ℕ) → suc n - 1 ≡ n
one_less n = omega arith

has_slash-at : (front rest : List ℕ) → has_slash (front ++ slash ∷ rest) ≡ true
has_slash-at [] rest = refl
has_slash-at (b ∷ front) rest =
    elim (b == slash) as (λ v. cond v true (has_slash (front ++ slash ∷ rest)) ≡ true) [
      | true ↦ refl
      | false ↦ has_slash-at front rest
    ]

module _ {K : Type 0} where
  -- of these rows the test holds of one with this key, or of none
  abbrev pub IsFoundBy : (List ℕ → Bool) → RowsOf K → Option K → Type 0
  IsFoundBy test rs None = (pattern : List ℕ) (key : K) → IsIn (pattern, key) rs → test pattern ≡ false
  IsFoundBy test rs (Some key) = (pattern : List ℕ) × IsIn (pattern, key) rs × (test pattern ≡ true)

  -- a property of each pattern
  abbrev pub EachPattern : (List ℕ → Bool) → RowsOf K → Type 0
  EachPattern test rs = (pattern : List ℕ) (key : K) → IsIn (pattern, key) rs → test pattern ≡ true

-- a walk over the path finds what fits the rest of it
abbrev Walks : Type 0 → List ℕ → Type 0
Walks K path =
    (n : ℕ) (rs : RowsOf K) → EachPattern is_tidy rs
    → IsFoundBy (λ t. fits t (drop n path)) rs (seek n rs path)

module _ {K : Type 0} where
  -- rows through a step
  in-step : (b : ℕ) (rs : RowsOf K) (pattern : List ℕ) (key : K) → IsIn (pattern, key) (step b rs)
      → IsIn (b ∷ pattern, key) rs
  in-step b [] pattern key is = elim is [ ]
  in-step b (([], k) ∷ rs) pattern key is = inr (in-step b rs pattern key is)
  in-step b ((x ∷ t, k) ∷ rs) pattern key is = by (x == b) refl is (in-step b rs pattern key)
    where
      by : (v : Bool) → (x == b) ≡ v → IsIn (pattern, key) (cond v ((t, k) ∷ step b rs) (step b rs))
          → (IsIn (pattern, key) (step b rs) → IsIn (b ∷ pattern, key) rs)
          → IsIn (b ∷ pattern, key) ((x ∷ t, k) ∷ rs)
      by true e (inl same) more = inl (λ i. (eqb-true x b e i ∷ (same i).0, (same i).1))
      by true e (inr later) more = inr (more later)
      by false e later more = inr (more later)

  step-in : (b : ℕ) (rs : RowsOf K) (pattern : List ℕ) (key : K) → IsIn (b ∷ pattern, key) rs
      → IsIn (pattern, key) (step b rs)
  step-in b [] pattern key is = elim is [ ]
  step-in b (([], k) ∷ rs) pattern key (inl same) =
      let clash : [] ≡ b ∷ pattern = ap (λ r. r.0) same in absurd (cc)
  step-in b (([], k) ∷ rs) pattern key (inr later) = step-in b rs pattern key later
  step-in b ((x ∷ t, k) ∷ rs) pattern key (inl same) =
      let tops : x ∷ t ≡ b ∷ pattern = ap (λ r. r.0) same in
      let head : x ≡ b = cc in
      let tail : (t, k) ≡ (pattern, key) = (λ i. (drop 1 (same i).0, (same i).1)) in
      let test : (x == b) ≡ true = rw head (same_byte b) in
      rw test (inl tail)
  step-in b ((x ∷ t, k) ∷ rs) pattern key (inr later) = by (x == b) (step-in b rs pattern key later)
    where
      by : (v : Bool) → IsIn (pattern, key) (step b rs)
          → IsIn (pattern, key) (cond v ((t, k) ∷ step b rs) (step b rs))
      by true later = inr later
      by false later = later

  -- rows with a suffix
  in-suffix : (s : List ℕ) (rs : RowsOf K) (pattern : List ℕ) (key : K)
      → IsIn (pattern, key) (with_suffix s rs)
      → IsIn (pattern, key) rs
  in-suffix s [] pattern key is = elim is [ ]
  in-suffix s ((t, k) ∷ rs) pattern key is = by (same_text (segment t) s) is (in-suffix s rs pattern key)
    where
      by : (v : Bool) → IsIn (pattern, key) (cond v ((t, k) ∷ with_suffix s rs) (with_suffix s rs))
          → (IsIn (pattern, key) (with_suffix s rs) → IsIn (pattern, key) rs)
          → IsIn (pattern, key) ((t, k) ∷ rs)
      by true (inl same) more = inl same
      by true (inr later) more = inr (more later)
      by false later more = inr (more later)

  suffix-in : (rs : RowsOf K) (pattern : List ℕ) (key : K) → IsIn (slash ∷ pattern, key) rs
      → IsIn (slash ∷ pattern, key) (with_suffix slash_on rs)
  suffix-in [] pattern key is = elim is [ ]
  suffix-in ((t, k) ∷ rs) pattern key (inl same) =
      let text : t ≡ slash ∷ pattern = ap (λ r. r.0) same in
      let test : same_text (segment t) slash_on ≡ true = rw text refl in
      rw test (inl same)
  suffix-in ((t, k) ∷ rs) pattern key (inr later) =
      by (same_text (segment t) slash_on) (suffix-in rs pattern key later)
    where
      by : (v : Bool) → IsIn (slash ∷ pattern, key) (with_suffix slash_on rs)
          → IsIn (slash ∷ pattern, key) (cond v ((t, k) ∷ with_suffix slash_on rs) (with_suffix slash_on rs))
      by true later = inr later
      by false later = later

  -- a path that is at its end
  found-end : (rs : RowsOf K) → IsFoundBy (λ pattern. fits pattern []) rs (own rs)
  found-end [] = λ pattern key is. elim is [ ]
  found-end (([], k) ∷ rs) = ([], inl refl, refl)
  found-end ((x ∷ t, k) ∷ rs) = by (own rs) (found-end rs)
    where
      none : (pattern : List ℕ) → x ∷ t ≡ pattern → fits pattern [] ≡ false
      none pattern same = subst (λ p. fits p [] ≡ false) same
          (token_cases (λ x. fits (x ∷ t) [] ≡ false) refl (λ x byte. rw byte refl) x)

      by : (o : Option K) → IsFoundBy (λ pattern. fits pattern []) rs o
          → IsFoundBy (λ pattern. fits pattern []) ((x ∷ t, k) ∷ rs) o
      by None found = λ pattern key is. (elim is as (λ _. fits pattern [] ≡ false) [
        | inl same ↦ none pattern (ap (λ r. r.0) same)
        | inr later ↦ found pattern key later
      ])
      by (Some key) (pattern, is, fits) = (pattern, inr is, fits)

  param_step-nothing : (path : List ℕ) → (param_step {K = K} [] path).1 ≡ []
  unfolding param_step
  param_step-nothing path =
      elim (has_slash path) as (λ v. (cond {A = ℕ × RowsOf K} v (0, []) (length path, [])).1 ≡ []) [
        | true ↦ refl
        | false ↦ refl
      ]

  seek-nothing : (n : ℕ) (path : List ℕ) → seek {K = K} n [] path ≡ None
  unfolding seek
  seek-nothing n [] = refl
  seek-nothing (suc n) (b ∷ path) = seek-nothing n path
  seek-nothing zero (b ∷ path) = simp (
    seek-nothing 0 path,
    param_step-nothing (b ∷ path),
    seek-nothing ((param_step {K = K} [] (b ∷ path)).0 - 1) path,
  )

  -- a parameter that takes the whole path
  seek-all : (rs : RowsOf K) (path : List ℕ) → seek (length path) rs path ≡ own rs
  unfolding seek
  seek-all rs [] = refl
  seek-all rs (b ∷ path) = seek-all rs path

  -- a row goes on behind its parameter
  abbrev goes_on : RowsOf K → Bool
  goes_on [] = false
  goes_on (([], k) ∷ rs) = goes_on rs
  goes_on ((x ∷ t, k) ∷ rs) = true

  -- none does
  all_end : (rs : RowsOf K) (pattern : List ℕ) (key : K) → goes_on rs ≡ false → IsIn (pattern, key) rs
      → pattern ≡ []
  all_end [] pattern key none is = elim is [ ]
  all_end (([], k) ∷ rs) pattern key none (inl same) = sym (ap (λ r. r.0) same)
  all_end (([], k) ∷ rs) pattern key none (inr later) = all_end rs pattern key none later
  all_end ((x ∷ t, k) ∷ rs) pattern key none is = absurd (true≢false none)

  rest_closed : (r : List ℕ × K) (rs : RowsOf K) → EachPattern is_closed (r ∷ rs) → EachPattern is_closed rs
  rest_closed r rs closed pattern key is = closed pattern key (inr is)

  begins_slash : (x : ℕ) (t : List ℕ) (k : K) (rs : RowsOf K) → EachPattern is_closed ((x ∷ t, k) ∷ rs)
      → x ≡ slash
  begins_slash x t k rs closed = eqb-true _ _ (closed (x ∷ t) k (inl refl))

  -- the longest suffix is the slash alone, or none
  longest-kept : (seg : List ℕ) (rs : RowsOf K) → EachPattern is_closed rs
      → longest_from seg slash_on rs ≡ slash_on
  longest-kept seg [] closed = refl
  longest-kept seg (([], k) ∷ rs) closed = longest-kept seg rs (rest_closed ([], k) rs closed)
  longest-kept seg ((x ∷ t, k) ∷ rs) closed =
      rw (begins_slash x t k rs closed) (longest-kept seg rs (rest_closed (x ∷ t, k) rs closed))

  longest-none : (seg : List ℕ) (rs : RowsOf K) → EachPattern is_closed rs → cuts seg slash_on ≡ false
      → longest_suffix seg rs ≡ []
  longest-none seg [] closed cut = refl
  longest-none seg (([], k) ∷ rs) closed cut = longest-none seg rs (rest_closed ([], k) rs closed) cut
  longest-none seg ((x ∷ t, k) ∷ rs) closed cut =
      rw (begins_slash x t k rs closed, cut) (longest-none seg rs (rest_closed (x ∷ t, k) rs closed) cut)

  longest-some : (seg : List ℕ) (rs : RowsOf K) → EachPattern is_closed rs → cuts seg slash_on ≡ true
      → longest_suffix seg rs ≡ cond (goes_on rs) slash_on []
  longest-some seg [] closed cut = refl
  longest-some seg (([], k) ∷ rs) closed cut = longest-some seg rs (rest_closed ([], k) rs closed) cut
  longest-some seg ((x ∷ t, k) ∷ rs) closed cut =
      rw (begins_slash x t k rs closed, cut) (longest-kept seg rs (rest_closed (x ∷ t, k) rs closed))

  -- the same rows by another test
  retest : (f g : List ℕ → Bool) (rs : RowsOf K) (o : Option K) → ((t : List ℕ) → g t ≡ f t)
      → IsFoundBy f rs o → IsFoundBy g rs o
  retest f g rs None same found = λ t key is. same t ∙ found t key is
  retest f g rs (Some key) same (t, is, holds) = (t, is, same t ∙ holds)

  -- what a walk finds behind a parameter
  abbrev After : RowsOf K → ℕ → List ℕ → Type 0
  After rs b path =
      IsFoundBy (λ t. fits (param_token ∷ t) (b ∷ path)) rs
      (seek ((param_step rs (b ∷ path)).0 - 1) (param_step rs (b ∷ path)).1 path)

  -- a parameter takes nothing
  after-start : (rs : RowsOf K) (path : List ℕ) → EachPattern is_closed rs → After rs slash path
  unfolding param_step
  after-start rs path closed =
      rw (longest-none slash_on rs closed refl, seek-nothing 0 path) (λ t key is. refl)

  -- a parameter takes the rest
  after-end : (rs : RowsOf K) (b : ℕ) (path : List ℕ) → EachPattern is_closed rs
      → has_slash (b ∷ path) ≡ false
      → After rs b path
  unfolding param_step
  after-end rs b path closed plain =
      let parts = parted (b ∷ path) [] plain refl in
      let before : before_slash (b ∷ path) ≡ b ∷ path =
      ap before_slash (sym (append-nil (b ∷ path))) ∙ parts.0 in
      let behind : from_slash (b ∷ path) ≡ [] = ap from_slash (sym (append-nil (b ∷ path))) ∙ parts.1 in
      let none : longest_suffix (segment (b ∷ path)) rs ≡ [] =
      longest-none (segment (b ∷ path)) rs closed
      (ap (λ s. cuts s slash_on) (segment-no_slash (b ∷ path) plain) ∙ cuts-no_slash (b ∷ path) plain) in
      rw (none, plain, one_less (length path), seek-all rs path)
      (retest (λ t. fits t []) (λ t. fits (param_token ∷ t) (b ∷ path)) rs (own rs)
      (λ t. rw (before, behind) refl) (found-end rs))

  -- rows that go on behind a slash
  on_suffix : (rs : RowsOf K) (rest : List ℕ) (o : Option K) → EachPattern is_closed rs
      → IsFoundBy (λ t. fits t (slash ∷ rest)) (with_suffix slash_on rs) o
      → IsFoundBy (λ t. fits t (slash ∷ rest)) rs o
  on_suffix rs rest (Some key) closed (t, is, holds) = (t, in-suffix slash_on rs t key is, holds)
  on_suffix rs rest None closed none = each
    where
      each : (t : List ℕ) (key : K) → IsIn (t, key) rs → fits t (slash ∷ rest) ≡ false
      each [] key is = refl
      each (x ∷ t) key is =
          let same : x ≡ slash = eqb-true _ _ (closed (x ∷ t) key is) in
          subst (λ y. fits (y ∷ t) (slash ∷ rest) ≡ false) (sym same)
          (none (slash ∷ t) key (suffix-in rs t key (subst (λ y. IsIn (y ∷ t, key) rs) same is)))

  -- a parameter takes what stands before the slash
  after-slash : (rs : RowsOf K) (b : ℕ) (front rest : List ℕ) → EachPattern is_closed rs
      → EachPattern is_tidy rs
      → has_slash (b ∷ front) ≡ false → Walks K (front ++ slash ∷ rest) → After rs b (front ++ slash ∷ rest)
  unfolding param_step
  after-slash rs b front rest closed tidy plain walks = by (goes_on rs) refl
    where
      seg : segment (b ∷ (front ++ slash ∷ rest)) ≡ (b ∷ front) ++ slash_on
      seg = segment-at_slash (b ∷ front) rest plain

      longest : longest_suffix (segment (b ∷ (front ++ slash ∷ rest))) rs ≡ cond (goes_on rs) slash_on []
      longest =
          longest-some (segment (b ∷ (front ++ slash ∷ rest))) rs closed
          (ap (λ s. cuts s slash_on) seg ∙ cuts-at_slash b front)

      size : length (segment (b ∷ (front ++ slash ∷ rest))) - 1 - 1 ≡ length front
      size = omega (arith, ap length seg, length-append (b ∷ front) slash_on)

      parts : (before_slash (b ∷ (front ++ slash ∷ rest)) ≡ b ∷ front)
          × (from_slash (b ∷ (front ++ slash ∷ rest)) ≡ slash ∷ rest)
      parts = parted (b ∷ front) (slash ∷ rest) plain refl

      test : (t : List ℕ) → fits (param_token ∷ t) (b ∷ (front ++ slash ∷ rest)) ≡ fits t (slash ∷ rest)
      test t = rw (parts.0, parts.1) refl

      kept : EachPattern is_tidy (with_suffix slash_on rs)
      kept t key is = tidy t key (in-suffix slash_on rs t key is)

      onward : IsFoundBy (λ t. fits t (slash ∷ rest)) (with_suffix slash_on rs)
          (seek (length front) (with_suffix slash_on rs) (front ++ slash ∷ rest))
      onward =
          subst (λ p. IsFoundBy (λ t. fits t p) (with_suffix slash_on rs)
          (seek (length front) (with_suffix slash_on rs) (front ++ slash ∷ rest)))
          (drop-append_seam front (slash ∷ rest)) (walks (length front) (with_suffix slash_on rs) kept)

      by : (v : Bool) → goes_on rs ≡ v → After rs b (front ++ slash ∷ rest)
      by true e =
          rw (longest, e, size)
          (retest (λ t. fits t (slash ∷ rest)) _ rs _ test (on_suffix rs rest _ closed onward))
      by false e =
          rw (longest, e, has_slash-at (b ∷ front) rest, seek-nothing 0 (front ++ slash ∷ rest))
          (λ t key is. test t ∙ rw (all_end rs t key e is) refl)

  after : (rs : RowsOf K) (b : ℕ) (path : List ℕ) → EachPattern is_closed rs → EachPattern is_tidy rs
      → Walks K path → After rs b path
  after rs b path closed tidy walks = by (first_slash (b ∷ path))
    where
      by : (has_slash (b ∷ path) ≡ false)
          ⊎ ((front : List ℕ) × (rest : List ℕ) × (b ∷ path ≡ front ++ 47 ∷ rest) × (has_slash front ≡ false))
          → After rs b path
      by (inl plain) = after-end rs b path closed plain
      by (inr ([], rest, e, plain)) =
          let same : b ≡ slash = cc in
          subst (λ x. After rs x path) (sym same) (after-start rs path closed)
      by (inr (c ∷ front, rest, e, plain)) =
          let head : b ≡ c = cc in
          let tail : path ≡ front ++ slash ∷ rest = cc in
          subst (λ x. After rs x path) (sym head)
          (subst (λ p. After rs c p) (sym tail)
          (after-slash rs c front rest closed tidy plain (subst (Walks K) tail walks)))

  -- no row takes the rest of a path by a catch-all
  no_rest : (rs : RowsOf K) → EachPattern is_tidy rs → step catch_all_token rs ≡ []
  no_rest [] tidy = refl
  no_rest (([], k) ∷ rs) tidy = no_rest rs (λ t key is. tidy t key (inr is))
  no_rest ((x ∷ t, k) ∷ rs) tidy =
      by (x == catch_all_token) refl (no_rest rs (λ t key is. tidy t key (inr is)))
    where
      by : (v : Bool) → (x == catch_all_token) ≡ v → step catch_all_token rs ≡ []
          → cond v ((t, k) ∷ step catch_all_token rs) (step catch_all_token rs) ≡ []
      by true e more =
          let same : x ≡ catch_all_token = eqb-true _ _ e in
          let clash : is_tidy (catch_all_token ∷ t) ≡ true =
          subst (λ y. is_tidy (y ∷ t) ≡ true) same (tidy (x ∷ t) k (inl refl)) in
          absurd (true≢false (sym clash))
      by false e more = more

  -- behind a byte and behind a parameter, where nothing fits both
  join : (rs : RowsOf K) (b : ℕ) (path : List ℕ) → (b == param_token) ≡ false → (a c : Option K)
      → IsFoundBy (λ t. fits t path) (step b rs) a
      → IsFoundBy (λ t. fits (param_token ∷ t) (b ∷ path)) (step param_token rs) c
      → IsFoundBy (λ t. fits t (b ∷ path)) rs (or_else a (or_else c None))
  join rs b path byte (Some key) c (t, is, holds) found =
      let test : (b == b) ≡ true = same_byte b in
      (b ∷ t, in-step b rs t key is, rw (byte, test) holds)
  join rs b path byte None (Some key) none (t, is, holds) =
      (param_token ∷ t, in-step param_token rs t key is, holds)
  join rs b path byte None None none no_more = each
    where
      each : (t : List ℕ) (key : K) → IsIn (t, key) rs → fits t (b ∷ path) ≡ false
      each [] key is = refl
      each (x ∷ t) key is =
          token_cases (λ x. IsIn (x ∷ t, key) rs → fits (x ∷ t) (b ∷ path) ≡ false)
          (λ is. no_more t key (step-in param_token rs t key is))
          (λ x other is. by x other (x == b) refl is) x is
        where
          by : (x : ℕ) → (x == param_token) ≡ false → (v : Bool) → (x == b) ≡ v → IsIn (x ∷ t, key) rs
              → fits (x ∷ t) (b ∷ path) ≡ false
          by x other true e is =
              let same : x ≡ b = eqb-true _ _ e in
              rw (other, e) (none t key (step-in b rs t key (subst (λ y. IsIn (y ∷ t, key) rs) same is)))
          by x other false e is = rw (other, e) refl

  tidy-step : (b : ℕ) (rs : RowsOf K) → EachPattern is_tidy rs → EachPattern is_tidy (step b rs)
  tidy-step b rs tidy t key is = (and_parts _ _ (tidy (b ∷ t) key (in-step b rs t key is))).1

  closed-step : (rs : RowsOf K) → EachPattern is_tidy rs → EachPattern is_closed (step param_token rs)
  closed-step rs tidy t key is =
      (and_parts _ _ (tidy (param_token ∷ t) key (in-step param_token rs t key is))).0

  walks : (path : List ℕ) → IsText path → (n : ℕ) (rs : RowsOf K) → EachPattern is_tidy rs
      → IsFoundBy (λ t. fits t (drop n path)) rs (seek n rs path)
  unfolding seek
  walks [] small zero rs tidy = found-end rs
  walks [] small (suc n) rs tidy = found-end rs
  walks (b ∷ path) small (suc n) rs tidy = walks path small.1 n rs tidy
  walks (b ∷ path) small zero rs tidy =
      let byte : (b == param_token) ≡ false = grind (arith, small.0) in
      rw (no_rest rs tidy)
      (join rs b path byte _ _ (walks path small.1 zero (step b rs) (tidy-step b rs tidy))
      (after (step param_token rs) b path (closed-step rs tidy) (tidy-step param_token rs tidy)
      (walks path small.1)))

  pub first-fits : (rs : RowsOf K) (path : List ℕ) → EachPattern is_tidy rs → IsText path
      → IsFoundBy (λ t. fits t path) rs (first rs path)
  first-fits rs path tidy small = walks path small zero rs tidy

  -- no text fits two of the rows
  abbrev pub are_all_apart : RowsOf K → Bool
  are_all_apart [] = true
  are_all_apart (r ∷ rs) = list_all (λ s. are_apart r.0 s.0) rs && are_all_apart rs

  pub one_row : (rs : RowsOf K) (x y : List ℕ × K) (path : List ℕ) → are_all_apart rs ≡ true → IsIn x rs
      → IsIn y rs → fits x.0 path ≡ true → fits y.0 path ≡ true → x ≡ y
  one_row [] x y path apart is also e f = elim is [ ]
  one_row (r ∷ rs) x y path apart (inl is) (inl also) e f = sym is ∙ also
  one_row (r ∷ rs) x y path apart (inr is) (inr also) e f =
      one_row rs x y path (and_parts _ _ apart).1 is also e f
  one_row (r ∷ rs) x y path apart (inl is) (inr also) e f =
      let apart_from = all_in (λ s. are_apart r.0 s.0) rs y (and_parts _ _ apart).0 also in
      absurd (never_both r.0 y.0 path apart_from (subst (λ s. fits s.0 path ≡ true) (sym is) e) f)
  one_row (r ∷ rs) x y path apart (inr is) (inl also) e f =
      let apart_from = all_in (λ s. are_apart r.0 s.0) rs x (and_parts _ _ apart).0 is in
      absurd (never_both r.0 x.0 path apart_from (subst (λ s. fits s.0 path ≡ true) (sym also) f) e)
