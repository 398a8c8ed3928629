-- What the parameters of a template take of a target.
use Rattle.std.proofs.Common.{◌≡◌, ℕ, ◌+◌, ◌-◌, ◌<◌, ◌≤◌, ◌∙◌, List, [], ◌∷◌, ◌++◌, length, drop, get_or}
use Rattle.std.proofs.Common.{Bool, true, Some, refl, sym, ap, arith, add-zero, ◌⊎◌, inl, inr, append_assoc}
use Rattle.std.proofs.Common.{◌==◌, false, codes, cond, true≢false}
use Rattle.std.specs.Prelude.{map, option_map, zip}
use Rattle.std.proofs.Math.Seq.{drop-append_seam, take-append_seam}
use Rattle.std.proofs.lemmas.Bool.{and_parts, eqb-true, lt-ltb, le-leb, le-ltb, ltb-true}
use Rattle.std.proofs.lemmas.List.{drop-drop, get_or-drop, length-append, length-drop}
use Rattle.matchit.specs.Level.{IsText}
use Rattle.matchit.specs.Params.{after_token, named, part_of, walk, wild_from, wild_stop}
use Rattle.matchit.specs.Router.{RouteOf}
use Rattle.matchit.specs.Rows.{param_token}
use Rattle.vault_routes.specs.Route.{target_at, target_by}
use Rattle.vault_routes.specs.declared.table.Place.{Place}
use Rattle.vault_routes.proofs.Patterns.{IsPlain, before_slash, begins-is, both_parts, fits, fits-closed}
use Rattle.vault_routes.proofs.Patterns.{fits-nothing, from_slash, is_closed, is_literal, is_tidy}
use Rattle.vault_routes.proofs.Patterns.{parameter_count, plain_before, taken, taken-count, token_cases}
use Rattle.vault_routes.proofs.SegmentLemmas.{segment-at_slash}
use Rattle.vault_routes.proofs.TemplateLemmas.{IsRowAt, count, names_by, names_token, pattern_of, short}
use Rattle.vault_routes.proofs.TemplateLemmas.{texts_by, tidy}

-- bytes before a parameter stand for themselves
wild_from-text : (w rest : List ℕ) (len token at : ℕ) → IsText w → at + length w ≤ len
    → wild_from (w ++ param_token ∷ rest) len token at ≡ (token + length w, at + length w)
wild_from-text [] rest len token at h fits = rw (add-zero, add-zero) refl
wild_from-text (x ∷ w) rest len token at h fits =
    let low : x < param_token = h.0 in
    let room : at < len = omega (arith, fits) in
    let e = lt-ltb _ _ low in
    let f = lt-ltb _ _ room in
    let more = wild_from-text w rest len (token + 1) (at + 1) h.1 (omega (arith, fits)) in
    let t : token + 1 + length w ≡ token + length (x ∷ w) = omega arith in
    let a : at + 1 + length w ≡ at + length (x ∷ w) = omega arith in
    rw (e, f) (more ∙ rw (t, a) refl)

-- what stands at a place
pub get_or-at : (xs : List ℕ) (n x : ℕ) (more : List ℕ) → drop n xs ≡ x ∷ more → get_or xs n 0 ≡ x
get_or-at xs n x more e =
    rw (← add-zero n) (sym (get_or-drop n xs 0 0) ∙ ap (λ t. get_or t 0 0) e)

-- what stands behind the first part of what is left
pub drop-part : (xs : List ℕ) (n : ℕ) (a b : List ℕ) → drop n xs ≡ a ++ b → drop (n + length a) xs ≡ b
drop-part xs n a b e =
    sym (drop-drop (length a) n xs) ∙ (ap (drop (length a)) e ∙ drop-append_seam a b)

-- a parameter ends at a slash, or at the end
abbrev Ends : List ℕ → List ℕ → Type 0
Ends more rest =
    ((more ≡ []) × (rest ≡ []))
    ⊎ ((x : List ℕ) × (y : List ℕ) × (more ≡ 47 ∷ x) × (rest ≡ 47 ∷ y))

-- a parameter behind a text, from a place in the pattern and one in the path
module _
    (pattern path : List ℕ) (token at : ℕ) (w more m rest : List ℕ) (is_text : IsText w) (plain : IsPlain m)
    (pattern_is : drop token pattern ≡ w ++ param_token ∷ more) (path_is : drop at path ≡ w ++ (m ++ rest))
    (ends : Ends more rest)
  where
    pub pattern_size : token + length w + 1 + length more ≡ length pattern
    pattern_size =
        let n = ap length pattern_is ∙ length-append w (param_token ∷ more) in
        let d = length-drop token pattern in
        omega (arith, n, d)

    path_size : at + length w + length m + length rest ≡ length path
    path_size =
        let n = ap length path_is ∙ length-append w (m ++ rest) in
        let k = length-append m rest in
        let d = length-drop at path in
        let some = plain.some in
        omega (arith, n, k, d, some)

    start : wild_from (drop token pattern) (length path) token at ≡ (token + length w, at + length w)
    start =
        rw pattern_is (wild_from-text w more (length path) token at is_text (omega (arith, path_size)))

    left : drop (at + length w) path ≡ m ++ rest
    left = drop-part path at w (m ++ rest) path_is

    at_parameter : drop (token + length w) pattern ≡ param_token ∷ more
    at_parameter = drop-part pattern token w (param_token ∷ more) pattern_is

    pub pattern_behind : drop (token + length w + 1) pattern ≡ more
    pattern_behind = drop-part pattern (token + length w) (param_token ∷ []) more at_parameter

    -- it ends where the slash stands, or with the path
    stop : wild_stop pattern (token + length w) path (at + length w) ≡ at + length w + length m
    stop = by ends
      where
        within : token + length w < length pattern
        within = omega (arith, pattern_size)

        by : Ends more rest → wild_stop pattern (token + length w) path (at + length w)
            ≡ at + length w + length m
        by (inl (no_more, no_rest)) =
            let last : length pattern ≤ token + length w + 1 =
            omega (arith, pattern_size, ap length no_more) in
            let size : length path ≡ at + length w + length m = omega (arith, path_size, ap length no_rest) in
            rw (
              lt-ltb _ _ within,
              get_or-at pattern (token + length w) param_token more at_parameter,
              le-ltb _ _ last,
            ) size
        by (inr (x, y, some_more, some_rest)) =
            let next : token + length w + 1 < length pattern =
            omega (arith, pattern_size, ap length some_more) in
            let suffix = pattern_behind ∙ some_more in
            let path_left = left ∙ ap (λ r. m ++ r) some_rest in
            let size = length-append m (47 ∷ []) in
            rw (
              lt-ltb _ _ within,
              get_or-at pattern (token + length w) param_token more at_parameter,
              lt-ltb _ _ next,
              suffix,
              path_left,
              segment-at_slash m y plain.one_part,
            ) (omega (arith, size))

    part-taken : part_of path (at + length w) (at + length w + length m) ≡ m
    part-taken =
        let low : at + length w ≤ at + length w + length m = omega arith in
        let high : at + length w + length m ≤ length path = omega (arith, path_size) in
        let size : at + length w + length m - (at + length w) ≡ length m = omega arith in
        rw (le-leb _ _ low, le-leb _ _ high, size, left) (take-append_seam m rest)

    pub walk-parameter : (text : List ℕ) (name : ℕ × ℕ) (names : List (ℕ × ℕ))
        → walk pattern text path (name ∷ names) token at
        ≡ (part_of text name.0 name.1, m)
        ∷ walk pattern text path names (after_token (token + length w)) (at + length w + length m)
    walk-parameter text name names = rw (start, stop, part-taken) refl

    pub path_behind : drop (at + length w + length m) path ≡ rest
    path_behind = drop-part path (at + length w) m rest left

-- ---- all parameters of a pattern

literal-byte : (x : ℕ) → is_literal x ≡ true → x < 256
literal-byte x e = let low = ltb-true x 128 (and_parts _ _ e).0 in omega (arith, low)

IsText-push : (w : List ℕ) (x : ℕ) → IsText w → x < 256 → IsText (w ++ x ∷ [])
IsText-push [] x text low = (low, tt)
IsText-push (b ∷ w) x text low = (text.0, IsText-push w x text.1 low)

-- behind a parameter, pattern and path both end or both go on with a slash
ends-both : (pattern path : List ℕ) → is_closed pattern ≡ true → fits pattern path ≡ true → Ends pattern path
ends-both [] [] closed fit = inl (refl, refl)
ends-both [] (b ∷ path) closed fit = absurd (true≢false (sym fit))
ends-both (x ∷ pattern) [] closed fit = absurd (true≢false (sym fit ∙ fits-nothing x pattern))
ends-both (x ∷ pattern) (b ∷ path) closed fit =
    inr (
      pattern,
      path,
      ap (λ y. y ∷ pattern) (eqb-true _ _ closed),
      ap (λ y. y ∷ path) (eqb-true _ _ (fits-closed (x ∷ pattern) (b ∷ path) closed fit)),
    )

-- each name with what its parameter takes
abbrev pairs : List ℕ → List (ℕ × ℕ) → List ℕ → List ℕ → List (List ℕ × List ℕ)
pairs text names pattern path = zip (map (λ n. part_of text n.0 n.1) names) (taken pattern path)

module _ (pattern path text : List ℕ) (fitting : length pattern < 1000) where
  -- the walk from a place in the pattern and one in the path, behind a text in both
  abbrev WalksOn : List ℕ → Type 0
  WalksOn rest =
      (left w : List ℕ) (token at : ℕ) (names : List (ℕ × ℕ)) → is_tidy rest ≡ true → IsText w
      → fits rest left ≡ true → length names ≡ parameter_count rest → drop token pattern ≡ w ++ rest
      → drop at path ≡ w ++ left
      → walk pattern text path names token at ≡ pairs text names rest left

  on_parameter : (rest : List ℕ) → WalksOn rest → WalksOn (param_token ∷ rest)
  on_parameter rest more left w token at [] is_tidy is_text fit size pattern_is path_is =
      absurd (omega (arith, size))
  on_parameter rest more left w token at (name ∷ names) is_tidy is_text fit size pattern_is path_is =
      let tidy_parts = and_parts _ _ is_tidy in
      let fit_parts = and_parts _ _ fit in
      let front = before_slash left in
      let behind = from_slash left in
      let plain = plain_before left fit_parts.0 in
      let path_parts : drop at path ≡ w ++ (front ++ behind) =
      path_is ∙ ap (λ p. w ++ p) (sym (both_parts left)) in
      let ends = ends-both rest behind tidy_parts.0 fit_parts.1 in
      let long =
      pattern_size pattern path token at w rest front behind is_text plain pattern_is path_parts ends in
      let next : after_token (token + length w) ≡ token + length w + 1 = omega (arith, long, fitting) in
      walk-parameter pattern path token at w rest front behind is_text plain pattern_is path_parts ends text
      name names
      ∙ ap (λ vs. (part_of text name.0 name.1, front) ∷ vs)
      (ap (λ k. walk pattern text path names k (at + length w + length front)) next
      ∙ more behind [] (token + length w + 1) (at + length w + length front) names tidy_parts.1 tt fit_parts.1
      (omega (arith, size))
      (pattern_behind pattern path token at w rest front behind is_text plain pattern_is path_parts ends)
      (path_behind pattern path token at w rest front behind is_text plain pattern_is path_parts ends))

  on_byte : (rest : List ℕ) → WalksOn rest → (x : ℕ) → (x == param_token) ≡ false → WalksOn (x ∷ rest)
  on_byte rest more x byte left w token at names is_tidy is_text fit size pattern_is path_is =
      let tidy_parts = and_parts _ _ (rw byte at is_tidy) in
      let fit_parts = and_parts _ _ (rw byte at fit) in
      rw byte
      (more (drop 1 left) (w ++ x ∷ []) token at names tidy_parts.1
      (IsText-push w x is_text (literal-byte x tidy_parts.0)) fit_parts.1 (rw byte at size)
      (pattern_is ∙ sym (append_assoc w (x ∷ []) rest))
      (path_is ∙ (ap (λ p. w ++ p) (sym (begins-is x left fit_parts.0))
      ∙ sym (append_assoc w (x ∷ []) (drop 1 left)))))

  walks-on : (rest : List ℕ) → WalksOn rest
  walks-on [] left w token at [] is_tidy is_text fit size pattern_is path_is = refl
  walks-on [] left w token at (name ∷ names) is_tidy is_text fit size pattern_is path_is =
      absurd (omega (arith, size))
  walks-on (x ∷ rest) left w token at names is_tidy is_text fit size pattern_is path_is =
      token_cases (λ x. WalksOn (x ∷ rest)) (on_parameter rest (walks-on rest))
      (on_byte rest (walks-on rest)) x left w token at names is_tidy is_text fit size pattern_is path_is

-- what a row's parameters take of a target
abbrev pub taken_by : RouteOf Place → List ℕ → List (List ℕ × List ℕ)
taken_by row target = walk row.pattern row.text target row.names 0 0

length-map : {X Y : Type 0} (f : X → Y) (xs : List X) → length (map f xs) ≡ length xs
length-map f [] = refl
length-map f (x ∷ xs) = omega (arith, length-map f xs)

names-count : (token : Bool) → length (names_by token) ≡ cond token 2 1
names-count true = refl
names-count false = refl

pub walk-row : (target : List ℕ) (row : RouteOf Place) → IsRowAt target row
    → taken_by row target ≡ zip (names_by (names_token row.value)) (taken (pattern_of row.value) target)
walk-row target row is =
    let pattern = pattern_of row.value in
    let size : length row.names ≡ parameter_count pattern =
    sym (length-map _ row.names) ∙ (ap length is.names ∙ (names-count (names_token row.value)
    ∙ sym (count row.value))) in
    ap (λ p. walk p row.text target row.names 0 0) is.pattern
    ∙ (walks-on pattern target row.text (ltb-true _ _ (short row.value)) pattern target [] 0 0 row.names
    (tidy row.value) tt is.fitting size refl refl
    ∙ ap (λ names. zip names (taken pattern target)) is.names)

-- the texts that they take, by what the place names
pub two_texts : (token : Bool) (texts : List (List ℕ)) → length texts ≡ cond token 2 1
    → (m : List ℕ) × (t : List ℕ) × (texts ≡ texts_by token m t) × (token ≡ false → t ≡ [])
two_texts true [] size = absurd (omega (arith, size))
two_texts true (m ∷ []) size = absurd (omega (arith, size))
two_texts true (m ∷ t ∷ []) size = (m, t, refl, λ e. absurd (true≢false e))
two_texts true (m ∷ t ∷ (u ∷ more)) size = absurd (omega (arith, size))
two_texts false [] size = absurd (omega (arith, size))
two_texts false (m ∷ []) size = (m, [], refl, λ e. refl)
two_texts false (m ∷ t ∷ more) size = absurd (omega (arith, size))

named-texts : (p : Place) (token : Bool) (m t : List ℕ) → (token ≡ false → t ≡ [])
    → option_map (target_at p (named (codes "t") (zip (names_by token) (texts_by token m t))))
    (named (codes "m") (zip (names_by token) (texts_by token m t)))
    ≡ Some (record { place = p; merchant = m; token = t })
named-texts p true m t none = refl
named-texts p false m t none = rw (none refl) refl

-- what a row says of a target
pub target_by-row : (target : List ℕ) (row : RouteOf Place) (m t : List ℕ) → IsRowAt target row
    → taken (pattern_of row.value) target ≡ texts_by (names_token row.value) m t
    → (names_token row.value ≡ false → t ≡ [])
    → target_by row target ≡ Some (record { place = row.value; merchant = m; token = t })
target_by-row target row m t is texts none =
    let token = names_token row.value in
    let walked : taken_by row target ≡ zip (names_by token) (texts_by token m t) =
    walk-row target row is ∙ ap (zip (names_by token)) texts in
    rw walked (named-texts row.value token m t none)

pub texts_at : (target : List ℕ) (row : RouteOf Place) → IsRowAt target row
    → (m : List ℕ) × (t : List ℕ)
    × (taken (pattern_of row.value) target ≡ texts_by (names_token row.value) m t)
    × (names_token row.value ≡ false → t ≡ [])
texts_at target row is =
    two_texts (names_token row.value) (taken (pattern_of row.value) target)
    (taken-count (pattern_of row.value) target ∙ count row.value)
