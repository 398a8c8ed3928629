-- What a target names, in its own bytes.
use Rattle.std.proofs.Common.{All, ◌≡◌, ℕ, ◌<◌, ◌≤◌, ◌∙◌, ◌⊎◌, List, [], ◌∷◌, ◌++◌, length, get_or, drop}
use Rattle.std.proofs.Common.{cond, Option, Some, None, Bool, true, false, ◌||◌, ◌==◌, lit<, refl, sym, ap}
use Rattle.std.proofs.Common.{inl, inr, subst, not, true≢false}
use Rattle.std.proofs.lemmas.Bool.{and_parts, cases_lt, or_parts}
use Rattle.std.proofs.lemmas.List.{get_or_past}
use Rattle.std.proofs.lemmas.List.Folds.{list_any-append}
use Rattle.matchit.specs.Level.{IsText}
use Rattle.matchit.specs.Router.{RouteOf}
use Rattle.matchit.specs.Seek.{first}
use Rattle.vault_routes.specs.Route.{IsParameter, IsTargetOf, NamesItsTarget, Target, has_query, route_of}
use Rattle.vault_routes.specs.Table.{filled, row_of}
use Rattle.vault_routes.specs.Templates.{templates}
use Rattle.vault_routes.proofs.FindLemmas.{IsText-bytes, route_of-found}
use Rattle.vault_routes.proofs.Patterns.{AllPlain, IsPlain, before_slash, begins-is, both_parts, fill}
use Rattle.vault_routes.proofs.Patterns.{filled-taken, fits, from_slash, is_literal, is_tidy, taken}
use Rattle.vault_routes.proofs.Patterns.{taken-plain, takes_back, token_cases}
use Rattle.vault_routes.proofs.TemplateLemmas.{IsRowAt, count, filled-is, first-at, names_token, pattern_of}
use Rattle.vault_routes.proofs.TemplateLemmas.{row-at, texts_by, tidy}
use Rattle.vault_routes.proofs.WalkLemmas.{target_by-row, texts_at}

bytes_below : (target : List ℕ) → All (λ b. b < 256) target → (k : ℕ) → get_or target k 0 < 256
bytes_below target bytes k = by (cases_lt k (length target))
  where
    by : (k < length target) ⊎ (length target ≤ k) → get_or target k 0 < 256
    by (inl within) = bytes k 0 within
    by (inr past) = rw (get_or_past target k 0 past) (lit< tt)

-- a text without a question mark, and its parts
abbrev Plain : List ℕ → Type 0
Plain text = has_query text ≡ false

plain-both : (a b : List ℕ) → Plain (a ++ b) → Plain a × Plain b
plain-both a b h = or_parts _ _ (sym (list_any-append (λ x. x == 63) a b) ∙ h)

plain-append : (a b : List ℕ) → Plain a → Plain b → Plain (a ++ b)
plain-append a b h k = list_any-append (λ x. x == 63) a b ∙ rw (h, k) refl

abbrev AllWithout : List (List ℕ) → Type 0
AllWithout [] = Unit {0}
AllWithout (text ∷ texts) = Plain text × AllWithout texts

-- a tidy pattern has none, and so has none of its texts where the whole has none
plain-taken : (pattern path : List ℕ) → fits pattern path ≡ true → Plain path
    → AllWithout (taken pattern path)
plain-taken [] path fit plain = tt
plain-taken (x ∷ pattern) path fit plain =
    token_cases (λ x. fits (x ∷ pattern) path ≡ true → AllWithout (taken (x ∷ pattern) path))
    (λ fit. (let both =
    plain-both (before_slash path) (from_slash path) (subst Plain (sym (both_parts path)) plain) in
    (both.0, plain-taken pattern (from_slash path) (and_parts _ _ fit).1 both.1)))
    (λ x byte fit. (let fit_parts = and_parts _ _ (rw byte at fit) in
    let same = begins-is x path fit_parts.0 in
    let rest = (plain-both (x ∷ []) (drop 1 path) (subst Plain (sym same) plain)).1 in
    rw byte (plain-taken pattern (drop 1 path) fit_parts.1 rest))) x fit

literal-plain : (x : ℕ) → is_literal x ≡ true → Plain (x ∷ [])
literal-plain x e = by (x == 63) (and_parts _ _ e).1
  where
    by : (v : Bool) → not v ≡ true → (v || false) ≡ false
    by true e = absurd (cc)
    by false e = refl

plain-first : (texts : List (List ℕ)) → AllWithout texts
    → Plain (get_or texts 0 []) × AllWithout (drop 1 texts)
plain-first [] are = (refl, tt)
plain-first (text ∷ texts) are = are

plain-fill : (pattern : List ℕ) (texts : List (List ℕ)) → is_tidy pattern ≡ true → AllWithout texts
    → Plain (fill pattern texts)
plain-fill [] texts tidy are = refl
plain-fill (x ∷ pattern) texts tidy are =
    token_cases (λ x. is_tidy (x ∷ pattern) ≡ true → Plain (fill (x ∷ pattern) texts))
    (λ tidy. (let parts = plain-first texts are in
    plain-append (get_or texts 0 []) (fill pattern (drop 1 texts)) parts.0
    (plain-fill pattern (drop 1 texts) (and_parts _ _ tidy).1 parts.1)))
    (λ x byte tidy. (let both = and_parts _ _ (rw byte at tidy) in
    rw byte (plain-append (x ∷ []) (fill pattern texts) (literal-plain x both.0)
    (plain-fill pattern texts both.1 are)))) x tidy

parameter : (t : List ℕ) → IsPlain t → Plain t → IsParameter t
parameter t is plain = record { some = is.some; one_part = is.one_part; no_query = plain }

is_plain : (t : List ℕ) → IsParameter t → IsPlain t
is_plain t is = record { some = is.some; one_part = is.one_part }

-- the texts of a target, by whether its place names a token
module _ (m t : List ℕ) where
  -- the token's text is a parameter's, or empty
  abbrev IsTokenBy : Bool → Type 0
  IsTokenBy token = (token ≡ true → IsParameter t) × (token ≡ false → t ≡ [])

  all_plain : (token : Bool) → IsParameter m → IsTokenBy token → AllPlain (texts_by token m t)
  all_plain true merchant is = (is_plain m merchant, (is_plain t (is.0 refl), tt))
  all_plain false merchant is = (is_plain m merchant, tt)

  all_without : (token : Bool) → IsParameter m → IsTokenBy token → AllWithout (texts_by token m t)
  all_without true merchant is = (merchant.no_query, ((is.0 refl).no_query, tt))
  all_without false merchant is = (merchant.no_query, tt)

  texts-count : (token : Bool) → length (texts_by token m t) ≡ cond token 2 1
  texts-count true = refl
  texts-count false = refl

  are_parameters : (token : Bool) → AllPlain (texts_by token m t) → AllWithout (texts_by token m t)
      → (token ≡ false → t ≡ []) → IsParameter m × IsTokenBy token
  are_parameters true plain are none =
      (parameter m plain.0 are.0, ((λ _. parameter t plain.1.0 are.1.0), none))
  are_parameters false plain are none =
      (parameter m plain.0 are.0, ((λ e. absurd (true≢false (sym e))), none))

-- a target names what it is the target of
names : (target : List ℕ) (w : Target) → IsText target → IsTargetOf w target → route_of target ≡ Some w
names target w small is =
    let pattern = pattern_of w.place in
    let token = names_token w.place in
    let texts = texts_by token w.merchant w.token in
    let by_token : IsTokenBy w.merchant w.token token = (is.token, is.no_token) in
    let same : target ≡ fill pattern texts = is.text ∙ filled-is w.place w.merchant w.token in
    let back = takes_back pattern texts (tidy w.place)
    (all_plain w.merchant w.token token is.merchant by_token)
    (texts-count w.merchant w.token token ∙ sym (count w.place)) in
    let without = all_without w.merchant w.token token is.merchant by_token in
    let plain : Plain target = rw same (plain-fill pattern texts (tidy w.place) without) in
    let found = first-at w.place target small (rw same back.0) in
    let row = found.0 in
    let same_place : row.value ≡ w.place = found.2 in
    let taken_is : taken (pattern_of row.value) target ≡ texts_by (names_token row.value) w.merchant w.token =
    subst (λ p. taken (pattern_of p) target ≡ texts_by (names_token p) w.merchant w.token) (sym same_place)
    (ap (taken pattern) same ∙ back.1) in
    let none : names_token row.value ≡ false → w.token ≡ [] =
    (λ e. is.no_token (ap names_token (sym same_place) ∙ e)) in
    route_of-found target row plain found.1
    ∙ (target_by-row target row w.merchant w.token (row-at target row small found.1) taken_is none
    ∙ ap (λ p. Some (record { place = p; merchant = w.merchant; token = w.token })) same_place)

-- and nothing else
names-only : (target : List ℕ) (w : Target) → IsText target → route_of target ≡ Some w → IsTargetOf w target
names-only target w small e = by (has_query target) refl (first templates target) refl
  where
    is_of : (row : RouteOf _) → IsRowAt target row → has_query target ≡ false
        → first templates target ≡ Some row → IsTargetOf w target
    is_of row is plain given =
        let texts = texts_at target row is in
        let m = texts.0 in
        let t = texts.1 in
        let pattern = pattern_of row.value in
        let token = names_token row.value in
        let both = are_parameters m t token
        (subst AllPlain texts.2 (taken-plain pattern target is.fitting))
        (subst AllWithout texts.2 (plain-taken pattern target is.fitting plain)) texts.3 in
        let named = route_of-found target row plain given ∙ target_by-row target row m t is texts.2 texts.3 in
        let same : record { place = row.value; merchant = m; token = t } ≡ w = cc in
        let filled_text : target ≡ filled (row_of row.value).template m t =
        sym (filled-taken pattern target is.fitting) ∙ (ap (fill pattern) texts.2
        ∙ sym (filled-is row.value m t)) in
        subst (λ (v : Target). IsTargetOf v target) same (record {
          text = filled_text;
          merchant = both.0;
          token = both.1.0;
          no_token = both.1.1;
        })

    by : (q : Bool) → has_query target ≡ q → (o : Option (RouteOf _)) → first templates target ≡ o
        → IsTargetOf w target
    by true plain o given = let none = rw plain at e in absurd (cc)
    by false plain None given = let clash = rw (plain, given) at e in absurd (cc)
    by false plain (Some row) given = is_of row (row-at target row small given) plain given

pub names_its_target : NamesItsTarget
names_its_target target w bytes =
    let small = IsText-bytes target (bytes_below target bytes) in
    (names-only target w small, names target w small)
