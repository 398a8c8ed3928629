-- Messages up to the first that closes the connection.
use Rattle.std.proofs.Common.{◌≡◌, ℕ, ◌+◌, ◌<◌, List, [], ◌∷◌, ◌++◌, length, take, drop, get_or, Bool, true}
use Rattle.std.proofs.Common.{false, cond, refl, sym, ◌∙◌, ap, append-nil, suc}
use Rattle.std.proofs.Common.{drop-cons}
use Rattle.std.proofs.Math.Seq.{take-length}
use Rattle.std.specs.Prelude.{◌||◌}
use Rattle.std.proofs.lemmas.List.{length-map, take-append-drop, take_more, map-append}
use Rattle.std.proofs.lemmas.List.Folds.{list_any-append}
use Rattle.vault_wire.specs.Messages.{Request}
use Rattle.vault_wire.specs.Parts.{Parts, closes, parts_of}
use Rattle.vault_http.specs.Exchanges.{has_close, shown, up_to_close}

first_goes : (b c : Bool) → (b || c) ≡ false → (b ≡ false) × (c ≡ false)
first_goes true c h = absurd (cc)
first_goes false c h = (refl, h)

-- after messages none of which closes the connection
pub up_to_close-append : (ps qs : List Parts) → has_close ps ≡ false
    → up_to_close (ps ++ qs) ≡ ps ++ up_to_close qs
up_to_close-append [] qs none = refl
up_to_close-append (p ∷ ps) qs none =
    let n = first_goes (closes p) (has_close ps) none in
    ap (λ (b : Bool). p ∷ cond b [] (up_to_close (ps ++ qs))) n.0 ∙ ap (λ x. p ∷ x)
    (up_to_close-append ps qs n.1)

pub up_to_close-none : (ps : List Parts) → has_close ps ≡ false → up_to_close ps ≡ ps
up_to_close-none ps none = ap up_to_close (sym (append-nil ps)) ∙ up_to_close-append ps [] none
    ∙ append-nil ps

-- all are passed, and none of them closes the connection
pub passed_all : (ps : List Parts) (i : ℕ) → i ≡ length ps → has_close (take i ps) ≡ false
    → (take i ps ≡ up_to_close ps) × (length (up_to_close ps) ≡ i)
passed_all ps i all none =
    let whole : take i ps ≡ ps = ap (λ (n : ℕ). take n ps) all ∙ take-length ps in
    let is = up_to_close-none ps (sym (ap has_close whole) ∙ none) in
    (whole ∙ sym is, ap length is ∙ sym all)

module _ (ps : List Parts) (i : ℕ) (d : Parts) (lt : i < length ps) (none : has_close (take i ps) ≡ false)
    (is : d ≡ get_or ps i d) where
  pub up_to_close-at : up_to_close ps ≡ take i ps ++ (d ∷ cond (closes d) [] (up_to_close (drop (suc i) ps)))
  up_to_close-at =
      ap up_to_close (sym (take-append-drop i ps)) ∙ up_to_close-append (take i ps) (drop i ps) none
      ∙ ap (λ x. take i ps ++ up_to_close x) (drop-cons ps i d lt)
      ∙ ap (λ (q : Parts). take i ps ++ (q ∷ cond (closes q) [] (up_to_close (drop (suc i) ps)))) (sym is)

  pub one_further : take (i + 1) ps ≡ take i ps ++ d ∷ []
  one_further = take_more ps i d lt ∙ ap (λ (q : Parts). take i ps ++ q ∷ []) (sym is)

  pub none_more : closes d ≡ false → has_close (take (i + 1) ps) ≡ false
  none_more misses = rw (one_further, list_any-append closes (take i ps) (d ∷ []), none, misses) refl

  pub up_to_close-end : closes d ≡ true → up_to_close ps ≡ take i ps ++ d ∷ []
  up_to_close-end ends =
      up_to_close-at ∙ ap (λ (b : Bool). take i ps ++ (d ∷ cond b [] (up_to_close (drop (suc i) ps)))) ends

-- messages after messages none of which closes the connection
module _ (ms ns : List Request) (ps : List Parts) (is : ps ≡ shown ns)
    (none : has_close (shown ms) ≡ false) where
  pub up_to_close-shown : up_to_close (shown (ms ++ ns)) ≡ shown ms ++ up_to_close ps
  up_to_close-shown =
      ap up_to_close (map-append parts_of ms ns) ∙ up_to_close-append (shown ms) (shown ns) none
      ∙ ap (λ x. shown ms ++ up_to_close x) (sym is)

  pub has_close-shown : has_close (shown (ms ++ ns)) ≡ has_close ps
  has_close-shown =
      ap has_close (map-append parts_of ms ns) ∙ list_any-append closes (shown ms) (shown ns)
      ∙ ap (λ (b : Bool). b || has_close (shown ns)) none ∙ ap has_close (sym is)

  -- where none closes, all are up to there
  pub shown_count : has_close (shown (ms ++ ns)) ≡ false → length (up_to_close ps) ≡ length ns
  shown_count all = ap length (up_to_close-none ps (sym has_close-shown ∙ all)) ∙ ap length is
      ∙ length-map ns parts_of
