-- Messages that are asked with the same pairs are the same exchanges.
use Rattle.std.proofs.Common.{◌≡◌, List, [], ◌∷◌, ap₂, refl, subst}
use Rattle.std.specs.Prelude.{All}
use Rattle.std.proofs.lemmas.List.Elements.{All-head, All-tail}
use Rattle.vault_wire.specs.Parts.{Parts}
use Rattle.vault_routes.specs.Wanted.{Wants}
use Rattle.vault_routes.proofs.WantedCommands.{wants_one}
use Rattle.vault_engine.specs.Answered.{pairs_of, units_of}
use Rattle.vault_engine.specs.Asking.{Asked, Asks, Pair}
use Rattle.vault_http.specs.Exchanges.{message_kind}

-- a message with its pair is asked one thing
pub same_asked : (x y : Asked Parts) → x.unit ≡ y.unit → x.pair ≡ y.pair → Asks message_kind x
    → Asks message_kind y → x ≡ y
same_asked x y unit pair a b =
    let moved : Wants y.unit y.pair.0 y.pair.1 x.wanted =
    subst (λ u. Wants u y.pair.0 y.pair.1 x.wanted) unit
    (subst (λ (q : Pair). Wants x.unit q.0 q.1 x.wanted) pair a) in
    let wanted = wants_one y.unit y.pair.0 y.pair.1 x.wanted y.wanted moved b in
    (λ i. record { unit = unit i; pair = pair i; wanted = wanted i })

pub asked_one : (xs ys : List (Asked Parts)) → All (Asks message_kind) xs → All (Asks message_kind) ys
    → units_of xs ≡ units_of ys → pairs_of xs ≡ pairs_of ys → xs ≡ ys
asked_one [] [] a b units pairs = refl
asked_one [] (y ∷ ys) a b units pairs = absurd (cc (units))
asked_one (x ∷ xs) [] a b units pairs = absurd (cc (units))
asked_one (x ∷ xs) (y ∷ ys) a b units pairs =
    ap₂ (λ z zs. z ∷ zs)
    (same_asked x y (cc (units)) (cc (pairs)) (All-head (Asks message_kind) x xs a)
    (All-head (Asks message_kind) y ys b))
    (asked_one xs ys (All-tail (Asks message_kind) x xs a) (All-tail (Asks message_kind) y ys b) (cc (units))
    (cc (pairs)))
