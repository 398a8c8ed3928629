-- The count of numbers given, over a history.
use Rattle.std.proofs.Common.{◌≡◌, ◌≤◌, ◌+◌, ◌&&◌, ℕ, Bool, true, false, cond, List, [], ◌∷◌, Option, inl}
use Rattle.std.proofs.Common.{inr, refl, sym, ap, ◌∙◌, arith}
use Rattle.std.specs.FinMap as map
use Rattle.std.specs.Option.{option_map_or}
use Rattle.vault_pan.specs.CardText.{same}
use Rattle.vault_core.specs.Keys.{Bytes, bytes_cmp}
use Rattle.vault_core.specs.Named.{merchant_of, is_redeem}
use Rattle.vault_core.specs.Table.{reply}
use Rattle.vault_core.specs.Vault.{Vault, Merchant, empty_vault}
use Rattle.vault_core.specs.Yields.{given_by, gives_number}
use Rattle.vault_core.proofs.Counted.{follows, only_redeem}
use Rattle.vault_recover.specs.Histories.{Step, Answered, Undecided, Reopened, Migrated, IsStep, IsHistory}
use Rattle.vault_recover.specs.Histories.{last, how_many, answers_number, leaves_number, GivenIsWithin}

-- so many more, or fewer
at-most : (own gives redeem : Bool) → (redeem ≡ false → gives ≡ false)
    → let a : ℕ = cond (own && gives) 1 0 in let b : ℕ = cond (own && redeem) 1 0 in a ≤ b
at-most false gives redeem only = omega arith
at-most true false true only = omega arith
at-most true true true only = omega arith
at-most true false false only = omega arith
at-most true true false only = let clash = only refl in absurd (cc)

-- one step, whose count grows by no more than this and by no less
record IsBetween (least most before after' : ℕ) : Type 0 where
  low : before + least ≤ after'
  high : after' ≤ before + most

one-step : (V W : Vault) (s : Step) (m : Bytes) → IsStep V s W
    → IsBetween (cond (answers_number m s) 1 0) (cond (answers_number m s) 1 0 + cond (leaves_number m s) 1 0)
    (given_by V m) (given_by W m)
one-step V W (Answered c r) m is =
    let count = ap (λ (U : Vault). given_by U m) is.1 ∙ (follows V m c).0
    ∙ ap (λ x. given_by V m + cond (same (merchant_of c) m && gives_number x) 1 0) (sym is.0) in
    record { low = omega (arith, count); high = omega (arith, count) }
one-step V W (Undecided c) m (inl is) =
    let count = ap (λ (U : Vault). given_by U m) is in
    record { low = omega (arith, count); high = omega (arith, count) }
one-step V W (Undecided c) m (inr is) =
    let count = ap (λ (U : Vault). given_by U m) is ∙ (follows V m c).0 in
    let few = at-most (same (merchant_of c) m) (gives_number (reply V c)) (is_redeem c) (only_redeem V c) in
    record { low = omega (arith, count); high = omega (arith, count, few) }
one-step V W Reopened m is =
    let count = ap (λ (U : Vault). given_by U m) is in
    record { low = omega (arith, count); high = omega (arith, count) }
one-step V W Migrated m is =
    let count = ap (λ (U : Vault). given_by U m) is in
    record { low = omega (arith, count); high = omega (arith, count) }

all-steps : (V : Vault) (h : List (Step × Vault)) (m : Bytes) → IsHistory V h
    → IsBetween (how_many (answers_number m) h)
    (how_many (answers_number m) h + how_many (leaves_number m) h) (given_by V m) (given_by (last V h) m)
all-steps V [] m is = record { low = omega arith; high = omega arith }
all-steps V (s ∷ more) m is =
    let one = one-step V s.1 s.0 m is.1 in
    let rest = all-steps s.1 more m is.2 in
    record {
      low = omega (arith, one.low, rest.low);
      high = omega (arith, one.high, rest.high);
    }

pub is_within : GivenIsWithin
is_within h is m =
    let all = all-steps empty_vault h m is in
    let none = ap (λ (o : Option Merchant). option_map_or (λ (x : Merchant). x.given) o 0)
    (map.get-empty bytes_cmp m) in
    (omega (arith, all.low, none), omega (arith, all.high, none))
