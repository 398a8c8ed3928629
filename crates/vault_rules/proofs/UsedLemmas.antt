-- Whether an entry points at a card row.
use Rattle.std.proofs.Common.{◌≡◌, ℤ, Bool, true, false}
use Rattle.std.proofs.Common.{Option, Some, None, sym, ap, true≢false}
use Rattle.std.specs.Option.{option_map_or}
use Rattle.std.specs.Ordering.{int_eq}
use Rattle.vault_rules.proofs.Numbers.{int_is}

-- whether an entry with this card points at the card row of an id
abbrev pub points : ℤ → Option ℤ → Bool
points id card = option_map_or (λ card. int_eq card id) card false

pub points_is : (id : ℤ) (card : Option ℤ) → points id card ≡ true → card ≡ Some id
points_is id None h = absurd (true≢false (sym h))
points_is id (Some card) h = ap (λ x. Some x) (int_is card id h)
