-- What parameters are, once they are bound.
use Rattle.std.proofs.Common.{◌≡◌, ◌<◌, ◌^◌, ℕ, Option, arith}
use Rattle.sqlite.specs.Values.{bound_value}
use Rattle.vault_pan.specs.Mask.{lead_digits}
use Rattle.vault_pan.specs.declared.lead.Lead.{Lead}
use Rattle.vault_core.specs.Numbers.{right_number}
use Rattle.vault_core.specs.declared.right.Right.{Right}
use Rattle.vault_schema.specs.Values.{number_or_null}

pub small_right : (right : Right) → right_number right < 2 ^ 63
small_right right = grind arith

pub small_lead : (lead : Lead) → lead_digits lead < 2 ^ 63
small_lead lead = grind arith

pub number_bound : (o : Option ℕ) → bound_value (number_or_null o) ≡ number_or_null o
number_bound o = grind arith
