-- What is remembered of a list.
use Rattle.std.proofs.Common.{ℕ, List, Option, Some, None, inl, inr, refl}
use Rattle.std.specs.Global.{Vec}
use Rattle.std.specs.Prelude.{IfSome}
use Rattle.vault_live.specs.Following.{AreSettled, HaveTaken, Looks, WasSettled}
use Rattle.vault_live.specs.Kinds.{Naming}
use Rattle.vault_live.specs.Sweeping.{IsSweeper, NamesSweeper, rows_in}
use Rattle.vault_live.specs.declared.sweeping.Sweeper.{Sweeper}
use Rattle.vault_merchants.specs.ListedMerchants.{AreListed, Wanted}

-- rows of the text that was taken last are those of one that was settled
pub taken_settled : {X : Type 0} (names : Naming X) (says : Looks) (looks : ℕ) (o : Option (List ℕ))
    (rows : Vec X) → IfSome o (WasSettled says looks) → HaveTaken names o (Some rows)
    → AreSettled names says rows.items
taken_settled names says looks None rows was named = absurd named
taken_settled names says looks (Some text) rows (look, below, settled) named = (look, text, settled, named)

-- the list in force names a merchant's sweeper: so does the one with which the service began, or one that was
-- settled since
pub sweeper_in : (says : Looks) (looks : ℕ) (began : List Wanted) (o : Option (List ℕ))
    (taken : Option (Vec Wanted)) (it : Sweeper) → IfSome o (WasSettled says looks)
    → HaveTaken AreListed o taken → NamesSweeper (rows_in began taken) it → IsSweeper began says it
sweeper_in says looks began o None it was have named = (began, inl refl, named)
sweeper_in says looks began o (Some rows) it was have named =
    (rows.items, inr (taken_settled AreListed says looks o rows was have), named)
