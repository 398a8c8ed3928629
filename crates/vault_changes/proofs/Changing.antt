-- What changes rights is done or refused.
use Rattle.std.proofs.Common.{◌≡◌, ℕ, List, [], ◌∷◌, All, Bool, true, false, Option, Some, None}
use Rattle.std.proofs.Common.{ap, map, refl, Ok, Err}
use Rattle.std.proofs.lemmas.List.Elements.{All-append, All-cons, All-nil}
use Rattle.std.specs.Option.{option_map_or}
use Rattle.vault_core.specs.Merchants.{withdrawal}
use Rattle.vault_core.specs.Outcome.{plain_refusal}
use Rattle.vault_core.specs.Refusals.{no_merchant}
use Rattle.vault_core.specs.Table.{reply}
use Rattle.vault_core.specs.Vault.{Merchant, Vault as Content, merchant_at}
use Rattle.vault_core.specs.declared.command.Command.{Command}
use Rattle.vault_core.specs.declared.command.Command.TheVariants.{Grant, Withdraw}
use Rattle.vault_core.specs.declared.reply.Reply.{Reply}
use Rattle.vault_core.specs.declared.right.Right.{Right}
use Rattle.vault_rights.specs.Named.{Row}
use Rattle.vault_changes.proofs.GivenRights.{granted_or_refused}
use Rattle.vault_changes.specs.Carried.{IsCarriedOut, reply_of}
use Rattle.vault_changes.specs.Changes.{Held, changes_at, missing_rows, surplus_rights, withdrawals_at}
use Rattle.vault_changes.specs.Grants.{grants_at}
use Rattle.vault_changes.specs.Carried.{Verdict}

-- a right is withdrawn, or that is refused
withdrawn_or_refused : (caller m : List ℕ) (right : Right) (now : ℕ) (V : Content)
    → (v : Verdict) × (reply V (Withdraw caller m right now) ≡ reply_of v)
withdrawn_or_refused caller m right now V =
    by_merchant (merchant_at V m) refl
  where
    answered : Option Merchant → Reply
    answered found =
        (option_map_or (withdrawal V caller m right now) found (plain_refusal V no_merchant)).reply

    by_merchant : (found : Option Merchant) → merchant_at V m ≡ found
        → (v : Verdict) × (reply V (Withdraw caller m right now) ≡ reply_of v)
    by_merchant None is = (Err no_merchant, ap answered is)
    by_merchant (Some merchant) is = (Ok tt, ap answered is)

-- each of the commands that items stand for
pub each_carried : {X : Type 0} (f : X → Command) → ((x : X) → IsCarriedOut (f x)) → (xs : List X)
    → All IsCarriedOut (map f xs)
each_carried f one [] = All-nil IsCarriedOut
each_carried f one (x ∷ xs) = All-cons IsCarriedOut (f x) (map f xs) (one x) (each_carried f one xs)

pub grants_carried : (now : ℕ) (rows : List Row) → All IsCarriedOut (grants_at now rows)
grants_carried now = each_carried (λ (row : Row). Grant row.0 row.1 row.2 row.3 now) (λ row. record {
  lives = tt;
  verdict = granted_or_refused row.0 row.1 row.2 row.3 now;
})

withdrawals_carried : (now : ℕ) (held : List Held) → All IsCarriedOut (withdrawals_at now held)
withdrawals_carried now = each_carried (λ (it : Held). Withdraw it.0.0 it.0.1.0 it.0.1.1 now) (λ it. record {
  lives = tt;
  verdict = withdrawn_or_refused it.0.0 it.0.1.0 it.0.1.1 now;
})

pub changes_carried : (exact : Bool) (now : ℕ) (rows : List Row) (held : List Held)
    → All IsCarriedOut (changes_at exact now rows held)
changes_carried true now rows held =
    All-append IsCarriedOut (grants_at now (missing_rows rows held))
    (withdrawals_at now (surplus_rights rows held)) (grants_carried now (missing_rows rows held))
    (withdrawals_carried now (surplus_rights rows held))
changes_carried false now rows held =
    All-append IsCarriedOut (grants_at now (missing_rows rows held)) []
    (grants_carried now (missing_rows rows held))
    (All-nil IsCarriedOut)
