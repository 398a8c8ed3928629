use Rattle.std.proofs.Common.{◌≡◌, ℕ, max, sym, ap, subst, ◌∙◌}
use Rattle.vault_core.specs.Changes.{Yields}
use Rattle.vault_core.specs.Redeem.{redemption}
use Rattle.vault_core.specs.Vault.{Vault, Merchant, state_of, time_at}
use Rattle.vault_core.specs.Window.{row_of}
use Rattle.vault_core.specs.declared.reply.Reply.{Reply}
use Rattle.vault_core.specs.declared.changes.Changes.{Changes}
use Rattle.vault_core.specs.declared.row.Entry.{Entry}
use Rattle.vault_core.specs.declared.row.EntryState.{EntryState}
use Rattle.vault_core.specs.declared.row.EntryState.TheVariants.{Kept}
use Rattle.vault_core.specs.declared.row.MerchantRow.{MerchantRow}
use Rattle.vault_core.specs.Keys.{Bytes}
use Rattle.vault_core.proofs.decide.redeem.redeemed.Goals as goal

-- what is yielded in the state that the code found
of_state : (V : Vault) (m : Bytes) (now : ℕ) (known : Merchant) (row : MerchantRow) (entry : Entry) (at : ℕ)
    (found state : EntryState) (d : Reply × Changes)
    → at ≡ max row.moment now → found ≡ state_of entry at → found ≡ state
    → (row ≡ row_of V m known → Yields V (redemption V m now known state) d)
    → row ≡ row_of V m known → Yields V (redemption V m now known (state_of entry (time_at known now))) d
of_state V m now known row entry at found state d at_is found_is state_is yields row_is =
    let moment : at ≡ time_at known now = at_is ∙ ap (λ (r : MerchantRow). max r.moment now) row_is in
    let same : state_of entry (time_at known now) ≡ state = ap (state_of entry) (sym moment) ∙ sym found_is
    ∙ state_is in
    subst (λ (s : EntryState). Yields V (redemption V m now known s) d) (sym same) (yields row_is)

pub returns-in-Purged-clause-yields : goal.returns-in-Purged-clause-yields
returns-in-Purged-clause-yields c V known is =
    of_state V _ _ known c.args.row.now c.args.entry.now c.later.result c.state.result _ c.denied.result
    c.later.ensures c.state.ensures c.in-Purged.is (c.denied.ensures.yields V known is)

pub returns-in-Live-clause-yields : goal.returns-in-Live-clause-yields
returns-in-Live-clause-yields c V known is =
    of_state V _ _ known c.args.row.now c.args.entry.now c.later.result c.state.result _ c.given.result
    c.later.ensures c.state.ensures (c.in-Kept.is ∙ ap (Kept c.in-Kept.number) c.in-Live.is)
    (c.given.ensures.yields V known is)

pub returns-in-Revoked-clause-yields : goal.returns-in-Revoked-clause-yields
returns-in-Revoked-clause-yields c V known is =
    of_state V _ _ known c.args.row.now c.args.entry.now c.later.result c.state.result _ _
    c.later.ensures c.state.ensures (c.in-Kept.is ∙ ap (Kept c.in-Kept.number) c.in-Revoked.is)
    (c.denied-in-Revoked.ensures.yields V known is)

pub returns-in-Expired-clause-yields : goal.returns-in-Expired-clause-yields
returns-in-Expired-clause-yields c V known is =
    of_state V _ _ known c.args.row.now c.args.entry.now c.later.result c.state.result _ _
    c.later.ensures c.state.ensures (c.in-Kept.is ∙ ap (Kept c.in-Kept.number) c.in-Expired.is)
    (c.denied-in-Expired.ensures.yields V known is)
