-- A token is asked for of two vaults that agree on the merchant's rows and on the caller's records.
use Rattle.std.proofs.Common.{◌≡◌, ◌==◌, ℕ, cond, Bool, true, false, Option, Some, None, not, refl, sym, ap}
use Rattle.std.proofs.Common.{subst, subst₂}
use Rattle.std.specs.Prelude.{◌&&◌}
use Rattle.std.specs.Option.{option_map_or}
use Rattle.vault_pan.specs.CardText.{same}
use Rattle.vault_core.specs.Draw.{chosen_token}
use Rattle.vault_core.specs.Isolation.{AgreeAt, AgreeFor}
use Rattle.vault_core.specs.Keys.{Bytes}
use Rattle.vault_core.specs.Outcome.{Outcome, plain_reply, plain_refusal, of_merchant, moved_vault}
use Rattle.vault_core.specs.Refusals.{no_right, wrong_use, number_reused, full, no_candidate}
use Rattle.vault_core.specs.Repeats.{current, is_repeat, is_number_of, same_use, reusable}
use Rattle.vault_core.specs.Tokens.{with_record, token_again, life_asked, new_entry, new_token, drawing}
use Rattle.vault_core.specs.Tokens.{new_request, repetition, earlier_request, tokenize}
use Rattle.vault_core.specs.Vault.{Vault, Merchant, entry_at, record_at, entitled, made_count, time_at}
use Rattle.vault_core.specs.declared.limit.TheConstants.{MOST_TOKENS}
use Rattle.vault_core.specs.declared.command.TokenRequest.{TokenRequest}
use Rattle.vault_core.specs.declared.reply.Reply.TheVariants.{Token}
use Rattle.vault_core.specs.declared.right.Right.TheVariants as right
use Rattle.vault_core.specs.declared.row.Entry.{Entry}
use Rattle.vault_core.specs.declared.row.Record.{Record}
use Rattle.vault_core.proofs.AgreeingVaults.{same-made, same-current, same-chosen}
use Rattle.vault_core.proofs.AgreeingCommands.{Alike, alike-unchanged, alike-refused, alike-of_merchant}
use Rattle.vault_core.proofs.Branches.{both_by_test, both_by_option}
use Rattle.vault_core.proofs.CurrentLemmas.{same-is}
use Rattle.vault_core.proofs.AgreeingChanges.{Together, and_then, set_row, set_entry, set_record}

module _ (V W : Vault) (a : TokenRequest) (agree : AgreeAt a.merchant V W) where
  abbrev Both : Outcome → Outcome → Type 0
  Both = Alike a.merchant (Some a.caller) V W

  alike-refusal : (number : ℕ) → Both (plain_refusal V number) (plain_refusal W number)
  alike-refusal = alike-refused a.merchant (Some a.caller) V W agree

  recorded_together : (known : Merchant) (token : Bytes)
      → Together a.merchant (Some a.caller) V W (with_record V a known token) (with_record W a known token)
  recorded_together known token =
      and_then (set_row a.merchant (Some a.caller) V W (record known { moment = time_at known a.moment }))
      (set_record a.merchant (moved_vault V a.merchant known a.moment)
      (moved_vault W a.merchant known a.moment) a.caller a.request
      (record { merchant = a.merchant; token = token; usage = a.usage }))

  alike-again : (known : Merchant) (held : Bytes × Entry)
      → Both (token_again V a known held) (token_again W a known held)
  alike-again known held = record { reply = refl; after = recorded_together known held.0 }

  alike-new : (known : Merchant) (token : Bytes)
      → Both (new_token V a known token) (new_token W a known token)
  alike-new known token = record {
    reply = refl;
    after = and_then (recorded_together known token)
        (set_entry a.merchant (Some a.caller) (with_record V a known token) (with_record W a known token)
        token (new_entry a known));
  }

  alike-drawn : (known : Merchant) → Both (drawing V a known) (drawing W a known)
  alike-drawn known =
      both_by_test Both V W (λ U. made_count U a.merchant == MOST_TOKENS)
      (ap (λ n. n == MOST_TOKENS) (same-made a.merchant V W agree))
      (λ U. plain_refusal U full)
      (λ U. option_map_or (new_token U a known) (chosen_token U a.merchant a.pan a.digits)
      (plain_refusal U no_candidate))
      (alike-refusal full)
      (both_by_option Both V W (λ U. chosen_token U a.merchant a.pan a.digits)
      (same-chosen a.merchant V W agree a.pan a.digits)
      (λ U. new_token U a known) (λ U. plain_refusal U no_candidate)
      (λ token. alike-new known token)
      (alike-refusal no_candidate))

  alike-new_request : (known : Merchant) → Both (new_request V a known) (new_request W a known)
  alike-new_request known =
      both_by_test Both V W
      (λ U. not (entitled U a.caller a.merchant right.Tokenize (time_at known a.moment)))
      (ap not (agree.rights a.caller right.Tokenize (time_at known a.moment)))
      (λ U. plain_refusal U no_right) offered
      (alike-refusal no_right)
      (both_by_test Both V W (λ U. life_asked a known == 0) refl (λ U. plain_refusal U wrong_use) found
      (alike-refusal wrong_use)
      (both_by_option Both V W (λ U. reusable a.usage (current U a.merchant a.pan (time_at known a.moment)))
      (ap (reusable a.usage) (same-current a.merchant V W agree a.pan (time_at known a.moment)))
      (λ U. token_again U a known) (λ U. drawing U a known)
      (λ held. alike-again known held)
      (alike-drawn known)))
    where
      found : Vault → Outcome
      found U = option_map_or (token_again U a known) (reusable a.usage
          (current U a.merchant a.pan (time_at known a.moment))) (drawing U a known)

      offered : Vault → Outcome
      offered U = cond (life_asked a known == 0) (plain_refusal U wrong_use) (found U)

  -- a record that names another merchant is refused, whether its entry is there or not
  elsewhere : (U : Vault) (r : Record) → same r.merchant a.merchant ≡ false
      → earlier_request U a r ≡ plain_refusal U number_reused
  elsewhere U r apart = go (entry_at U r.merchant r.token)
    where
      go : (o : Option Entry)
          → option_map_or (repetition U a r) o (plain_refusal U number_reused) ≡ plain_refusal U number_reused
      go None = refl
      go (Some entry) =
          ap (λ b. cond (b && same_use r.usage a.usage && is_number_of a.pan r.token entry.number)
          (plain_reply U (Token r.token entry.expires)) (plain_refusal U number_reused)) apart

  alike-came : (r : Record) → Both (earlier_request V a r) (earlier_request W a r)
  alike-came r = by_merchant (same r.merchant a.merchant) refl
    where
      by_merchant : (b : Bool) → same r.merchant a.merchant ≡ b
          → Both (earlier_request V a r) (earlier_request W a r)
      by_merchant true own =
          both_by_option Both V W (λ U. entry_at U r.merchant r.token)
          (subst (λ (n : Bytes). entry_at V n r.token ≡ entry_at W n r.token)
          (sym (same-is r.merchant a.merchant own)) (agree.entries r.token))
          (λ U. repetition U a r) (λ U. plain_refusal U number_reused)
          (λ entry. both_by_test Both V W (λ U. is_repeat a.merchant a.usage a.pan r entry) refl
          (λ U. plain_reply U (Token r.token entry.expires)) (λ U. plain_refusal U number_reused)
          (alike-unchanged a.merchant (Some a.caller) V W agree (Token r.token entry.expires))
          (alike-refusal number_reused))
          (alike-refusal number_reused)
      by_merchant false apart =
          subst₂ Both (sym (elsewhere V r apart)) (sym (elsewhere W r apart)) (alike-refusal number_reused)

  pub alike-tokenize : AgreeFor a.caller V W → Both (tokenize V a) (tokenize W a)
  alike-tokenize records =
      both_by_option Both V W (λ U. record_at U a.caller a.request) (records a.request)
      (λ U. earlier_request U a) (λ U. of_merchant U a.merchant (new_request U a))
      alike-came
      (alike-of_merchant a.merchant (Some a.caller) V W agree (λ U. new_request U a) alike-new_request)
