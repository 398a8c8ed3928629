use Rattle.std.proofs.Common.{◌≡◌, ◌∙◌, ◌++◌, ◌∷◌, [], List, Some, true, ap, sym, is_some, true≢false, rules}
use Rattle.std.proofs.Common.{w64}
use Rattle.std.proofs.lemmas.Bool.{and_parts}
use Rattle.std.proofs.lemmas.Int.{to_z-of_z}
use Rattle.std.specs.Option.{option_copied}
use Rattle.vault_rules.proofs.TokenLemmas.{held_step, held_still, usage_step}
use Rattle.vault_rules.proofs.Walks.{all_first, all_last}
use Rattle.vault_rules.specs.Rules.{has_token}
use Rattle.vault_rules.proofs.entries.tokens.Tokens.take.Goals.{After-is_token}
use Rattle.vault_rules.proofs.entries.tokens.Tokens.take.Goals as goal
use Rattle.vault_core.specs.Keys.{Bytes}
use Rattle.vault_rules.specs.Found.{IsFoundIn}
use Rattle.vault_rules.specs.Index.{at_text}
use Rattle.vault_rules.specs.Lookups.{held_by, is_known, merchant_of}
use Rattle.vault_rules.specs.Seen.{HoldTokens}
use Rattle.vault_rules.specs.declared.rows.RawCard.{RawCard}
use Rattle.vault_rules.specs.declared.rows.RawEntry.{RawEntry}
use Rattle.vault_rules.specs.declared.rows.RawMerchant.{RawMerchant}
use Rattle.std.specs.Prelude.{string_bytes, unwrap_or}
use Rattle.vault_rules.specs.Packed.{packed}
use Rattle.vault_rules.specs.Texts.{is_token}

pub returns-in_default : goal.returns-in_default
returns-in_default c merchants cards is raws were =
    let e = c.args.found.now.entry.now in
    let none = sym is.merchant ∙ ap option_copied c.in_default.is in
    record {
      held = λ name known. were.held name known ∙ sym (held_still merchants raws e name none known);
      usages = λ all name token known valid.
          let last = all_last (has_token merchants) raws e all in
          absurd (true≢false (sym (and_parts _ _ last).0 ∙ ap is_some none));
    }

-- of an entry with a merchant, how many each merchant has
module _ (c : After-is_token) (merchants : List RawMerchant) (cards : List RawCard) (raws : List RawEntry)
    (is : IsFoundIn merchants cards c.args.found.now) (were : HoldTokens merchants c.args.self.now raws) where
  found : merchant_of merchants (string_bytes c.args.found.now.entry.now.merchant)
      ≡ Some c.in-Some.merchant.now
  found = sym is.merchant ∙ ap option_copied c.in-Some.is

  held : (name : Bytes) → is_known merchants name ≡ true → unwrap_or (at_text c.count_one.new.map name) 0
      ≡ held_by (raws ++ c.args.found.now.entry.now ∷ []) name
  held name known =
      held_step merchants raws c.args.found.now.entry.now c.in-Some.merchant.now _ name _ _ found
      c.as_str-name.ensures.value (c.in_ok-count_one.ensures (record { ref_ptr = (0, 0); now = name }))
      (were.held name known)

pub returns-in_ok-put_first : goal.returns-in_ok-put_first
returns-in_ok-put_first c merchants cards is raws were =
    let e = c.args.found.now.entry.now in
    let at = (goal.at.returns-in_ok-put_first c).After-is_token in
    record {
      held = held at merchants cards raws is were;
      usages = λ all name token known valid.
          usage_step merchants raws e c.in-Some.merchant.now _ name token _ _ _ _
          (found at merchants cards raws is were) c.as_str-name.ensures.value
          (c.packed.ensures ∙ ap packed c.as_bytes-token.ensures.value)
          (to_z-of_z w64 e.usage (search rules))
          (ap is_token (sym c.as_bytes-token.ensures.value) ∙ sym c.is_token.ensures ∙ c.if-is_token.true)
          valid
          (c.in_ok-put_first.ensures (packed token, record { ref_ptr = (0, 0); now = name }))
          (were.usages (all_first (has_token merchants) raws e all) name token known valid);
    }

pub returns-else-is_token : goal.returns-else-is_token
returns-else-is_token c merchants cards is raws were = record {
  held = held (goal.at.returns-else-is_token c).After-is_token merchants cards raws is were;
  usages = λ all name token known valid.
      let last = all_last (has_token merchants) raws c.args.found.now.entry.now all in
      absurd (true≢false (sym (and_parts _ _ last).1
      ∙ ap is_token (sym c.as_bytes-token.ensures.value) ∙ sym c.is_token.ensures ∙ c.if-is_token.false));
}
