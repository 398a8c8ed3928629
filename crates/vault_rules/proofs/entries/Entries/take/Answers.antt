use Rattle.std.proofs.Common.{◌≡◌, ◌∙◌, ℕ, ℤ, List, Some, ◌+◌, ◌∷◌, ◌++◌, [], ap, sym, map, subst, rules}
use Rattle.std.proofs.Common.{w64, SFits}
use Rattle.std.specs.Global.{Vec}
use Rattle.std.specs.Prelude.{slice_index_or}
use Rattle.std.proofs.lemmas.Int.{to_z-of_z}
use Rattle.std.proofs.lemmas.List.{length-append, map-append}
use Rattle.vault_rules.proofs.EntriesTaken.{card_used, card_unused}
use Rattle.vault_rules.proofs.entries.Entries.take.Goals.{After-pointed}
use Rattle.vault_rules.proofs.entries.Entries.take.Goals as goal
use Rattle.vault_rules.specs.Found.{IsFoundIn}
use Rattle.vault_rules.specs.Kept.{place_of}
use Rattle.vault_rules.specs.Lookups.{used_by}
use Rattle.vault_rules.specs.RisingNumbers.{IsRisingOver}
use Rattle.vault_rules.specs.Seen.{AreLive, HasEntries, HoldTokens, KeepRules}
use Rattle.vault_rules.specs.declared.rows.RawCard.{RawCard}
use Rattle.vault_rules.specs.declared.rows.RawEntry.{RawEntry}
use Rattle.vault_rules.specs.declared.rows.RawMerchant.{RawMerchant}

-- what came but for the counts of the cards
module _ (c : After-pointed) (cards : List RawCard) (raws : List RawEntry)
    (has : HasEntries c.args.self.now cards raws) where
  abbrev all : List RawEntry
  all = raws ++ c.args.entry.now ∷ []

  abbrev merchants : List RawMerchant
  merchants = c.args.self.now.index.merchants.now

  found : IsFoundIn merchants cards c.found-found.result
  found = c.found-found.ensures.found cards has.held

  rowids : IsRisingOver c.take.new.self (map (λ (e : RawEntry). e.rowid) all)
  rowids =
      let e = c.args.entry.now in
      let numbered : SFits w64 e.rowid = search rules in
      subst (IsRisingOver c.take.new.self) (sym (map-append (λ (e : RawEntry). e.rowid) raws (e ∷ [])))
      (subst (λ z. IsRisingOver c.take.new.self (map (λ (e : RawEntry). e.rowid) raws ++ z ∷ []))
      (to_z-of_z w64 e.rowid numbered) (c.take.ensures _ has.rowids))

  rules_kept : KeepRules merchants cards c.take-2.new.self all
  rules_kept = subst (λ x. KeepRules merchants cards c.take-2.new.self (raws ++ x ∷ []))
      c.found-found.ensures.entry (c.take-2.ensures merchants cards found raws has.rules)

  live : AreLive merchants cards c.take-3.new.self all
  live = subst (λ x. AreLive merchants cards c.take-3.new.self (raws ++ x ∷ [])) c.found-found.ensures.entry
      (c.in_ok-take.ensures merchants cards found raws has.live)

  tokens : HoldTokens merchants c.take-4.new.self all
  tokens = subst (λ x. HoldTokens merchants c.take-4.new.self (raws ++ x ∷ [])) c.found-found.ensures.entry
      (c.in_ok-take-2.ensures merchants cards found raws has.tokens)

  came : (used : Vec ℕ) → ((id : ℤ) (place : ℕ) → place_of cards id ≡ Some place
      → slice_index_or used.items place 0 ≡ used_by all id)
      → HasEntries (record {
        index = c.args.self.now.index;
        many = c.in_ok-self.field-0;
        rowids = c.take.new.self;
        rules = c.take-2.new.self;
        live = c.take-3.new.self;
        tokens = c.take-4.new.self;
        used = used;
      }) cards all
  came used counted = record {
    held = has.held;
    many = c.in_ok-self.ensures ∙ ap (λ n. n + 1) has.many ∙ sym (length-append raws (c.args.entry.now ∷ []));
    rowids = rowids;
    rules = rules_kept;
    live = live;
    tokens = tokens;
    used = counted;
  }

pub returns-in_ok-count_at-clause-taken : goal.returns-in_ok-count_at-clause-taken
returns-in_ok-count_at-clause-taken c cards raws has =
    came (goal.at.returns-in_ok-count_at-clause-taken c).After-pointed cards raws has _
    (λ id place there. card_used cards id place there raws c.args.entry.now c.in-Some.place _ _
    (sym (c.pointed.ensures cards has.held) ∙ c.in-Some.is) (c.in_ok-count_at.ensures place)
    (has.used id place there))

pub returns-in_default-clause-taken : goal.returns-in_default-clause-taken
returns-in_default-clause-taken c cards raws has =
    came (goal.at.returns-in_default-clause-taken c).After-pointed cards raws has _
    (λ id place there. card_unused cards id place there raws c.args.entry.now _
    (sym (c.pointed.ensures cards has.held) ∙ c.in_default.is) (has.used id place there))
