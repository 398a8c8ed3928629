use Rattle.std.proofs.Common.{◌≡◌, drop, List}
use Rattle.std.specs.List.{list_all}
use Rattle.vault_rules.specs.HeldRows.{seen_card}
use Rattle.vault_rules.specs.Kept.{is_used}
use Rattle.vault_rules.specs.Seen.{HasEntries}
use Rattle.vault_rules.specs.declared.rows.RawCard.{RawCard}
use Rattle.vault_rules.specs.declared.rows.RawEntry.{RawEntry}
use Rattle.vault_rules.proofs.rules.cards.have_uses.Given as goal

abbrev pub invariant-loop-card : goal.invariant-loop-card
invariant-loop-card l =
    let kept = l.entries.index.cards.kept.items in
    (cards : List RawCard) (raws : List RawEntry) → HasEntries l.entries cards raws
    → list_all (λ c. is_used raws (seen_card c)) (drop l.card-index kept)
    ≡ list_all (λ c. is_used raws (seen_card c)) kept
