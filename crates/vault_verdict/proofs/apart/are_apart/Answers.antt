use Rattle.std.proofs.Common.{◌∙◌, List, ap, refl, subst, IsTrue, sym}
use Rattle.vault_verdict.proofs.AllApart.{AreTold, apart_by, told_by}
use Rattle.vault_verdict.proofs.RisingRowids.{rising_apart}
use Rattle.vault_verdict.proofs.apart.are_apart.Goals as goal
use Rattle.vault_verdict.specs.Apart.{TellsApart}
use Rattle.vault_verdict.specs.Taken.{HasJudged}
use Rattle.vault_tables.specs.MerchantTexts.{merchant_values}
use Rattle.vault_tables.specs.RightTexts.{right_values}
use Rattle.vault_tables.specs.CardTexts.{card_row}
use Rattle.vault_tables.specs.CountTexts.{count_values}
use Rattle.vault_tables.specs.EntryTexts.{entry_values}
use Rattle.vault_tables.specs.RecordTexts.{record_values}
use Rattle.vault_rules.specs.declared.card_rows.Cards.{Cards}
use Rattle.vault_rules.specs.declared.entries.Entries.{Entries}
use Rattle.vault_rules.specs.declared.index.Index.{Index}
use Rattle.vault_rules.specs.declared.rising.Rising.{Rising}
use Rattle.vault_rules.specs.declared.rows.RawVersion.{RawVersion}
use Rattle.vault_rules.specs.AllRows.{Rows}

-- what the test of each table told
told : (c : goal.After-all_of) (rows : Rows) (versions : List RawVersion)
    → HasJudged rows versions c.args.behind.now
    → AreTold rows c.merchants-2.result c.counts-2.result c.rises.result c.rises-2.result c.rises-3.result
    c.rights.result
told c rows versions has =
    let entries = c.entries-entries.ensures in
    let index = c.index-index.ensures ∙ ap (λ (e : Entries). e.index) entries in
    record {
      merchants = subst (λ l. TellsApart merchant_values (λ m. m.rowid) l c.merchants-2.result)
          (c.merchants.ensures ∙ ap (λ (i : Index). i.merchants.now) index ∙ has.merchants)
          c.merchants-2.ensures;
      counts = subst (λ l. TellsApart count_values (λ n. n.rowid) l c.counts-2.result)
          (c.counts.ensures ∙ ap (λ (i : Index). i.counts.now) index ∙ has.counts) c.counts-2.ensures;
      cards = rising_apart (λ k. k.id) card_row (λ m. refl) rows.cards c.rises.result
          (c.rises.ensures ∙ ap (λ (r : Rising). r.rises) (c.rowids.ensures
          ∙ ap (λ (k : Cards). k.rowids) (c.cards.ensures ∙ ap (λ (i : Index). i.cards) index))
          ∙ has.entries.held.rowids.rises);
      entries = rising_apart (λ e. e.rowid) entry_values (λ m. refl) rows.entries c.rises-2.result
          (c.rises-2.ensures ∙ ap (λ (r : Rising). r.rises) (c.rowids-2.ensures
          ∙ ap (λ (e : Entries). e.rowids) entries) ∙ has.entries.rowids.rises);
      records = rising_apart (λ r. r.rowid) record_values (λ m. refl) rows.records c.rises-3.result
          (c.rises-3.ensures ∙ ap (λ (r : Rising). r.rises) c.rowids-3.ensures ∙ has.records.rowids.rises);
      rights = subst (λ l. TellsApart right_values (λ r. r.rowid) l c.rights.result)
          (c.deref.ensures.value ∙ has.rights) c.rights.ensures;
    }

pub returns-clause-apart : goal.returns-clause-apart
returns-clause-apart c rows versions has all =
    apart_by rows _ _ _ _ _ _ (told c rows versions has) (subst IsTrue c.all_of.ensures all)

pub returns-clause-only : goal.returns-clause-only
returns-clause-only c rows versions has ordered apart =
    subst IsTrue (sym c.all_of.ensures)
    (told_by rows _ _ _ _ _ _ (told c rows versions has) ordered apart)
