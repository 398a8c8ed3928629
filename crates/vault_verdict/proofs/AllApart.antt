-- That no rowid comes twice is told of all tables.
use Rattle.std.proofs.Common.{◌≡◌, ℕ, Bool, List, [], ◌∷◌, IsTrue, refl, subst, sym, true}
use Rattle.std.proofs.lemmas.Bool.{and_from, and_parts}
use Rattle.std.specs.List.{list_all}
use Rattle.vault_verdict.specs.Apart.{AreApart, AreByRowid, TellsApart}
use Rattle.vault_tables.specs.MerchantTexts.{merchant_values}
use Rattle.vault_tables.specs.RightTexts.{right_values}
use Rattle.vault_tables.specs.CardTexts.{card_row}
use Rattle.vault_tables.specs.CountTexts.{count_values}
use Rattle.vault_tables.specs.EntryTexts.{entry_values}
use Rattle.vault_tables.specs.RecordTexts.{record_values}
use Rattle.vault_rules.specs.AllRows.{Rows}
use Rattle.vault_rules.specs.Seen.{HasRows}
use Rattle.vault_rules.specs.declared.records.Records.{Records}
use Rattle.vault_rules.specs.declared.rows.RawRight.{RawRight}
use Rattle.vault_rules.specs.declared.rows.RawVersion.{RawVersion}

-- each table's test tells whether its rowids are apart
pub record AreTold (rows : Rows) (a b c d e f : Bool) : Type 0 where
  pub merchants : TellsApart merchant_values (λ m. m.rowid) rows.merchants a
  pub counts : TellsApart count_values (λ n. n.rowid) rows.counts b
  pub cards : TellsApart card_row (λ k. k.id) rows.cards c
  pub entries : TellsApart entry_values (λ x. x.rowid) rows.entries d
  pub records : TellsApart record_values (λ r. r.rowid) rows.records e
  pub rights : TellsApart right_values (λ r. r.rowid) rows.rights f

module _ (rows : Rows) (a b c d e f : Bool) (tell : AreTold rows a b c d e f) where
  pub apart_by : IsTrue (list_all (λ is. is) (a ∷ b ∷ c ∷ d ∷ e ∷ f ∷ [])) → AreApart rows
  apart_by told =
      let one = and_parts a _ told in
      let two = and_parts b _ one.1 in
      let three = and_parts c _ two.1 in
      let four = and_parts d _ three.1 in
      let five = and_parts e _ four.1 in
      let six = and_parts f true five.1 in
      record {
        merchants = tell.merchants.apart one.0;
        counts = tell.counts.apart two.0;
        cards = tell.cards.apart three.0;
        entries = tell.entries.apart four.0;
        records = tell.records.apart five.0;
        rights = tell.rights.apart six.0;
      }

  pub told_by : AreByRowid rows → AreApart rows
      → IsTrue (list_all (λ is. is) (a ∷ b ∷ c ∷ d ∷ e ∷ f ∷ []))
  told_by ordered apart =
      and_from a _ (tell.merchants.only ordered.merchants apart.merchants)
      (and_from b _ (tell.counts.only ordered.counts apart.counts)
      (and_from c _ (tell.cards.only ordered.cards apart.cards)
      (and_from d _ (tell.entries.only ordered.entries apart.entries)
      (and_from e _ (tell.records.only ordered.records apart.records)
      (and_from f true (tell.rights.only ordered.rights apart.rights) refl)))))

-- rows came as they were read
pub rights_as : (rows : Rows) (versions : List RawVersion) (replaced : ℕ) (it : Records)
    (rights read : List RawRight) → HasRows rows versions replaced it rights → read ≡ rights
    → HasRows rows versions replaced it read
rights_as rows versions replaced it rights read has same =
    subst (HasRows rows versions replaced it) (sym same) has
