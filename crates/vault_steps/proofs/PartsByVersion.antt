-- The rows of a database tell each part of what they stand for, in whatever version.
use Rattle.std.proofs.Common.{◌≡◌, ◌∙◌, true, false, option_map, refl, sym}
use Rattle.sqlite.specs.Tree.{Trees}
use Rattle.sql_tables.proofs.Determined.{same_at_ids}
use Rattle.sql_tables.specs.States.{StandsIn}
use Rattle.vault_schema.proofs.CountCodes.{count_coding}
use Rattle.vault_schema.proofs.EntryCodes.{entry_coding}
use Rattle.vault_schema.proofs.RecordCodes.{record_coding}
use Rattle.vault_schema.proofs.CardCodes.{card_back}
use Rattle.vault_schema.proofs.EntryCodes.{pointing_coding}
use Rattle.vault_schema.specs.Joined.{joined}
use Rattle.vault_schema.proofs.ByTable.{AreHeld, first_entries, held, joined_cards, joined_pointing}
use Rattle.vault_schema.specs.Layers.{Either}
use Rattle.vault_schema.specs.Versions.{Lookups, Stand, StandJoined, has_cards, schema_of, uncarded_claims}
use Rattle.vault_schema.specs.declared.version.Version.{Version}
use Rattle.vault_tables.proofs.OldMerchants.{same_merchants}
use Rattle.vault_tables.proofs.Replacing.{alike}
use Rattle.vault_tables.proofs.OldRights.{same_rights}

module _ (h k : Lookups) where
  -- entries are those that point, with their cards
  joined_entries : (v : Version) (db : Trees) (a : StandJoined v db h) (b : StandJoined v db k)
      → a.cards ≡ b.cards → a.pointing ≡ b.pointing → h.entries ≡ k.entries
  joined_entries v db a b cards pointing = λ i key.
      (a.joined.same key ∙ (λ j. option_map (joined (cards j)) (pointing j key)) ∙ sym (b.joined.same key)) i

  all_same : h.merchants ≡ k.merchants → h.counts ≡ k.counts → h.entries ≡ k.entries → h.records ≡ k.records
      → h.rights ≡ k.rights → h ≡ k
  all_same merchants counts entries records rights = λ i. record {
    merchants = merchants i;
    counts = counts i;
    entries = entries i;
    records = records i;
    rights = rights i;
  }

-- ---- part by part, in each version

module _ (v : Version) (db : Trees) (h k : Lookups) (a : Stand v db h) (b : Stand v db k) where
  first : AreHeld v db h
  first = held v db h a.rows

  other : AreHeld v db k
  other = held v db k b.rows

  same_entries : h.entries ≡ k.entries
  same_entries =
      elim (has_cards v) as (λ has. has_cards v ≡ has
      → Either has (StandJoined v db h) (StandsIn (schema_of v).tables (uncarded_claims v h) db)
      → Either has (StandJoined v db k) (StandsIn (schema_of v).tables (uncarded_claims v k) db)
      → h.entries ≡ k.entries) [
        | true ↦ λ has i j. joined_entries h k v db i j
            (same_at_ids card_back (joined_cards v db h has i) (joined_cards v db k has j))
            (alike pointing_coding (joined_pointing v db h has i) (joined_pointing v db k has j))
        | false ↦ λ none i j.
            alike entry_coding (first_entries v db h none i) (first_entries v db k none j)
      ] refl a.rows b.rows

  pub one_stand : h ≡ k
  one_stand =
      all_same h k (same_merchants v db h k a b)
      (alike count_coding (first.hold.1.1.0 refl) (other.hold.1.1.0 refl)) same_entries
      (alike record_coding (first.hold.1.1.1.1.0 refl) (other.hold.1.1.1.1.0 refl))
      (same_rights v db h k a b)
