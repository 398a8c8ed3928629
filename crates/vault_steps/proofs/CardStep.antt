-- The step from schema 1 to schema 2, statement by statement.
use Rattle.std.proofs.Common.{◌≡◌, ◌++◌, ℤ, pos, List, [], ◌∷◌, Option, None, refl}
use Rattle.std.proofs.Common.{sym, subst, ℕ, not, Ok, IsTrue}
use Rattle.sqlite.specs.Collation.TheVariants.{Binary}
use Rattle.sqlite.specs.Edit.{without_all}
use Rattle.sqlite.specs.Effect.{Database}
use Rattle.sqlite.specs.Listing.{understood}
use Rattle.sqlite.specs.Order.{Row}
use Rattle.sqlite.specs.State.{ExecutesInside, HasCleanDisk, State}
use Rattle.sqlite.specs.Term.{col, op2}
use Rattle.sqlite.specs.Tree.{Trees, has_rowid, without_rowid}
use Rattle.sqlite.specs.declared.types.Value.TheVariants.{Null, Int}
use Rattle.sql_tables.specs.Rows.{AreRowsById}
use Rattle.sql_tables.specs.States.{Claim, IsEmpty, StandsIn, Steps, Within, at_place}
use Rattle.sql_tables.proofs.ByKey.{no_rows}
use Rattle.sql_tables.proofs.KeyTests.{int_eq}
use Rattle.sql_tables.proofs.Moves.{change_one, empty_in}
use Rattle.sql_tables.proofs.Plain.{claimed}
use Rattle.sql_tables.proofs.Statements.{Ran, retold, written}
use Rattle.sql_tables.proofs.Steps.{delete_wrote}
use Rattle.sql_tables.specs.Schema.{table_of}
use Rattle.sql_tables.specs.Texts.{IsWrite, delete}
use Rattle.sqlite_rules.proofs.ListLemmas.{has_filtered}
use Rattle.sqlite_rules.specs.Calls.{ids_of}
use Rattle.sqlite_rules.specs.Lists.{Has}
use Rattle.sqlite_sql.specs.declared.ops.BinaryOp.TheVariants.{Compare}
use Rattle.sqlite_sql.specs.declared.ops.CompareOp.TheVariants.{Le}
use Rattle.sqlite_tied.specs.Compute.{everything}
use Rattle.vault_core.specs.Keys.{Bytes}
use Rattle.vault_core.specs.declared.row.Entry.{Entry}
use Rattle.vault_schema.specs.Entries.{old_entries}
use Rattle.vault_schema.specs.VersionRows.{vault}
use Rattle.vault_schema.specs.Schemas.{v1}
use Rattle.vault_schema.specs.Joined.{AreJoined, nothing_owed}
use Rattle.vault_schema.specs.Cards.{card_columns}
use Rattle.vault_schema.specs.Entries.{pointing_row}
use Rattle.vault_schema.specs.Schemas.{v2}
use Rattle.vault_schema.specs.Versions.{Lookups, WithinOf, claims_of, first_claims, tables_of}
use Rattle.vault_schema.specs.declared.rows.Card.{Card}
use Rattle.vault_schema.specs.declared.rows.Pointing.{Pointing}
use Rattle.vault_tables.specs.declared.cards.TheConstants.{CREATE_CARDS}
use Rattle.vault_tables.specs.declared.entries.TheConstants.{CREATE_ENTRIES, CREATE_ENTRIES_CARD}
use Rattle.vault_tables.specs.declared.entries.old.TheConstants.{EMPTY_OLD_ENTRIES}
use Rattle.vault_tables.specs.declared.versions.TheConstants.{SET_SECOND}
use Rattle.vault_schema.specs.declared.version.Version.TheVariants.{One, Two}
use Rattle.vault_tables.proofs.SecondMaking.{makes_second, with_cards, with_entries}
use Rattle.vault_tables.specs.VersionTexts.{empty_entries_is, set_version_is}
use Rattle.vault_tables.specs.Calls.{IsWithin}
use Rattle.vault_steps.specs.Entries.{AreEntriesOf, with_all, without_entries}
use Rattle.vault_steps.specs.Room.{AreNumbered, entries_going, tables_made}
use Rattle.vault_steps.specs.declared.room.TheConstants.{DROP_ENTRIES}
use Rattle.vault_steps.proofs.Entered.{all_entered}
use Rattle.vault_tables.proofs.Inside.{Did, closed, index_in, ran_in, table_in}

-- the entries are gone, and then the version is that of schema 2
abbrev emptied : Lookups → List Claim
emptied h = at_place (entries_going h) 3 IsEmpty

abbrev versioned : Lookups → List Claim
versioned h = at_place (emptied h) 0 (λ rows. rows ≡ (Int (pos 1) ∷ Null ∷ Int (pos 2) ∷ []) ∷ [])

-- the statement that takes entries away
drop_entries_is : IsWrite v2 DROP_ENTRIES.now
    (delete 3 5 (op2 (Compare Le Binary) (col 1 0) (col 0 0) ∷ []))
unfolding understood everything
drop_entries_is = record { is = refl; plain = (refl, refl) }

-- no cards, and no entries
abbrev no_cards : ℤ → Option Card
no_cards id = None

abbrev none_point : Bytes × Bytes → Option Pointing
none_point key = None

-- then the tables are those of what is looked up without entries
ready : (h : Lookups) (db : Trees) → StandsIn v2.tables (versioned h) db
    → StandsIn v2.tables (claims_of Two (tables_of (without_entries h) no_cards none_point)) db
ready h db s = (
  s.0,
  (
    s.1.0,
    (
      s.1.1.0,
      (
        s.1.1.1.0,
        (
          s.1.1.1.1.0,
          (
            s.1.1.1.1.1.0,
            (
              subst (λ l. AreRowsById card_columns l no_cards) (sym s.1.1.1.1.1.1.0)
                  (record { apart = tt; sound = λ r there. absurd there; complete = λ n x h. absurd cc }),
              (no_rows pointing_row (db 14) _ s.1.1.1.1.1.1.1.0 (λ key. refl), tt),
            ),
          ),
        ),
      ),
    ),
  ),
)

none_joined : AreJoined nothing_owed no_cards none_point (λ key. None)
none_joined = record {
  same = λ key. refl;
  owned = λ key id h. absurd cc;
  once = λ a b c d h. absurd cc;
  used = λ id c h. absurd cc;
}

module _ {h : Lookups} {base : Database} {a b c d : State} (w : WithinOf One h base a)
    (one' : Steps a b) (two' : Steps b c) (three' : Steps c d)
    (cards : Did CREATE_CARDS.now a b) (entries : Did CREATE_ENTRIES.now b c)
    (index : Did CREATE_ENTRIES_CARD.now c d) where
  first : Within v1 (first_claims h) base a
  first = record {
    free = w.free;
    inside = w.inside;
    committed = w.committed;
    stands = record { schema = w.is.schema; sound = w.is.sound; rows = w.is.stand.rows };
  }

  after_cards : Within with_cards (first_claims h ++ IsEmpty ∷ []) base b
  after_cards = table_in refl makes_second.for_cards (ran_in one' cards first)

  after_entries : Within with_entries (tables_made h) base c
  after_entries = table_in refl makes_second.for_entries (ran_in two' entries after_cards)

  -- both tables are there
  pub tabled : Within v2 (tables_made h) base d
  tabled = index_in makes_second.all makes_second.for_card (ran_in three' index after_entries)

-- rows that are left were there
left_of : (ids : List ℤ) (rows : List Row) (r : Row) → Has (without_all rows ids) r → Has rows r
left_of [] rows r h = h
left_of (id ∷ ids) rows r h =
    (has_filtered (λ r. not (has_rowid id r)) rows r (left_of ids (without_rowid id rows) r h)).0

module _ (h : Lookups) (base : Database) where
  -- and the entries may go
  pub going : {st : State} → Within v2 (tables_made h) base st → Within v2 (entries_going h) base st
  going {st} = retold v2 (tables_made h) (entries_going h) base st
      (λ db s. (s.0, (s.1.0, (s.1.1.0, (s.1.1.1.0.keyed, s.1.1.1.1)))))

  -- some of them go
  pub dropped : (params : Row) {old new : State} → Within v2 (entries_going h) base old → Steps old new
      → (IsTrue old.in_transaction → (count : ℕ)
      × ExecutesInside 0 DROP_ENTRIES.now params old new (Ok count))
      → Within v2 (entries_going h) base new
  dropped params {old} {new} w steps ran =
      let did = ran w.inside in
      let run : Ran v2 (entries_going h) base old new DROP_ENTRIES.now params =
      record { within = w; count = did.0; ran = did.1; limit = steps.limit } in
      let wrote = delete_wrote v2 refl old_entries DROP_ENTRIES.now params old new did.0 3 refl
      w.stands.schema did.1.0 _ drop_entries_is in
      let numbered = claimed v2.tables (entries_going h) 3 (table_of old_entries) old.now.trees refl
      w.stands.rows in
      written refl run wrote.3 old_entries 3 refl (ids_of wrote.0) [] AreNumbered wrote.2
      (λ r there. numbered r (left_of (ids_of wrote.0) (old.now.trees 5) r there))

-- entries went, and nothing else was done
abbrev pub AreDropped : State → State → Type 0
AreDropped old new =
    Steps old new × (HasCleanDisk new → (base : Database) (h : Lookups)
    → Within v2 (entries_going h) base old → Within v2 (entries_going h) base new)

module _ (h : Lookups) {base : Database} {d e f : State} (w : Within v2 (entries_going h) base d)
    (four' : Steps d e) (five' : Steps e f) (empty : Did EMPTY_OLD_ENTRIES.now d e)
    (version : Did SET_SECOND.now e f) where
  after_empty : Within v2 (emptied h) base e
  after_empty = empty_in refl (ran_in four' empty w) old_entries 3 refl (empty_entries_is [] [])
      (λ said r there. said r there)

  after_version : Within v2 (versioned h) base f
  after_version =
      change_one refl (ran_in five' version after_empty) vault 0 refl _ _ (set_version_is [] []) (pos 1)
      (Null ∷ Int (pos 1) ∷ []) (Null ∷ Int (pos 2) ∷ []) (λ said. said) (rw (int_eq (pos 1) (pos 1)) refl)
      refl refl

  pub roomy : IsWithin Two f base (without_entries h)
  roomy = record {
    cards = no_cards;
    pointing = none_point;
    has = retold v2 (versioned h) (claims_of Two (tables_of (without_entries h) no_cards none_point)) base f
        (ready h) after_version;
    joined = none_joined;
  }

-- with all entries written it stands in schema 2
pub carded : {h : Lookups} {base : Database} {first last : State} → WithinOf One h base first
    → (xs : List (Bytes × Bytes × Entry)) → AreEntriesOf xs h
    → IsWithin Two last base (record h { entries = with_all xs (without_entries h).entries })
    → WithinOf Two h base last
carded {h} {base} {first} {last} w xs are done =
    let now : IsWithin Two last base h =
    subst (λ (e : Bytes × Bytes → Option Entry). IsWithin Two last base (record h { entries = e }))
    (all_entered h xs are) done in
    closed Two (record {
      cards = now.cards;
      pointing = now.pointing;
      rows = now.has.stands.rows;
      joined = now.joined;
    }) w.is.stand.defaults (claims_of Two (tables_of h now.cards now.pointing)) now.has
