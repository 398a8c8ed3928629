-- An entry is written: its number's card is used once more, and the card that it had once less.
use Rattle.std.proofs.Common.{◌≡◌, ◌∙◌, ℤ, Option, Some, refl, sym, ap, subst, Result, Ok, None, arith}
use Rattle.std.proofs.Common.{option_and_then}
use Rattle.sqlite.specs.State.{State, HasCleanDisk}
use Rattle.sql_tables.proofs.Calls.{steps_then}
use Rattle.sql_tables.specs.Rows.{put}
use Rattle.vault_core.specs.Keys.{Bytes, entry_cmp}
use Rattle.vault_core.specs.declared.row.Entry.{Entry}
use Rattle.vault_schema.proofs.CardJoining.{pointed}
use Rattle.vault_schema.specs.Joined.{AreJoined, card_of, joined, nothing_owed, owed_to}
use Rattle.vault_schema.specs.Versions.{Lookups, Tables, tables_of}
use Rattle.vault_schema.specs.declared.rows.Card.{Card}
use Rattle.vault_schema.specs.declared.rows.Pointing.{Pointing}
use Rattle.vault_schema.specs.declared.version.Version.{Version}
use Rattle.vault_tables.proofs.Calls.{on_if}
use Rattle.vault_tables.specs.Calls.{HasTables, Makes, TellsInside, Turns}
use Rattle.vault_tables.specs.CardUses.{OwesNoMore, OwesNumber, pointed_at}

module _ (h : Lookups) (cards : ℤ → Option Card) (pointing : Bytes × Bytes → Option Pointing)
    (key : Bytes × Bytes) (e : Entry) (card was : Option ℤ) (one two three : Tables)
    (had : was ≡ card_of pointing key)
    (used : OwesNumber (tables_of h cards pointing) one card key.0 e.number)
    (put_is : two ≡ record one { pointing = put entry_cmp one.pointing key (Some (pointed_at card e)) })
    (left : OwesNoMore two three was) where
  abbrev now : Bytes × Bytes → Option Pointing
  now = put entry_cmp pointing key (Some (pointed_at card e))

  abbrev entries : Bytes × Bytes → Option Entry
  entries = put entry_cmp h.entries key (Some e)

  -- the tables, but for cards and entries, are as they were
  pub tables_are : three ≡ tables_of h three.cards now
  tables_are =
      left.others ∙ ap (λ (t : Tables). record t { cards = three.cards })
      (put_is ∙ ap (λ (t : Tables). record t {
        pointing = put entry_cmp t.pointing key
            (Some (pointed_at card e));
      })
      used.others)

  pointing_are : two.pointing ≡ now
  pointing_are =
      ap (λ (t : Tables). t.pointing) put_is
      ∙ ap (λ (t : Tables). put entry_cmp t.pointing key (Some (pointed_at card e))) used.others

  -- the entry with the number of its card is the one that was to be written
  joined_is : joined one.cards (pointed_at card e) ≡ e
  joined_is = λ i. record {
    number = used.shown i;
    usage = e.usage;
    birth = e.birth;
    expires = e.expires;
    revoked = e.revoked;
  }

  pub still_joined : AreJoined nothing_owed cards pointing h.entries
      → AreJoined nothing_owed three.cards now entries
  still_joined it =
      let first = pointed card (used.owed h.entries it) key (pointed_at card e) refl used.owned in
      let here = subst (λ x. AreJoined (owed_to (card_of pointing key)) one.cards now
      (put entry_cmp h.entries key (Some x)))
      joined_is first in
      let owing = subst (λ o. AreJoined (owed_to o) one.cards now entries) (sym had) here in
      let cards_are : two.cards ≡ one.cards = ap (λ (t : Tables). t.cards) put_is in
      let there = subst (λ k. AreJoined (owed_to was) k now entries) (sym cards_are) owing in
      let before = subst (λ q. AreJoined (owed_to was) two.cards q entries) (sym pointing_are) there in
      subst (λ q. AreJoined nothing_owed three.cards q entries) pointing_are (left.joined entries before)

-- the four calls, one after the other
pub entry_written : {v : Version} {E₁ E₂ E₃ E₄ : Type 0} {last : Result (Unit {0}) E₄} {a b c d f : State}
    {was card : Option ℤ} (key : Bytes × Bytes) (e : Entry)
    → TellsInside v (let it : Result (Option ℤ) E₁ = Ok was in it)
    (λ t found. found ≡ card_of t.pointing key) a b
    → Turns v (let it : Result (Option ℤ) E₂ = Ok card in it) (λ t. Unit {0})
    (λ card t new. OwesNumber t new card key.0 e.number) b c
    → Turns v (let it : Result (Unit {0}) E₃ = Ok tt in it) (λ t. Unit {0})
    (λ it t new. new ≡ record t { pointing = put entry_cmp t.pointing key (Some (pointed_at card e)) }) c d
    → Turns v last (λ t. Unit {0}) (λ it t new. OwesNoMore t new was) d f
    → Makes v last (λ _. Unit {0}) (λ h. record h { entries = put entry_cmp h.entries key (Some e) }) a f
entry_written {v = v} {last = last} {b = b} {c = c} {d = d} {was = was} {card = card} key e told used written
    left = record {
      steps = steps_then told.steps (steps_then used.steps (steps_then written.steps left.steps));
      done = λ clean. on_if last (left.done clean) (λ it did base h w can.
          let third : HasCleanDisk d = omega (arith, left.steps.clean, clean) in
          let second : HasCleanDisk c = omega (arith, written.steps.clean, third) in
          let first : HasCleanDisk b = omega (arith, used.steps.clean, second) in
          let start = tables_of h w.cards w.pointing in
          let seen = told.told first base start w.has in
          let one = used.done second base start seen.1 tt in
          let two = written.done third base one.0 one.2 tt in
          let three = did base two.0 two.2 tt in
          let are = tables_are h w.cards w.pointing key e card was one.0 two.0 three.0 seen.0 one.1 two.1
          three.1
          in
          record {
            cards = three.0.cards;
            pointing = put entry_cmp w.pointing key (Some (pointed_at card e));
            has = subst (HasTables v _ base) are three.2;
            joined = still_joined h w.cards w.pointing key e card was one.0 two.0 three.0 seen.0 one.1 two.1
                three.1
                w.joined;
          });
    }

-- an entry that wasn't there leaves no card
pub entry_added : {v : Version} {E₁ E₂ E₃ : Type 0} {a b c : State} {card : Option ℤ} (key : Bytes × Bytes)
    (e : Entry)
    → Turns v (let it : Result (Option ℤ) E₁ = Ok card in it) (λ t. Unit {0})
    (λ card t new. OwesNumber t new card key.0 e.number) a b
    → Turns v (let it : Result (Unit {0}) E₂ = Ok tt in it) (λ t. Unit {0})
    (λ it t new. (t.pointing key ≡ None)
    × (new ≡ record t { pointing = put entry_cmp t.pointing key (Some (pointed_at card e)) })) b c
    → Makes v (let it : Result (Unit {0}) E₃ = Ok tt in it) (λ _. Unit {0})
    (λ h. record h { entries = put entry_cmp h.entries key (Some e) }) a c
entry_added {v = v} {b = b} {card = card} key e used written = record {
  steps = steps_then used.steps written.steps;
  done = λ clean base h w can.
      let first : HasCleanDisk b = omega (arith, written.steps.clean, clean) in
      let start = tables_of h w.cards w.pointing in
      let one = used.done first base start w.has tt in
      let two = written.done clean base one.0 one.2 tt in
      let had : None ≡ card_of w.pointing key =
      sym (ap (option_and_then (λ (p : Pointing). p.card))
      (ap (λ (t : Tables). t.pointing key) (sym one.1.others) ∙ two.1.0)) in
      let left : OwesNoMore two.0 two.0 None = record { others = refl; joined = λ entries it. it } in
      let are = tables_are h w.cards w.pointing key e card None one.0 two.0 two.0 had one.1 two.1.1 left in
      record {
        cards = two.0.cards;
        pointing = put entry_cmp w.pointing key (Some (pointed_at card e));
        has = subst (HasTables v _ base) are two.2;
        joined = still_joined h w.cards w.pointing key e card None one.0 two.0 two.0 had one.1 two.1.1 left
            w.joined;
      };
}
