use Rattle.std.proofs.Common.{◌≡◌, ◌∙◌, List, None, Ok, Result, inl, inr, sym, ap, subst, arith}
use Rattle.sqlite.proofs.Callers.{unchanged_then}
use Rattle.sqlite.specs.Effect.{Database}
use Rattle.sqlite.specs.Held.{state}
use Rattle.sqlite.specs.State.{HasCleanDisk}
use Rattle.vault_schema.specs.Versions.{number_of, schema_of}
use Rattle.vault_verdict.specs.Faults.{IsJudged}
use Rattle.vault_verdict.proofs.InVersion.{has_version_in}
use Rattle.vault_verdict.proofs.Judged.{AreRead, apart_of, by_rowid, olders_in, sound_of}
use Rattle.vault_verdict.proofs.FirstAndBehind.{AreJudged, judged_err, judged_ok, read_onward}
use Rattle.vault_verdict.proofs.Results.{err_where, ok_where, on_where, passed_on}
use Rattle.vault_verdict.proofs.verdict.verdict.Given.{Over}
use Rattle.vault_verdict.proofs.verdict.verdict.Goals as goal
use Rattle.vault_verdict.specs.Judging.{AreOnward, AllComeTo, NamedRows, first_rows, named_in}
use Rattle.vault_verdict.specs.Opened.{AreOldersIn, IsSoundIn}
use Rattle.vault_verdict.specs.ReadAs.{IsFullIn}
use Rattle.vault_verdict.specs.Reading.{AreCardsIn, IsUnreadIn, IsUnreadOne}
use Rattle.vault_verdict.specs.Versions.{other_than}
use Rattle.vault_verdict.specs.declared.fault.OpenFault.{OpenFault}
use Rattle.vault_tables.specs.declared.entries.old.OldEntry.{OldEntry}
use Rattle.vault_verdict.specs.declared.verdict.Judged.{Judged}
use Rattle.vault_rules.specs.AllRows.{Rows}

module _ (g : Over) (c : goal.After-drop-versions-2 g)
    (clean : HasCleanDisk (state g.S.Store c.judge_first.new.conn)) where
  -- the rows that were read first
  abbrev named : NamedRows
  named = named_in c.in_ok-versions.versions.items c.in_ok-first.first

  abbrev Comes : Result Judged OpenFault → Type 0
  Comes result =
      AllComeTo g.S.Store c.args.version named result c.read_first.new.conn c.judge_first.new.conn

  middle : HasCleanDisk (state g.S.Store c.read_first.new.conn)
  middle = omega (arith, c.judge_first.ensures.nothing_new.clean, clean)

  early : HasCleanDisk (state g.S.Store c.version_rows.new.conn)
  early = let disk = middle in omega (arith, c.in_ok-first.ensures.reads.clean, disk)

  module _ (schema : (state g.S.Store c.args.conn.now).now.schema ≡ schema_of c.args.version) where
    there : (state g.S.Store c.version_rows.new.conn).now.schema ≡ schema_of c.args.version
    there =
        ap (λ (d : Database). d.schema)
        (c.in_ok-versions.ensures.kept early (has_version_in c.args.version _ schema)).0.now_is ∙ schema

    next : (state g.S.Store c.read_first.new.conn).now ≡ (state g.S.Store c.version_rows.new.conn).now
    next = (c.in_ok-first.ensures.reads.kept middle there).0.now_is

    -- what all rows come to
    came : Comes c.judge_first.result
    came =
        subst (λ versions. AllComeTo g.S.Store c.args.version (named_in versions c.in_ok-first.first)
        c.judge_first.result c.read_first.new.conn c.judge_first.new.conn) c.deref-2.ensures.value
        (c.judge_first.ensures.told clean (ap (λ (d : Database). d.schema) next ∙ there))

  -- what was judged came of rows that were read
  judged : (result : Judged) → c.judge_first.result ≡ Ok result
      → (state g.S.Store c.args.conn.now).now.schema ≡ schema_of c.args.version
      → AreJudged g.S.Store c.args.version named c.read_first.new.conn c.judge_first.new.conn (Ok result)
  judged result is schema =
      judged_ok g.S.Store c.args.version named c.read_first.new.conn c.judge_first.new.conn result
      (subst Comes is (came schema))

  -- they are those of the file
  read_of : IsFullIn c.args.version (state g.S.Store c.args.conn.now).now → (olders : List OldEntry)
      (rows : Rows) → AreCardsIn c.args.version (state g.S.Store c.read_first.new.conn).now olders rows.cards
      → AreOnward c.args.version (first_rows named olders rows.cards)
      (state g.S.Store c.read_first.new.conn).now rows
      → AreRead c.args.version (state g.S.Store c.args.conn.now).now olders rows
  read_of ours olders rows cards onward =
      read_onward c.args.version (state g.S.Store c.args.conn.now) (state g.S.Store c.version_rows.new.conn)
      (state g.S.Store c.read_first.new.conn) c.in_ok-versions.versions.items c.in_ok-first.first olders rows
      (c.in_ok-versions.ensures.kept early) (c.in_ok-versions.ensures.live early)
      (c.in_ok-versions.ensures.told early) (next ours.schema)
      (c.in_ok-first.ensures.told middle (there ours.schema)) cards onward ours

  -- none says another version
  same_version : (rows : Rows) → rows.versions ≡ c.in_ok-versions.versions.items
      → other_than (number_of c.args.version) rows.versions ≡ None
  same_version rows are =
      ap (other_than (number_of c.args.version)) (are ∙ sym c.deref.ensures.value)
      ∙ sym c.other_in.ensures ∙ c.in_default.is

pub returns-clause-sound : goal.returns-clause-sound
returns-clause-sound g c clean = ok_where c.judge_first.result (λ result is ours.
    let v = c.args.version in
    let db = (state g.S.Store c.args.conn.now).now in
    let it = judged g c clean result is ours.schema in
    let rows = it.2 in
    let read = read_of g c clean ours it.1 rows it.3 it.4 in
    subst (IsSoundIn v db) (sym it.5.sizes)
    (sound_of v db ours.schema read.sound it.1 rows read.raws it.5.kept it.5.apart
    (same_version g c clean rows it.4.versions)))

pub returns-clause-olders : goal.returns-clause-olders
returns-clause-olders g c clean = ok_where c.judge_first.result (λ result is ours.
    let v = c.args.version in
    let db = (state g.S.Store c.args.conn.now).now in
    let it = judged g c clean result is ours.schema in
    subst (AreOldersIn v db.trees) (sym it.6)
    (olders_in v db it.1 it.2 (read_of g c clean ours it.1 it.2 it.3 it.4)))

pub returns-clause-kept : goal.returns-clause-kept
returns-clause-kept g c clean = on_where c.judge_first.result (λ result is schema.
    let v = c.args.version in
    let one = c.in_ok-versions.ensures.kept (early g c clean) (has_version_in v _ schema) in
    let two = c.in_ok-first.ensures.reads.kept (middle g c clean) (there g c clean schema) in
    let it = judged g c clean result is schema in
    unchanged_then _ _ _ (unchanged_then _ _ _ one two) it.0)

pub returns-clause-damaged : goal.returns-clause-damaged
returns-clause-damaged g c clean = err_where c.judge_first.result (λ fault is rule broken ours.
    let v = c.args.version in
    let judged = subst IsJudged (sym broken) tt in
    let it = judged_err g.S.Store v (named g c clean) c.read_first.new.conn c.judge_first.new.conn fault
    judged (subst (Comes g c clean) is (came g c clean ours.schema)) in
    let rows = it.2 in
    let read = read_of g c clean ours it.1 rows it.3 it.4 in
    record {
      olders = it.1;
      rows = rows;
      is = read.sound;
      are = read.raws;
      version = same_version g c clean rows it.4.versions;
      least = it.5.damaged rule broken;
    })

pub returns-clause-unchanged : goal.returns-clause-unchanged
returns-clause-unchanged g c clean = err_where c.judge_first.result (λ fault is judged schema.
    let v = c.args.version in
    let one = c.in_ok-versions.ensures.kept (early g c clean) (has_version_in v _ schema) in
    let two = c.in_ok-first.ensures.reads.kept (middle g c clean) (there g c clean schema) in
    let it = judged_err g.S.Store v (named g c clean) c.read_first.new.conn c.judge_first.new.conn fault
    judged (subst (Comes g c clean) is (came g c clean schema)) in
    unchanged_then _ _ _ (unchanged_then _ _ _ one two) it.0)

pub returns-in_err-versions-clause-unread : goal.returns-in_err-versions-clause-unread
returns-in_err-versions-clause-unread g c clean =
    passed_on c.from_residual.result _ c.from_residual.ensures.1 (λ store ours.
    inl (c.in_err-versions.ensures.refused clean (has_version_in c.args.version _ ours.schema) store))

pub returns-in_err-first-clause-unread : goal.returns-in_err-first-clause-unread
returns-in_err-first-clause-unread g c clean =
    let v = c.args.version in
    let early : HasCleanDisk (state g.S.Store c.version_rows.new.conn) =
    omega (arith, c.read_first.ensures.reads.clean, clean) in
    passed_on c.from_residual-in_err-first.result _ c.from_residual-in_err-first.ensures.1 (λ store ours.
    let same = (c.in_ok-versions.ensures.kept early (has_version_in v _ ours.schema)).0.now_is in
    let there = ap (λ (d : Database). d.schema) same ∙ ours.schema in
    inr (inl (subst (λ db. IsUnreadOne g.S.Store v db c.read_first.new.conn) same
    (c.in_err-first.ensures.refused clean there store))))

pub returns-clause-unread : goal.returns-clause-unread
returns-clause-unread g c clean = err_where c.judge_first.result (λ fault failed store ours.
    let v = c.args.version in
    let new = c.judge_first.new.conn in
    let old = (state g.S.Store c.args.conn.now).now in
    let same = (c.in_ok-versions.ensures.kept (early g c clean) (has_version_in v _ ours.schema)).0.now_is in
    let all = subst (Comes g c clean) failed (came g c clean ours.schema) in
    elim all as (λ _. IsUnreadIn g.S.Store v old new) [
      | inl none ↦ inr (inl (subst (λ db. IsUnreadOne g.S.Store v db new)
          (next g c clean ours.schema ∙ same) (none.1 store)))
      | inr it ↦ inr (inr (λ apart.
          let rows = it.2 in
          let read = read_of g c clean ours it.1 rows it.3 it.4 in
          it.5.shared store (by_rowid v old it.1 rows read apart) (apart_of v old it.1 rows read apart)))
    ])
