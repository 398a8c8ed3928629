-- What the first rows and those behind them come to.
use Rattle.std.proofs.Common.{◌≡◌, List, Ok, Err, Result, IfOk, IsErrAnd, inl, inr, subst, sym, ap}
use Rattle.sqlite.proofs.Callers.{unchanged_then}
use Rattle.sqlite.specs.Effect.{IsDatabase}
use Rattle.sqlite.specs.Held.{Held, state}
use Rattle.sqlite.specs.State.{State, IsUnchanged}
use Rattle.sqlite_trees.specs.declared.store.Store.{Ghosts}
use Rattle.vault_schema.specs.Versioned.{HasVersion}
use Rattle.vault_schema.specs.declared.version.Version.{Version}
use Rattle.vault_verdict.proofs.Judged.{AreRead, all_of, are_read}
use Rattle.vault_verdict.specs.Faults.{IsJudged}
use Rattle.vault_verdict.specs.Judging.{AreOnward, FirstRows, IsUnjudged, IsVerdictOf, ComeTo, AllComeTo}
use Rattle.vault_verdict.specs.Judging.{NamedRows, first_rows, named_in, sizes_in}
use Rattle.vault_verdict.specs.Opened.{AreVersions}
use Rattle.vault_verdict.specs.ReadAs.{IsFullIn}
use Rattle.vault_verdict.specs.Reading.{AreCardsIn, AreFirst, IsUnreadOne}
use Rattle.vault_verdict.specs.declared.fault.OpenFault.{OpenFault}
use Rattle.vault_verdict.specs.declared.first_rows.First.{First}
use Rattle.vault_tables.specs.declared.entries.old.OldEntry.{OldEntry}
use Rattle.vault_verdict.specs.declared.sizes.Sizes.{Sizes}
use Rattle.vault_verdict.specs.declared.verdict.Judged.{Judged}
use Rattle.vault_rules.specs.AllRows.{Rows}
use Rattle.vault_rules.specs.declared.rows.RawVersion.{RawVersion}
use Rattle.vault_rules.specs.declared.rows.RawCard.{RawCard}

-- a judgment that failed has the fault of its sizes, and no olders
pub sizes_failed : (whole : Result Judged OpenFault) (fault : OpenFault) → IsErrAnd whole (λ e. e ≡ fault)
    → sizes_in whole ≡ Err fault
sizes_failed (Ok it) fault same = absurd same
sizes_failed (Err e) fault same = ap Err same

pub none_of : (whole : Result Judged OpenFault) (fault : OpenFault) (P : Judged → Type 0)
    → IsErrAnd whole (λ e. e ≡ fault) → IfOk whole P
none_of (Ok it) fault P same = absurd same
none_of (Err e) fault P same = tt

-- equal rows come to equal things
pub judges_same : {S : Type 0} (g : Ghosts S) (v : Version) (old new : Held S) (first first' : FirstRows)
    (result result' : Result Sizes OpenFault) → first ≡ first' → result ≡ result'
    → ComeTo g v first result old new → ComeTo g v first' result' old new
judges_same g v old new first first' result result' a b it =
    subst (λ x. ComeTo g v x result' old new) a (subst (λ x. ComeTo g v first x old new) b it)

module _ {S : Type 0} (g : Ghosts S) (v : Version) (old mid new : Held S)
    (same : IsUnchanged (state g old) (state g mid)) where
  unjudged_all : (whole : Result Judged OpenFault) → IsUnjudged g v (sizes_in whole) mid new
      → IsUnjudged g v whole old new
  unjudged_all (Ok it) failed = absurd failed
  unjudged_all (Err e) failed =
      (failed.0, λ store. subst (λ db. IsUnreadOne g v db new) same.0.now_is (failed.1 store))

  module _ (named : NamedRows) (olders : List OldEntry) (cards : List RawCard)
      (are : AreCardsIn v (state g old).now olders cards) where
    -- what the rows behind the cards come to is what all rows come to
    pub all_onward : (whole : Result Judged OpenFault) → IfOk whole (λ it. it.olders.items ≡ olders)
        → ComeTo g v (first_rows named olders cards) (sizes_in whole) mid new
        → AllComeTo g v named whole old new
    all_onward whole stays told = elim told as (λ _. AllComeTo g v named whole old new) [
      | inl failed ↦ inl (unjudged_all whole failed)
      | inr it ↦
          let rows = it.1 in
          inr (
            unchanged_then _ _ _ same it.0,
            olders,
            rows,
            subst (AreCardsIn v (state g old).now olders) (sym it.2.cards) are,
            subst (λ x. AreOnward v (first_rows named olders x) (state g old).now rows) (sym it.2.cards)
                (subst (λ db. AreOnward v (first_rows named olders cards) db rows) same.0.now_is it.2),
            it.3,
            stays,
          )
    ]

module _ {S : Type 0} (g : Ghosts S) (v : Version) (named : NamedRows) (old new : Held S) where
  abbrev pub AreJudged : Result Judged OpenFault → Type 0
  AreJudged result =
      IsUnchanged (state g old) (state g new) × (olders : List OldEntry) × (rows : Rows)
      × AreCardsIn v (state g old).now olders rows.cards
      × AreOnward v (first_rows named olders rows.cards) (state g old).now rows
      × IsVerdictOf rows (sizes_in result) × IfOk result (λ it. it.olders.items ≡ olders)

  -- what came out well, and what was judged, was read
  pub judged_ok : (it : Judged) → AllComeTo g v named (Ok it) old new → AreJudged (Ok it)
  judged_ok it told = elim told as (λ _. AreJudged (Ok it)) [
    | inl failed ↦ absurd failed
    | inr it ↦ it
  ]

  pub judged_err : (fault : OpenFault) → IsJudged fault → AllComeTo g v named (Err fault) old new
      → AreJudged (Err fault)
  judged_err fault is told = elim told as (λ _. AreJudged (Err fault)) [
    | inl failed ↦ absurd (failed.0 is)
    | inr it ↦ it
  ]

-- the first rows and those behind them are all that the database has
pub read_onward : (v : Version) (old mid last : State) (versions : List RawVersion) (first : First)
    (olders : List OldEntry) (rows : Rows) → (HasVersion old.now.schema → IsUnchanged old mid)
    → (HasVersion old.now.schema → IsDatabase old.now)
    → (HasVersion old.now.schema → AreVersions old.now.trees versions) → last.now ≡ mid.now
    → AreFirst v mid.now first → AreCardsIn v last.now olders rows.cards
    → AreOnward v (first_rows (named_in versions first) olders rows.cards) last.now rows
    → IsFullIn v old.now → AreRead v old.now olders rows
read_onward v old mid last versions first olders rows same sound are now firsts cards onward ours =
    are_read v old mid versions olders rows onward.versions same sound are
    (λ has. all_of v mid.now first olders versions rows firsts
    (subst (λ db. AreCardsIn v db olders rows.cards) now cards)
    (subst (λ db. AreOnward v (first_rows (named_in versions first) olders rows.cards) db rows) now onward))
    ours
