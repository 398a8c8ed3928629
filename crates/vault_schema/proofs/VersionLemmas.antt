-- What a version holds, in a transaction and beyond: once for all versions.
use Rattle.std.proofs.Common.{◌≡◌, true, false, sym, ap, ◌∙◌, subst}
use Rattle.sqlite.specs.Effect.{Database}
use Rattle.sqlite.specs.State.{State, Shows}
use Rattle.sqlite.specs.Tree.{Trees}
use Rattle.sqlite_catalog.specs.Listing.{IsSound}
use Rattle.vault_schema.specs.Versions.{AreOf, HoldsOf, IsOf, Lookups, Stand, WithinOf, schema_of}
use Rattle.vault_schema.specs.declared.version.Version.{Version}

module _ (v : Version) (h : Lookups) where
  -- a transaction that was just begun
  pub begun : (st : State) → HoldsOf v h st → WithinOf v h st.committed (record st { in_transaction = true })
  begun st it = assumption

  -- and one that is committed
  pub committed : {mid new : State} {base : Database} → WithinOf v h base mid
      → Shows mid new mid.now mid.now false → new.step_limit ≡ mid.step_limit → HoldsOf v h new
  committed w shows limit = record {
    free = record { is_open = shows.is_open; unlimited = limit ∙ w.free.unlimited };
    autocommit = shows.mode;
    settled = shows.now_is ∙ sym shows.committed_is;
    is = subst (IsOf v h) (sym shows.now_is) w.is;
  }

  trees_are : (d : Database) (db : Trees) → IsOf v h d → db ≡ d.trees → AreOf v h db
  trees_are d db it same = record {
    sound = subst (λ (t : Trees). IsSound (schema_of v) t) (sym same)
        (subst (λ s. IsSound s d.trees) it.schema it.sound);
    stand = subst (λ (t : Trees). Stand v t h) (sym same) it.stand;
  }

  -- what a commit of the transaction writes
  pub wrote : {st : State} {base : Database} → WithinOf v h base st → (db : Trees) → db ≡ st.now.trees
      → AreOf v h db
  wrote {st} w db same = trees_are st.now db w.is same

  -- the last commit
  pub last_commit : (st : State) (db : Trees) → HoldsOf v h st → db ≡ st.committed.trees → AreOf v h db
  last_commit st db it same =
      trees_are st.now db it.is (same ∙ ap (λ (d : Database). d.trees) (sym it.settled))
