-- The table of rights: the step that replaces it, and what its rows tell.
use Rattle.std.proofs.Common.{◌≡◌, Some, refl, sym, List}
use Rattle.std.specs.Prelude.{[], ◌∷◌}
use Rattle.sqlite.specs.Effect.{Database}
use Rattle.sqlite.specs.Listing.{understood}
use Rattle.sqlite.specs.State.{State}
use Rattle.sqlite.specs.Term.{Term, lit, col}
use Rattle.sqlite.specs.Tree.{Trees}
use Rattle.sqlite.specs.declared.types.Value.TheVariants.{Null}
use Rattle.sqlite_tied.specs.Compute.{everything}
use Rattle.vault_core.specs.Keys.{Bytes}
use Rattle.vault_core.specs.declared.right.Right.{Right}
use Rattle.vault_core.specs.declared.row.GrantRow.{GrantRow}
use Rattle.vault_schema.proofs.ByTable.{held}
use Rattle.vault_schema.proofs.Meanings.{ReplacesTable}
use Rattle.vault_schema.proofs.RightCodes.{old_right_coding, old_rights_in_fourth as old_right_table}
use Rattle.vault_schema.proofs.RightCodes.{right_coding, rights_in_fourth}
use Rattle.vault_schema.specs.Layers.{is_from}
use Rattle.vault_schema.specs.Rights.{endless, older_right as older, rights, old_rights}
use Rattle.vault_schema.specs.Schemas.{v4, v3}
use Rattle.vault_schema.specs.Versions.{AreEndless, Lookups, OldRights, Stand, WithinOf}
use Rattle.vault_schema.specs.declared.version.Version.{Version}
use Rattle.vault_schema.specs.declared.version.Version.TheVariants.{Three, Four}
use Rattle.vault_tables.proofs.Inside.{RunsFour, closed_over, opened}
use Rattle.vault_tables.proofs.Replacing.{alike, claim_before, default_before, replaced, told}
use Rattle.vault_tables.specs.declared.rights.TheConstants.{CREATE_RIGHTS}
use Rattle.vault_tables.specs.declared.rights.old.TheConstants.{COPY_RIGHTS, EMPTY_OLD_RIGHTS}
use Rattle.vault_tables.specs.declared.versions.TheConstants.{SET_FOURTH}

-- a right of schema 3, which doesn't end
abbrev pub endless_terms : List Term
endless_terms = lit Null ∷ col 1 1 ∷ col 1 2 ∷ col 1 3 ∷ lit Null ∷ []

pub fourth_texts : ReplacesTable v3 v4 old_rights rights 5 9 4 endless_terms CREATE_RIGHTS.now
    COPY_RIGHTS.now EMPTY_OLD_RIGHTS.now SET_FOURTH.now
unfolding understood everything
fourth_texts = record {
  makes = record { is = refl; whole = refl; plain = (refl, refl); defines = refl; uncounted = refl };
  made = refl;
  copies = record { is = refl; plain = (refl, refl) };
  empties = record { is = refl; plain = (refl, refl) };
  sets = record { is = refl; plain = (refl, refl) };
}

-- ---- from schema 3 to schema 4

-- rights that don't end are as the older tables have them, without an end
still_endless : (h : Lookups) → AreEndless h → (key : Bytes × (Bytes × Right)) (g : GrantRow)
    → h.rights key ≡ Some g → endless (older g) ≡ g
still_endless h none key g is = λ i. record g { ends = sym (none key g is) i }

pub ended : {h : Lookups} {base : Database} {a b c d e : State} (w : WithinOf Three h base a)
    → RunsFour CREATE_RIGHTS.now COPY_RIGHTS.now EMPTY_OLD_RIGHTS.now SET_FOURTH.now a b c d e
    → WithinOf Four h base e
ended {h = h} {a = a} w run =
    closed_over Four Three a w.is.stand.rows (tt, (tt, w.is.stand.defaults.1.1)) (λ j. j)
    (replaced old_right_table rights_in_fourth endless older h.rights 3 4 refl
    (opened Three w w.is.stand.rows) (still_endless h w.is.stand.defaults.1.0) fourth_texts refl run
    (λ rows are. are) (λ rows none. none) (λ rows are. are) (λ rows is. is) (λ id k x. refl))

-- ---- what the rows of rights tell, in whatever version

pub same_rights : (v : Version) (db : Trees) (h k : Lookups) → Stand v db h → Stand v db k
    → h.rights ≡ k.rights
same_rights v db h k a b =
    let first = (held v db h a.rows).hold in
    let other = (held v db k b.rows).hold in
    told (is_from Four v) endless older h.rights k.rights right_coding first.1.1.1.1.1.1.1.1.1.0
    other.1.1.1.1.1.1.1.1.1.0 (λ none. still_endless h (default_before (is_from Four v) a.defaults.1.0 none))
    (λ none. still_endless k (default_before (is_from Four v) b.defaults.1.0 none))
    (λ none. alike old_right_coding
    (claim_before (is_from Four v) (OldRights h.rights) (db 10) (first.1.1.1.1.1.0 refl) none)
    (claim_before (is_from Four v) (OldRights k.rights) (db 10) (other.1.1.1.1.1.0 refl) none))
