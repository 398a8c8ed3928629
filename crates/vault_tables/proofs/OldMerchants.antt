-- The table of merchants: the steps that replace it, and what its rows tell.
use Rattle.std.proofs.Common.{◌≡◌, Some, refl, sym, List}
use Rattle.std.specs.Prelude.{pos, [], ◌∷◌}
use Rattle.sqlite.specs.Effect.{Database}
use Rattle.sqlite.specs.Listing.{understood}
use Rattle.sqlite.specs.State.{State}
use Rattle.sqlite.specs.Term.{Term, lit, col}
use Rattle.sqlite.specs.Tree.{Trees}
use Rattle.sqlite.specs.declared.types.Value.TheVariants.{Int, Null}
use Rattle.sqlite_tied.specs.Compute.{everything}
use Rattle.vault_core.specs.Keys.{Bytes}
use Rattle.vault_core.specs.declared.row.Lives.{Lives}
use Rattle.vault_schema.proofs.ByTable.{held}
use Rattle.vault_schema.proofs.Meanings.{ReplacesTable}
use Rattle.vault_schema.proofs.MerchantCodes.{old_merchant_coding, merchant_coding, merchants_in_third}
use Rattle.vault_schema.proofs.MerchantCodes.{old_merchants_in_third as old_merchant_table}
use Rattle.vault_schema.specs.Layers.{is_from}
use Rattle.vault_schema.specs.Merchants.{older_lives as older, with_six, merchants, old_merchants}
use Rattle.vault_schema.specs.Schemas.{v3, v2}
use Rattle.vault_schema.specs.Versions.{AreSix, Lookups, OldMerchants, Stand, WithinOf}
use Rattle.vault_schema.specs.declared.version.Version.{Version}
use Rattle.vault_schema.specs.declared.version.Version.TheVariants.{Two, Three}
use Rattle.vault_tables.proofs.Inside.{RunsFour, closed_over, opened}
use Rattle.vault_tables.proofs.Replacing.{alike, claim_before, default_before, replaced, told}
use Rattle.vault_tables.specs.declared.merchants.TheConstants.{CREATE_MERCHANTS}
use Rattle.vault_tables.specs.declared.merchants.old.TheConstants.{COPY_MERCHANTS, EMPTY_OLD_MERCHANTS}
use Rattle.vault_tables.specs.declared.versions.TheConstants.{SET_THIRD}

-- a merchant of schema 2 with the lead of six digits
abbrev pub six_terms : List Term
six_terms = lit Null ∷ col 1 1 ∷ col 1 2 ∷ col 1 3 ∷ col 1 4 ∷ lit (Int (pos 6)) ∷ []

pub third_texts : ReplacesTable v2 v3 old_merchants merchants 1 8 3 six_terms CREATE_MERCHANTS.now
    COPY_MERCHANTS.now EMPTY_OLD_MERCHANTS.now SET_THIRD.now
unfolding understood everything
third_texts = record {
  makes = record { is = refl; whole = refl; plain = (refl, refl); defines = refl; uncounted = refl };
  made = refl;
  copies = record { is = refl; plain = (refl, refl) };
  empties = record { is = refl; plain = (refl, refl) };
  sets = record { is = refl; plain = (refl, refl) };
}

-- ---- from schema 2 to schema 3

-- merchants whose lead is six are as the older tables have them, with six
still_six : (h : Lookups) → AreSix h → (m : Bytes) (x : Lives) → h.merchants m ≡ Some x
    → with_six (older x) ≡ x
still_six h six m x is = λ i. record x { lead = sym (six m x is) i }

pub led : {h : Lookups} {base : Database} {a b c d e : State} (w : WithinOf Two h base a)
    → RunsFour CREATE_MERCHANTS.now COPY_MERCHANTS.now EMPTY_OLD_MERCHANTS.now SET_THIRD.now a b c d e
    → WithinOf Three h base e
led {h = h} {a = a} w run =
    closed_over Three Two a w.is.stand.rows (tt, w.is.stand.defaults.1) (λ j. j)
    (replaced old_merchant_table merchants_in_third with_six older h.merchants 2 3 refl
    (opened Two w w.is.stand.rows) (still_six h w.is.stand.defaults.0) third_texts refl run (λ rows are. are)
    (λ rows none. none) (λ rows are. are) (λ rows is. is) (λ id k x. refl))

-- ---- what the rows of merchants tell, in whatever version

pub same_merchants : (v : Version) (db : Trees) (h k : Lookups) → Stand v db h → Stand v db k
    → h.merchants ≡ k.merchants
same_merchants v db h k a b =
    let first = (held v db h a.rows).hold in
    let other = (held v db k b.rows).hold in
    told (is_from Three v) with_six older h.merchants k.merchants merchant_coding first.1.1.1.1.1.1.1.1.0
    other.1.1.1.1.1.1.1.1.0 (λ none. still_six h (default_before (is_from Three v) a.defaults.0 none))
    (λ none. still_six k (default_before (is_from Three v) b.defaults.0 none))
    (λ none. alike old_merchant_coding
    (claim_before (is_from Three v) (OldMerchants h.merchants) (db 1) (first.1.0 refl) none)
    (claim_before (is_from Three v) (OldMerchants k.merchants) (db 1) (other.1.0 refl) none))
