-- Old entries that are read as entries of a vault: the last piece first, and one after the other within it.
use Rattle.std.proofs.Common.{◌≡◌, ◌+◌, ◌<◌, ◌^◌, ◌++◌, ℕ, List, [], ◌∷◌, length, map, take, get_or, reverse}
use Rattle.std.proofs.Common.{sym, ap, subst, ◌∙◌}
use Rattle.std.proofs.lemmas.List.{append_assoc, map-append, take_more}
use Rattle.std.proofs.lemmas.List.Elements.{All-push}
use Rattle.std.specs.Global.{Vec}
use Rattle.std.specs.List.{All}
use mathlib.Core.List.{reverse-append}
use Rattle.vault_core.specs.Keys.{Bytes}
use Rattle.vault_core.specs.declared.row.Entry.{Entry}
use Rattle.vault_steps.specs.Entries.{AreStorable, joined}
use Rattle.vault_tables.specs.declared.entries.old.OldEntry.{OldEntry}
use Rattle.vault_migrate.specs.Typed.{old_columns, typed_columns}

-- an entry more, with its merchant and its token
pub typed_more : (olders : List OldEntry) (i : ℕ) (o : OldEntry) → i < length olders → o ≡ get_or olders i o
    → (xs : List (Bytes × Bytes × Entry)) (x : Bytes × Bytes × Entry)
    → map old_columns (take i olders) ≡ map typed_columns xs → old_columns o ≡ typed_columns x
    → map old_columns (take (i + 1) olders) ≡ map typed_columns (xs ++ x ∷ [])
typed_more olders i o inside is xs x before same =
    ap (map old_columns) (take_more olders i o inside ∙ ap (λ y. take i olders ++ y ∷ []) (sym is))
    ∙ map-append old_columns (take i olders) (o ∷ []) ∙ (λ j. before j ++ same j ∷ [])
    ∙ sym (map-append typed_columns xs (x ∷ []))

-- of all old ones these are left, and behind them those of the pieces so far, from the last one to the first
abbrev pub AreRead : List OldEntry → List OldEntry → List (Vec (Bytes × Bytes × Entry)) → Type 0
AreRead all left pieces =
    (map old_columns all ≡ map old_columns left ++ map typed_columns (joined (reverse pieces)))
    × AreStorable pieces

-- a piece more
pub piece_more : (all was left olders : List OldEntry) (pieces more : List (Vec (Bytes × Bytes × Entry)))
    (piece : Vec (Bytes × Bytes × Entry)) → was ≡ left ++ olders → more ≡ pieces ++ piece ∷ []
    → AreRead all was pieces → map old_columns olders ≡ map typed_columns piece.items
    → All (λ (x : Bytes × Bytes × Entry). x.2.expires < 2 ^ 63) piece.items → AreRead all left more
piece_more all was left olders pieces more piece is pushed before same small =
    let behind = joined (reverse pieces) in (
      before.0 ∙ (λ i. map old_columns (is i) ++ map typed_columns behind)
          ∙ (λ i. map-append old_columns left olders i ++ map typed_columns behind)
          ∙ append_assoc (map old_columns left) (map old_columns olders) (map typed_columns behind)
          ∙ (λ i. map old_columns left ++ (same i ++ map typed_columns behind))
          ∙ (λ i. map old_columns left ++ sym (map-append typed_columns piece.items behind) i)
          ∙ (λ i. map old_columns left
          ++ map typed_columns (joined (sym (reverse-append pieces (piece ∷ [])) i)))
          ∙ (λ i. map old_columns left ++ map typed_columns (joined (reverse (sym pushed i)))),
      subst AreStorable (sym pushed)
          (All-push (λ (it : Vec (Bytes × Bytes × Entry)).
          All (λ (x : Bytes × Bytes × Entry). x.2.expires < 2 ^ 63) it.items) pieces piece before.1 small),
    )
