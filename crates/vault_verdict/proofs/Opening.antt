-- What an open comes to.
use Rattle.std.proofs.Common.{◌≡◌, inr, not, false, Bool, None, IsTrue, sym, ap, subst, ◌∙◌}
use Rattle.sqlite.specs.Effect.{Database, IsDatabase}
use Rattle.sqlite.specs.Schema.{Schema}
use Rattle.sqlite.specs.State.{State, IsUnchanged}
use Rattle.vault_core.specs.Vault.{Vault}
use Rattle.vault_verdict.specs.Opened.{IsSoundOf, Opens}
use Rattle.vault_verdict.specs.Reading.{IsOurs}
use Rattle.vault_verdict.specs.declared.sizes.Sizes.{Sizes}
use Rattle.vault_schema.specs.Holds.{Holds}
use Rattle.sql_tables.specs.Schema.{no_schema}
use Rattle.vault_schema.specs.Schema.{newest_schema}
use Rattle.vault_schema.specs.Stands.{Stands}

-- a schema that holds a vault, and one that holds nothing
pub apart : no_schema ≡ newest_schema → ⊥
apart e = let clash = ap (λ (s : Schema). s.tables) e in cc

pub opens_vault : (old new : State) (autocommit : Bool) (sizes : Sizes)
    → autocommit ≡ not old.in_transaction → old.in_transaction ≡ false → old.step_limit ≡ None
    → (IsTrue autocommit → IsTrue old.is_open → old.now ≡ old.committed) → old.now.schema ≡ newest_schema
    → new.step_limit ≡ old.step_limit
    → (IsOurs old.now → IsSoundOf old.now sizes) → (old.now.schema ≡ newest_schema → IsUnchanged old new)
    → Opens old new
opens_vault old new autocommit sizes is idle unlimited settled ours limit sound kept = record {
  whose = inr ours;
  ours =
      λ it.
      let found = (sound it).it in (
        record { vault = found.vault; sound = found.sound; holds = holds it found.vault found.stand.rows },
        (kept it.schema).0.now_is,
      );
  same = holds;
  blank = λ is_open blank. absurd (apart (sym blank ∙ ours));
}
  where
    holds : IsOurs old.now → (V : Vault) → Stands old.now.trees V → Holds new V
    holds it V stands =
        let same = kept it.schema in
        record {
          is_open = same.0.is_open;
          autocommit = same.0.mode ∙ idle;
          unlimited = limit ∙ unlimited;
          schema = ap (λ (d : Database). d.schema) same.0.now_is ∙ it.schema;
          sound = subst IsDatabase (sym same.0.now_is) (sound it).is;
          settled = same.0.now_is ∙ settled (is ∙ ap not idle) same.0.was_open ∙ sym same.0.committed_is;
          stands = subst (λ (d : Database). Stands d.trees V) (sym same.0.now_is) stands;
        }
