use Rattle.std.proofs.Common.{[], refl}
use Rattle.vault_core.specs.Vault.{empty_vault}
use Rattle.vault_promise.proofs.JoinedRuns.{none_came}
use Rattle.vault_promise.proofs.kept.KeptFiles.begun.Goals as goal
use Rattle.vault_promise.specs.Memory.{MayBeLeftIn}

pub blank_files-requires : goal.blank_files-requires
blank_files-requires c clean = (c.in_ok-conn.ensures.opened clean).opened

pub invariant_of-result : goal.invariant_of-result
invariant_of-result c =
    let (before, blank, first) = c.in_ok-store.ensures (c.files_of.ensures.clean refl) in record {
      kept = ∣ (
        empty_vault,
        [],
        none_came (MayBeLeftIn c.files_of.result) before blank
            (λ next may. first next (c.files_of.ensures.left refl next may)),
      ) ∣₁;
    }

pub returns : goal.returns
returns c =
    let (before, blank, first) = c.in_ok-store.ensures (c.files_of.ensures.clean refl) in
    none_came (MayBeLeftIn c.files_of.result) before blank
    (λ next may. first next (c.files_of.ensures.left refl next may))
