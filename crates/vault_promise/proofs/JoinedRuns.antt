-- Runs that came one after the other, and one more.
use Rattle.std.proofs.Common.{◌≡◌, List, [], ◌∷◌, ◌++◌, None, append_assoc, inr}
use Rattle.std.proofs.Common.{refl, sym, subst}
use Rattle.std.proofs.Math.Logic.{∥∥₁_map}
use Rattle.sqlite.specs.Tree.{Trees}
use Rattle.sqlite_wal.specs.Recovery.{Image}
use Rattle.vault_core.proofs.Empty.{sound-empty}
use Rattle.vault_core.specs.Vault.{Vault as Content, empty_vault}
use Rattle.vault_recover.specs.Crashed.{AreBlank, KeepsFirst}
use Rattle.vault_promise.specs.Again.{RunsAnswerAgain}
use Rattle.vault_promise.specs.Kept.{AgreesWith, GoesOn, HaveRun, SomeHaveRun, StandsAfter}
use Rattle.vault_promise.specs.Runs.{AreOf, IsRun, Run, Runs, before}
use Rattle.vault_promise.specs.Standing.{AnswersStand}

-- a run behind others
runs_more : (rs : List Run) (r : Run) (end : Image) → Runs rs r.begins → IsRun r end
    → Runs (rs ++ r ∷ []) end × (before (rs ++ r ∷ []) end ≡ before rs r.begins)
runs_more [] r end runs is = ((is, tt), refl)
runs_more (x ∷ rs) r end (it, runs) is =
    let more = runs_more rs r end runs is in ((subst (IsRun x) (sym more.1) it, more.0), refl)

-- it goes on from bytes that might be left before it, up to whatever bytes may be left after it
pub goes_on : (MayBeLeft MayBeLeftNow : Image → Type 0) (r : Run) → MayBeLeft r.begins
    → ((next : Image) → MayBeLeftNow next → IsRun r next) → GoesOn MayBeLeft r MayBeLeftNow
goes_on MayBeLeft MayBeLeftNow r at is V rs have = record {
  sound = have.sound;
  first = λ end may. subst (λ image. AreOf image V None)
      (sym (runs_more rs r end (have.runs r.begins at) (is end may)).1) (have.first r.begins at);
  runs = λ end may. (runs_more rs r end (have.runs r.begins at) (is end may)).0;
}

-- where fewer bytes may be left, the same runs came
pub fewer_left : (MayBeLeft MayBeLeftNow : Image → Type 0)
    → ((next : Image) → MayBeLeftNow next → MayBeLeft next)
    → (V : Content) (rs : List Run) → HaveRun V rs MayBeLeft → HaveRun V rs MayBeLeftNow
fewer_left MayBeLeft MayBeLeftNow less V rs have = record {
  sound = have.sound;
  first = λ end may. have.first end (less end may);
  runs = λ end may. have.runs end (less end may);
}

-- where no table is found, none came
pub none_came : (MayBeLeft : Image → Type 0) (before : Trees) → AreBlank before
    → ((next : Image) → MayBeLeft next → KeepsFirst next before) → HaveRun empty_vault [] MayBeLeft
none_came MayBeLeft before blank keeps = record {
  sound = sound-empty;
  first = λ end may. inr (inr (refl, refl, (before, blank, keeps end may)));
  runs = λ end may. tt;
}

-- what runs answered that came stands
pub stands_after : (MayBeLeft : Image → Type 0) → AnswersStand → ∥ SomeHaveRun MayBeLeft ∥₁
    → StandsAfter MayBeLeft
stands_after MayBeLeft law some = ∥∥₁_map some (λ (V, rs, have). (
  V,
  rs,
  have,
  λ end may. law rs end V have.sound (have.first end may) (have.runs end may),
))

-- and it agrees with each run before it, where some bytes may be left of it
pub agrees_with : (MayBeLeft MayBeLeftNow : Image → Type 0) (r : Run) (end : Image) → RunsAnswerAgain
    → GoesOn MayBeLeft r MayBeLeftNow → MayBeLeftNow end → AgreesWith MayBeLeft r
agrees_with MayBeLeft MayBeLeftNow r end law goes may V rs between first have =
    let all = subst (λ (xs : List Run). HaveRun V xs MayBeLeftNow)
    (append_assoc rs (first ∷ between) (r ∷ [])) (goes V (rs ++ first ∷ between) have) in
    law rs between [] first r end V all.sound (all.first end may) (all.runs end may)
