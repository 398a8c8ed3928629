-- A passage in which pairs were taken and bytes went out, as one of the vault alone along these.
use Rattle.std.proofs.Common.{◌≡◌, ℕ, List, [], Option, subst}
use Rattle.vault_engine.specs.Asking.{Pair}
use Rattle.vault_engine.specs.Passing.{Passage}
use Rattle.vault_listen.specs.Live.{AreGiven, Begins, Continues, Turns, pairs_of}
use Rattle.vault_listen.specs.declared.live.LiveSource.{LiveSource}
use Rattle.vault_listen.proofs.Turns.{given_since}
use Rattle.vault_jobs.specs.Doing.{Along}
use Rattle.vault_jobs.specs.Streams.{Streams}
use Rattle.vault_jobs.proofs.Stops.{few_pairs}

-- a source that gave nothing before and goes on
pub along_live : {Q G : Type 0} (tells : Q → Turns) (told : Q → ℕ) (turns : Turns)
    (old new : LiveSource Q G) (most : ℕ)
    (now : Option ℕ) (digits : Option (List ℕ)) (w : Passage) (s : Streams) (P : Passage → Type 0)
    → pairs_of old ≡ [] → old.left ≡ most → Begins tells told turns now digits old
    → Continues tells told old new
    → P (record w {
      given_old = pairs_of old;
      given_new = pairs_of new;
      sent_old = s.sent_old;
      sent_new = s.sent_new;
    }) → Along (AreGiven turns now digits) most w s P
along_live tells told turns old new most now digits w s P fresh left begins goes h = (
  pairs_of new,
  few_pairs tells told old new most fresh left goes,
  given_since tells told turns now digits old new fresh begins goes,
  subst (λ (given : List Pair). P (record w {
    given_old = given;
    given_new = pairs_of new;
    sent_old = s.sent_old;
    sent_new = s.sent_new;
  })) fresh h,
)
