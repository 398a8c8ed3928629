-- What a task answered, and what it left undecided.
use Rattle.std.proofs.Common.{◌≡◌, ℕ, ◌+◌, ◌<◌, zero, suc, List, [], ◌∷◌, ◌++◌, length, take, Option, Some}
use Rattle.std.proofs.Common.{None, true, false, Result, Ok, Err, inl, inr, refl, sym, ap, subst, ◌∙◌}
use Rattle.std.proofs.Common.{Bool, arith}
use Rattle.std.specs.Prelude.{IfSome, codes}
use Rattle.vault_core.proofs.Setting.{at_setting, by_set}
use Rattle.vault_core.proofs.Branches.{by_option}
use Rattle.vault_core.specs.Merchants.{granting, withdrawal}
use Rattle.vault_core.specs.Outcome.{Outcome, plain_refusal}
use Rattle.vault_core.specs.Proper.{AllProper, IsProper}
use Rattle.vault_core.specs.Refusals.{no_merchant, too_many_merchants}
use Rattle.vault_core.specs.Runs.{run}
use Rattle.vault_core.specs.Table.{reply}
use Rattle.vault_core.specs.Vault.{Vault as Content, merchant_at}
use Rattle.vault_core.specs.declared.command.Command.{Command}
use Rattle.vault_core.specs.declared.command.Command.TheVariants.{Grant, Withdraw}
use Rattle.vault_engine.specs.Passing.{IsBefore, Passage}
use Rattle.vault_store.specs.declared.vault.Fault.{Fault}
use Rattle.vault_store.specs.declared.vault.Fault.TheVariants.{Memory, Store, Reopen}
use Rattle.vault_changes.proofs.GivenRights.{run_more}
use Rattle.vault_changes.specs.Carried.{Carries, reply_of}
use Rattle.vault_jobs.specs.Doing.{CommandsEnd}
use Rattle.vault_changes.specs.Grants.{CarriesAll}
use Rattle.std.proofs.Math.Seq.{take-length}
use Rattle.std.specs.Io.KnownBytes.{Appends}
use Rattle.vault_jobs.specs.Outside.{Outside}
use Rattle.vault_jobs.specs.Streams.{Streams, output_with}
use Rattle.vault_changes.specs.Carried.{Verdict}
use Rattle.vault_jobs.specs.declared.stop.Stop.{Stop}
use Rattle.vault_jobs.specs.declared.stop.Stop.TheVariants as stop
use Rattle.vault_jobs.specs.declared.task.Outcome.{Outcome as Ended}
use Rattle.vault_jobs.specs.declared.task.Outcome.TheVariants as outcome
use Rattle.vault_promise.specs.Runs.{perhaps}
use Rattle.vault_promise.specs.Shapes.{Shape}
use Rattle.vault_promise.specs.Shapes.Shape.{Commands}
use Rattle.vault_promise.specs.Told.{AllDone, IsNext, IsQuiet, Tells, WentAll, WentPart}
use Rattle.vault_app.specs.TaskValues.{IsOwn}

-- From this vault a task answered commands, of which alone it told; and of one more at most it isn't known
-- whether it is done. Where the task is done, it tells so.
pub record Works (at : Outside) (w : Passage) (V : Content) (shape : Shape) (IsDone : Type 0) (s : Streams)
    : Type 0 where
  pub answered : List Command
  pub undecided : Option Command
  pub proper : AllProper answered
  pub last_proper : IfSome undecided IsProper
  pub tells : Tells at shape V answered s
  pub next : IfSome undecided (IsNext at shape V answered s)
  pub done : IsDone → AllDone at shape V answered s
  pub left : w.left_new (run answered V) (perhaps (run answered V) undecided)

-- all of a text is a beginning of it
pub part_of : (s : Streams) (text : List ℕ) → WentAll s text → WentPart s text
part_of s text went = (
  length text,
  subst (λ t. Appends s.sent_old s.sent_new t) (sym (take-length text)) went,
)

-- what is replied by a verdict
abbrev HasVerdict : Outcome → Type 0
HasVerdict o = (v : Verdict) × (o.reply ≡ reply_of v)

-- a command of the words is done or refused
own_verdict : (V : Content) (c : Command) → IsOwn c → (v : Verdict) × (reply V c ≡ reply_of v)
own_verdict V (Grant caller m right until now) own =
    by_option HasVerdict (merchant_at V m) (granting V (caller, (m, right)) until now)
    (plain_refusal V no_merchant)
    (λ _ _. (Ok tt, refl)) (λ _. (Err no_merchant, refl))
own_verdict V (Withdraw caller m right now) own =
    by_option HasVerdict (merchant_at V m) (withdrawal V caller m right now) (plain_refusal V no_merchant)
    (λ _ _. (Ok tt, refl)) (λ _. (Err no_merchant, refl))
own_verdict V c own = at_setting (λ set. (v : Verdict) × (reply V set ≡ reply_of v))
    (λ m x. by_set HasVerdict V m x (merchant_at V m) (λ _. (Ok tt, refl))
    (λ _. (Err too_many_merchants, refl)) (λ _. (Ok tt, refl))) c (cc)

module _ (at : Outside) (w : Passage) (V : Content) (b : IsBefore w V) (s : Streams) (unsent : Type 0)
    (quiet : unsent → IsQuiet s) (F : Type 0) where
  module _ (c : Command) (own : IsOwn c) (proper : IsProper c) where
    -- a command, and its line
    abbrev One : Type 0
    One = Works at w V (Commands (c ∷ []) (codes "done\n")) F s

    change_done : Carries c w (Ok (Ok tt)) → WentPart s (codes "done\n") → (F → WentAll s (codes "done\n"))
        → One
    change_done carried part whole = record {
      answered = c ∷ [];
      undecided = None;
      proper = (proper, tt);
      last_proper = tt;
      tells = ((1, refl), inr (refl, ap (λ y. y ∷ []) (carried V b).0, part));
      next = tt;
      done = λ f. (refl, ap (λ y. y ∷ []) (carried V b).0, whole f);
      left = (carried V b).1.1;
    }

    -- the store failed at it
    change_torn : (broken : Bool) → w.broken ≡ broken → unsent → Carries c w (Err Store) → ¬ F → One
    change_torn true is silent carried never = record {
      answered = [];
      undecided = Some c;
      proper = tt;
      last_proper = proper;
      tells = ((0, refl), inl (quiet silent));
      next = (1, refl);
      done = λ f. absurd (never f);
      left = carried.0 is V b;
    }
    change_torn false is silent carried never =
        let v = own_verdict V c own in absurd ((carried.1 is V b).0 v.0 v.1)

    pub change_works : (r : Result Ended Stop) → (F → r ≡ Ok outcome.Done)
        → CommandsEnd (Carries c w) (codes "done\n") r (output_with unsent s.sent_old s.sent_new s.writer)
        → One
    change_works (Ok outcome.Done) fin h = change_done h.2 (part_of s (codes "done\n") h.1) (λ f. h.1)
    change_works (Ok (outcome.Refused n)) fin h = record {
      answered = c ∷ [];
      undecided = None;
      proper = (proper, tt);
      last_proper = tt;
      tells = ((1, refl), inl (quiet h.0));
      next = tt;
      done = λ f. absurd (cc (fin f));
      left = (h.1 V b).1.1;
    }
    change_works (Ok outcome.SomeRefused) fin h = absurd h
    change_works (Err (stop.Vault Memory)) fin h = record {
      answered = [];
      undecided = None;
      proper = tt;
      last_proper = tt;
      tells = ((0, refl), inl (quiet h.0));
      next = tt;
      done = λ f. absurd (cc (fin f));
      left = (h.1 V b).1;
    }
    change_works (Err (stop.Vault Store)) fin h =
        change_torn w.broken refl h.0 h.1 (λ f. cc (fin f))
    change_works (Err (stop.Vault Reopen)) fin h = absurd h.1
    change_works (Err (stop.Service f)) fin (is, failed, carried, part) =
        change_done carried part (λ d. absurd (cc (fin d)))
    change_works (Err (stop.Listener f)) fin h = absurd h
    change_works (Err (stop.Unread about f)) fin h = absurd h
    change_works (Err (stop.Batch f)) fin h = absurd h

-- the first of proper commands are
pub first_proper : (k : ℕ) (cs : List Command) → AllProper cs → AllProper (take k cs)
first_proper zero cs proper = tt
first_proper (suc k) [] proper = tt
first_proper (suc k) (c ∷ cs) proper = (proper.0, first_proper k cs proper.1)

-- the command after the first so many
pub record OneMore (k : ℕ) (cs : List Command) : Type 0 where
  pub one : Command
  pub is : take (k + 1) cs ≡ take k cs ++ one ∷ []
  pub proper : AllProper cs → IsProper one

pub one_more : (k : ℕ) (cs : List Command) → k < length cs → OneMore k cs
one_more k [] below = absurd (omega (arith, below))
one_more zero (c ∷ cs) below = record { one = c; is = refl; proper = λ p. p.0 }
one_more (suc k) (c ∷ cs) below =
    let it = one_more k cs (omega (arith, below)) in
    let e : suc k + 1 ≡ suc (k + 1) = omega arith in
    record {
      one = it.one;
      is = ap (λ n. take n (c ∷ cs)) e ∙ ap (λ ds. c ∷ ds) it.is;
      proper = λ p. it.proper p.1;
    }

module _ (at : Outside) (w : Passage) (V : Content) (b : IsBefore w V) (s : Streams) (unsent : Type 0)
    (quiet : unsent → IsQuiet s) (F : Type 0) where
  -- commands, and the line that says that all are done
  module _ (cs : List Command) (line : List ℕ) (proper : AllProper cs) where
    abbrev All : Type 0
    All = Works at w V (Commands cs line) F s

    all_works : CarriesAll cs w (Ok (Ok tt)) → WentPart s line → (F → WentAll s line) → All
    all_works carried part whole = record {
      answered = cs;
      undecided = None;
      proper = proper;
      last_proper = tt;
      tells = ((length cs, sym (take-length cs)), inr (refl, (carried V b).0, part));
      next = tt;
      done = λ f. (refl, (carried V b).0, whole f);
      left = (carried V b).1.1;
    }

    -- the first are done and one is refused, or not answered
    pub refused_works : (n : ℕ) → ¬ F → IsQuiet s → CarriesAll cs w (Ok (Err n)) → All
    refused_works n never calm h =
        let k = h.0 in
        record {
          answered = take (k + 1) cs;
          undecided = None;
          proper = first_proper (k + 1) cs proper;
          last_proper = tt;
          tells = ((k + 1, refl), inl calm);
          next = tt;
          done = λ f. absurd (never f);
          left = (h.2 V b).1.1;
        }

    pub stopped_works : (f : Fault) → ¬ F → IsQuiet s → CarriesAll cs w (Err f) → All
    stopped_works Memory never calm h =
        let k = h.0 in
        record {
          answered = take k cs;
          undecided = None;
          proper = first_proper k cs proper;
          last_proper = tt;
          tells = ((k, refl), inl calm);
          next = tt;
          done = λ f. absurd (never f);
          left = (h.2 V b).1.1;
        }
    stopped_works Store never calm h =
        let k = h.0 in
        let more = one_more k cs h.1 in
        record {
          answered = take k cs;
          undecided = Some more.one;
          proper = first_proper k cs proper;
          last_proper = more.proper proper;
          tells = ((k, refl), inl calm);
          next = (k + 1, sym more.is);
          done = λ f. absurd (never f);
          left = subst (λ W. w.left_new (run (take k cs) V) W)
              (ap (λ ds. run ds V) more.is ∙ run_more (take k cs) more.one V) (h.2 V b).2;
        }
    stopped_works Reopen never calm h = absurd h

    pub commands_works : (r : Result Ended Stop) → (F → r ≡ Ok outcome.Done)
        → CommandsEnd (CarriesAll cs w) line r (output_with unsent s.sent_old s.sent_new s.writer) → All
    commands_works (Ok outcome.Done) fin h = all_works h.2 (part_of s line h.1) (λ f. h.1)
    commands_works (Ok (outcome.Refused n)) fin h =
        refused_works n (λ f. cc (fin f)) (quiet h.0) h.1
    commands_works (Ok outcome.SomeRefused) fin h = absurd h
    commands_works (Err (stop.Vault f)) fin h =
        stopped_works f (λ d. cc (fin d)) (quiet h.0) h.1
    commands_works (Err (stop.Service f)) fin (is, failed, carried, part) =
        all_works carried part (λ d. absurd (cc (fin d)))
    commands_works (Err (stop.Listener f)) fin h = absurd h
    commands_works (Err (stop.Unread about f)) fin h = absurd h
    commands_works (Err (stop.Batch f)) fin h = absurd h
