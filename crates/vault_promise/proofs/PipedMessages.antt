-- What a job of messages answered, and what it left undecided, as commands.
use Rattle.std.proofs.Common.{◌≡◌, ℕ, ◌≤◌, List, [], ◌∷◌, ◌++◌, length, take, Option, Some, None}
use Rattle.std.proofs.Common.{Result, Ok, Err}
use Rattle.std.proofs.Common.{refl, ap, subst, ◌∙◌, append-nil, arith}
use Rattle.std.proofs.lemmas.Grind.{flat_map-append}
use Rattle.std.specs.Prelude.{IfSome}
use Rattle.vault_core.specs.Proper.{AllProper, IsProper}
use Rattle.vault_core.specs.Runs.{run}
use Rattle.vault_core.specs.Vault.{Vault as Content}
use Rattle.vault_core.specs.declared.command.Command.{Command}
use Rattle.std.specs.Io.KnownBytes.{Appends, Consumes}
use Rattle.vault_http.specs.Exchanges.{answer_for, last_text}
use Rattle.vault_engine.specs.Asking.{Asked, commands_in, commands_of, texts, vault_after}
use Rattle.vault_wire.specs.Parts.{Parts}
use Rattle.vault_wire.specs.declared.fault.WireFault.{WireFault}
use Rattle.vault_engine.specs.Passing.{IsBefore, Passage}
use Rattle.vault_listen.specs.Live.{AreGiven, Turns}
use Rattle.vault_routes.specs.Wanted.{Wanted}
use Rattle.vault_jobs.specs.Doing.{PipeEnds}
use Rattle.vault_jobs.specs.Streams.{Streams, seen_as}
use Rattle.vault_jobs.specs.declared.stop.Stop.{Stop}
use Rattle.vault_jobs.specs.declared.task.Outcome.{Outcome}
use Rattle.vault_jobs.specs.declared.task.Outcome.TheVariants as outcome
use Rattle.vault_jobs.specs.Outside.{Outside}
use Rattle.vault_promise.proofs.Answering.{all_of, answers_of}
use Rattle.vault_promise.proofs.Proper.{proper-first, proper-last}
use Rattle.vault_promise.proofs.TaskAnswers.{Works}
use Rattle.vault_promise.specs.Runs.{perhaps}
use Rattle.vault_promise.specs.Shapes.Shape.{Messages}
use Rattle.vault_promise.specs.Told.{AreAllAnswered, AreHeard, IsAskedNext, IsQuiet}

-- the command that is wanted, where there is one
abbrev pub command_in : Wanted Command → Option Command
command_in (Ok c) = Some c
command_in (Err n) = None

pub wanted_proper : (w : Wanted Command) → AllProper (commands_in w) → IfSome (command_in w) IsProper
wanted_proper (Ok c) proper = proper.0
wanted_proper (Err n) proper = tt

pub wanted_run : (w : Wanted Command) (V : Content) → run (commands_in w) V ≡ perhaps V (command_in w)
wanted_run (Ok c) V = refl
wanted_run (Err n) V = refl

pub run_append : (cs ds : List Command) (V : Content) → run (cs ++ ds) V ≡ run ds (run cs V)
run_append [] ds V = refl
run_append (c ∷ cs) ds V = run_append cs ds _

module _ {X : Type 0} where
  pub commands-append : (xs ys : List (Asked X)) → commands_of (xs ++ ys) ≡ commands_of xs ++ commands_of ys
  commands-append xs ys = flat_map-append (λ (x : Asked X). commands_in x.wanted) xs ys

  -- the vault after exchanges is the one after their commands
  pub as_run : (V : Content) (xs : List (Asked X)) → vault_after V xs ≡ run (commands_of xs) V
  unfolding vault_after
  as_run V xs = refl

  -- the commands of exchanges and of one more
  pub commands_then : (xs : List (Asked X)) (x : Asked X)
      → commands_of (xs ++ x ∷ []) ≡ commands_of xs ++ commands_in x.wanted
  commands_then xs x =
      commands-append xs (x ∷ []) ∙ ap (λ cs. commands_of xs ++ cs) (append-nil (commands_in x.wanted))

  pub run_then : (V : Content) (xs : List (Asked X)) (x : Asked X)
      → vault_after V (xs ++ x ∷ []) ≡ perhaps (run (commands_of xs) V) (command_in x.wanted)
  run_then V xs x =
      as_run V (xs ++ x ∷ []) ∙ ap (λ cs. run cs V) (commands_then xs x)
      ∙ run_append (commands_of xs) (commands_in x.wanted) V ∙ wanted_run x.wanted (run (commands_of xs) V)

-- a message that isn't answered asks for its command
pub next_asked : (tells : Turns) (now : Option ℕ) (digits : Option (List ℕ)) (s : Streams)
    (xs : List (Asked Parts)) (x : Asked Parts) (heard : AreHeard tells now digits s xs)
    → (heard.more ≡ x ∷ []) → (w : Wanted Command) → x.wanted ≡ w
    → IfSome (command_in w) (IsAskedNext tells now digits s (commands_of xs))
next_asked tells now digits s xs x heard same (Ok c) is = (xs, x, refl, is, (heard, same))
next_asked tells now digits s xs x heard same (Err n) is = tt

module _ (at : Outside) (now : Option ℕ) (digits : Option (List ℕ)) (w : Passage) (V : Content)
    (b : IsBefore w V) (s : Streams) (F : Type 0) where
  abbrev tells : Turns
  tells = at.tells

  answered : (xs us : List (Asked Parts)) (heard : AreHeard tells now digits s xs) → (heard.more ≡ us)
      → length us ≤ 1
      → AllProper (commands_of (xs ++ us))
      → w.left_new (vault_after V xs) (vault_after V (xs ++ us))
      → (e : Option WireFault) × (sent : ℕ)
      × Appends s.sent_old s.sent_new (take sent (texts answer_for V xs ++ last_text e))
      → (F → AreAllAnswered tells now digits V (commands_of xs) s)
      → Works at w V (Messages now digits) F s
  answered xs [] heard same few proper left went all = record {
    answered = commands_of xs;
    undecided = None;
    proper = subst (λ ys. AllProper (commands_of ys)) (append-nil xs) proper;
    last_proper = tt;
    tells = (xs, refl, heard, went);
    next = tt;
    done = all;
    left = subst (λ W. w.left_new W W) (as_run V xs)
        (subst (λ ys. w.left_new (vault_after V xs) (vault_after V ys)) (append-nil xs) left);
  }
  answered xs (x ∷ []) heard same few proper left went all =
      let both : AllProper (commands_of xs ++ commands_in x.wanted) =
      subst AllProper (commands_then xs x) proper in
      record {
        answered = commands_of xs;
        undecided = command_in x.wanted;
        proper = proper-first (commands_of xs) (commands_in x.wanted) both;
        last_proper = wanted_proper x.wanted (proper-last (commands_of xs) (commands_in x.wanted) both);
        tells = (xs, refl, heard, went);
        next = next_asked tells now digits s xs x heard same x.wanted refl;
        done = all;
        left = subst (λ W. w.left_new W (perhaps (run (commands_of xs) V) (command_in x.wanted)))
            (as_run V xs) (subst (λ W. w.left_new (vault_after V xs) W) (run_then V xs x) left);
      }
  answered xs (x ∷ y ∷ us) heard same few proper left went all = absurd (omega (arith, few))

  pub pipe_works : (r : Result Outcome Stop) → (F → r ≡ Ok outcome.Done) → (unread unsent : Type 0)
      → (unread → Consumes s.left_old s.left_new []) → (unsent → IsQuiet s)
      → PipeEnds (AreGiven tells now digits) w r (seen_as unread unsent s)
      → Works at w V (Messages now digits) F s
  pipe_works r fin unread unsent still quiet h =
      let a = answers_of tells now digits w s r unread unsent still quiet h in
      answered a.exchanges a.undecided a.heard a.same a.few a.proper (a.left V b) (a.went V b)
      (λ f. all_of tells now digits w s V b r unread unsent still quiet h (fin f))
