-- What went out of a task, by the commands that it answered.
use Rattle.std.proofs.Common.{◌≡◌, ℕ, List, [], ◌∷◌, ◌++◌, Option, None}
use Rattle.std.proofs.Common.{inl, inr, sym, ap, subst, ◌∙◌, append_assoc}
use Rattle.vault_core.specs.Runs.{run}
use Rattle.vault_core.specs.Vault.{Vault as Content}
use Rattle.vault_core.specs.declared.command.Command.{Command}
use Rattle.vault_engine.specs.Asking.{Asked, commands_in, commands_of}
use Rattle.vault_listen.specs.Live.{Turns}
use Rattle.vault_live.specs.Turns.{Turn}
use Rattle.vault_live.specs.Turns.Turn.{Lost, Served, Attended}
use Rattle.vault_live.specs.Turns.{Asking}
use Rattle.vault_jobs.specs.Lists.{asked_of, begin_of}
use Rattle.vault_jobs.specs.Streams.{Streams}
use Rattle.vault_jobs.specs.Outside.{Outside}
use Rattle.vault_promise.proofs.PipedMessages.{as_run, commands-append, run_append}
use Rattle.vault_promise.specs.Sentences.{EachAsked, TextsTell, TurnsTell, WentOut}
use Rattle.vault_promise.specs.Shapes.{Shape}
use Rattle.vault_promise.specs.Shapes.Shape.{Commands, Purges, Rows, Messages, Connections, Words}
use Rattle.vault_promise.specs.Told.{AllAnswer, AreAnswered, Tells, streams_of}

-- of each of these commands this is true, at the vault that those before it leave
abbrev pub EachOf : Content → List Command → (Content → Command → Type 0) → Type 0
EachOf W cs Is = (first more : List Command) (x : Command) → cs ≡ first ++ x ∷ more → Is (run first W) x

each_asked : {X : Type 0} (W : Content) (cs : List Command) (xs : List (Asked X))
    (Is : Content → Command → Type 0) → EachOf W cs Is → cs ≡ commands_of xs → EachAsked W xs Is
each_asked W cs xs Is each are = λ first more it x is wanted.
    subst (λ U. Is U x) (sym (as_run W first))
    (each (commands_of first) (commands_of more) x
    (are ∙ ap commands_of is ∙ commands-append first (it ∷ more)
    ∙ ap (λ w. commands_of first ++ (commands_in w ++ commands_of more)) wanted))

-- so of the first ones
each_first : (W : Content) (cs first more : List Command) (Is : Content → Command → Type 0)
    → cs ≡ first ++ more → EachOf W cs Is → EachOf W first Is
each_first W cs first more Is is each = λ front behind x here.
    each front (behind ++ more) x (is ∙ ap (λ ds. ds ++ more) here ∙ append_assoc front (x ∷ behind) more)

-- and of the later ones
each_later : (W : Content) (cs first more : List Command) (Is : Content → Command → Type 0)
    → cs ≡ first ++ more → EachOf W cs Is → EachOf (run first W) more Is
each_later W cs first more Is is each = λ front behind x here.
    subst (λ U. Is U x) (run_append first front W)
    (each (first ++ front) behind x
    (is ∙ ap (λ ds. first ++ ds) here ∙ sym (append_assoc first front (x ∷ behind))))

texts_tell : (tells : Turns) (now : Option ℕ) (digits : Option (List ℕ)) (W : Content) (cs : List Command)
    (s : Streams) (Is : Content → Command → Type 0) → EachOf W cs Is
    → (it : AreAnswered tells now digits W cs s) → TextsTell tells now digits W s Is
texts_tell tells now digits W cs s Is each (xs, are, heard, (fault, sent, went)) = record {
  exchanges = xs;
  heard = heard;
  fault = fault;
  sent = sent;
  went = went;
  each = each_asked W cs xs Is each are;
}

turns_tell : (tells : Turns) (asks : Asking) (ts : List Turn) (W : Content) (cs : List Command)
    (Is : Content → Command → Type 0) → EachOf W cs Is → AllAnswer tells asks W ts cs
    → TurnsTell tells W ts Is
unfolding texts_tell
turns_tell tells asks [] W cs Is each told = tt
turns_tell tells asks (Lost ∷ ts) W cs Is each told = turns_tell tells asks ts W cs Is each told
turns_tell tells asks (Served x ∷ ts) W cs Is each (first, more, is, here, rest) = (
  texts_tell tells None None W first (streams_of x) Is (each_first W cs first more Is is each) here.0,
  subst (λ U. TurnsTell tells U ts Is) (ap (λ ds. run ds W) here.0.1 ∙ sym (as_run W here.0.0))
      (turns_tell tells asks ts (run first W) more Is (each_later W cs first more Is is each) rest),
)
turns_tell tells asks (Attended first news ∷ ts) W cs Is each (asked, (more, is, rest)) =
    (asked.1, turns_tell tells asks ts (run first W) more Is (each_later W cs first more Is is each) rest)

pub went_out : (at : Outside) (shape : Shape) (W : Content) (cs : List Command) (s : Streams)
    (Is : Content → Command → Type 0) → EachOf W cs Is → Tells at shape W cs s → WentOut at shape W cs s Is
went_out at (Commands all line) W cs s Is each told = told
went_out at (Purges who now giver) W cs s Is each told = told
went_out at (Rows who now digits) W cs s Is each (xs, asked, are, read, (sent, went)) = (
  record { rows = xs; read = read; sent = sent; went = went; each = each_asked W cs xs Is each are },
  asked,
)
went_out at (Messages now digits) W cs s Is each told = texts_tell at.tells now digits W cs s Is each told
went_out at (Connections service) W cs s Is each (inl (first, none, quiet)) = inl (none, quiet)
went_out at (Connections service) W cs s Is each (inr (more, is, done, said, told)) =
    let first : List Command = begin_of service.lists W in
    inr (
      done,
      said,
      turns_tell at.tells (asked_of at service.lists) s.turns (run first W) more Is
          (each_later W cs first more Is is each) told,
    )
went_out at (Words text) W cs s Is each told = told
