-- A request that one run answers a token is answered it in a later one.
use Rattle.std.proofs.Common.{◌≡◌, ◌⊎◌, ◌∙◌, List, [], ◌∷◌, ◌++◌, None, Option, inl, inr}
use Rattle.std.proofs.Common.{ap, subst}
use Rattle.std.proofs.Math.Logic.{∥∥₁_map}
use Rattle.sqlite_wal.specs.Recovery.{Image}
use Rattle.vault_core.specs.Runs.{run}
use Rattle.vault_core.specs.Table.{reply}
use Rattle.vault_core.specs.Vault.{Vault as Content}
use Rattle.vault_core.specs.declared.command.Command.{Command}
use Rattle.vault_core.specs.declared.reply.Reply.{Reply}
use Rattle.vault_engine.specs.Asking.{Asked, commands_in, commands_of}
use Rattle.vault_wire.specs.Parts.{Parts}
use Rattle.vault_jobs.specs.declared.task.Task.{Task}
use Rattle.vault_jobs.specs.declared.task.Task.TheVariants as task
use Rattle.vault_app.specs.Asked.{AsksFor}
use Rattle.vault_app.specs.Plans.{IsTaskOf}
use Rattle.vault_promise.proofs.PipedMessages.{as_run, commands-append}
use Rattle.vault_promise.specs.Again.{DidNoPipe, Piped, PipesAgree, RunsAnswerAgain}
use Rattle.vault_promise.specs.Runs.{Come, Run, Work, around, outside_of}
use Rattle.vault_promise.specs.Shapes.{shape_of}
use Rattle.vault_promise.specs.Standing.{AnsweredIn, AnswersStand, IsRepliedIn, Stand}
use Rattle.vault_promise.specs.Told.{Tells}

-- the commands that a run answered are those of messages of its input
record ArePiped (r : Run) (W : Content) (cs : List Command) : Type 0 where
  xs : List (Asked Parts)
  are : cs ≡ commands_of xs
  piped : Piped r W xs

-- a task answered messages, or it is another
by_task : (r : Run) (W : Content) (cs : List Command) (t : Task)
    → AsksFor r.words (λ job. IsTaskOf (around r) job t)
    → Tells (outside_of r) (shape_of t W) W cs r.streams
    → DidNoPipe r ⊎ ArePiped r W cs
by_task r W cs (task.Pipe now digits) asked (xs, are, heard, (fault, sent, went)) = inr (record {
  xs = xs;
  are = are;
  piped = record { now = now; digits = digits; heard = heard; fault = fault; sent = sent; went = went };
})
by_task r W cs t asked told = inl (inr (t, asked, tt))

piped_of : (V : Content) (c : Option Command) (r : Run) (w : Work V c r)
    → DidNoPipe r ⊎ ArePiped r w.opened w.answered
piped_of V c r w = by_task r w.opened w.answered w.task w.asked w.tells

-- a list of commands has this one, which is answered so from the vault
abbrev HasAnswer : Content → List Command → Command → Reply → Type 0
HasAnswer W cs x y = (first more : List Command) × (cs ≡ first ++ x ∷ more) × (reply (run first W) x ≡ y)

-- what a message is answered, its command is answered
has_answer_of : (r : Run) (W : Content) (cs : List Command) (it : ArePiped r W cs) (x : Command) (y : Reply)
    → IsRepliedIn W it.xs x y → HasAnswer W cs x y
has_answer_of r W cs it x y (first, more, one, is, wanted, replied) = (
  commands_of first,
  commands_of more,
  it.are ∙ ap commands_of is ∙ commands-append first (one ∷ more)
      ∙ ap (λ w. commands_of first ++ (commands_in w ++ commands_of more)) wanted,
  subst (λ U. reply U x ≡ y) (as_run W first) replied,
)

-- the messages that a run answered, each of which is answered in the runs up to it
record IsTold (s : Run) (Answered : Command → Reply → Type 0) : Type 0 where
  held : Content
  asked : List (Asked Parts)
  piped : Piped s held asked
  answered : (x : Command) (y : Reply) → IsRepliedIn held asked x y → Answered x y

-- so what a run told is answered in the runs from there
told_here : (V : Content) (c : Option Command) (s : Run) (more : List Run) (end : Image)
    (come : Come V c (s ∷ more) end) → DidNoPipe s ⊎ IsTold s (AnsweredIn V c (s ∷ more) end come)
told_here V c s more end (inl w, rest) = elim (piped_of V c s w) [
  | inl none ↦ inl none
  | inr it ↦ inr (record {
    held = w.opened;
    asked = it.xs;
    piped = it.piped;
    answered = λ x y replied. inl (has_answer_of s w.opened w.answered it x y replied);
  })
]
told_here V c s more end (inr rests, rest) = inl (inl rests.0)

-- and in those before it too
told_in : (between : List Run) (V : Content) (c : Option Command) (s : Run) (more : List Run) (end : Image)
    (come : Come V c (between ++ s ∷ more) end)
    → DidNoPipe s ⊎ IsTold s (AnsweredIn V c (between ++ s ∷ more) end come)
told_in [] V c s more end come = told_here V c s more end come
told_in (m ∷ between) V c s more end (inl w, rest) =
    elim (told_in between (run w.answered w.opened) w.undecided s more end rest) [
      | inl none ↦ inl none
      | inr it ↦ inr (record {
        held = it.held;
        asked = it.asked;
        piped = it.piped;
        answered = λ x y replied. inr (it.answered x y replied);
      })
    ]
told_in (m ∷ between) V c s more end (inr rests, rest) = told_in between V c s more end rest

-- two runs, the earlier one in front
agree_here : (between more : List Run) (r s : Run) (end : Image) (V : Content) (c : Option Command)
    (come : Come V c (r ∷ (between ++ s ∷ more)) end) → Stand V c (r ∷ (between ++ s ∷ more)) end come
    → PipesAgree r s
agree_here between more r s end V c (inl w, rest) stand = elim (piped_of V c r w) [
  | inl none ↦ inl none
  | inr first ↦ elim (told_in between (run w.answered w.opened) w.undecided s more end rest) [
    | inl none ↦ inr (inl none)
    | inr later ↦ inr (inr (record {
      held = w.opened;
      held_again = later.held;
      asked = first.xs;
      asked_again = later.asked;
      piped = first.piped;
      piped_again = later.piped;
      tokens = λ a again token expires y replied same replied_again.
          stand.0 a again token expires y (has_answer_of r w.opened w.answered first _ _ replied) same
          (later.answered _ _ replied_again);
    }))
  ]
]
agree_here between more r s end V c (inr rests, rest) stand = inl (inl rests.0)

agree : (rs between more : List Run) (r s : Run) (end : Image) (V : Content) (c : Option Command)
    (come : Come V c (rs ++ r ∷ (between ++ s ∷ more)) end)
    → Stand V c (rs ++ r ∷ (between ++ s ∷ more)) end come → PipesAgree r s
agree [] between more r s end V c come stand = agree_here between more r s end V c come stand
agree (x ∷ rs) between more r s end V c (inl w, rest) stand =
    agree rs between more r s end (run w.answered w.opened) w.undecided rest stand.2
agree (x ∷ rs) between more r s end V c (inr rests, rest) stand =
    agree rs between more r s end V c rest stand

pub runs_answer_again : AnswersStand → RunsAnswerAgain
runs_answer_again law rs between more r s end V sound first runs =
    ∥∥₁_map (law (rs ++ r ∷ (between ++ s ∷ more)) end V sound first runs)
    (λ (come, stand). agree rs between more r s end V None come stand)
