-- Answers stand in later runs.
use Rattle.std.proofs.Common.{◌≡◌, ℕ, List, [], ◌∷◌, ◌++◌, Option, None, inl, inr}
use Rattle.std.proofs.Common.{refl, sym, ap, subst, ◌∙◌, append-nil, append_assoc}
use Rattle.std.proofs.Math.Logic.{∥∥₁_map}
use Rattle.sqlite_wal.specs.Recovery.{Image}
use Rattle.vault_core.specs.Keys.{Bytes}
use Rattle.vault_core.specs.Laws.{IsSameRequest}
use Rattle.vault_core.specs.Runs.{run}
use Rattle.vault_core.specs.Sound.{Sound}
use Rattle.vault_core.specs.Parts.{command_of}
use Rattle.vault_core.specs.Table.{after, reply}
use Rattle.vault_core.specs.Vault.{Vault as Content}
use Rattle.vault_core.specs.declared.command.Command.{Command}
use Rattle.vault_core.specs.declared.command.TokenRequest.{TokenRequest}
use Rattle.vault_core.specs.declared.reply.Reply.{Reply}
use Rattle.vault_core.specs.declared.reply.Reply.TheVariants.{Token}
use Rattle.vault_engine.specs.Asking.{Asked, commands_in, commands_of}
use Rattle.vault_recover.specs.Histories.{Answered, IsHistory, Step, last}
use Rattle.vault_listen.specs.Live.{Turns}
use Rattle.vault_live.specs.Turns.{Turn}
use Rattle.vault_live.specs.Turns.Turn.{Lost, Served, Attended}
use Rattle.vault_live.specs.Turns.{Asking}
use Rattle.vault_jobs.specs.Lists.{asked_of, begin_of}
use Rattle.vault_jobs.specs.Streams.{Streams}
use Rattle.vault_jobs.specs.Outside.{Outside}
use Rattle.vault_promise.specs.Shapes.{Shape, shape_of}
use Rattle.vault_promise.specs.Shapes.Shape.{Rows, Messages, Connections}
use Rattle.vault_promise.proofs.RunHistories.{answers_last, opening_last}
use Rattle.vault_promise.proofs.SoundHistories.{last-append, parts}
use Rattle.vault_promise.proofs.PipedMessages.{as_run, commands-append, run_append}
use Rattle.vault_promise.specs.SoundHistories.{HistoriesLast}
use Rattle.vault_promise.specs.Runs.{Come, Run, RunsComeToHistories, answers, history, opening, outside_of}
use Rattle.vault_promise.specs.Standing.{AnsweredIn, Answers, AnswersStand, Stand, TellsStanding}
use Rattle.vault_promise.specs.Standing.{IsRepliedIn, TurnsStand, TextsStand, TokensStand}
use Rattle.vault_promise.specs.Told.{AllAnswer, AreAnswered, Tells, streams_of}

abbrev Steps : Type 0
Steps = List (Step × Content)

append_nil_in : {X : Type 0} (a b : List X) → a ++ (b ++ []) ≡ a ++ b
append_nil_in a b = ap (λ l. a ++ l) (append-nil b)

-- a list with one item in the midst of its midst
within : {X : Type 0} (a b c d : List X) (x : X) → a ++ ((b ++ x ∷ c) ++ d) ≡ (a ++ b) ++ x ∷ (c ++ d)
within a b c d x = ap (λ l. a ++ l) (append_assoc b (x ∷ c) d) ∙ sym (append_assoc a b (x ∷ (c ++ d)))

-- the answers to commands, with one of them
pub answers_at : (W : Content) (first more : List Command) (x : Command)
    → answers W (first ++ x ∷ more) ≡ answers W first
    ++ (Answered x (reply (run first W) x), after (run first W) x) ∷ answers (after (run first W) x) more
answers_at W [] more x = refl
answers_at W (c ∷ first) more x =
    ap (λ h. (Answered c (reply W c), after W c) ∷ h) (answers_at (after W c) first more x)

-- a history has at some place this answer
record Has (h : Steps) (x : Command) (y : Reply) : Type 0 where
  first : Steps
  next : Content
  more : Steps
  is : h ≡ first ++ (Answered x y, next) ∷ more

-- so the answers of a run, behind others and before others
has_answer : (W : Content) (cs : List Command) (x : Command) (y : Reply) (a d : Steps)
    → (first more : List Command) → cs ≡ first ++ x ∷ more → reply (run first W) x ≡ y
    → Has (a ++ (answers W cs ++ d)) x y
has_answer W cs x y a d first more same replied =
    let U : Content = after (run first W) x in
    subst (λ ds. Has (a ++ (answers W ds ++ d)) x y) (sym same) (record {
      first = a ++ answers W first;
      next = U;
      more = answers U more ++ d;
      is = ap (λ l. a ++ (l ++ d)) (answers_at W first more x)
          ∙ within a (answers W first) (answers U more) d (Answered x (reply (run first W) x), U)
          ∙ ap (λ z. (a ++ answers W first) ++ (Answered x z, U) ∷ (answers U more ++ d)) replied;
    })

has_behind : (a h : Steps) (x : Command) (y : Reply) → Has h x y → Has (a ++ h) x y
has_behind a h x y it = record {
  first = a ++ it.first;
  next = it.next;
  more = it.more;
  is = ap (λ l. a ++ l) it.is ∙ sym (append_assoc a it.first ((Answered x y, it.next) ∷ it.more));
}

-- the history of runs has what one of them answered
has_in : (V : Content) (c : Option Command) (rs : List Run) (end : Image) (come : Come V c rs end)
    (x : Command) (y : Reply) → AnsweredIn V c rs end come x y → Has (history V c rs end come) x y
has_in V c [] end come x y it = absurd it
has_in V c (r ∷ rs) end (inl w, more) x y (inl (first, rest, same, replied)) =
    has_answer w.opened w.answered x y (opening c w.opened)
    (history (run w.answered w.opened) w.undecided rs end more) first rest same replied
has_in V c (r ∷ rs) end (inl w, more) x y (inr later) =
    has_behind (opening c w.opened)
    (answers w.opened w.answered ++ history (run w.answered w.opened) w.undecided rs end more) x y
    (has_behind (answers w.opened w.answered) (history (run w.answered w.opened) w.undecided rs end more) x y
    (has_in (run w.answered w.opened) w.undecided rs end more x y later))
has_in V c (r ∷ rs) end (inr rests, more) x y it = has_in V c rs end more x y it

module _ (lasting : HistoriesLast) (V : Content) (sound : Sound V) where
  -- of two answers of a history to one request, the first a token, the second is that token
  one_token : (h g : Steps) (a again : TokenRequest) (token : Bytes) (expires : ℕ) (y : Reply)
      → IsHistory V (h ++ g) → Has h (command_of a) (Token token expires) → IsSameRequest a again
      → Has g (command_of again) y → y ≡ Token token expires
  one_token h g a again token expires y is one same other =
      let rest : Steps = (Answered (command_of again) y, other.next) ∷ other.more in
      let split : h ++ g ≡ (h ++ other.first) ++ rest =
      ap (λ l. h ++ l) other.is ∙ sym (append_assoc h other.first rest) in
      let both = parts V (h ++ other.first) rest (subst (IsHistory V) split is) in
      let begun : h ++ other.first
      ≡ one.first ++ (Answered (command_of a) (Token token expires), one.next) ∷ (one.more ++ other.first) =
      ap (λ l. l ++ other.first) one.is
      ∙ append_assoc one.first ((Answered (command_of a) (Token token expires), one.next) ∷ one.more)
      other.first in
      both.1.1.0 ∙ (lasting V (h ++ other.first) sound both.0).again one.first (one.more ++ other.first)
      a again token expires one.next begun same

-- a list of commands has this one, which is answered so from the vault
abbrev AnswersIn : Content → List Command → Command → Reply → Type 0
AnswersIn W cs x y = (first more : List Command) × (cs ≡ first ++ x ∷ more) × (reply (run first W) x ≡ y)

-- what is replied to units stands where the answers to their commands do
replies_stand : {X : Type 0} (W : Content) (cs : List Command) (xs : List (Asked X))
    (Later : Command → Reply → Type 0) → TokensStand (AnswersIn W cs) Later → cs ≡ commands_of xs
    → TokensStand (IsRepliedIn W xs) Later
replies_stand W cs xs Later stand are =
    λ a again token expires y (first, more, it, is, wanted, replied) same later.
    stand a again token expires y (
      commands_of first,
      commands_of more,
      are ∙ ap commands_of is ∙ commands-append first (it ∷ more)
          ∙ ap (λ w. commands_of first ++ (commands_in w ++ commands_of more)) wanted,
      subst (λ U. reply U (command_of a) ≡ Token token expires) (as_run W first) replied,
    ) same later

-- the texts of messages stand
messages_stand : (tells : Turns) (now : Option ℕ) (digits : Option (List ℕ)) (W : Content)
    (cs : List Command) (s : Streams) (Later : Command → Reply → Type 0) → TokensStand (AnswersIn W cs) Later
    → (it : AreAnswered tells now digits W cs s) → TextsStand tells now digits W s Later
messages_stand tells now digits W cs s Later stand (xs, are, heard, (fault, sent, went)) = record {
  exchanges = xs;
  heard = heard;
  fault = fault;
  sent = sent;
  went = went;
  stand = replies_stand W cs xs Later stand are;
}

-- where tokens stand that commands answer, those stand that the later ones of them do
later_stand : (W : Content) (cs first more : List Command) (Later : Command → Reply → Type 0)
    → cs ≡ first ++ more → TokensStand (AnswersIn W cs) Later
    → TokensStand (AnswersIn (run first W) more) Later
later_stand W cs first more Later is stand = λ a again token expires y (front, behind, same, replied).
    stand a again token expires y (
      first ++ front,
      behind,
      is ∙ ap (λ ds. first ++ ds) same ∙ sym (append_assoc first front (command_of a ∷ behind)),
      subst (λ U. reply U (command_of a) ≡ Token token expires) (sym (run_append first front W)) replied,
    )

-- and so those of turns
turns_stand : (tells : Turns) (asks : Asking) (ts : List Turn) (W : Content) (cs : List Command)
    (Later : Command → Reply → Type 0) → TokensStand (AnswersIn W cs) Later → AllAnswer tells asks W ts cs
    → TurnsStand tells W ts Later
unfolding messages_stand
turns_stand tells asks [] W cs Later stand told = tt
turns_stand tells asks (Lost ∷ ts) W cs Later stand told = turns_stand tells asks ts W cs Later stand told
turns_stand tells asks (Served x ∷ ts) W cs Later stand (first, more, is, here, rest) = (
  messages_stand tells None None W first (streams_of x) Later
      (λ a again token expires y (front, behind, same, replied).
      stand a again token expires y (
        front,
        behind ++ more,
        is ∙ ap (λ ds. ds ++ more) same ∙ append_assoc front (command_of a ∷ behind) more,
        replied,
      )) here.0,
  subst (λ U. TurnsStand tells U ts Later) (ap (λ ds. run ds W) here.0.1 ∙ sym (as_run W here.0.0))
      (turns_stand tells asks ts (run first W) more Later (later_stand W cs first more Later is stand) rest),
)
turns_stand tells asks (Attended first news ∷ ts) W cs Later stand (asked, (more, is, rest)) =
    turns_stand tells asks ts (run first W) more Later (later_stand W cs first more Later is stand) rest

-- what went out of a task stands
texts_stand : (at : Outside) (shape : Shape) (W : Content) (cs : List Command) (s : Streams)
    (Later : Command → Reply → Type 0) → TokensStand (AnswersIn W cs) Later → Tells at shape W cs s
    → TellsStanding at shape W s Later
texts_stand at (Rows who now digits) W cs s Later stand (xs, asked, are, read, went) = record {
  rows = xs;
  read = read;
  sent = went.0;
  went = went.1;
  stand = replies_stand W cs xs Later stand are;
}
texts_stand at (Messages now digits) W cs s Later stand told =
    messages_stand at.tells now digits W cs s Later stand told
texts_stand at (Connections service) W cs s Later stand (inl (first, none, quiet)) =
    subst (λ ts. TurnsStand at.tells (run (begin_of service.lists W) W) ts Later) (sym none) tt
texts_stand at (Connections service) W cs s Later stand (inr (more, is, done, said, told)) =
    let first : List Command = begin_of service.lists W in
    turns_stand at.tells (asked_of at service.lists) s.turns (run first W) more Later
    (later_stand W cs first more Later is stand) told
texts_stand at shape W cs s Later stand told = tt

pub stand_in : HistoriesLast → (V : Content) (c : Option Command) (rs : List Run) (end : Image)
    (come : Come V c rs end) → Sound V → IsHistory V (history V c rs end come) → Stand V c rs end come
stand_in lasting V c [] end come sound is = tt
stand_in lasting V c (r ∷ rs) end (inl w, more) sound is =
    let W : Content = w.opened in
    let U : Content = run w.answered W in
    let own : Steps = opening c W ++ answers W w.answered in
    let rest : Steps = history U w.undecided rs end more in
    let all : IsHistory V (own ++ rest) =
    subst (IsHistory V) (sym (append_assoc (opening c W) (answers W w.answered) rest)) is in
    let both = parts V own rest all in
    let ends : last V own ≡ U =
    last-append V (opening c W) (answers W w.answered)
    ∙ ap (λ X. last X (answers W w.answered)) (opening_last V W c) ∙ answers_last W w.answered in
    let stand : TokensStand (Answers w) (AnsweredIn U w.undecided rs end more) =
    λ a again token expires y (first, after_it, same, replied) is_same later.
    one_token lasting V sound own rest a again token expires y all
    (subst (λ h. Has h (command_of a) (Token token expires))
    (append_nil_in (opening c W) (answers W w.answered))
    (has_answer W w.answered (command_of a) (Token token expires) (opening c W) [] first after_it same
    replied))
    is_same (has_in U w.undecided rs end more (command_of again) y later) in (
      stand,
      texts_stand (outside_of r) (shape_of w.task W) W w.answered r.streams
          (AnsweredIn U w.undecided rs end more) stand w.tells,
      stand_in lasting U w.undecided rs end more
          (subst Sound ends (lasting V own sound both.0).sound)
          (subst (λ X. IsHistory X rest) ends both.1),
    )
stand_in lasting V c (r ∷ rs) end (inr rests, more) sound is = stand_in lasting V c rs end more sound is

pub answers_stand : RunsComeToHistories → HistoriesLast → AnswersStand
answers_stand come lasting rs end V sound of runs =
    ∥∥₁_map (come rs end V sound of runs) (λ it.
    (it.0, stand_in lasting V None rs end it.0 sound it.1))
