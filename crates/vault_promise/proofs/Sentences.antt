-- The sentences of the headline follow from the promise.
use Rattle.std.proofs.Common.{◌≡◌, ◌⊎◌, ◌≤◌, ◌+◌, ◌&&◌, ℕ, Bool, List, [], ◌∷◌, ◌++◌, Option, Some, None, inl}
use Rattle.std.proofs.Common.{inr, refl, sym, ap, subst, ◌∙◌, append_assoc, arith, cond, Ok}
use Rattle.std.proofs.Math.Logic.{∥∥₁_map}
use Rattle.std.specs.Prelude.{All, IfSome}
use Rattle.std.proofs.lemmas.List.Elements.{All-head, All-tail}
use Rattle.sqlite_wal.specs.Recovery.{Image}
use Rattle.vault_pan.specs.CardText.{same}
use Rattle.vault_core.specs.Keys.{Bytes}
use Rattle.vault_core.specs.Laws.{IsOrPurged}
use Rattle.vault_core.specs.Named.{merchant_of}
use Rattle.vault_core.specs.Proper.{AllProper, IsProper}
use Rattle.vault_core.specs.Runs.{run}
use Rattle.vault_core.specs.Sound.{Sound}
use Rattle.vault_core.specs.Table.{after, reply}
use Rattle.vault_core.specs.Vault.{Vault as Content}
use Rattle.vault_core.specs.Yields.{answered_so, given_by, gives_number}
use Rattle.vault_core.specs.declared.command.Command.{Command}
use Rattle.vault_core.specs.declared.command.Command.TheVariants.{Detokenize}
use Rattle.vault_batch.specs.Asking.{Asks, Wants}
use Rattle.vault_batch.specs.Rows.{Row}
use Rattle.vault_batch.specs.declared.asker.Asker.{Asker}
use Rattle.vault_engine.specs.Asking.{Asked, Pair, Wanted, vault_after}
use Rattle.vault_recover.specs.Histories.{GivenIsWithin, IsHistory, RequestsAnswerOnce, Step, answers_number}
use Rattle.vault_recover.specs.Histories.{how_many, last, leaves_number}
use Rattle.vault_listen.specs.Live.{Turns}
use Rattle.vault_live.specs.Turns.{Turn}
use Rattle.vault_live.specs.Turns.Turn.{Lost, Served, Attended}
use Rattle.vault_jobs.specs.Streams.{Streams}
use Rattle.vault_jobs.specs.Outside.{Outside}
use Rattle.vault_promise.specs.Shapes.{Shape, shape_of}
use Rattle.vault_promise.specs.Shapes.Shape.{Commands, Purges, Rows, Messages, Connections, Words}
use Rattle.vault_app.specs.Asked.{AsksFor, AsksHelp}
use Rattle.clap.specs.Words.{IsAmong, Text}
use Rattle.clap.specs.declared.error.kind.ErrorKind.TheVariants.{DisplayHelp}
use Rattle.vault_app.specs.Plans.{EndsBefore, saying}
use Rattle.vault_app.specs.Saying.{IsBeside, OfCheck, OfMove, OfTask, OfTrial, Purpose}
use Rattle.vault_app.specs.World.{anything}
use Rattle.vault_app.specs.Ending.{IsDone}
use Rattle.vault_app.specs.declared.ending.Ending.{Ending}
use Rattle.vault_app.specs.declared.ending.Ending.TheVariants as ending
use Rattle.vault_promise.proofs.OneKind.{only_move, only_task}
use Rattle.vault_promise.proofs.PipedMessages.{run_append}
use Rattle.vault_promise.proofs.RunHistories.{answers_last, opening_last}
use Rattle.vault_promise.proofs.SoundHistories.{last-append, parts}
use Rattle.vault_promise.proofs.Spared.{no_task}
use Rattle.vault_promise.proofs.Standing.{stand_in}
use Rattle.vault_promise.proofs.ToldMoments.{is_timely}
use Rattle.vault_promise.proofs.WentOut.{EachOf, went_out}
use Rattle.vault_promise.proofs.ListedRights.{follows_its}
use Rattle.vault_promise.specs.ListedRights.{FollowsIts}
use Rattle.vault_promise.specs.Exact.{RightsBecomeExact}
use Rattle.vault_promise.specs.DueNumbers.{EachIsDue, FaultsTellNoNumber, OnlyDueIsGiven, TextsTellNumbers}
use Rattle.vault_promise.specs.Sentences.{CountsAreWithin, RequestsAnswerOnceEver, SentencesHoldTogether}
use Rattle.vault_promise.specs.Sentences.{AllSpared, MovesKeep, MovesKeepTheVault, StopsAreSpared}
use Rattle.vault_promise.specs.Sentences.{AnswersAreKept, AnswersStay, AreDue, AreDueTurns, AreDueTexts}
use Rattle.vault_promise.specs.Sentences.{AreWhole, ChangesAreWhole, DidWhole, DoneIsDone, GivesDue, IsKept}
use Rattle.vault_promise.specs.Sentences.{IsTimely, LeadsTo, MomentsAreTold, OfAnyRuns, TellsDue, TurnsTell}
use Rattle.vault_promise.specs.Sentences.{NeverShared, NonePasses}
use Rattle.vault_promise.specs.Sentences.{NumbersAreCounted, NumbersGoToNobodyElse, NumbersStayApart, Steps}
use Rattle.vault_promise.specs.Sentences.{RightsFollowTheirList, TextsTell, TokensYield, WentOut, given_in, left_by}
use Rattle.vault_promise.proofs.Standing.{answers_at}
use Rattle.vault_promise.specs.Sentences.{OutYields, TextsYield, TurnsYield, Yields, YieldsAt}
use Rattle.vault_promise.specs.SoundHistories.{HistoriesLast, LiveTokensYieldIn}
use Rattle.vault_core.specs.declared.reply.Reply.TheVariants.{Number}
use Rattle.vault_engine.specs.Asking.{reply_to}
use Rattle.vault_recover.specs.Histories.{Answered}
use Rattle.vault_wire.specs.Parts.{closes}
use Rattle.vault_promise.specs.Runs.{AreNew, AreOf, AsksMove, AsksTask, Come, Comes, Follow, IsAside, IsAsideRun}
use Rattle.vault_promise.specs.Runs.{Each, GoesOutAside, IsSpared, MakesNew, OfRun, Rests, Run, RunsComeToHistories, Work, answers}
use Rattle.vault_promise.specs.Runs.{around, before, history, kept_by, opening, outside_of, perhaps}
use Rattle.vault_promise.specs.Runs.{undecided_by}
use Rattle.vault_promise.specs.Told.{IsNext, IsQuiet, streams_of}

-- ---- each run

-- what is true of any run with those before it and behind it is true of each
each_of : (Is : OfRun)
    → ((V : Content) (c : Option Command) (r : Run) (it : Comes V c r) (rs : List Run) (end : Image)
    (more : Come (kept_by V c r it) (undecided_by V c r it) rs end)
    → Follow V c (r ∷ rs) end (it, more) → Is V c r it rs end more)
    → (V : Content) (c : Option Command) (rs : List Run) (end : Image) (come : Come V c rs end)
    → Follow V c rs end come → Each Is V c rs end come
each_of Is of V c [] end come follow = tt
each_of Is of V c (r ∷ rs) end (it, more) follow = (
  of V c r it rs end more follow,
  each_of Is of (kept_by V c r it) (undecided_by V c r it) rs end more follow.2,
)

-- and of any runs
each_run : (Is : OfRun)
    → ((V : Content) (c : Option Command) (r : Run) (it : Comes V c r) (rs : List Run) (end : Image)
    (more : Come (kept_by V c r it) (undecided_by V c r it) rs end)
    → Follow V c (r ∷ rs) end (it, more) → Is V c r it rs end more)
    → RunsComeToHistories → OfAnyRuns (λ V rs end come. Each Is V None rs end come)
each_run Is of come rs end V sound first runs =
    ∥∥₁_map (come rs end V sound first runs) (λ it. (it.0, each_of Is of V None rs end it.0 it.3))

-- ---- places on the way

-- the first steps of a history are one
first_is : (V : Content) (h first more : Steps) → IsHistory V h → h ≡ first ++ more → IsHistory V first
first_is V h first more is same = (parts V first more (subst (IsHistory V) same is)).0

-- a number that is there is the one that was
one_number : (number : Bytes) (o : Option Bytes) (other : Bytes) → o ≡ Some other → IsOrPurged number o
    → other ≡ number
one_number number o other is has = subst (IsOrPurged number) is has

module _ (lasting : HistoriesLast) (V : Content) (sound : Sound V) (h : Steps) (is : IsHistory V h) where
  never_shared : NeverShared V h
  never_shared first second more same m token number entry at stands =
      let whole : h ≡ (first ++ second) ++ more = same ∙ sym (append_assoc first second more) in
      let has = (lasting V (first ++ second) sound (first_is V h (first ++ second) more is whole)).apart
      first second refl m token number entry at stands in
      (has.0, has.1, λ other there. one_number number has.0.number other there has.2)

  none_passes : NonePasses V h
  none_passes first more same = (lasting V first sound (first_is V h first more is same)).checked

pub numbers_apart : RunsComeToHistories → HistoriesLast → NumbersStayApart
numbers_apart come lasting rs end V sound of runs =
    ∥∥₁_map (come rs end V sound of runs) (λ it. (
      it.0,
      (never_shared lasting V sound _ it.1, none_passes lasting V sound _ it.1),
    ))

-- ---- numbers go to nobody else

in_all : (P : Asked Row → Type 0) (first more : List (Asked Row)) (x : Asked Row)
    → All P (first ++ x ∷ more) → P x
in_all P [] more x all = All-head P x more all
in_all P (y ∷ first) more x all = in_all P first more x (All-tail P y (first ++ x ∷ more) all)

-- a row asks for no number
row_is : (who : Asker) (row : Row) (pair : Pair) (w : Wanted) → Wants who row pair w
    → (caller m token : Bytes) (now : ℕ) → w ≡ Ok (Detokenize caller m token now) → ⊥
row_is who row pair w (inl (a, inl (b, inl (c, inl (u, v, same))))) caller m token now is =
    let both = sym same ∙ is in absurd (cc)
row_is who row pair w (inl (a, inl (b, inl (c, inr (none, same))))) caller m token now is =
    let both = sym same ∙ is in absurd (cc)
row_is who row pair w (inl (a, inl (b, inr (none, same)))) caller m token now is =
    let both = sym same ∙ is in absurd (cc)
row_is who row pair w (inl (a, inr (none, same))) caller m token now is =
    let both = sym same ∙ is in absurd (cc)
row_is who row pair w (inr (none, same)) caller m token now is =
    let both = sym same ∙ is in absurd (cc)

-- what goes out of a run that rests
quiet_rest : (r : Run) → Rests r
    → IsQuiet r.streams ⊎ (AsksHelp r.words ⊎ IsAsideRun r)
quiet_rest r (inl (inl (early_end, quiet)), says) = inl quiet
quiet_rest r (inl (inr (inl (inl (help, is), calm))), says) = inr (inl help)
quiet_rest r (inl (inr (inl (inr (version, is, silent), calm))), says) = inl silent
quiet_rest r (inl (inr (inr (inl (none, is, calm, silent)))), says) = inl silent
quiet_rest r (inl (inr (inr (inr (is, calm, silent)))), says) = inl silent
quiet_rest r (inr (inl (why, quiet)), says) = inl quiet
quiet_rest r (inr (inr aside), says) = inr (inr aside)

module _ (due : OnlyDueIsGiven) (texts : EachIsDue) (faults : FaultsTellNoNumber) where
  due_texts : (tells : Turns) (now : Option ℕ) (digits : Option (List ℕ)) (W : Content) (s : Streams)
      (it : TextsTell tells now digits W s GivesDue) → AreDueTexts tells now digits W s it
  due_texts tells now digits W s it = (
    λ first more x number close is reads.
        (texts W (it.exchanges ++ it.heard.more) first (more ++ it.heard.more) x number close
        (ap (λ l. l ++ it.heard.more) is ∙ append_assoc first (x ∷ more) it.heard.more) it.heard.asked
        reads).2,
    λ e is number close reads. faults e number close reads,
  )

  due_turns : (tells : Turns) (W : Content) (ts : List Turn) (it : TurnsTell tells W ts GivesDue)
      → AreDueTurns tells W ts it
  due_turns tells W [] it = tt
  due_turns tells W (Lost ∷ ts) it = due_turns tells W ts it
  due_turns tells W (Served x ∷ ts) (it, all) =
      (due_texts tells None None W (streams_of x) it, due_turns tells (vault_after W it.exchanges) ts all)
  due_turns tells W (Attended cs news ∷ ts) (said, all) = due_turns tells (run cs W) ts all

  are_due : (at : Outside) (shape : Shape) (W : Content) (cs : List Command) (s : Streams)
      (it : WentOut at shape W cs s GivesDue) → AreDue at shape W cs s it
  are_due at (Commands all line) W cs s it = tt
  are_due at (Purges who now giver) W cs s it = tt
  are_due at (Rows who now digits) W cs s (it, asked) = λ first more row x is wanted number replied.
      let gives = it.each first more row x is wanted number replied in
      row_is who row.unit row.pair row.wanted
      (in_all (Asks who) first more row (subst (All (Asks who)) is asked))
      gives.caller gives.merchant gives.token gives.now (wanted ∙ ap Ok gives.asks)
  are_due at (Messages now digits) W cs s it = due_texts at.tells now digits W s it
  are_due at (Connections service) W cs s (inl none) = tt
  are_due at (Connections service) W cs s (inr (done, said, it)) = due_turns at.tells _ s.turns it
  are_due at (Words text) W cs s it = tt

  tells_due : (V : Content) (c : Option Command) (r : Run) (it : Comes V c r) (rs : List Run) (end : Image)
      (more : Come (kept_by V c r it) (undecided_by V c r it) rs end) → TellsDue V c r it rs end more
  tells_due V c r (inl w) rs end more =
      let each : EachOf w.opened w.answered GivesDue =
      λ first rest x is number replied. due (run first w.opened) x number replied in
      let shape = shape_of w.task w.opened in
      let went = went_out (outside_of r) shape w.opened w.answered r.streams GivesDue each w.tells in
      (each, (went, are_due (outside_of r) shape w.opened w.answered r.streams went), w.says)
  tells_due V c r (inr rests) rs end more = (quiet_rest r rests.0, rests.0.1)

  pub nobody_else : RunsComeToHistories → NumbersGoToNobodyElse
  nobody_else = each_run TellsDue (λ V c r it rs end more follow. tells_due V c r it rs end more)

-- ---- moments are told

pub moments_told : RunsComeToHistories → MomentsAreTold
moments_told = each_run IsTimely (λ V c r it rs end more follow. is_timely V c r it rs end more)

-- ---- tokens yield to those entitled

-- a number that a due token stands for is the one that is answered
one_due : (o : Option Bytes) (a b : Bytes) → o ≡ Some a → o ≡ Some b → a ≡ b
one_due o a b x y = cc (x, y)

module _ (law : TextsTellNumbers) where
  texts_yield : (tells : Turns) (now : Option ℕ) (digits : Option (List ℕ)) (W : Content) (s : Streams)
      (it : TextsTell tells now digits W s YieldsAt) → TextsYield W it.exchanges
  texts_yield tells now digits W s it first more x caller m token at number is wanted due below =
      let U : Content = vault_after W first in
      let (other, stands, replied) = it.each first more x _ is wanted caller m token at due.entry due.right
      due.held due.live below in
      let same = one_due due.entry.number other number stands due.stands in
      (law U x number (closes x.unit)).1
      (ap (reply_to U) wanted ∙ replied ∙ ap Number same, refl)

  turns_yield : (tells : Turns) (W : Content) (ts : List Turn) (it : TurnsTell tells W ts YieldsAt)
      → TurnsYield tells W ts it
  turns_yield tells W [] it = tt
  turns_yield tells W (Lost ∷ ts) it = turns_yield tells W ts it
  turns_yield tells W (Served x ∷ ts) (it, all) =
      (texts_yield tells None None W (streams_of x) it, turns_yield tells (vault_after W it.exchanges) ts all)
  turns_yield tells W (Attended cs news ∷ ts) (said, all) = turns_yield tells (run cs W) ts all

  out_yields : (at : Outside) (shape : Shape) (W : Content) (cs : List Command) (s : Streams)
      (it : WentOut at shape W cs s YieldsAt) → OutYields at shape W cs s it
  out_yields at (Commands all line) W cs s it = tt
  out_yields at (Purges who now giver) W cs s it = tt
  out_yields at (Rows who now digits) W cs s it = tt
  out_yields at (Messages now digits) W cs s it = texts_yield at.tells now digits W s it
  out_yields at (Connections service) W cs s (inl none) = tt
  out_yields at (Connections service) W cs s (inr (done, said, it)) = turns_yield at.tells _ s.turns it
  out_yields at (Words text) W cs s it = tt

  -- at each place of a history live tokens yield
  abbrev YieldOn : Content → Steps → Type 0
  YieldOn V h = (first more : Steps) → h ≡ first ++ more → LiveTokensYieldIn (last V first)

  yields : (V : Content) (c : Option Command) (rs : List Run) (end : Image) (come : Come V c rs end)
      → YieldOn V (history V c rs end come) → Each Yields V c rs end come
  yields V c [] end come on = tt
  yields V c (r ∷ rs) end (inl w, more) on =
      let W : Content = w.opened in
      let rest : Steps = history (run w.answered W) w.undecided rs end more in
      let each : EachOf W w.answered YieldsAt =
      λ front behind x is.
      let own : Steps = (Answered x (reply (run front W) x), after (run front W) x)
      ∷ answers (after (run front W) x) behind in
      subst LiveTokensYieldIn
      (last-append V (opening c W) (answers W front) ∙ ap (λ X. last X (answers W front)) (opening_last V W c)
      ∙ answers_last W front)
      (on (opening c W ++ answers W front) (own ++ rest)
      (ap (λ h. opening c W ++ (h ++ rest)) (ap (answers W) is ∙ answers_at W front behind x)
      ∙ ap (λ h. opening c W ++ h) (append_assoc (answers W front) own rest)
      ∙ sym (append_assoc (opening c W) (answers W front) (own ++ rest)))) in
      let went = went_out (outside_of r) (shape_of w.task W) W w.answered r.streams YieldsAt each w.tells in (
        (went, out_yields (outside_of r) (shape_of w.task W) W w.answered r.streams went),
        yields (run w.answered W) w.undecided rs end more (λ first behind is.
            subst LiveTokensYieldIn
            (last-append V (opening c W) (answers W w.answered ++ first)
            ∙ ap (λ X. last X (answers W w.answered ++ first)) (opening_last V W c)
            ∙ last-append W (answers W w.answered) first ∙ ap (λ X. last X first) (answers_last W w.answered))
            (on (opening c W ++ (answers W w.answered ++ first)) behind
            (ap (λ h. opening c W ++ (answers W w.answered ++ h)) is
            ∙ ap (λ h. opening c W ++ h) (sym (append_assoc (answers W w.answered) first behind))
            ∙ sym (append_assoc (opening c W) (answers W w.answered ++ first) behind)))),
      )
  yields V c (r ∷ rs) end (inr rests, more) on = (tt, yields V c rs end more on)

yield_on : HistoriesLast → (V : Content) → Sound V → (h : Steps) → IsHistory V h → (first more : Steps)
    → h ≡ first ++ more → LiveTokensYieldIn (last V first)
yield_on lasting V sound h is first more same = (lasting V first sound (first_is V h first more is same)).yields

pub tokens_yield : RunsComeToHistories → HistoriesLast → TextsTellNumbers → TokensYield
tokens_yield come lasting law rs end V sound of runs =
    ∥∥₁_map (come rs end V sound of runs) (λ it. (
      it.0,
      (yield_on lasting V sound _ it.1, yields law V None rs end it.0 (yield_on lasting V sound _ it.1)),
    ))

-- ---- each is counted

many_append : (so : Step → Bool) (g h : Steps) → how_many so (g ++ h) ≡ how_many so g + how_many so h
many_append so [] h = omega arith
many_append so (s ∷ g) h = let more = many_append so g h in omega (arith, more)

many_opening : (m : Bytes) (c : Option Command) (W : Content) → how_many (answers_number m) (opening c W) ≡ 0
many_opening m None W = refl
many_opening m (Some c) W = refl

many_answers : (m : Bytes) (W : Content) (cs : List Command)
    → how_many (answers_number m) (answers W cs) ≡ answered_so (λ x. gives_number) m cs W
many_answers m W [] = refl
many_answers m W (c ∷ cs) =
    ap (λ n. cond (same (merchant_of c) m && gives_number (reply W c)) 1 0 + n)
    (many_answers m (after W c) cs)

many_given : (m : Bytes) (V : Content) (c : Option Command) (rs : List Run) (end : Image)
    (come : Come V c rs end)
    → how_many (answers_number m) (history V c rs end come) ≡ given_in m V c rs end come
many_given m V c [] end come = refl
many_given m V c (r ∷ rs) end (inl w, more) =
    let W : Content = w.opened in
    let rest : Steps = history (run w.answered W) w.undecided rs end more in
    let one = many_append (answers_number m) (opening c W) (answers W w.answered ++ rest) in
    let two = many_append (answers_number m) (answers W w.answered) rest in
    let none = many_opening m c W in
    let own = many_answers m W w.answered in
    let others = many_given m (run w.answered W) w.undecided rs end more in
    omega (arith, one, two, none, own, others)
many_given m V c (r ∷ rs) end (inr rests, more) = many_given m V c rs end more

left_is : (V : Content) (c : Option Command) (rs : List Run) (end : Image) (come : Come V c rs end)
    → last V (history V c rs end come) ≡ left_by V c rs end come
left_is V c [] end come = refl
left_is V c (r ∷ rs) end (inl w, more) =
    let W : Content = w.opened in
    let rest : Steps = history (run w.answered W) w.undecided rs end more in
    last-append V (opening c W) (answers W w.answered ++ rest)
    ∙ ap (λ X. last X (answers W w.answered ++ rest)) (opening_last V W c)
    ∙ last-append W (answers W w.answered) rest
    ∙ ap (λ X. last X rest) (answers_last W w.answered)
    ∙ left_is (run w.answered W) w.undecided rs end more
left_is V c (r ∷ rs) end (inr rests, more) = left_is V c rs end more

counted : HistoriesLast → (V : Content) (rs : List Run) (end : Image) (come : Come V None rs end) → Sound V
    → IsHistory V (history V None rs end come) → (m : Bytes)
    → given_by V m + given_in m V None rs end come ≤ given_by (left_by V None rs end come) m
counted lasting V rs end come sound is m =
    let grew = (lasting V (history V None rs end come) sound is).given m in
    let many = many_given m V None rs end come in
    subst (λ (X : Content). given_by V m + given_in m V None rs end come ≤ given_by X m)
    (left_is V None rs end come) (omega (arith, grew, many))

pub numbers_counted : RunsComeToHistories → HistoriesLast → NumbersAreCounted
numbers_counted come lasting rs end V sound of runs =
    ∥∥₁_map (come rs end V sound of runs) (λ it. (it.0, counted lasting V rs end it.0 sound it.1))

-- ---- from the empty vault on

pub counts_within : RunsComeToHistories → HistoriesLast → GivenIsWithin → CountsAreWithin
counts_within come lasting within rs end V sound of runs =
    ∥∥₁_map (come rs end V sound of runs) (λ it. (
      it.0,
      λ first made leads m.
          let h : Steps = history V None rs end it.0 in
          let whole = (lasting V h sound it.1).joins first made leads in
          subst (λ (X : Content). (how_many (answers_number m) (first ++ h) ≤ given_by X m)
          × (given_by X m
          ≤ how_many (answers_number m) (first ++ h) + how_many (leaves_number m) (first ++ h)))
          (whole.1 ∙ left_is V None rs end it.0) (within (first ++ h) whole.0 m),
    ))

pub once_ever : RunsComeToHistories → HistoriesLast → RequestsAnswerOnce → RequestsAnswerOnceEver
once_ever come lasting once rs end V sound of runs =
    ∥∥₁_map (come rs end V sound of runs) (λ it. (
      it.0,
      λ first made leads.
          let h : Steps = history V None rs end it.0 in
          once (first ++ h) ((lasting V h sound it.1).joins first made leads).0,
    ))

-- ---- answers are kept

proper_both : (cs ds : List Command) → AllProper cs → AllProper ds → AllProper (cs ++ ds)
proper_both [] ds one other = other
proper_both (c ∷ cs) ds one other = (one.0, proper_both cs ds one.1 other)

proper_behind : (first more : List Command) (x : Command) → AllProper (first ++ x ∷ more) → AllProper more
proper_behind [] more x all = all.1
proper_behind (c ∷ first) more x all = proper_behind first more x all.1

leads_on : (U V : Content) (ds : List Command) → LeadsTo U V → AllProper ds → LeadsTo U (run ds V)
leads_on U V ds (cs, proper, is) more =
    (cs ++ ds, proper_both cs ds proper more, ap (run ds) is ∙ sym (run_append cs ds U))

leads_perhaps : (U V : Content) (c : Option Command) → LeadsTo U V → IfSome c IsProper
    → LeadsTo U (perhaps V c)
leads_perhaps U V None leads proper = leads
leads_perhaps U V (Some c) leads proper = leads_on U V (c ∷ []) leads (proper, tt)

leads_opened : (U V W : Content) (c : Option Command) → LeadsTo U V → IfSome c IsProper
    → (W ≡ V) ⊎ (W ≡ perhaps V c) → LeadsTo U W
leads_opened U V W c leads proper (inl is) = subst (LeadsTo U) (sym is) leads
leads_opened U V W c leads proper (inr is) = subst (LeadsTo U) (sym is) (leads_perhaps U V c leads proper)

is_kept : (U V : Content) (c : Option Command) (rs : List Run) (end : Image) (come : Come V c rs end)
    → Follow V c rs end come → LeadsTo U V → IfSome c IsProper → IsKept U V c rs end come
is_kept U V c [] end come follow leads proper = (leads, come)
is_kept U V c (r ∷ rs) end (inl w, more) (of, on, follow) leads proper =
    let opened = leads_opened U V w.opened c leads proper w.is in (
      of,
      opened,
      w.holds,
      is_kept U (run w.answered w.opened) w.undecided rs end more follow
          (leads_on U w.opened w.answered opened w.proper) w.last_proper,
    )
is_kept U V c (r ∷ rs) end (inr rests, more) (of, on, follow) leads proper =
    (of, is_kept U V c rs end more follow leads proper)

answers_stay : (V : Content) (c : Option Command) (r : Run) (it : Comes V c r) (rs : List Run) (end : Image)
    (more : Come (kept_by V c r it) (undecided_by V c r it) rs end)
    → Follow V c (r ∷ rs) end (it, more) → AnswersStay V c r it rs end more
answers_stay V c r (inl w) rs end more (of, on, follow) =
    let W : Content = w.opened in
    let U : Content = run w.answered W in
    let each : EachOf W w.answered (λ X x. IsKept (after X x) U w.undecided rs end more) =
    λ first rest x same. is_kept (after (run first W) x) U w.undecided rs end more follow (
      rest,
      proper_behind first rest x (subst AllProper same w.proper),
      ap (λ cs. run cs W) same ∙ run_append first (x ∷ rest) W,
    ) w.last_proper in (
      each,
      went_out (outside_of r) (shape_of w.task W) W w.answered r.streams
          (λ X x. IsKept (after X x) U w.undecided rs end more) each w.tells,
    )
answers_stay V c r (inr rests) rs end more follow = tt

pub answers_kept : RunsComeToHistories → AnswersAreKept
answers_kept = each_run AnswersStay answers_stay

-- ---- what is done is done whole

early : (e : Ending) → IsDone e → (r : Run) → AsksFor r.words (λ job. EndsBefore anything job e) → ⊥
early ending.Done is r (job, asked, why) = why
early (ending.Noted it) is r (job, asked, why) = why
early e is r asks = is

is_beside : (it : Purpose) (r : Run) → GoesOutAside it r → IsBeside it
is_beside (OfTrial Is) r out = tt
is_beside (OfCheck path) r out = tt
is_beside (OfMove path) r out = tt
is_beside (OfTask path Is) r out = absurd out

rested : (r : Run) → Rests r → IsDone r.ending → AsksHelp r.words ⊎ AsksFor r.words IsAside
rested r (inl (inl (early_end, quiet)), says) done = absurd (early r.ending done r early_end)
rested r (inl (inr (inl (inl (help, is), calm))), says) done = inl help
rested r (inl (inr (inl (inr (version, is, silent), calm))), says) done = absurd (subst IsDone is done)
rested r (inl (inr (inr (inl (none, is, calm, silent)))), says) done = absurd (subst IsDone is done)
rested r (inl (inr (inr (inr (is, calm, silent)))), says) done = absurd (subst IsDone is done)
rested r (inr (inl ((why, is), quiet)), says) done = absurd (subst IsDone is done)
rested r (inr (inr (job, asked, out)), says) done = inr (job, asked, is_beside (saying job).purpose r out)

none_asked : (words : List Text) → AsksTask words → AsksHelp words ⊎ AsksFor words IsAside → ⊥
none_asked words asks (inl help) = subst (IsAmong DisplayHelp) asks.1.taken help
none_asked words (a, x, (t, is)) (inr (b, y, aside)) = only_task anything words a b t x y is aside

did_whole : (V : Content) (c : Option Command) (r : Run) (it : Comes V c r) (rs : List Run) (end : Image)
    (more : Come (kept_by V c r it) (undecided_by V c r it) rs end) → DidWhole V c r it rs end more
did_whole V c r (inl w) rs end more = w.done
did_whole V c r (inr rests) rs end more = λ done.
    let how = rested r rests.0 done in (how, λ asks. none_asked r.words asks how)

pub done_is_done : RunsComeToHistories → DoneIsDone
done_is_done = each_run DidWhole (λ V c r it rs end more follow. did_whole V c r it rs end more)

-- ---- changes are whole

whole_or_not : (WasAsked : Command → Type 0) (V W : Content) (c : Option Command) → IfSome c WasAsked
    → (W ≡ V) ⊎ (W ≡ perhaps V c)
    → (W ≡ V) ⊎ (x : Command) × (c ≡ Some x) × WasAsked x × (W ≡ after V x)
whole_or_not WasAsked V W c asked (inl is) = inl is
whole_or_not WasAsked V W None asked (inr is) = inl is
whole_or_not WasAsked V W (Some x) asked (inr is) = inr (x, refl, asked, is)

are_whole : (WasAsked : Command → Type 0) (V : Content) (c : Option Command) (rs : List Run) (end : Image)
    (come : Come V c rs end) → Follow V c rs end come → IfSome c WasAsked → AreWhole WasAsked V c rs end come
are_whole WasAsked V c [] end come follow asked = (asked, come)
are_whole WasAsked V c (r ∷ rs) end (inl w, more) (of, on, follow) asked = (
  of,
  whole_or_not WasAsked V w.opened c asked w.is,
  w.holds,
  are_whole (IsNext (outside_of r) (shape_of w.task w.opened) w.opened w.answered r.streams)
      (run w.answered w.opened)
      w.undecided rs end more follow w.next,
)
are_whole WasAsked V c (r ∷ rs) end (inr rests, more) (of, on, follow) asked =
    (of, are_whole WasAsked V c rs end more follow asked)

pub changes_whole : RunsComeToHistories → ChangesAreWhole
changes_whole come rs end V sound of runs =
    ∥∥₁_map (come rs end V sound of runs) (λ it. (it.0, are_whole (λ x. ⊥) V None rs end it.0 it.3 tt))

-- ---- stops are spared

worked_spared : (V : Content) (c : Option Command) (r : Run) → Work V c r → IsSpared r
worked_spared V c r w = λ why is. absurd (w.opens why is)

new_spared : (V : Content) (c : Option Command) (r : Run) → Comes V c r → AreNew r.begins V c → IsSpared r
new_spared V c r (inl w) new = worked_spared V c r w
new_spared V c r (inr rests) new = rests.1.newest new

move_spared : (V : Content) (c : Option Command) (r : Run) → Comes V c r → AreOf r.begins V c
    → AsksMove r.words → IsSpared r
move_spared V c r (inl w) of asks = worked_spared V c r w
move_spared V c r (inr rests) of asks = rests.1.moving of asks

all_spared : (New : Type 0) (V : Content) (c : Option Command) (rs : List Run) (end : Image)
    (come : Come V c rs end) → (New → AreNew (before rs end) V c) → Follow V c rs end come
    → AllSpared New V c rs end come
all_spared New V c [] end come new follow = tt
all_spared New V c (r ∷ rs) end (it, more) new (of, leads, follow) = (
  λ is. new_spared V c r it (new is),
  λ asks. move_spared V c r it of asks,
  all_spared (New ⊎ MakesNew V c r it) (kept_by V c r it) (undecided_by V c r it) rs end more
      (λ how. elim how [
        | inl is ↦ leads.newest (inr (new is))
        | inr makes ↦ leads.newest (inl makes)
      ]) follow,
)

pub stops_spared : RunsComeToHistories → StopsAreSpared
stops_spared come rs end V sound of runs =
    ∥∥₁_map (come rs end V sound of runs) (λ it. (
      it.0,
      all_spared (AreNew (before rs end) V None) V None rs end it.0 (λ new. new) it.3,
    ))

-- ---- moves keep the vault

moves_keep : (V : Content) (c : Option Command) (r : Run) (it : Comes V c r) (rs : List Run) (end : Image)
    (more : Come (kept_by V c r it) (undecided_by V c r it) rs end)
    → Follow V c (r ∷ rs) end (it, more) → MovesKeep V c r it rs end more
moves_keep V c r (inl w) rs end more follow = λ asks.
    no_task (around r) (saying w.asked.0).purpose w.task w.asked.2
    (only_move r.words asks.0 w.asked.0 asks.1 w.asked.1 asks.2)
moves_keep V c r (inr rests) rs end more (of, leads, follow) = (leads.of, λ moved. leads.newest (inl moved))

pub moves_keep_vault : RunsComeToHistories → MovesKeepTheVault
moves_keep_vault = each_run MovesKeep moves_keep

-- ---- rights follow their list

pub rights_follow : RightsBecomeExact → RunsComeToHistories → RightsFollowTheirList
rights_follow law = each_run FollowsIts (λ V c r it rs end more follow. follows_its law V c r it rs end more)

-- ---- all of them together

pub together : RunsComeToHistories → HistoriesLast → RightsBecomeExact → OnlyDueIsGiven → EachIsDue
    → FaultsTellNoNumber → TextsTellNumbers → SentencesHoldTogether
together come lasting law due texts faults told rs end V sound of runs =
    ∥∥₁_map (come rs end V sound of runs) (λ it. (
      it.0,
      record {
        apart = never_shared lasting V sound _ it.1;
        checked = none_passes lasting V sound _ it.1;
        yields = yield_on lasting V sound _ it.1;
        yielded = yields told V None rs end it.0 (yield_on lasting V sound _ it.1);
        nobody_else = each_of TellsDue
            (λ W c r on rs end more follow. tells_due due texts faults W c r on rs end more) V None rs end
            it.0 it.3;
        told = each_of IsTimely (λ W c r on rs end more follow. is_timely W c r on rs end more) V None rs end
            it.0 it.3;
        counted = counted lasting V rs end it.0 sound it.1;
        stand = stand_in lasting V None rs end it.0 sound it.1;
        kept = each_of AnswersStay answers_stay V None rs end it.0 it.3;
        whole = are_whole (λ x. ⊥) V None rs end it.0 it.3 tt;
        spared = all_spared (AreNew (before rs end) V None) V None rs end it.0 (λ new. new) it.3;
        moves = each_of MovesKeep moves_keep V None rs end it.0 it.3;
        done = each_of DidWhole (λ W c r on rs end more follow. did_whole W c r on rs end more) V None rs end
            it.0 it.3;
        rights = each_of FollowsIts (λ W c r on rs end more follow. follows_its law W c r on rs end more) V None
            rs end it.0 it.3;
      },
    ))
