-- What a service answered in its turns, and what it left undecided, as commands.
use Rattle.std.proofs.Common.{◌≡◌, ◌≤◌, ℕ, List, [], ◌∷◌, ◌++◌, None, Option, Some, Result, Ok, Err, inl, inr}
use Rattle.std.proofs.Common.{refl, sym, ap, subst, append-nil, append_assoc, arith, length, ◌∙◌}
use Rattle.std.specs.Prelude.{IfOk, IfSome, MatchResult}
use Rattle.vault_core.specs.Proper.{AllProper, IsProper}
use Rattle.vault_core.specs.Runs.{run}
use Rattle.vault_core.specs.Vault.{Vault as Content}
use Rattle.vault_core.specs.declared.command.Command.{Command}
use Rattle.vault_wire.specs.Parts.{Parts}
use Rattle.vault_engine.specs.Asking.{Asked, commands_in, commands_of, vault_after}
use Rattle.vault_engine.specs.Passing.{IsBefore, Passage}
use Rattle.vault_http.specs.Served.{IsServed, IsStopped}
use Rattle.vault_engine.specs.declared.stop.Stop.{Stop as ServeFault}
use Rattle.vault_http.specs.declared.served.Served.{Served as Ended}
use Rattle.vault_listen.specs.Live.{AreGiven, Turns}
use Rattle.vault_engine.specs.Asking.{Pair}
use Rattle.vault_live.specs.News.{line_of}
use Rattle.vault_listen.specs.Peers.{Link}
use Rattle.vault_listen.specs.Service.{Leads, link_from}
use Rattle.vault_merchants.specs.ListedMerchants.{AreListed, Wanted}
use Rattle.vault_live.specs.Following.{AreRowsIn}
use Rattle.vault_live.specs.Kinds.{Naming, Wanting, merchants_changes, rights_changes}
use Rattle.vault_live.specs.Turns.{AllKept, AllTurn, AreAsked, Asking, OneUndecided, Turn, came}
use Rattle.vault_live.specs.Turns.Turn.{Lost, Served, Attended}
use Rattle.vault_live.specs.declared.news.News.{News}
use Rattle.vault_listen.specs.declared.fault.ListenFault.TheVariants as listener
use Rattle.vault_changes.specs.Settling.{IsUntouched}
use Rattle.vault_jobs.specs.Doing.{IsListening, ServeEnds, serving_of}
use Rattle.vault_jobs.specs.Lists.{asked_by, asked_of, swept_by}
use Rattle.vault_jobs.specs.Outside.{Outside}
use Rattle.vault_jobs.specs.Streams.{Streams, output_with}
use Rattle.vault_jobs.specs.declared.stop.Stop.{Stop}
use Rattle.vault_jobs.specs.declared.stop.Stop.TheVariants as stop
use Rattle.vault_jobs.specs.declared.task.Outcome.{Outcome}
use Rattle.vault_jobs.specs.declared.task.Outcome.TheVariants as outcome
use Rattle.vault_jobs.specs.declared.lists.ListFile.{ListFile}
use Rattle.vault_jobs.specs.declared.lists.Lists.{Lists}
use Rattle.vault_promise.proofs.Answering.{Answers, served_answer, served_whole, stopped_answer}
use Rattle.vault_promise.proofs.PipedMessages.{as_run, command_in, commands_then, next_asked, run_append}
use Rattle.vault_promise.proofs.PipedMessages.{run_then, wanted_proper}
use Rattle.vault_promise.proofs.Proper.{proper-append, proper-first, proper-last}
use Rattle.vault_promise.specs.Runs.{perhaps}
use Rattle.vault_promise.specs.Told.{AllAnswer, AreAllAnswered, IsAnswered, IsAskedNext, IsLastNext, IsSaid}
use Rattle.vault_promise.specs.Told.{IsQuiet, SaysTurns, streams_of}

-- what a connection answered, by how the service of it ended
answers_by : (tells : Turns) (V W U : Content) (x : Link) (pairs : List Pair) → AreGiven tells None None pairs
    → (r : Result Ended ServeFault)
    → MatchResult r (IsServed x.came x.left (link_from V W U pairs x))
    (IsStopped x.came x.left (link_from V W U pairs x))
    → Answers tells None None (link_from V W U pairs x) (streams_of x)
answers_by tells V W U x pairs own (Ok n) q =
    served_answer tells None None (link_from V W U pairs x) (streams_of x) pairs own n q
answers_by tells V W U x pairs own (Err e) q =
    stopped_answer tells None None (link_from V W U pairs x) (streams_of x) pairs own e q

-- all of it, where it was served to its end
all_by : (tells : Turns) (V W U : Content) (x : Link) (pairs : List Pair) (own : AreGiven tells None None pairs)
    (r : Result Ended ServeFault)
    (q : MatchResult r (IsServed x.came x.left (link_from V W U pairs x))
    (IsStopped x.came x.left (link_from V W U pairs x)))
    → IfOk r (λ n. AreAllAnswered tells None None V
    (commands_of (answers_by tells V W U x pairs own r q).exchanges) (streams_of x))
unfolding answers_by
all_by tells V W U x pairs own (Ok n) q =
    served_whole tells None None (link_from V W U pairs x) (streams_of x) pairs own n q V (tt, refl)
all_by tells V W U x pairs own (Err e) q = tt

answers_in : (tells : Turns) (V W U : Content) (x : Link) → (it : Leads tells V W U x)
    → Answers tells None None (link_from V W U it.pairs x) (streams_of x)
answers_in tells V W U x it = answers_by tells V W U x it.pairs it.own x.ended it.answered

-- the commands that a connection answered
record LinkAnswers (tells : Turns) (V W U : Content) (x : Link) : Type 0 where
  answered : List Command
  undecided : Option Command
  proper : AllProper answered
  last_proper : IfSome undecided IsProper
  told : IsAnswered tells V answered x
  next : IfSome undecided (IsAskedNext tells None None (streams_of x) answered)
  leads : run answered V ≡ W
  other : perhaps W undecided ≡ U

link_answers : (tells : Turns) (V W U : Content) (x : Link) → Leads tells V W U x → LinkAnswers tells V W U x
link_answers tells V W U x it = by_more a.undecided a.same a.few a.proper (a.left V b)
  where
    a : Answers tells None None (link_from V W U it.pairs x) (streams_of x)
    a = answers_by tells V W U x it.pairs it.own x.ended it.answered

    all : IfOk x.ended (λ n. AreAllAnswered tells None None V (commands_of a.exchanges) (streams_of x))
    all = all_by tells V W U x it.pairs it.own x.ended it.answered

    b : IsBefore (link_from V W U it.pairs x) V
    b = (tt, refl)

    by_more : (us : List (Asked Parts)) → a.heard.more ≡ us → length us ≤ 1
        → AllProper (commands_of (a.exchanges ++ us))
        → (vault_after V a.exchanges ≡ W) × (vault_after V (a.exchanges ++ us) ≡ U)
        → LinkAnswers tells V W U x
    by_more [] same few proper left = record {
      answered = commands_of a.exchanges;
      undecided = None;
      proper = subst (λ ys. AllProper (commands_of ys)) (append-nil a.exchanges) proper;
      last_proper = tt;
      told = ((a.exchanges, refl, a.heard, a.went V b), all);
      next = tt;
      leads = sym (as_run V a.exchanges) ∙ left.0;
      other = sym left.0 ∙ ap (vault_after V) (sym (append-nil a.exchanges)) ∙ left.1;
    }
    by_more (y ∷ []) same few proper left =
        let both : AllProper (commands_of a.exchanges ++ commands_in y.wanted) =
        subst AllProper (commands_then a.exchanges y) proper in
        record {
          answered = commands_of a.exchanges;
          undecided = command_in y.wanted;
          proper = proper-first (commands_of a.exchanges) (commands_in y.wanted) both;
          last_proper = wanted_proper y.wanted
              (proper-last (commands_of a.exchanges) (commands_in y.wanted) both);
          told = ((a.exchanges, refl, a.heard, a.went V b), all);
          next = next_asked tells None None (streams_of x) a.exchanges y a.heard same y.wanted refl;
          leads = sym (as_run V a.exchanges) ∙ left.0;
          other = ap (λ X. perhaps X (command_in y.wanted)) (sym left.0 ∙ as_run V a.exchanges)
              ∙ sym (run_then V a.exchanges y) ∙ left.1;
        }
    by_more (y ∷ z ∷ us) same few proper left = absurd (omega (arith, few))

-- what may be asked for between two connections is proper
abbrev AsksProper : Asking → Type 0
AsksProper asks = (V : Content) (cs : List Command) → asks V cs → AllProper cs

asked_proper : (asks : Asking) → AsksProper asks → (V : Content) (cs : List Command) → AreAsked asks V cs
    → AllProper cs
asked_proper asks fine V cs (inl none) = subst AllProper (sym none) tt
asked_proper asks fine V cs (inr (rest, asked)) = proper-first cs rest (fine V (cs ++ rest) asked)

asked_up : (asks other : Asking) → ((V : Content) (cs : List Command) → asks V cs → other V cs)
    → (V : Content)
    (cs : List Command) → AreAsked asks V cs → AreAsked other V cs
asked_up asks other up V cs (inl none) = inl none
asked_up asks other up V cs (inr (rest, asked)) = inr (rest, up V (cs ++ rest) asked)

-- the commands that turns answered
record AllAnswers (tells : Turns) (asks : Asking) (V W : Content) (ts : List Turn) : Type 0 where
  answered : List Command
  proper : AllProper answered
  told : AllAnswer tells asks V ts answered
  leads : run answered V ≡ W

-- turns, and then a connection
answer_then : (tells : Turns) (asks : Asking) (ts : List Turn) (x : Link) (V : Content) (cs ds : List Command)
    → AllAnswer tells asks V ts cs → IsAnswered tells (run cs V) ds x
    → AllAnswer tells asks V (ts ++ Served x ∷ []) (cs ++ ds)
answer_then tells asks [] x V cs ds none one =
    subst (λ es. AllAnswer tells asks V (Served x ∷ []) (es ++ ds)) (sym none) (
      ds,
      [],
      sym (append-nil ds),
      subst (λ es. IsAnswered tells (run es V) ds x) none one,
      refl,
    )
answer_then tells asks (Lost ∷ ts) x V cs ds told one = answer_then tells asks ts x V cs ds told one
answer_then tells asks (Served y ∷ ts) x V cs ds (first, more, is, here, rest) one = (
  first,
  more ++ ds,
  ap (λ es. es ++ ds) is ∙ append_assoc first more ds,
  here,
  answer_then tells asks ts x (run first V) more ds rest
      (subst (λ X. IsAnswered tells X ds x)
      (ap (λ es. run es V) is ∙ run_append first more V) one),
)
answer_then tells asks (Attended first news ∷ ts) x V cs ds (asked, (more, is, rest)) one = (
  asked,
  (
    more ++ ds,
    ap (λ es. es ++ ds) is ∙ append_assoc first more ds,
    answer_then tells asks ts x (run first V) more ds rest
        (subst (λ X. IsAnswered tells X ds x)
        (ap (λ es. run es V) is ∙ run_append first more V) one),
  ),
)

-- turns, and then what was asked for behind them
attend_then : (tells : Turns) (asks : Asking) (ts : List Turn) (own : List Command) (news : News)
    (V : Content)
    (cs : List Command) → AllAnswer tells asks V ts cs
    → AreAsked asks (run cs V) own × IsSaid news (run cs V) own
    → AllAnswer tells asks V (ts ++ Attended own news ∷ []) (cs ++ own)
attend_then tells asks [] own news V cs none asked =
    subst (λ es. AllAnswer tells asks V (Attended own news ∷ []) (es ++ own)) (sym none) (
      subst (λ es. AreAsked asks (run es V) own × IsSaid news (run es V) own) none asked,
      ([], sym (append-nil own), refl),
    )
attend_then tells asks (Lost ∷ ts) own news V cs told asked = attend_then tells asks ts own news V cs told
    asked
attend_then tells asks (Served y ∷ ts) own news V cs (first, more, is, here, rest) asked = (
  first,
  more ++ own,
  ap (λ es. es ++ own) is ∙ append_assoc first more own,
  here,
  attend_then tells asks ts own news (run first V) more rest
      (subst (λ X. AreAsked asks X own × IsSaid news X own)
      (ap (λ es. run es V) is ∙ run_append first more V) asked),
)
attend_then tells asks (Attended first said ∷ ts) own news V cs (before, (more, is, rest)) asked = (
  before,
  (
    more ++ own,
    ap (λ es. es ++ own) is ∙ append_assoc first more own,
    attend_then tells asks ts own news (run first V) more rest
        (subst (λ X. AreAsked asks X own × IsSaid news X own)
        (ap (λ es. run es V) is ∙ run_append first more V) asked),
  ),
)

-- the first of what was asked for was asked for
first_asked : (asks : Asking) (V : Content) (own next : List Command) → AreAsked asks V (own ++ next)
    → AreAsked asks V own
first_asked asks V [] next asked = inl refl
first_asked asks V (c ∷ own) next (inl none) = absurd (cc none)
first_asked asks V (c ∷ own) next (inr (rest, asked)) =
    inr (next ++ rest, subst (λ ds. asks V ds) (append_assoc (c ∷ own) next rest) asked)

-- what the last connection asks for
on_last : (tells : Turns) (asks : Asking) (V : Content) (ts first : List Turn) (x : Link)
    → ts ≡ first ++ Served x ∷ [] → (cs own : List Command) (o : Option Command)
    → IfSome o (IsAskedNext tells None None (streams_of x) own) → IfSome o (IsLastNext tells asks V ts cs)
on_last tells asks V ts first x are cs own None next = tt
on_last tells asks V ts first x are cs own (Some c) next = inl (first, x, own, are, next)

module _ (tells : Turns) (asks other : Asking) (fine : AsksProper asks)
    (up : (V : Content) (cs : List Command) → asks V cs → other V cs) where
  all_answers : (ts : List Turn) (V W : Content) → AllTurn tells asks V ts W → AllAnswers tells other V W ts
  all_answers [] V W same = record { answered = []; proper = tt; told = refl; leads = sym same }
  all_answers (Lost ∷ ts) V W turns =
      let rest = all_answers ts V W turns in
      record { answered = rest.answered; proper = rest.proper; told = rest.told; leads = rest.leads }
  all_answers (Served x ∷ ts) V W (M, on, one, turns) =
      let first = link_answers tells V M M x one in
      let rest = all_answers ts M W turns in
      record {
        answered = first.answered ++ rest.answered;
        proper = proper-append first.answered rest.answered first.proper rest.proper;
        told = (
          first.answered,
          rest.answered,
          refl,
          first.told,
          subst (λ X. AllAnswer tells other X ts rest.answered) (sym first.leads) rest.told,
        );
        leads = run_append first.answered rest.answered V ∙ ap (run rest.answered) first.leads ∙ rest.leads;
      }
  all_answers (Attended cs news ∷ ts) V W (asked, said, values, turns) =
      let rest = all_answers ts (run cs V) W turns in
      record {
        answered = cs ++ rest.answered;
        proper = proper-append cs rest.answered (asked_proper asks fine V cs asked) rest.proper;
        told = ((asked_up asks other up V cs asked, inl (said, values)), (rest.answered, refl, rest.told));
        leads = run_append cs rest.answered V ∙ rest.leads;
      }

  module _ (w : Passage) (V : Content) (b : IsBefore w V) (ts : List Turn) where
    -- the commands that a service answered, and the one that it left undecided
    pub record TurnsWork : Type 0 where
      pub answered : List Command
      pub undecided : Option Command
      pub proper : AllProper answered
      pub last_proper : IfSome undecided IsProper
      pub told : AllAnswer tells other V ts answered
      pub next : IfSome undecided (IsLastNext tells other V ts answered)
      pub left : w.left_new (run answered V) (perhaps (run answered V) undecided)

    -- turns that are all answered
    all_kept : AllKept tells asks ts w → TurnsWork
    all_kept kept =
        let it = kept V b in
        let a = all_answers ts V it.0 it.1 in
        record {
          answered = a.answered;
          undecided = None;
          proper = a.proper;
          last_proper = tt;
          told = a.told;
          next = tt;
          left = subst (λ X. w.left_new X X) (sym a.leads) it.2.1;
        }

    none_kept : IsUntouched w → ts ≡ [] → TurnsWork
    none_kept same none = record {
      answered = [];
      undecided = None;
      proper = tt;
      last_proper = tt;
      told = subst (λ us. AllAnswer tells other V us []) (sym none) refl;
      next = tt;
      left = (same V b).1;
    }

    -- the store failed in the last connection
    one_served : (first : List Turn) (x : Link) → ts ≡ first ++ Served x ∷ []
        → (M W U : Content) → AllTurn tells asks V first M → Leads tells M W U x → w.left_new W U → TurnsWork
    one_served first x are M W U turns leads torn =
        let before = all_answers first V M turns in
        let last = link_answers tells M W U x leads in
        let told : IsAnswered tells (run before.answered V) last.answered x =
        subst (λ X. IsAnswered tells X last.answered x) (sym before.leads)
        last.told in
        let all : run (before.answered ++ last.answered) V ≡ W =
        run_append before.answered last.answered V ∙ ap (run last.answered) before.leads ∙ last.leads in
        record {
          answered = before.answered ++ last.answered;
          undecided = last.undecided;
          proper = proper-append before.answered last.answered before.proper last.proper;
          last_proper = last.last_proper;
          next = on_last tells other V ts first x are (before.answered ++ last.answered) last.answered
              last.undecided last.next;
          told = subst (λ us. AllAnswer tells other V us (before.answered ++ last.answered)) (sym are)
              (answer_then tells other first x V before.answered last.answered before.told told);
          left = subst (λ X. w.left_new X (perhaps X last.undecided)) (sym all)
              (subst (λ Y. w.left_new W Y) (sym last.other) torn);
        }

    -- the store failed at what was asked for behind them
    one_attended : (first : List Turn) (own : List Command) (news : News) → ts ≡ first ++ Attended own news
        ∷ []
        → line_of news ≡ []
        → (next : List Command) → length next ≤ 1 → (M : Content) → AllTurn tells asks V first M
        → AreAsked asks M (own ++ next) → w.left_new (run own M) (run (own ++ next) M) → TurnsWork
    one_attended first own news are calm next few M turns asked torn =
        let before = all_answers first V M turns in
        let both : AllProper (own ++ next) = asked_proper asks fine M (own ++ next) asked in
        let asked_then : AreAsked other (run before.answered V) (own ++ next) =
        subst (λ X. AreAsked other X (own ++ next)) (sym before.leads)
        (asked_up asks other up M (own ++ next) asked)
        in
        let leads : run (before.answered ++ own) V ≡ run own M =
        run_append before.answered own V ∙ ap (run own) before.leads in
        let told : AllAnswer tells other V ts (before.answered ++ own) =
        subst (λ us. AllAnswer tells other V us (before.answered ++ own)) (sym are)
        (attend_then tells other first own news V before.answered before.told
        (first_asked other (run before.answered V) own next asked_then, inr calm)) in
        by_next next few both asked_then leads told torn
      where
        by_next : (next : List Command) → length next ≤ 1 → AllProper (own ++ next)
            → AreAsked other (run (all_answers first V M turns).answered V) (own ++ next)
            → run ((all_answers first V M turns).answered ++ own) V ≡ run own M
            → AllAnswer tells other V ts ((all_answers first V M turns).answered ++ own)
            → w.left_new (run own M) (run (own ++ next) M) → TurnsWork
        by_next [] few both asked leads told torn =
            let before = all_answers first V M turns in
            record {
              answered = before.answered ++ own;
              undecided = None;
              proper = proper-append before.answered own before.proper
                  (subst AllProper (append-nil own) both);
              last_proper = tt;
              told = told;
              next = tt;
              left = subst (λ X. w.left_new X X) (sym leads)
                  (subst (λ ds. w.left_new (run own M) (run ds M)) (append-nil own) torn);
            }
        by_next (c ∷ []) few both asked leads told torn =
            let before = all_answers first V M turns in
            record {
              answered = before.answered ++ own;
              undecided = Some c;
              proper = proper-append before.answered own before.proper (proper-first own (c ∷ []) both);
              last_proper = (proper-last own (c ∷ []) both).0;
              told = told;
              next = inr (first, own, news, before.answered, are, refl, asked);
              left = subst (λ X. w.left_new X (perhaps X (Some c))) (sym leads)
                  (subst (λ Y. w.left_new (run own M) Y) (run_append own (c ∷ []) M) torn);
            }
        by_next (c ∷ d ∷ next) few both asked leads told torn = absurd (omega (arith, few))

    one_undecided : (first : List Turn) (last : Turn) → ts ≡ first ++ last ∷ []
        → OneUndecided tells asks first last w → TurnsWork
    one_undecided first Lost are torn = absurd torn
    one_undecided first (Served x) are (failed, torn) =
        let it = torn V b in one_served first x are it.0 it.1 it.2 it.3 it.4 it.5
    one_undecided first (Attended own news) are (calm, (next, few, torn)) =
        let it = torn V b in one_attended first own news are calm next few it.0 it.1 it.2 it.3

    pub serve_works : (port connections : ℕ) (r : Result Outcome Stop) (unsent : Type 0) (s : Streams)
        → ServeEnds (serving_of tells asks port connections) w r
        (output_with unsent s.sent_old s.sent_new s.writer) ts → TurnsWork
    serve_works port connections (Ok outcome.Done) unsent s h = all_kept h.1.1
    serve_works port connections (Ok (outcome.Refused n)) unsent s h = absurd h
    serve_works port connections (Ok outcome.SomeRefused) unsent s h = absurd h
    serve_works port connections (Err (stop.Vault f)) unsent s h = absurd h
    serve_works port connections (Err (stop.Service f)) unsent s h = none_kept h.0 h.1
    serve_works port connections (Err (stop.Listener f)) unsent s (inl h) = none_kept h.2 h.3
    serve_works port connections (Err (stop.Listener listener.Source)) unsent s (inr (says, (few, it))) =
        all_kept it
    serve_works port connections (Err (stop.Listener listener.Store)) unsent s
        (inr (says, (few, (first, last, are, it)))) =
        one_undecided first last are it
    serve_works port connections (Err (stop.Listener listener.Memory)) unsent s
        (inr (says, (few, (none, it)))) =
        all_kept (subst (λ us. AllKept tells asks us w) (sym none) it)
    serve_works port connections (Err (stop.Listener listener.Accept)) unsent s (inr (says, (few, it))) =
        all_kept it
    serve_works port connections (Err (stop.Unread about f)) unsent s h = absurd h
    serve_works port connections (Err (stop.Batch f)) unsent s h = absurd h

-- a service that is done took as many connections as it was to, and said where it listens
pub all_came : (tells : Turns) (asks : Asking) (port connections : ℕ) (w : Passage) (ts : List Turn)
    (r : Result Outcome Stop) (unsent : Type 0) (s : Streams)
    → ServeEnds (serving_of tells asks port connections) w r
    (output_with unsent s.sent_old s.sent_new s.writer) ts → r ≡ Ok outcome.Done
    → (came ts ≡ connections) × IsListening port s.sent_old s.sent_new ts
all_came tells asks port connections w ts (Ok outcome.Done) unsent s (says, (all, kept)) is = (all, says)
all_came tells asks port connections w ts (Ok (outcome.Refused n)) unsent s h is = absurd (cc is)
all_came tells asks port connections w ts (Ok outcome.SomeRefused) unsent s h is = absurd (cc is)
all_came tells asks port connections w ts (Err e) unsent s h is = absurd (cc is)

-- what a service says, however it ends
pub turns_said : (tells : Turns) (asks : Asking) (port connections : ℕ) (w : Passage) (r : Result Outcome Stop)
    (unsent : Type 0) (s : Streams) → (unsent → IsQuiet s)
    → ServeEnds (serving_of tells asks port connections) w r
    (output_with unsent s.sent_old s.sent_new s.writer) s.turns → SaysTurns port s
turns_said tells asks port connections w (Ok outcome.Done) unsent s quiet (says, it) = inr says
turns_said tells asks port connections w (Ok (outcome.Refused n)) unsent s quiet h = absurd h
turns_said tells asks port connections w (Ok outcome.SomeRefused) unsent s quiet h = absurd h
turns_said tells asks port connections w (Err (stop.Vault f)) unsent s quiet h = absurd h
turns_said tells asks port connections w (Err (stop.Service f)) unsent s quiet
    (same, none, inl (is, silent)) = inl (none, (port, λ some. refl, (0, quiet silent)))
turns_said tells asks port connections w (Err (stop.Service f)) unsent s quiet
    (same, none, inr (is, failed, begins)) = inl (none, begins)
turns_said tells asks port connections w (Err (stop.Listener f)) unsent s quiet
    (inl (is, silent, same, none)) = inl (none, (port, λ some. refl, (0, quiet silent)))
turns_said tells asks port connections w (Err (stop.Listener f)) unsent s quiet (inr (says, it)) = inr says
turns_said tells asks port connections w (Err (stop.Unread about f)) unsent s quiet h = absurd h
turns_said tells asks port connections w (Err (stop.Batch f)) unsent s quiet h = absurd h

-- what a list may ask for is proper
list_proper : {X : Type 0} (names : Naming X) (wants : Wanting X) (at : Outside) (o : Option (ListFile X))
    (V : Content) (cs : List Command) → asked_by names wants at o V cs → AllProper cs
list_proper names wants at None V cs never = absurd never
list_proper names wants at (Some it) V cs asked = asked.proper

sweeps_proper : (at : Outside) (o : Option (ListFile Wanted)) (V : Content) (cs : List Command)
    → swept_by at o V cs → AllProper cs
sweeps_proper at None V cs never = absurd never
sweeps_proper at (Some it) V cs asked = asked.are.2

-- what a service that follows lists may be asked for is proper
pub asks_proper : (at : Outside) (lists : Lists) → AsksProper (asked_of at lists)
asks_proper at lists V cs (inl asked) =
    list_proper AreListed merchants_changes at lists.merchants V cs asked
asks_proper at lists V cs (inr (inl asked)) =
    list_proper AreRowsIn rights_changes at lists.rights V cs asked
asks_proper at lists V cs (inr (inr asked)) = sweeps_proper at lists.merchants V cs asked
