-- What is told of a task whose clock told these moments is told of one whose clock may tell more.
use Rattle.std.proofs.Common.{ℕ, List, [], ◌∷◌, ◌++◌, Option, Some, None, inl, inr, Result, Ok, Err}
use Rattle.std.specs.Prelude.{IfOk, IfSome}
use Rattle.vault_engine.specs.declared.stop.Stop.{Stop as ServeFault}
use Rattle.vault_http.specs.declared.served.Served.{Served as Ended}
use Rattle.vault_core.specs.Runs.{run}
use Rattle.vault_core.specs.Vault.{Vault as Content}
use Rattle.vault_core.specs.declared.command.Command.{Command}
use Rattle.vault_engine.specs.Asking.{Asked}
use Rattle.vault_wire.specs.Parts.{Parts}
use Rattle.vault_listen.specs.Live.{Turns}
use Rattle.vault_live.specs.Turns.{Turn}
use Rattle.vault_live.specs.Turns.Turn.{Lost, Served, Attended}
use Rattle.vault_merchants.specs.ListedMerchants.{AreListed, Wanted}
use Rattle.vault_live.specs.Following.{AreRowsIn, AreSettled}
use Rattle.vault_live.specs.Kinds.{Naming, Wanting, merchants_changes, rights_changes}
use Rattle.vault_live.specs.Sweeping.{IsSweeper}
use Rattle.vault_live.specs.Turns.{AreAsked, Asking}
use Rattle.vault_live.specs.declared.sweeping.Sweeper.{Sweeper}
use Rattle.vault_jobs.specs.Lists.{asked_by, asked_of, path_of, swept_by}
use Rattle.vault_jobs.specs.Outside.{Outside}
use Rattle.vault_jobs.specs.Streams.{Streams}
use Rattle.vault_jobs.specs.declared.lists.ListFile.{ListFile}
use Rattle.vault_jobs.specs.declared.lists.Lists.{Lists}
use Rattle.vault_promise.proofs.GivenPairs.{given_more}
use Rattle.vault_promise.specs.Shapes.{Shape}
use Rattle.vault_promise.specs.Shapes.Shape.{Commands, Purges, Rows, Messages, Connections, Words}
use Rattle.vault_promise.specs.Told.{AllAnswer, AllDone, AreAllAnswered, AreAnswered, AreHeard, IsAskedNext}
use Rattle.vault_promise.specs.Told.{IsLastNext, IsNext, Tells}

module _ (at other : Outside) (so : (turn now : ℕ) → at.tells turn now → other.tells turn now)
    (seen : (path : List ℕ) (look : ℕ) (text : List ℕ) → at.looks path look text → other.looks path look text)
  where
    -- a text that was settled is so where more is told
    settled_more : {X : Type 0} (names : Naming X) (path : List ℕ) (rows : List X)
        → AreSettled names (at.looks path) rows → AreSettled names (other.looks path) rows
    settled_more names path rows (look, text, settled, are) = (
      look,
      text,
      record {
        before = settled.before;
        next = settled.next;
        first = seen path settled.before text settled.first;
        again = seen path look text settled.again;
        whole = settled.whole;
      },
      are,
    )

    -- a list may ask for this also where more is told
    list_more : {X : Type 0} (names : Naming X) (wants : Wanting X) (o : Option (ListFile X)) (V : Content)
        (cs : List Command) → asked_by names wants at o V cs → asked_by names wants other o V cs
    list_more names wants None V cs never = absurd never
    list_more names wants (Some it) V cs asked =
        record {
          rows = asked.rows;
          settled = settled_more names (path_of it) asked.rows asked.settled;
          now = asked.now;
          told = so 0 asked.now asked.told;
          are = asked.are;
          proper = asked.proper;
        }

    -- and so may its sweeps
    sweeper_more : (began : List Wanted) (path : List ℕ) (it : Sweeper) → IsSweeper began (at.looks path) it
        → IsSweeper began (other.looks path) it
    sweeper_more began path it (rows, inl same, named) = (rows, inl same, named)
    sweeper_more began path it (rows, inr settled, named) =
        (rows, inr (settled_more AreListed path rows settled), named)

    swept_more : (o : Option (ListFile Wanted)) (V : Content) (cs : List Command) → swept_by at o V cs
        → swept_by other o V cs
    swept_more None V cs never = absurd never
    swept_more (Some it) V cs asked = record {
      sweeper = asked.sweeper;
      named = sweeper_more it.rows.items (path_of it) asked.sweeper asked.named;
      now = asked.now;
      told = so 0 asked.now asked.told;
      are = asked.are;
    }

    -- and so may a service
    pub looked_more : (lists : Lists) (V : Content) (cs : List Command) → asked_of at lists V cs
        → asked_of other lists V cs
    looked_more lists V cs (inl asked) =
        inl (list_more AreListed merchants_changes lists.merchants V cs asked)
    looked_more lists V cs (inr (inl asked)) =
        inr (inl (list_more AreRowsIn rights_changes lists.rights V cs asked))
    looked_more lists V cs (inr (inr asked)) = inr (inr (swept_more lists.merchants V cs asked))

-- so what was asked for in a turn
asked_more : (asks other : Asking) → ((V : Content) (cs : List Command) → asks V cs → other V cs)
    → (V : Content)
    (cs : List Command) → AreAsked asks V cs → AreAsked other V cs
asked_more asks other up V cs (inl none) = inl none
asked_more asks other up V cs (inr (rest, asked)) = inr (rest, up V (cs ++ rest) asked)

module _ (tells more : Turns) (so : (turn now : ℕ) → tells turn now → more turn now) where
  heard_more : (now : Option ℕ) (digits : Option (List ℕ)) (s : Streams) (xs : List (Asked Parts))
      → AreHeard tells now digits s xs → AreHeard more now digits s xs
  heard_more now digits s xs it = record {
    bytes = it.bytes;
    messages = it.messages;
    more = it.more;
    rest = it.rest;
    read = it.read;
    begins = it.begins;
    given = given_more tells more so now digits _ it.given;
    asked = it.asked;
    first = it.first;
    few = it.few;
  }

  answered_more : (now : Option ℕ) (digits : Option (List ℕ)) (V : Content) (cs : List Command) (s : Streams)
      → AreAnswered tells now digits V cs s → AreAnswered more now digits V cs s
  answered_more now digits V cs s (xs, are, heard, went) = (xs, are, heard_more now digits s xs heard, went)

  whole_more : (now : Option ℕ) (digits : Option (List ℕ)) (V : Content) (cs : List Command) (s : Streams)
      → AreAllAnswered tells now digits V cs s → AreAllAnswered more now digits V cs s
  whole_more now digits V cs s (xs, are, it) = (
    xs,
    are,
    record {
      bytes = it.bytes;
      messages = it.messages;
      fault = it.fault;
      read = it.read;
      reads = it.reads;
      given = given_more tells more so now digits _ it.given;
      asked = it.asked;
      whole = it.whole;
      ended = it.ended;
      went = it.went;
    },
  )

  ok_more : (r : Result Ended ServeFault) (V : Content) (cs : List Command) (s : Streams)
      → IfOk r (λ n. AreAllAnswered tells None None V cs s) → IfOk r (λ n. AreAllAnswered more None None V cs s)
  ok_more (Ok n) V cs s it = whole_more None None V cs s it
  ok_more (Err e) V cs s it = tt

  heard_next : (now : Option ℕ) (digits : Option (List ℕ)) (s : Streams) (cs : List Command) (x : Command)
      → IsAskedNext tells now digits s cs x → IsAskedNext more now digits s cs x
  unfolding heard_more
  heard_next now digits s cs x (xs, it, are, wanted, (heard, same)) =
      (xs, it, are, wanted, (heard_more now digits s xs heard, same))

module _ (at other : Outside) (so : (turn now : ℕ) → at.tells turn now → other.tells turn now)
    (looks : (path : List ℕ) (look : ℕ) (text : List ℕ) → at.looks path look text
    → other.looks path look text) where
  -- what may be asked for between two connections
  asks_more : (lists : Lists) (V : Content) (cs : List Command) → asked_of at lists V cs
      → asked_of other lists V cs
  asks_more lists V cs asked = looked_more at other so looks lists V cs asked

  all_more : (lists : Lists) (V : Content) (ts : List Turn) (cs : List Command)
      → AllAnswer at.tells (asked_of at lists) V ts cs → AllAnswer other.tells (asked_of other lists) V ts cs
  all_more lists V [] cs told = told
  all_more lists V (Lost ∷ ts) cs told = all_more lists V ts cs told
  all_more lists V (Served x ∷ ts) cs (first, rest, is, here, others) = (
    first,
    rest,
    is,
    (
      answered_more at.tells other.tells so None None V first _ here.0,
      ok_more at.tells other.tells so x.ended V first _ here.1,
    ),
    all_more lists (run first V) ts rest others,
  )
  all_more lists V (Attended first news ∷ ts) cs (asked, (rest, is, others)) = (
    (asked_more _ _ (asks_more lists) V first asked.0, asked.1),
    (rest, is, all_more lists (run first V) ts rest others),
  )

  pub tells_more : (shape : Shape) (V : Content) (cs : List Command) (s : Streams) → Tells at shape V cs s
      → Tells other shape V cs s
  tells_more (Commands all line) V cs s told = told
  tells_more (Purges who now giver) V cs s told = told
  tells_more (Rows who now digits) V cs s (asked, own, are, read, went) = (
    asked,
    own,
    are,
    record { records = read.records; given = given_more at.tells other.tells so now digits _ read.given },
    went,
  )
  tells_more (Messages now digits) V cs s told = answered_more at.tells other.tells so now digits V cs s told
  tells_more (Connections service) V cs s (inl none) = inl none
  tells_more (Connections service) V cs s (inr (rest, is, done, said, told)) =
      inr (rest, is, done, said, all_more service.lists _ s.turns rest told)
  tells_more (Words text) V cs s told = told

  pub done_more : (shape : Shape) (V : Content) (cs : List Command) (s : Streams) → AllDone at shape V cs s
      → AllDone other shape V cs s
  done_more (Commands all line) V cs s done = done
  done_more (Purges who now giver) V cs s done = done
  done_more (Rows who now digits) V cs s (asked, own, are, it) = (
    asked,
    own,
    are,
    record {
      records = it.records;
      ended = it.ended;
      given = given_more at.tells other.tells so now digits _ it.given;
      each = it.each;
      went = it.went;
    },
  )
  done_more (Messages now digits) V cs s done = whole_more at.tells other.tells so now digits V cs s done
  done_more (Connections service) V cs s (rest, is, done, all, said, told) =
      (rest, is, done, all, said, all_more service.lists _ s.turns rest told)
  done_more (Words text) V cs s done = done

  last_more : (lists : Lists) (V : Content) (ts : List Turn) (cs : List Command) (x : Command)
      → IsLastNext at.tells (asked_of at lists) V ts cs x
      → IsLastNext other.tells (asked_of other lists) V ts cs x
  last_more lists V ts cs x (inl (first, link, own, are, next)) =
      inl (first, link, own, are, heard_next at.tells other.tells so None None _ own x next)
  last_more lists V ts cs x (inr (first, own, news, before, are, is, asked)) =
      inr (first, own, news, before, are, is, asked_more _ _ (asks_more lists) _ _ asked)

  next_more : (shape : Shape) (V : Content) (cs : List Command) (s : Streams) (x : Command)
      → IsNext at shape V cs s x → IsNext other shape V cs s x
  next_more (Commands all line) V cs s x next = next
  next_more (Purges who now giver) V cs s x next = next
  next_more (Rows who now digits) V cs s x next = next
  next_more (Messages now digits) V cs s x next = heard_next at.tells other.tells so now digits s cs x next
  next_more (Connections service) V cs s x (inl first) = inl first
  next_more (Connections service) V cs s x (inr (rest, is, next)) =
      inr (rest, is, last_more service.lists _ s.turns rest x next)
  next_more (Words text) V cs s x next = next

  pub some_more : (shape : Shape) (V : Content) (cs : List Command) (s : Streams) (o : Option Command)
      → IfSome o (IsNext at shape V cs s) → IfSome o (IsNext other shape V cs s)
  some_more shape V cs s None next = tt
  some_more shape V cs s (Some x) next = next_more shape V cs s x next
