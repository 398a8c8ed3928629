-- Turns after turns.
use Rattle.std.proofs.Common.{◌≡◌, ◌+◌, ◌≤◌, ℕ, List, [], ◌∷◌, ◌++◌, Option, Some, None, refl, subst}
use Rattle.std.proofs.Common.{Result, Ok, Err, ◌∙◌, length, sym, ap, arith, append-nil, append_assoc, inl}
use Rattle.std.proofs.Common.{Bool, false}
use Rattle.std.specs.Prelude.{All}
use Rattle.std.specs.Io.KnownBytes.{Appends}
use Rattle.std.proofs.lemmas.List.Elements.{All-head, All-tail}
use Rattle.vault_core.specs.Runs.{run}
use Rattle.vault_core.specs.Vault.{Vault as Content}
use Rattle.vault_core.specs.declared.command.Command.{Command}
use Rattle.vault_engine.specs.Passing.{Passage, vault_passing}
use Rattle.vault_engine.specs.declared.stop.Stop.TheVariants as fault
use Rattle.vault_listen.specs.Live.{Turns}
use Rattle.vault_listen.specs.Peers.{Event, Known, Link, closing, events_of}
use Rattle.vault_listen.specs.Peers.Event.{Lost as Missed, Came}
use Rattle.vault_listen.specs.Service.{AllLead, GoesOn}
use Rattle.vault_listen.specs.Service as listen
use Rattle.vault_listen.specs.declared.fault.ListenFault.{ListenFault}
use Rattle.vault_listen.specs.declared.fault.ListenFault.TheVariants.{Source, Store, Memory, Accept}
use Rattle.vault_store.specs.Applied.{tables_of}
use Rattle.vault_store.specs.declared.vault.Vault.{Vault}
use Rattle.vault_live.specs.News.{AreNewsValues, line_of}
use Rattle.vault_live.specs.Told.{Tells}
use Rattle.vault_live.specs.Turns.{AllKept, AllTurn, AreSaid, Asking, Attends, LastUndecided}
use Rattle.vault_live.specs.Turns.{Leaves, OneUndecided, Turn, TurnLeaves, came, events_in, turn_of}
use Rattle.vault_live.specs.Turns.Turn.{Lost, Served, Attended}
use Rattle.vault_live.specs.declared.news.News.{News}
use Rattle.vault_live.specs.declared.news.News.TheVariants.{Nothing}

-- the turns of connections
abbrev pub turns_of : List (Option Link) → List Turn
turns_of [] = []
turns_of (x ∷ xs) = turn_of x ∷ turns_of xs

-- the first of some turns, and the others
pub parted_turns : (tells : Turns) (asks : Asking) (first more : List Turn) (V W : Content)
    → AllTurn tells asks V (first ++ more) W
    → (M : Content) × AllTurn tells asks V first M × AllTurn tells asks M more W
parted_turns tells asks [] more V W turns = (V, refl, turns)
parted_turns tells asks (Lost ∷ first) more V W turns = parted_turns tells asks first more V W turns
parted_turns tells asks (Served x ∷ first) more V W (N, on, one, turns) =
    let it = parted_turns tells asks first more N W turns in (it.0, (N, on, one, it.1), it.2)
parted_turns tells asks (Attended cs news ∷ first) more V W (asked, said, values, turns) =
    let it = parted_turns tells asks first more (run cs V) W turns in (it.0, (asked, said, values, it.1), it.2)

pub came_both : (ts us : List Turn) → came (ts ++ us) ≡ came ts + came us
came_both [] us = omega arith
came_both (Lost ∷ ts) us = omega (arith, came_both ts us)
came_both (Served x ∷ ts) us = omega (arith, came_both ts us)
came_both (Attended cs news ∷ ts) us = came_both ts us

pub came_links : (xs : List (Option Link)) → came (turns_of xs) ≡ length xs
came_links [] = refl
came_links (None ∷ xs) = omega (arith, came_links xs)
came_links (Some x ∷ xs) = omega (arith, came_links xs)

pub events_both : (ts us : List Turn) → events_in (ts ++ us) ≡ events_in ts ++ events_in us
events_both [] us = refl
events_both (Lost ∷ ts) us = ap (λ es. Missed ∷ es) (events_both ts us)
events_both (Served x ∷ ts) us = ap (λ es. Came x.came x.had ∷ closing x ∷ es) (events_both ts us)
events_both (Attended cs news ∷ ts) us = events_both ts us

pub events_links : (xs : List (Option Link)) → events_in (turns_of xs) ≡ events_of xs
events_links [] = refl
events_links (None ∷ xs) = ap (λ es. Missed ∷ es) (events_links xs)
events_links (Some x ∷ xs) = ap (λ es. Came x.came x.had ∷ closing x ∷ es) (events_links xs)

-- what is told of turns, and then of more
pub told_both : (old middle new : List Event → Type 0) (ts us : List Turn)
    → ((log : List Event) → old log → middle (log ++ events_in ts))
    → ((log : List Event) → middle log → new (log ++ events_in us))
    → (log : List Event) → old log → new (log ++ events_in (ts ++ us))
told_both old middle new ts us f g log h =
    subst (λ es. new (log ++ es)) (sym (events_both ts us))
    (subst new (append_assoc log (events_in ts) (events_in us)) (g (log ++ events_in ts) (f log h)))

pub told_none : (tells : List Event → Type 0) (log : List Event) → tells log → tells (log ++ events_in [])
told_none tells log h = subst tells (sym (append-nil log)) h

-- turns of which the peers tell nothing, and no more is told
pub told_quiet : (tells : List Event → Type 0) (ts : List Turn) → events_in ts ≡ [] → (log : List Event)
    → tells log → tells (log ++ events_in ts)
told_quiet tells ts quiet log h = subst (λ es. tells (log ++ es)) (sym quiet) (told_none tells log h)

-- what is told of connections, said of their turns
pub told_links : (old new : List Event → Type 0) (xs : List (Option Link))
    → ((log : List Event) → old log → new (log ++ events_of xs))
    → (log : List Event) → old log → new (log ++ events_in (turns_of xs))
told_links old new xs f log h = subst (λ es. new (log ++ es)) (sym (events_links xs)) (f log h)

-- what was said in turns, and then in more
pub said_both : (ts us : List Turn) (old middle new : Known) → AreSaid old middle ts → AreSaid middle new us
    → AreSaid old new (ts ++ us)
said_both [] us old middle new same more = subst (λ k. AreSaid k new us) same more
said_both (Lost ∷ ts) us old middle new said more = said_both ts us old middle new said more
said_both (Served x ∷ ts) us old middle new said more = said_both ts us old middle new said more
said_both (Attended cs news ∷ ts) us old middle new (next, stopped, told, said) more =
    (next, stopped, told, said_both ts us next middle new said more)

-- in connections nothing is said
said_links : (xs : List (Option Link)) (k : Known) → AreSaid k k (turns_of xs)
said_links [] k = refl
said_links (None ∷ xs) k = said_links xs k
said_links (Some x ∷ xs) k = said_links xs k

-- what is said of the office, and then of connections
pub said_first : (cs : List Command) (news : News) (xs : List (Option Link)) (old new : Known)
    (stopped : Bool) → Tells old new stopped (line_of news) → AreSaid old new (Attended cs news ∷ turns_of xs)
said_first cs news xs old new stopped told = (new, stopped, told, said_links xs new)

-- bytes to which none were added
appends_none : (k : Known) → Appends k k []
appends_none None = tt
appends_none (Some xs) = sym (append-nil xs)

-- how many connections came with that of one service
abbrev pub counted : Result (Unit {0}) ListenFault → Result ℕ ListenFault
counted (Ok done) = Ok 1
counted (Err f) = Err f

module _ (tells : Turns) (asks : Asking) where
  -- turns, and then more of them
  pub turns_then : (ts us : List Turn) (V M W : Content) → AllTurn tells asks V ts M
      → AllTurn tells asks M us W → AllTurn tells asks V (ts ++ us) W
  turns_then [] us V M W same more = subst (λ U. AllTurn tells asks U us W) same more
  turns_then (Lost ∷ ts) us V M W one more = turns_then ts us V M W one more
  turns_then (Served x ∷ ts) us V M W (N, on, leads, rest) more =
      (N, on, leads, turns_then ts us N M W rest more)
  turns_then (Attended cs news ∷ ts) us V M W (asked, said, values, rest) more =
      (asked, said, values, turns_then ts us (run cs V) M W rest more)

  -- connections in which the store doesn't fail
  led_turns : (xs : List (Option Link)) (V W : Content) → All GoesOn xs → AllLead tells V xs W
      → AllTurn tells asks V (turns_of xs) W
  led_turns [] V W on same = same
  led_turns (None ∷ xs) V W on led = led_turns xs V W (All-tail GoesOn None xs on) led
  led_turns (Some x ∷ xs) V W on (M, one, led) =
      (M, All-head GoesOn (Some x) xs on, one, led_turns xs M W (All-tail GoesOn (Some x) xs on) led)

  kept_turns : (xs : List (Option Link)) (w : Passage) → All GoesOn xs → listen.AllKept tells xs w
      → AllKept tells asks (turns_of xs) w
  kept_turns xs w on kept = λ V b. let it = kept V b in (it.0, led_turns xs V it.0 on it.1, it.2)

  split : (first : List (Option Link)) (last : Link)
      → turns_of (first ++ Some last ∷ []) ≡ turns_of first ++ Served last ∷ []
  split [] last = refl
  split (x ∷ more) last = ap (λ ts. turn_of x ∷ ts) (split more last)

  -- the connection in which the store failed
  undecided_turns : (xs : List (Option Link)) (w : Passage)
      → (first : List (Option Link)) (last : Link) → xs ≡ first ++ Some last ∷ [] → All GoesOn first
      → last.ended ≡ Err fault.Store → listen.OneUndecided tells first last w
      → LastUndecided tells asks (turns_of xs) w
  undecided_turns xs w first last is on failed one = (
    turns_of first,
    Served last,
    ap turns_of is ∙ split first last,
    (
      failed,
      λ V b. let it = one V b in
          (it.0, it.1, it.2, led_turns first V it.0 on it.3, it.4, it.5),
    ),
  )

  -- what a service of one connection leaves, which is a turn
  pub turn_leaves : (xs : List (Option Link)) (w : Passage) (r : Result (Unit {0}) ListenFault)
      → listen.Leaves tells 1 xs w r → TurnLeaves tells asks (turns_of xs) w (counted r)
  turn_leaves xs w (Ok done) (count, on, kept) = (came_links xs ∙ count, omega arith, kept_turns xs w on kept)
  turn_leaves xs w (Err Source) (some, few, on, kept) =
      (omega (arith, came_links xs, few), kept_turns xs w on kept)
  turn_leaves xs w (Err Store) (few, (first, last, is, on, failed, one)) =
      (omega (arith, came_links xs, few), undecided_turns xs w first last is on failed one)
  turn_leaves xs w (Err Memory) never = absurd never
  turn_leaves xs w (Err Accept) (fewer, on, kept) =
      (omega (arith, came_links xs, fewer), kept_turns xs w on kept)

module _ (tells : Turns) (asks : Asking) (w : Passage) where
  -- the turn in which the office was asked
  pub attend_ok : (news : News) → AreNewsValues news → Attends asks w (Ok news)
      → (cs : List Command) × AllKept tells asks (Attended cs news ∷ []) w
  attend_ok news values (cs, h) =
      (cs, λ V b. let it = h V b in (run cs V, (it.0, it.1, values, refl), it.2))

  -- the turn in which the office failed, and nothing was said
  pub attend_err : (f : ListenFault) → Attends asks w (Err f) → (k : Known)
      → (ts : List Turn) × TurnLeaves tells asks ts w (Err f) × (events_in ts ≡ []) × AreSaid k k ts
  attend_err Source kept k = ([], (omega arith, λ V b. (V, refl, kept V b)), refl, refl)
  attend_err Store (cs, next, few, h) k = (
    Attended cs Nothing ∷ [],
    (
      omega arith,
      (
        [],
        Attended cs Nothing,
        refl,
        (refl, (next, few, λ V b. let it = h V b in (V, refl, it.0, it.1))),
      ),
    ),
    refl,
    (k, false, inl (appends_none k), refl),
  )
  attend_err Memory never k = absurd never
  attend_err Accept never k = absurd never

module _ {T : Type 0} (tells : Turns) (asks : Asking) (honest : T → Type 0) (holds : T → Content → Type 0)
    (leaves : T → Content → Content → Type 0)
    (steady : (t : T) (V : Content) → holds t V → honest t → leaves t V V) where
  abbrev pub passing : Vault T → Vault T → Passage
  passing v v' = vault_passing honest holds leaves v v'

  -- no turn
  pub kept_none : (v : Vault T) → AllKept tells asks [] (passing v v)
  kept_none v = λ V b. (V, refl, (b.1, steady (tables_of v) V b.1.0 b.0))

  -- turns, and then more of them
  pub kept_then : (ts us : List Turn) (v0 v1 v2 : Vault T) → (honest (tables_of v2) → honest (tables_of v1))
      → AllKept tells asks ts (passing v0 v1) → AllKept tells asks us (passing v1 v2)
      → AllKept tells asks (ts ++ us) (passing v0 v2)
  kept_then ts us v0 v1 v2 back first second = λ V b.
      let one = first V (back b.0, b.1) in
      let two = second one.0 (b.0, one.2.0) in
      (two.0, turns_then tells asks ts us V one.0 two.0 one.1 two.1, two.2)

  one_then : (ts first : List Turn) (last : Turn) (v0 v1 v2 : Vault T)
      → (honest (tables_of v2) → honest (tables_of v1)) → AllKept tells asks ts (passing v0 v1)
      → OneUndecided tells asks first last (passing v1 v2)
      → OneUndecided tells asks (ts ++ first) last (passing v0 v2)
  one_then ts first Lost v0 v1 v2 back kept never = absurd never
  one_then ts first (Served x) v0 v1 v2 back kept (failed, one) = (
    failed,
    λ V b.
        let it = kept V (back b.0, b.1) in
        let more = one it.0 (b.0, it.2.0) in
        (more.0, more.1, more.2, turns_then tells asks ts first V it.0 more.0 it.1 more.3, more.4, more.5),
  )
  one_then ts first (Attended cs news) v0 v1 v2 back kept (silent, (next, few, one)) = (
    silent,
    (
      next,
      few,
      λ V b.
          let it = kept V (back b.0, b.1) in
          let more = one it.0 (b.0, it.2.0) in
          (more.0, turns_then tells asks ts first V it.0 more.0 it.1 more.1, more.2, more.3),
    ),
  )

  last_then : (ts us : List Turn) (v0 v1 v2 : Vault T) → (honest (tables_of v2) → honest (tables_of v1))
      → AllKept tells asks ts (passing v0 v1) → LastUndecided tells asks us (passing v1 v2)
      → LastUndecided tells asks (ts ++ us) (passing v0 v2)
  last_then ts us v0 v1 v2 back kept (first, last, is, one) = (
    ts ++ first,
    last,
    ap (λ ws. ts ++ ws) is ∙ sym (append_assoc ts first (last ∷ [])),
    one_then ts first last v0 v1 v2 back kept one,
  )

  -- turns in which no connection came, and then one more
  pub turn_then : (ts us : List Turn) (v0 v1 v2 : Vault T) (r : Result ℕ ListenFault)
      → (honest (tables_of v2) → honest (tables_of v1)) → came ts ≡ 0 → AllKept tells asks ts (passing v0 v1)
      → TurnLeaves tells asks us (passing v1 v2) r → TurnLeaves tells asks (ts ++ us) (passing v0 v2) r
  turn_then ts us v0 v1 v2 (Ok n) back none kept (count, few, more) =
      (omega (arith, came_both ts us), few, kept_then ts us v0 v1 v2 back kept more)
  turn_then ts us v0 v1 v2 (Err Source) back none kept (few, more) =
      (omega (arith, came_both ts us), kept_then ts us v0 v1 v2 back kept more)
  turn_then ts us v0 v1 v2 (Err Store) back none kept (few, more) =
      (omega (arith, came_both ts us), last_then ts us v0 v1 v2 back kept more)
  turn_then ts us v0 v1 v2 (Err Memory) back none kept never = absurd never
  turn_then ts us v0 v1 v2 (Err Accept) back none kept (count, more) =
      (omega (arith, came_both ts us), kept_then ts us v0 v1 v2 back kept more)

  -- turns, and then the last one, before all connections came
  pub leaves_then : (ts us : List Turn) (v0 v1 v2 : Vault T) (most left : ℕ) (f : ListenFault)
      → (honest (tables_of v2) → honest (tables_of v1)) → came ts + left ≡ most → 1 ≤ left
      → AllKept tells asks ts (passing v0 v1) → TurnLeaves tells asks us (passing v1 v2) (Err f)
      → Leaves tells asks most (ts ++ us) (passing v0 v2) (Err f)
  leaves_then ts us v0 v1 v2 most left Source back count more kept (few, last) =
      (omega (arith, came_both ts us), kept_then ts us v0 v1 v2 back kept last)
  leaves_then ts us v0 v1 v2 most left Store back count more kept (few, last) =
      (omega (arith, came_both ts us), last_then ts us v0 v1 v2 back kept last)
  leaves_then ts us v0 v1 v2 most left Memory back count more kept never = absurd never
  leaves_then ts us v0 v1 v2 most left Accept back count more kept (none, last) =
      (omega (arith, came_both ts us), kept_then ts us v0 v1 v2 back kept last)
