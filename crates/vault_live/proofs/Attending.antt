-- What is done between two connections.
use Rattle.std.proofs.Common.{◌≡◌, ◌∙◌, ℕ, ◌+◌, ◌<◌, ◌≤◌, List, [], ◌∷◌, ◌++◌, refl, subst, sym, ap, arith}
use Rattle.std.proofs.Common.{inl, inr, Result, Ok, Err, Bool, length, take, drop, get_or, replicate}
use Rattle.std.proofs.Common.{◌==◌, ◌⊎◌, All, false, not, true}
use Rattle.std.proofs.lemmas.Bool.Decides.{nat_tests}
use Rattle.std.proofs.lemmas.List.{append_cancel_left, length-take-le, take-append-drop, take-take}
use Rattle.std.proofs.lemmas.List.{take_all, take_more}
use Rattle.std.specs.Prelude.{IfErr, IfOk}
use Rattle.vault_core.specs.Runs.{replies, run}
use Rattle.vault_core.specs.Table.{reply}
use Rattle.vault_core.specs.Vault.{Vault as Content}
use Rattle.vault_core.specs.declared.command.Command.{Command}
use Rattle.vault_core.specs.declared.command.Command.TheVariants.{Audit}
use Rattle.vault_core.specs.declared.reply.Reply.TheVariants as answer
use Rattle.vault_engine.specs.Passing.{IsBefore, Keeps, Passage, vault_passing}
use Rattle.vault_listen.specs.declared.fault.ListenFault.{ListenFault}
use Rattle.vault_listen.specs.declared.fault.ListenFault.TheVariants.{Source, Store, Memory, Accept}
use Rattle.vault_store.specs.Applied.{tables_of}
use Rattle.vault_store.specs.declared.vault.Fault.{Fault}
use Rattle.vault_store.specs.declared.vault.Fault.TheVariants as vault
use Rattle.vault_store.specs.declared.vault.Vault.{Vault}
use Rattle.vault_changes.proofs.GivenRights.{replies_more, run_more}
use Rattle.vault_changes.proofs.Lists.{all_at}
use Rattle.vault_changes.specs.Grants.{AreDone}
use Rattle.vault_changes.specs.Settling.{FailsToRead, IsUntouched}
use Rattle.vault_live.specs.Carrying.{AsksAt, AsksRows, EndsSettled, news_in}
use Rattle.vault_live.specs.Following.{AreSettled, Looks}
use Rattle.vault_live.specs.First.{AreKept, Ends, IsCutAfter, IsRefusedAfter, are_left}
use Rattle.vault_live.specs.Kinds.{KeepsRefused, Naming, Wanting}
use Rattle.vault_changes.specs.Moments.{is_merchant_behind}
use Rattle.vault_core.specs.Keys.{Bytes}
use Rattle.vault_live.specs.News.{IsSaidOf, is_idle}
use Rattle.vault_live.specs.Turns.{AreAsked, Asking, Attends}
use Rattle.vault_live.specs.declared.first_commands.End.{End}
use Rattle.vault_live.specs.declared.first_commands.End.TheVariants as end
use Rattle.vault_live.specs.declared.news.News.{News}
use Rattle.vault_live.specs.declared.news.News.TheVariants.{Nothing, Changed, Set, Refused, Unread}
use Rattle.vault_live.specs.declared.news.News.TheVariants.{Unfinished, Purged, Unswept, Waits}
use Rattle.vault_live.specs.declared.subject.Subject.{Subject}

module _ (asks : Asking) (w : Passage) where
  -- nothing is done
  pub attend_none : IsUntouched w → Attends asks w (Ok Nothing)
  attend_none kept = ([], λ V b. (inl refl, refl, kept V b))

  -- nothing is done, and that is said
  pub attend_refused : (about : Subject) (number now : ℕ) → IsUntouched w
      → Attends asks w (Ok (Refused about number now))
  attend_refused about number now kept = ([], λ V b. (inl refl, refl, kept V b))

  pub attend_unread : (about : Subject) (now : ℕ) → IsUntouched w → Attends asks w (Ok (Unread about now))
  attend_unread about now kept = ([], λ V b. (inl refl, refl, kept V b))

  pub attend_unfinished : (about : Subject) (now : ℕ) → IsUntouched w
      → Attends asks w (Ok (Unfinished about now))
  attend_unfinished about now kept = ([], λ V b. (inl refl, refl, kept V b))

  -- what is held wasn't read, since the store failed
  pub attend_failed : FailsToRead w vault.Store → Attends asks w (Err Store)
  attend_failed (is, left) = ([], [], omega arith, λ V b. (inl refl, left V b))

  -- a sweep waits, and that is said or not
  pub attend_unswept : (m : Bytes) (number now : ℕ) → IsUntouched w
      → Attends asks w (Ok (Unswept m number now))
  attend_unswept m number now kept = ([], λ V b. (inl refl, refl, kept V b))

  pub attend_waits : (m : Bytes) (now : ℕ)
      → ((V : Content) → IsBefore w V → (is_merchant_behind V m now ≡ true) × Keeps w V)
      → Attends asks w (Ok (Waits m now))
  attend_waits m now kept = ([], λ V b. (inl refl, (refl, (kept V b).0), (kept V b).1))

  pub attend_unsaid : (news said : News) → (said ≡ news) ⊎ (said ≡ Nothing) × (is_idle news ≡ true)
      → Attends asks w (Ok news) → Attends asks w (Ok said)
  attend_unsaid news said (inl same) h = subst (λ n. Attends asks w (Ok n)) (sym same) h
  attend_unsaid news said (inr (none, idle)) h =
      subst (λ n. Attends asks w (Ok n)) (sym none) (attend_none (kept news idle h))
    where
      kept : (news : News) → is_idle news ≡ true → Attends asks w (Ok news) → IsUntouched w
      kept Nothing idle h = absurd (cc (idle))
      kept (Changed given withdrawn now) idle h = absurd (cc (idle))
      kept (Set count now) idle h = absurd (cc (idle))
      kept (Refused about number now) idle h = absurd (cc (idle))
      kept (Unread about now) idle h = absurd (cc (idle))
      kept (Unfinished about now) idle h = absurd (cc (idle))
      kept (Purged m count now) idle h = absurd (cc (idle))
      kept (Unswept m number now) idle (cs, h) = λ V b. let it = h V b in subst (Keeps w) it.1 it.2
      kept (Waits m now) idle (cs, h) = λ V b. let it = h V b in
          subst (λ ds. Keeps w (run ds V)) it.1.0 it.2

-- what holds of an answer holds of it in other words
pub ok_as : {X E : Type 0} (r : Result X E) (P Q : X → Type 0) → ((x : X) → P x → Q x) → IfOk r P → IfOk r Q
ok_as (Ok x) P Q up h = up x h
ok_as (Err e) P Q up h = tt

-- a number that a test tells to be 0
is_zero : (n : ℕ) → not (n == 0) ≡ false → n ≡ 0
is_zero n h = grind (arith, nat_tests)

-- what is asked for in one way is asked for in another one
pub attends_as : (asks other : Asking) (w : Passage) (r : Result News ListenFault)
    → ((V : Content) (cs : List Command) → IsBefore w V → asks V cs → other V cs)
    → Attends asks w r → Attends other w r
attends_as asks other w r up h = by_end r h
  where
    asked : (V : Content) (cs : List Command) → IsBefore w V → AreAsked asks V cs → AreAsked other V cs
    asked V cs b (inl none) = inl none
    asked V cs b (inr (rest, it)) = inr (rest, up V (cs ++ rest) b it)

    by_end : (r : Result News ListenFault) → Attends asks w r → Attends other w r
    by_end (Ok news) (cs, k) = (cs, λ V b. let it = k V b in (asked V cs b it.0, it.1, it.2))
    by_end (Err Source) kept = kept
    by_end (Err Store) (cs, next, few, k) =
        (cs, next, few, λ V b. let it = k V b in (asked V (cs ++ next) b it.0, it.1))
    by_end (Err Memory) never = never
    by_end (Err Accept) never = never

-- what the rows of a text ask for that was settled
pub attends_at : {X : Type 0} (names : Naming X) (wants : Wanting X) (says : Looks) (now : ℕ) (rows : List X)
    (w : Passage) (r : Result News ListenFault) → AreSettled names says rows
    → Attends (AsksRows wants now rows) w r → Attends (AsksAt names wants says now) w r
attends_at names wants says now rows w r settled h =
    attends_as (AsksRows wants now rows) (AsksAt names wants says now) w r
    (λ V cs b are. (rows, settled, are)) h

-- nothing is said where nothing is done, which keeps the vault that was held
pub untouched : (asks : Asking) (w : Passage) → Attends asks w (Ok Nothing) → IsUntouched w
untouched asks w (cs, h) = λ V b. let it = h V b in subst (λ ds. Keeps w (run ds V)) it.1 it.2

-- the first so many commands are done
pub done_first : (k : ℕ) (cs : List Command) (V : Content) → k ≤ length cs → AreDone k cs V
    → AreDone (length (take k cs)) (take k cs) V
done_first k cs V few done =
    subst (λ n. replies (take n (take k cs)) V ≡ replicate n answer.Done) (sym (length-take-le k cs few))
    (ap (λ ds. replies ds V) (take-take k k cs (omega arith)) ∙ done)

module _ {T : Type 0} (honest : T → Type 0) (holds : T → Content → Type 0)
    (leaves : T → Content → Content → Type 0) (v0 v1 v2 : Vault T)
    (back : honest (tables_of v2) → honest (tables_of v1)) where
  -- a call, one after it, and both
  abbrev pub early : Passage
  early = vault_passing honest holds leaves v0 v1

  abbrev pub late : Passage
  late = vault_passing honest holds leaves v1 v2

  abbrev pub both : Passage
  both = vault_passing honest holds leaves v0 v2

  module _ (kept : IsUntouched early) where
    later : (V : Content) → IsBefore both V → IsBefore late V
    later V b = (b.0, (kept V (back b.0, b.1)).0)

    -- a call that changes nothing, and then another one
    pub attends_then : (asks : Asking) (r : Result News ListenFault) → Attends asks late r
        → Attends asks both r
    attends_then asks (Ok news) (cs, k) = (cs, λ V b. k V (later V b))
    attends_then asks (Err Source) k = λ V b. k V (later V b)
    attends_then asks (Err Store) (cs, next, few, k) = (cs, next, few, λ V b. k V (later V b))
    attends_then asks (Err Memory) never = never
    attends_then asks (Err Accept) never = never

    -- and where that one fails to read
    pub reads_then : (f : Fault) → FailsToRead late f → FailsToRead both f
    reads_then vault.Memory kept_late = λ V b. kept_late V (later V b)
    reads_then vault.Store (is, left) = (is, λ V b. left V (later V b))
    reads_then vault.Reopen never = never

    module _ (asks : Asking) (cs : List Command) (k : ℕ)
        (of : (V : Content) → IsBefore early V → asks V cs)
        (keeps : (V : Content) → IsBefore early V → All KeepsRefused cs) where
      -- the first of the commands
      asked : (n : ℕ) (V : Content) → IsBefore both V → AreAsked asks V (take n cs)
      asked n V b = inr (drop n cs, subst (asks V) (sym (take-append-drop n cs)) (of V (back b.0, b.1)))

      abbrev next : Command
      next = get_or cs k (Audit [] [] 0)

      more : k < length cs → take (k + 1) cs ≡ take k cs ++ next ∷ []
      more below = take_more cs k (Audit [] [] 0) below

      -- they are done
      done : (news : News) → ((V : Content) → AreDone k cs V → IsSaidOf news V (take k cs))
          → AreKept k cs late → Attends asks both (Ok news)
      done news said h =
          (take k cs, λ V b. let it = h V (later V b) in (asked k V b, said V it.0, it.1))

      -- the next one is refused, and changes nothing
      unchanged : (n : ℕ) (V : Content) → IsBefore both V → k < length cs → AreDone k cs V
          → replies (take (k + 1) cs) V ≡ replicate k answer.Done ++ answer.Refused n ∷ []
          → run (take (k + 1) cs) V ≡ run (take k cs) V
      unchanged n V b below all is =
          let W : Content = run (take k cs) V in
          let two : replicate k answer.Done ++ reply W next ∷ []
          ≡ replicate k answer.Done ++ answer.Refused n ∷ [] =
          ap (λ rs. rs ++ reply W next ∷ []) (sym all) ∙ sym (replies_more (take k cs) next V)
          ∙ ap (λ ds. replies ds V) (sym (more below)) ∙ is in
          let last = append_cancel_left (replicate k answer.Done) (reply W next ∷ [])
          (answer.Refused n ∷ []) two in
          let refused : reply W next ≡ answer.Refused n = cc (last) in
          ap (λ ds. run ds V) (more below) ∙ run_more (take k cs) next V
          ∙ all_at KeepsRefused cs k (Audit [] [] 0) below (keeps V (back b.0, b.1)) W n refused

      refused : (n : ℕ) (news : News) → ((V : Content) → AreDone k cs V → IsSaidOf news V (take k cs))
          → k < length cs → IsRefusedAfter n k cs late → Attends asks both (Ok news)
      refused n news said below h = (
        take k cs,
        λ V b.
            let it = h V (later V b) in (
              asked k V b,
              said V it.0,
              subst (Keeps both) (unchanged n V b below it.0 it.1) it.2,
            ),
      )

      -- the store failed at the next one
      cut : k < length cs → IsCutAfter k cs late → Attends asks both (Err Store)
      cut below h = (
        take k cs,
        next ∷ [],
        omega arith,
        λ V b. (
          subst (λ ds. AreAsked asks V ds) (more below) (asked (k + 1) V b),
          subst (λ ds. leaves (tables_of v2) (run (take k cs) V) (run ds V)) (more below)
              (h V (later V b)).1,
        ),
      )

      -- the first of the commands were carried out
      pub attends_first : (e : End) (r : Result (News × Bool) ListenFault) → Ends e k cs late
          → IfOk r (λ it. (V : Content) → AreDone k cs V → IsSaidOf it.0 V (take k cs))
          → (e ≡ end.Store → r ≡ Err Store) → IfErr r (λ f. (f ≡ Store) × (e ≡ end.Store))
          → Attends asks both (news_in r)
      attends_first end.All (Ok it) (is, h) said store fault = done it.0 said h
      attends_first end.Enough (Ok it) (is, h) said store fault = done it.0 said h
      attends_first (end.Refused n) (Ok it) (below, h) said store fault = refused n it.0 said below h
      attends_first end.Memory (Ok it) (below, h) said store fault = done it.0 said h
      attends_first end.Store (Ok it) h said store fault = absurd (cc (store refl))
      attends_first end.All (Err f) h said store fault = absurd (cc (fault.1))
      attends_first end.Enough (Err f) h said store fault = absurd (cc (fault.1))
      attends_first (end.Refused n) (Err f) h said store fault = absurd (cc (fault.1))
      attends_first end.Memory (Err f) h said store fault = absurd (cc (fault.1))
      attends_first end.Store (Err f) (below, h) said store fault =
          subst (λ e. Attends asks both (Err e)) (sym fault.0) (cut below h)

      -- where none are left, all are done, or the first one is refused
      pub settled_first : {X : Type 0} (about : Subject) (wants : Wanting X) (now : ℕ) (rows : List X)
          → ((V : Content) → IsBefore early V → cs ≡ wants now rows V)
          → (e : End) (r : Result (News × Bool) ListenFault) → Ends e k cs late
          → IfOk r (λ it. it.1 ≡ are_left e k)
          → ((n : ℕ) → k ≡ 0 → e ≡ end.Refused n → IfOk r (λ it. it.0 ≡ Refused about n now))
          → EndsSettled about wants now rows both r
      settled_first about wants now rows are e (Err f) h left said = tt
      settled_first about wants now rows are end.All (Ok it) (is, h) left said = λ none V b.
          inl (subst (λ ds. Keeps both (run ds V)) (take_all k cs (omega (arith, is)) ∙ are V (back b.0, b.1))
          (h V (later V b)).1)
      settled_first about wants now rows are end.Enough (Ok it) h left said = λ none. absurd (cc (left, none))
      settled_first about wants now rows are (end.Refused n) (Ok it) (below, h) left said = λ none V b.
          let after = h V (later V b) in
          let first : k ≡ 0 = is_zero k (sym left ∙ none) in
          inr (
            (n, now, said n first refl),
            subst (λ i. Keeps both (run (take i cs) V)) first
                (subst (Keeps both) (unchanged n V b below after.0 after.1) after.2),
          )
      settled_first about wants now rows are end.Memory (Ok it) h left said = λ none. absurd (cc (left, none))
      settled_first about wants now rows are end.Store (Ok it) h left said = λ none. absurd (cc (left, none))
