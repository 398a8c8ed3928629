-- Rights that runs make by a list are those of a text that its file had.
use Rattle.std.proofs.Common.{◌≡◌, ◌⊎◌, ℕ, Bool, true, false, cond, List, [], ◌∷◌, ◌++◌, Option, Some, None}
use Rattle.std.proofs.Common.{inl, inr, refl, sym, ap, subst, ◌∙◌, append-nil, length, drop}
use Rattle.std.proofs.lemmas.List.{take-append-drop}
use Rattle.std.proofs.lemmas.List.Elements.{All-cons, All-nil}
use Rattle.std.specs.Global.{Vec}
use Rattle.std.specs.Borrow.{Bor}
use Rattle.std.specs.Prelude.{All, IfSome, IsSomeAnd, unwrap_or}
use Rattle.vault_app.specs.Commands.Serve.{without_end}
use Rattle.sqlite_wal.specs.Recovery.{Image}
use Rattle.vault_core.specs.Keys.{Bytes}
use Rattle.vault_core.specs.Runs.{run}
use Rattle.vault_core.specs.Table.{after, reply}
use Rattle.vault_core.specs.Vault.{Vault as Content}
use Rattle.vault_core.specs.declared.command.Command.{Command}
use Rattle.vault_core.specs.declared.reply.Reply.{Reply}
use Rattle.vault_core.specs.declared.reply.Reply.TheVariants as answer
use Rattle.vault_merchants.specs.ListedMerchants.{AreListed, Wanted}
use Rattle.vault_rights.specs.Named.{Row}
use Rattle.vault_store.specs.Listed.{merchant_rows}
use Rattle.vault_changes.specs.Changes.{changes_at, rights_of}
use Rattle.vault_changes.specs.Grants.{AreDone}
use Rattle.vault_changes.specs.Purges.{purges_of}
use Rattle.vault_changes.specs.Settings.{missing_merchants, wanted_at}
use Rattle.vault_live.specs.Following.{AreRowsIn}
use Rattle.vault_live.specs.Kinds.{merchants_changes, rights_changes}
use Rattle.vault_live.specs.Turns.{AreAsked, Turn}
use Rattle.vault_live.specs.Turns.Turn.{Lost, Served, Attended}
use Rattle.vault_words.specs.declared.jobs.Job.TheVariants as job
use Rattle.vault_jobs.specs.Lists.{asked_by, asked_of, begin_of, first_of, path_of, swept_by}
use Rattle.vault_jobs.specs.declared.lists.ListFile.{ListFile}
use Rattle.vault_jobs.specs.declared.lists.Lists.{Lists}
use Rattle.vault_jobs.specs.declared.serve_task.ServeTask.{ServeTask}
use Rattle.vault_jobs.specs.declared.show.Shown.{Shown}
use Rattle.vault_jobs.specs.declared.task.Task.{Task}
use Rattle.vault_jobs.specs.declared.task.Task.TheVariants as task
use Rattle.vault_app.specs.Asked.{AsksFor}
use Rattle.vault_app.specs.Followed.{IsFollowed}
use Rattle.vault_app.specs.Plans.{IsTaskOf}
use Rattle.vault_promise.proofs.PipedMessages.{run_append}
use Rattle.vault_promise.proofs.Proper.{all_first}
use Rattle.vault_promise.specs.Exact.{AreRightsIn, RightsBecomeExact}
use Rattle.vault_promise.specs.ListedRights.{FollowsIts, FollowsList, HadBefore, HadFirst, HadTwice}
use Rattle.vault_promise.specs.ListedRights.{KeepsRights}
use Rattle.vault_promise.specs.ListedRights.{MakesRights, NamesList, TurnsFollow}
use Rattle.vault_promise.specs.Runs.{Come, Comes, Run, around, kept_by, outside_of, undecided_by}
use Rattle.vault_promise.specs.Shapes.{shape_of}
use Rattle.vault_promise.specs.Told.{AllAnswer, Tells}

-- ---- what the words ask for

-- a task of a list of rights is one of its rows
settled_rows : (dry exact : Bool) (rows given : Vec Row) (now then : ℕ) (shown : Shown)
    → task.Settle rows now ≡ cond dry (task.Show shown) (cond exact (task.Settle given then)
    (task.Give given then)) → rows ≡ given
settled_rows true exact rows given now then shown is = absurd (cc is)
settled_rows false true rows given now then shown is = cc is
settled_rows false false rows given now then shown is = absurd (cc is)

given_rows : (dry exact : Bool) (rows given : Vec Row) (now then : ℕ) (shown : Shown)
    → task.Give rows now ≡ cond dry (task.Show shown) (cond exact (task.Settle given then)
    (task.Give given then)) → rows ≡ given
given_rows true exact rows given now then shown is = absurd (cc is)
given_rows false true rows given now then shown is = absurd (cc is)
given_rows false false rows given now then shown is = cc is

served_never : (dry exact : Bool) (service : ServeTask) (given : Vec Row) (then : ℕ) (shown : Shown)
    → task.Serve service ≡ cond dry (task.Show shown) (cond exact (task.Settle given then)
    (task.Give given then)) → ⊥
served_never true exact service given then shown is = cc is
served_never false true service given then shown is = cc is
served_never false false service given then shown is = cc is

-- a task of a list of merchants is none of rights
set_never : (dry : Bool) (t : Task) (rows : Vec Wanted) (then : ℕ) (shown : Shown)
    → t ≡ cond dry (task.Show shown) (task.SetMerchants rows then)
    → (t ≡ task.Show shown) ⊎ (t ≡ task.SetMerchants rows then)
set_never true t rows then shown is = inl is
set_never false t rows then shown is = inr is

-- the rows are those of a text that the file had before
abbrev AreTold : Run → List Row → Type 0
AreTold r rows = (text : List ℕ) × HadBefore r text × AreRowsIn text rows

settled_told : (r : Run) (rows : Vec Row) (now : ℕ)
    → AsksFor r.words (λ job. IsTaskOf (around r) job (task.Settle rows now)) → AreTold r rows.items
settled_told r rows now (
  job.Rights j,
  asked,
  (given, then, (text, (document, said, is, proper, listed)), moment, same),
) = (
  text,
  (j.rights.now, (job.Rights j, asked, refl), said),
  subst (λ (v : Vec Row). AreRowsIn text v.items)
      (sym (settled_rows j.dry_run j.exact rows given now then _ same)) (document, is, proper, listed),
)
settled_told r rows now (job.Merchants j, asked, (given, then, told, moment, same)) =
    elim (set_never j.dry_run (task.Settle rows now) given then _ same) [
      | inl is ↦ absurd (cc is)
      | inr is ↦ absurd (cc is)
    ]
settled_told r rows now (job.Merchant j, asked, (name, (then, moment, same))) = absurd (cc same)
settled_told r rows now (job.Grant j, asked, (names, (right, then, word, moment, same))) = absurd (cc same)
settled_told r rows now (job.Withdraw j, asked, (names, (right, then, word, moment, same))) =
    absurd (cc same)
settled_told r rows now (job.Pipe j, asked, same) = absurd (cc same)
settled_told r rows now (job.Batch j, asked, (names, (who, caller, merchant, same))) = absurd (cc same)
settled_told r rows now (job.Serve j, asked, (lists, merchants, rights, same)) = absurd (cc same)
settled_told r rows now (job.Sweep j, asked, (names, (who, then, caller, merchant, moment, same))) =
    absurd (cc same)
settled_told r rows now (job.List j, asked, same) = absurd (cc same)
settled_told r rows now (job.Trial j, asked, is) = absurd is
settled_told r rows now (job.Check j, asked, is) = absurd is
settled_told r rows now (job.Migrate j, asked, is) = absurd is

given_told : (r : Run) (rows : Vec Row) (now : ℕ)
    → AsksFor r.words (λ job. IsTaskOf (around r) job (task.Give rows now)) → AreTold r rows.items
given_told r rows now (
  job.Rights j,
  asked,
  (given, then, (text, (document, said, is, proper, listed)), moment, same),
) = (
  text,
  (j.rights.now, (job.Rights j, asked, refl), said),
  subst (λ (v : Vec Row). AreRowsIn text v.items)
      (sym (given_rows j.dry_run j.exact rows given now then _ same)) (document, is, proper, listed),
)
given_told r rows now (job.Merchants j, asked, (given, then, told, moment, same)) =
    elim (set_never j.dry_run (task.Give rows now) given then _ same) [
      | inl is ↦ absurd (cc is)
      | inr is ↦ absurd (cc is)
    ]
given_told r rows now (job.Merchant j, asked, (name, (then, moment, same))) = absurd (cc same)
given_told r rows now (job.Grant j, asked, (names, (right, then, word, moment, same))) = absurd (cc same)
given_told r rows now (job.Withdraw j, asked, (names, (right, then, word, moment, same))) = absurd (cc same)
given_told r rows now (job.Pipe j, asked, same) = absurd (cc same)
given_told r rows now (job.Batch j, asked, (names, (who, caller, merchant, same))) = absurd (cc same)
given_told r rows now (job.Serve j, asked, (lists, merchants, rights, same)) = absurd (cc same)
given_told r rows now (job.Sweep j, asked, (names, (who, then, caller, merchant, moment, same))) =
    absurd (cc same)
given_told r rows now (job.List j, asked, same) = absurd (cc same)
given_told r rows now (job.Trial j, asked, is) = absurd is
given_told r rows now (job.Check j, asked, is) = absurd is
given_told r rows now (job.Migrate j, asked, is) = absurd is

-- the list of a service is one of the words, and its rows those of a text that the file had before
record IsOwnList (r : Run) (it : ListFile Row) : Type 0 where
  named : NamesList r.words (path_of it)
  had : HadFirst r it.text.items
  listed : AreRowsIn it.text.items it.rows.items

followed_told : (r : Run) (o : Option (ListFile Row)) (file : Option (Bor (List ℕ)))
    → ((path : List ℕ) → IsSomeAnd file (λ f. f.now ≡ path) → NamesList r.words path)
    → IsFollowed AreRowsIn (around r) file o → IfSome o (IsOwnList r)
followed_told r o None names same =
    let Q : Option (ListFile Row) → Type 0 = λ l. IfSome l (IsOwnList r) in subst Q (sym same) tt
followed_told r o (Some path) names (it, same, (said, whole, named), moment, of) =
    let Q : Option (ListFile Row) → Type 0 = λ l. IfSome l (IsOwnList r) in
    subst Q (sym same) (record {
      named = subst (NamesList r.words) (sym of) (names path.now refl);
      had = (path.now, names path.now refl, said, whole);
      listed = named;
    })

serve_told : (r : Run) (service : ServeTask)
    → AsksFor r.words (λ job. IsTaskOf (around r) job (task.Serve service))
    → IfSome service.lists.rights (IsOwnList r)
serve_told r service (job.Serve j, asked, (lists, merchants, rights, same)) =
    let Q : ServeTask → Type 0 = λ s. IfSome s.lists.rights (IsOwnList r) in
    let is : service
    ≡ record { port = j.port; connections = unwrap_or j.connections without_end; lists = lists } =
    cc same in
    subst Q (sym is) (followed_told r lists.rights j.rights (λ path at. (job.Serve j, asked, at)) rights)
serve_told r service (job.Rights j, asked, (given, then, listed, moment, same)) =
    absurd (served_never j.dry_run j.exact service given then _ same)
serve_told r service (job.Merchants j, asked, (given, then, told, moment, same)) =
    elim (set_never j.dry_run (task.Serve service) given then _ same) [
      | inl is ↦ absurd (cc is)
      | inr is ↦ absurd (cc is)
    ]
serve_told r service (job.Merchant j, asked, (name, (then, moment, same))) = absurd (cc same)
serve_told r service (job.Grant j, asked, (names, (right, then, word, moment, same))) = absurd (cc same)
serve_told r service (job.Withdraw j, asked, (names, (right, then, word, moment, same))) = absurd (cc same)
serve_told r service (job.Pipe j, asked, same) = absurd (cc same)
serve_told r service (job.Batch j, asked, (names, (who, caller, merchant, same))) = absurd (cc same)
serve_told r service (job.Sweep j, asked, (names, (who, then, caller, merchant, moment, same))) =
    absurd (cc same)
serve_told r service (job.List j, asked, same) = absurd (cc same)
serve_told r service (job.Trial j, asked, is) = absurd is
serve_told r service (job.Check j, asked, is) = absurd is
serve_told r service (job.Migrate j, asked, is) = absurd is

-- ---- what becomes exact

-- what is done of commands, one after the other, is done of the later ones
done_behind : (front bs : List Command) (V : Content) → AreDone (length (front ++ bs)) (front ++ bs) V
    → AreDone (length bs) bs (run front V)
done_behind [] bs V done = done
done_behind (c ∷ front) bs V done =
    done_behind front bs (after V c) (tail_of (reply V c) answer.Done _ _ done)
  where
    tail_of : (x y : Reply) (xs ys : List Reply) → x ∷ xs ≡ y ∷ ys → xs ≡ ys
    tail_of x y xs ys h = cc h

module _ (law : RightsBecomeExact) where
  -- all changes of rows that a text names
  exact_all : (text : List ℕ) (rows : List Row) → AreRowsIn text rows → (now : ℕ) (V : Content)
      (cs : List Command) → cs ≡ changes_at true now rows (rights_of V) → AreDone (length cs) cs V
      → AreRightsIn text (run cs V)
  exact_all text rows listed now V cs is done =
      subst (λ ds. AreRightsIn text (run ds V)) (sym is)
      (law.1 text rows (run (changes_at true now rows (rights_of V)) V) listed
      (law.0 now rows V listed.3.0 (subst (λ ds. AreDone (length ds) ds V) is done)))

  makes : (Had : List ℕ → Type 0) (text : List ℕ) (rows : List Row) → Had text → AreRowsIn text rows
      → (now : ℕ) (V : Content) (cs left : List Command)
      → cs ++ left ≡ changes_at true now rows (rights_of V) → MakesRights Had V cs left
  makes Had text rows had listed now V cs left are = record {
    text = text;
    had = had;
    rows = rows;
    listed = listed;
    now = now;
    are = are;
    exact = λ none done. exact_all text rows listed now V cs
        (sym (append-nil cs) ∙ ap (λ l. cs ++ l) (sym none) ∙ are) done;
  }

  -- before a service
  begun_exact : (r : Run) (lists : Lists) (V : Content) → IfSome lists.rights (IsOwnList r)
      → AreDone (length (begin_of lists V)) (begin_of lists V) V
      → IfSome lists.rights (λ it. AreRightsIn it.text.items (run (begin_of lists V) V))
  begun_exact r lists V own done =
      let set : List Command = first_of merchants_changes lists.merchants V in by_list set lists.rights own done
    where
      by_list : (set : List Command) (o : Option (ListFile Row)) → IfSome o (IsOwnList r)
          → AreDone (length (set ++ first_of rights_changes o (run set V)))
          (set ++ first_of rights_changes o (run set V)) V
          → IfSome o (λ it. AreRightsIn it.text.items (run (set ++ first_of rights_changes o (run set V)) V))
      by_list set None own done = tt
      by_list set (Some it) own done =
          let U : Content = run set V in
          let cs : List Command = rights_changes it.now it.rows.items U in
          subst (AreRightsIn it.text.items) (sym (run_append set cs V))
          (exact_all it.text.items it.rows.items own.listed it.now U cs refl (done_behind set cs V done))

  -- ---- between two connections

  keeps_settings : (now : ℕ) (rows : List Wanted) → All KeepsRights (wanted_at now rows)
  keeps_settings now [] = All-nil KeepsRights
  keeps_settings now (row ∷ rows) = All-cons KeepsRights _ _ (refl, refl) (keeps_settings now rows)

  keeps_purges : (caller m : Bytes) (now : ℕ) (tokens : List Bytes)
      → All KeepsRights (purges_of caller m now tokens)
  keeps_purges caller m now [] = All-nil KeepsRights
  keeps_purges caller m now (token ∷ tokens) =
      All-cons KeepsRights _ _ (refl, refl) (keeps_purges caller m now tokens)

  module _ (r : Run) (lists : Lists) (own : IfSome lists.rights (IsOwnList r)) where
    -- what the list of merchants asks for
    set_keeps : (o : Option (ListFile Wanted)) (V : Content) (first rest : List Command)
        → asked_by AreListed merchants_changes (outside_of r) o V (first ++ rest) → All KeepsRights first
    set_keeps None V first rest never = absurd never
    set_keeps (Some it) V first rest asked = all_first KeepsRights first rest
        (subst (All KeepsRights) (sym asked.are)
        (keeps_settings asked.now (missing_merchants asked.rows (merchant_rows V))))

    sweep_keeps : (o : Option (ListFile Wanted)) (V : Content) (first rest : List Command)
        → swept_by (outside_of r) o V (first ++ rest) → All KeepsRights first
    sweep_keeps None V first rest never = absurd never
    sweep_keeps (Some it) V first rest asked = all_first KeepsRights first rest
        (subst (All KeepsRights) (sym asked.are.1) (keeps_purges _ _ asked.now _))

    -- what the list of rights asks for
    rights_made : (o : Option (ListFile Row)) → IfSome o (IsOwnList r) → (V : Content)
        (first rest : List Command)
        → asked_by AreRowsIn rights_changes (outside_of r) o V (first ++ rest)
        → MakesRights (HadTwice r) V first rest
    rights_made None own V first rest never = absurd never
    rights_made (Some it) own V first rest asked =
        let (look, text, settled, listed) = asked.settled in
        makes (HadTwice r) text asked.rows (
          path_of it,
          own.named,
          (
            settled.before,
            settled.first,
            subst (λ n. r.texts.looked (path_of it) n text ≡ true) (sym settled.next) settled.again,
          ),
        ) listed asked.now V first rest asked.are

    turn_follows : (V : Content) (first : List Command) → AreAsked (asked_of (outside_of r) lists) V first
        → All KeepsRights first ⊎ (left : List Command) × MakesRights (HadTwice r) V first left
    turn_follows V first (inl none) = inl (subst (All KeepsRights) (sym none) (All-nil KeepsRights))
    turn_follows V first (inr (rest, inl asked)) = inl (set_keeps lists.merchants V first rest asked)
    turn_follows V first (inr (rest, inr (inl asked))) =
        inr (rest, rights_made lists.rights own V first rest asked)
    turn_follows V first (inr (rest, inr (inr asked))) = inl (sweep_keeps lists.merchants V first rest asked)

    turns_follow : (V : Content) (ts : List Turn) (cs : List Command)
        → AllAnswer (outside_of r).tells (asked_of (outside_of r) lists) V ts cs → TurnsFollow r V ts cs
    turns_follow V [] cs told = tt
    turns_follow V (Lost ∷ ts) cs told = turns_follow V ts cs told
    turns_follow V (Served x ∷ ts) cs (first, more, is, here, rest) =
        (first, more, is, turns_follow (run first V) ts more rest)
    turns_follow V (Attended first news ∷ ts) cs (asked, (more, is, rest)) =
        (turn_follows V first asked.0, (more, is, turns_follow (run first V) ts more rest))

  -- ---- each task, and each run

  had_own : (r : Run) (o : Option (ListFile Row)) → IfSome o (IsOwnList r)
      → IfSome o (λ it. HadFirst r it.text.items × AreRowsIn it.text.items it.rows.items)
  had_own r None own = tt
  had_own r (Some it) own = (own.had, own.listed)

  follows_list : (r : Run) (t : Task) → AsksFor r.words (λ job. IsTaskOf (around r) job t) → (V : Content)
      (cs : List Command) → Tells (outside_of r) (shape_of t V) V cs r.streams → FollowsList r t V cs
  follows_list r (task.Give rows now) asked V cs told = given_told r rows now asked
  follows_list r (task.Settle rows now) asked V cs ((k, is), told) =
      let all = changes_at true now rows.items (rights_of V) in
      let (text, had, listed) = settled_told r rows now asked in (
        drop k all,
        makes (HadBefore r) text rows.items had listed now V cs (drop k all)
            (ap (λ ds. ds ++ drop k all) is ∙ take-append-drop k all),
      )
  follows_list r (task.Serve service) asked V cs (inl (first, none, quiet)) =
      (had_own r service.lists.rights (serve_told r service asked), inl none)
  follows_list r (task.Serve service) asked V cs (inr (more, is, done, said, told)) =
      let own = serve_told r service asked in (
        had_own r service.lists.rights own,
        inr (
          more,
          is,
          begun_exact r service.lists V own done,
          turns_follow r service.lists own (run (begin_of service.lists V) V) r.streams.turns more told,
        ),
      )
  follows_list r t asked V cs told = tt

  pub follows_its : (V : Content) (c : Option Command) (r : Run) (it : Comes V c r) (rs : List Run)
      (end : Image) (more : Come (kept_by V c r it) (undecided_by V c r it) rs end)
      → FollowsIts V c r it rs end more
  follows_its V c r (inl w) rs end more = follows_list r w.task w.asked w.opened w.answered w.tells
  follows_its V c r (inr rests) rs end more = tt
