-- What a batch answered, and what it left undecided, as commands.
use Rattle.std.proofs.Common.{◌≡◌, ◌⊎◌, ℕ, ◌+◌, ◌<◌, List, [], ◌∷◌, ◌++◌, length, take, map, Option}
use Rattle.std.proofs.Common.{None, Result, Ok, Err, inl, inr, refl, sym, ap, subst, ◌∙◌, append-nil}
use Rattle.std.proofs.Common.{append_assoc, arith, IfSome}
use Rattle.std.proofs.Math.Seq.{take-append-add, take-length}
use Rattle.std.proofs.lemmas.List.{map-append}
use Rattle.std.proofs.lemmas.List.Elements.{All-head, All-nil, All-tail}
use Rattle.std.specs.Io.KnownBytes.{Appends}
use Rattle.std.specs.Prelude.{All}
use Rattle.std.specs.Str.Parse.{digits_value}
use Rattle.vault_batch.specs.Asking.{Asked, Asks, Wants, rows_by}
use Rattle.vault_batch.specs.Batched.{line_at, lines, rows_of}
use Rattle.vault_batch.specs.Lines.{first_line}
use Rattle.vault_engine.proofs.Listing.{texts-more, vault_after-nil}
use Rattle.vault_engine.specs.Answered.{pairs_of}
use Rattle.vault_engine.specs.Asking.{commands_of, vault_after, Pair, commands_in}
use Rattle.vault_batch.specs.Rows.{BeginRecordsOf, Fields, Row, fields_in, header}
use Rattle.vault_batch.specs.Rows.{records_with}
use Rattle.vault_batch.specs.Stops.{IsBatched, Stops}
use Rattle.vault_batch.specs.declared.asker.Asker.{Asker}
use Rattle.vault_batch.specs.declared.row_counts.Counts.{Counts}
use Rattle.vault_batch.specs.declared.fault.BatchFault.{BatchFault}
use Rattle.vault_batch.specs.declared.fault.BatchFault.TheVariants as fault
use Rattle.vault_core.specs.Name.{IsName}
use Rattle.vault_core.specs.Proper.{AllProper}
use Rattle.vault_core.specs.Runs.{run}
use Rattle.vault_core.specs.Vault.{Vault as Content}
use Rattle.vault_core.specs.declared.command.Command.{Command}
use Rattle.vault_core.specs.declared.command.Command.TheVariants.{Tokenize}
use Rattle.vault_engine.specs.Passing.{IsBefore, Passage, Takes}
use Rattle.vault_listen.specs.Live.{AreGiven, IsPairOf, Turns}
use Rattle.std.specs.Io.KnownBytes.{IsAtEnd}
use Rattle.vault_jobs.specs.Outside.{Outside}
use Rattle.vault_pan.specs.CardText.{digits_of}
use Rattle.vault_routes.specs.Wanted.{Wanted}
use Rattle.vault_jobs.specs.Doing.{BatchEnds, along}
use Rattle.vault_jobs.specs.Streams.{Streams, seen_as}
use Rattle.vault_jobs.specs.declared.stop.Stop.{Stop}
use Rattle.vault_jobs.specs.declared.stop.Stop.TheVariants as stop
use Rattle.vault_jobs.specs.declared.task.Outcome.{Outcome}
use Rattle.vault_jobs.specs.declared.task.Outcome.TheVariants as outcome
use Rattle.vault_promise.proofs.PipedMessages.{as_run, command_in, commands_then, run_then, wanted_proper}
use Rattle.vault_promise.proofs.GivenPairs.{given_first, none_given}
use Rattle.vault_promise.proofs.Proper.{IsFine, all_first, asked_proper, fine_by, proper-first, proper-last}
use Rattle.vault_promise.proofs.Proper.{refused}
use Rattle.vault_promise.proofs.TaskAnswers.{Works}
use Rattle.vault_promise.specs.Runs.{perhaps}
use Rattle.vault_promise.specs.Shapes.Shape.{Rows}
use Rattle.vault_promise.specs.Told.{AllDone, CameIn, IsQuiet}

-- what a row wants is a proper command, or none
row_proper : (who : Asker) (row : Row) (pair : Pair) (now : Option ℕ) (digits : Option (List ℕ))
    (w : Wanted Command) → IsName who.caller → IsName who.merchant → IsPairOf now digits pair
    → Wants who row pair w → IsFine w
row_proper who row pair now digits w named at of
    (inl (request, inl (number, inl (passes, inl (usage, word, is))))) =
    fine_by w (Tokenize who.caller who.merchant (digits_value 10 row.request) usage (digits_of row.number)
    pair.1 pair.0) is (named, at, request.4, (number.1, passes), of.is_drawing, of.is_moment)
row_proper who row pair now digits w named at of
    (inl (request, inl (number, inl (passes, inr (never, is))))) =
    refused w _ is
row_proper who row pair now digits w named at of (inl (request, inl (number, inr (never, is)))) =
    refused w _ is
row_proper who row pair now digits w named at of (inl (request, inr (never, is))) = refused w _ is
row_proper who row pair now digits w named at of (inr (never, is)) = refused w _ is

-- the records of rows, with none more
has_rows : (s : Streams) (xs : List Asked) → CameIn s (records_with (rows_of xs))
    → (xs ≡ []) ⊎ ((more : List Fields) × CameIn s (records_with (rows_of xs) ++ more))
has_rows s xs it = inr ([], subst (CameIn s) (sym (append-nil (records_with (rows_of xs)))) it)

-- and with those of one more
has_one : (s : Streams) (xs : List Asked) (x : Asked)
    → BeginRecordsOf s.left_old (records_with (rows_of xs) ++ fields_in x.unit ∷ [])
    → (xs ++ x ∷ [] ≡ []) ⊎ ((more : List Fields) × CameIn s (records_with (rows_of (xs ++ x ∷ [])) ++ more))
has_one s xs x it =
    has_rows s (xs ++ x ∷ [])
    (inr (subst (λ rs. BeginRecordsOf s.left_old rs) (sym (records-more xs x)) it))
  where
    records-more : (ys : List Asked) (y : Asked)
        → records_with (rows_of (ys ++ y ∷ [])) ≡ records_with (rows_of ys) ++ fields_in y.unit ∷ []
    records-more ys y = ap (λ rs. fields_in header ∷ rs) (rows-more ys)
      where
        rows-more : (zs : List Asked)
            → map fields_in (rows_of (zs ++ y ∷ [])) ≡ map fields_in (rows_of zs) ++ fields_in y.unit ∷ []
        rows-more [] = refl
        rows-more (z ∷ zs) = ap (λ rs. fields_in z.unit ∷ rs) (rows-more zs)

-- the last of all
in_last : (P : Asked → Type 0) (xs : List Asked) (x : Asked) → All P (xs ++ x ∷ []) → P x
in_last P [] x all = All-head P x [] all
in_last P (y ∷ xs) x all = in_last P xs x (All-tail P y (xs ++ x ∷ []) all)

-- a row that isn't answered asks for its command
next_row : (who : Asker) (s : Streams) (xs : List Asked) (x : Asked) → Asks who x
    → BeginRecordsOf s.left_old (records_with (rows_of xs) ++ fields_in x.unit ∷ [])
    → (w : Wanted Command) → x.wanted ≡ w
    → IfSome (command_in w) (λ c. (rows : List Asked) × (it : Asked) × (commands_of xs ≡ commands_of rows)
    × Asks who it × (it.wanted ≡ Ok c)
    × BeginRecordsOf s.left_old (records_with (rows_of rows) ++ fields_in it.unit ∷ []))
next_row who s xs x asks came (Ok c) is = (xs, x, refl, asks, is, came)
next_row who s xs x asks came (Err n) is = tt

module _ (around : Outside) (who : Asker) (now : Option ℕ) (digits : Option (List ℕ))
    (named : IsName who.caller) (at : IsName who.merchant) (w : Passage) (V : Content) (b : IsBefore w V)
    (s : Streams) (F : Type 0) where
  abbrev tells : Turns
  tells = around.tells

  -- of the lines of these rows so many bytes went out
  abbrev Went : List Asked → Type 0
  Went xs = (sent : ℕ) × Appends s.sent_old s.sent_new (take sent (first_line ++ lines V xs))

  abbrev Goal : Type 0
  Goal = Works around w V (Rows who now digits) F s

  -- what is told where these rows are all that came in
  abbrev Ends : List Asked → Type 0
  Ends xs = F → AllDone around (Rows who now digits) V (commands_of xs) s

  all_went : (xs : List Asked) → Appends s.sent_old s.sent_new (first_line ++ lines V xs) → Went xs
  all_went xs went = (
    length (first_line ++ lines V xs),
    subst (λ t. Appends s.sent_old s.sent_new t) (sym (take-length (first_line ++ lines V xs))) went,
  )

  -- of the last one's line only so much
  part_went : (xs : List Asked) (x : Asked) (n : ℕ)
      → Appends s.sent_old s.sent_new (first_line ++ lines V xs ++ take n (line_at (vault_after V xs) x))
      → Went (xs ++ x ∷ [])
  part_went xs x n went =
      let line = line_at (vault_after V xs) x in
      let so_far = first_line ++ lines V xs in
      let all : first_line ++ lines V (xs ++ x ∷ []) ≡ so_far ++ line =
      ap (λ t. first_line ++ t) (texts-more (rows_by who) V xs x)
      ∙ sym (append_assoc first_line (lines V xs) line) in
      let cut : take (length so_far + n) (first_line ++ lines V (xs ++ x ∷ []))
      ≡ first_line ++ lines V xs ++ take n line =
      ap (λ t. take (length so_far + n) t) all ∙ take-append-add so_far line n
      ∙ append_assoc first_line (lines V xs) (take n line) in
      (length so_far + n, subst (λ t. Appends s.sent_old s.sent_new t) (sym cut) went)

  module _ (pairs : List Pair) (given : AreGiven tells now digits pairs) where
    -- the pairs that rows took are these
    fits : (ds : List Pair) → Takes (along w s pairs) ds → AreGiven tells now digits ds
    fits ds taken = subst (λ (es : List Pair). AreGiven tells now digits es) taken given

    rows_proper : (xs : List Asked) → All (IsPairOf now digits) (pairs_of xs) → All (Asks who) xs
        → AllProper (commands_of xs)
    rows_proper =
        asked_proper (rows_by who) now digits
        (λ row pair w of. row_proper who row pair now digits w named at of)

    -- rows that are answered
    answered : (xs : List Asked)
        → (xs ≡ []) ⊎ ((more : List Fields) × CameIn s (records_with (rows_of xs) ++ more))
        → AreGiven tells now digits (pairs_of xs) → All (Asks who) xs → Went xs
        → w.left_new (vault_after V xs) (vault_after V xs) → Ends xs → Goal
    answered xs records of asked went left ends = record {
      answered = commands_of xs;
      undecided = None;
      proper = rows_proper xs of.each asked;
      last_proper = tt;
      tells = (xs, asked, refl, record { records = records; given = of }, went);
      next = tt;
      done = ends;
      left = subst (λ W. w.left_new W W) (as_run V xs) left;
    }

    -- no row at all
    none : ¬ F → Went [] → w.left_new V V → Goal
    none never went left =
        answered [] (inl refl) (none_given tells now digits) (All-nil (Asks who)) went
        (subst (λ W. w.left_new W W) (sym (vault_after-nil Row V)) left) (λ f. absurd (never f))

    quiet_went : Appends s.sent_old s.sent_new [] → Went []
    quiet_went went = (0, went)

    first_went : (n : ℕ) → n < length first_line → Appends s.sent_old s.sent_new (take n first_line) → Went []
    first_went n part went =
        let all : first_line ++ lines V [] ≡ first_line = append-nil first_line in
        (n, subst (λ t. Appends s.sent_old s.sent_new (take n t)) (sym all) went)

    -- some rows are answered, and one more is undecided
    torn : ¬ F → (xs : List Asked) (x : Asked)
        → BeginRecordsOf s.left_old (records_with (rows_of xs) ++ fields_in x.unit ∷ [])
        → AreGiven tells now digits (pairs_of (xs ++ x ∷ []))
        → All (Asks who) (xs ++ x ∷ []) → Appends s.sent_old s.sent_new (first_line ++ lines V xs)
        → w.left_new (vault_after V xs) (vault_after V (xs ++ x ∷ [])) → Goal
    torn never xs x records of asked went left =
        let proper : AllProper (commands_of xs ++ commands_in x.wanted) =
        subst AllProper (commands_then xs x) (rows_proper (xs ++ x ∷ []) of.each asked) in
        record {
          answered = commands_of xs;
          undecided = command_in x.wanted;
          next = next_row who s xs x (in_last (Asks who) xs x asked) records x.wanted refl;
          proper = proper-first (commands_of xs) (commands_in x.wanted) proper;
          last_proper = wanted_proper x.wanted (proper-last (commands_of xs) (commands_in x.wanted) proper);
          tells = (
            xs,
            all_first (Asks who) xs (x ∷ []) asked,
            refl,
            record {
              records = inr (fields_in x.unit ∷ [], inr records);
              given =
                  given_first tells now digits (pairs_of xs) (x.pair ∷ [])
                  (subst (AreGiven tells now digits)
                  (map-append (λ (y : Asked). y.pair) xs (x ∷ [])) of);
            },
            all_went xs went,
          );
          done = λ f. absurd (never f);
          left = subst (λ W. w.left_new W (perhaps (run (commands_of xs) V) (command_in x.wanted)))
              (as_run V xs) (subst (λ W. w.left_new (vault_after V xs) W) (run_then V xs x) left);
        }

    whole : (counts : Counts) → (q : IsBatched s.left_old (along w s pairs) who counts) → Ends q.rows → Goal
    whole counts q ends =
        let it = q.answered.answered V b in
        answered q.rows (has_rows s q.rows (inl q.records)) (fits (pairs_of q.rows) q.answered.taken)
        q.answered.asked (all_went q.rows it.0) it.1.1 ends

    -- all are answered with tokens, and nothing is left to read
    all_ended : (counts : Counts) → counts.refused ≡ 0 → IsAtEnd s.left_new
        → (q : IsBatched s.left_old (along w s pairs) who counts) → Ends q.rows
    all_ended counts none end q f =
        let all = q.counted.rows in
        let both = q.counted.both in
        let of = q.counted.tokens V b in (
          q.rows,
          q.answered.asked,
          refl,
          record {
            records = q.records;
            ended = end;
            given = fits (pairs_of q.rows) q.answered.taken;
            each = omega (arith, all, both, of, none);
            went = (q.answered.answered V b).0;
          },
        )

    stopped : ¬ F → (e : BatchFault) → Stops s.left_old (along w s pairs) who e → Goal
    stopped never fault.BadHeader q = none never (quiet_went q.0.0) (q.0.1.1 V b).1
    stopped never fault.Read (inl q) = none never (quiet_went q.0) (q.1.1 V b).1
    stopped never fault.Read (inr q) =
        let it = q.answered.answered V b in
        answered q.rows (has_rows s q.rows (inr q.records)) (fits (pairs_of q.rows) q.answered.taken)
        q.answered.asked (all_went q.rows it.0) it.1.1 (λ f. absurd (never f))
    stopped never fault.Write (inl q) = none never (first_went q.sent q.part q.went) (q.unchanged.1 V b).1
    stopped never fault.Write (inr (rows, next, records, q)) =
        let it = q.answered V b in
        answered (rows ++ next ∷ []) (has_one s rows next records)
        (fits (pairs_of (rows ++ next ∷ [])) q.taken) q.asked (part_went rows next q.sent it.1) it.2.1
        (λ f. absurd (never f))
    stopped never fault.Store (rows, next, records, q) =
        let it = q.answered V b in
        torn never rows next records (fits (pairs_of (rows ++ next ∷ [])) q.taken) q.asked it.0 it.1
    stopped never fault.BadRecord q =
        let it = q.answered.answered V b in
        answered q.rows (inr (q.bad ∷ [], inr q.records)) (fits (pairs_of q.rows) q.answered.taken)
        q.answered.asked (all_went q.rows it.0) it.1.1 (λ f. absurd (never f))
    stopped never fault.Memory (inl q) = none never (quiet_went q.0) (q.1.1 V b).1
    stopped never fault.Memory (inr (inl (rows, records, q))) =
        let it = q.answered V b in
        answered rows (has_rows s rows (inr records))
        (given_first tells now digits (pairs_of rows) q.unused (fits _ q.taken)) q.asked
        (all_went rows it.0) it.1.1 (λ f. absurd (never f))
    stopped never fault.Memory (inr (inr (rows, next, records, q))) =
        let it = q.answered V b in
        answered (rows ++ next ∷ []) (has_one s rows next records)
        (fits (pairs_of (rows ++ next ∷ [])) q.taken) q.asked (part_went rows next 0
        (subst (λ t. Appends s.sent_old s.sent_new (first_line ++ t)) (sym (append-nil (lines V rows))) it.0))
        it.1.1 (λ f. absurd (never f))
    stopped never fault.Source q =
        let it = q.answered.answered V b in
        answered q.rows (inr (fields_in q.next ∷ [], inr q.records)) (fits (pairs_of q.rows) q.answered.taken)
        q.answered.asked (all_went q.rows it.0) it.1.1 (λ f. absurd (never f))

  pub batch_works : (r : Result Outcome Stop) → (F → r ≡ Ok outcome.Done) → (unread unsent : Type 0)
      → (unsent → IsQuiet s) → BatchEnds (AreGiven tells now digits) who w r (seen_as unread unsent s) → Goal
  batch_works (Ok outcome.Done) fin unread unsent quiet (calm, counts, none, end, (pairs, few, given, q)) =
      whole pairs given counts q (all_ended pairs given counts none end q)
  batch_works (Ok (outcome.Refused n)) fin unread unsent quiet h = absurd h
  batch_works (Ok outcome.SomeRefused) fin unread unsent quiet
      (calm, counts, some, end, (pairs, few, given, q)) =
      whole pairs given counts q (λ f. absurd (cc (fin f)))
  batch_works (Err (stop.Vault f)) fin unread unsent quiet h = absurd h
  batch_works (Err (stop.Service f)) fin unread unsent quiet h = absurd h
  batch_works (Err (stop.Listener f)) fin unread unsent quiet h = absurd h
  batch_works (Err (stop.Unread about f)) fin unread unsent quiet h = absurd h
  batch_works (Err (stop.Batch f)) fin unread unsent quiet (inl (is, calm, silent, same)) =
      let nil : AreGiven tells now digits [] = none_given tells now digits in
      none [] nil (λ d. cc (fin d)) (quiet_went [] nil (quiet silent)) (same V b).1
  batch_works (Err (stop.Batch f)) fin unread unsent quiet (inr (pairs, few, given, inl q)) =
      stopped pairs given (λ d. cc (fin d)) f q
  batch_works (Err (stop.Batch f)) fin unread unsent quiet
      (inr (pairs, few, given, inr (is, (counts, q)))) =
      whole pairs given counts q (λ d. absurd (cc (fin d)))
