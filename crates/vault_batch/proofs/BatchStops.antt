-- Where a batch stops, and what its records are there.
use Rattle.std.proofs.Common.{◌≡◌, List, [], ◌∷◌, ◌++◌, sym, ap, ◌∙◌, subst, append-nil}
use Rattle.std.proofs.Common.{inl, inr, Option}
use Rattle.std.specs.Prelude.{◌⊎◌, Bool, false, Err}
use Rattle.std.proofs.lemmas.List.{map-append}
use Rattle.csv.specs.declared.reader.Reader.{Reader}
use Rattle.vault_core.specs.Keys.{Bytes}
use Rattle.vault_engine.specs.Answered.{CutAt, SilentAt, UndecidedAt, AnsweredBefore}
use Rattle.vault_engine.specs.Passing.{Passage}
use Rattle.vault_engine.specs.Stops.{Failures, StopsAt, failures}
use Rattle.vault_engine.specs.declared.stop.Stop.{Stop}
use Rattle.vault_engine.specs.declared.stop.Stop.TheVariants as stop
use Rattle.vault_engine.proofs.JoinedUnits.{Joins, answered_then, before_then, cut_then, joined, silent_then}
use Rattle.vault_engine.proofs.JoinedUnits.{undecided_then}
use Rattle.vault_engine.proofs.Within.{before_of}
use Rattle.vault_batch.specs.Asking.{Asked, rows_by}
use Rattle.vault_batch.specs.Batched.{Answered, Unchanged, rows_of}
use Rattle.vault_batch.specs.Header.{Begins, SendsFirst}
use Rattle.vault_batch.specs.Faults.{fault_of}
use Rattle.vault_batch.specs.Lines.{first_line}
use Rattle.vault_batch.specs.Rows.{BeginRecordsOf, Row, fields_in, header, records_with}
use Rattle.vault_batch.specs.Stops.{IsBatched, Stops}
use Rattle.vault_batch.specs.declared.row_counts.Counts.{Counts}
use Rattle.vault_batch.specs.declared.fault.BatchFault.{BatchFault}
use Rattle.vault_batch.specs.declared.fault.BatchFault.TheVariants as fault
use Rattle.vault_batch.specs.declared.asker.Asker.{Asker}
use Rattle.vault_batch.proofs.ReaderProgress.{begins_all}

-- the records of one row more
pub records_more : (xs : List Asked) (x : Asked)
    → records_with (rows_of (xs ++ x ∷ [])) ≡ records_with (rows_of xs) ++ fields_in x.unit ∷ []
records_more xs x =
    ap (λ rs. records_with rs) (map-append (λ (y : Asked). y.unit) xs (x ∷ []))
    ∙ ap (λ rs. fields_in header ∷ rs) (map-append fields_in (rows_of xs) (x.unit ∷ []))

-- a row at which a batch stops, after others that were answered
module _ (left : Option Bytes) (who : Asker) (early late : Passage) (xs : List Asked)
    (a : Answered who first_line early xs) (row : Row) (j : Joins early late)
    (begin : BeginRecordsOf left (records_with (rows_of xs)))
    (next : BeginRecordsOf left (records_with (rows_of xs) ++ fields_in row ∷ [])) where
  next_at : (x : Asked) → x.unit ≡ row
      → BeginRecordsOf left (records_with (rows_of xs) ++ fields_in x.unit ∷ [])
  next_at x same =
      subst (λ r. BeginRecordsOf left (records_with (rows_of xs) ++ fields_in r ∷ [])) (sym same) next

  none_more : (P : List Asked → Type 0) → P (xs ++ []) → P xs
  none_more P h = subst P (append-nil xs) h

  stops_by : (e : Stop) → StopsAt (rows_by who) late row e → Stops left (joined early late) who (fault_of e)
  stops_by stop.Read q = absurd q
  stops_by stop.Write (x, same, q) =
      inr (
        xs,
        x,
        next_at x same,
        none_more (λ ys. CutAt (rows_by who) first_line (joined early late) ys x)
            (cut_then (rows_by who) first_line early late xs a j [] x q),
      )
  stops_by stop.Store (x, same, q) = (
    xs,
    x,
    next_at x same,
    none_more (λ ys. UndecidedAt (rows_by who) first_line (joined early late) ys x)
        (undecided_then (rows_by who) first_line early late xs a j [] x q),
  )
  stops_by stop.Memory (inl q) =
      inr (inl (
        xs,
        begin,
        none_more (AnsweredBefore (rows_by who) first_line (joined early late))
            (before_then (rows_by who) first_line early late xs a j [] q),
      ))
  stops_by stop.Memory (inr (x, same, q)) =
      inr (inr (
        xs,
        x,
        next_at x same,
        none_more (λ ys. SilentAt (rows_by who) first_line (joined early late) ys x)
            (silent_then (rows_by who) first_line early late xs a j [] x q),
      ))
  stops_by stop.Source q = record {
    rows = xs;
    next = row;
    records = next;
    answered = none_more (Answered who first_line (joined early late))
        (answered_then (rows_by who) first_line early late xs a j [] q);
  }

  pub stops_at_row : (e : Stop) (fault : BatchFault) → fault ≡ fault_of e → StopsAt (rows_by who) late row e
      → Stops left (joined early late) who fault
  stops_at_row e fault is q = subst (Stops left (joined early late) who) (sym is) (stops_by e q)

-- a batch that stops at its beginning
pub stops_first : (X : Type 0) {R : Type 0} (left : Option Bytes) (rem : R → Option Bytes)
    (reader : Reader R) (who : Asker) (w : Passage) (e : BatchFault) → Unchanged w
    → SendsFirst {X = X} w.sent_old w.sent_new (Err e) → Begins {X = X} left rem reader (Err e)
    → Stops left w who e
stops_first X left rem reader who w fault.BadHeader u s b = ((s, u), b)
stops_first X left rem reader who w fault.Read u s b = inl (s, u)
stops_first X left rem reader who w fault.Write u s b =
    inl (record { sent = s.0; part = s.1; went = s.2; unchanged = u })
stops_first X left rem reader who w fault.Store u s b = absurd s
stops_first X left rem reader who w fault.BadRecord u s b = absurd s
stops_first X left rem reader who w fault.Memory u s b = inl (s, u)
stops_first X left rem reader who w fault.Source u s b = absurd s

-- a batch that stops between rows, since no record was read
pub stops_between : (left : Option Bytes) (who : Asker) (w : Passage) (xs : List Asked) (e : BatchFault)
    → BeginRecordsOf left (records_with (rows_of xs)) → Answered who first_line w xs
    → (e ≡ fault.Read) ⊎ (e ≡ fault.Memory) → Stops left w who e
stops_between left who w xs e begin a (inl same) =
    subst (Stops left w who) (sym same) (inr (record { rows = xs; records = begin; answered = a }))
stops_between left who w xs e begin a (inr same) =
    subst (Stops left w who) (sym same) (inr (inl (xs, begin, before_of (rows_by who) w first_line xs a)))

-- what is told where only a writer is watched, beside the others as they were
pub beside_writer : (s v w w' : Bool) → failures false false w' false ≡ failures false false w false
    → failures s false w' v ≡ failures s false w v
beside_writer s v w w' t = ap (λ (f : Failures). failures s false f.writer v) t

between_rows : (left : Option Bytes) (w : Passage) (who : Asker) → Stops left w who fault.Read
    → Stops left w who fault.Memory
between_rows left w who (inl q) = inl q
between_rows left w who (inr q) =
    inr (inl (q.rows, q.records, before_of (rows_by who) w first_line q.rows q.answered))

-- a stop between rows, whatever stopped it
pub memory_for_read : (left : Option Bytes) (w : Passage) (who : Asker) (e : BatchFault) → e ≡ fault.Read
    → Stops left w who e → Stops left w who fault.Memory
memory_for_read left w who e same q = between_rows left w who (subst (Stops left w who) same q)

-- a stop after all rows
pub stops_after_all : (left : Option Bytes) (w : Passage) (who : Asker) (counts : Counts) (e : BatchFault)
    (P : Type 0) → IsBatched left w who counts → ((e ≡ fault.Read) × P) ⊎ (e ≡ fault.Memory)
    → Stops left w who e
stops_after_all left w who counts e P b (inl same) =
    stops_between left who w b.rows e (begins_all left _ b.records) b.answered (inl same.0)
stops_after_all left w who counts e P b (inr same) =
    stops_between left who w b.rows e (begins_all left _ b.records) b.answered (inr same)
