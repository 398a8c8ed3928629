-- Bytes that a flush keeps.
use Rattle.std.proofs.Common.{ℕ, List, ◌++◌, Option, Some, None, ◌∙◌, Bool, arith, inl, inr, length, sym}
use Rattle.std.proofs.Common.{subst, take}
use Rattle.std.proofs.lemmas.List.{take_all}
use Rattle.vault_live.specs.Told.{Tells}
use Rattle.std.specs.Io.KnownBytes.{Appends, Keeps}
use Rattle.vault_http.specs.Exchanges.{answer_for, last_text}
use Rattle.vault_engine.specs.Asking.{texts}
use Rattle.vault_engine.specs.Passing.{Passage}
use Rattle.vault_http.specs.Served.{IsServed}
use Rattle.vault_http.specs.declared.served.Served.{Served}
use Rattle.vault_batch.specs.Batched.{lines}
use Rattle.vault_batch.specs.Lines.{first_line}
use Rattle.vault_batch.specs.Stops.{IsBatched}
use Rattle.vault_batch.specs.declared.asker.Asker.{Asker}
use Rattle.vault_batch.specs.declared.row_counts.Counts.{Counts}

-- bytes that went out before a flush
pub kept_after : (old mid new : Option (List ℕ)) (bs : List ℕ) → Appends old mid bs → Keeps mid new
    → Appends old new bs
kept_after None mid new bs h k = tt
kept_after (Some xs) None new bs h k = absurd h
kept_after (Some xs) (Some ys) None bs h k = absurd k
kept_after (Some xs) (Some ys) (Some zs) bs h k = k ∙ h

-- and of a line that was told before one, a beginning
pub told_after : (old mid new : Option (List ℕ)) (stopped : Bool) (line : List ℕ) → Tells old mid stopped line
    → Keeps mid new → (n : ℕ) × Appends old new (take n line)
told_after old mid new stopped line (inl whole) k = (
  length line,
  subst (λ bs. Appends old new bs) (sym (take_all (length line) line (omega arith)))
      (kept_after old mid new line whole k),
)
told_after old mid new stopped line (inr (is, (n, below, part))) k =
    (n, kept_after old mid new (take n line) part k)

-- what was served before a flush is served after it
pub flushed : (left_old left_new gone : Option (List ℕ)) (w : Passage) (served : Served)
    → IsServed left_old left_new w served → Keeps w.sent_new gone
    → IsServed left_old left_new (record w { sent_new = gone }) served
flushed left_old left_new gone w served s kept = record {
  bytes = s.bytes;
  messages = s.messages;
  fault = s.fault;
  exchanges = s.exchanges;
  read = s.read;
  reads = s.reads;
  taken = s.taken;
  asked = s.asked;
  whole = s.whole;
  counted = s.counted;
  told = s.told;
  ended = s.ended;
  answered = λ V before. (
    kept_after w.sent_old w.sent_new gone (texts answer_for V s.exchanges ++ last_text served.fault)
        (s.answered V before).0
        kept,
    (s.answered V before).1,
  );
}

-- rows that were answered before a flush are answered after it
pub batch_flushed : (left gone : Option (List ℕ)) (w : Passage) (who : Asker) (counts : Counts)
    → IsBatched left w who counts → Keeps w.sent_new gone
    → IsBatched left (record w { sent_new = gone }) who counts
batch_flushed left gone w who counts b kept = record {
  rows = b.rows;
  records = b.records;
  answered = record {
    taken = b.answered.taken;
    asked = b.answered.asked;
    answered = λ V before. (
      kept_after w.sent_old w.sent_new gone (first_line ++ lines V b.rows)
          (b.answered.answered V before).0 kept,
      (b.answered.answered V before).1,
    );
  };
  counted = record {
    rows = b.counted.rows;
    both = b.counted.both;
    tokens = b.counted.tokens;
  };
}
