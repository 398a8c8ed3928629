-- A piece of the bytes of a connection, after others.
use Rattle.std.proofs.Common.{◌≡◌, ℕ, ◌+◌, List, [], ◌++◌, length, map, Option, sym, subst, ap, ◌∙◌, false}
use Rattle.std.proofs.Common.{length-append}
use Rattle.std.proofs.lemmas.List.{length-map}
use Rattle.std.specs.Io.KnownBytes.{Consumes}
use Rattle.vault_wire.specs.Messages.{Request}
use Rattle.vault_wire.specs.Parts.{Parts, parts_of}
use Rattle.vault_wire.specs.ReadingMessages.{IsReading, Kept, TakesIn}
use Rattle.vault_engine.specs.Passing.{Passage}
use Rattle.vault_engine.specs.Within.{AllAnswered}
use Rattle.vault_engine.proofs.JoinedUnits.{Joins, joined}
use Rattle.vault_engine.proofs.Within.{all_then}
use Rattle.vault_http.specs.Exchanges.{has_close, message_kind, shown, up_to_close}
use Rattle.vault_http.proofs.Bytes.{consumes_both}
use Rattle.vault_http.proofs.Closing.{has_close-shown, shown_count, up_to_close-none, up_to_close-shown}

-- the piece was read and fed, and completed messages ns, whose parts are ps, after the messages ms
pub record Fed (left rest : Option (List ℕ)) (k : Kept) (bytes piece : List ℕ) (ms ns : List Request)
    (ps : List Parts) : Type 0 where
  pub read : Consumes left rest (bytes ++ piece)
  pub reading : IsReading k (bytes ++ piece) (ms ++ ns)
  pub whole : up_to_close (shown (ms ++ ns)) ≡ shown ms ++ up_to_close ps
  pub closing : has_close (shown (ms ++ ns)) ≡ has_close ps
  pub many : length (up_to_close (shown (ms ++ ns))) ≡ length ms + length (up_to_close ps)
  pub count : has_close (shown (ms ++ ns)) ≡ false → length (up_to_close ps) ≡ length ns

pub fed_of : (left mid rest : Option (List ℕ)) (j k : Kept) (bytes piece : List ℕ) (ms : List Request)
    (ps qs : List Parts) → Consumes left mid bytes → Consumes mid rest piece → IsReading j bytes ms → ps ≡ qs
    → has_close (shown ms) ≡ false
    → (fed : (ns : List Request) × (qs ≡ map parts_of ns) × TakesIn j k piece ns)
    → Fed left rest k bytes piece ms fed.0 ps
fed_of left mid rest j k bytes piece ms ps qs before now reading is open_till (ns, same, takes) =
    let all = up_to_close-shown ms ns ps (is ∙ same) open_till in
    record {
      read = consumes_both left mid rest bytes piece before now;
      reading = takes bytes ms reading;
      whole = all;
      closing = has_close-shown ms ns ps (is ∙ same) open_till;
      many =
          ap length all ∙ length-append (shown ms) (up_to_close ps)
          ∙ ap (λ n. n + length (up_to_close ps)) (length-map ms parts_of);
      count = shown_count ms ns ps (is ∙ same) open_till;
    }

-- the same, and none of the messages ends the connection, and all are answered
pub record FedOpen (left rest : Option (List ℕ)) (k : Kept) (bytes piece : List ℕ) (ms ns : List Request)
    (ps : List Parts) (w : Passage) : Type 0 where
  pub read : Consumes left rest (bytes ++ piece)
  pub reading : IsReading k (bytes ++ piece) (ms ++ ns)
  pub open_till : has_close (shown (ms ++ ns)) ≡ false
  pub answered : AllAnswered message_kind [] w (shown (ms ++ ns))
  pub count : length (up_to_close ps) ≡ length ns

pub fed_open : {left rest : Option (List ℕ)} {k : Kept} {bytes piece : List ℕ} {ms ns : List Request}
    {ps : List Parts} {early late : Passage} → Fed left rest k bytes piece ms ns ps
    → AllAnswered message_kind [] early (shown ms) → has_close ps ≡ false
    → AllAnswered message_kind [] late (up_to_close ps) → Joins early late
    → FedOpen left rest k bytes piece ms ns ps (joined early late)
fed_open {ms = ms} {ns = ns} {ps = ps} {early = early} {late = late} fed before none after joins =
    let still : has_close (shown (ms ++ ns)) ≡ false = fed.closing ∙ none in
    record {
      read = fed.read;
      reading = fed.reading;
      open_till = still;
      answered =
          subst (AllAnswered message_kind [] (joined early late))
          (sym fed.whole ∙ up_to_close-none (shown (ms ++ ns)) still)
          (all_then message_kind [] early late (shown ms) (up_to_close ps) before after joins);
      count = fed.count still;
    }
