-- The streams that a job reads and writes.
use Rattle.std.specs.Prelude.{◌≡◌, List, [], Bool}
use Rattle.vault_wire.specs.Watching.{inner_of, is_stopped}
use Rattle.vault_wire.specs.declared.watched.Watched.{Watched}
pub use Rattle.vault_listen.specs.Peers.{Known}
use Rattle.vault_listen.specs.Peers.{Event}
use Rattle.vault_live.specs.Turns.{SomeTurns, Turn}

-- The input and the output before a job and after it: the bytes that the one has left and the other has
-- taken, and whether they have failed; and the turns of a service.
pub record Streams : Type 0 where
  pub left_old : Known
  pub left_new : Known
  pub sent_old : Known
  pub sent_new : Known
  pub reader : Bool
  pub writer : Bool
  pub turns : List Turn

-- those of a reader and a writer, without a turn
abbrev pub streams : {R W : Type 0} → (R → Known) → Watched R → Watched R
    → (W → Known) → Watched W → Watched W → Streams
streams remaining r r' contents w w' = record {
  left_old = remaining (inner_of r);
  left_new = remaining (inner_of r');
  sent_old = contents (inner_of w);
  sent_new = contents (inner_of w');
  reader = is_stopped r';
  writer = is_stopped w';
  turns = [];
}

-- the same, with the turns of a service
abbrev pub with_turns : Streams → List Turn → Streams
with_turns s ts = record s { turns = ts }

-- The output before a job and after it: the bytes that it has taken, and whether it has failed. That it is as
-- it was is more than that no byte went out.
pub record Output : Type 1 where
  pub sent_old : Known
  pub sent_new : Known
  pub writer : Bool
  pub unsent : Type 0

-- that of a writer
abbrev pub output_of : {W : Type 0} → (W → Known) → Watched W → Watched W → Output
output_of contents w w' = record {
  sent_old = contents (inner_of w);
  sent_new = contents (inner_of w');
  writer = is_stopped w';
  unsent = w' ≡ w;
}

abbrev pub output_with : Type 0 → Known → Known → Bool → Output
output_with unsent old new writer =
    record { sent_old = old; sent_new = new; writer = writer; unsent = unsent }

-- what is seen of the streams of a job, and when its input and its output are as they were
pub record Seen : Type 1 where
  pub streams : Streams
  pub unread : Type 0
  pub unsent : Type 0

abbrev pub seen_as : Type 0 → Type 0 → Streams → Seen
seen_as unread unsent s = record { streams = s; unread = unread; unsent = unsent }

-- that of a reader and a writer, without a turn
abbrev pub seen_over : {R W : Type 0} → (R → Known) → Watched R → Watched R
    → (W → Known) → Watched W → Watched W → Seen
seen_over remaining r r' contents w w' =
    seen_as (r' ≡ r) (w' ≡ w) (streams remaining r r' contents w w')

-- the same, with the turns of a service
abbrev pub seen_with : Seen → List Turn → Seen
seen_with v ts = record v { streams = with_turns v.streams ts }

-- This is so of what is seen between a network, an input and an output before a job and after it, in turns of
-- which the network tells.
abbrev pub WhereSeen : {N R W : Type 0} → (N → List Event → Type 0) × (R → Known) × (W → Known)
    → N × Watched R × Watched W → N × Watched R × Watched W → (Seen → Type 0) → Type 0
WhereSeen over old new Is =
    SomeTurns over.0 old.0 new.0
    (λ turns. Is (seen_with (seen_over over.1 old.1 new.1 over.2 old.2 new.2) turns))

-- the output alone
abbrev pub output_in : Seen → Output
output_in v = output_with v.unsent v.streams.sent_old v.streams.sent_new v.streams.writer
