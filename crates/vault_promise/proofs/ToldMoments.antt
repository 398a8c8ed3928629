-- What is answered is answered at moments that were told.
use Rattle.std.proofs.Common.{◌≡◌, ◌+◌, ℕ, List, [], ◌∷◌, ◌++◌, Option, None, inl, inr, sym, ap, subst}
use Rattle.std.proofs.Common.{◌∙◌, append-nil, append_assoc, arith, length, suc}
use Rattle.sqlite_wal.specs.Recovery.{Image}
use Rattle.vault_core.specs.Runs.{run}
use Rattle.vault_core.specs.Vault.{Vault as Content}
use Rattle.vault_core.specs.declared.command.Command.{Command}
use Rattle.vault_engine.specs.Answered.{pairs_of}
use Rattle.vault_engine.specs.Asking.{Asked, vault_after}
use Rattle.vault_listen.specs.Live.{AreGiven, AreTold, Turns}
use Rattle.vault_live.specs.Turns.{Turn}
use Rattle.vault_live.specs.Turns.Turn.{Lost, Served, Attended}
use Rattle.vault_jobs.specs.Streams.{Streams}
use Rattle.vault_jobs.specs.Outside.{Outside}
use Rattle.vault_promise.specs.Shapes.{Shape, shape_of}
use Rattle.vault_promise.specs.Shapes.Shape.{Commands, Purges, Rows, Messages, Connections, Words}
use Rattle.vault_promise.proofs.WentOut.{went_out}
use Rattle.vault_promise.specs.Sentences.{EachTold, IsAnything, IsTimely, TaskTold, TurnsTold}
use Rattle.vault_promise.specs.Sentences.{TurnsTell, WentOut}
use Rattle.vault_promise.specs.Runs.{Come, Comes, Run, kept_by, outside_of, undecided_by}

told_at : {X : Type 0} (tells : Turns) (turn : ℕ) (first more : List (Asked X)) (x : Asked X)
    → AreTold tells turn (pairs_of (first ++ x ∷ more)) → tells (turn + length first) x.pair.0
told_at tells turn [] more x told =
    let same : turn ≡ turn + 0 = omega arith in subst (λ n. tells n x.pair.0) same told.0
told_at tells turn (y ∷ first) more x told =
    let same : turn + 1 + length first ≡ turn + suc (length first) = omega arith in
    subst (λ n. tells n x.pair.0) same (told_at tells (turn + 1) first more x told.1)

each_told : {X : Type 0} (tells : Turns) (now : Option ℕ) (digits : Option (List ℕ))
    (xs rest : List (Asked X)) → AreGiven tells now digits (pairs_of (xs ++ rest)) → EachTold tells now xs
each_told tells now digits xs rest given = λ free first more x is.
    let told = told_at tells 0 first (more ++ rest) x
    (subst (λ ys. AreTold tells 0 (pairs_of ys))
    (ap (λ ys. ys ++ rest) is ∙ append_assoc first (x ∷ more) rest) (given.told free)) in
    let same : 0 + length first ≡ length first = omega arith in subst (λ n. tells n x.pair.0) same told

turns_told : (tells : Turns) (W : Content) (ts : List Turn) (it : TurnsTell tells W ts IsAnything)
    → TurnsTold tells W ts it
turns_told tells W [] it = tt
turns_told tells W (Lost ∷ ts) it = turns_told tells W ts it
turns_told tells W (Served x ∷ ts) (it, all) = (
  each_told tells None None it.exchanges it.heard.more it.heard.given,
  turns_told tells (vault_after W it.exchanges) ts all,
)
turns_told tells W (Attended cs news ∷ ts) (said, all) = turns_told tells (run cs W) ts all

task_told : (at : Outside) (shape : Shape) (W : Content) (cs : List Command) (s : Streams)
    (it : WentOut at shape W cs s IsAnything) → TaskTold at shape W cs s it
task_told at (Commands all line) W cs s it = tt
task_told at (Purges who now giver) W cs s it = tt
task_told at (Rows who now digits) W cs s (it, asked) = each_told at.tells now digits it.rows []
    (subst (λ xs. AreGiven at.tells now digits (pairs_of xs)) (sym (append-nil it.rows)) it.read.given)
task_told at (Messages now digits) W cs s it =
    each_told at.tells now digits it.exchanges it.heard.more it.heard.given
task_told at (Connections service) W cs s (inl none) = tt
task_told at (Connections service) W cs s (inr (done, said, it)) = turns_told at.tells _ s.turns it
task_told at (Words text) W cs s it = tt

pub is_timely : (V : Content) (c : Option Command) (r : Run) (it : Comes V c r) (rs : List Run) (end : Image)
    (more : Come (kept_by V c r it) (undecided_by V c r it) rs end) → IsTimely V c r it rs end more
is_timely V c r (inl w) rs end more =
    let shape = shape_of w.task w.opened in
    let went = went_out (outside_of r) shape w.opened w.answered r.streams IsAnything
    (λ first rest x is. tt) w.tells in
    (w.asked, (went, task_told (outside_of r) shape w.opened w.answered r.streams went))
is_timely V c r (inr rests) rs end more = tt
