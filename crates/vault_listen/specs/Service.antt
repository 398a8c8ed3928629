-- What connections leave of a vault.
use Rattle.std.specs.Prelude.{◌≡◌, ◌≢◌, ℕ, ◌<◌, ◌≤◌, List, [], ◌∷◌, ◌++◌, length, All, Option, Some, None}
use Rattle.std.specs.Prelude.{MatchResult, Result, Ok, Err, false}
use Rattle.vault_core.specs.Vault.{Vault as Content}
use Rattle.vault_engine.specs.Asking.{Pair}
use Rattle.vault_engine.specs.Passing.{Passage, IsBefore, Keeps, giving}
use Rattle.vault_http.specs.Served.{IsServed, IsStopped}
use Rattle.vault_engine.specs.declared.stop.Stop.{Stop as ServeFault}
use Rattle.vault_engine.specs.declared.stop.Stop.TheVariants as fault
use Rattle.vault_http.specs.declared.served.Served.{Served}
use Rattle.vault_listen.specs.Live.{AreGiven, Turns}
use Rattle.vault_listen.specs.Peers.{Known, Link}
use Rattle.vault_listen.specs.declared.fault.ListenFault.{ListenFault}
use Rattle.vault_listen.specs.declared.fault.ListenFault.TheVariants.{Source, Store, Memory, Accept}

-- with at most 1000 pairs that a source gave in the passage, each a moment told for it alone and a drawing,
-- this holds
abbrev pub WithPairs : Turns → Passage → (Passage → Type 0) → Type 0
WithPairs tells w Holds = (pairs : List Pair) × (length pairs ≤ 1000)
    × AreGiven tells None None pairs × Holds (giving (λ ps. ps) [] pairs w)

-- the messages that were read are served, or the service stopped
abbrev pub EndsServed : Result Served ServeFault → Known → Known → Passage → Type 0
EndsServed result left_old left_new w =
    MatchResult result (IsServed left_old left_new w) (IsStopped left_old left_new w)

-- the passage of a connection in which a source gave these pairs, from the vault V to the vault W; a stop
-- within its last message leaves W or U. Whether the vault is broken isn't seen.
abbrev pub link_from : Content → Content → Content → List Pair → Link → Passage
link_from V W U pairs x = record {
  given_old = [];
  given_new = pairs;
  sent_old = x.had;
  sent_new = x.sent;
  honest = Unit {0};
  held_old = λ A. A ≡ V;
  held_new = λ A. A ≡ W;
  left_new = λ A B. (A ≡ W) × (B ≡ U);
  broken = false;
}

-- One connection was served from the vault V, or the service of it stopped: what was read are its own bytes,
-- what went out are its own answers, and its pairs are a moment, told for it alone, and a drawing each, at
-- most 1000. It leaves the vault W, and where the store failed in it W or U.
pub record Leads (tells : Turns) (V W U : Content) (x : Link) : Type 0 where
  pub pairs : List Pair
  pub few : length pairs ≤ 1000
  pub own : AreGiven tells None None pairs
  pub answered : MatchResult x.ended (IsServed x.came x.left (link_from V W U pairs x))
      (IsStopped x.came x.left (link_from V W U pairs x))

-- connections were served one after the other, each from the vault that those before it leave, the first from
-- V; some were lost before; the last leaves W
abbrev pub AllLead : Turns → Content → List (Option Link) → Content → Type 0
AllLead tells V [] W = W ≡ V
AllLead tells V (None ∷ xs) W = AllLead tells V xs W
AllLead tells V (Some x ∷ xs) W = (M : Content) × Leads tells V M M x × AllLead tells M xs W

-- the vault that connections leave is kept
abbrev pub AllKept : Turns → List (Option Link) → Passage → Type 0
AllKept tells xs w = (V : Content) → IsBefore w V → (W : Content) × AllLead tells V xs W × Keeps w W

-- the store failed in the last connection: a crash leaves the vault before the message at which it failed, or
-- the one after it
abbrev pub OneUndecided : Turns → List (Option Link) → Link → Passage → Type 0
OneUndecided tells first x w = (V : Content) → IsBefore w V → (M W U : Content)
    × AllLead tells V first M × Leads tells M W U x × w.left_new W U

-- the store didn't fail in a connection
abbrev pub GoesOn : Option Link → Type 0
GoesOn None = Unit {0}
GoesOn (Some x) = x.ended ≢ Err fault.Store

-- What a service of so many connections leaves, where these came. It is done with the last one; the time is
-- found to have jumped after one that came; the store fails in the last that came, and in none before; and
-- where the listener fails, fewer came.
abbrev pub Leaves : Turns → ℕ → List (Option Link) → Passage → Result Unit ListenFault → Type 0
Leaves tells most xs w (Ok done) = (length xs ≡ most) × All GoesOn xs × AllKept tells xs w
Leaves tells most xs w (Err Source) = (0 < length xs) × (length xs ≤ most) × All GoesOn xs
    × AllKept tells xs w
Leaves tells most xs w (Err Store) = (length xs ≤ most) × ((first : List (Option Link)) × (last : Link)
    × (xs ≡ first ++ Some last ∷ []) × All GoesOn first × (last.ended ≡ Err fault.Store)
    × OneUndecided tells first last w)
Leaves tells most xs w (Err Memory) = ⊥
Leaves tells most xs w (Err Accept) = (length xs < most) × All GoesOn xs × AllKept tells xs w
