-- A message whose answer has a card number asks for the number of a token that is due to its caller.
use Rattle.std.proofs.Common.{◌≡◌, Ok, Err, List, refl, sym, ap, ◌∙◌, subst, [], ◌∷◌, ◌++◌, suc, Contains}
use Rattle.std.proofs.Common.{arith}
use Rattle.std.specs.Prelude.{All, map}
use Rattle.std.proofs.lemmas.List.Elements.{All-head, All-tail}
use Rattle.vault_core.specs.Keys.{Bytes}
use Rattle.vault_core.specs.Table.{reply}
use Rattle.vault_core.specs.Vault.{Vault as Content}
use Rattle.vault_core.specs.declared.command.Command.{Command}
use Rattle.vault_core.specs.declared.reply.Reply.TheVariants.{Number}
use Rattle.vault_wire.specs.Parts.{Parts}
use Rattle.vault_routes.specs.Wanted.{Wanted, Wants}
use Rattle.vault_routes.proofs.WantedCommands.{wants_number}
use Rattle.vault_engine.specs.Answered.{pairs_of, units_of}
use Rattle.vault_engine.specs.Asking.{Asked, Asks, reply_to, vault_after}
use Rattle.vault_http.specs.Exchanges.{message_kind}
use Rattle.vault_promise.specs.DueNumbers.{EachIsDue, IsDue, OnlyDueGoesOut}
use Rattle.vault_promise.proofs.DueNumbers.{only_due}
use Rattle.vault_promise.proofs.Telling.{texts_tell}

-- a wanted command that is answered with a number
given_by : (V : Content) (w : Wanted Command) (number : Bytes) → reply_to V w ≡ Number number
    → (c : Command) × (w ≡ Ok c) × (reply V c ≡ Number number)
given_by V (Ok c) number e = (c, refl, e)
given_by V (Err n) number e = absurd (cc)

pub only_due_out : OnlyDueGoesOut
only_due_out V x number close asks is =
    let given = given_by V x.wanted number ((texts_tell V x number close).0 is).0 in
    let due = only_due V given.0 number given.2 in
    let wants = subst (Wants x.unit x.pair.0 x.pair.1) (given.1 ∙ ap Ok due.asks) asks in
    let asked = wants_number x.unit x.pair.0 x.pair.1 due.caller due.merchant due.token due.now wants in
    record {
      caller = due.caller;
      merchant = due.merchant;
      token = due.token;
      asks = asked.0;
      due = subst (λ at. IsDue V due.caller due.merchant due.token at number) (sym asked.1) due.due;
    }

-- an item in the midst of a list, by what it is mapped to
in_midst : {X Y : Type 0} (f : X → Y) (before later : List X) (x : X)
    → Contains (map f (before ++ x ∷ later)) (f x)
in_midst f [] later x = (0, omega arith, refl)
in_midst f (y ∷ before) later x =
    let rest = in_midst f before later x in (suc rest.0, omega (arith, rest.1), rest.2)

in_all : (P : Asked Parts → Type 0) (before later : List (Asked Parts)) (x : Asked Parts)
    → All P (before ++ x ∷ later) → P x
in_all P [] later x all = All-head P x later all
in_all P (y ∷ before) later x all = in_all P before later x (All-tail P y (before ++ x ∷ later) all)

pub each_due : EachIsDue
each_due V xs before later x number close are asks is = (
  subst (λ ys. Contains (units_of ys) x.unit) (sym are)
      (in_midst (λ (y : Asked Parts). y.unit) before later x),
  subst (λ ys. Contains (pairs_of ys) x.pair) (sym are)
      (in_midst (λ (y : Asked Parts). y.pair) before later x),
  only_due_out (vault_after V before) x number close
      (in_all (Asks message_kind) before later x (subst (All (Asks message_kind)) are asks)) is,
)
