-- What a message asks for: a command, or the first refusal that applies.
use Rattle.std.specs.Prelude.{◌≡◌, ◌≢◌, ℕ, ◌⊎◌, List, codes, true, Some, Result, Ok, Err}
use Rattle.std.specs.Str.Parse.{digits_value}
use Rattle.vault_pan.specs.CardText.{IsCardText, IsNumber, IsToken, digits_of}
use Rattle.vault_pan.specs.Luhn.{passes_check}
use Rattle.vault_core.specs.Name.{IsName}
use Rattle.vault_core.specs.Scalar.{IsRequestText}
use Rattle.vault_core.specs.Words.{use_word}
use Rattle.vault_core.specs.declared.command.Command.{Command}
use Rattle.vault_core.specs.declared.command.Command.TheVariants.{Tokenize, Detokenize, View, Revoke}
use Rattle.vault_core.specs.declared.command.Command.TheVariants.{Purge, Audit}
use Rattle.vault_core.specs.declared.usage.Use.{Use}
use Rattle.vault_wire.specs.Fields.{sole_value}
use Rattle.vault_wire.specs.Parts.{Parts}
use Rattle.vault_routes.specs.Body.{asked_in}
use Rattle.vault_refusal.specs.declared.refusal.Refusal.{Refusal}
use Rattle.vault_refusal.specs.declared.refusal.Refusal.TheVariants.{BadFields, BadName, BadBody, BadNumber}
use Rattle.vault_refusal.specs.declared.refusal.Refusal.TheVariants.{BadCheck, BadUse, BadRequestNumber}
use Rattle.vault_refusal.specs.declared.refusal.Refusal.TheVariants.{BadToken, NoRoute, BadMethod}
use Rattle.vault_refusal.specs.declared.refusal.Refusal.TheVariants.{ServiceMemory}
use Rattle.vault_routes.specs.Route.{Target, route_of}
use Rattle.vault_routes.specs.Table.{action_at}
use Rattle.vault_routes.specs.declared.table.Action.{Action}
use Rattle.vault_routes.specs.declared.table.Action.TheVariants as action
use Rattle.vault_routes.specs.declared.table.Place.{Place}
use Rattle.vault_routes.specs.declared.table.TokenAction.{TokenAction}
use Rattle.vault_routes.specs.declared.table.TokenAction.TheVariants as on
use Rattle.vault_routes.specs.declared.wanted.Asker.{Asker}
use Rattle.vault_routes.specs.declared.wanted.Order.{Order}

-- bytes, as names, texts and drawn digits
abbrev Bytes : Type 0
Bytes = List ℕ

-- what is read of a message, or a refusal
abbrev pub Wanted : Type 0 → Type 0
Wanted X = Result X Refusal

-- P holds and the rest goes on, or it doesn't and this is the refusal
abbrev pub Must : {X : Type 0} → Type 0 → Refusal → (Wanted X → Type 0) → Wanted X → Type 0
Must P refused goes r = (P × goes r) ⊎ ((¬ P) × (r ≡ Err refused))

-- the rest goes on with a y of which P holds, or there is none and this is the refusal
abbrev pub With : {X Y : Type 0} → (Y → Type 0) → Refusal → (Y → Wanted X → Type 0) → Wanted X → Type 0
With {X} {Y} P refused goes r =
    ((y : Y) × P y × goes y r) ⊎ (((y : Y) → ¬ P y) × (r ≡ Err refused))

-- one field has the caller's name, else 58; it and the merchant's text are names, else 4
abbrev pub WantsAsker : {X : Type 0} → Parts → Bytes → ℕ → (Asker → Wanted X → Type 0) → Wanted X → Type 0
WantsAsker p m now goes =
    With (λ (caller : Bytes). sole_value (codes "x-vault-caller") p.pairs ≡ Some caller) BadFields (λ caller.
    Must (IsName caller) BadName (
    Must (IsName m) BadName (
    goes (record { caller = caller; merchant = m; now = now }))))

-- the body has the two texts, else 59; the number's text reads as digits of a card number, else 1, that
-- pass the check, else 2; the use's text is the word of a use, else 19
abbrev pub WantsBody : {X : Type 0} → Bytes → ℕ → (Order → Wanted X → Type 0) → Wanted X → Type 0
WantsBody body request goes =
    With (λ (texts : Bytes × Bytes). asked_in body ≡ Some texts) BadBody (λ texts.
    Must (IsCardText texts.0 × IsNumber (digits_of texts.0)) BadNumber (
    Must (passes_check (digits_of texts.0) ≡ true) BadCheck (
    With (λ (usage : Use). texts.1 ≡ use_word usage) BadUse (λ usage.
    goes (record { request = request; usage = usage; pan = digits_of texts.0 })))))

-- one field has the request's number, else 58, and it reads as one, else 5; then the body counts
abbrev pub WantsOrder : {X : Type 0} → Parts → (Order → Wanted X → Type 0) → Wanted X → Type 0
WantsOrder p goes =
    With (λ (text : Bytes). sole_value (codes "x-vault-request") p.pairs ≡ Some text) BadFields (λ text.
    Must (IsRequestText text) BadRequestNumber (
    WantsBody p.body (digits_value 10 text) goes))

-- the command that asks for this of a token
abbrev pub command_on : TokenAction → Asker → Bytes → Command
command_on on.View a token = View a.caller a.merchant token a.now
command_on on.Detokenize a token = Detokenize a.caller a.merchant token a.now
command_on on.Revoke a token = Revoke a.caller a.merchant token a.now
command_on on.Purge a token = Purge a.caller a.merchant token a.now

-- the command that asks for a token
abbrev pub command_for : Asker → Order → Bytes → Command
command_for a o drawn = Tokenize a.caller a.merchant o.request o.usage o.pan drawn a.now

-- the token's text is a token, else 3; or the rest of what a Tokenize wants
abbrev pub WantsAction : Action → Target → Parts → Bytes → Asker → Wanted Command → Type 0
WantsAction action.Tokenize target p drawn a = WantsOrder p (λ o r. r ≡ Ok (command_for a o drawn))
WantsAction (action.OnToken what) target p drawn a =
    Must (IsToken target.token) BadToken (λ r. r ≡ Ok (command_on what a target.token))
WantsAction action.Audit target p drawn a = λ r. r ≡ Ok (Audit a.caller a.merchant a.now)

-- the target names something, else 56, and takes the method, else 57
abbrev pub Wants : Parts → ℕ → Bytes → Wanted Command → Type 0
Wants p now drawn =
    With (λ (target : Target). route_of p.target ≡ Some target) NoRoute (λ target.
    With (λ (asked : Action). action_at target.place p.method ≡ Some asked) BadMethod (λ asked.
    WantsAsker p target.merchant now (λ a.
    WantsAction asked target p drawn a)))

-- what is answered is wanted; want of memory says nothing
abbrev pub IsWanted : {X : Type 0} → (Wanted X → Type 0) → Wanted X → Type 0
IsWanted wants (Ok x) = wants (Ok x)
IsWanted wants (Err e) = e ≢ ServiceMemory → wants (Err e)

-- By its target, its method and its one caller field a message asks for the number of a token for a caller:
-- the target names the token, and at its place the method asks for the number.
pub record AsksForNumber (p : Parts) (caller merchant token : Bytes) : Type 0 where
  pub place : Place
  pub target : route_of p.target ≡ Some (record { place = place; merchant = merchant; token = token })
  pub asks : action_at place p.method ≡ Some (action.OnToken on.Detokenize)
  pub caller_field : sole_value (codes "x-vault-caller") p.pairs ≡ Some caller
