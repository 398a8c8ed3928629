-- The command that a message wants: it is one, it is proper, and one that gives a number asks for it.
use Rattle.std.proofs.Common.{◌≡◌, ℕ, List, Option, Some, Ok, Err, true, inl, inr, refl, sym, ap, ◌∙◌, subst}
use Rattle.std.specs.Prelude.{codes}
use Rattle.std.specs.Str.Parse.{digits_value}
use Rattle.vault_core.specs.Name.{IsName}
use Rattle.vault_core.specs.Proper.{IsProper}
use Rattle.vault_core.specs.Scalar.{IsMoment, IsRequestText}
use Rattle.vault_core.specs.Words.{use_word}
use Rattle.vault_core.specs.declared.command.Command.{Command}
use Rattle.vault_core.specs.declared.command.Command.TheVariants.{Audit, Detokenize, Tokenize}
use Rattle.vault_core.specs.declared.usage.Use.{Use}
use Rattle.vault_core.specs.declared.usage.Use.TheVariants.{Single, Multi}
use Rattle.vault_pan.specs.CardText.{IsNumber, IsToken, digits_of}
use Rattle.vault_pan.specs.Draw.{IsDrawing}
use Rattle.vault_pan.specs.Luhn.{passes_check}
use Rattle.vault_wire.specs.Fields.{sole_value}
use Rattle.vault_wire.specs.Parts.{Parts}
use Rattle.vault_refusal.specs.declared.refusal.Refusal.{Refusal}
use Rattle.vault_refusal.specs.declared.refusal.Refusal.TheVariants as refusal
use Rattle.vault_routes.specs.Route.{Target, route_of}
use Rattle.vault_routes.specs.Table.{action_at}
use Rattle.vault_routes.specs.Wanted.{AsksForNumber, Must, Wanted, Wants, WantsAction, WantsAsker, WantsOrder}
use Rattle.vault_routes.specs.Wanted.{With, command_for, command_on}
use Rattle.vault_routes.specs.declared.table.Action.{Action}
use Rattle.vault_routes.specs.declared.table.Action.TheVariants as action
use Rattle.vault_routes.specs.declared.table.TokenAction.{TokenAction}
use Rattle.vault_routes.specs.declared.table.TokenAction.TheVariants as on
use Rattle.vault_routes.specs.declared.wanted.Asker.{Asker}
use Rattle.vault_routes.specs.declared.wanted.Order.{Order}

-- ---- what a message wants is one thing

-- a relation that says one thing at most
abbrev IsOne : {X : Type 0} → (Wanted X → Type 0) → Type 0
IsOne {X} goes = (r s : Wanted X) → goes r → goes s → r ≡ s

must_one : {X : Type 0} (P : Type 0) (n : Refusal) (goes : Wanted X → Type 0) → IsOne goes
    → IsOne (Must P n goes)
must_one P n goes one r s (inl (p, a)) (inl (q, b)) = one r s a b
must_one P n goes one r s (inl (p, a)) (inr (never, b)) = absurd (never p)
must_one P n goes one r s (inr (never, a)) (inl (q, b)) = absurd (never q)
must_one P n goes one r s (inr (never, a)) (inr (also, b)) = a ∙ sym b

with_one : {X Y : Type 0} (P : Y → Type 0) (n : Refusal) (goes : Y → Wanted X → Type 0)
    → ((y z : Y) → P y → P z → y ≡ z) → ((y : Y) → IsOne (goes y)) → IsOne (With P n goes)
with_one P n goes same one r s (inl (y, p, a)) (inl (z, q, b)) =
    one y r s a (subst (λ u. goes u s) (same z y q p) b)
with_one P n goes same one r s (inl (y, p, a)) (inr (never, b)) = absurd (never y p)
with_one P n goes same one r s (inr (never, a)) (inl (z, q, b)) = absurd (never z q)
with_one P n goes same one r s (inr (never, a)) (inr (also, b)) = a ∙ sym b

-- what is given by an equation is one thing
some_one : {Y : Type 0} (o : Option Y) (y z : Y) → o ≡ Some y → o ≡ Some z → y ≡ z
some_one o y z p q = let is : Some y ≡ Some z = sym p ∙ q in cc (is)

given_one : {X : Type 0} (x : Wanted X) → IsOne (λ r. r ≡ x)
given_one x r s a b = a ∙ sym b

-- two uses have two words
use_one : (text : List ℕ) (u v : Use) → text ≡ use_word u → text ≡ use_word v → u ≡ v
use_one text Single Single p q = refl
use_one text Single Multi p q = let is = sym p ∙ q in absurd (cc (is))
use_one text Multi Single p q = let is = sym p ∙ q in absurd (cc (is))
use_one text Multi Multi p q = refl

asker_one : {X : Type 0} (p : Parts) (m : List ℕ) (now : ℕ) (goes : Asker → Wanted X → Type 0)
    → ((a : Asker) → IsOne (goes a)) → IsOne (WantsAsker p m now goes)
asker_one p m now goes one =
    with_one _ refusal.BadFields _ (λ y z. some_one _ y z) (λ caller.
    must_one _ refusal.BadName _
    (must_one _ refusal.BadName _ (one (record { caller = caller; merchant = m; now = now }))))

order_one : {X : Type 0} (p : Parts) (goes : Order → Wanted X → Type 0) → ((o : Order) → IsOne (goes o))
    → IsOne (WantsOrder p goes)
order_one p goes one =
    with_one _ refusal.BadFields _ (λ y z. some_one _ y z) (λ text.
    must_one _ refusal.BadRequestNumber _
    (with_one _ refusal.BadBody _ (λ y z. some_one _ y z) (λ texts.
    must_one _ refusal.BadNumber _ (must_one _ refusal.BadCheck _
    (with_one _ refusal.BadUse _ (λ y z. use_one texts.1 y z) (λ usage. one _))))))

action_one : (what : Action) (target : Target) (p : Parts) (drawn : List ℕ) (a : Asker)
    → IsOne (WantsAction what target p drawn a)
action_one action.Tokenize target p drawn a = order_one p _ (λ o. given_one (Ok (command_for a o drawn)))
action_one (action.OnToken on) target p drawn a = must_one _ refusal.BadToken _ (given_one _)
action_one action.Audit target p drawn a = given_one _

pub wants_one : (p : Parts) (now : ℕ) (drawn : List ℕ) → IsOne (Wants p now drawn)
wants_one p now drawn =
    with_one _ refusal.NoRoute _ (λ y z. some_one _ y z) (λ target.
    with_one _ refusal.BadMethod _ (λ y z. some_one _ y z) (λ what.
    asker_one p _ now _ (λ a. action_one what target p drawn a)))

-- ---- what holds of a message that wants a command

no_refusal : (c : Command) (n : Refusal) → ◌≡◌ {A = Wanted Command} (Ok c) (Err n) → ⊥
no_refusal c n clash = absurd (cc)

-- what was asked, of whom, and the rest
record Asking (p : Parts) (now : ℕ) (drawn : List ℕ) (c : Command) : Type 0 where
  target : Target
  what : Action
  caller : List ℕ
  found : route_of p.target ≡ Some target
  takes : action_at target.place p.method ≡ Some what
  field : sole_value (codes "x-vault-caller") p.pairs ≡ Some caller
  named : IsName caller
  at : IsName target.merchant
  wants : WantsAction what target p drawn
      (record { caller = caller; merchant = target.merchant; now = now }) (Ok c)

asking : (p : Parts) (now : ℕ) (drawn : List ℕ) (c : Command) → Wants p now drawn (Ok c)
    → Asking p now drawn c
asking p now drawn c
    (inl (target, found, inl (what, takes, inl (caller, field, inl (named, inl (at, wants)))))) =
    record {
      target = target;
      what = what;
      caller = caller;
      found = found;
      takes = takes;
      field = field;
      named = named;
      at = at;
      wants = wants;
    }
asking p now drawn c
    (inl (target, found, inl (what, takes, inl (caller, field, inl (named, inr (never, is)))))) =
    absurd (no_refusal c _ is)
asking p now drawn c (inl (target, found, inl (what, takes, inl (caller, field, inr (never, is))))) =
    absurd (no_refusal c _ is)
asking p now drawn c (inl (target, found, inl (what, takes, inr (never, is)))) = absurd (no_refusal c _ is)
asking p now drawn c (inl (target, found, inr (never, is))) = absurd (no_refusal c _ is)
asking p now drawn c (inr (never, is)) = absurd (no_refusal c _ is)

-- what was ordered
record Ordering (a : Asker) (drawn : List ℕ) (c : Command) : Type 0 where
  text : List ℕ
  number : List ℕ
  usage : Use
  request : IsRequestText text
  card : IsNumber (digits_of number)
  passes : passes_check (digits_of number) ≡ true
  is : c ≡ Tokenize a.caller a.merchant (digits_value 10 text) usage (digits_of number) drawn a.now

ordering : (p : Parts) (drawn : List ℕ) (a : Asker) (c : Command)
    → WantsOrder p (λ o r. r ≡ Ok (command_for a o drawn)) (Ok c) → Ordering a drawn c
ordering p drawn a c
    (inl (text, field, inl (request, inl (texts, are, inl (number, inl (passes, inl (usage, word, is))))))) =
    record {
      text = text;
      number = texts.0;
      usage = usage;
      request = request;
      card = number.1;
      passes = passes;
      is = cc (is);
    }
ordering p drawn a c
    (inl (text, field, inl (request, inl (texts, are, inl (number, inl (passes, inr (never, is))))))) =
    absurd (no_refusal c _ is)
ordering p drawn a c (inl (text, field, inl (request, inl (texts, are, inl (number, inr (never, is)))))) =
    absurd (no_refusal c _ is)
ordering p drawn a c (inl (text, field, inl (request, inl (texts, are, inr (never, is))))) =
    absurd (no_refusal c _ is)
ordering p drawn a c (inl (text, field, inl (request, inr (never, is)))) = absurd (no_refusal c _ is)
ordering p drawn a c (inl (text, field, inr (never, is))) = absurd (no_refusal c _ is)
ordering p drawn a c (inr (never, is)) = absurd (no_refusal c _ is)

-- and what was asked of a token
on_token : (what : TokenAction) (target : Target) (a : Asker) (c : Command)
    → Must (IsToken target.token) refusal.BadToken (λ r. r ≡ Ok (command_on what a target.token)) (Ok c)
    → IsToken target.token × (c ≡ command_on what a target.token)
on_token what target a c (inl (token, is)) = (token, cc (is))
on_token what target a c (inr (never, is)) = absurd (no_refusal c _ is)

-- what is asked is proper
action_proper : (what : Action) (target : Target) (p : Parts) (drawn : List ℕ) (a : Asker) (c : Command)
    → WantsAction what target p drawn a (Ok c) → IsName a.caller → IsName a.merchant → IsMoment a.now
    → IsDrawing drawn → IsProper c
action_proper action.Tokenize target p drawn a c wants named at moment drawing =
    let it = ordering p drawn a c wants in
    subst IsProper (sym it.is) (named, at, it.request.4, (it.card, it.passes), drawing, moment)
action_proper (action.OnToken what) target p drawn a c wants named at moment drawing =
    let it = on_token what target a c wants in
    subst IsProper (sym it.1) (elim what as (λ k. IsProper (command_on k a target.token)) [
      | on.View ↦ (named, at, it.0, moment)
      | on.Detokenize ↦ (named, at, it.0, moment)
      | on.Revoke ↦ (named, at, it.0, moment)
      | on.Purge ↦ (named, at, it.0, moment)
    ])
action_proper action.Audit target p drawn a c wants named at moment drawing =
    let is : c ≡ Audit a.caller a.merchant a.now = cc (wants) in
    subst IsProper (sym is) (named, at, moment)

-- a command that a message wants is proper
pub wants_proper : (p : Parts) (now : ℕ) (drawn : List ℕ) (c : Command) → IsMoment now → IsDrawing drawn
    → Wants p now drawn (Ok c) → IsProper c
wants_proper p now drawn c moment drawing wants =
    let it = asking p now drawn c wants in
    action_proper it.what it.target p drawn
    (record { caller = it.caller; merchant = it.target.merchant; now = now }) c it.wants it.named it.at moment
    drawing

-- ---- numbers are asked for

-- what is asked of a token asks for its number where this is what the action says
module _ (a : Asker) (token caller m other : List ℕ) (t : ℕ) where
  abbrev Redeems : TokenAction → Type 0
  Redeems what =
      (what ≡ on.Detokenize)
      × ((a.caller ≡ caller) × (a.merchant ≡ m) × (token ≡ other) × (a.now ≡ t))

  on_token_is : (what : TokenAction) → command_on what a token ≡ Detokenize caller m other t → Redeems what
  on_token_is on.Detokenize e = (refl, (cc, cc, cc, cc))
  on_token_is on.View e = absurd (cc)
  on_token_is on.Revoke e = absurd (cc)
  on_token_is on.Purge e = absurd (cc)

action_is : (what : Action) (target : Target) (p : Parts) (drawn : List ℕ) (a : Asker)
    (caller m token : List ℕ) (t : ℕ) → WantsAction what target p drawn a (Ok (Detokenize caller m token t))
    → (what ≡ action.OnToken on.Detokenize)
    × ((a.caller ≡ caller) × (a.merchant ≡ m) × (target.token ≡ token) × (a.now ≡ t))
action_is (action.OnToken what) target p drawn a caller m token t wants =
    let is = (on_token what target a (Detokenize caller m token t) wants).1 in
    let found = on_token_is a target.token caller m token t what (sym is) in
    (ap action.OnToken found.0, found.1)
action_is action.Tokenize target p drawn a caller m token t wants =
    let is = (ordering p drawn a (Detokenize caller m token t) wants).is in absurd (cc (is))
action_is action.Audit target p drawn a caller m token t wants = absurd (cc (wants))

-- a message that wants the number of a token asks for it, at its moment
pub wants_number : (p : Parts) (now : ℕ) (drawn : List ℕ) (caller m token : List ℕ) (t : ℕ)
    → Wants p now drawn (Ok (Detokenize caller m token t))
    → AsksForNumber p caller m token × (now ≡ t)
wants_number p now drawn caller m token t wants =
    let it = asking p now drawn (Detokenize caller m token t) wants in
    let does = action_is it.what it.target p drawn
    (record { caller = it.caller; merchant = it.target.merchant; now = now }) caller m token t it.wants in
    let same : it.target ≡ record { place = it.target.place; merchant = m; token = token } =
    (λ i. record { place = it.target.place; merchant = does.1.1 i; token = does.1.2 i }) in (
      record {
        place = it.target.place;
        target = it.found ∙ ap Some same;
        asks = it.takes ∙ ap Some does.0;
        caller_field = it.field ∙ ap Some does.1.0;
      },
      does.1.3,
    )
