-- What is wanted, step by step.
use Rattle.std.proofs.Common.{◌≡◌, ◌≢◌, ℕ, List, Result, Ok, Err, Some, inl, inr, refl, sym, ap, ◌∙◌, subst}
use Rattle.std.proofs.Common.{true}
use Rattle.std.specs.Prelude.{codes, None, Option, option_map}
use Rattle.std.specs.Result.{IsErrAnd}
use Rattle.std.specs.Str.Parse.{digits_value}
use Rattle.vault_pan.specs.CardText.{IsCardText, IsNumber, digits_of}
use Rattle.vault_pan.specs.Luhn.{passes_check}
use Rattle.vault_pan.specs.Pan as pan
use Rattle.vault_pan.specs.Pan.{ReadsPan}
use Rattle.vault_pan.specs.declared.pan.PanFault.{PanFault}
use Rattle.vault_pan.specs.declared.pan.PanFault.TheVariants.{BadNumber, BadCheck}
use Rattle.vault_core.specs.Scalar.{IsRequestText}
use Rattle.vault_wire.specs.Fields.{sole_value}
use Rattle.vault_core.specs.declared.command.Command.{Command}
use Rattle.vault_wire.specs.Parts.{Parts}
use Rattle.vault_routes.specs.Body.{asked_in}
use Rattle.vault_refusal.specs.declared.refusal.Refusal.{Refusal}
use Rattle.vault_refusal.specs.declared.refusal.Refusal.TheVariants as refusal
use Rattle.vault_refusal.specs.declared.refusal.Refusal.TheVariants.{ServiceMemory}
use Rattle.vault_routes.specs.Route.{Target, route_of, target_of}
use Rattle.vault_routes.specs.declared.route.Route.{Route}
use Rattle.vault_routes.specs.Table.{action_at}
use Rattle.vault_routes.specs.Wanted.{IsWanted, Wanted, Wants, WantsAction, WantsAsker, WantsBody, WantsOrder}
use Rattle.vault_routes.specs.declared.table.Action.{Action}
use Rattle.vault_routes.specs.declared.wanted.Asker.{Asker}
use Rattle.vault_routes.specs.declared.wanted.Order.{Order}

-- a refusal that came through
pub refused_by : {X : Type 0} (W : Wanted X → Type 0) (r : Result X Refusal) (e : Refusal)
    → IsErrAnd r (λ f. f ≡ e) → (e ≢ ServiceMemory → W (Err e)) → IsWanted W r
refused_by W (Ok x) e h w = absurd h
refused_by W (Err f) e h w = λ n.
    subst (λ k. W (Err k)) (sym h) (w (subst (λ (k : Refusal). k ≢ ServiceMemory) h n))

-- a refusal that came through, of a reader that has this one
pub refused_as : {X : Type 0} (W : Wanted X → Type 0) (r : Result X Refusal) (e k : Refusal)
    → IsErrAnd r (λ f. f ≡ e) → e ≡ k → W (Err k) → IsWanted W r
refused_as W r e k came told w =
    refused_by W r e came (λ _. subst (λ (k : Refusal). W (Err k)) (sym told) w)

-- the target and the method are as they have to be
pub wants_of : (p : Parts) (now : ℕ) (drawn : List ℕ) (target : Target) (asked : Action) (r : Wanted Command)
    → route_of p.target ≡ Some target → action_at target.place p.method ≡ Some asked
    → WantsAsker p target.merchant now (λ a. WantsAction asked target p drawn a) r → Wants p now drawn r
wants_of p now drawn target asked r found takes h = inl (target, found, inl (asked, takes, h))

-- who asks was read, and what is wanted then is wanted of the whole
pub asker_read : {X : Type 0} (p : Parts) (m : List ℕ) (now : ℕ) (goes : Asker → Wanted X → Type 0)
    (a : Asker) (r : Wanted X)
    → WantsAsker p m now (λ b s. s ≡ Ok b) (Ok a) → goes a r → WantsAsker p m now goes r
asker_read p m now goes a r (inl (caller, is, inl (name, inl (named, same)))) h =
    let asks : a ≡ record { caller = caller; merchant = m; now = now } = cc in
    inl (caller, is, inl (name, inl (named, subst (λ b. goes b r) asks h)))
asker_read p m now goes a r (inl (caller, is, inl (name, inr (none, same)))) h = absurd (cc)
asker_read p m now goes a r (inl (caller, is, inr (none, same))) h = absurd (cc)
asker_read p m now goes a r (inr (none, same)) h = absurd (cc)

-- the route and the action of a message's target and method, as the code found them
pub record Routed (p : Parts) (target : Target) (asked : Action) : Type 0 where
  pub found : route_of p.target ≡ Some target
  pub takes : action_at target.place p.method ≡ Some asked

-- what a target names, where a route was found
pub named : (found : Option Route) (route : Route) (target : Option Target) → found ≡ Some route
    → option_map target_of found ≡ target → target ≡ Some (target_of route)
named found route target is same = sym same ∙ ap (option_map target_of) is

pub routed : (p : Parts) (method : List ℕ) (target : Target) (found asked : Action)
    → route_of p.target ≡ Some target → method ≡ p.method → Some found ≡ action_at target.place method
    → found ≡ asked → Routed p target asked
routed p method target found asked named its_method acts is = record {
  found = named;
  takes = ap (action_at target.place) (sym its_method) ∙ sym acts ∙ ap Some is;
}

-- who asks was read, and this is wanted
pub wants_by : (p : Parts) (now : ℕ) (drawn : List ℕ) (target : Target) (asked : Action) (a : Asker)
    (r : Wanted Command) → Routed p target asked → WantsAsker p target.merchant now (λ b s. s ≡ Ok b) (Ok a)
    → WantsAction asked target p drawn a r → Wants p now drawn r
wants_by p now drawn target asked a r routed read wants =
    wants_of p now drawn target asked r routed.found routed.takes
    (asker_read p target.merchant now (WantsAction asked target p drawn) a r read wants)

-- who asks was refused, and so is the whole
pub asker_refused : {X : Type 0} (p : Parts) (m : List ℕ) (now : ℕ) (goes : Asker → Wanted X → Type 0)
    (n : Refusal)
    → WantsAsker p m now (λ b s. s ≡ Ok b) (Err n) → WantsAsker p m now goes (Err n)
asker_refused p m now goes n (inl (caller, is, inl (name, inl (named, same)))) = absurd (cc)
asker_refused p m now goes n (inl (caller, is, inl (name, inr (none, same)))) =
    let told : n ≡ refusal.BadName = cc in inl (caller, is, inl (name, inr (none, ap Err told)))
asker_refused p m now goes n (inl (caller, is, inr (none, same))) =
    let told : n ≡ refusal.BadName = cc in inl (caller, is, inr (none, ap Err told))
asker_refused p m now goes n (inr (none, same)) =
    let told : n ≡ refusal.BadFields = cc in inr (none, ap Err told)

same_order : (a b : Order) → ◌≡◌ {A = Wanted Order} (Ok a) (Ok b) → a ≡ b
same_order a b same = cc

-- what is asked with was read, and what is wanted then is wanted of the whole
pub order_read : {X : Type 0} (p : Parts) (goes : Order → Wanted X → Type 0) (o : Order) (r : Wanted X)
    → WantsOrder p (λ b s. s ≡ Ok b) (Ok o) → goes o r → WantsOrder p goes r
order_read p goes o r (inl (t, is, inl (q, inl (ts, a, inl (n, inl (k, inl (u, w, same))))))) h =
    inl (
      t,
      is,
      inl (q, inl (ts, a, inl (n, inl (k, inl (u, w, subst (λ b. goes b r) (same_order _ _ same) h))))),
    )
order_read p goes o r (inl (t, is, inl (q, inl (ts, a, inl (n, inl (k, inr (none, same))))))) h = absurd (cc)
order_read p goes o r (inl (t, is, inl (q, inl (ts, a, inl (n, inr (none, same)))))) h = absurd (cc)
order_read p goes o r (inl (t, is, inl (q, inl (ts, a, inr (none, same))))) h = absurd (cc)
order_read p goes o r (inl (t, is, inl (q, inr (none, same)))) h = absurd (cc)
order_read p goes o r (inl (t, is, inr (none, same))) h = absurd (cc)
order_read p goes o r (inr (none, same)) h = absurd (cc)

-- what is asked with was refused, and so is the whole
pub order_refused : {X : Type 0} (p : Parts) (goes : Order → Wanted X → Type 0) (m : Refusal)
    → WantsOrder p (λ b s. s ≡ Ok b) (Err m) → WantsOrder p goes (Err m)
order_refused p goes m (inl (t, is, inl (q, inl (ts, a, inl (n, inl (k, inl (u, w, same))))))) = absurd (cc)
order_refused p goes m (inl (t, is, inl (q, inl (ts, a, inl (n, inl (k, inr (none, same))))))) =
    let told : m ≡ refusal.BadUse = cc in inl (
      t,
      is,
      inl (
        q,
        inl (
          ts,
          a,
          inl (
            n,
            inl (
              k,
              inr (
                none,
                ap
                    Err told,
              ),
            ),
          ),
        ),
      ),
    )
order_refused p goes m (inl (t, is, inl (q, inl (ts, a, inl (n, inr (none, same)))))) =
    let told : m ≡ refusal.BadCheck = cc in inl (
      t,
      is,
      inl (
        q,
        inl (
          ts,
          a,
          inl (
            n,
            inr (
              none,
              ap Err
                  told,
            ),
          ),
        ),
      ),
    )
order_refused p goes m (inl (t, is, inl (q, inl (ts, a, inr (none, same))))) =
    let told : m ≡ refusal.BadNumber = cc in inl (t, is, inl (q, inl (ts, a, inr (none, ap Err told))))
order_refused p goes m (inl (t, is, inl (q, inr (none, same)))) =
    let told : m ≡ refusal.BadBody = cc in inl (t, is, inl (q, inr (none, ap Err told)))
order_refused p goes m (inl (t, is, inr (none, same))) =
    let told : m ≡ refusal.BadRequestNumber = cc in inl (t, is, inr (none, ap Err told))
order_refused p goes m (inr (none, same)) =
    let told : m ≡ refusal.BadFields = cc in inr (none, ap Err told)

-- a text that gives a card number
pub pan_is : (text pan : List ℕ) → ReadsPan text (Ok pan)
    → (IsCardText text × IsNumber (digits_of text)) × (passes_check (digits_of text) ≡ true)
    × (pan ≡ digits_of text)
pan_is text pan h =
    ((h.0, subst IsNumber h.2 h.1.0), ap passes_check (sym h.2) ∙ h.1.1, h.2)

-- the field has a request's number, and the body counts
pub order_body : {X : Type 0} (p : Parts) (goes : Order → Wanted X → Type 0) (text body : List ℕ)
    (r : Wanted X)
    → sole_value (codes "x-vault-request") p.pairs ≡ Some text → IsRequestText text → body ≡ p.body
    → WantsBody body (digits_value 10 text) goes r → WantsOrder p goes r
order_body p goes text body r is request same h =
    inl (text, is, inl (request, subst (λ b. WantsBody b (digits_value 10 text) goes r) same h))

-- a body that gives no texts
pub no_body : {X : Type 0} (text : List ℕ) (n : ℕ) (goes : Order → Wanted X → Type 0)
    → asked_in text ≡ None → WantsBody text n goes (Err refusal.BadBody)
no_body text n goes none = inr ((λ texts is. (let clash = sym is ∙ none in cc)), refl)

-- a body whose number is none: no digits of one, or a wrong check digit
pub no_pan : {X : Type 0} (fault : PanFault) (text : List ℕ) (n : ℕ) (goes : Order → Wanted X → Type 0)
    (texts : List ℕ × List ℕ) → asked_in text ≡ Some texts → ReadsPan texts.0 (Err fault)
    → WantsBody text n goes (Err (pan.refusal_of fault))
no_pan BadNumber text n goes texts is h = inl (texts, is, inr (h, refl))
no_pan BadCheck text n goes texts is h =
    inl (texts, is, inl ((h.0, h.1), inr ((λ passes. (let clash = sym passes ∙ h.2 in cc)), refl)))
