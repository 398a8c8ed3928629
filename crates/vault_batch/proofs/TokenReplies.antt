-- What a request for a token is replied to.
use Rattle.std.proofs.Common.{◌≡◌, sym, subst, inl, inr}
use Rattle.std.specs.Prelude.{◌⊎◌, Option, Some, None, Bool, true, false, Ok, Err, if◌then◌else◌, ◌==◌, not}
use Rattle.std.specs.Option.{option_map_or}
use Rattle.std.specs.Str.Parse.{digits_value}
use Rattle.vault_pan.specs.CardText.{digits_of}
use Rattle.vault_core.specs.Draw.{chosen_token}
use Rattle.vault_core.specs.Outcome.{Outcome, of_merchant, plain_refusal, plain_reply}
use Rattle.vault_core.specs.Refusals.{full, no_candidate, no_merchant, no_right, number_reused, wrong_use}
use Rattle.vault_core.specs.Repeats.{current, is_repeat, reusable}
use Rattle.vault_core.specs.Tokens.{earlier_request, drawing, token_again, life_asked, new_token}
use Rattle.vault_core.specs.Tokens.{new_request, repetition, tokenize}
use Rattle.vault_core.specs.Vault.{Merchant, Vault as Content, entitled, entry_at, made_count, merchant_at}
use Rattle.vault_core.specs.Vault.{record_at, time_at}
use Rattle.vault_core.specs.Parts.{command_of, token_request}
use Rattle.vault_core.specs.declared.command.TokenRequest.{TokenRequest}
use Rattle.vault_core.specs.declared.limit.TheConstants.{MOST_TOKENS}
use Rattle.vault_core.specs.declared.reply.Reply.TheVariants.{Token}
use Rattle.vault_core.specs.declared.right.Right.TheVariants as right
use Rattle.vault_core.specs.declared.row.Record.{Record}
use Rattle.vault_core.specs.declared.usage.Use.{Use}
use Rattle.vault_engine.specs.Asking.{Pair, Wanted, reply_to}
use Rattle.vault_refusal.specs.declared.refusal.Refusal.{Refusal}
use Rattle.vault_refusal.specs.declared.refusal.Refusal.TheVariants as refusal
use Rattle.vault_batch.specs.Asking.{Wants}
use Rattle.vault_batch.specs.Laws.{HasCells, RowsHaveLines}
use Rattle.vault_batch.specs.Rows.{Row}
use Rattle.vault_batch.specs.declared.asker.Asker.{Asker}

abbrev Shows : Outcome → Type 0
Shows o = HasCells o.reply

either : (b : Bool) (x y : Outcome) → Shows x → Shows y → Shows (if b then x else y)
either true x y p q = p
either false x y p q = q

found_or : {A : Type 0} (f : A → Outcome) (d : Outcome) (o : Option A) → ((a : A) → Shows (f a)) → Shows d
    → Shows (option_map_or f o d)
found_or f d None p q = q
found_or f d (Some a) p q = p a

came_shows : (V : Content) (a : TokenRequest) (r : Record) → Shows (earlier_request V a r)
came_shows V a r =
    found_or (repetition V a r) (plain_refusal V number_reused) (entry_at V r.merchant r.token)
    (λ e. either (is_repeat a.merchant a.usage a.pan r e) (plain_reply V (Token r.token e.expires))
    (plain_refusal V number_reused) (tt {0}) (tt {0})) (tt {0})

drawn_shows : (V : Content) (a : TokenRequest) (m : Merchant) → Shows (drawing V a m)
drawn_shows V a m =
    let candidate = chosen_token V a.merchant a.pan a.digits in
    let none : Outcome = plain_refusal V no_candidate in
    either (made_count V a.merchant == MOST_TOKENS) (plain_refusal V full)
    (option_map_or (new_token V a m) candidate none) (tt {0})
    (found_or (new_token V a m) none candidate (λ t. tt {0}) (tt {0}))

new_shows : (V : Content) (a : TokenRequest) (m : Merchant) → Shows (new_request V a m)
new_shows V a m =
    let held = reusable a.usage (current V a.merchant a.pan (time_at m a.moment)) in
    let found : Outcome = option_map_or (token_again V a m) held (drawing V a m) in
    let offered : Outcome = if life_asked a m == 0 then plain_refusal V wrong_use else found in
    let right = entitled V a.caller a.merchant right.Tokenize (time_at m a.moment) in
    either (not right) (plain_refusal V no_right) offered (tt {0})
    (either (life_asked a m == 0) (plain_refusal V wrong_use) found (tt {0})
    (found_or (token_again V a m) (drawing V a m) held (λ h. tt {0}) (drawn_shows V a m)))

token_shows : (V : Content) (a : TokenRequest) → Shows (tokenize V a)
token_shows V a =
    let asked : Outcome = of_merchant V a.merchant (new_request V a) in
    found_or (earlier_request V a) asked (record_at V a.caller a.request) (came_shows V a)
    (found_or (new_request V a) (plain_refusal V no_merchant) (merchant_at V a.merchant) (new_shows V a)
    (tt {0}))

refusal_shows : (V : Content) (n : Refusal) (r : Wanted) → r ≡ Err n → HasCells (reply_to V r)
refusal_shows V n r e = subst (λ w. HasCells (reply_to V w)) (sym e) (tt {0})

must_shows : (V : Content) (n : Refusal) (r : Wanted) {P G : Type 0} → (G → HasCells (reply_to V r))
    → (P × G) ⊎ ((¬ P) × (r ≡ Err n)) → HasCells (reply_to V r)
must_shows V n r f (inl q) = f q.1
must_shows V n r f (inr q) = refusal_shows V n r q.1

with_shows : (V : Content) (n : Refusal) (r : Wanted) {P G : Use → Type 0}
    → ((u : Use) → G u → HasCells (reply_to V r))
    → ((u : Use) × P u × G u) ⊎ (((u : Use) → ¬ P u) × (r ≡ Err n)) → HasCells (reply_to V r)
with_shows V n r f (inl q) = f q.0 q.2
with_shows V n r f (inr q) = refusal_shows V n r q.1

request : Asker → Row → Pair → Use → TokenRequest
request who row pair u =
    token_request who.caller who.merchant (digits_value 10 row.request) u (digits_of row.number) pair

asked_shows : (V : Content) (a : TokenRequest) (r : Wanted) → r ≡ Ok (command_of a)
    → HasCells (reply_to V r)
asked_shows V a r e = subst (λ w. HasCells (reply_to V w)) (sym e) (token_shows V a)

wants_show : (who : Asker) (row : Row) (pair : Pair) (r : Wanted) (V : Content)
    → Wants who row pair r → HasCells (reply_to V r)
unfolding request
wants_show who row pair r V w =
    must_shows V refusal.BadRequestNumber r (must_shows V refusal.BadNumber r (must_shows V refusal.BadCheck r
    (with_shows V refusal.BadUse r (λ u e. asked_shows V (request who row pair u) r e)))) w

pub rows_show : RowsHaveLines
rows_show who x V asks = wants_show who x.unit x.pair x.wanted V asks
