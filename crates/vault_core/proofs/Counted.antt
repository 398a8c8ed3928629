-- The counts of numbers given and denied follow the replies.
use Rattle.std.proofs.Common.{◌≡◌, ℕ, ◌+◌, ◌==◌, ◌&&◌, Bool, true, false, cond, Option, Some, None, List, []}
use Rattle.std.proofs.Common.{◌∷◌, not, nat_lt, inl, inr, refl, sym, ap, ◌∙◌, subst, arith, add-zero}
use Rattle.std.specs.Option.{option_map_or}
use Rattle.std.specs.FinMap as map
use Rattle.std.specs.Cmp.{eq_by_cmp_equiv}
use Rattle.std.specs.Cmp.Lexicographic.{texts_ties}
use Rattle.vault_pan.specs.CardText.{same}
use Rattle.vault_core.specs.Keys.{Bytes, bytes_cmp}
use Rattle.vault_core.specs.Lives.{new_merchant, setting, with_lives}
use Rattle.vault_core.specs.Merchants.{granting, withdrawal, set_from, set_to}
use Rattle.vault_core.specs.Parts.{token_command, command_of}
use Rattle.vault_core.specs.Named.{merchant_of, denies, is_redeem}
use Rattle.vault_core.specs.Outcome.{Outcome, plain_reply, plain_refusal, on_token}
use Rattle.vault_core.specs.Redeem.{merchant_after_gift, merchant_after_denial}
use Rattle.vault_core.specs.Refusals.{no_merchant, no_right, full, token_purged, still_live}
use Rattle.vault_core.specs.Refusals.{too_many_merchants}
use Rattle.vault_core.specs.Retire.{retirement, purging}
use Rattle.vault_core.specs.Runs.{run}
use Rattle.vault_core.specs.Show.{showing, totals}
use Rattle.vault_core.specs.Table.{outcome, after, reply}
use Rattle.vault_core.specs.Tokens.{token_again, new_token, tokenize}
use Rattle.vault_core.specs.Vault.{Vault, Merchant, merchant_at, entitled, made_count, time_at}
use Rattle.vault_core.specs.Yields.{CountsFollow, given_by, denied_by, gives_number, denies_number}
use Rattle.vault_core.specs.Yields.{answered_so}
use Rattle.vault_core.specs.declared.limit.TheConstants.{MOST_MERCHANTS, MOST_COUNT}
use Rattle.vault_core.specs.declared.command.Command.{Command}
use Rattle.vault_core.specs.declared.command.Command.TheVariants.{Grant, Withdraw, Tokenize, Detokenize, View}
use Rattle.vault_core.specs.declared.command.Command.TheVariants.{Revoke, Purge, Audit}
use Rattle.vault_core.specs.declared.command.TokenCommand.{TokenCommand}
use Rattle.vault_core.specs.declared.command.TokenRequest.{TokenRequest}
use Rattle.vault_core.specs.declared.reply.Reply.{Reply}
use Rattle.vault_core.specs.declared.row.Lives.{Lives}
use Rattle.vault_core.specs.declared.reply.Reply.TheVariants.{Token, Number, Counts, Refused}
use Rattle.vault_core.specs.declared.reply.State.TheVariants.{Live, Expired, Revoked}
use Rattle.vault_core.specs.declared.right.Right.TheVariants as right
use Rattle.vault_core.specs.declared.row.Entry.{Entry}
use Rattle.vault_core.specs.declared.row.EntryState.{EntryState}
use Rattle.vault_core.specs.declared.row.EntryState.TheVariants.{Kept, Purged}
use Rattle.vault_core.proofs.Setting.{at_setting}
use Rattle.vault_core.proofs.TokenRequests.{by_request}
use Rattle.vault_core.proofs.Branches.{by_test, by_option}
use Rattle.vault_core.proofs.Maps.{bytes_total, bytes_exact, tied, get-insert_same, get-insert_other}
use Rattle.vault_core.proofs.Repeats.{same-refl}
use Rattle.vault_core.proofs.Walks.{by_redeem, by_token}

none_of : (a b : Bool) → b ≡ false → let n : ℕ = cond (a && b) 1 0 in n ≡ 0
none_of true b h = ap (λ x. cond x 1 0) h
none_of false b h = refl

-- a count of a merchant that was set
count-insert : (f : Merchant → ℕ) (M : map.FinMap bytes_cmp Merchant) (q m : Bytes) (x : Merchant) (b : Bool)
    → f x ≡ option_map_or f (map.get M q) 0 + cond b 1 0
    → option_map_or f (map.get (map.insert M q x) m) 0
    ≡ option_map_or f (map.get M m) 0 + cond (same q m && b) 1 0
count-insert f M q m x b is =
    elim (tied bytes_exact m q) [
      | inl own ↦
          subst (λ (y : Bytes). option_map_or f (map.get (map.insert M q x) y) 0
          ≡ option_map_or f (map.get M y) 0 + cond (same q y && b) 1 0) (sym own)
          (ap (λ (o : Option Merchant). option_map_or f o 0) (get-insert_same bytes_total bytes_exact M q x)
          ∙ is
          ∙ ap (λ a. option_map_or f (map.get M q) 0 + cond (a && b) 1 0) (sym (same-refl q)))
      | inr apart ↦
          ap (λ (o : Option Merchant). option_map_or f o 0)
          (get-insert_other bytes_total bytes_exact M q x m apart)
          ∙ sym (add-zero (option_map_or f (map.get M m) 0))
          ∙ ap (λ a. option_map_or f (map.get M m) 0 + cond (a && b) 1 0)
          (sym (texts_ties q m ∙ (eq_by_cmp_equiv bytes_total).symm q m ∙ apart))
    ]

-- the counts go up with the reply of an outcome, and only so; who asks for no number is answered none
abbrev pub Follows : Command → Vault → Bytes → Outcome → Type 0
Follows c V m o =
    (given_by o.after m ≡ given_by V m + cond (same (merchant_of c) m && gives_number o.reply) 1 0)
    × (denied_by o.after m ≡ denied_by V m + cond (same (merchant_of c) m && denies_number c o.reply) 1 0)
    × (is_redeem c ≡ false → gives_number o.reply ≡ false)

module _ (c : Command) (V : Vault) (m : Bytes) where
  -- nothing changed, and no number was given or denied
  calm : (r : Reply) → gives_number r ≡ false → denies_number c r ≡ false → Follows c V m (plain_reply V r)
  calm r gives denies = (
    sym (add-zero (given_by V m))
        ∙ ap (λ n. given_by V m + n) (sym (none_of (same (merchant_of c) m) (gives_number r) gives)),
    sym (add-zero (denied_by V m))
        ∙ ap (λ n. denied_by V m + n) (sym (none_of (same (merchant_of c) m) (denies_number c r) denies)),
    λ _. gives,
  )

  -- the merchant that the command names was set
  sets : (o : Outcome) (x : Merchant) → o.after.merchants ≡ map.insert V.merchants (merchant_of c) x
      → x.given ≡ given_by V (merchant_of c) + cond (gives_number o.reply) 1 0
      → x.denied ≡ denied_by V (merchant_of c) + cond (denies_number c o.reply) 1 0
      → (is_redeem c ≡ false → gives_number o.reply ≡ false)
      → Follows c V m o
  sets o x is gives denies asks = (
    ap (λ (M : map.FinMap bytes_cmp Merchant). option_map_or (λ (y : Merchant). y.given) (map.get M m) 0) is
        ∙ count-insert (λ (y : Merchant). y.given) V.merchants (merchant_of c) m x (gives_number o.reply)
        gives,
    ap (λ (M : map.FinMap bytes_cmp Merchant). option_map_or (λ (y : Merchant). y.denied) (map.get M m) 0) is
        ∙ count-insert (λ (y : Merchant). y.denied) V.merchants (merchant_of c) m x
        (denies_number c o.reply) denies,
    asks,
  )

  -- the merchant was set with its counts as they were
  keeps : (o : Outcome) (known x : Merchant) → merchant_at V (merchant_of c) ≡ Some known
      → x.given ≡ known.given → x.denied ≡ known.denied
      → o.after.merchants ≡ map.insert V.merchants (merchant_of c) x → gives_number o.reply ≡ false
      → denies_number c o.reply ≡ false
      → Follows c V m o
  keeps o known x at given_same denied_same is gives denies =
      sets o x is
      (given_same ∙ sym (ap (λ (y : Option Merchant). option_map_or (λ (z : Merchant). z.given) y 0) at)
      ∙ sym (add-zero (given_by V (merchant_of c)))
      ∙ ap (λ b. given_by V (merchant_of c) + cond b 1 0) (sym gives))
      (denied_same ∙ sym (ap (λ (y : Option Merchant). option_map_or (λ (z : Merchant). z.denied) y 0) at)
      ∙ sym (add-zero (denied_by V (merchant_of c)))
      ∙ ap (λ b. denied_by V (merchant_of c) + cond b 1 0) (sym denies))
      (λ _. gives)

follows-tokenize : (V : Vault) (m : Bytes) (a : TokenRequest) → Follows (command_of a) V m (tokenize V a)
follows-tokenize V m a =
    by_request (Follows c V m) V a (λ number. calm c V m (Refused number) refl refl)
    (λ r entry _ _ _. calm c V m (Token r.token entry.expires) refl refl)
    (λ known held _ is _. keeps c V m (token_again V a known held) known _ is refl refl refl refl refl)
    (λ known token _ is _ _ _ _. keeps c V m (new_token V a known token) known _ is refl refl refl refl refl)
  where
    c : Command
    c = command_of a

follows-set : (V : Vault) (m q : Bytes) (x : Lives) (o : Option Merchant) → merchant_at V q ≡ o
    → Follows (setting q x) V m (set_from V q x o)
follows-set V m q x None e =
    by_test (Follows (setting q x) V m) (nat_lt (map.len V.merchants) MOST_MERCHANTS)
    (set_to V q (new_merchant x)) (plain_refusal V too_many_merchants)
    (λ _. sets (setting q x) V m (set_to V q (new_merchant x)) (new_merchant x) refl
    (sym (ap (λ (y : Option Merchant). option_map_or (λ (z : Merchant). z.given) y 0 + 0) e))
    (sym (ap (λ (y : Option Merchant). option_map_or (λ (z : Merchant). z.denied) y 0 + 0) e))
    (λ _. refl))
    (λ _. calm (setting q x) V m (Refused too_many_merchants) refl refl)
follows-set V m q x (Some known) e =
    keeps (setting q x) V m (set_from V q x (Some known)) known
    (with_lives (record x { moment = time_at known x.moment }) known) e refl refl
    refl refl refl

-- one more than a merchant has
one_more : (f : Merchant → ℕ) (V : Vault) (m : Bytes) (known : Merchant) (b : Bool)
    → merchant_at V m ≡ Some known → b ≡ true
    → f known + 1 ≡ option_map_or f (merchant_at V m) 0 + cond b 1 0
one_more f V m known b is counts =
    ap (λ (o : Option Merchant). option_map_or f o 0 + 1) (sym is)
    ∙ ap (λ x. option_map_or f (merchant_at V m) 0 + cond x 1 0) (sym counts)

as_before : (f : Merchant → ℕ) (V : Vault) (m : Bytes) (known : Merchant) → merchant_at V m ≡ Some known
    → f known ≡ option_map_or f (merchant_at V m) 0 + 0
as_before f V m known is = sym (ap (λ (o : Option Merchant). option_map_or f o 0 + 0) is ∙ add-zero (f known))

follows-detokenize : (V : Vault) (m caller q token : Bytes) (now : ℕ)
    → Follows (Detokenize caller q token now) V m (outcome V (Detokenize caller q token now))
follows-detokenize V m caller q token now =
    by_redeem (Follows c V m) V (token_command caller q token right.Detokenize now)
    (calm c V m (Refused no_merchant) refl refl)
    (λ known reason is counts. by_test (Follows c V m) (known.denied == MOST_COUNT) (plain_refusal V full) _
    (λ _. calm c V m (Refused full) refl refl)
    (λ _. sets c V m (record {
      reply = Refused reason;
      after =
          record V { merchants = map.insert V.merchants q (merchant_after_denial known now) };
    })
    (merchant_after_denial known now) refl (as_before (λ (z : Merchant). z.given) V q known is)
    (one_more (λ (z : Merchant). z.denied) V q known (denies reason) is counts)
    (λ (no : true ≡ false). absurd (cc))))
    (λ known number is. by_test (Follows c V m) (known.given == MOST_COUNT) (plain_refusal V full) _
    (λ _. calm c V m (Refused full) refl refl)
    (λ _. sets c V m (record {
      reply = Number number;
      after =
          record V { merchants = map.insert V.merchants q (merchant_after_gift known now) };
    })
    (merchant_after_gift known now) refl (one_more (λ (z : Merchant). z.given) V q known true is refl)
    (as_before (λ (z : Merchant). z.denied) V q known is) (λ (no : true ≡ false). absurd (cc))))
  where
    c : Command
    c = Detokenize caller q token now

-- a command on a token whose refusals count nothing
follows-token : (V : Vault) (m : Bytes) (c : Command) (t : TokenCommand)
    (answer : Merchant → Entry → EntryState → Outcome)
    → ((number : ℕ) → denies_number c (Refused number) ≡ false)
    → ((known : Merchant) (entry : Entry) → merchant_at V t.merchant ≡ Some known → (state : EntryState)
    → Follows c V m (answer known entry state))
    → Follows c V m (on_token V t (λ known. plain_refusal V) answer)
follows-token V m c t answer silent answering =
    by_token (Follows c V m) V t (λ known. plain_refusal V) answer
    (calm c V m (Refused no_merchant) refl (silent no_merchant))
    (λ _ number _ _. calm c V m (Refused number) refl (silent number))
    (λ known entry state is _ _. answering known entry is state)

-- one command
pub follows : (V : Vault) (m : Bytes) (c : Command) → Follows c V m (outcome V c)
follows V m (Grant caller q right until now) =
    by_option (Follows (Grant caller q right until now) V m) (merchant_at V q)
    (granting V (caller, (q, right)) until now)
    (plain_refusal V no_merchant)
    (λ known is. keeps (Grant caller q right until now) V m
    (granting V (caller, (q, right)) until now known) known _ is refl
    refl refl refl refl)
    (λ _. calm (Grant caller q right until now) V m (Refused no_merchant) refl refl)
follows V m (Withdraw caller q right now) =
    by_option (Follows (Withdraw caller q right now) V m) (merchant_at V q)
    (withdrawal V caller q right now) (plain_refusal V no_merchant)
    (λ known is. keeps (Withdraw caller q right now) V m (withdrawal V caller q right now known) known _ is
    refl refl refl refl refl)
    (λ _. calm (Withdraw caller q right now) V m (Refused no_merchant) refl refl)
follows V m (Tokenize caller q request usage pan digits now) =
    follows-tokenize V m
    (record {
      caller = caller;
      merchant = q;
      request = request;
      usage = usage;
      pan = pan;
      digits = digits;
      moment = now;
    })
follows V m (Detokenize caller q token now) = follows-detokenize V m caller q token now
follows V m (View caller q token now) =
    follows-token V m c (token_command caller q token right.View now) (showing V) (λ _. refl) ended
  where
    c : Command
    c = View caller q token now

    ended : (known : Merchant) (entry : Entry) → merchant_at V q ≡ Some known → (state : EntryState)
        → Follows c V m (showing V known entry state)
    ended known entry _ Purged = calm c V m (Refused token_purged) refl refl
    ended known entry _ (Kept number state) =
        calm c V m (showing V known entry (Kept number state)).reply refl refl
follows V m (Revoke caller q token now) = follows-token V m c t (retirement V t) (λ _. refl) ended
  where
    c : Command
    c = Revoke caller q token now

    t : TokenCommand
    t = token_command caller q token right.Revoke now

    ended : (known : Merchant) (entry : Entry) → merchant_at V q ≡ Some known → (state : EntryState)
        → Follows c V m (retirement V t known entry state)
    ended known entry is Purged = calm c V m (Refused token_purged) refl refl
    ended known entry is (Kept number state) =
        keeps c V m (retirement V t known entry (Kept number state)) known _ is refl refl refl refl refl
follows V m (Purge caller q token now) = follows-token V m c t (purging V t) (λ _. refl) ended
  where
    c : Command
    c = Purge caller q token now

    t : TokenCommand
    t = token_command caller q token right.Purge now

    ended : (known : Merchant) (entry : Entry) → merchant_at V q ≡ Some known → (state : EntryState)
        → Follows c V m (purging V t known entry state)
    ended known entry is Purged =
        keeps c V m (purging V t known entry Purged) known _ is refl refl refl refl refl
    ended known entry is (Kept number Live) = calm c V m (Refused still_live) refl refl
    ended known entry is (Kept number Revoked) =
        keeps c V m (purging V t known entry (Kept number Revoked)) known _ is refl refl refl refl refl
    ended known entry is (Kept number Expired) =
        keeps c V m (purging V t known entry (Kept number Expired)) known _ is refl refl refl refl refl
follows V m (Audit caller q now) =
    by_option (Follows (Audit caller q now) V m) (merchant_at V q) (totals V caller q now)
    (plain_refusal V no_merchant)
    (λ known _. by_test (Follows (Audit caller q now) V m)
    (not (entitled V caller q right.Audit (time_at known now))) (plain_refusal V no_right)
    (plain_reply V (Counts (made_count V q) known.given known.denied))
    (λ _. calm (Audit caller q now) V m (Refused no_right) refl refl)
    (λ _. calm (Audit caller q now) V m (Counts (made_count V q) known.given known.denied) refl refl))
    (λ _. calm (Audit caller q now) V m (Refused no_merchant) refl refl)
follows V m c = at_setting (λ set. Follows set V m (outcome V set))
    (λ q x. follows-set V m q x (merchant_at V q) refl) c refl

-- a command that doesn't ask for a number isn't answered one
pub only_redeem : (V : Vault) (c : Command) → is_redeem c ≡ false → gives_number (reply V c) ≡ false
only_redeem V c = (follows V (merchant_of c) c).2

given-follow : (cs : List Command) (V : Vault) (m : Bytes)
    → given_by (run cs V) m ≡ given_by V m + answered_so (λ c. gives_number) m cs V
given-follow [] V m = sym (add-zero (given_by V m))
given-follow (c ∷ cs) V m =
    let one = (follows V m c).0 in
    let rest = given-follow cs (after V c) m in
    omega (arith, one, rest)

denied-follow : (cs : List Command) (V : Vault) (m : Bytes)
    → denied_by (run cs V) m ≡ denied_by V m + answered_so denies_number m cs V
denied-follow [] V m = sym (add-zero (denied_by V m))
denied-follow (c ∷ cs) V m =
    let one = (follows V m c).1 in
    let rest = denied-follow cs (after V c) m in
    omega (arith, one, rest)

pub counts_follow : CountsFollow
counts_follow V cs m = (given-follow cs V m, denied-follow cs V m)
