-- What was answered to a request is answered again.
use Rattle.std.proofs.Common.{◌≡◌, ℕ, Bool, true, false, cond, Option, Some, None, List, [], ◌∷◌, not}
use Rattle.std.proofs.Common.{is_none, refl, sym, ap, ◌∙◌, subst, inl, inr, ◌==◌, ◌&&◌}
use Rattle.std.specs.Option.{option_map_or}
use Rattle.std.specs.FinMap as map
use Rattle.std.specs.Cmp.{first_so, second_so, tied_itself}
use Rattle.std.specs.Cmp.Lexicographic.{texts_ties}
use Rattle.std.specs.Ordering.{is_eq}
use Rattle.vault_pan.specs.CardText.{same, fits}
use Rattle.vault_core.specs.Draw.{chosen_token}
use Rattle.vault_core.specs.Keys.{Bytes, bytes_cmp}
use Rattle.vault_core.specs.Laws.{IsSameRequest, RepeatsAnswerFirst}
use Rattle.vault_core.specs.Merchants.{granting, withdrawal}
use Rattle.vault_core.specs.Parts.{token_command, command_of, token_request}
use Rattle.vault_core.specs.Outcome.{Outcome, plain_reply, plain_refusal, of_merchant, entry_change}
use Rattle.vault_core.specs.Proper.{AllProper}
use Rattle.vault_core.specs.Repeats.{current, is_repeat, is_number_of, reusable, same_use}
use Rattle.vault_core.specs.Retire.{retirement, revoked_entry, purging, without_number}
use Rattle.vault_core.specs.Runs.{run}
use Rattle.vault_core.specs.Show.{showing, totals}
use Rattle.vault_core.specs.Sound.{Sound, IsNumber}
use Rattle.vault_core.specs.Table.{after}
use Rattle.vault_core.specs.Tokens.{earlier_request, repetition, new_request, token_again, new_token}
use Rattle.vault_core.specs.Tokens.{new_entry, tokenize}
use Rattle.vault_core.specs.Vault.{Vault, Merchant, merchant_at, entry_at, record_at, entitled, made_count}
use Rattle.vault_core.specs.Vault.{time_at, state_of}
use Rattle.vault_core.specs.declared.limit.TheConstants.{MOST_COUNT}
use Rattle.vault_core.specs.declared.command.Command.{Command}
use Rattle.vault_core.specs.declared.command.Command.TheVariants.{Grant, Withdraw, Tokenize}
use Rattle.vault_core.specs.declared.command.Command.TheVariants.{Detokenize, View, Revoke, Purge, Audit}
use Rattle.vault_core.specs.declared.command.TokenCommand.{TokenCommand}
use Rattle.vault_core.specs.declared.command.TokenRequest.{TokenRequest}
use Rattle.vault_core.specs.Refusals.{no_merchant, no_right, number_reused, full}
use Rattle.vault_core.specs.declared.reply.Reply.{Reply}
use Rattle.vault_core.specs.declared.reply.Reply.TheVariants.{Token, Refused, Counts}
use Rattle.vault_core.specs.declared.reply.State.TheVariants.{Live, Expired, Revoked}
use Rattle.vault_core.specs.declared.right.Right.TheVariants as right
use Rattle.vault_core.specs.declared.row.Entry.{Entry}
use Rattle.vault_core.specs.declared.row.EntryState.{EntryState}
use Rattle.vault_core.specs.declared.row.EntryState.TheVariants.{Kept, Purged}
use Rattle.vault_core.specs.declared.row.Record.{Record}
use Rattle.vault_core.specs.declared.usage.Use.{Use}
use Rattle.vault_core.specs.declared.usage.Use.TheVariants.{Single, Multi}
use Rattle.vault_core.proofs.Setting.{at_setting, by_set}
use Rattle.vault_core.proofs.TokenRequests.{by_request}
use Rattle.vault_core.proofs.Branches.{by_test, by_option}
use Rattle.vault_core.proofs.CurrentLemmas.{current-some, same-is}
use Rattle.vault_core.proofs.DrawLemmas.{chosen-is_good}
use Rattle.vault_core.proofs.Finds.{some_same}
use Rattle.vault_core.proofs.Maps.{bytes_total, entry_total, entry_exact, record_total, record_exact, tied}
use Rattle.vault_core.proofs.Maps.{get-insert_same, get-insert_other}
use Rattle.vault_core.proofs.Redeemed.{kept-has}
use Rattle.vault_core.proofs.StaysSound.{sound-after}
use Rattle.vault_core.proofs.Walks.{by_redeem, by_token}

-- the entry is still there with its expires, and with its number or purged
abbrev pub KeptEntry : Bytes → Entry → Option Entry → Type 0
KeptEntry token e found =
    (e' : Entry) × (found ≡ Some e') × (e'.expires ≡ e.expires)
    × ((pan : Bytes) → is_number_of pan token e.number ≡ true → is_number_of pan token e'.number ≡ true)

pub same-entry : (token : Bytes) (e : Entry) (found : Option Entry) → found ≡ Some e → KeptEntry token e found
same-entry token e found h = (e, h, refl, λ pan x. x)

-- records and entries stay
pub record Keeps (old new : Vault) : Type 0 where
  pub records : (caller : Bytes) (request : ℕ) (r : Record) → record_at old caller request ≡ Some r
      → record_at new caller request ≡ Some r
  pub entries : (m token : Bytes) (e : Entry) → entry_at old m token ≡ Some e
      → KeptEntry token e (entry_at new m token)

pub keeps-refl : (V : Vault) → Keeps V V
keeps-refl V = record {
  records = λ caller request r e. e;
  entries = λ m token e' e. same-entry token e' (entry_at V m token) e;
}

-- only merchants change
keeps-row : (V : Vault) (merchants : map.FinMap bytes_cmp Merchant)
    → Keeps V (record V { merchants = merchants })
keeps-row V merchants =
    record {
      records = λ caller request r e. e;
      entries = λ m token e' e. same-entry token e' (entry_at V m token) e;
    }

-- an entry changes that keeps its expires and answers to the same numbers
keeps-entry : (V : Vault) (merchants : map.FinMap bytes_cmp Merchant) (m token : Bytes) (old new : Entry)
    → entry_at V m token ≡ Some old → new.expires ≡ old.expires
    → ((pan : Bytes) → is_number_of pan token old.number ≡ true → is_number_of pan token new.number ≡ true)
    → Keeps V (record V { merchants = merchants; entries = map.insert V.entries (m, token) new })
keeps-entry V merchants m token old new here expires numbers = record {
  records = λ caller request r e. e;
  entries = λ m' token' e' e.
      elim (tied entry_exact (m', token') (m, token)) [
        | inl same ↦
            let was : e' ≡ old = some_same (sym e ∙ ap (map.get V.entries) same ∙ here) in
            let own = ap (λ (k : Bytes × Bytes). k.1) same in (
              new,
              ap (map.get (map.insert V.entries (m, token) new)) same
                  ∙ get-insert_same entry_total entry_exact V.entries (m, token) new,
              expires ∙ sym (ap (λ (x : Entry). x.expires) was),
              λ pan is.
                  subst (λ (t : Bytes). is_number_of pan t new.number ≡ true) (sym own)
                  (numbers pan (subst (λ (t : Bytes). is_number_of pan t old.number ≡ true) own
                  (subst (λ (x : Entry). is_number_of pan token' x.number ≡ true) was is))),
            )
        | inr apart ↦
            same-entry token' e' _
            (get-insert_other entry_total entry_exact V.entries (m, token) new (m', token') apart ∙ e)
      ];
}

-- what the vault has of a request that was answered
pub record Remembers (V : Vault) (a : TokenRequest) (token : Bytes) (expires : ℕ) : Type 0 where
  pub held : Record
  pub entry : Entry
  pub record_is : record_at V a.caller a.request ≡ Some held
  pub entry_is : entry_at V held.merchant held.token ≡ Some entry
  pub repeat : is_repeat a.merchant a.usage a.pan held entry ≡ true
  pub token_is : held.token ≡ token
  pub expires_is : entry.expires ≡ expires

both-true : (a b c : Bool) → a ≡ true → b ≡ true → c ≡ true → (a && b && c) ≡ true
both-true a b c p q r = ap (λ x. x && b && c) p ∙ ap (λ x. x && c) q ∙ r

pub still_remembers : (old new : Vault) → Keeps old new → (a : TokenRequest) (token : Bytes) (expires : ℕ)
    → Remembers old a token expires → Remembers new a token expires
still_remembers old new keeps a token expires h =
    let k = keeps.entries h.held.merchant h.held.token h.entry h.entry_is in
    record {
      held = h.held;
      entry = k.0;
      record_is = keeps.records _ _ _ h.record_is;
      entry_is = k.1;
      repeat = both-true (same h.held.merchant a.merchant) (same_use h.held.usage a.usage)
          (is_number_of a.pan h.held.token k.0.number)
          (first_so _ _ (first_so _ _ h.repeat)) (second_so _ _ (first_so _ _ h.repeat))
          (k.3 a.pan (second_so _ _ h.repeat));
      token_is = h.token_is;
      expires_is = k.2 ∙ h.expires_is;
    }

pub same-refl : (xs : Bytes) → same xs xs ≡ true
same-refl xs = texts_ties xs xs ∙ ap (λ r. is_eq r) (tied_itself bytes_total xs)

same_use-refl : (u : Use) → same_use u u ≡ true
same_use-refl Single = refl
same_use-refl Multi = refl

insert-keeps_record : (V : Vault) (caller : Bytes) (request : ℕ) (r : Record)
    → record_at V caller request ≡ None
    → (caller' : Bytes) (request' : ℕ) (r' : Record) → record_at V caller' request' ≡ Some r'
    → map.get (map.insert V.records (caller, request) r) (caller', request') ≡ Some r'
insert-keeps_record V caller request r none caller' request' r' e =
    elim (tied record_exact (caller', request') (caller, request)) [
      | inl same ↦ let clash = sym e ∙ ap (map.get V.records) same ∙ none in cc
      | inr apart ↦ get-insert_other record_total record_exact V.records (caller, request) r
          (caller', request') apart ∙ e
    ]

insert-keeps_entry : (V : Vault) (m token : Bytes) (entry : Entry) → entry_at V m token ≡ None
    → (m' token' : Bytes) (e' : Entry) → entry_at V m' token' ≡ Some e'
    → map.get (map.insert V.entries (m, token) entry) (m', token') ≡ Some e'
insert-keeps_entry V m token entry none m' token' e' e =
    elim (tied entry_exact (m', token') (m, token)) [
      | inl same ↦ let clash = sym e ∙ ap (map.get V.entries) same ∙ none in cc
      | inr apart ↦ get-insert_other entry_total entry_exact V.entries (m, token) entry (m', token') apart ∙ e
    ]

none_is : (o : Option Entry) → is_none o ≡ true → o ≡ None
none_is None h = refl
none_is (Some x) h = cc

chosen-none : (V : Vault) (a : TokenRequest) (token : Bytes)
    → chosen_token V a.merchant a.pan a.digits ≡ Some token
    → entry_at V a.merchant token ≡ None
chosen-none V a token drew = none_is _ (second_so _ _ (chosen-is_good V a.merchant a.pan a.digits token drew))

-- an outcome keeps what the vault held, and an answer with a token is remembered
pub record IsFaithful (V : Vault) (a : TokenRequest) (o : Outcome) : Type 0 where
  pub keeps : Keeps V o.after
  pub remembers : (token : Bytes) (expires : ℕ) → o.reply ≡ Token token expires
      → Remembers o.after a token expires

refusal : (V : Vault) (a : TokenRequest) (n : ℕ) → IsFaithful V a (plain_reply V (Refused n))
refusal V a n = record { keeps = keeps-refl V; remembers = λ token expires e. absurd (cc) }

fresh-repeat : (a : TokenRequest) (token : Bytes) (entry : Entry)
    → is_number_of a.pan token entry.number ≡ true
    → is_repeat a.merchant a.usage a.pan (record { merchant = a.merchant; token = token; usage = a.usage })
    entry ≡ true
fresh-repeat a token entry number = both-true _ _ _ (same-refl a.merchant) (same_use-refl a.usage) number

number-again : (pan token : Bytes) (o : Option Bytes)
    → option_map_or (λ number. same number pan) o false ≡ true
    → is_number_of pan token o ≡ true
number-again pan token None h = cc
number-again pan token (Some number) h = h

pub token-same : (t t' : Bytes) (x x' : ℕ) → ◌≡◌ {A = Reply} (Token t x) (Token t' x') → (t ≡ t') × (x ≡ x')
token-same t t' x x' h = (cc, cc)

faithful-again : (V : Vault) (a : TokenRequest) (known : Merchant) → record_at V a.caller a.request ≡ None
    → (usage : Use) (held : Bytes × Entry)
    → reusable usage (current V a.merchant a.pan (time_at known a.moment)) ≡ Some held
    → IsFaithful V a (token_again V a known held)
faithful-again V a known none Single held h = absurd (cc)
faithful-again V a known none Multi held h =
    let found = current-some V a.merchant a.pan (time_at known a.moment) held h in
    let r : Record = record { merchant = a.merchant; token = held.0; usage = a.usage } in
    record {
      keeps = record {
        records = insert-keeps_record V a.caller a.request r none;
        entries = λ m t e' e. same-entry t e' (entry_at V m t) e;
      };
      remembers = λ token expires e.
          let parts = token-same held.0 token held.1.expires expires e in
          record {
            held = r;
            entry = held.1;
            record_is = get-insert_same record_total record_exact V.records (a.caller, a.request) r;
            entry_is = found.0;
            repeat = fresh-repeat a held.0 held.1 (number-again a.pan held.0 held.1.number
                (second_so _ _ (first_so _ _ found.1)));
            token_is = parts.0;
            expires_is = parts.1;
          };
    }

faithful-new : (V : Vault) (a : TokenRequest) (known : Merchant) → record_at V a.caller a.request ≡ None
    → (token : Bytes) → chosen_token V a.merchant a.pan a.digits ≡ Some token
    → IsFaithful V a (new_token V a known token)
faithful-new V a known none token drew =
    let r : Record = record { merchant = a.merchant; token = token; usage = a.usage } in
    let entry = new_entry a known in
    record {
      keeps = record {
        records = insert-keeps_record V a.caller a.request r none;
        entries = λ m t e' e. same-entry t e' _ (insert-keeps_entry V a.merchant token entry
            (chosen-none V a token drew) m t e' e);
      };
      remembers = λ token' expires e.
          let parts = token-same token token' entry.expires expires e in
          record {
            held = r;
            entry = entry;
            record_is = get-insert_same record_total record_exact V.records (a.caller, a.request) r;
            entry_is = get-insert_same entry_total entry_exact V.entries (a.merchant, token) entry;
            repeat = fresh-repeat a token entry (same-refl a.pan);
            token_is = parts.0;
            expires_is = parts.1;
          };
    }

pub faithful-tokenize : (V : Vault) → Sound V → (a : TokenRequest) → IsFaithful V a (tokenize V a)
faithful-tokenize V s a =
    by_request (IsFaithful V a) V a (refusal V a)
    (λ r entry held here repeat. record {
      keeps = keeps-refl V;
      remembers = λ token expires is.
          let parts = token-same r.token token entry.expires expires is in
          record {
            held = r;
            entry = entry;
            record_is = held;
            entry_is = here;
            repeat = repeat;
            token_is = parts.0;
            expires_is = parts.1;
          };
    })
    (λ known held none _ one. faithful-again V a known none a.usage held one)
    (λ known token none _ _ _ _ drew. faithful-new V a known none token drew)

abbrev KeepsAfter : Vault → Outcome → Type 0
KeepsAfter V o = Keeps V o.after

-- a command keeps records and entries
pub keeps-after : (V : Vault) → Sound V → (c : Command) → Keeps V (after V c)
keeps-after V s (Grant caller m right until now) =
    by_option (KeepsAfter V) (merchant_at V m) (granting V (caller, (m, right)) until now)
    (plain_refusal V no_merchant)
    (λ known e. record {
      records = λ caller request r e. e;
      entries = λ m t e' e. same-entry t e' (entry_at V m t) e;
    }) (λ _. keeps-refl V)
keeps-after V s (Withdraw caller m right now) =
    by_option (KeepsAfter V) (merchant_at V m) (withdrawal V caller m right now) (plain_refusal V no_merchant)
    (λ known e. record {
      records = λ caller request r e. e;
      entries = λ m t e' e. same-entry t e' (entry_at V m t) e;
    }) (λ _. keeps-refl V)
keeps-after V s (Tokenize caller m request usage pan digits now) =
    (faithful-tokenize V s (token_request caller m request usage pan (now, digits))).keeps
keeps-after V s (Detokenize caller m token now) =
    by_redeem (KeepsAfter V) V (token_command caller m token right.Detokenize now) (keeps-refl V)
    (λ known reason _ _. by_test (KeepsAfter V) (known.denied == MOST_COUNT) (plain_refusal V full) _
    (λ _. keeps-refl V) (λ _. keeps-row V _))
    (λ known number _. by_test (KeepsAfter V) (known.given == MOST_COUNT) (plain_refusal V full) _
    (λ _. keeps-refl V) (λ _. keeps-row V _))
keeps-after V s (View caller m token now) =
    by_token (KeepsAfter V) V (token_command caller m token right.View now) (λ known. plain_refusal V)
    (showing V)
    (keeps-refl V) (λ _ _ _ _. keeps-refl V) (λ known entry state _ _ _. seen known entry state)
  where
    seen : (known : Merchant) (entry : Entry) (state : EntryState)
        → KeepsAfter V (showing V known entry state)
    seen known entry Purged = keeps-refl V
    seen known entry (Kept number state) = keeps-refl V
keeps-after V s (Revoke caller m token now) =
    by_token (KeepsAfter V) V t (λ known. plain_refusal V) (retirement V t)
    (keeps-refl V) (λ _ _ _ _. keeps-refl V) (λ known entry state _ here _. ended known entry here state)
  where
    t : TokenCommand
    t = token_command caller m token right.Revoke now

    ended : (known : Merchant) (entry : Entry) → entry_at V m token ≡ Some entry → (state : EntryState)
        → KeepsAfter V (retirement V t known entry state)
    ended known entry here Purged = keeps-refl V
    ended known entry here (Kept number state) =
        keeps-entry V _ m token entry (revoked_entry entry (time_at known now)) here refl (λ pan x. x)
keeps-after V s (Purge caller m token now) =
    by_token (KeepsAfter V) V t (λ known. plain_refusal V) (purging V t)
    (keeps-refl V) (λ _ _ _ _. keeps-refl V) (λ known entry state _ here is. ended known entry here state is)
  where
    t : TokenCommand
    t = token_command caller m token right.Purge now

    -- the number that is purged fits the token
    fitting : (entry : Entry) → entry_at V m token ≡ Some entry → (number : Bytes)
        → entry.number ≡ Some number
        → fits token number ≡ true
    fitting entry here number has =
        let found = s.entries m token entry here in
        (subst (λ (o : Option Bytes). IsNumber token entry found.0.moment o) has found.2.number).1

    still : (entry : Entry) → entry_at V m token ≡ Some entry → (number : Bytes) → entry.number ≡ Some number
        → (pan : Bytes) → is_number_of pan token entry.number ≡ true → fits token pan ≡ true
    still entry here number has pan is =
        let own = same-is number pan (subst (λ (o : Option Bytes). is_number_of pan token o ≡ true) has is) in
        subst (λ (x : Bytes). fits token x ≡ true) own (fitting entry here number has)

    without : (known : Merchant) (entry : Entry) → entry_at V m token ≡ Some entry → (number : Bytes)
        → entry.number ≡ Some number → KeepsAfter V (entry_change V t known (without_number entry))
    without known entry here number has =
        keeps-entry V _ m token entry (without_number entry) here refl (still entry here number has)

    ended : (known : Merchant) (entry : Entry) → entry_at V m token ≡ Some entry → (state : EntryState)
        → state_of entry (time_at known now) ≡ state → KeepsAfter V (purging V t known entry state)
    ended known entry here Purged is = keeps-row V _
    ended known entry here (Kept number Live) is = keeps-refl V
    ended known entry here (Kept number Revoked) is =
        without known entry here number (kept-has entry (time_at known now) number Revoked is).0
    ended known entry here (Kept number Expired) is =
        without known entry here number (kept-has entry (time_at known now) number Expired is).0
keeps-after V s (Audit caller m now) =
    by_option (KeepsAfter V) (merchant_at V m) (totals V caller m now) (plain_refusal V no_merchant)
    (λ known _. by_test (KeepsAfter V) (not (entitled V caller m right.Audit (time_at known now)))
    (plain_refusal V no_right) (plain_reply V (Counts (made_count V m) known.given known.denied))
    (λ _. keeps-refl V) (λ _. keeps-refl V))
    (λ _. keeps-refl V)
keeps-after V s c = at_setting (λ set. Keeps V (after V set))
    (λ m x. by_set (KeepsAfter V) V m x (merchant_at V m)
    (λ _. keeps-row V _) (λ _. keeps-refl V) (λ known. keeps-row V _)) c refl

remembered : (V : Vault) → Sound V → (cs : List Command) → AllProper cs
    → (a : TokenRequest) (token : Bytes) (expires : ℕ)
    → Remembers V a token expires → Remembers (run cs V) a token expires
remembered V s [] p a token expires h = h
remembered V s (c ∷ cs) p a token expires h =
    remembered (after V c) (sound-after V s c p.0) cs p.1 a token expires
    (still_remembers V (after V c) (keeps-after V s c) a token expires h)

-- what is remembered is answered
answered : (V : Vault) (a : TokenRequest) (token : Bytes) (expires : ℕ) → Remembers V a token expires
    → (tokenize V a).reply ≡ Token token expires
answered V a token expires h =
    ap (λ (o : Option Record). (option_map_or (earlier_request V a) o
    (of_merchant V a.merchant (new_request V a))).reply) h.record_is
    ∙ ap (λ (o : Option Entry). (option_map_or (repetition V a h.held) o
    (plain_refusal V number_reused)).reply) h.entry_is
    ∙ ap (λ b. (cond b (plain_reply V (Token h.held.token h.entry.expires))
    (plain_refusal V number_reused)).reply) h.repeat
    ∙ (λ i. Token (h.token_is i) (h.expires_is i))

same-request : (V : Vault) (first again : TokenRequest) (token : Bytes) (expires : ℕ)
    → IsSameRequest first again
    → Remembers V first token expires → Remembers V again token expires
same-request V first again token expires is h = record {
  held = h.held;
  entry = h.entry;
  record_is = ap (map.get V.records) (λ i. (is.caller i, is.number i)) ∙ h.record_is;
  entry_is = h.entry_is;
  repeat = (λ i. is_repeat (is.merchant i) (is.usage i) (is.pan i) h.held h.entry) ∙ h.repeat;
  token_is = h.token_is;
  expires_is = h.expires_is;
}

pub repeats : RepeatsAnswerFirst
repeats V first again between token expires s p between_proper is told =
    let told_first = (faithful-tokenize V s first).remembers token expires told in
    let V1 = after V (command_of first) in
    let later = remembered V1 (sound-after V s (command_of first) p) between between_proper first token
    expires told_first in
    answered (run between V1) again token expires
    (same-request (run between V1) first again token expires is later)
