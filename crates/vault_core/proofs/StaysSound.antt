-- Every command leaves a sound vault sound.
use Rattle.std.proofs.Common.{◌≡◌, ℕ, ◌+◌, ◌<◌, ◌≤◌, Bool, true, false, cond, Option, Some, None, [], ◌∷◌}
use Rattle.std.proofs.Common.{not, refl, sym, ◌∙◌, subst, arith, nat_lt, ◌==◌, ◌≢◌, true≢false}
use Rattle.std.specs.Prelude.{IfSome}
use Rattle.std.specs.FinMap as map
use Rattle.std.specs.Cmp.{first_so, second_so}
use Rattle.std.proofs.lemmas.Bool.Decides.{nat_tests}
use Rattle.vault_core.specs.Keys.{Bytes}
use Rattle.vault_core.specs.Laws.{StaysSound}
use Rattle.vault_core.specs.Lives.{AreLives, new_merchant, with_lives}
use Rattle.vault_core.specs.Merchants.{granting, set_from, set_to, withdrawal}
use Rattle.vault_core.specs.Name.{IsName}
use Rattle.vault_core.specs.Parts.{token_command, token_request}
use Rattle.vault_core.specs.Outcome.{Outcome, plain_refusal, moved_vault, plain_reply, entry_change, on_token}
use Rattle.vault_core.specs.Proper.{IsProper}
use Rattle.vault_core.specs.Repeats.{is_reusable}
use Rattle.vault_core.specs.Scalar.{IsMoment}
use Rattle.vault_core.specs.Sound.{Sound, IsSoundEntry, IsNumber, IsRevocation}
use Rattle.vault_core.specs.Table.{after}
use Rattle.vault_core.specs.Vault.{Vault, Merchant, merchant_at, entry_at, made_count, time_at, entitled}
use Rattle.vault_core.specs.Vault.{state_of}
use Rattle.vault_core.specs.declared.limit.TheConstants.{MOST_MERCHANTS, MOST_COUNT}
use Rattle.vault_core.specs.declared.command.Command.{Command}
use Rattle.vault_core.specs.declared.command.Command.TheVariants.{Grant, Withdraw, Tokenize, Detokenize, View}
use Rattle.vault_core.specs.declared.command.Command.TheVariants.{Revoke, Purge, Audit}
use Rattle.vault_core.specs.Refusals.{no_merchant, too_many_merchants, no_right, full}
use Rattle.vault_core.specs.declared.right.Right.{Right}
use Rattle.vault_core.specs.declared.row.Lives.{Lives}
use Rattle.vault_core.specs.declared.right.Right.TheVariants as right
use Rattle.vault_core.specs.declared.row.Entry.{Entry}
use Rattle.vault_core.proofs.Setting.{at_setting}
use Rattle.vault_core.proofs.Branches.{by_test, by_option}
use Rattle.vault_core.proofs.Maps.{bytes_total, bytes_exact, get-insert_same}
use Rattle.vault_core.proofs.SoundMoved.{known-set, sound-moved, sound-counts}
use Rattle.vault_core.proofs.Steps.{sound-merchant, sound-right, sound-unright, sound-changed, later_entry}
use Rattle.std.specs.Option.{option_map_or}
use Rattle.vault_core.specs.Redeem.{detokenize}
use Rattle.vault_core.specs.Retire.{retirement, revoke, revoked_entry, purging, purge, without_number}
use Rattle.vault_core.specs.Show.{view, audit, showing, totals}
use Rattle.vault_core.specs.declared.command.TokenCommand.{TokenCommand}
use Rattle.vault_core.specs.declared.reply.Reply.TheVariants.{Counts}
use Rattle.vault_core.specs.declared.reply.State.{State}
use Rattle.vault_core.specs.declared.reply.State.TheVariants.{Live, Expired, Revoked}
use Rattle.vault_core.specs.declared.row.EntryState.{EntryState}
use Rattle.vault_core.specs.declared.row.EntryState.TheVariants.{Kept, Purged}
use Rattle.vault_core.proofs.Finds.{some_same}
use Rattle.vault_core.proofs.Redeemed.{kept-has, kept-dead}
use Rattle.vault_core.proofs.Walks.{by_redeem, by_token}
use Rattle.vault_core.proofs.SoundTokens.{sound-tokenize}

-- the vault that an outcome leaves is sound
abbrev SoundAfter : Outcome → Type 0
SoundAfter o = Sound o.after

sound-grant : (V : Vault) → Sound V → (caller m : Bytes) (right : Right) (until : Option ℕ) (now : ℕ)
    → IsName caller → IfSome until IsMoment → IsMoment now → Sound (after V (Grant caller m right until now))
sound-grant V s caller m right until now name end moment =
    by_option SoundAfter (merchant_at V m) (granting V (caller, (m, right)) until now)
    (plain_refusal V no_merchant)
    (λ known e. sound-right (moved_vault V m known now) (sound-moved V s m known now e moment) caller m right
    (record { ends = until }) (record known { moment = time_at known now }) name end
    (get-insert_same bytes_total bytes_exact V.merchants m _))
    (λ none. s)

at_most : (b : Bool) (n : ℕ) → cond b n (n + 1) ≤ n + 1
at_most true n = omega arith
at_most false n = omega arith

below-true : (a b : ℕ) → nat_lt a b ≡ true → a < b
below-true a b h = grind (arith, nat_tests)

sound-set : (V : Vault) → Sound V → (m : Bytes) (x : Lives) → IsName m → AreLives x → IsMoment x.moment
    → (o : Option Merchant) → merchant_at V m ≡ o
    → SoundAfter (set_from V m x o)
sound-set V s m x name lives moment None e =
    by_test SoundAfter (nat_lt (map.len V.merchants) MOST_MERCHANTS)
    (set_to V m (new_merchant x)) (plain_refusal V too_many_merchants)
    (λ few.
    let below = below-true _ _ few in
    let count = map.len-insert bytes_total V.merchants m (new_merchant x) in
    let most = at_most (map.contains_key V.merchants m) (map.len V.merchants) in
    sound-merchant V s m (new_merchant x)
    (record {
      name = name;
      lives = lives;
      moment = moment;
      given = omega arith;
      denied = omega arith;
    })
    (λ old at. let clash = sym e ∙ at in cc)
    (omega (arith, count, most, below)))
    (λ many. s)
sound-set V s m x name lives moment (Some known) e =
    let old = s.merchants m known e in
    let before = old.moment in
    known-set V s m known
    (with_lives (record x { moment = time_at known x.moment }) known) e
    (record {
      name = old.name;
      lives = lives;
      moment = omega arith;
      given = old.given;
      denied = old.denied;
    })
    (omega arith)

sound-withdraw : (V : Vault) → Sound V → (caller m : Bytes) (right : Right) (now : ℕ) → IsMoment now
    → Sound (after V (Withdraw caller m right now))
sound-withdraw V s caller m right now moment =
    by_option SoundAfter (merchant_at V m) (withdrawal V caller m right now) (plain_refusal V no_merchant)
    (λ known e. sound-unright (moved_vault V m known now) (sound-moved V s m known now e moment) caller m
    right)
    (λ none. s)

below : (n : ℕ) → n ≤ MOST_COUNT → (n == MOST_COUNT) ≡ false → n + 1 ≤ MOST_COUNT
below n le h = grind (arith, nat_tests)

sound-detokenize : (V : Vault) → Sound V → (t : TokenCommand) → IsMoment t.moment
    → SoundAfter (detokenize V t)
sound-detokenize V s t moment =
    by_redeem SoundAfter V t s
    (λ known reason e _. by_test SoundAfter (known.denied == MOST_COUNT) (plain_refusal V full) _ (λ _. s)
    (λ room. let old = s.merchants t.merchant known e in
    sound-counts V s t.merchant known t.moment known.given (known.denied + 1) e moment old.given
    (below known.denied old.denied room)))
    (λ known number e. by_test SoundAfter (known.given == MOST_COUNT) (plain_refusal V full) _ (λ _. s)
    (λ room. let old = s.merchants t.merchant known e in
    sound-counts V s t.merchant known t.moment (known.given + 1) known.denied e moment
    (below known.given old.given room) old.denied))

sound-view : (V : Vault) → Sound V → (t : TokenCommand) → SoundAfter (view V t)
sound-view V s t =
    by_token SoundAfter V t (λ known. plain_refusal V) (showing V) s (λ _ _ _ _. s)
    (λ known entry state _ _ _. seen known entry state)
  where
    seen : (known : Merchant) (entry : Entry) (state : EntryState) → SoundAfter (showing V known entry state)
    seen known entry Purged = s
    seen known entry (Kept number state) = s

sound-audit : (V : Vault) → Sound V → (caller m : Bytes) (now : ℕ) → SoundAfter (audit V caller m now)
sound-audit V s caller m now =
    by_option SoundAfter (merchant_at V m) (totals V caller m now) (plain_refusal V no_merchant)
    (λ known _. by_test SoundAfter (not (entitled V caller m right.Audit (time_at known now)))
    (plain_refusal V no_right) (plain_reply V (Counts (made_count V m) known.given known.denied))
    (λ _. s) (λ _. s))
    (λ none. s)

-- a moment at which an entry is revoked is from its birth to the merchant's moment
revocation : (entry : Entry) (at : ℕ) (o : Option ℕ) → entry.birth ≤ at → IsRevocation entry at o
    → (entry.birth ≤ option_map_or (λ (first : ℕ). first) o at)
    × (option_map_or (λ (first : ℕ). first) o at ≤ at)
revocation entry at None birth h = (birth, omega arith)
revocation entry at (Some first) birth h = h

numbered : (token : Bytes) (entry entry' : Entry) (moment : ℕ) (o : Option Bytes) (number : Bytes)
    → o ≡ Some number
    → IsNumber token entry moment o → IsNumber token entry' moment o
numbered token entry entry' moment None number has h = cc
numbered token entry entry' moment (Some other) number has h = h

-- what is revoked can't be given again
not_reusable : (pan : Bytes) (moment at : ℕ) (entry : Entry)
    → is_reusable pan moment (revoked_entry entry at) ≡ true → ⊥
not_reusable pan moment at entry h = true≢false (sym (second_so _ _ (first_so _ _ (second_so _ _ h))))

-- what has no number can't be given again
numberless : (pan : Bytes) (at : ℕ) (entry : Entry) → is_reusable pan at (without_number entry) ≡ true → ⊥
numberless pan at entry h = true≢false (sym (second_so _ _ (first_so _ _ h)))

-- the entry of a command's token changes, and can't be given again where it couldn't before
module _ (V : Vault) (s : Sound V) (t : TokenCommand) (moment : IsMoment t.moment) where
  sound-with_entry : (known : Merchant) → merchant_at V t.merchant ≡ Some known
      → (entry new : Entry) → entry_at V t.merchant t.token ≡ Some entry → new.usage ≡ entry.usage
      → (IsSoundEntry t.token entry (record known { moment = time_at known t.moment })
      → IsSoundEntry t.token new (record known { moment = time_at known t.moment }))
      → ((pan : Bytes) → is_reusable pan (time_at known t.moment) new ≡ true
      → is_reusable pan (time_at known t.moment) entry ≡ true)
      → SoundAfter (entry_change V t known new)
  sound-with_entry known e entry new here usage fine reuse =
      let later : Merchant = record known { moment = time_at known t.moment } in
      let old = s.entries t.merchant t.token entry here in
      let is_known : old.0 ≡ known = some_same (sym old.1 ∙ e) in
      let was : IsSoundEntry t.token entry later =
      later_entry t.token entry known later (omega arith)
      (subst (λ (x : Merchant). IsSoundEntry t.token entry x) is_known old.2) in
      sound-changed (moved_vault V t.merchant known t.moment)
      (sound-moved V s t.merchant known t.moment e moment) t.merchant t.token entry new later
      (get-insert_same bytes_total bytes_exact V.merchants t.merchant later) here (fine was) usage reuse

  -- what the answer to each state of a known token's entry leaves is sound
  abbrev Leaves : (Merchant → Entry → EntryState → Outcome) → Type 0
  Leaves answer =
      (known : Merchant) → merchant_at V t.merchant ≡ Some known → (entry : Entry)
      → entry_at V t.merchant t.token ≡ Some entry → (state : EntryState)
      → state_of entry (time_at known t.moment) ≡ state → SoundAfter (answer known entry state)

  sound-by_state : (answer : Merchant → Entry → EntryState → Outcome) → Leaves answer
      → SoundAfter (on_token V t (λ known. plain_refusal V) answer)
  sound-by_state answer leaves =
      by_token SoundAfter V t (λ known. plain_refusal V) answer s (λ _ _ _ _. s)
      (λ known entry state e here is. leaves known e entry here state is)

  sound-revoke : SoundAfter (revoke V t)
  sound-revoke = sound-by_state (retirement V t) ended
    where
      ended : Leaves (retirement V t)
      ended known e entry here Purged is = s
      ended known e entry here (Kept number state) is =
          let at = time_at known t.moment in
          let has = (kept-has entry at number state is).0 in
          sound-with_entry known e entry (revoked_entry entry at) here refl
          (λ was. record {
            token_fails = was.token_fails;
            number = numbered t.token entry (revoked_entry entry at) at entry.number number has was.number;
            birth = was.birth;
            lives = was.lives;
            life = was.life;
            revoked = revocation entry at entry.revoked was.birth was.revoked;
          })
          (λ pan again. absurd (not_reusable pan at at entry again))

  sound-purge : SoundAfter (purge V t)
  sound-purge = sound-by_state (purging V t) ended
    where
      without : (known : Merchant) → merchant_at V t.merchant ≡ Some known → (entry : Entry)
          → entry_at V t.merchant t.token ≡ Some entry → (number : Bytes) (state : State) → state ≢ Live
          → state_of entry (time_at known t.moment) ≡ Kept number state
          → SoundAfter (entry_change V t known (without_number entry))
      without known e entry here number state dead is =
          sound-with_entry known e entry (without_number entry) here refl
          (λ was. record {
            token_fails = was.token_fails;
            number = kept-dead entry (time_at known t.moment) number state is dead;
            birth = was.birth;
            lives = was.lives;
            life = was.life;
            revoked = was.revoked;
          })
          (λ pan again. absurd (numberless pan (time_at known t.moment) entry again))

      ended : Leaves (purging V t)
      ended known e entry here Purged is = sound-moved V s t.merchant known t.moment e moment
      ended known e entry here (Kept number Live) is = s
      ended known e entry here (Kept number Revoked) is =
          without known e entry here number Revoked (λ h. cc) is
      ended known e entry here (Kept number Expired) is =
          without known e entry here number Expired (λ h. cc) is

pub sound-after : (V : Vault) → Sound V → (c : Command) → IsProper c → Sound (after V c)
sound-after V s (Grant caller m right until now) p = sound-grant V s caller m right until now p.0 p.2 p.3
sound-after V s (Withdraw caller m right now) p = sound-withdraw V s caller m right now p.2
sound-after V s (Tokenize caller m request usage pan digits now) p =
    sound-tokenize V s (token_request caller m request usage pan (now, digits)) p
sound-after V s (Detokenize caller m token now) p =
    sound-detokenize V s (token_command caller m token right.Detokenize now) p.3
sound-after V s (View caller m token now) p = sound-view V s (token_command caller m token right.View now)
sound-after V s (Revoke caller m token now) p =
    sound-revoke V s (token_command caller m token right.Revoke now) p.3
sound-after V s (Purge caller m token now) p =
    sound-purge V s (token_command caller m token right.Purge now) p.3
sound-after V s (Audit caller m now) p = sound-audit V s caller m now
sound-after V s c p = at_setting (λ set. IsProper set → Sound (after V set))
    (λ m x q. sound-set V s m x q.0 q.1 q.2 (merchant_at V m) refl) c refl p

pub stays_sound : StaysSound
stays_sound V [] s p = s
stays_sound V (c ∷ cs) s p = stays_sound (after V c) cs (sound-after V s c p.0) p.1
