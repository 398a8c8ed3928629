-- A request for a token leaves a sound vault sound.
use Rattle.std.proofs.Common.{◌≡◌, ℕ, ◌+◌, ◌<◌, ◌≤◌, Bool, true, false, Option, Some, None, not, is_none}
use Rattle.std.proofs.Common.{refl, sym, ap, ◌∙◌, subst, arith, ◌==◌, zero, suc, lit≤}
use Rattle.std.specs.Prelude.{map}
use Rattle.std.specs.FinMap as map
use Rattle.std.specs.Cmp.{first_so, second_so}
use Rattle.std.specs.List.{AllByRecursion, range_with_len}
use Rattle.std.proofs.lemmas.Bool.Decides.{nat_tests}
use Rattle.vault_pan.specs.CardText.{IsPan, IsNumber, fits}
use Rattle.vault_pan.specs.Luhn.{passes_check}
use Rattle.vault_pan.specs.Draw.{IsDrawing, candidate_digits}
use Rattle.vault_pan.proofs.DrawLemmas.{candidate_digits-fits, candidate_digits-IsNumber}
use Rattle.vault_core.specs.Draw.{chosen_token, candidates, is_good}
use Rattle.vault_core.specs.Keys.{Bytes}
use Rattle.vault_core.specs.Name.{IsName}
use Rattle.vault_core.specs.Outcome.{Outcome, moved_vault}
use Rattle.vault_core.specs.Repeats.{current, is_reusable, reusable, same_use}
use Rattle.vault_core.specs.Scalar.{IsLife, IsMoment, IsRequest}
use Rattle.vault_core.specs.Sound.{Sound, IsSoundEntry}
use Rattle.vault_core.specs.Tokens.{token_again, new_token, new_entry, life_asked, tokenize}
use Rattle.vault_core.specs.Vault.{Vault, Merchant, merchant_at, entry_at, made_count, time_at, life_for}
use Rattle.vault_core.specs.declared.limit.TheConstants.{MOST_TOKENS}
use Rattle.vault_core.specs.declared.command.TokenRequest.{TokenRequest}
use Rattle.vault_core.specs.declared.row.Entry.{Entry}
use Rattle.vault_core.specs.declared.usage.Use.{Use}
use Rattle.vault_core.specs.declared.usage.Use.TheVariants.{Single, Multi}
use Rattle.vault_core.proofs.TokenRequests.{by_request}
use Rattle.vault_core.proofs.CurrentLemmas.{current-none, current-some, same-is}
use Rattle.vault_core.proofs.DrawLemmas.{chosen-is_good}
use Rattle.vault_core.proofs.Finds.{find-holds}
use Rattle.vault_core.proofs.Maps.{bytes_total, bytes_exact, entry_total, entry_exact, get-insert_same}
use Rattle.vault_core.proofs.SoundMoved.{sound-moved}
use Rattle.vault_core.proofs.Steps.{sound-record, sound-entry, IsSole}

-- the vault that an outcome leaves is sound
abbrev SoundAfter : Outcome → Type 0
SoundAfter o = Sound o.after

all-drawn : (digits pan : Bytes) → IsDrawing digits → IsNumber pan → (a n : ℕ) → a + n ≤ 20
    → AllByRecursion (λ token. IsNumber token × (fits token pan ≡ true))
    (map (λ k. candidate_digits digits k pan) (range_with_len a n))
all-drawn digits pan d p a zero le = tt
all-drawn digits pan d p a (suc n) le = (
  (
    candidate_digits-IsNumber digits a pan d (omega arith) p,
    candidate_digits-fits digits a pan d (omega arith) p,
  ),
  all-drawn digits pan d p (a + 1) n (omega arith),
)

chosen-fits : (V : Vault) (m pan digits token : Bytes) → IsDrawing digits → IsNumber pan
    → chosen_token V m pan digits ≡ Some token → IsNumber token × (fits token pan ≡ true)
unfolding chosen_token
chosen-fits V m pan digits token d p e =
    find-holds (λ token. IsNumber token × (fits token pan ≡ true)) (is_good V m) (candidates digits pan)
    token (all-drawn digits pan d p 0 20 (lit≤ tt)) e

fails-check : (b : Bool) → not b ≡ true → b ≡ false
fails-check true h = cc
fails-check false h = refl

pub life-bounds : (usage : Use) (single multi : ℕ) → IsLife single → IsLife multi
    → IsLife (life_for usage single multi)
life-bounds Single single multi a b = a
life-bounds Multi single multi a b = b

not-zero : (n : ℕ) → (n == 0) ≡ false → 0 < n
not-zero n h = grind (arith, nat_tests)

-- the number of an entry that can be given again
pub sole : (V : Vault) (a : TokenRequest) (known : Merchant) (token : Bytes) (usage : Use) → usage ≡ a.usage
    → reusable usage (current V a.merchant a.pan (time_at known a.moment)) ≡ None
    → IsSole (moved_vault V a.merchant known a.moment) a.merchant token (new_entry a known)
    (time_at known a.moment)
sole V a known token Single same_usage none pan other e found old new =
    let multi = first_so _ _ (first_so _ _ new) in
    let clash = ap (λ u. same_use u Multi) same_usage ∙ multi in cc
sole V a known token Multi same_usage none pan other e found old new =
    let number = same-is a.pan pan (second_so _ _ (first_so _ _ new)) in
    let fails = current-none V a.merchant a.pan other (time_at known a.moment) e none found in
    let clash = sym fails
    ∙ subst (λ (x : Bytes). is_reusable x (time_at known a.moment) e ≡ true) (sym number) old in
    cc

-- the parts of what is asked are values of their types
abbrev IsProperRequest : TokenRequest → Type 0
IsProperRequest a =
    IsName a.caller × IsName a.merchant × IsRequest a.request × IsPan a.pan × IsDrawing a.digits
    × IsMoment a.moment

sound-again : (V : Vault) → Sound V → (a : TokenRequest) → IsProperRequest a → (known : Merchant)
    → merchant_at V a.merchant ≡ Some known → (usage : Use) → usage ≡ a.usage → (held : Bytes × Entry)
    → reusable usage (current V a.merchant a.pan (time_at known a.moment)) ≡ Some held
    → Sound (token_again V a known held).after
sound-again V s a p known is Single same_usage held h = absurd (cc)
sound-again V s a p known is Multi same_usage held h =
    let found = current-some V a.merchant a.pan (time_at known a.moment) held h in
    let multi = is-multi held.1.usage (first_so _ _ (first_so _ _ found.1)) in
    sound-record (moved_vault V a.merchant known a.moment)
    (sound-moved V s a.merchant known a.moment is p.5) a.caller a.request
    (record { merchant = a.merchant; token = held.0; usage = a.usage }) p.0 p.2
    (held.1, found.0, multi ∙ same_usage)
  where
    is-multi : (u : Use) → same_use u Multi ≡ true → u ≡ Multi
    is-multi Single e = cc
    is-multi Multi e = refl

sound-new : (V : Vault) → Sound V → (a : TokenRequest) → IsProperRequest a → (known : Merchant)
    → merchant_at V a.merchant ≡ Some known → (life_asked a known == 0) ≡ false
    → reusable a.usage (current V a.merchant a.pan (time_at known a.moment)) ≡ None
    → (made_count V a.merchant == MOST_TOKENS) ≡ false
    → (token : Bytes) → chosen_token V a.merchant a.pan a.digits ≡ Some token
    → Sound (new_token V a known token).after
sound-new V s a p known is offered none room token drew =
    let old = s.merchants a.merchant known is in
    let good = chosen-is_good V a.merchant a.pan a.digits token drew in
    let shape = chosen-fits V a.merchant a.pan a.digits token p.4 p.3.0 drew in
    let lives = not-zero (life_asked a known) offered in
    let short = life-bounds a.usage known.single_life known.multi_life old.lives.0 old.lives.1 in
    let few = not-full (made_count V a.merchant) (s.made_few a.merchant) room in
    let later : Merchant = record known { moment = time_at known a.moment } in
    let fine : IsSoundEntry token (new_entry a known) later = record {
      token_fails = (shape.0, fails-check (passes_check token) (first_so _ _ good));
      number = (p.3, shape.1);
      birth = omega arith;
      lives = omega arith;
      life = omega arith;
      revoked = tt;
    } in
    let V1 = moved_vault V a.merchant known a.moment in
    let s2 = sound-entry V1 (sound-moved V s a.merchant known a.moment is p.5) a.merchant token
    (new_entry a known) later
    (get-insert_same bytes_total bytes_exact V.merchants a.merchant later) fine
    (none_is (entry_at V a.merchant token) (second_so _ _ good)) few
    (sole V a known token a.usage refl none)
    in
    sound-record (record V1 { entries = map.insert V.entries (a.merchant, token) (new_entry a known) }) s2
    a.caller a.request
    (record { merchant = a.merchant; token = token; usage = a.usage }) p.0 p.2 (
      new_entry a known,
      get-insert_same entry_total entry_exact V.entries (a.merchant, token)
          (new_entry a known),
      refl,
    )
  where
    not-full : (n : ℕ) → n ≤ MOST_TOKENS → (n == MOST_TOKENS) ≡ false → n < MOST_TOKENS
    not-full n le h = grind (arith, nat_tests)

    none_is : (o : Option Entry) → is_none o ≡ true → o ≡ None
    none_is None h = refl
    none_is (Some x) h = cc

pub sound-tokenize : (V : Vault) → Sound V → (a : TokenRequest) → IsProperRequest a
    → SoundAfter (tokenize V a)
sound-tokenize V s a p =
    by_request SoundAfter V a (λ _. s) (λ _ _ _ _ _. s)
    (λ known held _ is one. sound-again V s a p known is a.usage refl held one)
    (λ known token _ is life none room drew. sound-new V s a p known is life none room token drew)
