-- The number of a dead token is purged.
use Rattle.std.proofs.Common.{◌≡◌, ℕ, Bool, true, false, cond, ◌&&◌, not, List, [], ◌∷◌, map, max, refl}
use Rattle.std.proofs.Common.{Option, Some, None, sym, ap, ◌∙◌, subst, find, arith, is_some, inl, inr, ◌≢◌}
use Rattle.std.proofs.Common.{All, Ok, Err}
use Rattle.std.specs.Option.{option_map_or}
use Rattle.std.specs.Cmp.{IsTotalOrder, first_so, second_so, tied_itself}
use Rattle.std.specs.FinMap as map
use Rattle.std.specs.FinMap.Entries.{below_all, is_sorted, put, by_order}
use Rattle.std.specs.List.{filter}
use Rattle.std.specs.Ordering.{eq_by_cmp, is_eq, is_lt, ordering_reverse}
use Rattle.std.specs.declared.cmp.Ordering.{Ordering}
use Rattle.std.specs.declared.cmp.Ordering.TheVariants.{Less, Equal, Greater}
use Rattle.vault_core.specs.Dead.{dead_tokens, is_dead}
use Rattle.vault_core.specs.Keys.{Bytes, bytes_cmp, entry_cmp}
use Rattle.vault_core.specs.Parts.{token_command}
use Rattle.vault_core.specs.Outcome.{Outcome, entry_change, plain_refusal}
use Rattle.vault_core.specs.Retire.{purging, without_number}
use Rattle.vault_core.specs.Table.{after, reply}
use Rattle.vault_core.specs.Vault.{Merchant, Vault as Content, entries_of, entry_at, merchant_at, state_of}
use Rattle.vault_core.specs.Vault.{is_live, kept_state, time_at}
use Rattle.vault_core.specs.Window.{moment_at}
use Rattle.vault_core.specs.declared.command.Command.TheVariants.{Purge}
use Rattle.vault_core.specs.declared.command.TokenCommand.{TokenCommand}
use Rattle.vault_core.specs.declared.reply.Reply.TheVariants as answer
use Rattle.vault_core.specs.declared.reply.State.TheVariants.{Live, Expired, Revoked}
use Rattle.vault_core.specs.declared.right.Right.TheVariants as right
use Rattle.vault_core.specs.declared.row.Entry.{Entry}
use Rattle.vault_core.specs.declared.row.EntryState.{EntryState}
use Rattle.vault_core.specs.declared.row.EntryState.TheVariants.{Kept, Purged}
use Rattle.vault_core.proofs.CurrentLemmas.{get-entries_of}
use Rattle.vault_core.proofs.Finds.{find-lookup, find-passes, some_same, true-T}
use Rattle.vault_core.proofs.Maps.{bytes_exact, bytes_total, entry_exact, entry_total, get-insert_same}
use Rattle.vault_core.proofs.Maps.{retained-yes, tied}
use Rattle.vault_core.proofs.Walks.{by_token}
use Rattle.vault_changes.proofs.Changing.{each_carried}
use Rattle.vault_changes.specs.Carried.{IsCarriedOut, Verdict, reply_of}
use Rattle.vault_changes.specs.Purges.{purges_of}

-- what stands first among those that pass is what a search finds
first_found : {X : Type 0} (p : X → Bool) (xs : List X) (x : X) (rest : List X) → filter p xs ≡ x ∷ rest
    → find p xs ≡ Some x
first_found p [] x rest e = cc
first_found p (y ∷ ys) x rest e =
    elim (p y) as (λ b. cond b (y ∷ filter p ys) (filter p ys) ≡ x ∷ rest
    → cond b (Some y) (find p ys) ≡ Some x) [
      | true ↦ λ here. cc
      | false ↦ λ there. first_found p ys x rest there
    ] e

module _ {K X : Type 0} {R : K → K → Ordering} (o : IsTotalOrder R) (p : K × X → Bool) where
  -- a key below all others is below those that pass
  below_passing : (k : K) (es : List (K × X)) (x : K × X) (rest : List (K × X)) → below_all R k es ≡ true
      → filter p es ≡ x ∷ rest → is_lt (R k x.0) ≡ true
  below_passing k [] x rest below e = cc
  below_passing k (y ∷ ys) x rest below e =
      elim (p y) as (λ b. cond b (y ∷ filter p ys) (filter p ys) ≡ x ∷ rest → is_lt (R k x.0) ≡ true) [
        | true ↦ λ here.
            let is : y ≡ x = cc in
            ap (λ (z : K × X). is_lt (R k z.0)) (sym is) ∙ first_so _ _ below
        | false ↦ λ there. below_passing k ys x rest (second_so _ _ below) there
      ] e

  above : (q k : K) → is_lt (R k q) ≡ true → R q k ≡ Greater
  above q k lower =
      elim (R k q) as (λ r. R k q ≡ r → is_lt r ≡ true → R q k ≡ Greater) [
        | Less ↦ λ is _. o.antisymm q k ∙ ap ordering_reverse is
        | Equal ↦ λ is never. cc
        | Greater ↦ λ is never. cc
      ] refl lower

  -- the first of those that pass gets a value that fails: the others are left
  pub put_out : (es : List (K × X)) (x : K × X) (rest : List (K × X)) (v : X) → is_sorted R es ≡ true
      → filter p es ≡ x ∷ rest → p (x.0, v) ≡ false → filter p (put R x.0 v es) ≡ rest
  put_out [] x rest v sorted e fails = cc
  put_out (y ∷ ys) x rest v sorted e fails =
      elim (p y) as (λ b. p y ≡ b → cond b (y ∷ filter p ys) (filter p ys) ≡ x ∷ rest
      → filter p (put R x.0 v (y ∷ ys)) ≡ rest) [
        | true ↦ λ passes here.
            let is : y ≡ x = cc in
            let others : filter p ys ≡ rest = cc in
            let ties : R x.0 y.0 ≡ Equal = ap (λ (z : K × X). R x.0 z.0) is ∙ tied_itself o x.0 in
            let out : p (y.0, v) ≡ false = ap (λ (z : K × X). p (z.0, v)) is ∙ fails in
            ap (λ r. filter p (by_order r ((x.0, v) ∷ y ∷ ys) ((y.0, v) ∷ ys) (y ∷ put R x.0 v ys))) ties
            ∙ ap (λ b. cond b ((y.0, v) ∷ filter p ys) (filter p ys)) out ∙ others
        | false ↦ λ passes there.
            let later = above x.0 y.0 (below_passing y.0 ys x rest (first_so _ _ sorted) there) in
            ap (λ r. filter p (by_order r ((x.0, v) ∷ y ∷ ys) ((y.0, v) ∷ ys) (y ∷ put R x.0 v ys))) later
            ∙ ap (λ b. cond b (y ∷ filter p (put R x.0 v ys)) (filter p (put R x.0 v ys))) passes
            ∙ put_out ys x rest v (second_so _ _ sorted) there fails
      ] refl e

-- the command that purges, by its parts
abbrev parts : Bytes → Bytes → Bytes → ℕ → TokenCommand
parts caller m token now = token_command caller m token right.Purge now

-- a purge is done or refused
pub purged_or_refused : (caller m token : Bytes) (now : ℕ) (V : Content)
    → (v : Verdict) × (reply V (Purge caller m token now) ≡ reply_of v)
purged_or_refused caller m token now V =
    by_token IsPlain V (parts caller m token now) (λ known. plain_refusal V)
    (purging V (parts caller m token now)) (Err _, refl) (λ _ number _ _. (Err number, refl))
    (λ known entry state _ _ _. ended known entry state)
  where
    IsPlain : Outcome → Type 0
    IsPlain o = (v : Verdict) × (o.reply ≡ reply_of v)

    ended : (known : Merchant) (entry : Entry) (state : EntryState)
        → IsPlain (purging V (parts caller m token now) known entry state)
    ended known entry Purged = (Ok tt, refl)
    ended known entry (Kept number Live) = (Err _, refl)
    ended known entry (Kept number Revoked) = (Ok tt, refl)
    ended known entry (Kept number Expired) = (Ok tt, refl)

-- where it is refused nothing changes
pub refused_leaves : (caller m token : Bytes) (now : ℕ) (V : Content) (n : ℕ)
    → reply V (Purge caller m token now) ≡ answer.Refused n → after V (Purge caller m token now) ≡ V
refused_leaves caller m token now V n =
    by_token Leaves V (parts caller m token now) (λ known. plain_refusal V)
    (purging V (parts caller m token now)) (λ _. refl) (λ _ _ _ _ _. refl)
    (λ known entry state _ _ _. ended known entry state)
  where
    Leaves : Outcome → Type 0
    Leaves o = o.reply ≡ answer.Refused n → o.after ≡ V

    ended : (known : Merchant) (entry : Entry) (state : EntryState)
        → Leaves (purging V (parts caller m token now) known entry state)
    ended known entry Purged = λ e. cc
    ended known entry (Kept number Live) = λ e. refl
    ended known entry (Kept number Revoked) = λ e. cc
    ended known entry (Kept number Expired) = λ e. cc

-- an entry that stands at a key among a merchant's is the vault's
pub own_entry : (V : Content) (m : Bytes) (key : Bytes × Bytes) (entry : Entry)
    → map.get (entries_of V m) key ≡ Some entry → (m ≡ key.0) × (map.get V.entries key ≡ Some entry)
own_entry V m key entry found =
    elim (tied bytes_exact m key.0) [
      | inl own ↦ (own, sym (get-entries_of V m key ∙ passes own) ∙ found)
      | inr apart ↦ let clash =
          sym (get-entries_of V m key ∙ ap (λ b. cond b (map.get V.entries key) None) apart) ∙ found in cc
    ]
  where
    passes : m ≡ key.0 → cond (eq_by_cmp bytes_cmp m key.0) (map.get V.entries key) None
        ≡ map.get V.entries key
    passes own = ap (λ r. cond (is_eq r) (map.get V.entries key) None)
        (ap (λ x. bytes_cmp x key.0) own ∙ tied_itself bytes_total key.0)

-- a dead entry isn't purged
dead_kept : (entry : Entry) (at moment : ℕ) → is_dead entry at ≡ true → state_of entry moment ≢ Purged
dead_kept entry at moment dead is = by_number entry.number refl
  where
    by_number : (number : Option Bytes) → entry.number ≡ number → ⊥
    by_number None none =
        let never : false ≡ true =
        sym (ap (λ (o : Option Bytes). is_some o && not (is_live entry at)) none) ∙ dead in
        cc
    by_number (Some number) has =
        let kept : Kept number (kept_state entry moment) ≡ Purged =
        sym (ap (λ (o : Option Bytes). option_map_or (λ n. Kept n (kept_state entry moment)) o Purged) has)
        ∙ is in
        cc

-- the merchant's moment doesn't move twice
same_moment : (a now : ℕ) → max (max a now) now ≡ max a now
same_moment a now = omega arith

module _ (V : Content) (caller m token : Bytes) (now : ℕ) (rest : List Bytes)
    (dead : dead_tokens V m now ≡ token ∷ rest) where
  abbrev at : ℕ
  at = moment_at V m now

  abbrev is_dead_row : ℕ → (Bytes × Bytes) × Entry → Bool
  is_dead_row moment e = is_dead e.1 moment

  abbrev t : TokenCommand
  t = parts caller m token now

  -- the first row of a dead token
  record First : Type 0 where
    entry : Entry
    rows : List ((Bytes × Bytes) × Entry)
    listed : filter (is_dead_row at) (map.entries (entries_of V m)) ≡ ((m, token), entry) ∷ rows
    texts : map (λ e. e.0.1) rows ≡ rest
    here : entry_at V m token ≡ Some entry
    passes : is_dead entry at ≡ true

  first_of : First
  unfolding dead_tokens
  first_of = by_rows (filter (is_dead_row at) (map.entries (entries_of V m))) refl dead
    where
      by_rows : (rows : List ((Bytes × Bytes) × Entry))
          → filter (is_dead_row at) (map.entries (entries_of V m)) ≡ rows
          → map (λ e. e.0.1) rows ≡ token ∷ rest → First
      by_rows [] is e = cc
      by_rows (x ∷ xs) is e =
          let p = is_dead_row at in
          let es = map.entries (entries_of V m) in
          let found = first_found p es x xs is in
          let stands : map.get (entries_of V m) x.0 ≡ Some x.1 =
          map.get-entries (entries_of V m) x.0
          ∙ find-lookup entry_total p es x (true-T _ (map.entries_sorted (entries_of V m))) found in
          let own = own_entry V m x.0 x.1 stands in
          let text : x.0.1 ≡ token = cc in
          let key : x.0 ≡ (m, token) = λ i. (sym own.0 i, text i) in
          record {
            entry = x.1;
            rows = xs;
            listed = is ∙ ap (λ (k : Bytes × Bytes). (k, x.1) ∷ xs) key;
            texts = cc;
            here = ap (λ (k : Bytes × Bytes). map.get V.entries k) (sym key) ∙ own.1;
            passes = find-passes p es x found;
          }

  -- it has an entry
  pub first_dead : (entry : Entry) × (entry_at V m token ≡ Some entry)
  first_dead = (first_of.entry, first_of.here)

  -- the token's number is gone, and the merchant's moment has moved
  changed : (first : First) (known : Merchant) → merchant_at V m ≡ Some known
      → dead_tokens (entry_change V t known (without_number first.entry)).after m now ≡ rest
  unfolding dead_tokens
  changed first known is =
      let gone : Entry = without_number first.entry in
      let new : Content = (entry_change V t known gone).after in
      let own = λ (key : Bytes × Bytes). eq_by_cmp bytes_cmp m key.0 in
      let es = map.entries (entries_of V m) in
      let moved : Merchant = record known { moment = time_at known now } in
      let then : moment_at new m now ≡ at =
      ap (λ o. option_map_or (λ (merchant : Merchant). time_at merchant now) o now)
      (get-insert_same bytes_total bytes_exact V.merchants m moved)
      ∙ same_moment known.moment now
      ∙ sym (ap (λ o. option_map_or (λ (merchant : Merchant). time_at merchant now) o now) is) in
      let rows_then : map.entries (entries_of new m) ≡ put entry_cmp (m, token) gone es =
      ap map.entries (retained-yes entry_total entry_exact V.entries (m, token) gone own
      (ap (λ r. is_eq r) (tied_itself bytes_total m)))
      ∙ map.entries-insert entry_total (entries_of V m) (m, token) gone in
      let out : filter (is_dead_row at) (put entry_cmp (m, token) gone es) ≡ first.rows =
      put_out entry_total (is_dead_row at) es ((m, token), first.entry) first.rows gone
      (true-T _ (map.entries_sorted (entries_of V m))) first.listed refl in
      ap (map (λ e. e.0.1))
      (ap (λ moment. filter (is_dead_row moment) (map.entries (entries_of new m))) then
      ∙ ap (filter (is_dead_row at)) rows_then ∙ out)
      ∙ first.texts

  -- where its purge is done, the other tokens are dead after it
  pub purged_first : reply V (Purge caller m token now) ≡ answer.Done
      → dead_tokens (after V (Purge caller m token now)) m now ≡ rest
  purged_first =
      by_token Leaves V t (λ known. plain_refusal V) (purging V t) (λ e. cc) (λ _ _ _ _ e. cc)
      (λ known entry state is here found. ended known entry is here state found)
    where
      Leaves : Outcome → Type 0
      Leaves o = o.reply ≡ answer.Done → dead_tokens o.after m now ≡ rest

      without : (known : Merchant) (entry : Entry) → merchant_at V m ≡ Some known
          → entry_at V m token ≡ Some entry
          → dead_tokens (entry_change V t known (without_number entry)).after m now ≡ rest
      without known entry is here =
          subst (λ (e : Entry). dead_tokens (entry_change V t known (without_number e)).after m now ≡ rest)
          (some_same (sym first_of.here ∙ here)) (changed first_of known is)

      ended : (known : Merchant) (entry : Entry) → merchant_at V m ≡ Some known
          → entry_at V m token ≡ Some entry → (state : EntryState)
          → state_of entry (time_at known now) ≡ state → Leaves (purging V t known entry state)
      ended known entry is here Purged found _ =
          absurd (dead_kept entry at (time_at known now)
          (subst (λ (e : Entry). is_dead e at ≡ true) (some_same (sym first_of.here ∙ here)) first_of.passes)
          found)
      ended known entry is here (Kept number Live) found e = cc
      ended known entry is here (Kept number Revoked) found _ = without known entry is here
      ended known entry is here (Kept number Expired) found _ = without known entry is here

-- each of the commands that purge these tokens is done or refused
pub purges_carried : (caller m : Bytes) (now : ℕ) (tokens : List Bytes)
    → All IsCarriedOut (purges_of caller m now tokens)
purges_carried caller m now = each_carried (λ token. Purge caller m token now) (λ token. record {
  lives = tt;
  verdict = purged_or_refused caller m token now;
})
