-- The numbers of dead tokens are purged, one after the other.
use Rattle.std.proofs.Common.{◌≡◌, ℕ, ◌+◌, ◌<◌, ◌≤◌, List, [], ◌∷◌, ◌++◌, length, map, take, drop, get_or}
use Rattle.std.proofs.Common.{true, false, Ok, Err, sym, ◌∙◌, ap, subst, arith, refl, replicate}
use Rattle.std.proofs.Common.{append-nil, not}
use Rattle.std.specs.FinMap as finmap
use Rattle.std.specs.List.{filter}
use Rattle.std.proofs.lemmas.List.{append_assoc, drop_more, length-append, length-map, length-take}
use Rattle.std.proofs.lemmas.List.{length-take-le, map-append, replicate-append-replicate}
use Rattle.std.proofs.lemmas.List.Filters.{length-filter_both}
use Rattle.std.proofs.lemmas.List.{take-append-drop, take-map, take_more}
use Rattle.vault_core.specs.Dead.{dead_tokens, is_dead}
use Rattle.vault_core.specs.Keys.{Bytes}
use Rattle.vault_core.specs.Runs.{replies, run}
use Rattle.vault_core.specs.Sound.{Sound}
use Rattle.vault_core.specs.Table.{after, reply}
use Rattle.vault_core.specs.Vault.{Vault as Content, entries_of}
use Rattle.vault_core.specs.Window.{moment_at}
use Rattle.vault_core.specs.declared.command.Command.{Command}
use Rattle.vault_core.specs.declared.limit.TheConstants.{MOST_TOKENS}
use Rattle.vault_core.specs.declared.row.Entry.{Entry}
use Rattle.vault_core.specs.declared.reply.Reply.TheVariants as answer
use Rattle.vault_batch.specs.declared.asker.Asker.{Asker}
use Rattle.vault_engine.specs.Passing.{IsBefore, Passage, vault_passing}
use Rattle.vault_store.specs.declared.vault.Vault.{Vault}
use Rattle.vault_store.specs.Applied.{Contains, breaks, is_broken, tables_of}
use Rattle.vault_store.specs.Left.{LeavesBy}
use Rattle.vault_store.specs.declared.vault.Fault.{Fault}
use Rattle.vault_store.specs.declared.vault.Fault.TheVariants.{Memory, Store, Reopen}
use Rattle.vault_changes.specs.Grants.{AreDone, CarriesAll}
use Rattle.vault_jobs.specs.Sweeps.{AreSwept, Begin, Sweeps, left_dead, purge_at, purges_at, swept_vault}
use Rattle.vault_changes.proofs.GivenRights.{replies_more, run_more}
use Rattle.vault_changes.proofs.Purging.{purged_first, refused_leaves}

-- commands, and then others
run_then : (cs ds : List Command) (V : Content) → run (cs ++ ds) V ≡ run ds (run cs V)
run_then [] ds V = refl
run_then (c ∷ cs) ds V = run_then cs ds (after V c)

replies_then : (cs ds : List Command) (V : Content)
    → replies (cs ++ ds) V ≡ replies cs V ++ replies ds (run cs V)
replies_then [] ds V = refl
replies_then (c ∷ cs) ds V = ap (λ rs. reply V c ∷ rs) (replies_then cs ds (after V c))

-- one element after each of two lists
last_apart : {X : Type 0} (xs ys : List X) (x y : X) → xs ++ x ∷ [] ≡ ys ++ y ∷ [] → (xs ≡ ys) × (x ≡ y)
last_apart [] [] x y e = (refl, cc)
last_apart [] (z ∷ []) x y e = cc
last_apart [] (z ∷ w ∷ ys) x y e = cc
last_apart (z ∷ []) [] x y e = cc
last_apart (z ∷ w ∷ xs) [] x y e = cc
last_apart (z ∷ xs) (w ∷ ys) x y e =
    let heads : z ≡ w = cc in
    let tails : xs ++ x ∷ [] ≡ ys ++ y ∷ [] = cc in
    let rest = last_apart xs ys x y tails in
    ((λ i. heads i ∷ rest.0 i), rest.1)

module _ (who : Asker) (now : ℕ) where
  -- the purges of tokens and of others
  purges_then : (first more : List Bytes)
      → purges_at who now (first ++ more) ≡ purges_at who now first ++ purges_at who now more
  purges_then first more = map-append (λ (t : Bytes). purge_at who now t) first more

  swept_then : (first more : List Bytes) (V : Content)
      → swept_vault who now (first ++ more) V ≡ swept_vault who now more (swept_vault who now first V)
  swept_then first more V =
      ap (λ cs. run cs V) (purges_then first more)
      ∙ run_then (purges_at who now first) (purges_at who now more) V

  -- where the purges of the first dead tokens are done, the others are dead after them
  left_after : (first rest : List Bytes) (V : Content) → dead_tokens V who.merchant now ≡ first ++ rest
      → replies (purges_at who now first) V ≡ replicate (length first) answer.Done
      → left_dead who now first V ≡ rest
  left_after [] rest V dead done = dead
  left_after (t ∷ ts) rest V dead done =
      let is : reply V (purge_at who now t) ≡ answer.Done = cc in
      let others : replies (purges_at who now ts) (after V (purge_at who now t))
      ≡ replicate (length ts) answer.Done = cc in
      left_after ts rest (after V (purge_at who now t))
      (purged_first V who.caller who.merchant t now (ts ++ rest) dead is) others

  -- none is swept yet
  pub none_swept : (V : Content) → AreSwept who now [] V
  none_swept V = (refl, refl)

  -- all of these are done
  abbrev pub AllDone : List Bytes → Content → Type 0
  AllDone ts V = replies (purges_at who now ts) V ≡ replicate (length ts) answer.Done

  pub all_taken : (ts : List Bytes) → take (length ts) (purges_at who now ts) ≡ purges_at who now ts
  all_taken [] = refl
  all_taken (t ∷ ts) = ap (λ cs. purge_at who now t ∷ cs) (all_taken ts)

  all_done : (ts : List Bytes) (V : Content) → AreDone (length ts) (purges_at who now ts) V → AllDone ts V
  all_done ts V done = ap (λ cs. replies cs V) (sym (all_taken ts)) ∙ done

  -- the first of those that are left are swept too
  pub more_swept : (tokens first rest : List Bytes) (V : Content) → AreSwept who now tokens V
      → left_dead who now tokens V ≡ first ++ rest → AllDone first (swept_vault who now tokens V)
      → AreSwept who now (tokens ++ first) V × (left_dead who now (tokens ++ first) V ≡ rest)
  more_swept tokens first rest V swept dead done =
      let W : Content = swept_vault who now tokens V in
      let both : AllDone (tokens ++ first) V =
      ap (λ cs. replies cs V) (purges_then tokens first)
      ∙ replies_then (purges_at who now tokens) (purges_at who now first) V
      ∙ (λ i. all_done tokens V swept.0 i ++ done i)
      ∙ replicate-append-replicate (length tokens) (length first) answer.Done
      ∙ ap (λ n. replicate n answer.Done) (sym (length-append tokens first)) in
      let left : left_dead who now (tokens ++ first) V ≡ rest =
      ap (λ U. dead_tokens U who.merchant now) (swept_then tokens first V)
      ∙ left_after first rest W dead done in (
        (
          ap (λ cs. replies cs V) (all_taken (tokens ++ first)) ∙ both,
          swept.1 ∙ ap (λ ts. tokens ++ ts) dead ∙ sym (append_assoc tokens first rest)
              ∙ ap (λ ts. (tokens ++ first) ++ ts) (sym left),
        ),
        left,
      )

  -- the purges up to a token
  pub next_purge : (page : List Bytes) (k : ℕ) → k < length page
      → take (k + 1) (purges_at who now page)
      ≡ take k (purges_at who now page) ++ purge_at who now (get_or page k []) ∷ []
  next_purge page k below =
      let f : Bytes → Command = λ t. purge_at who now t in
      take-map f (k + 1) page ∙ ap (λ ts. map f ts) (take_more page k [] below)
      ∙ map-append f (take k page) (get_or page k [] ∷ [])
      ∙ ap (λ cs. cs ++ f (get_or page k []) ∷ []) (sym (take-map f k page))

-- a merchant has no more dead tokens than tokens
pub dead_few : (V : Content) → Sound V → (m : Bytes) (now : ℕ) → length (dead_tokens V m now) ≤ MOST_TOKENS
unfolding dead_tokens
dead_few V s m now =
    let es = finmap.entries (entries_of V m) in
    let p = λ (e : (Bytes × Bytes) × Entry). is_dead e.1 (moment_at V m now) in
    let few = s.made_few m in
    let own = finmap.len-entries (entries_of V m) in
    let passing = length-filter_both p (λ (e : (Bytes × Bytes) × Entry). not (p e)) (λ e. refl) es in
    let texts = length-map (filter p es) (λ (e : (Bytes × Bytes) × Entry). e.0.1) in
    omega (arith, few, own, passing, texts)

-- so many of the dead tokens are swept, one at least in each round
abbrev pub IsSweeping : Asker → ℕ → Passage → ℕ → ℕ → Type 0
IsSweeping who now w rounds count = (tokens : List Bytes) × ((V : Content) → IsBefore w V
    → (count ≡ length tokens) × (rounds ≤ length tokens) × AreSwept who now tokens V
    × w.held_new (swept_vault who now tokens V))

-- no more are swept than a merchant has tokens
swept_few : (who : Asker) (now : ℕ) (tokens : List Bytes) (V : Content) → Sound V → AreSwept who now tokens V
    → length tokens ≤ MOST_TOKENS
swept_few who now tokens V s swept =
    let all = dead_few V s who.merchant now in
    let parts = ap length swept.1 ∙ length-append tokens (left_dead who now tokens V) in
    omega (arith, all, parts)

none_first : {X : Type 0} (n : ℕ) (xs : List X) → 1 ≤ n → length (take n xs) ≡ 0 → xs ≡ []
none_first n [] some none = refl
none_first n (x ∷ xs) some none =
    let size = length-take n (x ∷ xs) in
    let never : ⊥ = omega (arith, some, none, size) in
    absurd never

module _ {T : Type 0} (honest : T → Type 0) (holds : T → Content → Type 0)
    (leaves : T → Content → Content → Type 0) (who : Asker) (now : ℕ)
    (v0 v1 v2 : Vault T) (rounds count : ℕ)
    (sweeping : IsSweeping who now (vault_passing honest holds leaves v0 v1) rounds count)
    (goes : honest (tables_of v2) → honest (tables_of v1)) where
  abbrev pub whole : Passage
  whole = vault_passing honest holds leaves v0 v2

  tokens : List Bytes
  tokens = sweeping.0

  before : (V : Content) → IsBefore whole V → (count ≡ length tokens) × (rounds ≤ length tokens)
      × AreSwept who now tokens V × Contains holds v1 (swept_vault who now tokens V)
  unfolding tokens
  before V b = sweeping.1 V (goes b.0, b.1)

  -- no token is left
  pub all_swept : (page : List Bytes) (n : ℕ) → 1 ≤ n → length page ≡ 0
      → (honest (tables_of v2) → (W : Content) → Contains holds v1 W
      → (page ≡ take n (dead_tokens W who.merchant now)) × Contains holds v2 W)
      → (honest (tables_of v2) → (W : Content) → Contains holds v1 W → leaves (tables_of v2) W W)
      → Sweeps who now whole (Ok (Ok count))
  all_swept page n some none told crash = (
    tokens,
    λ V b.
        let so_far = before V b in
        let W : Content = swept_vault who now tokens V in
        let seen = told b.0 W so_far.3 in (
          so_far.2,
          none_first n (left_dead who now tokens V) some (ap length (sym seen.0) ∙ none),
          so_far.0,
          (seen.1, crash b.0 W so_far.3),
        ),
  )

  -- the dead tokens couldn't be read
  pub unread : (e : Fault) → is_broken v1 ≡ false → is_broken v2 ≡ breaks {X = Unit {0}} (Err e)
      → (e ≡ Reopen → is_broken v1 ≡ true)
      → (e ≡ Memory → (W : Content) → Contains holds v1 W → Contains holds v2 W)
      → (honest (tables_of v2) → (W : Content) → Contains holds v1 W
      → LeavesBy {X = Unit {0}} (Err e) (leaves (tables_of v2)) W W)
      → Sweeps who now whole (Err e)
  unread Memory sound broken reopen memory crash = (
    tokens,
    λ V b.
        let so_far = before V b in
        let W : Content = swept_vault who now tokens V in
        (so_far.2, (memory refl W so_far.3, crash b.0 W so_far.3)),
  )
  unread Store sound broken reopen memory crash = (
    tokens,
    [],
    omega arith,
    λ V b.
        let so_far = before V b in
        let W : Content = swept_vault who now tokens V in (
          broken,
          so_far.2,
          (left_dead who now tokens V, refl),
          subst (λ ts. leaves (tables_of v2) W (swept_vault who now ts V)) (sym (append-nil tokens))
              (crash b.0 W so_far.3),
        ),
  )
  unread Reopen sound broken reopen memory crash = let is = reopen refl in absurd (cc (sound, is))

-- before the first round
pub none_yet : (who : Asker) (now : ℕ) {T : Type 0} (honest : T → Type 0) (holds : T → Content → Type 0)
    (leaves : T → Content → Content → Type 0) (v0 : Vault T)
    → IsSweeping who now (vault_passing honest holds leaves v0 v0) 0 0
none_yet who now honest holds leaves v0 = ([], λ V b. (refl, omega arith, none_swept who now V, b.1))

-- it never comes to as many rounds
pub never_ends : (who : Asker) (now : ℕ) {T : Type 0} (honest : T → Type 0) (holds : T → Content → Type 0)
    (leaves : T → Content → Content → Type 0) (v0 v1 : Vault T) (rounds count : ℕ)
    → MOST_TOKENS < rounds → IsSweeping who now (vault_passing honest holds leaves v0 v1) rounds count
    → Sweeps who now (vault_passing honest holds leaves v0 v1) (Err Store)
never_ends who now honest holds leaves v0 v1 rounds count many sweeping = (
  [],
  [],
  omega arith,
  λ V b.
      let so_far = sweeping.1 V b in
      let few = swept_few who now sweeping.0 V b.1.1 so_far.2 in
      let never : ⊥ = omega (arith, many, few, so_far.1) in
      absurd never,
)

module _ {T : Type 0} (honest : T → Type 0) (holds : T → Content → Type 0)
    (leaves : T → Content → Content → Type 0) (who : Asker) (now : ℕ)
    (v0 v1 v2 v3 : Vault T) (rounds count : ℕ) (page : List Bytes) (most : ℕ)
    (sweeping : IsSweeping who now (vault_passing honest holds leaves v0 v1) rounds count)
    (goes : honest (tables_of v2) → honest (tables_of v1))
    (goes_on : honest (tables_of v3) → honest (tables_of v2))
    (told : honest (tables_of v2) → (W : Content) → Contains holds v1 W
    → (page ≡ take most (dead_tokens W who.merchant now)) × Contains holds v2 W) where
  abbrev pub step : Passage
  step = vault_passing honest holds leaves v2 v3

  abbrev pub all : Passage
  all = vault_passing honest holds leaves v0 v3

  -- before the page: what is swept, the tokens of the page are the first of those left, and what is held
  record IsPaged (V : Content) : Type 0 where
    counted : count ≡ length sweeping.0
    rounded : rounds ≤ length sweeping.0
    swept : AreSwept who now sweeping.0 V
    rest : List Bytes
    dead : left_dead who now sweeping.0 V ≡ page ++ rest
    ready : IsBefore step (swept_vault who now sweeping.0 V)

  paged : (V : Content) → IsBefore all V → IsPaged V
  paged V b =
      let so_far = sweeping.1 V (goes (goes_on b.0), b.1) in
      let W : Content = swept_vault who now sweeping.0 V in
      let seen = told (goes_on b.0) W so_far.3 in
      let dead : List Bytes = left_dead who now sweeping.0 V in
      record {
        counted = so_far.0;
        rounded = so_far.1;
        swept = so_far.2;
        rest = drop most dead;
        dead = sym (take-append-drop most dead) ∙ ap (λ ts. ts ++ drop most dead) (sym seen.0);
        ready = (b.0, seen.1);
      }

  -- all of a page are purged
  pub page_swept : (count' : ℕ) → (count + length page ≤ MOST_TOKENS → count' ≡ count + length page)
      → 1 ≤ length page → CarriesAll (purges_at who now page) step (Ok (Ok tt))
      → IsSweeping who now all (rounds + 1) count'
  page_swept count' adds some carried = (
    sweeping.0 ++ page,
    λ V b.
        let before = paged V b in
        let W : Content = swept_vault who now sweeping.0 V in
        let done = carried W before.ready in
        let sized = length-map page (λ (t : Bytes). purge_at who now t) in
        let all_done : AllDone who now page W =
        ap (λ cs. replies cs W) (sym (all_taken who now page))
        ∙ subst (λ n. AreDone n (purges_at who now page) W) sized done.0 in
        let more = more_swept who now sweeping.0 page before.rest V before.swept before.dead all_done in
        let few = swept_few who now (sweeping.0 ++ page) V b.1.1 more.0 in
        let long = length-append sweeping.0 page in
        let counted = before.counted in
        let rounded = before.rounded in
        let sum = adds (omega (arith, few, long, counted)) in (
          omega (arith, sum, long, counted),
          omega (arith, rounded, long, some),
          more.0,
          subst (λ U. Contains holds v3 U) (sym (swept_then who now sweeping.0 page V)) done.1.0,
        ),
  )

  -- what the purges of the first so many of a page come to
  record IsPart (k : ℕ) (V : Content) : Type 0 where
    swept : AreSwept who now (sweeping.0 ++ take k page) V
    rest : List Bytes
    left : left_dead who now (sweeping.0 ++ take k page) V ≡ drop k page ++ rest
    same : swept_vault who now (sweeping.0 ++ take k page) V
        ≡ run (take k (purges_at who now page)) (swept_vault who now sweeping.0 V)

  part : (k : ℕ) → k < length page → (V : Content) → IsPaged V
      → AreDone k (purges_at who now page) (swept_vault who now sweeping.0 V) → IsPart k V
  part k below V before done =
      let W : Content = swept_vault who now sweeping.0 V in
      let first : List Bytes = take k page in
      let cut : take k (purges_at who now page) ≡ purges_at who now first =
      take-map (λ (t : Bytes). purge_at who now t) k page in
      let first_done : AllDone who now first W =
      ap (λ cs. replies cs W) (sym cut) ∙ done
      ∙ ap (λ n. replicate n answer.Done) (sym (length-take-le k page (omega (arith, below)))) in
      let dead : left_dead who now sweeping.0 V ≡ first ++ (drop k page ++ before.rest) =
      before.dead ∙ ap (λ ts. ts ++ before.rest) (sym (take-append-drop k page))
      ∙ append_assoc first (drop k page) before.rest in
      let more = more_swept who now sweeping.0 first (drop k page ++ before.rest) V before.swept dead
      first_done in
      record {
        swept = more.0;
        rest = before.rest;
        left = more.1;
        same = swept_then who now sweeping.0 first V ∙ ap (λ cs. run cs W) (sym cut);
      }

  -- the next token of a page is the first of those that are left
  next_dead : (k : ℕ) → k < length page → (V : Content) → (p : IsPart k V)
      → Begin (get_or page k [] ∷ []) (left_dead who now (sweeping.0 ++ take k page) V)
  next_dead k below V p = (
    drop (k + 1) page ++ p.rest,
    p.left ∙ ap (λ ts. ts ++ p.rest) (drop_more page k [] below),
  )

  inside : (k : ℕ) → k < length (purges_at who now page) → k < length page
  inside k below = subst (λ n. k < n) (length-map page (λ (t : Bytes). purge_at who now t)) below

  -- one of a page is refused
  pub page_refused : (n : ℕ) → CarriesAll (purges_at who now page) step (Ok (Err n))
      → Sweeps who now all (Ok (Err n))
  page_refused n (k, below, carried) = (
    sweeping.0 ++ take k page,
    get_or page k [],
    λ V b.
        let before = paged V b in
        let W : Content = swept_vault who now sweeping.0 V in
        let cs : List Command = purges_at who now page in
        let c : Command = purge_at who now (get_or page k []) in
        let U : Content = run (take k cs) W in
        let h = carried W before.ready in
        let more = next_purge who now page k (inside k below) in
        let apart =
        last_apart (replies (take k cs) W) (replicate k answer.Done) (reply U c) (answer.Refused n)
        (sym (replies_more (take k cs) c W) ∙ ap (λ ds. replies ds W) (sym more) ∙ h.0) in
        let p = part k (inside k below) V before apart.0 in
        let still : run (take (k + 1) cs) W ≡ swept_vault who now (sweeping.0 ++ take k page) V =
        ap (λ ds. run ds W) more ∙ run_more (take k cs) c W
        ∙ refused_leaves who.caller who.merchant (get_or page k []) now U n apart.1 ∙ sym p.same in (
          p.swept,
          next_dead k (inside k below) V p,
          ap (λ X. reply X c) p.same ∙ apart.1,
          subst (λ X. Contains holds v3 X × leaves (tables_of v3) X X) still h.1,
        ),
  )

  -- a purge of a page was stopped
  pub page_stopped : (e : Fault) → CarriesAll (purges_at who now page) step (Err e)
      → Sweeps who now all (Err e)
  page_stopped Memory (k, below, carried) = (
    sweeping.0 ++ take k page,
    λ V b.
        let before = paged V b in
        let h = carried (swept_vault who now sweeping.0 V) before.ready in
        let p = part k (inside k below) V before h.0 in
        (p.swept, subst (λ X. Contains holds v3 X × leaves (tables_of v3) X X) (sym p.same) h.1),
  )
  page_stopped Store (k, below, carried) = (
    sweeping.0 ++ take k page,
    get_or page k [] ∷ [],
    omega arith,
    λ V b.
        let before = paged V b in
        let W : Content = swept_vault who now sweeping.0 V in
        let cs : List Command = purges_at who now page in
        let c : Command = purge_at who now (get_or page k []) in
        let part_of : List Bytes = sweeping.0 ++ take k page in
        let h = carried W before.ready in
        let p = part k (inside k below) V before h.1 in
        let next : run (take (k + 1) cs) W
        ≡ swept_vault who now ((sweeping.0 ++ take k page) ++ get_or page k [] ∷ []) V =
        ap (λ ds. run ds W) (next_purge who now page k (inside k below)) ∙ run_more (take k cs) c W
        ∙ ap (λ X. after X c) (sym p.same)
        ∙ sym (swept_then who now (sweeping.0 ++ take k page) (get_or page k [] ∷ []) V) in (
          h.0,
          p.swept,
          next_dead k (inside k below) V p,
          subst (λ X. leaves (tables_of v3) X (swept_vault who now (part_of ++ get_or page k [] ∷ []) V))
              (sym p.same) (subst (λ X. leaves (tables_of v3) (run (take k cs) W) X) next h.2),
        ),
  )
  page_stopped Reopen carried = carried
