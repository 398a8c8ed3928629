-- The clauses of a call, from what the database answers.
use Rattle.std.proofs.Common.{◌<◌, ◌^◌, to_z, w64, ℕ, pos, ◌≡◌, inl, inr, List, Ok, Err, Result, IfOk, OnOk}
use Rattle.std.proofs.Common.{sym, ap, subst, ◌∙◌, arith, true, false, is_ok, true≢false}
use Rattle.std.proofs.lemmas.Int.{to_z_pos}
use Rattle.sqlite.specs.Clock.{timed}
use Rattle.sqlite.specs.Effect.{Database, IsDatabase}
use Rattle.sqlite.specs.Listing.{understood}
use Rattle.sqlite.specs.Order.{Row}
use Rattle.sqlite.specs.Schema.{Schema}
use Rattle.sqlite.specs.State.{State, HasCleanDisk, IsLive, Survives, Shown, Shows, ShowsRows, IsUnchanged}
use Rattle.sqlite.specs.State.{CommitsShowing}
use Rattle.sqlite.proofs.Callers.{IsPlain, never_commits, unchanged_then}
use Rattle.sql_tables.specs.States.{Claim, Stands, Holds, Within, Reads, Steps}

shown_unchanged : (sql : List _) (params : Row) (old new : State) (rows : List Row)
    → IsPlain (understood old.now.schema sql) → Shown sql params old new rows → IsUnchanged old new
unfolding Shown
shown_unchanged sql params old new rows plain h =
    let bare = (subst IsPlain h.1.is plain).0 in
    let it = subst (ShowsRows old new sql h.0 (timed params h.0.formats h.1.now) rows) bare h.2 in it.3

-- a query whose text is plain in each schema that is known only reads
pub reads : {R E : Type 0} (items : R → List Row) (s : Schema) (sql : List _) (params : Row)
    (old new : State) (result : Result R E)
    → IsPlain (understood s sql) → (old.in_transaction ≡ false → new.in_transaction ≡ false)
    → Survives old new (CommitsShowing sql params old)
    → (HasCleanDisk new → old.now.schema ≡ s → IfOk result (λ rows. Shown sql params old new (items rows)))
    → Reads s result old new
reads {R} {E} items s sql params old new result plain mode survives ok = record {
  clean = survives.clean;
  mode = mode;
  limit = survives.limit;
  left = λ clean known db left. elim (survives.crash clean db left)
      [ inl was ↦ was | inr wrote ↦ absurd (never_commits sql params old db (plain_in known) wrote) ];
  kept = λ clean known. kept_of result (plain_in known) (ok clean known);
}
  where
    plain_in : old.now.schema ≡ s → IsPlain (understood old.now.schema sql)
    plain_in known = subst (λ (x : Schema). IsPlain (understood x sql)) (sym known) plain

    kept_of : (r : Result R E) → IsPlain (understood old.now.schema sql)
        → IfOk r (λ rows. Shown sql params old new (items rows)) → OnOk r (IsUnchanged old new)
    kept_of (Err e) plain h = tt
    kept_of (Ok rows) plain h = shown_unchanged sql params old new (items rows) plain h

-- what is unchanged holds what it held
pub holds_on : (s : Schema) (claims : List Claim) (old new : State) → IsUnchanged old new
    → new.step_limit ≡ old.step_limit → Holds s claims old → Holds s claims new
holds_on s claims old new same limit h = record {
  free = record { is_open = same.0.is_open; unlimited = limit ∙ h.free.unlimited };
  autocommit = same.0.mode ∙ h.autocommit;
  settled = same.0.now_is ∙ h.settled ∙ sym same.0.committed_is;
  stands = subst (Stands s claims) (sym same.0.now_is) h.stands;
}

-- one call after the other
pub reads_then : {R E R' E' : Type 0} {s : Schema} {first : Result R E} {second : Result R' E'}
    {a b c : State} → Reads s first a b
    → (HasCleanDisk b → a.now.schema ≡ s → IsUnchanged a b) → Reads s second b c → Reads s second a c
reads_then {s = s} {second = second} {a = a} {b = b} {c = c} one same two = record {
  clean = omega (arith, one.clean, two.clean);
  mode = λ idle. two.mode (one.mode idle);
  limit = two.limit ∙ one.limit;
  left = λ clean known db left. one.left (before clean) known db (two.left clean (still clean known) db left);
  kept = λ clean known. then_kept second (same (before clean) known) (two.kept clean (still clean known));
}
  where
    before : HasCleanDisk c → HasCleanDisk b
    before clean = omega (arith, two.clean, clean)

    still : HasCleanDisk c → a.now.schema ≡ s → b.now.schema ≡ s
    still clean known = ap (λ (d : Database). d.schema) (same (before clean) known).0.now_is ∙ known

    then_kept : {R E : Type 0} (r : Result R E) → IsUnchanged a b → OnOk r (IsUnchanged b c)
        → OnOk r (IsUnchanged a c)
    then_kept (Err e) p q = tt
    then_kept (Ok x) p q = unchanged_then a b c p q

pub steps_then : {a b c : State} → Steps a b → Steps b c → Steps a c
steps_then {b = b} one two = record {
  clean = omega (arith, one.clean, two.clean);
  limit = two.limit ∙ one.limit;
  left = λ clean db left. one.left (let before : HasCleanDisk b = omega (arith, two.clean, clean) in before)
      db (two.left clean db left);
}

-- a statement inside a transaction
pub steps : (old new : State) → Survives old new (λ _. ⊥) → Steps old new
steps old new survives = record {
  clean = survives.clean;
  limit = survives.limit;
  left = λ clean db left. elim (survives.crash clean db left) [ inl was ↦ was | inr none ↦ absurd none ];
}

-- a transaction that was just begun
pub begun : (s : Schema) (claims : List Claim) (st : State) → Holds s claims st
    → Within s claims st.committed (record st { in_transaction = true })
begun s claims st h = assumption

-- and one that is committed
pub committed : {s : Schema} {claims : List Claim} {mid new : State} {base : Database}
    → Within s claims base mid → Shows mid new mid.now mid.now false → new.step_limit ≡ mid.step_limit
    → Holds s claims new
committed {s} {claims} w h limit = record {
  free = record { is_open = h.is_open; unlimited = limit ∙ w.free.unlimited };
  autocommit = h.mode;
  settled = h.now_is ∙ sym h.committed_is;
  stands = subst (Stands s claims) (sym h.now_is) w.stands;
}

pub on_ok : {A B X E : Type 0} (r : Result X E) → OnOk r A → (A → B) → OnOk r B
on_ok (Ok x) h f = f h
on_ok (Err e) h f = tt

-- where the one answer is Ok, the other is
pub as_ok : {X Y E F : Type 0} (A : Type 0) (r : Result X E) (q : Result Y F) → is_ok q ≡ is_ok r → OnOk r A
    → OnOk q A
as_ok A r (Err e) same h = tt
as_ok A (Ok x) (Ok y) same h = h
as_ok A (Err e) (Ok y) same h = absurd (true≢false same)

pub if_ok : {X E : Type 0} (r : Result X E) (P Q : X → Type 0) → IfOk r P → ((x : X) → P x → Q x) → IfOk r Q
if_ok (Ok x) P Q h f = f x h
if_ok (Err e) P Q h f = tt

-- a number that 63 bits hold, as the parameter that `x as i64` makes
pub small : (n : ℕ) → n < 2 ^ 63 → to_z w64 n ≡ pos n
small n low = to_z_pos w64 n low

-- a plain query changes nothing
pub unchanged : {R E : Type 0} (items : R → List Row) (s : Schema) (sql : List _) (params : Row)
    (old new : State) (result : Result R E) → IsPlain (understood s sql) → old.now.schema ≡ s
    → IfOk result (λ rows. Shown sql params old new (items rows)) → OnOk result (IsUnchanged old new)
unchanged items s sql params old new (Err e) plain has h = tt
unchanged items s sql params old new (Ok rows) plain has h =
    shown_unchanged sql params old new (items rows)
    (subst (λ (x : Schema). IsPlain (understood x sql)) (sym has) plain) h

-- what a query was answered from was sound
pub was_sound : {R E : Type 0} (items : R → List Row) (s : Schema) (sql : List _) (params : Row)
    (old new : State) (result : Result R E) → IsPlain (understood s sql) → old.now.schema ≡ s → IsLive old
    → IfOk result (λ rows. Shown sql params old new (items rows)) → OnOk result (IsDatabase old.now)
was_sound items s sql params old new (Err e) plain has live h = tt
was_sound items s sql params old new (Ok rows) plain has live h =
    (live (shown_unchanged sql params old new (items rows)
    (subst (λ (x : Schema). IsPlain (understood x sql)) (sym has) plain) h).0.was_open).0
