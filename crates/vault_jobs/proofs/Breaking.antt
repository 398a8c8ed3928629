-- A vault that wasn't broken is broken exactly by a store that fails.
use Rattle.std.proofs.Common.{◌≡◌, ◌≢◌, ◌⊎◌, Bool, true, false, Result, Err, inl, inr, ap, refl, subst, ◌∙◌}
use Rattle.vault_http.specs.Faults.{Failures, Tells, failures}
use Rattle.vault_engine.specs.declared.stop.Stop.{Stop as ServeFault}
use Rattle.vault_engine.specs.declared.stop.Stop.TheVariants as fault
use Rattle.vault_batch.specs.Faults as batch
use Rattle.vault_batch.specs.declared.fault.BatchFault.{BatchFault}
use Rattle.vault_batch.specs.declared.fault.BatchFault.TheVariants as row
use Rattle.vault_listen.specs.declared.fault.ListenFault.{ListenFault}
use Rattle.vault_listen.specs.declared.fault.ListenFault.TheVariants as listen

-- a vault that stays as it was isn't broken
unmoved : (old new : Bool) → old ≡ false → new ≡ old → new ≢ true
unmoved old new whole same broken = cc (whole, same, broken)

-- among messages
pub is_store : (e : ServeFault) (s r w v s' r' w' v' : Bool) → v ≡ false
    → Tells {X = Unit {0}} (Err e) (failures s r w v) (failures s' r' w' v') → v' ≡ true → e ≡ fault.Store
is_store fault.Source s r w v s' r' w' v' z t b = absurd (unmoved v v' z (ap (λ f. f.vault) t) b)
is_store fault.Read s r w v s' r' w' v' z t b = absurd (unmoved v v' z (ap (λ f. f.vault) t) b)
is_store fault.Write s r w v s' r' w' v' z t b = absurd (unmoved v v' z (ap (λ f. f.vault) t) b)
is_store fault.Store s r w v s' r' w' v' z t b = refl
is_store fault.Memory s r w v s' r' w' v' z t b = absurd (unmoved v v' z (ap (λ f. f.vault) t) b)

pub no_store : (e : ServeFault) (s r w v s' r' w' v' : Bool)
    → Tells {X = Unit {0}} (Err e) (failures s r w v) (failures s' r' w' v') → v' ≡ false → e ≢ fault.Store
no_store fault.Source s r w v s' r' w' v' t b is = absurd (cc (is))
no_store fault.Read s r w v s' r' w' v' t b is = absurd (cc (is))
no_store fault.Write s r w v s' r' w' v' t b is = absurd (cc (is))
no_store fault.Store s r w v s' r' w' v' t b is =
    let h = ap (λ (f : Failures). f.vault) t in
    absurd (cc (h, b))
no_store fault.Memory s r w v s' r' w' v' t b is = absurd (cc (is))

pub breaks_at : (e : ServeFault) (s r w v s' r' w' v' : Bool)
    → Tells {X = Unit {0}} (Err e) (failures s r w v) (failures s' r' w' v') → e ≡ fault.Store → v' ≡ true
breaks_at fault.Source s r w v s' r' w' v' t is = absurd (cc (is))
breaks_at fault.Read s r w v s' r' w' v' t is = absurd (cc (is))
breaks_at fault.Write s r w v s' r' w' v' t is = absurd (cc (is))
breaks_at fault.Store s r w v s' r' w' v' t is = ap (λ (f : Failures). f.vault) t
breaks_at fault.Memory s r w v s' r' w' v' t is = absurd (cc (is))

-- among rows
store_or_same : (e : BatchFault) (old new : Failures) → batch.Tells {X = Unit {0}} (Err e) old new
    → (e ≡ row.Store) ⊎ (new.vault ≡ old.vault)
store_or_same row.Store old new told = inl refl
store_or_same row.BadHeader old new told = inr (ap (λ f. f.vault) told)
store_or_same row.Read old new told = inr (ap (λ f. f.vault) told)
store_or_same row.Write old new told = inr (ap (λ f. f.vault) told)
store_or_same row.BadRecord old new told = inr (ap (λ f. f.vault) told)
store_or_same row.Memory old new told = inr (ap (λ f. f.vault) told)
store_or_same row.Source old new told = inr (ap (λ f. f.vault) told)

pub batch_store : (e : BatchFault) (old new : Failures) → old.vault ≡ false
    → batch.Tells {X = Unit {0}} (Err e) old new → new.vault ≡ true → e ≡ row.Store
batch_store e old new whole told broken = store_of (store_or_same e old new told)
  where
    store_of : (e ≡ row.Store) ⊎ (new.vault ≡ old.vault) → e ≡ row.Store
    store_of (inl is) = is
    store_of (inr same) = absurd (cc (whole, same, broken))

pub batch_other : (e : BatchFault) (old new : Failures) → batch.Tells {X = Unit {0}} (Err e) old new
    → new.vault ≡ false → e ≢ row.Store
batch_other e old new told whole is =
    let broken = ap (λ f. f.vault) (subst (λ f. batch.Tells {X = Unit {0}} (Err f) old new) is told) in
    absurd (cc (whole, broken))

pub batch_breaks : (e : BatchFault) (old new : Failures) → batch.Tells {X = Unit {0}} (Err e) old new
    → e ≡ row.Store → new.vault ≡ true
batch_breaks e old new told is =
    ap (λ f. f.vault) (subst (λ f. batch.Tells {X = Unit {0}} (Err f) old new) is told)

-- among connections
pub listen_other : (f : ListenFault) (r : Result (Unit {0}) ListenFault) (new : Bool) → r ≡ Err f
    → new ≡ false
    → (r ≡ Err listen.Store → new ≡ true) → f ≢ listen.Store
listen_other f r new same whole store is =
    let broken : new ≡ true = store (same ∙ ap Err is) in
    absurd (cc (whole, broken))

pub listen_store : (f : ListenFault) (r : Result (Unit {0}) ListenFault) (old new : Bool) → r ≡ Err f
    → old ≡ false → new ≡ true → (r ≢ Err listen.Store → new ≡ old) → f ≡ listen.Store
listen_store listen.Source r old new same z b others =
    let kept : new ≡ old = others (λ is. absurd (cc (same, is))) in
    absurd (cc (z, b, kept))
listen_store listen.Store r old new same z b others = refl
listen_store listen.Memory r old new same z b others =
    let kept : new ≡ old = others (λ is. absurd (cc (same, is))) in
    absurd (cc (z, b, kept))
listen_store listen.Accept r old new same z b others =
    let kept : new ≡ old = others (λ is. absurd (cc (same, is))) in
    absurd (cc (z, b, kept))
