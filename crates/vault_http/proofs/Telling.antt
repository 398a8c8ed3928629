-- What faults tell of the four that a service stands on.
use Rattle.std.proofs.Common.{◌≡◌, ap, ◌∙◌}
use Rattle.std.specs.Prelude.{Bool, true, false, Result, Ok, Err}
use Rattle.vault_http.specs.Faults.{Failures, Tells, failures}
use Rattle.vault_engine.specs.declared.stop.Stop.{Stop as ServeFault}
use Rattle.vault_engine.specs.declared.stop.Stop.TheVariants as fault

-- no reader is watched, so none failed
pub not_read : (e : ServeFault) (s w v s' w' v' : Bool)
    → Tells {X = Unit {0}} (Err e) (failures s false w v) (failures s' false w' v') → e ≡ fault.Read → ⊥
not_read fault.Source s w v s' w' v' t same = absurd (cc)
not_read fault.Read s w v s' w' v' t same =
    let e : false ≡ true = ap (λ (f : Failures). f.reader) t in absurd (cc)
not_read fault.Write s w v s' w' v' t same = absurd (cc)
not_read fault.Store s w v s' w' v' t same = absurd (cc)
not_read fault.Memory s w v s' w' v' t same = absurd (cc)

-- what is told where no reader is watched, beside a reader that is as it was
pub beside_reader : (X : Type 0) (r : Result X ServeFault) (x s w v s' w' v' : Bool)
    → Tells r (failures s false w v) (failures s' false w' v')
    → Tells r (failures s x w v) (failures s' x w' v')
beside_reader X (Ok y) x s w v s' w' v' t = ap (λ (f : Failures). record f { reader = x }) t
beside_reader X (Err fault.Source) x s w v s' w' v' t = ap (λ (f : Failures). record f { reader = x }) t
beside_reader X (Err fault.Read) x s w v s' w' v' t =
    let e : false ≡ true = ap (λ (f : Failures). f.reader) t in absurd (cc)
beside_reader X (Err fault.Write) x s w v s' w' v' t = ap (λ (f : Failures). record f { reader = x }) t
beside_reader X (Err fault.Store) x s w v s' w' v' t = ap (λ (f : Failures). record f { reader = x }) t
beside_reader X (Err fault.Memory) x s w v s' w' v' t = ap (λ (f : Failures). record f { reader = x }) t

-- what is told where only a writer is watched, beside the others as they were
pub beside_writer : (e : ServeFault) (s x v w w' : Bool)
    → Tells {X = Unit {0}} (Err e) (failures false false w false) (failures false false w' false)
    → Tells {X = Unit {0}} (Err e) (failures s x w v) (failures s x w' v)
beside_writer fault.Source s x v w w' t =
    let e : false ≡ true = ap (λ (f : Failures). f.source) t in absurd (cc)
beside_writer fault.Read s x v w w' t =
    let e : false ≡ true = ap (λ (f : Failures). f.reader) t in absurd (cc)
beside_writer fault.Write s x v w w' t = ap (λ (f : Failures). failures s x f.writer v) t
beside_writer fault.Store s x v w w' t =
    let e : false ≡ true = ap (λ (f : Failures). f.vault) t in absurd (cc)
beside_writer fault.Memory s x v w w' t = ap (λ (f : Failures). failures s x f.writer v) t

-- a fault tells the same, whatever an answer would have been
pub tells_as : (X Y : Type 0) (e : ServeFault) (a b c : Failures) → b ≡ a → Tells {X = X} (Err e) b c
    → Tells {X = Y} (Err e) a c
tells_as X Y fault.Source a b c same t = t ∙ ap (λ (f : Failures). record f { source = true }) same
tells_as X Y fault.Read a b c same t = t ∙ ap (λ (f : Failures). record f { reader = true }) same
tells_as X Y fault.Write a b c same t = t ∙ ap (λ (f : Failures). record f { writer = true }) same
tells_as X Y fault.Store a b c same t = t ∙ ap (λ (f : Failures). record f { vault = true }) same
tells_as X Y fault.Memory a b c same t = t ∙ same

-- what was told before a read that went well is told after it
pub after_read : (s b b' w v : Bool) (before : Failures) → b' ≡ b → failures s b w v ≡ before
    → failures s b' w v ≡ before
after_read s b b' w v before same told = ap (λ r. failures s r w v) same ∙ told
