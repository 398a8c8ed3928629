-- What a fault that `?` passes on says.
use Rattle.std.proofs.Common.{◌≡◌, ◌∙◌, sym, Ok, Err, Result, IfErr, IsErrAnd}
use Rattle.sql_tables.specs.declared.fault.StoreFault.{StoreFault}
use Rattle.sql_tables.specs.declared.fault.StoreFault.TheVariants as read

-- a fault that `?` passes on says the same of it
pub passed : {A P : Type 0} (r : Result A StoreFault) (fault : StoreFault) → IsErrAnd r (λ e. e ≡ fault)
    → (fault ≡ read.Store → P) → IfErr r (λ e. e ≡ read.Store → P)
passed (Ok a) fault same none = tt
passed (Err e) fault same none = λ store. none (sym same ∙ store)
