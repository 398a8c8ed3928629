-- What holds of a result, from what holds of it.
use Rattle.std.proofs.Common.{◌≡◌, ◌≢◌, ◌∙◌, refl, subst, sym, ℕ, ℤ, Ok, Err, Result, IfOk, IfErr, IsErrAnd}
use Rattle.std.proofs.Common.{OnOk}
use Rattle.sqlite.specs.Schema.{Schema}
use Rattle.sqlite.specs.State.{State}
use Rattle.sql_tables.specs.States.{Reads}
use Rattle.sql_tables.specs.declared.fault.StoreFault.{StoreFault}
use Rattle.sql_tables.specs.declared.fault.StoreFault.TheVariants as read
use Rattle.vault_verdict.specs.Faults.{IsJudged, failure}
use Rattle.vault_verdict.specs.Reading.{IsQuietWhere}
use Rattle.vault_verdict.specs.declared.fault.OpenFault.{OpenFault}
use Rattle.vault_verdict.specs.declared.fault.OpenFault.TheVariants.{WrongSchema, Damaged, Memory, Store}

pub if_ok : {A E : Type 0} {P Q : A → Type 0} (r : Result A E) → ((a : A) → P a → Q a) → IfOk r P → IfOk r Q
if_ok (Ok a) f h = f a h
if_ok (Err e) f h = tt

pub if_err : {A E : Type 0} {P Q : E → Type 0} (r : Result A E) → ((e : E) → P e → Q e) → IfErr r P
    → IfErr r Q
if_err (Ok a) f h = tt
if_err (Err e) f h = f e h

-- what holds of that which came out holds of the result
pub ok_where : {A E : Type 0} {P : A → Type 0} (r : Result A E) → ((a : A) → r ≡ Ok a → P a) → IfOk r P
ok_where (Ok a) f = f a refl
ok_where (Err e) f = tt

pub on_where : {A E P : Type 0} (r : Result A E) → ((a : A) → r ≡ Ok a → P) → OnOk r P
on_where (Ok a) f = f a refl
on_where (Err e) f = tt

pub err_where : {A E : Type 0} {P : E → Type 0} (r : Result A E) → ((e : E) → r ≡ Err e → P e) → IfErr r P
err_where (Ok a) f = tt
err_where (Err e) f = f e refl

pub on_ok : {A E P : Type 0} (r : Result A E) → P → OnOk r P
on_ok (Ok a) h = h
on_ok (Err e) h = tt

pub same_rule : (a b : ℕ) → Damaged a ≡ Damaged b → a ≡ b
same_rule a b e = cc

pub same_version : (a b : ℤ) → WrongSchema a ≡ WrongSchema b → a ≡ b
same_version a b e = cc

-- a result has one fault
pub one_fault : {A : Type 0} (r : Result A OpenFault) (e f : OpenFault) → r ≡ Err e → r ≡ Err f → e ≡ f
one_fault r e f a b = let same = sym a ∙ b in cc

-- a reading that failed says nothing of the schema or the rows
pub undamaged : (fault : StoreFault) (rule : ℕ) → failure fault ≢ Damaged rule
undamaged read.Memory rule e = cc
undamaged read.Store rule e = cc

pub unversioned : (fault : StoreFault) (n : ℤ) → failure fault ≢ WrongSchema n
unversioned read.Memory n e = cc
unversioned read.Store n e = cc

pub unjudged : (fault : StoreFault) → IsJudged (failure fault) → ⊥
unjudged read.Memory e = e
unjudged read.Store e = e

pub unread : (fault : StoreFault) → failure fault ≡ Store → fault ≡ read.Store
unread read.Memory e = absurd cc
unread read.Store e = refl

pub if_so : {A E P Q : Type 0} (r : Result A E) → (P → Q) → OnOk r P → OnOk r Q
if_so (Ok a) f h = f h
if_so (Err e) f h = h

-- a query is quiet where its schema is the one that it reads
pub quiet_where : {R E P : Type 0} {s : Schema} (result : Result R E) (old new : State)
    → (P → old.now.schema ≡ s) → Reads s result old new → IsQuietWhere P old new
quiet_where result old new is reads = record {
  clean = reads.clean;
  mode = reads.mode;
  limit = reads.limit;
  left = λ clean p. reads.left clean (is p);
}

-- a reading's fault that `?` passes on says the same of it
pub passed_on : {A P : Type 0} (r : Result A OpenFault) (fault : StoreFault)
    → IsErrAnd r (λ e. e ≡ failure fault)
    → (fault ≡ read.Store → P) → IfErr r (λ e. e ≡ Store → P)
passed_on (Ok a) fault same none = tt
passed_on (Err e) fault same none = λ store. none (unread fault (sym same ∙ store))

-- a fault that `?` passes on says the same
pub passed_as : {A E : Type 0} (P : E → Type 0) (r : Result A E) (fault : E) → IsErrAnd r (λ e. e ≡ fault)
    → P fault → IfErr r P
passed_as P (Ok a) fault same p = tt
passed_as P (Err e) fault same p = subst P (sym same) p

-- rows that weren't read are judged by nothing
pub failed_read : {A P : Type 0} (r : Result A OpenFault) (fault : StoreFault)
    → IsErrAnd r (λ e. e ≡ failure fault) → (fault ≡ read.Store → P)
    → IsErrAnd r (λ e. (IsJudged e → ⊥) × (e ≡ Store → P))
failed_read (Ok a) fault same none = absurd same
failed_read (Err e) fault same none =
    (λ is. unjudged fault (subst IsJudged same is), λ store. none (unread fault (sym same ∙ store)))

-- nor are those for which memory ran out
pub failed_memory : {A : Type 0} (P : Type 0) (r : Result A OpenFault) → IsErrAnd r (λ e. e ≡ Memory)
    → IsErrAnd r (λ e. (IsJudged e → ⊥) × (e ≡ Store → P))
failed_memory P (Ok a) same = absurd same
failed_memory P (Err e) same =
    (λ is. subst IsJudged same is, λ store. absurd (let clash = sym same ∙ store in cc))
