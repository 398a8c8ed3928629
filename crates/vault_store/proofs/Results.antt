-- Facts about results.
use Rattle.std.proofs.Common.{◌≡◌, Result, Ok, Err, false, refl, Option, Some, None}
use Rattle.std.proofs.Common.{is_some}
use Rattle.std.specs.Prelude.{OnErr, OnOk}
use Rattle.std.specs.Result.{is_err}
use Rattle.vault_core.specs.Vault.{Vault}
use Rattle.vault_store.specs.Reads.{Keeps, KeepsOnMemory, StillHolds}
use Rattle.vault_store.specs.declared.tables.TablesFault.{TablesFault}
use Rattle.vault_store.specs.declared.tables.TablesFault.TheVariants.{Memory, Store}

-- what holds holds on Err
pub on_err : {T E P : Type 0} (r : Result T E) → P → OnErr r P
on_err (Ok x) p = tt
on_err (Err e) p = p

-- what holds on Ok holds where the result is no Err
pub not_err : {T E : Type 0} (r : Result T E) (P : Type 0) → is_err r ≡ false → OnOk r P → P
not_err (Ok x) P fine p = p
not_err (Err e) P fine p = cc

pub none_is : {X : Type 0} (o : Option X) → is_some o ≡ false → o ≡ None
none_is None empty = refl
none_is (Some x) empty = cc

-- what keeps the vaults that the tables hold keeps them on want of memory
pub keeps : {X : Type 0} (r : Result X TablesFault) (before now : Vault → Type 0) → StillHolds before now
    → KeepsOnMemory r before now
keeps (Ok x) before now h = tt
keeps (Err Memory) before now h = h
keeps (Err Store) before now h = tt

-- what a call keeps that fails, after calls that kept what they found
pub kept_by : (X Y : Type 0) (e : TablesFault) (before between now : Vault → Type 0)
    → StillHolds before between → Keeps {X = X} (Err e) between now → Keeps {X = Y} (Err e) before now
kept_by X Y Memory before between now first last = λ V h. last V (first V h)
kept_by X Y Store before between now first last = tt
