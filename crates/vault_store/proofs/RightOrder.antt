-- The order of rights in the code is the one of the vault.
use Rattle.std.proofs.Common.{◌≡◌, refl, ap, subst, Option, Result, cond}
use Rattle.std.specs.Prelude.{OnErr, OnOk}
use Rattle.std.specs.BTreeMap as tree
use Rattle.std.specs.FinMap as map
use Rattle.std.specs.Ordering.{nat_cmp, ordering_then, eq_by_cmp}
use Rattle.std.specs.declared.cmp.Ordering.{Ordering}
use Rattle.vault_core.specs.Keys.{Bytes, bytes_cmp, right_cmp}
use Rattle.vault_core.specs.Numbers.{right_number}
use Rattle.vault_core.specs.declared.right.Right.{Right}
use Rattle.vault_core.specs.declared.right.Right.TheVariants.{Tokenize, Detokenize, View, Revoke, Purge}
use Rattle.vault_core.specs.declared.right.Right.TheVariants.{Audit}
use Rattle.vault_core.specs.contracts.right.RightOrd.TheImpl.{ghosts}
use Rattle.vault_store.specs.Shown.{Shows}

-- what holds of each right holds of all
each : (P : Right → Type 0) → P Tokenize → P Detokenize → P View → P Revoke → P Purge → P Audit
    → (r : Right) → P r
each P a b c d e f =
    elim [ Tokenize ↦ a | Detokenize ↦ b | View ↦ c | Revoke ↦ d | Purge ↦ e | Audit ↦ f ]

-- the code orders two rights as their numbers are ordered
abbrev ByNumber : Right → Right → Type 0
ByNumber a b = ghosts.cmp a b ≡ nat_cmp (right_number a) (right_number b)

by_number : (a b : Right) → ByNumber a b
by_number =
    each (λ a. (b : Right) → ByNumber a b)
    (each (ByNumber Tokenize) refl refl refl refl refl refl)
    (each (ByNumber Detokenize) refl refl refl refl refl refl)
    (each (ByNumber View) refl refl refl refl refl refl)
    (each (ByNumber Revoke) refl refl refl refl refl refl)
    (each (ByNumber Purge) refl refl refl refl refl refl)
    (each (ByNumber Audit) refl refl refl refl refl refl)

-- the key of a right: the caller, the merchant and the right
abbrev pub RightKey : Type 0
RightKey = Bytes × (Bytes × Right)

-- the order of the keys that the code's types have
abbrev pub derived_cmp : RightKey → RightKey → Ordering
derived_cmp a b =
    ordering_then (bytes_cmp a.0 b.0) (ordering_then (bytes_cmp a.1.0 b.1.0) (ghosts.cmp a.1.1 b.1.1))

pub derived_is : derived_cmp ≡ right_cmp
derived_is =
    λ i a b. ordering_then (bytes_cmp a.0 b.0)
    (ordering_then (bytes_cmp a.1.0 b.1.0) (by_number a.1.1 b.1.1 i))

-- a map of rights has the same rows in either order
pub get-derived : {X : Type 0} (rows : tree.BTreeMap RightKey X) (k : RightKey)
    → tree.get derived_cmp rows k ≡ tree.get right_cmp rows k
get-derived rows k = ap (λ (R : RightKey → RightKey → Ordering). tree.get R rows k) derived_is

-- and changes at a key in either
pub updates-derived : {X : Type 0} (old new : tree.BTreeMap RightKey X) (k : RightKey) (o : Option X)
    → ((q : RightKey)
    → tree.get derived_cmp new q ≡ cond (eq_by_cmp derived_cmp k q) o (tree.get derived_cmp old q))
    → (q : RightKey)
    → tree.get right_cmp new q ≡ cond (eq_by_cmp right_cmp k q) o (tree.get right_cmp old q)
updates-derived old new k o =
    subst (λ (R : RightKey → RightKey → Ordering). (q : RightKey)
    → tree.get R new q ≡ cond (eq_by_cmp R k q) o (tree.get R old q))
    derived_is

-- what a call that puts a row at a key says in one order it says in the other
pub put-derived : {X E : Type 0} (r : Result (Option X) E) (old new : tree.BTreeMap RightKey X)
    (k : RightKey) (row : X)
    → OnOk r ((F : map.FinMap derived_cmp X) → Shows derived_cmp old F
    → Shows derived_cmp new (map.insert F k row))
    → OnOk r ((F : map.FinMap right_cmp X) → Shows right_cmp old F → Shows right_cmp new (map.insert F k row))
put-derived {X = X} r old new k row =
    subst (λ (R : RightKey → RightKey → Ordering).
    OnOk r ((F : map.FinMap R X) → Shows R old F → Shows R new (map.insert F k row)))
    derived_is

-- what a call that fails keeps in one order it keeps in the other
pub kept-derived : {X E : Type 0} (r : Result (Option X) E) (old new : tree.BTreeMap RightKey X)
    → OnErr r ((F : map.FinMap derived_cmp X) → Shows derived_cmp old F → Shows derived_cmp new F)
    → OnErr r ((F : map.FinMap right_cmp X) → Shows right_cmp old F → Shows right_cmp new F)
kept-derived {X = X} r old new =
    subst (λ (R : RightKey → RightKey → Ordering).
    OnErr r ((F : map.FinMap R X) → Shows R old F → Shows R new F))
    derived_is

-- and what a call puts back
pub back-derived : {X : Type 0} (old new : tree.BTreeMap RightKey X) (k : RightKey) (was : Option X)
    → (map.IsAntisymmetric derived_cmp → (F : map.FinMap derived_cmp X) (row : X) → was ≡ map.get F k
    → Shows derived_cmp old (map.insert F k row) → Shows derived_cmp new F)
    → map.IsAntisymmetric right_cmp → (F : map.FinMap right_cmp X) (row : X) → was ≡ map.get F k
    → Shows right_cmp old (map.insert F k row) → Shows right_cmp new F
back-derived {X = X} old new k was =
    subst (λ (R : RightKey → RightKey → Ordering). map.IsAntisymmetric R
    → (F : map.FinMap R X) (row : X) → was ≡ map.get F k
    → Shows R old (map.insert F k row) → Shows R new F)
    derived_is
