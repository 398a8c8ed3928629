-- The one row of `vault`.
use Rattle.std.proofs.Common.{◌≡◌, inl, ℕ, pos, List, [], ◌∷◌, length, map, drop, true, Some, refl}
use Rattle.std.proofs.Common.{sym, ap, subst, ◌∙◌, arith, IsPermutation}
use Rattle.std.proofs.lemmas.Bool.{and_parts}
use Rattle.std.proofs.lemmas.List.Sorted.{IsPermutation-sym}
use Rattle.sqlite.proofs.Callers.{one_permutation}
use Rattle.sqlite.specs.Effect.{Database, IsDatabase}
use Rattle.sqlite.specs.Schema.{Schema}
use Rattle.sqlite.specs.declared.types.Value.TheVariants.{Null, Int}
use Rattle.sqlite_rules.specs.Lists.{Has}
use Rattle.sqlite_rules.proofs.RuleLemmas.{keeps_at}
use Rattle.sqlite_schema.specs.Rules.{are_typed}
use Rattle.sqlite_schema.specs.declared.schema.Constraint.TheVariants.{Datatype}
use Rattle.sql_tables.specs.Schema.{table_of}
use Rattle.vault_verdict.specs.Opened.{AreVersions}
use Rattle.vault_tables.specs.VersionTexts.{version_values}
use Rattle.vault_verdict.specs.Reading.{shown_by, version_columns}
use Rattle.vault_rules.specs.declared.rows.RawVersion.{RawVersion}
use Rattle.vault_schema.specs.VersionRows.{IsVersion}
use Rattle.vault_schema.specs.VersionRows.{vault}
use Rattle.vault_schema.specs.Versions.{schema_of}
use Rattle.vault_schema.specs.declared.version.Version.{Version}

-- the one item of which the list is shown
pub one_shown : {X Y : Type 0} (f : X → Y) (xs : List X) (y : Y) → map f xs ≡ y ∷ []
    → (x : X) × (xs ≡ x ∷ []) × (f x ≡ y)
one_shown f [] y e = absurd cc
one_shown f (x ∷ []) y e = (x, refl, let same : f x ≡ y = cc in same)
one_shown f (x ∷ z ∷ xs) y e = absurd (let many = ap length e in cc)

-- with the id 1 and a version it is the row of this version
pub version_in : (n : ℕ) (db : Database) → Has db.schema.tables (table_of vault) → IsDatabase db
    → (versions : List RawVersion) → AreVersions db.trees versions → (v : RawVersion) → versions ≡ v ∷ []
    → v.id ≡ pos 1 → v.version ≡ pos n → IsVersion n (db.trees 0)
version_in n db listed sound versions are v one id version =
    let all = map (shown_by version_columns) (db.trees 0) in
    let same = subst (λ vs. IsPermutation (map version_values vs) all) one (IsPermutation-sym all _ are) in
    let row = one_shown _ (db.trees 0) (version_values v) (one_permutation _ all same) in
    let there : Has (db.trees 0) row.0 = subst (λ rs. Has rs row.0) (sym row.1) (inl refl) in
    let rule = sound.obeys.rules Datatype in
    let kept = keeps_at Datatype db.schema db.trees (table_of vault) row.0 rule listed there in
    let typed : are_typed (Some 0) 0 vault.columns (drop 1 row.0) ≡ true = (and_parts _ _ kept).0 in
    let it : row.0 ≡ Int (pos 1) ∷ Null ∷ Int (pos n) ∷ [] = grind (arith, typed, row.2, id, version) in
    row.1 ∙ ap (λ r. r ∷ []) it

pub version_stands : (v : Version) (db : Database) → db.schema ≡ schema_of v → IsDatabase db
    → (versions : List RawVersion) → AreVersions db.trees versions → (row : RawVersion)
    → versions ≡ row ∷ [] → row.id ≡ pos 1 → (n : ℕ) → row.version ≡ pos n → IsVersion n (db.trees 0)
version_stands v db ours sound versions are row one id n =
    version_in n db (subst (λ (s : Schema). Has s.tables (table_of vault)) (sym ours)
    (inl refl)) sound versions are row one id
