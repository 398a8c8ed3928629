-- Schemas that have a version.
use Rattle.std.proofs.Common.{◌≡◌, inl, inr, ℤ, pos, refl, sym, subst, drop, ◌∙◌}
use Rattle.sqlite.specs.Effect.{Database}
use Rattle.sqlite.specs.Schema.{Schema}
use Rattle.vault_verdict.proofs.Results.{same_version}
use Rattle.vault_verdict.specs.Faults.{IsJudged}
use Rattle.vault_verdict.specs.Names.{IsMixed, vault_names}
use Rattle.vault_verdict.specs.Opened.{IsOtherVersion, IsWrong, TellsVersion}
use Rattle.vault_verdict.specs.declared.fault.OpenFault.{OpenFault}
use Rattle.vault_verdict.specs.declared.fault.OpenFault.TheVariants.{WrongSchema, Store}
use Rattle.vault_schema.specs.Versioned.{HasVersion, versioned}
use Rattle.vault_schema.specs.Schema.{newest_schema}

-- with the tables behind that of the version, and with its indexes
abbrev pub version_of : Schema → Schema
version_of s = versioned (drop 1 s.tables) s.indexes

pub is_versioned : (s : Schema) → HasVersion s → s ≡ version_of s
is_versioned s it = λ i. record { tables = it.tables i; indexes = s.indexes; views = it.views i }

-- the schema of a vault has a version
pub has_version : (s : Schema) → s ≡ newest_schema → HasVersion s
has_version s ours = subst HasVersion (sym ours) (record { tables = refl; views = refl })

-- a refusal by a version is one of what was read
judged_as : (e : OpenFault) (n : ℤ) → e ≡ WrongSchema n → IsJudged e
judged_as e n same = subst IsJudged (sym same) tt

-- a version that was told is that of the refusal
other_as : (db : Database) (e : OpenFault) (n m : ℤ)
    → e ≡ WrongSchema n → e ≡ WrongSchema m → IsOtherVersion db m → IsOtherVersion db n
other_as db e n m same told other = subst (IsOtherVersion db) (same_version m n (sym told ∙ same)) other

-- what is told where names are mixed
pub wrong_mixed : (db : Database) (e : OpenFault) → IsMixed db.schema vault_names
    → (IsJudged e → TellsVersion db (WrongSchema (pos 0)) e) → (n : ℤ) → e ≡ WrongSchema n → IsWrong db n
wrong_mixed db e mixed told n same = elim (told (judged_as e n same)) as (λ _. IsWrong db n) [
  | inl other ↦ inl (other_as db e n other.0 same other.1 other.2)
  | inr zero ↦ inr (same_version n (pos 0) (sym same ∙ zero.0), mixed, zero.1)
]

-- and where the schema is another program's
pub wrong_other : (db : Database) (e : OpenFault)
    → (IsJudged e → TellsVersion db Store e) → (n : ℤ) → e ≡ WrongSchema n → IsWrong db n
wrong_other db e told n same = elim (told (judged_as e n same)) as (λ _. IsWrong db n) [
  | inl other ↦ inl (other_as db e n other.0 same other.1 other.2)
  | inr store ↦ absurd (let clash = sym same ∙ store.0 in cc)
]
