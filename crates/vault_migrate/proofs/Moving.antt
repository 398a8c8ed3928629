-- What a move comes to.
use Rattle.std.proofs.Common.{Ok, Err, ◌≡◌, ◌⊎◌, ◌∙◌, ap, inl, inr, length, not, refl, sym, subst, false}
use Rattle.std.proofs.Common.{Bool, true, None, IsTrue, Result, IfErr, arith, ℕ, ℤ}
use Rattle.std.specs.Prelude.{Decides}
use Rattle.sqlite.specs.Effect.{Database, IsDatabase}
use Rattle.sqlite.specs.Schema.{Schema}
use Rattle.sqlite.specs.State.{State, HasCleanDisk, IsUnchanged}
use Rattle.sqlite.specs.Tree.{Trees}
use Rattle.sql_tables.specs.Schema.{no_schema}
use Rattle.sql_tables.specs.States.{LeavesNoMore}
use Rattle.vault_core.specs.Vault.{Vault}
use Rattle.vault_migrate.specs.Moved.{FindsBroken, FindsVersion, IsMovable, IsNoOlder, IsOlder}
use Rattle.vault_migrate.specs.Moved.{IsSoundWhereFull, LeavesIn}
use Rattle.vault_schema.proofs.Newest.{held_by_newest, newest_is, one_version, ours_in_newest}
use Rattle.vault_schema.proofs.VersionLemmas.{last_commit}
use Rattle.vault_schema.specs.Holds.{Holds, HoldsIn, LeavesEither}
use Rattle.vault_schema.specs.Layers.{Either, is_from}
use Rattle.vault_schema.specs.Left.{left_after}
use Rattle.vault_schema.specs.Schema.{newest_schema}
use Rattle.vault_schema.specs.Stands.{lookups_of, newest}
use Rattle.vault_schema.specs.Versioned.{HasVersion}
use Rattle.vault_schema.specs.Versions.{IsOf, schema_of}
use Rattle.vault_schema.specs.declared.version.Version.{Version}
use Rattle.vault_verdict.proofs.InVersion.{has_version_in}
use Rattle.vault_verdict.proofs.Full.{full_of}
use Rattle.vault_verdict.proofs.Judged.{no_refusal_in}
use Rattle.vault_verdict.proofs.Results.{if_err}
use Rattle.vault_verdict.specs.Opened.{IsBrokenIn, IsFit, IsLeastBroken, IsNoRefusal, IsVersionIn, IsWrong}
use Rattle.vault_verdict.specs.Opened.{LeavesFound, StandsSoundIn}
use Rattle.vault_verdict.specs.ReadAs.{IsFullIn}
use Rattle.vault_verdict.specs.Reading.{IsFull, IsQuietWhere}
use Rattle.vault_verdict.specs.declared.fault.OpenFault.{OpenFault}
use Rattle.vault_verdict.specs.declared.fault.OpenFault.TheVariants.{WrongSchema, Damaged}

-- ---- which version it is

many : (s t : Schema) → s ≡ t → length s.tables ≡ length t.tables
many s t same = ap (λ (x : Schema). length x.tables) same

-- a version has tables
pub never_blank : (v : Version) → schema_of v ≡ no_schema → ⊥
never_blank v same = let e = many _ _ same in absurd (omega (arith, e))

-- a database in the schema of an older version
abbrev pub IsInOlder : Version → Database → Type 0
IsInOlder v db = IsOlder v × (db.schema ≡ schema_of v)

-- a version is older or the newest
older_or : (v : Version) → IsOlder v ⊎ (v ≡ newest)
older_or v =
    elim (is_from newest v) as (λ b. is_from newest v ≡ b → Either b ⊥ (Unit {0}) ⊎ (v ≡ newest)) [
      | true ↦ λ from. inr (newest_is v from)
      | false ↦ λ before. inl tt
    ] refl

-- an older version isn't the newest
pub newest_older : (v : Version) → IsOlder v → v ≡ newest → ⊥
newest_older v older same = subst IsOlder same older

pub older_schema : (v : Version) → IsOlder v → schema_of v ≡ newest_schema → ⊥
older_schema v older same = newest_older v older (one_version v newest same)

-- what a check finds in the newest version is so in the version of the schema
pub sound_where_full : (db : Database) → IsNoOlder db → (IsFull db → IsFit db) → IsSoundWhereFull db
sound_where_full db none checked v full = elim (older_or v) [
  | inl older ↦ absurd (none v older full.schema)
  | inr same ↦ subst (λ (w : Version). IsFullIn w db → StandsSoundIn w db) (sym same) at_newest full
]
  where
    at_newest : IsFullIn newest db → StandsSoundIn newest db
    at_newest full = elim (checked full.full) [
      | inl it ↦ it
      | inr blank ↦ absurd (never_blank newest (sym full.schema ∙ blank))
    ]

-- of each failure
pub each_err : {A : Type 0} {Q : OpenFault → Type 0} (r : Result A OpenFault) → ((e : OpenFault) → Q e)
    → IfErr r Q
each_err (Ok a) f = tt
each_err (Err e) f = f e

-- where no older schema is there, a version that is there is the newest
pub is_newest : (db : Database) → IsNoOlder db → (v : Version) → db.schema ≡ schema_of v → v ≡ newest
is_newest db none v is = elim (older_or v) [ inl older ↦ absurd (none v older is) | inr same ↦ same ]

-- ---- a vault that is held

-- it has full rows
pub full_held : (v : Version) (V : Vault) (st : State) → HoldsIn v V st → IsFullIn v st.now
full_held v V st h =
    record { schema = h.is.schema; full = full_of v st.now.trees (lookups_of V) h.is.stand }

-- it stays held where nothing changed
pub still_held : (v : Version) (V : Vault) (old new : State) → HoldsIn v V old → IsUnchanged old new
    → new.step_limit ≡ old.step_limit → HoldsIn v V new
still_held v V old new h same limit = record {
  free = record { is_open = same.0.is_open; unlimited = limit ∙ h.free.unlimited };
  autocommit = same.0.mode ∙ h.autocommit;
  settled = same.0.now_is ∙ h.settled ∙ sym same.0.committed_is;
  is = subst (IsOf v (lookups_of V)) (sym same.0.now_is) h.is;
}

-- where only the last commit may be left, what leaves no more leaves the vault
pub left_in : (v : Version) (V : Vault) (old new : State) → HoldsIn v V old
    → ((db : Trees) → old.may_leave db → db ≡ old.committed.trees) → LeavesNoMore old new → LeavesIn v V new
left_in v V old new h alone no_more db left = last_commit v (lookups_of V) old db h
    (alone db (no_more db left))

-- a sound vault that the database stands for is held, where nothing changed since
pub holds_sound : (v : Version) (old new : State) (autocommit : Bool) (it : StandsSoundIn v old.now)
    → IsDatabase old.now → autocommit ≡ not old.in_transaction → old.in_transaction ≡ false
    → old.step_limit ≡ None
    → (IsTrue autocommit → IsTrue old.is_open → old.now ≡ old.committed) → IsUnchanged old new
    → HoldsIn v it.vault old
holds_sound v old new autocommit it sound is idle unlimited settled same = record {
  free = record { is_open = same.0.was_open; unlimited = unlimited };
  autocommit = idle;
  settled = settled (is ∙ ap not idle) same.0.was_open;
  is = record { schema = it.schema; sound = sound; stand = it.stand };
}

-- ---- what is found

-- in an older version
module _ (v : Version) (older : IsOlder v) (db : Database) (is : db.schema ≡ schema_of v) where
  found_version : (w : Version) → db.schema ≡ schema_of w → v ≡ w
  found_version w same = one_version v w (sym is ∙ same)

  pub broken_in : {A : Type 0} (r : Result A OpenFault)
      → IfErr r (λ e. (rule : ℕ) → e ≡ Damaged rule → IsFullIn v db → IsBrokenIn v db rule)
      → IfErr r (λ e. (rule : ℕ) → e ≡ Damaged rule → FindsBroken db rule)
  broken_in r = if_err r (λ e broken rule same. record {
    older = λ w was full.
        let one = found_version w full.schema in
        subst (λ (x : Version). IsBrokenIn x db rule) one
        (broken rule same (subst (λ (x : Version). IsFullIn x db) (sym one) full));
    newest = λ none full. absurd (none v older is);
  })

  pub version_in : {A : Type 0} (r : Result A OpenFault)
      → IfErr r (λ e. (n : ℤ) → e ≡ WrongSchema n → db.schema ≡ schema_of v → IsVersionIn v db n)
      → IfErr r (λ e. (n : ℤ) → e ≡ WrongSchema n → FindsVersion db n)
  version_in r = if_err r (λ e wrong n same. record {
    older = λ w was there.
        subst (λ (x : Version). IsVersionIn x db n) (found_version w there) (wrong n same is);
    newest = λ none. absurd (none v older is);
  })

  pub movable_in : {A : Type 0} (r : Result A OpenFault)
      → IfErr r (λ e. (rule : ℕ) → e ≡ Damaged rule → IsFullIn v db → IsBrokenIn v db rule)
      → IfErr r (λ e. (n : ℤ) → e ≡ WrongSchema n → db.schema ≡ schema_of v → IsVersionIn v db n)
      → IfErr r (λ e. IsMovable db → IsNoRefusal e)
  movable_in r damaged versioned =
      if_err r (λ e never movable. elim movable [
        | inl it ↦ never
            (subst (λ (x : Version). StandsSoundIn x db) (sym (found_version it.0 it.1.schema)) it.1)
        | inr blank ↦ absurd (never_blank v (sym is ∙ blank))
      ]) (no_refusal_in v db r damaged versioned)

-- and in none
module _ (db : Database) (none : IsNoOlder db) where
  pub broken_else : {A : Type 0} (r : Result A OpenFault)
      → IfErr r (λ e. (rule : ℕ) → e ≡ Damaged rule → IsFull db → IsLeastBroken db rule)
      → IfErr r (λ e. (rule : ℕ) → e ≡ Damaged rule → FindsBroken db rule)
  broken_else r = if_err r (λ e broken rule same. record {
    older = λ w was full. absurd (none w was full.schema);
    newest = λ none full. broken rule same full;
  })

  pub version_else : {A : Type 0} (r : Result A OpenFault)
      → IfErr r (λ e. (n : ℤ) → e ≡ WrongSchema n → IsWrong db n)
      → IfErr r (λ e. (n : ℤ) → e ≡ WrongSchema n → FindsVersion db n)
  version_else r = if_err r (λ e wrong n same. record {
    older = λ w was there. absurd (none w was there);
    newest = λ none. wrong n same;
  })

  pub movable_else : {A : Type 0} (r : Result A OpenFault) → IfErr r (λ e. IsFit db → IsNoRefusal e)
      → IfErr r (λ e. IsMovable db → IsNoRefusal e)
  movable_else r = if_err r (λ e never movable. elim movable [
    | inl it ↦ never
        (inl (subst (λ (x : Version). StandsSoundIn x db) (is_newest db none it.0 it.1.schema) it.1))
    | inr blank ↦ never (inr blank)
  ])

-- ---- what a check of a store with tables leaves

pub found_after : (old new : State) → IsQuietWhere (HasVersion old.now.schema) old new → HasCleanDisk new
    → ((V : Vault) → Holds old V → (db : Trees) → old.may_leave db → db ≡ old.committed.trees)
    → ¬ (old.now.schema ≡ no_schema) → LeavesFound old new
found_after old new quiet clean alone some = record {
  held = λ V h.
      left_after old new V h (alone V h)
      (quiet.left clean (has_version_in newest old.now.schema h.schema));
  blank = λ ready none. absurd (some none);
}

-- a check leaves no more, whether or not a version is told
pub checked_less : (old new : State) (told : Bool) → Decides told (HasVersion old.now.schema)
    → IsQuietWhere (HasVersion old.now.schema) old new → (¬ (HasVersion old.now.schema) → new ≡ old)
    → HasCleanDisk new → LeavesNoMore old new
checked_less old new true is quiet same clean db left = quiet.left clean (is.0 refl) db left
checked_less old new false is quiet same clean db left =
    subst (λ (s : State). s.may_leave db)
    (same (λ has. let clash : false ≡ true = is.1 has in cc (clash))) left

-- where no older schema is there, a vault that is held is held in the newest
pub held_newest : (old : State) → IsNoOlder old.now → (v : Version) (V : Vault) → HoldsIn v V old
    → (v ≡ newest) × Holds old V
held_newest old none v V h =
    let same = is_newest old.now none v h.is.schema in
    (same, held_by_newest V old (subst (λ (x : Version). HoldsIn x V old) same h))

-- so it stays in it, whatever is left
pub left_newest : (V : Vault) (s : State) → LeavesEither s V V → LeavesIn newest V s
left_newest V s left db there = elim (left db there) [
  | inl ours ↦ ours_in_newest V db ours
  | inr ours ↦ ours_in_newest V db ours
]

-- so a vault in any version is in the newest, and stays there where a check leaves what it found
pub kept_newest : (old new : State) → IsNoOlder old.now → LeavesFound old new → (v : Version) (V : Vault)
    → HoldsIn v V old → (v ≡ newest) × LeavesIn newest V new
kept_newest old new none found v V h =
    let it = held_newest old none v V h in (it.0, left_newest V new (found.held V it.1))

-- in an older version no table is missing
pub older_found : (v : Version) (old new : State) → old.now.schema ≡ schema_of v → IsOlder v
    → LeavesFound old new
older_found v old new is older = record {
  held = λ V h. absurd (older_schema v older (sym is ∙ h.schema));
  blank = λ ready none. absurd (never_blank v (sym is ∙ none));
}
