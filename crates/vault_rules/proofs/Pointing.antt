-- The merchants and tokens of the entries that point at a card row.
use Rattle.std.proofs.Common.{◌≡◌, ℤ, Bool, true, false, cond, List, [], ◌∷◌, map, filter, length, Some}
use Rattle.std.proofs.Common.{refl, ap, ◌∙◌}
use Rattle.std.proofs.lemmas.List.{length-map}
use Rattle.sqlite_rules.specs.Lists.{Has}
use Rattle.sqlite_rules.proofs.ListLemmas.{has_filtered, has_kept}
use Rattle.sqlite_rules.proofs.ProbeLemmas.{has_mapped, mapped_has}
use Rattle.vault_core.specs.Keys.{Bytes}
use Rattle.vault_rules.specs.Lookups.{used_by}
use Rattle.vault_rules.specs.VaultOf.{AreKeysApart, entry_key}
use Rattle.vault_rules.specs.declared.rows.RawEntry.{RawEntry}
use Rattle.vault_rules.proofs.Numbers.{int_same}
use Rattle.vault_rules.proofs.UsedLemmas.{points, points_is}

-- the keys of some of the rows are apart, where those of all are
some_apart : {R K : Type 0} (key : R → K) (p : R → Bool) (rows : List R) → AreKeysApart key rows
    → AreKeysApart (λ (k : K). k) (map key (filter p rows))
some_apart key p [] apart = tt
some_apart {K = K} key p (r ∷ rows) apart = by_first (p r) (some_apart key p rows apart.1)
  where
    by_first : (b : Bool) → AreKeysApart (λ (k : K). k) (map key (filter p rows))
        → AreKeysApart (λ (k : K). k) (map key (cond b (r ∷ filter p rows) (filter p rows)))
    by_first false rest = rest
    by_first true rest = (
      λ other h same.
          let it = has_mapped key (filter p rows) other h in
          apart.0 it.0 (has_filtered p rows it.0 it.1).0 (same ∙ it.2),
      rest,
    )

module _ (entries : List RawEntry) (id : ℤ) where
  abbrev pub pointing_keys : List (Bytes × Bytes)
  pointing_keys = map entry_key (filter (λ (e : RawEntry). points id e.card) entries)

  -- as many as point at the card row
  pub pointing_many : length pointing_keys ≡ used_by entries id
  pointing_many = length-map (filter (λ (e : RawEntry). points id e.card) entries) entry_key

  -- none twice
  pub pointing_apart : AreKeysApart entry_key entries → AreKeysApart (λ key. key) pointing_keys
  pointing_apart apart = some_apart entry_key (λ e. points id e.card) entries apart

  -- each is the key of an entry that points at the card row
  pub pointing_entry : (key : Bytes × Bytes) → Has pointing_keys key
      → (e : RawEntry) × Has entries e × (e.card ≡ Some id) × (key ≡ entry_key e)
  pointing_entry key h =
      let test = λ (e : RawEntry). points id e.card in
      let it = has_mapped entry_key (filter test entries) key h in
      let found = has_filtered test entries it.0 it.1 in
      (it.0, found.0, points_is id it.0.card found.1, it.2)

  -- and each such entry's key is there
  pub pointing_has : (e : RawEntry) → Has entries e → e.card ≡ Some id → Has pointing_keys (entry_key e)
  pointing_has e h is =
      let test = λ (x : RawEntry). points id x.card in
      mapped_has entry_key (filter test entries) e
      (has_kept test entries e h (ap (points id) is ∙ int_same id id refl))
