-- The entries that a step writes anew.
use Rattle.std.specs.Prelude.{◌≡◌, ◌<◌, ◌^◌, ◌⊎◌, List, [], ◌∷◌, Option, Some, None}
use Rattle.std.specs.Global.{Vec}
use Rattle.std.specs.List.{All, flat_map}
use Rattle.sqlite_rules.specs.Lists.{Has}
use Rattle.sql_tables.specs.Rows.{put}
use Rattle.vault_core.specs.Keys.{Bytes, entry_cmp}
use Rattle.vault_core.specs.declared.row.Entry.{Entry}
use Rattle.sqlite.specs.State.{State}
use Rattle.sqlite.specs.Tree.{Trees}
use Rattle.vault_schema.specs.Layers.{Either}
use Rattle.vault_schema.specs.Versions.{AreOf, Lookups, has_cards, next_of}
use Rattle.vault_schema.specs.declared.version.Version.{Version}

-- entries in pieces, each with its merchant and its token, in one list
abbrev pub joined : List (Vec (Bytes × Bytes × Entry)) → List (Bytes × Bytes × Entry)
joined = flat_map (λ piece. piece.items)

-- the end of each fits into an integer of the database
abbrev pub AreStorable : List (Vec (Bytes × Bytes × Entry)) → Type 0
AreStorable = All (λ piece. All (λ x. x.2.expires < 2 ^ 63) piece.items)

-- these are the entries, each with its merchant and its token
pub record AreEntriesOf (entries : List (Bytes × Bytes × Entry)) (h : Lookups) : Type 0 where
  pub sound : (x : Bytes × Bytes × Entry) → Has entries x → h.entries (x.0, x.1) ≡ Some x.2
  pub complete : (m token : Bytes) (e : Entry) → h.entries (m, token) ≡ Some e → Has entries (m, token, e)

-- the entries with these written one after the other
abbrev pub with_all : List (Bytes × Bytes × Entry) → (Bytes × Bytes → Option Entry) → Bytes × Bytes
    → Option Entry
with_all [] held = held
with_all (x ∷ xs) held = with_all xs (put entry_cmp held (x.0, x.1) (Some x.2))

-- what is looked up, without entries
abbrev pub without_entries : Lookups → Lookups
without_entries h = record h { entries = λ key. None }

-- what the step from a version is given: the entries of schema 1, and else nothing
abbrev pub AreFor : Version → List (Bytes × Bytes × Entry) → Lookups → Type 0
AreFor v entries h = Either (has_cards v) (Unit {0}) (AreEntriesOf entries h)

-- a sound database whose rows stand for this in some version
abbrev pub AreSome : Lookups → Trees → Type 0
AreSome h db = (v : Version) × AreOf v h db

-- a crash leaves what stands for this in the version or in the next one, and in some version
abbrev pub LeavesInEither : Version → Lookups → State → Type 0
LeavesInEither v h st = (db : Trees) → st.may_leave db → AreOf v h db ⊎ AreOf (next_of v) h db

abbrev pub LeavesInSome : Lookups → State → Type 0
LeavesInSome h st = (db : Trees) → st.may_leave db → AreSome h db
