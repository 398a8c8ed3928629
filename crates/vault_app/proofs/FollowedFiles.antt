-- Lists that are followed, at the path that the words name.
use Rattle.std.proofs.Common.{◌≡◌, ℕ, List, Option, Some, None, true, false, refl, subst, sym, Bor}
use Rattle.std.specs.Global.{Vec}
use Rattle.std.specs.Prelude.{IfSome}
use Rattle.vault_core.specs.Scalar.{IsMoment}
use Rattle.vault_merchants.specs.ListedMerchants.{AreListed, Wanted}
use Rattle.vault_rights.specs.Named.{Row}
use Rattle.vault_live.specs.Following.{AreRowsIn}
use Rattle.vault_live.specs.Kinds.{Naming}
use Rattle.vault_live.specs.Following.{is_whole}
use Rattle.vault_jobs.specs.Lists.{path_of}
use Rattle.vault_jobs.specs.Moments.{IsMomentOf}
use Rattle.vault_jobs.specs.declared.lists.ListFile.{ListFile}
use Rattle.vault_app.proofs.Values.{listed_proper, merchants_proper}
use Rattle.vault_app.specs.Followed.{IsFaultyAt, IsFollowed, IsUnfinishedAt}
use Rattle.vault_app.specs.TaskValues.{AreMerchantValues, AreRightValues}
use Rattle.vault_app.specs.World.{World}

-- a whole text of the file that is named, which has a fault
pub faulty_there : (faults : List ℕ → ℕ → Type 0) (world : World) (o : Option (Bor (List ℕ)))
    (path : Bor (List ℕ)) (text : List ℕ) (n : ℕ) → o ≡ Some path → world.looks path.now 0 text
    → is_whole text ≡ true → faults text n → IsFaultyAt faults world o n
faulty_there faults world o path text n is said whole h =
    subst (λ x. IsFaultyAt faults world x n) (sym is) (text, said, whole, h)

-- one that isn't whole
pub unfinished_there : (world : World) (o : Option (Bor (List ℕ))) (path : Bor (List ℕ)) (text : List ℕ)
    → o ≡ Some path → world.looks path.now 0 text → is_whole text ≡ false → IsUnfinishedAt world o
unfinished_there world o path text is said cut =
    subst (λ x. IsUnfinishedAt world x) (sym is) (text, said, cut)

-- a list of the file that is named
pub followed_there : {X : Type 0} (names : Naming X) (world : World) (o : Option (Bor (List ℕ)))
    (path : Bor (List ℕ)) (it : ListFile X) (text : Vec ℕ) (rows : Vec X) → o ≡ Some path → it.text ≡ text
    → it.rows ≡ rows → world.looks path.now 0 text.items → is_whole text.items ≡ true
    → names text.items rows.items → IsMomentOf world.tells None it.now → path_of it ≡ path.now
    → IsFollowed names world o (Some it)
followed_there {X = X} names world o path it text rows is same_text same_rows said whole named told of =
    subst (λ x. IsFollowed names world x (Some it)) (sym is) (
      it,
      refl,
      (
        subst (λ (t : Vec ℕ). world.looks path.now 0 t.items) (sym same_text) said,
        subst (λ (t : Vec ℕ). is_whole t.items ≡ true) (sym same_text) whole,
        subst (λ (t : Vec ℕ). names t.items it.rows.items) (sym same_text)
            (subst (λ (r : Vec X). names text.items r.items) (sym same_rows) named),
      ),
      told,
      of,
    )

-- the rights of such a list are values of their types
pub rights_values : (world : World) (o : Option (Bor (List ℕ))) (listed : Option (ListFile Row))
    → IsFollowed AreRowsIn world o listed → IfSome listed (λ it. IsMoment it.now)
    → IfSome listed AreRightValues
rights_values world None listed none moment = subst (λ x. IfSome x AreRightValues) (sym none) tt
rights_values world (Some path) listed (it, is, (said, whole, named), told, of) moment =
    let now : IsMoment it.now = subst (λ x. IfSome x (λ it. IsMoment it.now)) is moment in
    subst (λ x. IfSome x AreRightValues) (sym is) (
      now,
      listed_proper (λ text. text ≡ it.text.items) it.now now it.rows.items
          (it.text.items, (named.0, refl, named.1, named.2, named.3)),
    )

-- and so are the merchants
pub merchant_values : (world : World) (o : Option (Bor (List ℕ))) (listed : Option (ListFile Wanted))
    → IsFollowed AreListed world o listed → IfSome listed (λ it. IsMoment it.now)
    → IfSome listed AreMerchantValues
merchant_values world None listed none moment = subst (λ x. IfSome x AreMerchantValues) (sym none) tt
merchant_values world (Some path) listed (it, is, (said, whole, named), told, of) moment =
    let now : IsMoment it.now = subst (λ x. IfSome x (λ it. IsMoment it.now)) is moment in
    subst (λ x. IfSome x AreMerchantValues) (sym is)
    (merchants_proper (λ text. text ≡ it.text.items) it.now now it.rows.items (it.text.items, (refl, named)))
