-- Lists that are followed, and the offices that follow them.
use Rattle.std.proofs.Common.{◌≡◌, ◌||◌, List, ℕ, Bool, true, false, Option, Some, None, option_map}
use Rattle.std.proofs.Common.{refl, subst}
use Rattle.std.specs.Prelude.{IsSomeAnd, is_some}
use Rattle.vault_rights.proofs.Members.{some_same}
use Rattle.vault_live.specs.Turns.{Asking}

module _ {F X D : Type 0} (desk_of : F → D) (file_of : F → List ℕ) (path : X → List ℕ) (desk : D) where
  -- what an office asks for is what its list asks for, where there is one
  pub asks_as : (o : Option F) (l : Option X) → option_map desk_of o ≡ option_map (λ it. desk) l
      → option_map file_of o ≡ option_map path l → (A : D → List ℕ → Asking) → (P : Asking → Type 0)
      → P (λ V cs. IsSomeAnd o (λ f. A (desk_of f) (file_of f) V cs))
      → P (λ V cs. IsSomeAnd l (λ it. A desk (path it) V cs))
  asks_as None None same_desk same_path A P h = h
  asks_as None (Some it) same_desk same_path A P h = absurd (cc same_desk)
  asks_as (Some f) None same_desk same_path A P h = absurd (cc same_desk)
  asks_as (Some f) (Some it) same_desk same_path A P h =
      subst (λ p. P (λ V cs. A desk p V cs)) (some_same same_path)
      (subst (λ d. P (λ V cs. A d (file_of f) V cs)) (some_same same_desk) h)

  -- and so is what one asks for that begins with its rows
  pub asks_listed : {R : Type 0} (rows_of : F → R) (rows : X → R) (o : Option F) (l : Option X)
      → option_map desk_of o ≡ option_map (λ it. desk) l → option_map file_of o ≡ option_map path l
      → option_map rows_of o ≡ option_map rows l → (A : D → List ℕ → R → Asking) → (P : Asking → Type 0)
      → P (λ V cs. IsSomeAnd o (λ f. A (desk_of f) (file_of f) (rows_of f) V cs))
      → P (λ V cs. IsSomeAnd l (λ it. A desk (path it) (rows it) V cs))
  asks_listed rows_of rows None None same_desk same_path same_rows A P h = h
  asks_listed rows_of rows None (Some it) same_desk same_path same_rows A P h = absurd (cc same_desk)
  asks_listed rows_of rows (Some f) None same_desk same_path same_rows A P h = absurd (cc same_desk)
  asks_listed rows_of rows (Some f) (Some it) same_desk same_path same_rows A P h =
      subst (λ r. P (λ V cs. A desk (path it) r V cs)) (some_same same_rows)
      (subst (λ p. P (λ V cs. A desk p (rows_of f) V cs)) (some_same same_path)
      (subst (λ d. P (λ V cs. A d (file_of f) (rows_of f) V cs)) (some_same same_desk) h))

-- where there is no list none is followed
pub none_followed : {F X : Type 0} (file_of : F → List ℕ) (path : X → List ℕ) (o : Option F) (l : Option X)
    → option_map file_of o ≡ option_map path l → is_some l ≡ false → is_some o ≡ false
none_followed file_of path None l same none = refl
none_followed file_of path (Some f) None same none = absurd (cc same)
none_followed file_of path (Some f) (Some it) same none = absurd (cc none)

-- neither of two
pub neither : (a b : Bool) → a ≡ false → b ≡ false → (a || b) ≡ false
neither false b first second = second
neither true b first second = absurd (cc first)

pub not_first : (a b : Bool) → (a || b) ≡ false → a ≡ false
not_first false b none = refl
not_first true b none = absurd (cc none)

pub not_second : (a b : Bool) → (a || b) ≡ false → b ≡ false
not_second false b none = none
not_second true b none = absurd (cc none)
