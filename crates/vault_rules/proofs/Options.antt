-- What an option holds.
use Rattle.std.proofs.Common.{◌≡◌, Bool, true, false, Option, Some, None, option_map, is_some, refl, sym}
use Rattle.std.proofs.Common.{true≢false}
use Rattle.std.specs.Option.{option_map_or}

pub there_is : {A : Type 0} (o : Option A) → is_some o ≡ true → (x : A) × (o ≡ Some x)
there_is None h = absurd (true≢false (sym h))
there_is (Some x) h = (x, refl)

pub mapped_is : {A B : Type 0} (f : A → B) (o : Option A) (y : B) → option_map f o ≡ Some y
    → (x : A) × (o ≡ Some x) × (f x ≡ y)
mapped_is f None y h = cc
mapped_is f (Some x) y h = let same : f x ≡ y = cc in (x, refl, same)

pub tested_is : {A : Type 0} (p : A → Bool) (o : Option A) → option_map_or p o false ≡ true
    → (x : A) × (o ≡ Some x) × (p x ≡ true)
tested_is p None h = absurd (true≢false (sym h))
tested_is p (Some x) h = (x, refl, h)
