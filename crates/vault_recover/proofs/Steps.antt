-- What each step of a history keeps: a sound vault, its records and its entries.
use Rattle.std.proofs.Common.{◌≡◌, ◌⊎◌, zero, suc, List}
use Rattle.std.proofs.Common.{[], ◌∷◌, Some, Contains, inl, inr, refl, sym}
use Rattle.std.proofs.Common.{subst, arith}
use Rattle.std.specs.Prelude.{IfSome}
use Rattle.vault_core.specs.Proper.{IsProper}
use Rattle.vault_core.specs.Sound.{Sound}
use Rattle.vault_core.specs.Table.{after}
use Rattle.vault_core.specs.Vault.{Vault, empty_vault}
use Rattle.vault_core.specs.declared.command.Command.{Command}
use Rattle.vault_core.proofs.Empty.{sound-empty}
use Rattle.vault_core.proofs.Repeats.{Keeps, keeps-refl, keeps-after}
use Rattle.vault_core.proofs.StaysSound.{sound-after}
use Rattle.vault_recover.specs.Histories.{Step, Answered, Undecided, Reopened, Migrated, IsStep, IsHistory}
use Rattle.vault_recover.specs.Histories.{command_in, last}
use Rattle.vault_recover.specs.Histories.{EveryVaultIsSound}

pub step-sound : (V W : Vault) (s : Step) → Sound V → IfSome (command_in s) IsProper → IsStep V s W → Sound W
step-sound V W (Answered c r) sound proper is = subst Sound (sym is.1) (sound-after V sound c proper)
step-sound V W (Undecided c) sound proper (inl is) = subst Sound (sym is) sound
step-sound V W (Undecided c) sound proper (inr is) = subst Sound (sym is) (sound-after V sound c proper)
step-sound V W Reopened sound proper is = subst Sound (sym is) sound
step-sound V W Migrated sound proper is = subst Sound (sym is) sound

pub step-keeps : (V W : Vault) (s : Step) → Sound V → IsStep V s W → Keeps V W
step-keeps V W (Answered c r) sound is = subst (Keeps V) (sym is.1) (keeps-after V sound c)
step-keeps V W (Undecided c) sound (inl is) = subst (Keeps V) (sym is) (keeps-refl V)
step-keeps V W (Undecided c) sound (inr is) = subst (Keeps V) (sym is) (keeps-after V sound c)
step-keeps V W Reopened sound is = subst (Keeps V) (sym is) (keeps-refl V)
step-keeps V W Migrated sound is = subst (Keeps V) (sym is) (keeps-refl V)

pub last-sound : (V : Vault) (h : List (Step × Vault)) → Sound V → IsHistory V h → Sound (last V h)
last-sound V [] sound is = sound
last-sound V (s ∷ more) sound is =
    last-sound s.1 more (step-sound V s.1 s.0 sound is.0 is.1) is.2

pub every_sound : EveryVaultIsSound
every_sound h is = last-sound empty_vault h sound-empty is

-- an item of a list is its first, or one of the others
pub which : {X : Type 0} (x y : X) (xs : List X) → Contains (x ∷ xs) y → (x ≡ y) ⊎ Contains xs y
which x y xs (zero, small, here) = inl here
which x y xs (suc n, small, here) = inr (n, omega (arith, small), here)

pub none-in : {X : Type 0} (x : X) → Contains [] x → ⊥
none-in x c = omega (arith, c.1)

-- a step whose command is done, or which leaves the vault as it is
pub done-or-not : (V W : Vault) (s : Step) → IsStep V s W
    → (W ≡ V) ⊎ ((c : Command) × (command_in s ≡ Some c) × (W ≡ after V c))
done-or-not V W (Answered c r) is = inr (c, refl, is.1)
done-or-not V W (Undecided c) (inl is) = inl is
done-or-not V W (Undecided c) (inr is) = inr (c, refl, is)
done-or-not V W Reopened is = inl is
done-or-not V W Migrated is = inl is
