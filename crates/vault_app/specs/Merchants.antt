-- The list of a file of merchants.
use Rattle.std.specs.Prelude.{◌≡◌, ◌≢◌, ℕ, List}
use Rattle.std.specs.declared.io.ErrorKind.{ErrorKind}
use Rattle.vault_refusal.specs.Refusal.{number_of}
use Rattle.vault_refusal.specs.declared.refusal.Refusal.TheVariants.{RightsMemory}
use Rattle.vault_merchants.specs.Faults.{IsFault, refusal_of}
use Rattle.vault_merchants.specs.ListedMerchants.{AreListed, Wanted}
use Rattle.vault_merchants.specs.declared.fault.MerchantsFault.{MerchantsFault}
use Rattle.vault_jobs.specs.declared.stop.Stop.TheVariants as stop
use Rattle.vault_live.specs.declared.subject.Subject.TheVariants as subject
use Rattle.vault_app.specs.Endings.{EndsSo, no_ending}
use Rattle.vault_app.specs.declared.ending.Ending.{Ending}

-- the rows are the merchants that the document of this text has, which is said, in order
abbrev pub AreMerchantsIn : (List ℕ → Type 0) → List ℕ → List Wanted → Type 0
AreMerchantsIn says text rows = says text × AreListed text rows

-- they are those of some text that is said
abbrev pub AreMerchantsOf : (List ℕ → Type 0) → List Wanted → Type 0
AreMerchantsOf says rows = (text : List ℕ) × AreMerchantsIn says text rows

-- a text that is said lists no merchants by a fault of this number, which isn't want of memory
abbrev pub IsRefusedList : (List ℕ → Type 0) → ℕ → Type 0
IsRefusedList says n = (text : List ℕ) × (fault : MerchantsFault) × says text
    × IsFault text fault × (n ≡ number_of (refusal_of fault)) × (n ≢ number_of RightsMemory)

-- a job ends without a list: a text that is said is refused, or none is read
abbrev pub EndsWithoutMerchants : (List ℕ → Type 0) → Ending → Type 0
EndsWithoutMerchants says ending = EndsSo (record no_ending {
  refused = IsRefusedList says;
  stopped = λ s. (why : ErrorKind) × (s ≡ stop.Unread subject.Merchants why);
}) ending
