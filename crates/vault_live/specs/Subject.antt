-- What a list that is followed is of.
use Rattle.std.specs.Prelude.{ℕ, List, codes}
use Rattle.vault_live.specs.declared.subject.Subject.{Subject}
use Rattle.vault_live.specs.declared.subject.Subject.TheVariants.{Rights, Merchants}

-- the word of the lines that speak of such a list
abbrev pub name_of : Subject → List ℕ
name_of Rights = codes "rights"
name_of Merchants = codes "merchants"
