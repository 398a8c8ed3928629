use Rattle.std.proofs.Common.{IsUtf8, subst, sym}
use Rattle.std.proofs.lemmas.Str.{IsUtf8-had}
use Rattle.sql_tables.specs.Places.{bytes_at}
use Rattle.sql_tables.specs.declared.text.Place.{Place}
use Rattle.sql_tables.proofs.text.RowText.as_str.Goals as goal

pub as_text-requires : goal.as_text-requires
as_text-requires c =
    subst IsUtf8 (sym c.bytes.ensures)
    (subst (λ (place : Place). IsUtf8 (bytes_at place)) c.in-Here.is (IsUtf8-had _ c.args.self.now.ok))
