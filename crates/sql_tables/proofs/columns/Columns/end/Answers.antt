use Rattle.std.proofs.Common.{arith, ap, length, length-drop}
use Rattle.sql_tables.proofs.columns.Columns.end.Goals as goal

pub returns-then-self-column_count-clause-refused : goal.returns-then-self-column_count-clause-refused
returns-then-self-column_count-clause-refused c store none =
    omega (
      arith,
      ap length none,
      ap length c.self.view_is,
      length-drop c.self.inside.at c.self.inside.row.now,
    )
