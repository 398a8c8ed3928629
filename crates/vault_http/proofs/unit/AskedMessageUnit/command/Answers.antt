use Rattle.vault_http.proofs.unit.AskedMessageUnit.command.Goals as goal

pub returns-in_default : goal.returns-in_default
returns-in_default c = record {
  wanted = c.in-Err.ensures.wanted c.in_default.not-ServiceMemory;
  proper = tt;
}
