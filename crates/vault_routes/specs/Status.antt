-- The status of an answer (RFC 9110, section 15).
use Rattle.std.specs.Prelude.{ℕ, option_map, unwrap_or}
use Rattle.vault_refusal.specs.Refusal as refusal
use Rattle.vault_core.specs.declared.reply.Reply.{Reply}
use Rattle.vault_core.specs.declared.reply.Reply.TheVariants.{Refused}

-- the status code of the refusal that has the number, or of a number that none has
abbrev pub status_for : ℕ → ℕ
status_for n = unwrap_or (option_map refusal.status_of (refusal.numbered n)) refusal.other_status

-- the status code of a reply
abbrev pub status_of : Reply → ℕ
status_of (Refused n) = status_for n
status_of given = 200
