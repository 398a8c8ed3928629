-- What a row asks for: a command, or the first refusal that applies.
use Rattle.std.specs.Prelude.{◌≡◌, codes, true, Ok, Err}
use Rattle.std.specs.Str.Parse.{digits_value}
use Rattle.vault_pan.specs.CardText.{IsCardText, IsNumber, digits_of}
use Rattle.vault_pan.specs.Luhn.{passes_check}
use Rattle.vault_core.specs.Keys.{Bytes}
use Rattle.vault_core.specs.Scalar.{IsRequestText}
use Rattle.vault_core.specs.Words.{use_word}
use Rattle.vault_core.specs.declared.command.Command.TheVariants.{Tokenize}
use Rattle.vault_core.specs.declared.usage.Use.{Use}
use Rattle.vault_refusal.specs.declared.refusal.Refusal.TheVariants.{BadRequestNumber, BadNumber, BadCheck}
use Rattle.vault_refusal.specs.declared.refusal.Refusal.TheVariants.{BadUse}
use Rattle.vault_core.specs.declared.reply.Reply.{Reply}
use Rattle.vault_engine.specs.Asking.{Kind, Pair, Wanted, kind}
use Rattle.vault_engine.specs.Asking as engine
use Rattle.vault_routes.specs.Wanted.{Must, With}
use Rattle.vault_batch.specs.Lines.{line_of}
use Rattle.vault_batch.specs.Rows.{Row}
use Rattle.vault_batch.specs.declared.asker.Asker.{Asker}

-- the first field reads as the number of a request, else 5; the second as digits of a card number, else 1,
-- that pass the check, else 2; the third is the word of a use, else 19; they ask for a token at the pair's
-- moment, with its digits
abbrev pub Wants : Asker → Row → Pair → Wanted → Type 0
Wants who row pair =
    Must (IsRequestText row.request) BadRequestNumber (
    Must (IsCardText row.number × IsNumber (digits_of row.number)) BadNumber (
    Must (passes_check (digits_of row.number) ≡ true) BadCheck (
    With (λ (usage : Use). row.usage ≡ use_word usage) BadUse (λ usage r.
    r ≡ Ok (Tokenize who.caller who.merchant (digits_value 10 row.request) usage (digits_of row.number)
    pair.1 pair.0)))))

-- a row's request as its line has it: as it came, and as 0 where it is none, which is refused before all else
abbrev pub request_text : Row → Wanted → Bytes
request_text row (Err BadRequestNumber) = codes "0"
request_text row other = row.request

-- the line that answers a row which asks for this and is replied to so
abbrev pub answer_line : Row → Wanted → Reply → Bytes
answer_line row wanted reply = line_of (request_text row wanted) reply

-- rows of this asker, and the lines that answer them
abbrev pub rows_by : Asker → Kind Row
rows_by who = kind (Wants who) answer_line

-- a row that is asked with a pair
abbrev pub Asked : Type 0
Asked = engine.Asked Row

-- the row asks so
abbrev pub Asks : Asker → Asked → Type 0
Asks who = engine.Asks (rows_by who)
