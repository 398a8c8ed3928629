-- The lines that answer rows, each ended by a line feed.
use Rattle.std.specs.Prelude.{◌++◌, [], Bool, true, false, codes, decimal}
use Rattle.vault_core.specs.Keys.{Bytes}
use Rattle.vault_core.specs.declared.reply.Reply.{Reply}
use Rattle.vault_core.specs.declared.reply.Reply.TheVariants.{Token, Refused}

-- what goes out before all rows' lines
abbrev pub first_line : Bytes
first_line = codes "request,answer,detail\n"

-- the last two cells of a line: a token and its end, or the number of a refusal; a request for a token is
-- replied to in no other way
abbrev pub cells : Reply → Bytes
cells (Token token expires) = token ++ codes "," ++ decimal expires
cells (Refused n) = codes "refused," ++ decimal n
cells other = []

-- the line of a request, as it is written, and its reply
abbrev pub line_of : Bytes → Reply → Bytes
line_of request reply = request ++ codes "," ++ cells reply ++ codes "\n"

-- whether a reply has a token
abbrev pub has_token : Reply → Bool
has_token (Token token expires) = true
has_token other = false
