-- The JSON text of a reply (RFC 8259), with no space.
use Rattle.std.specs.Prelude.{ℕ, List, ◌++◌, codes, decimal}
use Rattle.vault_core.specs.Words.{state_word, use_word}
use Rattle.vault_core.specs.declared.reply.Reply.{Reply}
use Rattle.vault_core.specs.declared.reply.Reply.TheVariants as reply

-- the text of a refusal, by its number
abbrev pub refusal_text : ℕ → List ℕ
refusal_text n = codes "{\"refused\":" ++ decimal n ++ codes "}"

-- the text of what a token stands for, by the mask of its number and the words of its use and state
abbrev pub shown_text : List ℕ → List ℕ → ℕ → ℕ → List ℕ → List ℕ
shown_text masked usage birth expires state =
    codes "{\"birth\":" ++ decimal birth ++ codes ",\"expires\":" ++ decimal expires
    ++ codes ",\"masked\":\"" ++ masked
    ++ codes "\",\"state\":\"" ++ state ++ codes "\",\"use\":\"" ++ usage ++ codes "\"}"

-- the text of a reply: an object with its members in the order of their names
abbrev pub body_text : Reply → List ℕ
body_text reply.Done = codes "{\"done\":true}"
body_text (reply.Token token expires) =
    codes "{\"expires\":" ++ decimal expires ++ codes ",\"token\":\"" ++ token ++ codes "\"}"
body_text (reply.Number number) = codes "{\"number\":\"" ++ number ++ codes "\"}"
body_text (reply.Shown masked usage birth expires state) =
    shown_text masked (use_word usage) birth expires (state_word state)
body_text (reply.Counts made given denied) =
    codes "{\"denied\":" ++ decimal denied ++ codes ",\"given\":" ++ decimal given
    ++ codes ",\"made\":" ++ decimal made ++ codes "}"
body_text (reply.Refused n) = refusal_text n
