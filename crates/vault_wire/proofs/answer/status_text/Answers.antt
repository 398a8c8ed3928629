use Rattle.std.proofs.Common.{append_assoc, codes, ◌++◌, ◌≡◌, List, ℕ, Result, String, string_bytes, IfOk, Ok}
use Rattle.std.proofs.Common.{Err}
use Rattle.std.specs.declared.alloc.AllocError.{AllocError}
use Rattle.std.specs.declared.alloc.Global.{Global}
use Rattle.vault_wire.specs.Answer.{crlf}
use Rattle.vault_wire.proofs.answer.status_text.Goals as goal

-- the pieces of a status line, put together from the end
pieces : (code reason : List ℕ)
    → codes "HTTP/1.1 " ++ (code ++ (codes " " ++ (reason ++ crlf)))
    ≡ codes "HTTP/1.1 " ++ code ++ codes " " ++ reason ++ crlf
pieces code reason = simp append_assoc

-- a text that is one list of bytes is an equal one
same_text : (r : Result (String Global) AllocError) (xs ys : List ℕ) → xs ≡ ys
    → IfOk r (λ s. string_bytes s ≡ xs) → IfOk r (λ s. string_bytes s ≡ ys)
same_text (Ok s) xs ys e h = rw (← e) h
same_text (Err e) xs ys same h = h

pub returns : goal.returns
returns c =
    rw (← c.reason_of-reason.ensures) (same_text _ _ _ (pieces _ _) c.format.ensures.ok)
