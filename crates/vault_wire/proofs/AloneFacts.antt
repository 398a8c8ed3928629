-- A piece that is read where it stands.
use Rattle.std.proofs.Common.{◌≡◌, ℕ, ◌-◌, List, ◌++◌, length, take, drop, Option, Some, None, ap, ◌∙◌}
use Rattle.std.proofs.lemmas.List.{take_rest}
use Rattle.std.proofs.Math.Seq.{take-append_seam}
use Rattle.vault_wire.specs.Messages.{Ends, Request, ReadsThen}
use Rattle.vault_wire.specs.ReadingMessages.{ReadsTo, Waits}
use Rattle.vault_wire.specs.declared.fault.WireFault.{WireFault}

-- what is behind the last whole message waits, while there is no fault
pub waits : (rest : List ℕ) (e : Option WireFault) → Ends rest e → Waits e rest
waits rest None open_rest = open_rest
waits rest (Some e) stands = tt

-- and is kept
pub reads_as : (bytes rest : List ℕ) (ms : List Request) (e : Option WireFault) → ReadsThen bytes ms e rest
    → ReadsTo e rest bytes ms
reads_as bytes rest ms None r = r
reads_as bytes rest ms (Some e) r = (rest, r)

-- what is behind a place of a piece, where it is the front of other bytes
pub behind : (piece front more : List ℕ) (at : ℕ) → front ≡ take (length piece - at) (drop at piece)
    → take (length (take (length piece - at) (drop at piece))) (front ++ more) ≡ drop at piece
behind piece front more at is =
    let left : List ℕ = take (length piece - at) (drop at piece) in
    ap (λ xs. take (length left) (xs ++ more)) is ∙ take-append_seam left more ∙ take_rest piece at
