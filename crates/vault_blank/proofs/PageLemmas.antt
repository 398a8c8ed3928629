-- The page, as it is put.
use Rattle.std.proofs.Common.{◌≡◌, ℕ, ◌+◌, List, ◌++◌, length, take, drop}

-- a page with these bytes at a place
abbrev pub page_with : List ℕ → ℕ → List ℕ → List ℕ
page_with page at bytes = take at page ++ bytes ++ drop (at + length bytes) page

-- a page that is put over one that is known, with bytes that are known
pub page_with-put : {old page put bytes new : List ℕ} (at : ℕ) → old ≡ page → put ≡ bytes
    → new ≡ page_with old at put → new ≡ page_with page at bytes
page_with-put at before known same = cc
