use Rattle.std.proofs.Common.{◌≡◌, [], ◌∷◌, ◌++◌, refl}
use Rattle.std.specs.Prelude.{codes}
use Rattle.std.specs.List.{repeat}
use Rattle.vault_blank.proofs.PageLemmas.{page_with, page_with-put}
use Rattle.vault_blank.proofs.page.blank_page.Goals as goal

pub returns-clause-bytes : goal.returns-clause-bytes
returns-clause-bytes c =
    let name : c.put.new.page ≡ page_with (repeat 512 (0 ∷ [])) 0 (codes "SQLite format 3" ++ 0 ∷ [])
    = c.put.ensures in
    let size = page_with-put 16 name c.to_be_bytes.ensures c.put-2.ensures in
    let versions = page_with-put {put = 2 ∷ 2 ∷ []} 18 size refl c.put-3.ensures in
    let fractions = page_with-put {put = 64 ∷ 32 ∷ 32 ∷ []} 21 versions refl c.put-4.ensures in
    let counter = page_with-put 24 fractions c.to_be_bytes-2.ensures c.put-5.ensures in
    let pages = page_with-put 28 counter c.to_be_bytes-3.ensures c.put-6.ensures in
    let schema = page_with-put 44 pages c.to_be_bytes-4.ensures c.put-7.ensures in
    let encoding = page_with-put 56 schema c.to_be_bytes-5.ensures c.put-8.ensures in
    let application = page_with-put {put = codes "VAUL"} 68 encoding refl c.put-9.ensures in
    let valid_for = page_with-put 92 application c.to_be_bytes-6.ensures c.put-10.ensures in
    let version = page_with-put 96 valid_for c.to_be_bytes-7.ensures c.put-11.ensures in
    let leaf = page_with-put {put = 13 ∷ []} 100 version refl c.put-12.ensures in
    page_with-put 105 leaf c.to_be_bytes-8.ensures c.put-13.ensures
