use Rattle.std.proofs.Common.{rules, ◌≡◌, ℤ, Some, ap, sym, ◌∙◌, arith, codes, SFits, w64}
use Rattle.std.proofs.lemmas.Int.{to_z-of_z}
use Rattle.toml.specs.Data.{string, integer, as_str, as_integer}
use Rattle.toml.specs.View.{view, table_view}
use Rattle.toml.proofs.Views.{table_get}
use Rattle.vault_core.specs.Keys.{Bytes}
use Rattle.vault_rights.specs.Items.{pair_of}
use Rattle.vault_rights.proofs.Members.{some_same}
use Rattle.vault_rights.proofs.Pairs.{if-none, as-string, as-integer, pair-two, pair-word, pair-end, pair-is}
use Rattle.vault_rights.proofs.items.said_in.Goals as goal

pub returns-then-len-ne2-clause-none : goal.returns-then-len-ne2-clause-none
returns-then-len-ne2-clause-none c = λ word end h.
    let two = pair-two c.args.members.now.entries word end h in
    let len = c.len.ensures.len in
    let other = c.if-len-ne2.true in
    grind arith

pub returns-in_err-get-clause-none : goal.returns-in_err-get-clause-none
returns-in_err-get-clause-none c =
    let no : (word : Bytes) (end : ℤ) → ¬ (table_view c.args.members.now ≡ pair_of word end) = λ word end h.
    let es = c.args.members.now.entries in
    let found = table_get c.get.result (codes "right") es c.get.ensures.value in
    let some = pair-word es word end h in
    let none = rw c.in_err-get.was at found in
    cc in
    if-none _ _ no

pub returns-in_err-word-clause-none : goal.returns-in_err-word-clause-none
returns-in_err-word-clause-none c =
    let no : (word : Bytes) (end : ℤ) → ¬ (table_view c.args.members.now ≡ pair_of word end) = λ word end h.
    let es = c.args.members.now.entries in
    let got = table_get c.get.result (codes "right") es c.get.ensures.value in
    let found = rw c.in_ok-get.was at got in
    let is : view c.in_ok-get.field-0.now ≡ string word = some_same (found ∙ pair-word es word end h) in
    let some : as_str (view c.in_ok-get.field-0.now) ≡ Some word = ap as_str is in
    let none = rw c.in_err-word.was at c.as_str.ensures in
    cc in
    if-none _ _ no

pub returns-in_err-get-2-clause-none : goal.returns-in_err-get-2-clause-none
returns-in_err-get-2-clause-none c =
    let no : (word : Bytes) (end : ℤ) → ¬ (table_view c.args.members.now ≡ pair_of word end) = λ word end h.
    let es = c.args.members.now.entries in
    let found = table_get c.get-2.result (codes "until") es c.get-2.ensures.value in
    let some = pair-end es word end h in
    let none = rw c.in_err-get-2.was at found in
    cc in
    if-none _ _ no

pub returns-in_err-end-clause-none : goal.returns-in_err-end-clause-none
returns-in_err-end-clause-none c =
    let no : (word : Bytes) (end : ℤ) → ¬ (table_view c.args.members.now ≡ pair_of word end) = λ word end h.
    let es = c.args.members.now.entries in
    let got = table_get c.get-2.result (codes "until") es c.get-2.ensures.value in
    let found = rw c.in_ok-get-2.was at got in
    let is : view c.in_ok-get-2.field-0.now ≡ integer end = some_same (found ∙ pair-end es word end h) in
    let some : as_integer (view c.in_ok-get-2.field-0.now) ≡ Some end = ap as_integer is in
    let none = rw c.in_err-end.was at c.as_integer.ensures in
    cc in
    if-none _ _ no

pub returns-clause-said : goal.returns-clause-said
returns-clause-said c =
    let es = c.args.members.now.entries in
    let fits : SFits w64 c.in_ok-end.end = search rules in
    let same = to_z-of_z w64 c.in_ok-end.end fits in
    let got = table_get c.get.result (codes "right") es c.get.ensures.value in
    let first = rw c.in_ok-get.was at got in
    let got2 = table_get c.get-2.result (codes "until") es c.get-2.ensures.value in
    let second = rw c.in_ok-get-2.was at got2 in
    let word_is = as-string (view c.in_ok-get.field-0.now) c.in_ok-word.word.now
    (rw c.in_ok-word.was at c.as_str.ensures) in
    let end_is = as-integer (view c.in_ok-get-2.field-0.now) c.in_ok-end.end
    (rw c.in_ok-end.was at c.as_integer.ensures) in
    let two = c.len.ensures.len in
    let not_other = c.if-len-ne2.false in
    pair-is es c.in_ok-word.word.now c.in_ok-end.end c.len.ensures.ordered (grind arith)
    (sym first ∙ ap (λ d. Some d) word_is) (sym second ∙ ap (λ d. Some d) end_is)
    ∙ ap (pair_of c.in_ok-word.word.now) (sym same)
