-- A line that is made of parts, one behind the other.
use Rattle.std.proofs.Common.{◌≡◌, List, [], ◌++◌, ℕ, ◌∙◌, append_assoc, append-nil}

-- eight steps, each with two parts: the first with a name, the second with nothing before its word
pub line_of : (t t1 t2 t3 t4 t5 t6 t7 t8 v : List ℕ)
    (p n n' q1 d1 q2 d2 q3 d3 d3' q4 d4 d4' q5 d5 q6 d6 q7 d7 q8 : List ℕ)
    → t1 ≡ t ++ p ++ n → t2 ≡ t1 ++ [] ++ q1 → t3 ≡ t2 ++ d1 ++ q2 → t4 ≡ t3 ++ d2 ++ q3
    → t5 ≡ t4 ++ d3 ++ q4 → t6 ≡ t5 ++ d4 ++ q5 → t7 ≡ t6 ++ d5 ++ q6 → t8 ≡ t7 ++ d6 ++ q7
    → v ≡ t8 ++ d7 ++ q8 → n ≡ n' → d3 ≡ d3' → d4 ≡ d4'
    → v ≡ t ++ (p ++ n' ++ q1 ++ d1 ++ q2 ++ d2 ++ q3 ++ d3' ++ q4 ++ d4' ++ q5 ++ d5 ++ q6 ++ d6
    ++ q7 ++ d7 ++ q8)
line_of t t1 t2 t3 t4 t5 t6 t7 t8 v p n n' q1 d1 q2 d2 q3 d3 d3' q4 d4 d4' q5 d5 q6 d6 q7 d7 q8
    e1 e2 e3 e4 e5 e6 e7 e8 e9 name lead moment =
    e9 ∙ simp (e8, e7, e6, e5, e4, e3, e2, e1, name, lead, moment, append_assoc)

-- five parts, of which two are numbers
pub five : (a g g' b w w' c : List ℕ) → g ≡ g' → w ≡ w'
    → a ++ (g ++ (b ++ (w ++ (c ++ [])))) ≡ a ++ g' ++ b ++ w' ++ c
five a g g' b w w' c first second = simp (first, second, append_assoc, append-nil)

-- three parts, of which one is a number
pub three : (a g g' c : List ℕ) → g ≡ g' → a ++ (g ++ (c ++ [])) ≡ a ++ g' ++ c
three a g g' c same = simp (same, append_assoc, append-nil)
