-- A line that is written part by part.
use Rattle.std.proofs.Common.{◌≡◌, ℕ, ◌+◌, ◌<◌, ◌≤◌, List, [], ◌∷◌, ◌++◌, length, take, drop, get_or}
use Rattle.std.proofs.Common.{Option, Some, None, arith, inl, inr}
use Rattle.std.proofs.Common.{Result, Ok, Err, true, false, sym, ◌∙◌, ap, subst, append_assoc, append-nil}
use Rattle.std.specs.Prelude.{Bool, OnErr, OnOk, codes, decimal, is_err}
use Rattle.std.specs.List.{flat_map}
use Rattle.std.specs.Io.KnownBytes.{Appends, Keeps}
use Rattle.std.proofs.Math.Seq.{take-append-add}
use Rattle.std.proofs.lemmas.Grind.{flat_map-append}
use Rattle.std.proofs.lemmas.List.Concat.{flat_map-cons}
use Rattle.std.proofs.lemmas.List.{take-append-drop, take-append-le, take_more}
use Rattle.std.proofs.lemmas.List.Folds.{length-flat_map-take}
use Rattle.vault_engine.proofs.JoinedUnits.{appends_both}
use Rattle.vault_live.specs.News.{line_of}
use Rattle.vault_live.specs.Subject.{name_of}
use Rattle.vault_live.specs.Told.{Tells}
use Rattle.vault_live.specs.declared.news.News.TheVariants.{Changed, Set, Refused, Unread, Unfinished}
use Rattle.vault_live.specs.declared.subject.Subject.{Subject}
use Rattle.vault_wire.specs.declared.watched.Watched.{Watched}

-- what holds of an error
pub of_error : {X E : Type 0} (r : Result X E) (P : Type 0) → is_err r ≡ true → OnErr r P → P
of_error (Ok x) P is h = absurd (cc (is))
of_error (Err e) P is h = h

-- and of what isn't one
pub of_ok : {X E : Type 0} (r : Result X E) (P : Type 0) → is_err r ≡ false → OnOk r P → P
of_ok (Ok x) P is h = h
of_ok (Err e) P is h = absurd (cc (is))

-- the parts before one, that one, and those after it
parted : {X : Type 0} (f : X → List ℕ) (xs : List X) (i : ℕ) (x : X) → i < length xs
    → flat_map f xs ≡ flat_map f (take i xs) ++ (f (get_or xs i x) ++ flat_map f (drop (i + 1) xs))
parted f xs i x below =
    let split = ap (λ ys. flat_map f ys) (sym (take-append-drop (i + 1) xs)) in
    let more = ap (λ ys. flat_map f (ys ++ drop (i + 1) xs)) (take_more xs i x below) in
    let cut = flat_map-append f (take i xs ++ get_or xs i x ∷ []) (drop (i + 1) xs) in
    let one = flat_map-cons f (get_or xs i x) [] ∙ append-nil (f (get_or xs i x)) in
    let first = flat_map-append f (take i xs) (get_or xs i x ∷ [])
    ∙ ap (λ ys. flat_map f (take i xs) ++ ys) one in
    split ∙ more ∙ cut ∙ ap (λ ys. ys ++ flat_map f (drop (i + 1) xs)) first
    ∙ append_assoc (flat_map f (take i xs)) (f (get_or xs i x)) (flat_map f (drop (i + 1) xs))

-- a part that is cut short cuts the line short
pub cut_short : {X : Type 0} (f : X → List ℕ) (xs : List X) (i : ℕ) (x : X) (a b c : Option (List ℕ))
    → i < length xs
    → Appends a b (flat_map f (take i xs))
    → (text : List ℕ) → text ≡ f (get_or xs i x) → ((n : ℕ) × (n < length text) × Appends b c (take n text))
    → (n : ℕ) × (n < length (flat_map f xs)) × Appends a c (take n (flat_map f xs))
cut_short f xs i x a b c below before text is (n, short, part) =
    let front = flat_map f (take i xs) in
    let it = f (get_or xs i x) in
    let shorter : n < length it = subst (λ t. n < length t) is short in
    let piece : Appends b c (take n it) = subst (λ t. Appends b c (take n t)) is part in
    let rest = flat_map f (drop (i + 1) xs) in
    let room : length front + length it ≤ length (flat_map f xs) = length-flat_map-take f xs i x below in
    let le : n ≤ length it = omega (arith, shorter) in
    let cut : take (length front + n) (flat_map f xs) ≡ front ++ take n it =
    ap (λ ys. take (length front + n) ys) (parted f xs i x below) ∙ take-append-add front (it ++ rest) n
    ∙ ap (λ ys. front ++ ys) (take-append-le n it rest le) in (
      length front + n,
      omega (arith, shorter, room),
      subst (λ ys. Appends a c ys) (sym cut) (appends_both a b c front (take n it) before piece),
    )

-- bytes that went out before a flush
kept_bytes : (old middle new : Option (List ℕ)) (line : List ℕ) → Appends old middle line → Keeps middle new
    → Appends old new line
kept_bytes None middle new line told kept = tt
kept_bytes (Some xs) None new line told kept = absurd told
kept_bytes (Some xs) (Some ys) None line told kept = absurd kept
kept_bytes (Some xs) (Some ys) (Some zs) line told kept = kept ∙ told

-- a line that was written, and then a flush
pub told_flushed : {W : Type 0} (contents : W → Option (List ℕ)) (old : Option (List ℕ))
    (middle new : Watched W) (line : List ℕ) → Tells old (contents middle.inner) middle.stopped line
    → Keeps (contents middle.inner) (contents new.inner) → (middle.stopped ≡ true → new ≡ middle)
    → Tells old (contents new.inner) new.stopped line
told_flushed contents old middle new line (inl whole) kept same =
    inl (kept_bytes old (contents middle.inner) (contents new.inner) line whole kept)
told_flushed contents old middle new line (inr (stopped, cut)) kept same =
    subst (λ w. Tells old (contents w.inner) w.stopped line) (sym (same stopped)) (inr (stopped, cut))

-- nothing is told
pub told_nothing : (known : Option (List ℕ)) (stopped : Bool) → Tells known known stopped []
told_nothing None stopped = inl tt
told_nothing (Some xs) stopped = inl (sym (append-nil xs))

-- the parts of a line in order, and the line that begins with the first of them
grouped : (a b c d : List ℕ) → a ++ (b ++ (c ++ d)) ≡ (a ++ b ++ c) ++ d
grouped a b c d = simp append_assoc

pub told_changed : (old new : Option (List ℕ)) (stopped : Bool) (given withdrawn now : ℕ) (a b c : List ℕ)
    → a ≡ decimal given → b ≡ decimal withdrawn → c ≡ decimal now
    → Tells old new stopped (codes "rights granted " ++ (a ++ (codes " withdrawn " ++ (b ++ (codes " at "
    ++ (c ++ (codes "\n" ++ [])))))))
    → Tells old new stopped (line_of (Changed given withdrawn now))
told_changed old new stopped given withdrawn now a b c one two three told =
    let last : List ℕ = codes " at " ++ (decimal now ++ codes "\n") in
    let line : codes "rights granted " ++ (decimal given ++ (codes " withdrawn " ++ (decimal withdrawn
    ++ last))) ≡ line_of (Changed given withdrawn now) =
    grouped (codes "rights granted ") (decimal given) (codes " withdrawn ") (decimal withdrawn ++ last)
    ∙ sym (append_assoc (codes "rights granted " ++ decimal given ++ codes " withdrawn ") (decimal withdrawn)
    last) in
    subst (Tells old new stopped) line (rw (one, two, three) at told)

pub told_set : (old new : Option (List ℕ)) (stopped : Bool) (count now : ℕ) (a b : List ℕ)
    → a ≡ decimal count → b ≡ decimal now
    → Tells old new stopped (codes "merchants set " ++ (a ++ (codes " at " ++ (b ++ (codes "\n" ++ [])))))
    → Tells old new stopped (line_of (Set count now))
told_set old new stopped count now a b one two told =
    let last : List ℕ = codes " at " ++ (decimal now ++ codes "\n") in
    let line : codes "merchants set " ++ (decimal count ++ last) ≡ line_of (Set count now) =
    sym (append_assoc (codes "merchants set ") (decimal count) last) in
    subst (Tells old new stopped) line (rw (one, two) at told)

pub told_refused : (old new : Option (List ℕ)) (stopped : Bool) (about : Subject) (number now : ℕ)
    (name a b : List ℕ) → name ≡ name_of about → a ≡ decimal number → b ≡ decimal now
    → Tells old new stopped (name ++ (codes " refused " ++ (a ++ (codes " at " ++ (b ++ (codes "\n"
    ++ []))))))
    → Tells old new stopped (line_of (Refused about number now))
told_refused old new stopped about number now name a b of one two told =
    let last : List ℕ = codes " at " ++ (decimal now ++ codes "\n") in
    let line : name_of about ++ (codes " refused " ++ (decimal number ++ last))
    ≡ line_of (Refused about number now) =
    grouped (name_of about) (codes " refused ") (decimal number) last in
    subst (Tells old new stopped) line (rw (of, one, two) at told)

pub told_unread : (old new : Option (List ℕ)) (stopped : Bool) (about : Subject) (now : ℕ) (name a : List ℕ)
    → name ≡ name_of about → a ≡ decimal now
    → Tells old new stopped (name ++ (codes " unread at " ++ (a ++ (codes "\n" ++ []))))
    → Tells old new stopped (line_of (Unread about now))
told_unread old new stopped about now name a of one told =
    let last : List ℕ = codes " at " ++ (decimal now ++ codes "\n") in
    let line : name_of about ++ (codes " unread" ++ last) ≡ line_of (Unread about now) =
    sym (append_assoc (name_of about) (codes " unread") last) in
    subst (Tells old new stopped) line (rw (of, one) at told)

pub told_unfinished : (old new : Option (List ℕ)) (stopped : Bool) (about : Subject) (now : ℕ) (name a : List ℕ)
    → name ≡ name_of about → a ≡ decimal now
    → Tells old new stopped (name ++ (codes " unfinished at " ++ (a ++ (codes "\n" ++ []))))
    → Tells old new stopped (line_of (Unfinished about now))
told_unfinished old new stopped about now name a of one told =
    let last : List ℕ = codes " at " ++ (decimal now ++ codes "\n") in
    let line : name_of about ++ (codes " unfinished" ++ last) ≡ line_of (Unfinished about now) =
    sym (append_assoc (name_of about) (codes " unfinished") last) in
    subst (Tells old new stopped) line (rw (of, one) at told)
