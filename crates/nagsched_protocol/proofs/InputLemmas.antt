-- Reads one after another, and the first line of an input.
use Rattle.std.proofs.Common.{◌≡◌, ℕ, zero, suc, ◌+◌, ◌-◌, min, ◌==◌, Bool, true, false, not, cond, length, List, [], ◌∷◌, ◌++◌, take, drop, Option, None, Some}
use Rattle.std.proofs.Common.{refl, sym, ◌∙◌, ap, arith, ◌<◌, ◌≤◌, get_or, length-append, length-take}
use Rattle.std.specs.List.{position_or_len, position}
use Rattle.std.proofs.lemmas.Bool.Decides.{nat_tests}
use Rattle.std.proofs.lemmas.List.{take_rest, take_all}
use Rattle.std.proofs.lemmas.List.Sums.{position_or_len_is}
use Rattle.std.proofs.Math.Seq.{take-append_seam}
use Rattle.std.specs.Prelude.{IfSome, nat_lt}
use borrow.Author.Tests.{ltb-false}
use Rattle.nagsched_protocol.specs.Input.{HasStartedReading, lines_of, first_line_of}
use Rattle.nagsched_protocol.specs.LiveInput.{rest_after_line}
use Rattle.std.specs.Io.KnownBytes.{Consumes, IsAtEnd}
use Rattle.memchr.specs.Find.{IsFirstByte}
use Rattle.nagsched_protocol.proofs.LiveInputLemmas.{Consumes-then, behind_at, lines_apart}
use Rattle.std.proofs.lemmas.Grind.{common_steps}

one_first : (n : ℕ) → suc n ≡ 1 + n
one_first n = omega arith

pub first_line_of-take : (bs : List ℕ) → first_line_of bs ≡ take (position_or_len (λ b. b == 10) bs) bs
first_line_of-take [] = refl
first_line_of-take (b ∷ bs) =
    let again = first_line_of-take bs in
    elim (b == 10) as (λ v. cond v [] (b ∷ first_line_of bs) ≡ take (cond (not v) (1 + position_or_len (λ c. c == 10) bs) 0) (b ∷ bs)) [
      | true ↦ refl
      | false ↦ ap (λ l. b ∷ l) again ∙ ap (λ k. take k (b ∷ bs)) (one_first _)
    ]

pub read_limit : (old new : Option (List ℕ)) (input : List ℕ) (limit : ℕ) → Consumes old new input → length input ≡ limit
    → IfSome old (λ bytes. input ≡ take limit bytes)
read_limit None new input limit h e = tt
read_limit (Some xs) None input limit h e = absurd h
read_limit (Some xs) (Some ys) input limit h e = rw (h, ← e) (sym (take-append_seam input ys))

pub read_end : (old mid new : Option (List ℕ)) (input piece : List ℕ) (n limit : ℕ) → Consumes old mid input → Consumes mid new (take n piece)
    → n ≡ 0 → IsAtEnd new → length input ≤ limit → IfSome old (λ bytes. input ≡ take limit bytes)
read_end None mid new input piece n limit h k e f l = tt
read_end (Some xs) None new input piece n limit h k e f l = absurd h
read_end (Some xs) (Some ys) None input piece n limit h k e f l = absurd k
read_end (Some xs) (Some ys) (Some zs) input piece n limit h k e f l =
    let last : ys ≡ [] = k ∙ rw (e, f) refl in
    let all : xs ≡ input = grind (arith, common_steps, h, last) in
    rw all (sym (take_all limit input l))

-- a read of nothing has left all that was there
pub read_nothing : (old mid new : Option (List ℕ)) (input piece : List ℕ) (n : ℕ) → Consumes old mid input → Consumes mid new (take n piece)
    → n ≡ 0 → Consumes old new input
read_nothing None mid new input piece n h k e = tt
read_nothing (Some xs) None new input piece n h k e = absurd h
read_nothing (Some xs) (Some ys) None input piece n h k e = absurd k
read_nothing (Some xs) (Some ys) (Some zs) input piece n h k e = h ∙ ap (λ l. input ++ l) (k ∙ ap (λ m. take m piece ++ zs) e)

-- a byte that is there
pub some_there : {A : Type 0} (xs : List ℕ) → 0 < length xs → xs ≡ [] → A
some_there [] h e = absurd (omega (arith, h))
some_there (x ∷ xs) h e = cc

positive : (n : ℕ) → (n ≡ 0 → ⊥) → 0 < n
positive zero h = absurd (h refl)
positive (suc n) h = omega arith

-- what was read before, and a read that gave something
pub begun_by : (had mid left : Option (List ℕ)) (input piece : List ℕ) (n : ℕ) → Consumes had mid input → Consumes mid left (take n piece)
    → n ≤ length piece → (n ≡ 0 → ⊥) → HasStartedReading had left
begun_by had mid left input piece n h k bounded some =
    let more = positive n some in (
      input ++ take n piece,
      (
        Consumes-then had mid left input (take n piece) h k,
        some_there (input ++ take n piece) (omega (arith, length-append input (take n piece), length-take n piece, bounded, more)),
      ),
    )

fails : (b : Bool) → (b ≡ true → ⊥) → b ≡ false
fails true h = absurd (h refl)
fails false h = refl

is_there : (b : Bool) (i : ℕ) → b ≡ true → Some i ≡ cond b (Some i) None
is_there true i e = refl
is_there false i e = cc

is_absent : (b : Bool) (i : ℕ) → b ≡ false → None ≡ cond b (Some i) None
is_absent true i e = cc
is_absent false i e = refl

-- what a search by memchr gives is the first place
pub first_place : (p : ℕ → Bool) (xs : List ℕ) (r : Option ℕ) → IsFirstByte p xs r → r ≡ position p xs
first_place p xs None h =
    let at = position_or_len_is p xs (length xs) 0 (omega arith) (λ k l. fails (p (get_or xs k 0)) (h k (omega arith) l)) (λ l. absurd (omega (arith, l))) in
    is_absent (nat_lt (position_or_len p xs) (length xs)) _ (grind (arith, nat_tests, at))
first_place p xs (Some k) h =
    let at = position_or_len_is p xs k 0 (omega (arith, h.0.high)) (λ j l. fails (p (get_or xs j 0)) (h.0.before j (omega arith) l)) (λ l. h.1) in
    let below : nat_lt (position_or_len p xs) (length xs) ≡ true = grind (arith, nat_tests, at, h.0.high) in
    ap Some (sym at) ∙ is_there (nat_lt (position_or_len p xs) (length xs)) _ below

some_of : (b : Bool) (n i : ℕ) → cond b (Some n) None ≡ Some i → n ≡ i
some_of true n i e = cc
some_of false n i e = cc

none_of : (b : Bool) (n : ℕ) → cond b (Some n) None ≡ None → b ≡ false
none_of true n e = cc
none_of false n e = refl

pub line_end_some : (bs : List ℕ) (i : ℕ) → position (λ b. b == 10) bs ≡ Some i → take i bs ≡ first_line_of bs
line_end_some bs i e = let n = some_of (nat_lt (position_or_len (λ b. b == 10) bs) (length bs)) _ _ e in rw (← n) (sym (first_line_of-take bs))

pub line_end_none : (bs : List ℕ) → position (λ b. b == 10) bs ≡ None → bs ≡ first_line_of bs
line_end_none bs e =
    let n = none_of (nat_lt (position_or_len (λ b. b == 10) bs) (length bs)) _ e in
    let past : length bs ≤ position_or_len (λ b. b == 10) bs = ltb-false _ _ n in
    sym (first_line_of-take bs ∙ take_all _ bs past)

-- the bytes after the first line feed
pub behind_some : (bs : List ℕ) (i : ℕ) → Some i ≡ position (λ b. b == 10) bs → take (length bs - (i + 1)) (drop (i + 1) bs) ≡ rest_after_line bs
behind_some bs i e = take_rest bs (i + 1) ∙ sym (behind_at bs i e)

pub behind_fewer : (bs : List ℕ) → length (rest_after_line bs) ≤ length bs
behind_fewer [] = omega arith
behind_fewer (b ∷ bs) =
    let again = behind_fewer bs in
    elim (b == 10) as (λ v. length (cond v bs (rest_after_line bs)) ≤ suc (length bs)) [
      | true ↦ omega arith
      | false ↦ omega (arith, again)
    ]

-- bytes that are split are their first line and those after it
pub lines_next : (bs line rest : List ℕ) → (length bs == 0) ≡ false → line ≡ first_line_of bs → rest ≡ rest_after_line bs
    → lines_of bs ≡ line ∷ lines_of rest
lines_next [] line rest e h k = cc
lines_next (b ∷ bs) line rest e h k = rw (h, k) (lines_apart b bs)
