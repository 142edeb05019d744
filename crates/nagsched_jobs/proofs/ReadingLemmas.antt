-- What a check reads of its input, and the document in it.
use Rattle.std.proofs.Common.{◌≡◌, ◌≢◌, ℕ, ◌+◌, ◌<◌, ◌≤◌, ◌==◌, ◌&&◌, Bool, true, false, List, [], ◌∷◌, ◌++◌, length, take, Option, Some}
use Rattle.std.proofs.Common.{None, refl, sym, ap, ◌∙◌}
use Rattle.std.proofs.Common.{arith, length-take, length-append}
use Rattle.std.specs.Prelude.{IfSome, if◌then◌else◌}
use Rattle.std.specs.Io.KnownBytes.{Consumes}
use borrow.Author.Tests.{ltb-false}
use Rattle.std.proofs.lemmas.Bool.{eqb-true}
use Rattle.std.proofs.lemmas.Bool.Decides.{nat_tests}
use Rattle.std.proofs.lemmas.List.{take_all}
use Rattle.std.proofs.Math.Seq.{take-append-add}
use Rattle.nagsched_protocol.specs.Input.{HasStartedReading, HasStartedReadingBy, without_last_feed}
use Rattle.nagsched_protocol.proofs.InputLemmas.{some_there}
use Rattle.nagsched_protocol.proofs.LiveInputLemmas.{Consumes-then}
use Rattle.nagsched_jobs.specs.Reading.{is_full_with_feed, document_input_of}
use Rattle.nagsched_jobs.specs.declared.reading.TheConstants.{MAX_DOCUMENT_INPUT}

-- ---- the document of an input

-- a line feed at the end is cut off
pub feed_cut : (bs : List ℕ) → without_last_feed (bs ++ 10 ∷ []) ≡ bs
feed_cut [] = refl
feed_cut (b ∷ []) = refl
feed_cut (b ∷ c ∷ bs) = ap (λ l. b ∷ l) (feed_cut (c ∷ bs))

-- any other byte stays
stays_by : (is : Bool) (last : ℕ) → (is ≡ true → ⊥) → (if is then [] else last ∷ []) ≡ last ∷ []
stays_by true last n = absurd (n refl)
stays_by false last n = refl

pub feed_stays : (bs : List ℕ) (last : ℕ) → last ≢ 10 → without_last_feed (bs ++ last ∷ []) ≡ bs ++ last ∷ []
feed_stays [] last n = stays_by (last == 10) last (λ e. n (eqb-true last 10 e))
feed_stays (b ∷ []) last n = ap (λ l. b ∷ l) (stays_by (last == 10) last (λ e. n (eqb-true last 10 e)))
feed_stays (b ∷ c ∷ bs) last n = ap (λ l. b ∷ l) (feed_stays (c ∷ bs) last n)

-- no more than one byte is cut off
cut_one : (t : Bool) (b : ℕ) → 1 ≤ length (if t then [] else b ∷ []) + 1
cut_one true b = omega arith
cut_one false b = omega arith

pub cut_length : (bs : List ℕ) → length bs ≤ length (without_last_feed bs) + 1
cut_length [] = omega arith
cut_length (b ∷ []) = cut_one (b == 10) b
cut_length (b ∷ c ∷ bs) = let h = cut_length (c ∷ bs) in omega (arith, h)

-- ---- what is read of an input

decided_by : (b : Bool) (n m : ℕ) (bytes : List ℕ) → b ≡ false → take m bytes ≡ take (if b then n else m) bytes
decided_by true n m bytes e = cc
decided_by false n m bytes e = refl

undecided_by : (b : Bool) (n m : ℕ) (bytes : List ℕ) → b ≡ true → take n bytes ≡ take (if b then n else m) bytes
undecided_by true n m bytes e = refl
undecided_by false n m bytes e = cc

pub decided : (had : Option (List ℕ)) (input : List ℕ) → IfSome had (λ bytes. input ≡ take MAX_DOCUMENT_INPUT bytes) → is_full_with_feed input ≡ false
    → IfSome had (λ bytes. input ≡ document_input_of bytes)
decided None input all e = tt
decided (Some bytes) input all e =
    all ∙ decided_by (is_full_with_feed (take MAX_DOCUMENT_INPUT bytes)) (MAX_DOCUMENT_INPUT + 1) MAX_DOCUMENT_INPUT bytes (ap is_full_with_feed (sym all) ∙ e)

both : (a b : Bool) → (a && b) ≡ true → a ≡ true
both true b e = refl
both false b e = cc

pub is_long : (input : List ℕ) → is_full_with_feed input ≡ true → length input ≡ MAX_DOCUMENT_INPUT
is_long input e = eqb-true (length input) MAX_DOCUMENT_INPUT (both (length input == MAX_DOCUMENT_INPUT) _ e)

-- after this many bytes it doesn't matter what else was read
pub started_on : (had mid left : Option (List ℕ)) (input behind : List ℕ) → HasStartedReadingBy had mid input → is_full_with_feed input ≡ true
    → HasStartedReadingBy mid left behind → HasStartedReadingBy had left (input ++ behind)
started_on had mid left input behind h e b =
    let long : length input ≡ 16777217 = is_long input e in (
      Consumes-then had mid left input behind h.0 b.0,
      some_there (input ++ behind) (omega (arith, length-append input behind, long)),
    )

pub begun_long : (had mid left : Option (List ℕ)) (input : List ℕ) → HasStartedReadingBy had mid input → is_full_with_feed input ≡ true → HasStartedReading mid left
    → HasStartedReading had left
begun_long had mid left input h e b = (input ++ b.0, started_on had mid left input b.0 h e b.1)

pub undecided : (had mid : Option (List ℕ)) (input behind : List ℕ) → IfSome had (λ bytes. input ≡ take MAX_DOCUMENT_INPUT bytes)
    → Consumes had mid input → IfSome mid (λ bytes. behind ≡ take 1 bytes) → is_full_with_feed input ≡ true
    → IfSome had (λ bytes. input ++ behind ≡ document_input_of bytes)
undecided None mid input behind all c more e = tt
undecided (Some bytes) None input behind all c more e = absurd c
undecided (Some bytes) (Some rest) input behind all c more e =
    let whole : take (MAX_DOCUMENT_INPUT + 1) bytes ≡ input ++ take 1 rest =
    ap (take (MAX_DOCUMENT_INPUT + 1)) c ∙ ap (λ n. take (n + 1) (input ++ rest)) (sym (is_long input e)) ∙ take-append-add input rest 1 in
    ap (λ l. input ++ l) more ∙ sym whole
    ∙ undecided_by (is_full_with_feed (take MAX_DOCUMENT_INPUT bytes)) (MAX_DOCUMENT_INPUT + 1) MAX_DOCUMENT_INPUT bytes (ap is_full_with_feed (sym all) ∙ e)

-- ---- what is read shows whether the document is too long

all_by : (b : Bool) (bytes : List ℕ) → length bytes ≤ 16777217 → take (if b then MAX_DOCUMENT_INPUT + 1 else MAX_DOCUMENT_INPUT) bytes ≡ bytes
all_by true bytes short = take_all (MAX_DOCUMENT_INPUT + 1) bytes (omega (arith, short))
all_by false bytes short = take_all MAX_DOCUMENT_INPUT bytes (omega (arith, short))

pub read_all : (bytes : List ℕ) → length bytes ≤ 16777217 → document_input_of bytes ≡ bytes
read_all bytes short = all_by (is_full_with_feed (take MAX_DOCUMENT_INPUT bytes)) bytes short

other : (a b : Bool) → a ≡ true → (a && b) ≡ false → b ≡ false
other true b h e = e
other false b h e = cc

long_by : (b : Bool) (bytes : List ℕ) → 16777217 < length bytes → is_full_with_feed (take MAX_DOCUMENT_INPUT bytes) ≡ b
    → 16777216 < length (without_last_feed (take (if b then MAX_DOCUMENT_INPUT + 1 else MAX_DOCUMENT_INPUT) bytes))
long_by true bytes long e =
    let read = length-take (MAX_DOCUMENT_INPUT + 1) bytes in
    let cut = cut_length (take (MAX_DOCUMENT_INPUT + 1) bytes) in
    omega (arith, read, cut, long)
long_by false bytes long e =
    let read = length-take MAX_DOCUMENT_INPUT bytes in
    let full : length (take MAX_DOCUMENT_INPUT bytes) ≡ MAX_DOCUMENT_INPUT = omega (arith, read, long) in
    let same : (length (take MAX_DOCUMENT_INPUT bytes) == MAX_DOCUMENT_INPUT) ≡ true = grind (arith, nat_tests, full) in
    ltb-false _ _ (other (length (take MAX_DOCUMENT_INPUT bytes) == MAX_DOCUMENT_INPUT) _ same e)

pub read_long : (bytes : List ℕ) → 16777217 < length bytes → 16777216 < length (without_last_feed (document_input_of bytes))
read_long bytes long = long_by (is_full_with_feed (take MAX_DOCUMENT_INPUT bytes)) bytes long refl
