-- Lines that are taken as they come.
use Rattle.std.proofs.Common.{◌≡◌, ℕ, zero, suc, ◌+◌, ◌-◌, min, ◌==◌, ◌&&◌, Bool, true, false, not, cond, length, List, [], ◌∷◌, ◌++◌, take, drop, Option, None}
use Rattle.std.proofs.Common.{Some}
use Rattle.std.proofs.Common.{refl, sym, ◌∙◌, ap, arith, ◌≤◌, ◌<◌, length-append, length-take, append-nil, append_assoc, subst}
use Rattle.std.specs.List.{position_or_len, position}
use Rattle.std.specs.Prelude.{nat_lt, IfErr, IfOk, Result, Ok, Err}
use Rattle.std.specs.Result.{IsErr, IsErrAnd}
use Rattle.std.proofs.lemmas.Bool.Decides.{nat_tests}
use Rattle.std.proofs.lemmas.List.Folds.{list_all-append}
use Rattle.std.proofs.lemmas.List.{take_min}
use Rattle.nagsched_protocol.specs.Input.{lines_of, first_line_of, onto_first}
use Rattle.nagsched_protocol.specs.Line.{is_blank}
use Rattle.nagsched_protocol.specs.LiveError.{IsReadingError, IsInputError}
use Rattle.nagsched_protocol.specs.declared.live_error.LiveError.{LiveError}
use Rattle.nagsched_protocol.specs.declared.live_error.LiveError.TheVariants as errors
use Rattle.nagsched_protocol.specs.LiveInput.{LinePrefix, IsBoundedReading, TookLine, rest_after_line, prefix_of, has_feed}
use Rattle.nagsched_protocol.specs.declared.line_reader.TheConstants.{READ_BYTES}
use Rattle.std.specs.Io.KnownBytes.{Consumes}

-- ---- the place of the first line feed

suc_more : (n : ℕ) → suc (n + 1) ≡ 1 + n + 1
suc_more n = omega arith

-- the bytes after the first line feed
pub behind_line-drop : (bs : List ℕ) → rest_after_line bs ≡ drop (position_or_len (λ b. b == 10) bs + 1) bs
behind_line-drop [] = refl
behind_line-drop (b ∷ bs) =
    let again = behind_line-drop bs in
    elim (b == 10) as (λ v. cond v bs (rest_after_line bs) ≡ drop (cond (not v) (1 + position_or_len (λ c. c == 10) bs) 0 + 1) (b ∷ bs)) [
      | true ↦ refl
      | false ↦ again ∙ ap (λ k. drop k (b ∷ bs)) (suc_more (position_or_len (λ c. c == 10) bs))
    ]

below_suc : (n m : ℕ) → nat_lt n m ≡ nat_lt (1 + n) (suc m)
below_suc n m = grind (arith, nat_tests)

pub has_feed-index : (bs : List ℕ) → has_feed bs ≡ nat_lt (position_or_len (λ b. b == 10) bs) (length bs)
has_feed-index [] = refl
has_feed-index (b ∷ bs) =
    let again = has_feed-index bs in
    elim (b == 10) as (λ v. cond v true (has_feed bs) ≡ nat_lt (cond (not v) (1 + position_or_len (λ c. c == 10) bs) 0) (suc (length bs))) [
      | true ↦ grind (arith, nat_tests)
      | false ↦ again ∙ below_suc _ _
    ]

some_place : (b : Bool) (n i : ℕ) → Some i ≡ cond b (Some n) None → (b ≡ true) × (n ≡ i)
some_place true n i e = (refl, cc)
some_place false n i e = cc

no_place : (b : Bool) (n : ℕ) → None ≡ cond b (Some n) None → b ≡ false
no_place true n e = cc
no_place false n e = refl

pub feed_at : (bs : List ℕ) (i : ℕ) → Some i ≡ position (λ b. b == 10) bs → has_feed bs ≡ true
feed_at bs i e = has_feed-index bs ∙ (some_place (nat_lt (position_or_len (λ b. b == 10) bs) (length bs)) _ i e).0

pub behind_at : (bs : List ℕ) (i : ℕ) → Some i ≡ position (λ b. b == 10) bs → rest_after_line bs ≡ drop (i + 1) bs
behind_at bs i e = behind_line-drop bs ∙ ap (λ k. drop (k + 1) bs) (some_place (nat_lt (position_or_len (λ b. b == 10) bs) (length bs)) _ i e).1

pub no_feed : (bs : List ℕ) → None ≡ position (λ b. b == 10) bs → has_feed bs ≡ false
no_feed bs e = has_feed-index bs ∙ no_place (nat_lt (position_or_len (λ b. b == 10) bs) (length bs)) _ e

-- ---- without a line feed

by_feed : {P : Type 0} (b : Bool) (r : Bool) → cond b true r ≡ false → (b ≡ false → r ≡ false → P) → P
by_feed true r e f = cc
by_feed false r e f = f refl e

pub first_all : (bs : List ℕ) → has_feed bs ≡ false → first_line_of bs ≡ bs
first_all [] h = refl
first_all (b ∷ bs) h = by_feed (b == 10) (has_feed bs) h (λ e k. rw e (ap (λ l. b ∷ l) (first_all bs k)))

pub behind_none : (bs : List ℕ) → has_feed bs ≡ false → rest_after_line bs ≡ []
behind_none [] h = refl
behind_none (b ∷ bs) h = by_feed (b == 10) (has_feed bs) h (λ e k. rw e (behind_none bs k))

pub first_on : (xs bs : List ℕ) → has_feed xs ≡ false → first_line_of (xs ++ bs) ≡ xs ++ first_line_of bs
first_on [] bs h = refl
first_on (a ∷ xs) bs h = by_feed (a == 10) (has_feed xs) h (λ e k. rw e (ap (λ l. a ∷ l) (first_on xs bs k)))

pub behind_on : (xs bs : List ℕ) → has_feed xs ≡ false → rest_after_line (xs ++ bs) ≡ rest_after_line bs
behind_on [] bs h = refl
behind_on (a ∷ xs) bs h = by_feed (a == 10) (has_feed xs) h (λ e k. rw e (behind_on xs bs k))

pub feed_on : (xs bs : List ℕ) → has_feed xs ≡ false → has_feed (xs ++ bs) ≡ has_feed bs
feed_on [] bs h = refl
feed_on (a ∷ xs) bs h = by_feed (a == 10) (has_feed xs) h (λ e k. rw e (feed_on xs bs k))

-- ---- with a line feed, for any bytes after it

pub first_stays : (bs more : List ℕ) → has_feed bs ≡ true → first_line_of (bs ++ more) ≡ first_line_of bs
first_stays [] more h = cc
first_stays (b ∷ bs) more h =
    (elim (b == 10) as (λ v. cond v true (has_feed bs) ≡ true → cond v [] (b ∷ first_line_of (bs ++ more)) ≡ cond v [] (b ∷ first_line_of bs)) [
      | true ↦ λ k. refl
      | false ↦ λ k. ap (λ l. b ∷ l) (first_stays bs more k)
    ]) h

pub behind_stays : (bs more : List ℕ) → has_feed bs ≡ true → rest_after_line (bs ++ more) ≡ rest_after_line bs ++ more
behind_stays [] more h = cc
behind_stays (b ∷ bs) more h =
    (elim (b == 10) as (λ v. cond v true (has_feed bs) ≡ true → cond v (bs ++ more) (rest_after_line (bs ++ more)) ≡ cond v bs (rest_after_line bs) ++ more) [
      | true ↦ λ k. refl
      | false ↦ λ k. behind_stays bs more k
    ]) h

free_by : (b : ℕ) (bs : List ℕ) (is : Bool) → (b == 10) ≡ is → has_feed bs ≡ false → has_feed (cond is [] (b ∷ bs)) ≡ false
free_by b bs true e h = refl
free_by b bs false e h = rw e h

-- a first line has none
pub first_free : (bs : List ℕ) → has_feed (first_line_of bs) ≡ false
first_free [] = refl
first_free (b ∷ bs) = free_by b (first_line_of bs) (b == 10) refl (first_free bs)

split_by : (b : ℕ) (bs : List ℕ) (is : Bool) → (b == 10) ≡ is → cond is true (has_feed bs) ≡ true
    → (has_feed bs ≡ true → bs ≡ first_line_of bs ++ 10 ∷ rest_after_line bs)
    → b ∷ bs ≡ cond is [] (b ∷ first_line_of bs) ++ 10 ∷ cond is bs (rest_after_line bs)
split_by b bs true e h again = let feed : b ≡ 10 = grind (arith, nat_tests, e) in ap (λ x. x ∷ bs) feed
split_by b bs false e h again = ap (λ l. b ∷ l) (again h)

-- the first line is before the line feed, and the rest is after it
pub feed_split : (bs : List ℕ) → has_feed bs ≡ true → bs ≡ first_line_of bs ++ 10 ∷ rest_after_line bs
feed_split [] h = cc
feed_split (b ∷ bs) h = split_by b bs (b == 10) refl h (λ k. feed_split bs k)

-- ---- the lines of bytes are the first one and those after it

pub lines_apart : (b : ℕ) (bs : List ℕ) → lines_of (b ∷ bs) ≡ first_line_of (b ∷ bs) ∷ lines_of (rest_after_line (b ∷ bs))
lines_apart b [] =
    elim (b == 10) as (λ v. cond v ([] ∷ []) ((b ∷ []) ∷ []) ≡ cond v [] (b ∷ []) ∷ lines_of (cond v [] [])) [
      | true ↦ refl
      | false ↦ refl
    ]
lines_apart b (c ∷ cs) =
    let again = lines_apart c cs in
    elim (b == 10) as (λ v. cond v ([] ∷ lines_of (c ∷ cs)) (onto_first b (lines_of (c ∷ cs)))
    ≡ cond v [] (b ∷ first_line_of (c ∷ cs)) ∷ lines_of (cond v (c ∷ cs) (rest_after_line (c ∷ cs)))) [
      | true ↦ refl
      | false ↦ ap (onto_first b) again
    ]

-- ---- the kept part of a line

take_least : (n : ℕ) (bs : List ℕ) → take (min (length bs) n) bs ≡ take n bs
take_least n bs = ap (λ k. take k bs) (let e : min (length bs) n ≡ min n (length bs) = omega arith in e) ∙ take_min n bs

room_left : (most : ℕ) (line bytes : List ℕ)
    → take most line ++ take (min (length bytes) (most - length (take most line))) bytes ≡ take most (line ++ bytes)
room_left zero line bytes = ap (λ k. take k bytes) (let e : min (length bytes) (0 - 0) ≡ 0 = omega arith in e)
room_left (suc most) [] bytes =
    ap (λ k. take (min (length bytes) k) bytes) (let e : suc most - 0 ≡ suc most = omega arith in e) ∙ take_least (suc most) bytes
room_left (suc most) (b ∷ line) bytes =
    let n = length (take most line) in
    ap (λ l. b ∷ l)
    (ap (λ k. take most line ++ take (min (length bytes) k) bytes) (let e : suc most - suc n ≡ most - n = omega arith in e) ∙ room_left most line bytes)

-- the kept part after more bytes
pub front_goes_on : (v : LinePrefix) (line bytes new : List ℕ) (room : ℕ) → v ≡ prefix_of v.most line
    → room ≡ min (length bytes) (v.most - length v.bytes) → new ≡ v.bytes ++ take room bytes
    → record { most = v.most; bytes = new; blank = v.blank && is_blank bytes } ≡ prefix_of v.most (line ++ bytes)
front_goes_on v line bytes new room f r n =
    let k : v.bytes ≡ take v.most line = ap (λ (x : LinePrefix). x.bytes) f in
    let b : v.blank ≡ is_blank line = ap (λ (x : LinePrefix). x.blank) f in
    let front : new ≡ take v.most (line ++ bytes) = n ∙ ap (λ i. v.bytes ++ take i bytes) r
    ∙ ap (λ l. l ++ take (min (length bytes) (v.most - length l)) bytes) k ∙ room_left v.most line bytes in
    let all : (v.blank && is_blank bytes) ≡ is_blank (line ++ bytes) = ap (λ x. x && is_blank bytes) b
    ∙ sym (list_all-append _ line bytes) in
    rw (front, all) refl

-- ---- a line that is taken in parts

-- the reader gave one part after another
pub Consumes-then : (had mid left : Option (List ℕ)) (xs ys : List ℕ) → Consumes had mid xs → Consumes mid left ys → Consumes had left (xs ++ ys)
Consumes-then None mid left xs ys h k = tt
Consumes-then (Some a) None left xs ys h k = absurd h
Consumes-then (Some a) (Some b) None xs ys h k = absurd k
Consumes-then (Some a) (Some b) (Some c) xs ys h k = h ∙ ap (λ l. xs ++ l) k ∙ sym (append_assoc xs ys c)

pub Consumes-none : (known : Option (List ℕ)) → Consumes known known []
Consumes-none None = tt
Consumes-none (Some xs) = refl

-- the part in the buffer was taken after a part without a line feed
pub took_on : (most : ℕ) (begun part buffered rest : List ℕ) (line new : LinePrefix) (whole : Bool) (end : Type 0)
    → has_feed begun ≡ false → line ≡ prefix_of most begun → buffered ≡ part → whole ≡ has_feed buffered → rest ≡ rest_after_line buffered
    → ((b : List ℕ) → line ≡ prefix_of line.most b → new ≡ prefix_of line.most (b ++ first_line_of buffered)) → (whole ≡ false → end)
    → TookLine most (begun ++ part) new rest end whole
took_on most begun part buffered rest line new whole end free kept same w r n e =
    let m : line.most ≡ most = ap (λ (x : LinePrefix). x.most) kept in
    let now : new ≡ prefix_of most (begun ++ first_line_of part) = n begun (kept ∙ ap (λ i. prefix_of i begun) (sym m))
    ∙ ap (λ i. prefix_of i (begun ++ first_line_of buffered)) m ∙ ap (λ h. prefix_of most (begun ++ first_line_of h)) same in
    record {
      line_is = now ∙ ap (prefix_of most) (sym (first_on begun part free));
      rest_is = r ∙ ap rest_after_line same ∙ sym (behind_on begun part free);
      whole_is = w ∙ ap has_feed same ∙ sym (feed_on begun part free);
      ended = e;
    }

-- the reader gave nothing more after such a part
pub took_all : (most : ℕ) (begun part buffered : List ℕ) (line : LinePrefix) (end : Type 0) → has_feed begun ≡ false → line ≡ prefix_of most begun
    → buffered ≡ part → buffered ≡ [] → end → TookLine most (begun ++ part) line buffered end false
took_all most begun part buffered line end free kept same none e =
    let all : begun ++ part ≡ begun = ap (λ l. begun ++ l) (sym same ∙ none) ∙ append-nil begun in
    record {
      line_is = kept ∙ ap (prefix_of most) (sym (ap first_line_of all ∙ first_all begun free));
      rest_is = none ∙ sym (ap rest_after_line all ∙ behind_none begun free);
      whole_is = sym (ap has_feed all ∙ free);
      ended = λ _. e;
    }

-- no line feed has come yet
pub record Begun (most : ℕ) (bytes : List ℕ) (line : LinePrefix) (rest : List ℕ) : Type 0 where
  pub feedless : has_feed bytes ≡ false
  pub kept : line ≡ prefix_of most bytes
  pub nothing : rest ≡ []

pub not_yet : (most : ℕ) (bytes rest : List ℕ) (line : LinePrefix) (end : Type 0) (whole : Bool) → TookLine most bytes line rest end whole
    → whole ≡ false → Begun most bytes line rest
not_yet most bytes rest line end whole t e =
    let free : has_feed bytes ≡ false = sym t.whole_is ∙ e in
    record { feedless = free; kept = t.line_is ∙ ap (prefix_of most) (first_all bytes free); nothing = t.rest_is ∙ behind_none bytes free }

-- ---- a line that is read in parts

-- A line that is being read. The bytes taken so far have no line feed, and the rest of the bytes read is in the buffer. Each read gave a byte or more.
pub record Taking (most : ℕ) (buffered : List ℕ) (had left : Option (List ℕ)) (line : LinePrefix) (rest : List ℕ) (reads : ℕ) : Type 0 where
  pub bytes_read : List ℕ
  pub taken : List ℕ
  pub consumed : Consumes had left bytes_read
  pub parts : buffered ++ bytes_read ≡ taken ++ rest
  pub feedless : has_feed taken ≡ false
  pub kept : line ≡ prefix_of most taken
  pub many : reads ≤ length bytes_read

-- nothing was taken yet
abbrev pub takes_first : (most : ℕ) (buffered : List ℕ) (had : Option (List ℕ)) (line : LinePrefix) → line ≡ prefix_of most []
    → Taking most buffered had had line buffered 0
takes_first most buffered had line kept = record {
  bytes_read = [];
  taken = [];
  consumed = Consumes-none had;
  parts = append-nil buffered;
  feedless = refl;
  kept = kept;
  many = omega arith;
}

-- one more read gave a byte or more
pub more_reads : (reads : ℕ) (bytes_read part buffered : List ℕ) → reads ≤ length bytes_read → buffered ≡ part → 0 < length buffered → reads + 1 ≤ length (bytes_read ++ part)
more_reads reads bytes_read part buffered many same some =
    let all = length-append bytes_read part in
    let sizes = ap length same in
    omega (arith, all, sizes, many, some)

module _ {most reads : ℕ} {buffered rest : List ℕ} {had mid : Option (List ℕ)} {line : LinePrefix} (s : Taking most buffered had mid line rest reads)
    (behind : List ℕ) (new : LinePrefix) where
  -- the bytes of the buffer before a line feed are taken
  pub took_first : (whole : Bool) (end : Type 0) → whole ≡ has_feed rest → behind ≡ rest_after_line rest
      → ((b : List ℕ) → line ≡ prefix_of line.most b → new ≡ prefix_of line.most (b ++ first_line_of rest)) → (whole ≡ false → end)
      → TookLine most (buffered ++ s.bytes_read) new behind end whole
  took_first whole end w r n e =
      subst (λ l. TookLine most l new behind end whole) (sym s.parts) (took_on most s.taken rest rest behind line new whole end s.feedless s.kept refl w r n e)

  -- the same if the buffer had no line feed
  pub took_begun : (whole : Bool) → whole ≡ has_feed rest → behind ≡ rest_after_line rest
      → ((b : List ℕ) → line ≡ prefix_of line.most b → new ≡ prefix_of line.most (b ++ first_line_of rest)) → whole ≡ false
      → Begun most (buffered ++ s.bytes_read) new behind
  took_begun whole w r n none = not_yet most (buffered ++ s.bytes_read) behind new (Unit {0}) whole (took_first whole (Unit {0}) w r n (λ _. tt)) none

  -- the reader was asked, and gave nothing
  pub took_last : (part now : List ℕ) (end : Type 0) → Begun most (buffered ++ s.bytes_read) new behind → now ≡ part → now ≡ [] → end
      → TookLine most (buffered ++ (s.bytes_read ++ part)) new now end false
  took_last part now end begun same none e =
      subst (λ l. TookLine most l new now end false) (append_assoc buffered s.bytes_read part)
      (took_all most (buffered ++ s.bytes_read) part now new end begun.feedless begun.kept same none e)

  -- it gave some
  abbrev pub takes_more : (left : Option (List ℕ)) (part now : List ℕ) → Begun most (buffered ++ s.bytes_read) new behind → Consumes mid left part
      → now ≡ part → 0 < length now → Taking most buffered had left new now (reads + 1)
  takes_more left part now begun read same some = record {
    bytes_read = s.bytes_read ++ part;
    taken = buffered ++ s.bytes_read;
    consumed = Consumes-then had mid left s.bytes_read part s.consumed read;
    parts = sym (append_assoc buffered s.bytes_read part) ∙ ap (λ l. (buffered ++ s.bytes_read) ++ l) (sym same);
    feedless = begun.feedless;
    kept = begun.kept;
    many = more_reads reads s.bytes_read part now s.many same some;
  }

-- ---- a document's line

-- The line of a document that is being read: fewer bytes were taken than are kept at most, and the rest is at most one read.
pub record Coming (most : ℕ) (buffered : List ℕ) (had left : Option (List ℕ)) (line : LinePrefix) (rest : List ℕ) (reads : ℕ) : Type 0 where
  pub taking : Taking most buffered had left line rest reads
  pub bounded : length taking.taken < most
  pub size : length rest ≤ READ_BYTES

pub comes_first : (most : ℕ) (buffered : List ℕ) (had : Option (List ℕ)) (line : LinePrefix) → line ≡ prefix_of most [] → 0 < most
    → length buffered ≤ READ_BYTES → Coming most buffered had had line buffered 0
comes_first most buffered had line kept some size = record { taking = takes_first most buffered had line kept; bounded = some; size = size }

pub stops_soon : (most : ℕ) (bytes_read part : List ℕ) → has_feed bytes_read ≡ false → length bytes_read < most → length part ≤ READ_BYTES
    → IsBoundedReading most (bytes_read ++ part)
stops_soon most bytes_read part free bounded h =
    let first : length (first_line_of (bytes_read ++ part)) ≡ length (bytes_read ++ first_line_of part) = ap length (first_on bytes_read part free) in
    let whole = length-append bytes_read part in
    let front = length-append bytes_read (first_line_of part) in
    record { at_the_bound = omega (arith, whole, bounded, h); at_the_feed = omega (arith, whole, front, first, h) }

-- the bytes read in all, if the reader isn't asked again
pub given_so : {most reads : ℕ} {buffered rest : List ℕ} {had left : Option (List ℕ)} {line : LinePrefix} (s : Coming most buffered had left line rest reads)
    (reading after : List ℕ → Type 0) → reading s.taking.bytes_read → after s.taking.bytes_read
    → (bytes_read : List ℕ) × Consumes had left bytes_read × reading bytes_read × IsBoundedReading most (buffered ++ bytes_read) × after bytes_read
given_so {most} {reads} {buffered} {rest} s reading after t a =
    (s.taking.bytes_read, s.taking.consumed, t, subst (IsBoundedReading most) (sym s.taking.parts) (stops_soon most s.taking.taken rest s.taking.feedless s.bounded s.size), a)

-- after the line there is at most one read
behind_few : (most : ℕ) (bytes : List ℕ) (feed : Bool) → has_feed bytes ≡ feed → IsBoundedReading most bytes → length (rest_after_line bytes) ≤ READ_BYTES
behind_few most bytes true e soon =
    let parts = ap length (feed_split bytes e) in
    let sizes = length-append (first_line_of bytes) (10 ∷ rest_after_line bytes) in
    omega (arith, parts, sizes, soon.at_the_feed)
behind_few most bytes false e soon = rw (behind_none bytes e) (omega arith)

pub behind_size : (most : ℕ) (bytes : List ℕ) → IsBoundedReading most bytes → length (rest_after_line bytes) ≤ READ_BYTES
behind_size most bytes soon = behind_few most bytes (has_feed bytes) refl soon

pub behind_soon : (most : ℕ) (bytes : List ℕ) → 0 < most → IsBoundedReading most bytes → IsBoundedReading most (rest_after_line bytes)
behind_soon most bytes some soon =
    let size = behind_size most bytes soon in
    record { at_the_bound = omega (arith, size, some); at_the_feed = omega (arith, size) }

-- the kept part is full if and only if at least as many bytes have come
pub full_is : (most : ℕ) (bytes : List ℕ) (line : LinePrefix) → line ≡ prefix_of most bytes → (length line.bytes == line.most) ≡ true → most ≤ length bytes
full_is most bytes line k e =
    let e' : (length (take most bytes) == most) ≡ true = rw k at e in
    let l = length-take most bytes in
    grind (arith, nat_tests, e', l)

pub not_full : (most : ℕ) (bytes : List ℕ) (line : LinePrefix) → line ≡ prefix_of most bytes → (length line.bytes == line.most) ≡ false → length bytes < most
not_full most bytes line k e =
    let e' : (length (take most bytes) == most) ≡ false = rw k at e in
    let l = length-take most bytes in
    grind (arith, nat_tests, e', l)

-- the bytes read in all, if the buffer was taken and the reader was asked again
pub asked_so : {most reads : ℕ} {buffered rest : List ℕ} {had mid : Option (List ℕ)} {line : LinePrefix} (s : Coming most buffered had mid line rest reads)
    (behind : List ℕ) (new : LinePrefix) (left : Option (List ℕ)) (part : List ℕ) (reading after : List ℕ → Type 0)
    → Begun most (buffered ++ s.taking.bytes_read) new behind → (length new.bytes == new.most) ≡ false → Consumes mid left part → length part ≤ READ_BYTES
    → reading (s.taking.bytes_read ++ part) → after (s.taking.bytes_read ++ part)
    → (bytes_read : List ℕ) × Consumes had left bytes_read × reading bytes_read × IsBoundedReading most (buffered ++ bytes_read) × after bytes_read
asked_so {most} {reads} {buffered} {rest} {had} {mid} s behind new left part reading after begun short now size t a =
    let bounded = not_full most (buffered ++ s.taking.bytes_read) new begun.kept short in (
      s.taking.bytes_read ++ part,
      Consumes-then had mid left s.taking.bytes_read part s.taking.consumed now,
      t,
      subst (IsBoundedReading most) (append_assoc buffered s.taking.bytes_read part) (stops_soon most (buffered ++ s.taking.bytes_read) part begun.feedless bounded size),
      a,
    )

-- it gave some
pub comes_more : {most reads : ℕ} {buffered rest : List ℕ} {had mid : Option (List ℕ)} {line : LinePrefix} (s : Coming most buffered had mid line rest reads)
    (behind : List ℕ) (new : LinePrefix) (left : Option (List ℕ)) (part now_buffered : List ℕ) → Begun most (buffered ++ s.taking.bytes_read) new behind
    → (length new.bytes == new.most) ≡ false → Consumes mid left part → length part ≤ READ_BYTES → now_buffered ≡ part → 0 < length now_buffered
    → Coming most buffered had left new now_buffered (reads + 1)
comes_more {most} {reads} {buffered} {rest} {had} {mid} s behind new left part now_buffered begun short now size same some = record {
  taking = takes_more s.taking behind new left part now_buffered begun now same some;
  bounded = not_full most (buffered ++ s.taking.bytes_read) new begun.kept short;
  size = (let sizes = ap length same in omega (arith, sizes, size));
}

-- the reader is asked only if the buffer had no line feed
front_free : (xs bs : List ℕ) → has_feed (xs ++ bs) ≡ false → has_feed xs ≡ false
front_free [] bs h = refl
front_free (a ∷ xs) bs h = by_feed (a == 10) (has_feed (xs ++ bs)) h (λ e k. rw e (front_free xs bs k))

pub never_asked : {P : Type 0} (most : ℕ) (buffered bytes_read rest : List ℕ) (line : LinePrefix) → Begun most (buffered ++ bytes_read) line rest → has_feed buffered ≡ true → P
never_asked most buffered bytes_read rest line begun feed = let both : true ≡ false = sym feed ∙ front_free buffered bytes_read begun.feedless in cc

-- ---- errors

-- no read is spent if the reader failed, or if there was no memory
pub after_input : (bytes_read : List ℕ) (e : LiveError) → IsInputError e → IsReadingError bytes_read e
after_input bytes_read (errors.Reader fault) h = tt
after_input bytes_read errors.Memory h = tt
after_input bytes_read errors.Writer h = absurd h
after_input bytes_read errors.LinesSpent h = absurd h
after_input bytes_read errors.ReadsSpent h = absurd h

-- of an error nothing is said that holds of a value
pub if_ok_never : {T E : Type 0} (r : Result T E) (P : T → Type 0) → IsErr r → IfOk r P
if_ok_never (Ok x) P h = cc
if_ok_never (Err e) P h = tt

-- of an error that is passed on, what follows from its cause holds
pub if_err_passed : {T E : Type 0} {Q : E → Type 0} (r : Result T E) (P : E → Type 0) → IsErrAnd r Q → ((e : E) → Q e → P e) → IfErr r P
if_err_passed (Ok x) P h f = absurd h
if_err_passed (Err e) P h f = f e h
