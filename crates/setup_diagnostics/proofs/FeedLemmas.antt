-- A line stays without a line feed where a character is pushed that is none.
use Rattle.std.proofs.Common.{◌≡◌, ◌≢◌, ℕ, zero, suc, ◌+◌, ◌/◌, ◌^◌, ◌≤◌, ◌<◌, ◌==◌, Bool, true, false, cond, List, [], ◌∷◌, ◌++◌, map, decimal, refl, ap, ◌∙◌}
use Rattle.std.proofs.Common.{subst, sym, arith, ne_eqb}
use Rattle.std.proofs.lemmas.Bool.Decides.{nat_tests}
use Rattle.std.proofs.lemmas.Fmt.{decimal_digit, decimal-digits_of}
use Rattle.std.specs.Int.Digits.{digits_of}
use Rattle.std.specs.Prelude.{if◌then◌else◌}
use Rattle.std.specs.Char.{encode_utf8}
use Rattle.std.proofs.lemmas.List.Elements.{All-nil, All-cons, All-append}
use lib.Dec.{ltb}
use lib.Utf8.{next}
use Rattle.std.specs.List.{AllByRecursion}
use Rattle.json.specs.Lex.{tokens}
use Rattle.json.specs.Print.{print}
use Rattle.setup_reader.proofs.FeedLemmas.{compact_free}
use Rattle.setup_diagnostics.specs.Feeds.{HasNoLineFeed, has_line_feed}

above : (n : ℕ) → 11 ≤ n → n ≢ 10
above n h = omega (arith, h)

one : (a : ℕ) → a ≢ 10 → HasNoLineFeed (a ∷ [])
one a h = All-cons (λ b. b ≢ 10) a [] h (All-nil (λ b. b ≢ 10))

more : (a : ℕ) (bs : List ℕ) → 11 ≤ a → HasNoLineFeed bs → HasNoLineFeed (a ∷ bs)
more a bs h hs = All-cons (λ b. b ≢ 10) a bs (above a h) hs

two : (a b : ℕ) → 11 ≤ a → 11 ≤ b → HasNoLineFeed (a ∷ b ∷ [])
two a b h k = more a (b ∷ []) h (one b (above b k))

three : (a b c : ℕ) → 11 ≤ a → 11 ≤ b → 11 ≤ c → HasNoLineFeed (a ∷ b ∷ c ∷ [])
three a b c h k l = more a (b ∷ c ∷ []) h (two b c k l)

-- the one to four bytes of a character, by how many these are
bytes_by : (x y z : Bool) (c : ℕ) → c ≢ 10
    → HasNoLineFeed (cond x (c ∷ []) (cond y ((192 + c / 64) ∷ next c ∷ []) (cond z ((224 + c / 4096) ∷ next (c / 64) ∷ next c ∷ [])
    ((240 + c / 262144) ∷ next (c / 4096) ∷ next (c / 64) ∷ next c ∷ []))))
bytes_by true y z c h = one c h
bytes_by false true z c h = two (192 + c / 64) (next c) (omega arith) (omega arith)
bytes_by false false true c h = three (224 + c / 4096) (next (c / 64)) (next c) (omega arith) (omega arith) (omega arith)
bytes_by false false false c h =
    more (240 + c / 262144) (next (c / 4096) ∷ next (c / 64) ∷ next c ∷ []) (omega arith) (three (next (c / 4096)) (next (c / 64)) (next c) (omega arith) (omega arith) (omega arith))

-- no byte of a character but the line feed is one
pub bytes_of_character : (c : ℕ) → c ≢ 10 → HasNoLineFeed (encode_utf8 c)
unfolding encode_utf8
bytes_of_character c h = bytes_by (ltb c 128) (ltb c 2048) (ltb c 65536) c h

pub pushed : (b : Bool) (old : List ℕ) (c : ℕ) → HasNoLineFeed old → c ≢ 10 → HasNoLineFeed (if b then old ++ encode_utf8 c else old)
pushed true old c h k = All-append (λ b. b ≢ 10) old (encode_utf8 c) h (bytes_of_character c k)
pushed false old c h k = h

pub pushed_to : (b : Bool) (old new : List ℕ) (c : ℕ) → new ≡ (if b then old ++ encode_utf8 c else old) → HasNoLineFeed old → c ≢ 10 → HasNoLineFeed new
pushed_to b old new c e h k = subst HasNoLineFeed (sym e) (pushed b old c h k)

-- ---- numbers

below_digits : (d : ℕ) → ((48 + d) == 10) ≡ false
below_digits d = grind (arith, nat_tests)

digits_flat : (ds : List ℕ) → has_line_feed (map (λ d. 48 + d) ds) ≡ false
digits_flat [] = refl
digits_flat (d ∷ ds) = rw (below_digits d, digits_flat ds) refl

-- no digit of a number is a line feed
pub number_flat : (n : ℕ) → n < 2 ^ 64 → has_line_feed (decimal n) ≡ false
number_flat zero h = rw (decimal_digit 0 (omega arith)) refl
number_flat (suc n) h = ap has_line_feed (decimal-digits_of (suc n) (omega arith) h) ∙ digits_flat (digits_of 10 (suc n))

-- ---- JSON in its compact form

no_line_feed : (line : List ℕ) → AllByRecursion (λ b. b ≢ 10) line → has_line_feed line ≡ false
no_line_feed [] h = refl
no_line_feed (b ∷ bs) h = rw (ne_eqb b 10 h.0, no_line_feed bs h.1) refl

pub compact_flat : (text line : List ℕ) → text ≡ line → line ≡ print (tokens line) → has_line_feed text ≡ false
compact_flat text line same compact = ap has_line_feed same ∙ no_line_feed line (compact_free line compact)
