-- The text of what was saved has no line feed: it is one line.
use Rattle.std.proofs.Common.{◌≡◌, ℕ, zero, suc, ◌+◌, ◌/◌, ◌%◌, ◌==◌, ◌||◌, Bool, true, false, cond, List, [], ◌∷◌, ◌++◌, refl, ◌∙◌, arith, nat_lt}
use Rattle.std.specs.Prelude.{decimal, pos, negsuc}
use Rattle.std.proofs.lemmas.Bool.Decides.{nat_tests}
use Rattle.std.specs.Fmt.{digit_glyph, digits, digits_onto}
use Rattle.std.specs.Char.{digit_char}
use Rattle.json.specs.Print.{escape, escape_byte, escape_letter, quoted}
use Rattle.serde_json.specs.Data.{unsigned, negative, float, Data, null, boolean, number, string, array, object, Items, no_items, item, Members, no_members}
use Rattle.serde_json.specs.Data.{member}
use Rattle.serde_json.specs.Written.{comma_if, compact_text, items_text, members_text}
use Rattle.check_saved_state.specs.Saved.{Saved}
use Rattle.check_saved_state.specs.Text.{saved_text}
use Rattle.check_saved_state.specs.Tree.{saved_tree}
use Rattle.nagsched_protocol.specs.LiveInput.{has_feed}
use Rattle.nagsched_protocol.proofs.LiveInputLemmas.{feed_on}

both_free : (xs bs : List ℕ) → has_feed xs ≡ false → has_feed bs ≡ false → has_feed (xs ++ bs) ≡ false
both_free xs bs first later = feed_on xs bs first ∙ later

-- ---- numbers

glyph_by : (upper low : Bool) (d : ℕ) → (cond low (48 + d) (cond upper (55 + d) (87 + d)) == 10) ≡ false
glyph_by upper true d = grind (arith, nat_tests)
glyph_by true false d = grind (arith, nat_tests)
glyph_by false false d = grind (arith, nat_tests)

glyph_free : (upper : Bool) (d : ℕ) → (digit_glyph upper d == 10) ≡ false
glyph_free upper d = glyph_by upper (nat_lt d 10) d

digits_free : (k base n : ℕ) (upper : Bool) (later : List ℕ) → has_feed later ≡ false → has_feed (digits_onto k base upper n later) ≡ false
digits_free zero base n upper later h = h
digits_free (suc k) base n upper later h =
    let more : has_feed (digit_glyph upper (n % base) ∷ later) ≡ false = rw (glyph_free upper (n % base)) h in
    elim (n / base == 0) as (λ v. has_feed (cond v (digit_glyph upper (n % base) ∷ later)
    (digits_onto k base upper (n / base) (digit_glyph upper (n % base) ∷ later))) ≡ false) [
      | true ↦ more
      | false ↦ digits_free k base (n / base) upper (digit_glyph upper (n % base) ∷ later) more
    ]

decimal_free : (n : ℕ) → has_feed (decimal n) ≡ false
unfolding digits
decimal_free n = digits_free 64 10 n false [] refl

-- ---- strings

quote_free : (x rest : ℕ) (marked : Bool) → ((x == 34) || (x == 92)) ≡ marked → (rest == 10) ≡ false → (cond marked x rest == 10) ≡ false
quote_free x rest true e h = grind (arith, nat_tests, e)
quote_free x rest false e h = h

letters_free : (a b c d e : Bool) → (cond a 98 (cond b 102 (cond c 110 (cond d 114 (cond e 116 0)))) == 10) ≡ false
letters_free true b c d e = refl
letters_free false true c d e = refl
letters_free false false true d e = refl
letters_free false false false true e = refl
letters_free false false false false true = refl
letters_free false false false false false = refl

letter_free : (x : ℕ) → (escape_letter x == 10) ≡ false
letter_free x =
    quote_free x (cond (x == 8) 98 (cond (x == 12) 102 (cond (x == 10) 110 (cond (x == 13) 114 (cond (x == 9) 116 0))))) ((x == 34) || (x == 92)) refl
    (letters_free (x == 8) (x == 12) (x == 10) (x == 13) (x == 9))

char_by : (low : Bool) (d : ℕ) → (cond low (48 + d) (87 + d) == 10) ≡ false
char_by true d = grind (arith, nat_tests)
char_by false d = grind (arith, nat_tests)

char_free : (d : ℕ) → (digit_char d == 10) ≡ false
char_free d = char_by (nat_lt d 10) d

byte_by : (x letter : ℕ) (named low : Bool) → (letter == 10) ≡ false → nat_lt x 32 ≡ low
    → has_feed (cond named (92 ∷ letter ∷ []) (cond low (92 ∷ 117 ∷ 48 ∷ 48 ∷ digit_char (x / 16) ∷ digit_char (x % 16) ∷ []) (x ∷ []))) ≡ false
byte_by x letter true low h e = rw h refl
byte_by x letter false true h e = rw (char_free (x / 16), char_free (x % 16)) refl
byte_by x letter false false h e = let other : (x == 10) ≡ false = grind (arith, nat_tests, e) in rw other refl

byte_free : (x : ℕ) → has_feed (escape_byte x) ≡ false
unfolding escape_byte
byte_free x = byte_by x (escape_letter x) (nat_lt 0 (escape_letter x)) (nat_lt x 32) (letter_free x) refl

escape_free : (s : List ℕ) → has_feed (escape s) ≡ false
escape_free [] = refl
escape_free (x ∷ s) = both_free (escape_byte x) (escape s) (byte_free x) (escape_free s)

quoted_free : (s : List ℕ) → has_feed (quoted s) ≡ false
quoted_free s = both_free (escape s) (34 ∷ []) (escape_free s) refl

-- ---- trees

comma_free : (later : Bool) → has_feed (comma_if later) ≡ false
comma_free true = refl
comma_free false = refl

mutual
  text_free : (d : Data) → has_feed (compact_text d) ≡ false
  text_free null = refl
  text_free (boolean true) = refl
  text_free (boolean false) = refl
  text_free (number (unsigned n)) = decimal_free n
  text_free (number (negative (pos n))) = decimal_free n
  text_free (number (negative (negsuc n))) = decimal_free (suc n)
  text_free (number (float x)) = refl
  text_free (string s) = quoted_free s
  text_free (array ds) = items_free false ds
  text_free (object ms) = members_free false ms

  items_free : (later : Bool) (ds : Items) → has_feed (items_text later ds) ≡ false
  items_free later no_items = refl
  items_free later (item d ds) =
      both_free (comma_if later) (compact_text d ++ items_text true ds) (comma_free later)
      (both_free (compact_text d) (items_text true ds) (text_free d) (items_free true ds))

  members_free : (later : Bool) (ms : Members) → has_feed (members_text later ms) ≡ false
  members_free later no_members = refl
  members_free later (member k d ms) =
      both_free (comma_if later) (quoted k ++ 58 ∷ (compact_text d ++ members_text true ms)) (comma_free later)
      (both_free (quoted k) (58 ∷ (compact_text d ++ members_text true ms)) (quoted_free k)
      (both_free (compact_text d) (members_text true ms) (text_free d) (members_free true ms)))

pub saved_free : (saved : Saved) → has_feed (saved_text saved) ≡ false
saved_free saved = text_free (saved_tree saved)
