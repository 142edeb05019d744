-- JSON in its compact form has no line feed: none between tokens, none in a string's escapes, none in a number.
use Rattle.std.proofs.Common.{◌≡◌, ℕ, zero, suc, ◌+◌, ◌-◌, ◌<◌, ◌≤◌, Bool, true, false, not, cond, ◌&&◌, ◌||◌, ◌==◌, List, [], ◌∷◌, ◌++◌, length, take, drop}
use Rattle.std.proofs.Common.{Option, Some, None, option_and_then}
use Rattle.std.proofs.Common.{inl, inr, refl, sym, ap, ◌∙◌, subst, arith, append_assoc, length-append}
use Rattle.std.proofs.lemmas.Bool.{and_parts, cases_lt, cases_eq, eqb-true, leb-true, or_cases}
use Rattle.std.proofs.lemmas.Bool.Decides.{nat_tests}
use Rattle.std.proofs.Math.Seq.{take-append_seam}
use Rattle.std.specs.Prelude.{nat_eq}
use Rattle.std.specs.List.{prefix_len, starts_with}
use Rattle.std.specs.Char.{is_ascii_digit}
use Rattle.json.specs.Token.{Token}
use Rattle.json.specs.Text.{content, plain}
use Rattle.json.specs.Word.{head, ends_word, after_digits, after_minus, after_sign, after_whole, after_fraction, after_exponent, after_number, number_before}
use Rattle.json.specs.Word.{literal, word}
use Rattle.json.specs.Lex.{Lexeme, Class, Mode, Place, begins_colon, class, if_allowed, lex, lex_byte, may_begin, may_close, operator_lexeme, place_token}
use Rattle.json.specs.Lex.{punctuate, string_token, tokens}
use Rattle.json.specs.Print.{begins, ends, escape, escape_byte, print, print_from, quoted, separator, token_text}
use Rattle.json.proofs.Printed.Strings.{escape_byte_plain}
use Rattle.setup_reader.specs.Feeds.{HasNoLineFeed}

abbrev free : List ℕ → Bool
free [] = true
free (b ∷ bs) = not (b == 10) && free bs

free-append : (xs ys : List ℕ) → free xs ≡ true → free ys ≡ true → free (xs ++ ys) ≡ true
free-append [] ys f g = g
free-append (x ∷ xs) ys f g = let p = and_parts (not (x == 10)) (free xs) f in rw (p.0, free-append xs ys p.1 g) refl

no_feed : (xs : List ℕ) → free xs ≡ true → HasNoLineFeed xs
no_feed [] f = tt
no_feed (x ∷ xs) f = let p = and_parts (not (x == 10)) (free xs) f in (λ same. let q = rw same at p.0 in cc, no_feed xs p.1)

-- ---- numbers

-- what is passed over up to `rest` has no line feed
abbrev Past : List ℕ → List ℕ → Type 0
Past t rest = (front : List ℕ) × (t ≡ front ++ rest) × (free front ≡ true)

past_none : (t : List ℕ) → Past t t
past_none t = ([], refl, refl)

past_then : (a b c : List ℕ) → Past a b → Past b c → Past a c
past_then a b c (p, e, f) (q, g, h) = (p ++ q, e ∙ ap (λ l. p ++ l) g ∙ sym (append_assoc p q c), free-append p q f h)

past_one : (c : ℕ) (t : List ℕ) → (c == 10) ≡ false → (head t == c) ≡ true → Past t (drop 1 t)
past_one c [] n e = past_none []
past_one c (x ∷ xs) n e = let same : x ≡ c = eqb-true x c e in (x ∷ [], refl, rw (same, n) refl)

past_either : (a b : ℕ) (t : List ℕ) → (a == 10) ≡ false → (b == 10) ≡ false → ((head t == a) || (head t == b)) ≡ true → Past t (drop 1 t)
past_either a b t m n e = elim (or_cases _ _ e) [
  | inl first ↦ past_one a t m first
  | inr second ↦ past_one b t n second
]

digit_free : (x : ℕ) → is_ascii_digit x ≡ true → (x == 10) ≡ false
digit_free x h = let low = leb-true 48 x (and_parts _ _ h).0 in grind (arith, nat_tests, low)

digits_at : (digit : Bool) (x : ℕ) (xs : List ℕ) (n : ℕ) → (digit ≡ true → (x == 10) ≡ false) → Past xs (drop n xs)
    → Past (x ∷ xs) (drop (cond digit (1 + n) 0) (x ∷ xs))
digits_at false x xs n f again = past_none (x ∷ xs)
digits_at true x xs n f (p, e, h) =
    let next : 1 + n ≡ suc n = omega arith in
    (x ∷ p, ap (λ l. x ∷ l) e ∙ ap (λ k. (x ∷ p) ++ drop k (x ∷ xs)) (sym next), rw (f refl, h) refl)

past_digits : (t : List ℕ) → Past t (drop (prefix_len is_ascii_digit t) t)
past_digits [] = past_none []
past_digits (x ∷ xs) = digits_at (is_ascii_digit x) x xs (prefix_len is_ascii_digit xs) (digit_free x) (past_digits xs)

abbrev Reaches : List ℕ → Option (List ℕ) → Type 0
Reaches t None = Unit {0}
Reaches t (Some rest) = Past t rest

by_test : (b : Bool) (t : List ℕ) (x y : Option (List ℕ)) → (b ≡ true → Reaches t x) → Reaches t y → Reaches t (cond b x y)
by_test true t x y f g = f refl
by_test false t x y f g = g

skip : (b : Bool) (t : List ℕ) → (b ≡ true → Past t (drop 1 t)) → Past t (cond b (drop 1 t) t)
skip true t f = f refl
skip false t f = past_none t

reach_then : (a b : List ℕ) (o : Option (List ℕ)) → Past a b → Reaches b o → Reaches a o
reach_then a b None p r = tt
reach_then a b (Some c) p r = past_then a b c p r

reach_on : (f : List ℕ → Option (List ℕ)) → ((t : List ℕ) → Reaches t (f t)) → (t : List ℕ) (o : Option (List ℕ)) → Reaches t o
    → Reaches t (option_and_then f o)
reach_on f p t None h = tt
reach_on f p t (Some u) h = reach_then t u (f u) h (p u)

reach_digits : (t : List ℕ) → Reaches t (after_digits t)
reach_digits t = by_test (prefix_len is_ascii_digit t == 0) t None _ (λ e. tt) (past_digits t)

reach_exponent : (t : List ℕ) → Reaches t (after_exponent t)
reach_exponent t =
    let u = drop 1 t in
    let signed = skip _ u (λ e. past_either 45 43 u refl refl e) in
    by_test ((head t == 101) || (head t == 69)) t _ (Some t)
    (λ e. reach_then t u _ (past_either 101 69 t refl refl e) (reach_then u (after_sign u) _ signed (reach_digits (after_sign u)))) (past_none t)

reach_fraction : (t : List ℕ) → Reaches t (after_fraction t)
reach_fraction t =
    by_test (head t == 46) t _ (Some t) (λ e. reach_then t (drop 1 t) _ (past_one 46 t refl e) (reach_digits (drop 1 t))) (past_none t)

reach_whole : (t : List ℕ) → Reaches t (after_whole t)
reach_whole t = by_test (head t == 48) t (Some (drop 1 t)) _ (λ e. past_one 48 t refl e) (reach_digits t)

reach_number : (t : List ℕ) → Reaches t (after_number t)
unfolding after_number
reach_number t =
    let minus = skip (head t == 45) t (λ e. past_one 45 t refl e) in
    let whole = reach_then t (after_minus t) (after_whole (after_minus t)) minus (reach_whole (after_minus t)) in
    reach_on after_exponent reach_exponent t _ (reach_on after_fraction reach_fraction t _ whole)

-- ---- tokens

abbrev FreeToken : Token → Type 0
FreeToken (Token.number s) = free s ≡ true
FreeToken t = Unit {0}

token_by : (b : Bool) (x y : Token) → FreeToken x → FreeToken y → FreeToken (cond b x y)
token_by true x y f g = f
token_by false x y f g = g

front_is : (p rest : List ℕ) → take (length (p ++ rest) - length rest) (p ++ rest) ≡ p
front_is p rest =
    let sizes = length-append p rest in
    let n : length (p ++ rest) - length rest ≡ length p = omega (arith, sizes) in
    ap (λ k. take k (p ++ rest)) n ∙ take-append_seam p rest

number_free : (t : List ℕ) (o : Option (List ℕ)) → Reaches t o → FreeToken (number_before t o)
number_free t None r = tt
number_free t (Some rest) (p, e, f) =
    token_by (ends_word rest) _ Token.bad
    (subst (λ u. free (take (length u - length rest) u) ≡ true) (sym e) (ap free (front_is p rest) ∙ f)) tt

literal_free : (name : List ℕ) (k : Token) (t : List ℕ) → FreeToken k → FreeToken (literal name k t)
literal_free name k t f = token_by (starts_with nat_eq t name && ends_word (drop (length name) t)) k Token.bad f tt

word_free : (t : List ℕ) → FreeToken (word t)
unfolding word
word_free t =
    let yes = literal (116 ∷ 114 ∷ 117 ∷ 101 ∷ []) (Token.boolean true) t in
    let no = literal (102 ∷ 97 ∷ 108 ∷ 115 ∷ 101 ∷ []) (Token.boolean false) t in
    let none = literal (110 ∷ 117 ∷ 108 ∷ 108 ∷ []) Token.null t in
    let digits = number_before t (after_number t) in
    let after_false = cond (head t == 110) none digits in
    token_by (head t == 116) yes (cond (head t == 102) no after_false) (literal_free (116 ∷ 114 ∷ 117 ∷ 101 ∷ []) (Token.boolean true) t tt)
    (token_by (head t == 102) no after_false (literal_free (102 ∷ 97 ∷ 108 ∷ 115 ∷ 101 ∷ []) (Token.boolean false) t tt)
    (token_by (head t == 110) none digits (literal_free (110 ∷ 117 ∷ 108 ∷ 108 ∷ []) Token.null t tt) (number_free t (after_number t) (reach_number t))))

string_free : (o : Option (List ℕ)) → FreeToken (string_token o)
string_free None = tt
string_free (Some s) = tt

abbrev FreeLexeme : Lexeme → Type 0
FreeLexeme (Lexeme.token t) = FreeToken t
FreeLexeme Lexeme.comma = Unit {0}
FreeLexeme Lexeme.colon = Unit {0}

lexeme_by : (b : Bool) (x y : Lexeme) → FreeLexeme x → FreeLexeme y → FreeLexeme (cond b x y)
lexeme_by true x y f g = f
lexeme_by false x y f g = g

operator_free : (x : ℕ) → FreeLexeme (operator_lexeme x)
operator_free x =
    let after_4 = cond (x == 44) Lexeme.comma Lexeme.colon in
    let after_3 = cond (x == 93) (Lexeme.token Token.end_array) after_4 in
    let after_2 = cond (x == 91) (Lexeme.token Token.begin_array) after_3 in
    let after_1 = cond (x == 125) (Lexeme.token Token.end_object) after_2 in
    lexeme_by (x == 123) (Lexeme.token Token.begin_object) after_1 tt (lexeme_by (x == 125) (Lexeme.token Token.end_object) after_2 tt
    (lexeme_by (x == 91) (Lexeme.token Token.begin_array) after_3 tt (lexeme_by (x == 93) (Lexeme.token Token.end_array) after_4 tt
    (lexeme_by (x == 44) Lexeme.comma Lexeme.colon tt tt))))

abbrev AreFreeLexemes : List Lexeme → Type 0
AreFreeLexemes [] = Unit {0}
AreFreeLexemes (l ∷ ls) = FreeLexeme l × AreFreeLexemes ls

byte_free : (m : Mode) (c : Class) (x : ℕ) (xs : List ℕ) (k : Mode → List Lexeme) → ((next : Mode) → AreFreeLexemes (k next))
    → AreFreeLexemes (lex_byte m c x xs k)
byte_free Mode.between Class.quote x xs k h = (string_free (content plain xs), h Mode.in_string)
byte_free Mode.between Class.backslash x xs k h = (tt, h Mode.in_word)
byte_free Mode.between Class.operator x xs k h = (operator_free x, h Mode.between)
byte_free Mode.between Class.space x xs k h = h Mode.between
byte_free Mode.between Class.other x xs k h = (word_free (x ∷ xs), h Mode.in_word)
byte_free Mode.in_word Class.quote x xs k h = h Mode.in_word
byte_free Mode.in_word Class.backslash x xs k h = h Mode.in_word
byte_free Mode.in_word Class.operator x xs k h = (operator_free x, h Mode.between)
byte_free Mode.in_word Class.space x xs k h = h Mode.between
byte_free Mode.in_word Class.other x xs k h = h Mode.in_word
byte_free Mode.in_string Class.quote x xs k h = h Mode.between
byte_free Mode.in_string Class.backslash x xs k h = h Mode.in_escape
byte_free Mode.in_string Class.operator x xs k h = h Mode.in_string
byte_free Mode.in_string Class.space x xs k h = h Mode.in_string
byte_free Mode.in_string Class.other x xs k h = h Mode.in_string
byte_free Mode.in_escape c x xs k h = h Mode.in_string

lex_free : (m : Mode) (xs : List ℕ) → AreFreeLexemes (lex m xs)
unfolding lex
lex_free m [] = tt
lex_free m (x ∷ xs) = byte_free m (class x) x xs (λ next. lex next xs) (λ next. lex_free next xs)

abbrev AreFree : List Token → Type 0
AreFree [] = Unit {0}
AreFree (t ∷ ts) = FreeToken t × AreFree ts

allowed_free : (b : Bool) (t : Token) (k : Place → List Token) (next : Place) → FreeToken t → ((at : Place) → AreFree (k at)) → AreFree (if_allowed b t k next)
allowed_free true t k next f h = (f, h next)
allowed_free false t k next f h = (tt, tt)

place_free : (p : Place) (t : Token) (colon : Bool) (k : Place → List Token) → FreeToken t → ((at : Place) → AreFree (k at)) → AreFree (place_token p t colon k)
place_free p Token.begin_object colon k f h = allowed_free (may_begin p) Token.begin_object k Place.fresh tt h
place_free p Token.end_object colon k f h = allowed_free (may_close p) Token.end_object k Place.after_value tt h
place_free p Token.begin_array colon k f h = allowed_free (may_begin p) Token.begin_array k Place.fresh tt h
place_free p Token.end_array colon k f h = allowed_free (may_close p) Token.end_array k Place.after_value tt h
place_free p (Token.key s) colon k f h = (tt, tt)
place_free p (Token.string s) true k f h = allowed_free (may_begin p) (Token.key s) k Place.after_key tt h
place_free p (Token.string s) false k f h = allowed_free (may_begin p) (Token.string s) k Place.after_value tt h
place_free p (Token.number s) colon k f h = allowed_free (may_begin p) (Token.number s) k Place.after_value f h
place_free p (Token.boolean b) colon k f h = allowed_free (may_begin p) (Token.boolean b) k Place.after_value tt h
place_free p Token.null colon k f h = allowed_free (may_begin p) Token.null k Place.after_value tt h
place_free p Token.bad colon k f h = (tt, tt)

punctuate_free : (p : Place) (ls : List Lexeme) → AreFreeLexemes ls → AreFree (punctuate p ls)
unfolding punctuate
punctuate_free Place.fresh [] h = tt
punctuate_free Place.after_value [] h = tt
punctuate_free Place.after_comma [] h = (tt, tt)
punctuate_free Place.after_key [] h = (tt, tt)
punctuate_free Place.fresh (Lexeme.token t ∷ ls) (f, h) = place_free Place.fresh t (begins_colon ls) (λ next. punctuate next ls) f (λ next. punctuate_free next ls h)
punctuate_free Place.after_value (Lexeme.token t ∷ ls) (f, h) = place_free Place.after_value t (begins_colon ls) (λ next. punctuate next ls) f (λ next. punctuate_free next ls h)
punctuate_free Place.after_comma (Lexeme.token t ∷ ls) (f, h) = place_free Place.after_comma t (begins_colon ls) (λ next. punctuate next ls) f (λ next. punctuate_free next ls h)
punctuate_free Place.after_key (Lexeme.token t ∷ ls) (f, h) = place_free Place.after_key t (begins_colon ls) (λ next. punctuate next ls) f (λ next. punctuate_free next ls h)
punctuate_free Place.fresh (Lexeme.comma ∷ ls) (f, h) = (tt, tt)
punctuate_free Place.after_value (Lexeme.comma ∷ ls) (f, h) = punctuate_free Place.after_comma ls h
punctuate_free Place.after_comma (Lexeme.comma ∷ ls) (f, h) = (tt, tt)
punctuate_free Place.after_key (Lexeme.comma ∷ ls) (f, h) = (tt, tt)
punctuate_free Place.fresh (Lexeme.colon ∷ ls) (f, h) = (tt, tt)
punctuate_free Place.after_value (Lexeme.colon ∷ ls) (f, h) = (tt, tt)
punctuate_free Place.after_comma (Lexeme.colon ∷ ls) (f, h) = (tt, tt)
punctuate_free Place.after_key (Lexeme.colon ∷ ls) (f, h) = punctuate_free Place.fresh ls h

-- ---- their text

-- the escapes of the bytes below n have none
abbrev escapes_below : ℕ → Bool
escapes_below zero = true
escapes_below (suc n) = free (escape_byte n) && escapes_below n

escape_below : (n : ℕ) → escapes_below n ≡ true → (x : ℕ) → x < n → free (escape_byte x) ≡ true
escape_below zero e x h = absurd (omega arith)
escape_below (suc n) e x h =
    let p = and_parts (free (escape_byte n)) (escapes_below n) e in
    elim (cases_eq x n) [ inl same ↦ rw same p.0 | inr other ↦ escape_below n p.1 x (omega arith) ]

all_escapes : escapes_below 128 ≡ true
unfolding escape_byte
all_escapes = refl

plain_free : (x : ℕ) → 128 ≤ x → free (x ∷ []) ≡ true
plain_free x big = let e : (x == 10) ≡ false = grind (arith, nat_tests, big) in rw e refl

escape_free : (x : ℕ) → free (escape_byte x) ≡ true
escape_free x = elim (cases_lt x 128) [
  | inl small ↦ escape_below 128 all_escapes x small
  | inr big ↦ ap free (escape_byte_plain x (λ e. omega arith) (λ e. omega arith) (omega arith)) ∙ plain_free x big
]

escapes_free : (s : List ℕ) → free (escape s) ≡ true
escapes_free [] = refl
escapes_free (x ∷ xs) = free-append (escape_byte x) (escape xs) (escape_free x) (escapes_free xs)

quoted_free : (s : List ℕ) → free (quoted s) ≡ true
quoted_free s = free-append (escape s) (34 ∷ []) (escapes_free s) refl

text_free : (t : Token) → FreeToken t → free (token_text t) ≡ true
text_free Token.begin_object f = refl
text_free Token.end_object f = refl
text_free Token.begin_array f = refl
text_free Token.end_array f = refl
text_free (Token.key s) f = free-append (quoted s) (58 ∷ []) (quoted_free s) refl
text_free (Token.string s) f = quoted_free s
text_free (Token.number s) f = f
text_free (Token.boolean true) f = refl
text_free (Token.boolean false) f = refl
text_free Token.null f = refl
text_free Token.bad f = refl

comma_free : (b : Bool) → free (cond b (44 ∷ []) []) ≡ true
comma_free true = refl
comma_free false = refl

print_free : (after : Bool) (ts : List Token) → AreFree ts → free (print_from after ts) ≡ true
unfolding print_from
print_free after [] h = refl
print_free after (t ∷ ts) (f, h) =
    free-append (separator after t) (token_text t ++ print_from (ends t) ts) (comma_free (after && begins t))
    (free-append (token_text t) (print_from (ends t) ts) (text_free t f) (print_free (ends t) ts h))

-- text that is its own tokens in compact form has no line feed
pub compact_free : (line : List ℕ) → line ≡ print (tokens line) → HasNoLineFeed line
compact_free line e =
    no_feed line (ap free e ∙ print_free false (tokens line) (punctuate_free Place.fresh (lex Mode.between line) (lex_free Mode.between line)))
