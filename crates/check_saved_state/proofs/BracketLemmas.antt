-- The brackets of a text of JSON: a text that is cut off has those of its front, and the text of a value closes each that it opens.
use Rattle.std.proofs.Common.{◌≡◌, ℕ, zero, suc, Bool, true, false, ◌==◌, cond, List, [], ◌∷◌, ◌++◌, Option, Some, None, option_and_then, refl, sym, ap, ◌∙◌}
use Rattle.std.specs.List.{list_all}
use Rattle.std.proofs.lemmas.Bool.{and_parts}
use Rattle.json.specs.Json as json
use Rattle.json.specs.Json.{Json, Items, Members}
use Rattle.json.specs.Lex.{Lexeme, token, comma, colon, Class, quote, backslash, operator, space, other, class, operator_lexeme, string_token, Mode, between}
use Rattle.json.specs.Lex.{in_word}
use Rattle.json.specs.Lex.{in_string, in_escape, lex_byte, lex, Place, fresh, after_value, after_comma, after_key, begins_colon, may_begin, may_close}
use Rattle.json.specs.Lex.{if_allowed}
use Rattle.json.specs.Lex.{place_token, punctuate}
use Rattle.json.specs.Text.{content, plain}
use Rattle.json.specs.Token.{Token, begin_object, end_object, begin_array, end_array, key, string, number, boolean, null, bad}
use Rattle.json.specs.Tree.{json_tokens, items_tokens, members_tokens}
use Rattle.json.specs.Word.{after_number, ends_word, head, number_before, word}

-- ---- the brackets of tokens and of lexemes, in their order: true where one opens, false where one closes

abbrev pub token_brackets : Token → List Bool → List Bool
token_brackets begin_object more = true ∷ more
token_brackets end_object more = false ∷ more
token_brackets begin_array more = true ∷ more
token_brackets end_array more = false ∷ more
token_brackets (key s) more = more
token_brackets (string s) more = more
token_brackets (number s) more = more
token_brackets (boolean b) more = more
token_brackets null more = more
token_brackets bad more = more

abbrev pub brackets : List Token → List Bool
brackets [] = []
brackets (t ∷ ts) = token_brackets t (brackets ts)

abbrev lexeme_brackets : Lexeme → List Bool → List Bool
lexeme_brackets (token t) more = token_brackets t more
lexeme_brackets comma more = more
lexeme_brackets colon more = more

abbrev pub lexed : List Lexeme → List Bool
lexed [] = []
lexed (l ∷ ls) = lexeme_brackets l (lexed ls)

token_push : (t : Token) (a b : List Bool) → token_brackets t (a ++ b) ≡ token_brackets t a ++ b
token_push begin_object a b = refl
token_push end_object a b = refl
token_push begin_array a b = refl
token_push end_array a b = refl
token_push (key s) a b = refl
token_push (string s) a b = refl
token_push (number s) a b = refl
token_push (boolean v) a b = refl
token_push null a b = refl
token_push bad a b = refl

lexeme_push : (l : Lexeme) (a b : List Bool) → lexeme_brackets l (a ++ b) ≡ lexeme_brackets l a ++ b
lexeme_push (token t) a b = token_push t a b
lexeme_push comma a b = refl
lexeme_push colon a b = refl

brackets_append : (ts us : List Token) → brackets (ts ++ us) ≡ brackets ts ++ brackets us
brackets_append [] us = refl
brackets_append (t ∷ ts) us = ap (token_brackets t) (brackets_append ts us) ∙ token_push t (brackets ts) (brackets us)

-- ---- a text in two parts

string_none : (o : Option (List ℕ)) (more : List Bool) → token_brackets (string_token o) more ≡ more
string_none None more = refl
string_none (Some s) more = refl

either_none : (b : Bool) (x y : Token) (more : List Bool) → token_brackets x more ≡ more → token_brackets y more ≡ more
    → token_brackets (cond b x y) more ≡ more
either_none true x y more e f = e
either_none false x y more e f = f

number_none : (t : List ℕ) (o : Option (List ℕ)) (more : List Bool) → token_brackets (number_before t o) more ≡ more
number_none t None more = refl
number_none t (Some r) more = either_none (ends_word r) _ bad more refl refl

word_none : (t : List ℕ) (more : List Bool) → token_brackets (word t) more ≡ more
unfolding word
word_none t more =
    either_none (head t == 116) _ _ more (either_none _ (boolean true) bad more refl refl)
    (either_none (head t == 102) _ _ more (either_none _ (boolean false) bad more refl refl)
    (either_none (head t == 110) _ _ more (either_none _ null bad more refl refl) (number_none t (after_number t) more)))

-- whether the brackets of a text in two parts are those of its front, and those of the rest in some mode
abbrev Splits : Mode → List ℕ → List ℕ → Type 0
Splits m front rest = (n : Mode) × (lexed (lex m (front ++ rest)) ≡ lexed (lex m front) ++ lexed (lex n rest))

split_byte : (m : Mode) (c : Class) (x : ℕ) (xs rest : List ℕ) → ((k : Mode) → Splits k xs rest)
    → (n : Mode) × (lexed (lex_byte m c x (xs ++ rest) (λ k. lex k (xs ++ rest))) ≡ lexed (lex_byte m c x xs (λ k. lex k xs)) ++ lexed (lex n rest))
split_byte between quote x xs rest more = (
  (more in_string).0,
  string_none (content plain (xs ++ rest)) _ ∙ (more in_string).1 ∙ ap (λ l. l ++ lexed (lex (more in_string).0 rest)) (sym (string_none (content plain xs) _)),
)
split_byte between backslash x xs rest more = more in_word
split_byte between operator x xs rest more = (
  (more between).0,
  ap (lexeme_brackets (operator_lexeme x)) (more between).1 ∙ lexeme_push (operator_lexeme x) (lexed (lex between xs)) _,
)
split_byte between space x xs rest more = more between
split_byte between other x xs rest more = (
  (more in_word).0,
  word_none (x ∷ (xs ++ rest)) _ ∙ (more in_word).1 ∙ ap (λ l. l ++ lexed (lex (more in_word).0 rest)) (sym (word_none (x ∷ xs) _)),
)
split_byte in_word quote x xs rest more = more in_word
split_byte in_word backslash x xs rest more = more in_word
split_byte in_word operator x xs rest more = (
  (more between).0,
  ap (lexeme_brackets (operator_lexeme x)) (more between).1 ∙ lexeme_push (operator_lexeme x) (lexed (lex between xs)) _,
)
split_byte in_word space x xs rest more = more between
split_byte in_word other x xs rest more = more in_word
split_byte in_string quote x xs rest more = more between
split_byte in_string backslash x xs rest more = more in_escape
split_byte in_string operator x xs rest more = more in_string
split_byte in_string space x xs rest more = more in_string
split_byte in_string other x xs rest more = more in_string
split_byte in_escape c x xs rest more = more in_string

pub lexed_splits : (m : Mode) (front rest : List ℕ) → Splits m front rest
unfolding lex
lexed_splits m [] rest = (m, refl)
lexed_splits m (x ∷ xs) rest = split_byte m (class x) x xs rest (λ k. lexed_splits k xs rest)

-- ---- tokens without a fault have the brackets of their lexemes

abbrev pub is_good : Token → Bool
is_good bad = false
is_good t = true

abbrev pub AreGood : List Token → Type 0
AreGood ts = list_all is_good ts ≡ true

-- whether these tokens, if they have no fault, have these brackets
abbrev HaveIfGood : List Token → List Bool → Type 0
HaveIfGood ts more = AreGood ts → brackets ts ≡ more

allowed_has : (b : Bool) (t : Token) (k : Place → List Token) (next : Place) (more : List Bool) → HaveIfGood (k next) more
    → HaveIfGood (if_allowed b t k next) (token_brackets t more)
allowed_has true t k next more f h = ap (token_brackets t) (f (and_parts (is_good t) (list_all is_good (k next)) h).1)
allowed_has false t k next more f h = cc

placed_has : (p : Place) (t : Token) (before_colon : Bool) (k : Place → List Token) (more : List Bool) → ((next : Place) → HaveIfGood (k next) more)
    → HaveIfGood (place_token p t before_colon k) (token_brackets t more)
placed_has p begin_object c k more f = allowed_has (may_begin p) begin_object k fresh more (f fresh)
placed_has p end_object c k more f = allowed_has (may_close p) end_object k after_value more (f after_value)
placed_has p begin_array c k more f = allowed_has (may_begin p) begin_array k fresh more (f fresh)
placed_has p end_array c k more f = allowed_has (may_close p) end_array k after_value more (f after_value)
placed_has p (key s) c k more f = λ h. cc
placed_has p (string s) true k more f = allowed_has (may_begin p) (key s) k after_key more (f after_key)
placed_has p (string s) false k more f = allowed_has (may_begin p) (string s) k after_value more (f after_value)
placed_has p (number s) c k more f = allowed_has (may_begin p) (number s) k after_value more (f after_value)
placed_has p (boolean b) c k more f = allowed_has (may_begin p) (boolean b) k after_value more (f after_value)
placed_has p null c k more f = allowed_has (may_begin p) null k after_value more (f after_value)
placed_has p bad c k more f = λ h. cc

pub punctuated_has : (p : Place) (ls : List Lexeme) → HaveIfGood (punctuate p ls) (lexed ls)
unfolding punctuate
punctuated_has fresh [] h = refl
punctuated_has after_value [] h = refl
punctuated_has after_comma [] h = cc
punctuated_has after_key [] h = cc
punctuated_has fresh (token t ∷ ls) h = placed_has fresh t (begins_colon ls) (λ next. punctuate next ls) (lexed ls) (λ next. punctuated_has next ls) h
punctuated_has after_value (token t ∷ ls) h = placed_has after_value t (begins_colon ls) (λ next. punctuate next ls) (lexed ls) (λ next. punctuated_has next ls) h
punctuated_has after_comma (token t ∷ ls) h = placed_has after_comma t (begins_colon ls) (λ next. punctuate next ls) (lexed ls) (λ next. punctuated_has next ls) h
punctuated_has after_key (token t ∷ ls) h = placed_has after_key t (begins_colon ls) (λ next. punctuate next ls) (lexed ls) (λ next. punctuated_has next ls) h
punctuated_has fresh (comma ∷ ls) h = cc
punctuated_has after_value (comma ∷ ls) h = punctuated_has after_comma ls h
punctuated_has after_comma (comma ∷ ls) h = cc
punctuated_has after_key (comma ∷ ls) h = cc
punctuated_has fresh (colon ∷ ls) h = cc
punctuated_has after_value (colon ∷ ls) h = cc
punctuated_has after_comma (colon ∷ ls) h = cc
punctuated_has after_key (colon ∷ ls) h = punctuated_has fresh ls h

-- ---- how many are open

-- how many brackets are open after some, of which n were open before; None if one closes that isn't open
abbrev pub open_after : List Bool → ℕ → Option ℕ
open_after [] n = Some n
open_after (true ∷ bs) n = open_after bs (suc n)
open_after (false ∷ bs) zero = None
open_after (false ∷ bs) (suc n) = open_after bs n

open_append : (cs bs : List Bool) (n : ℕ) → open_after (cs ++ bs) n ≡ option_and_then (open_after bs) (open_after cs n)
open_append [] bs n = refl
open_append (true ∷ cs) bs n = open_append cs bs (suc n)
open_append (false ∷ cs) bs zero = refl
open_append (false ∷ cs) bs (suc n) = open_append cs bs n

-- one more that was open before is open after
pub one_more_open : (bs : List Bool) (n k : ℕ) → open_after bs n ≡ Some k → open_after bs (suc n) ≡ Some (suc k)
one_more_open [] n k e = cc
one_more_open (true ∷ bs) n k e = one_more_open bs (suc n) k e
one_more_open (false ∷ bs) zero k e = cc
one_more_open (false ∷ bs) (suc n) k e = one_more_open bs n k e

found : (bs : List Bool) (o : Option ℕ) (n : ℕ) → option_and_then (open_after bs) o ≡ Some n → (k : ℕ) × (o ≡ Some k)
found bs None n e = cc
found bs (Some k) n e = (k, refl)

-- the front of brackets that don't close too many doesn't either
pub front_open : (cs bs : List Bool) (n m : ℕ) → open_after (cs ++ bs) n ≡ Some m → (k : ℕ) × (open_after cs n ≡ Some k)
front_open cs bs n m e = found bs (open_after cs n) m (sym (open_append cs bs n) ∙ e)

after_both : (ts us : List Token) (n m : ℕ) → open_after (brackets ts) n ≡ Some m
    → open_after (brackets (ts ++ us)) n ≡ open_after (brackets us) m
after_both ts us n m e =
    ap (λ bs. open_after bs n) (brackets_append ts us) ∙ open_append (brackets ts) (brackets us) n ∙ ap (option_and_then (open_after (brackets us))) e

-- the tokens of an object's members, without the bracket that closes it
abbrev pub open_members : Members → List Token
open_members json.no_members = []
open_members (json.member k j ms) = key k ∷ (json_tokens j ++ open_members ms)

mutual
  -- a value closes what it opens
  pub value_closes : (j : Json) (n : ℕ) → open_after (brackets (json_tokens j)) n ≡ Some n
  value_closes json.null n = refl
  value_closes (json.boolean b) n = refl
  value_closes (json.number s) n = refl
  value_closes (json.string s) n = refl
  value_closes (json.array js) n = items_close js n
  value_closes (json.object ms) n = members_close ms n

  items_close : (js : Items) (n : ℕ) → open_after (brackets (items_tokens js)) (suc n) ≡ Some n
  items_close json.no_items n = refl
  items_close (json.item j js) n = after_both (json_tokens j) (items_tokens js) (suc n) (suc n) (value_closes j (suc n)) ∙ items_close js n

  members_close : (ms : Members) (n : ℕ) → open_after (brackets (members_tokens ms)) (suc n) ≡ Some n
  members_close json.no_members n = refl
  members_close (json.member k j ms) n = after_both (json_tokens j) (members_tokens ms) (suc n) (suc n) (value_closes j (suc n)) ∙ members_close ms n

pub members_open : (ms : Members) (n : ℕ) → open_after (brackets (open_members ms)) n ≡ Some n
members_open json.no_members n = refl
members_open (json.member k j ms) n = after_both (json_tokens j) (open_members ms) n n (value_closes j n) ∙ members_open ms n
