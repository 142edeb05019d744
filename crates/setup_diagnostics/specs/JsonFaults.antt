-- Why a document isn't JSON: the mistake where reading stops, and what to do about it.
use Rattle.std.specs.Prelude.{ℕ, ◌-◌, ◌+◌, zero, suc, ◌==◌, ◌&&◌, ◌||◌, Bool, true, false, not, List, [], ◌∷◌, ◌++◌, Option, Some, None, codes, decimal, drop}
use Rattle.std.specs.Prelude.{get_or, is_some, length, nat_eq, take, if◌then◌else◌}
use Rattle.std.specs.Char.{is_ascii_whitespace}
use Rattle.std.specs.List.{list_all, position, starts_with, suffix_len}
use Rattle.std.specs.Str.{is_utf8}
use Rattle.json.specs.Lex.{tokens}
use Rattle.json.specs.Token.{Token, bad}
use Rattle.setup_model.specs.declared.fault.JsonPosition.{JsonPosition}
use Rattle.setup_reader.specs.JsonTree.{tree_of}
use Rattle.setup_diagnostics.specs.Excerpts.{quotation}
use Rattle.setup_diagnostics.specs.declared.json_faults.Mistake.{Mistake}
use Rattle.setup_diagnostics.specs.declared.json_faults.Mistake.TheVariants as mistake

-- ---- bytes

-- whether a byte is a blank of JSON: a space, a tab, a line feed or a carriage return
abbrev pub is_blank : ℕ → Bool
is_blank b = b == 32 || (b == 9 || (b == 10 || b == 13))

-- whether a byte closes an array or an object
abbrev pub is_close : ℕ → Bool
is_close b = b == 93 || b == 125

-- whether a byte opens an array or an object
abbrev pub is_open : ℕ → Bool
is_open b = b == 91 || b == 123

-- whether a byte can be part of a number or of a word: it is no blank, bracket, brace, comma, colon or double quote
abbrev pub is_word_part : ℕ → Bool
is_word_part b = not (is_blank b || (is_close b || (is_open b || (b == 44 || (b == 58 || b == 34)))))

-- whether a value or a name can end with a byte
abbrev pub ends_value : ℕ → Bool
ends_value b = is_word_part b || (is_close b || b == 34)

-- whether a value or a name can begin with a byte
abbrev pub begins_value : ℕ → Bool
begins_value b = is_word_part b || (is_open b || b == 34)

-- the first byte, or a space if there is none
abbrev pub first_byte : List ℕ → ℕ
first_byte bytes = get_or bytes 0 32

-- the last byte, or a space if there is none
abbrev pub last_byte : List ℕ → ℕ
last_byte bytes = get_or bytes (length bytes - 1) 32

-- the bytes without the white space at their end
abbrev pub trimmed : List ℕ → List ℕ
trimmed bytes = take (length bytes - suffix_len is_ascii_whitespace bytes) bytes

-- ---- the position

-- the bytes after the one at an index; none if there is no index
abbrev pub after_index : Option ℕ → List ℕ → List ℕ
after_index None bytes = []
after_index (Some n) bytes = drop (n + 1) bytes

-- the bytes after this number of line feeds
abbrev pub after_feeds : ℕ → List ℕ → List ℕ
after_feeds zero bytes = bytes
after_feeds (suc n) bytes = after_feeds n (after_index (position (λ b. b == 10) bytes) bytes)

-- the bytes from a position on, whose line and column are counted from 1
abbrev pub rest_at : List ℕ → JsonPosition → List ℕ
rest_at bytes u = drop (u.column - 1) (after_feeds (u.line - 1) bytes)

-- the bytes before these last ones
abbrev pub before_rest : List ℕ → List ℕ → List ℕ
before_rest bytes rest = take (length bytes - length rest) bytes

-- ---- what is at the position

-- the bytes before the one at an index; all of them if there is no index
abbrev pub before_index : Option ℕ → List ℕ → List ℕ
before_index None bytes = bytes
before_index (Some n) bytes = take n bytes

-- the number or the word at the front of these bytes, or the first byte if there is none
abbrev pub start_of : List ℕ → List ℕ
start_of rest = if is_word_part (first_byte rest) then before_index (position (λ b. not (is_word_part b)) rest) rest else take 1 rest

-- the text that these bytes are, if they are UTF-8
abbrev pub text_in : List ℕ → Option (List ℕ)
text_in bytes = if is_utf8 bytes then Some bytes else None

-- a text as a JSON string; bytes that aren't UTF-8 are shown by the number of the first
abbrev pub shown : Option (List ℕ) → ℕ → List ℕ
shown None first = codes "the byte " ++ decimal first
shown (Some text) first = quotation text

-- whether the first of these tokens is none
abbrev pub begins_bad : List Token → Bool
begins_bad [] = false
begins_bad (bad ∷ ts) = true
begins_bad (t ∷ ts) = false

-- whether there is a text, and no token can be read at its front
abbrev pub is_unreadable : Option (List ℕ) → Bool
is_unreadable None = false
is_unreadable (Some text) = begins_bad (tokens text)

-- ---- the mistake there

-- what is unreadable and begins with this byte
abbrev pub unreadable : ℕ → Mistake
unreadable b = if b == 34 then mistake.Text else (if b == 35 || b == 47 then mistake.Comment
    else (if is_word_part b then mistake.Word else mistake.Other))

-- the mistake before a value or a name that can be read, by the last byte before it and its first
abbrev pub missing_between : ℕ → ℕ → Mistake
missing_between last first = if ends_value last && begins_value first then mistake.Separator else mistake.Other

-- the mistake between the bytes before the position and the rest, by their readings: whether the former are a whole document, and whether no token
-- can be read at the front of the latter
abbrev pub mistake_by : Bool → Bool → ℕ → ℕ → Mistake
mistake_by true is_bad last first = mistake.Surplus
mistake_by false true last first = unreadable first
mistake_by false false last first = missing_between last first

-- whether the position is inside a word or a number
abbrev pub is_inside_word : List ℕ → List ℕ → Bool
is_inside_word before rest = is_word_part (last_byte before) && is_word_part (first_byte rest)

-- the mistake between the bytes before the position and the rest
abbrev pub mistake_read : List ℕ → List ℕ → Mistake
mistake_read before rest = if is_inside_word before rest then mistake.Other
    else mistake_by (is_some (tree_of before)) (is_unreadable (text_in rest)) (last_byte (trimmed before)) (first_byte rest)

-- the same, after what the bytes alone show
abbrev pub mistake_at : List ℕ → List ℕ → Mistake
mistake_at before rest = if first_byte rest == 0 then mistake.ForeignByte
    else (if starts_with nat_eq rest (239 ∷ 187 ∷ 191 ∷ []) then mistake.Mark
    else (if last_byte (trimmed before) == 44 && is_close (first_byte rest) then mistake.TrailingComma else mistake_read before rest))

-- the mistake in bytes that are UTF-8, by the position at which reading stops
abbrev pub mistake_in_text : List ℕ → JsonPosition → Mistake
mistake_in_text bytes u = if list_all is_blank bytes then mistake.Empty
    else (if u.is_at_end then mistake.End else mistake_at (before_rest bytes (rest_at bytes u)) (rest_at bytes u))

-- the same of any bytes
abbrev pub mistake_in : List ℕ → JsonPosition → Mistake
mistake_in bytes u = if is_utf8 bytes then mistake_in_text bytes u else mistake.ForeignByte

-- ---- the words

-- these words around the front of the rest
abbrev pub around : List ℕ → List ℕ → List ℕ → List ℕ
around front rest back = front ++ (shown (text_in (start_of rest)) (first_byte rest) ++ back)

abbrev pub foreign_byte_text : List ℕ → List ℕ
foreign_byte_text rest = codes ": the byte " ++ (decimal (first_byte rest) ++ codes " isn't allowed here; save the document as UTF-8")

abbrev pub mistake_text : Mistake → List ℕ → List ℕ
mistake_text mistake.Empty rest = codes ": the document is empty; it has to be an object"
mistake_text mistake.End rest = codes ": the document ends before its JSON does; complete it"
mistake_text mistake.ForeignByte rest = foreign_byte_text rest
mistake_text mistake.Mark rest = codes ": this is a byte order mark; save the document as UTF-8 without one"
mistake_text mistake.TrailingComma rest = around (codes ": there is a comma before ") rest (codes "; remove it")
mistake_text mistake.Surplus rest = around (codes ": the JSON ends before ") rest (codes "; remove what follows")
mistake_text mistake.Text rest = codes ": the text that begins here can't be read; close it on its line, and escape control characters and \"\\\" in it"
mistake_text mistake.Comment rest = around (codes ": ") rest (codes " is neither a number nor true, false or null; JSON has no comments, so remove it")
mistake_text mistake.Word rest = around (codes ": ") rest (codes " is neither a number nor true, false or null; put names and texts between double quotes")
mistake_text mistake.Separator rest = around (codes ": a comma or a colon is missing before ") rest []
mistake_text mistake.Other rest = around (codes ": reading stopped at ") rest (codes "; correct this or what is before it")

-- why these bytes aren't JSON, by the position at which reading stops
abbrev pub reason_text : List ℕ → JsonPosition → List ℕ
reason_text bytes u = mistake_text (mistake_in bytes u) (rest_at bytes u)
