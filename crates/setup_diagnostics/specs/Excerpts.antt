-- A text of the document as a line shows it: a JSON string, cut after 80 characters.
use Rattle.std.specs.Prelude.{ℕ, ◌/◌, ◌%◌, ◌==◌, ◌&&◌, ◌||◌, Bool, List, [], ◌∷◌, ◌++◌, codes, flat_map, length, nat_le, nat_lt, take, if◌then◌else◌}
use Rattle.std.specs.Char.{digit_char, encode_utf8}
use Rattle.std.specs.Str.{chars}

-- whether a character is a control character: below 32, or 127 to 159
abbrev pub is_control : ℕ → Bool
is_control c = nat_le c 31 || (nat_le 127 c && nat_le c 159)

-- the escape of a control character: its number
abbrev pub control_escape : ℕ → List ℕ
control_escape c = codes "\\u00" ++ (digit_char (c / 16) ∷ digit_char (c % 16) ∷ [])

-- a character as it is written in a JSON string; control characters are written as their numbers
abbrev pub escape : ℕ → List ℕ
escape c = if c == 34 then codes "\\\"" else (if c == 92 then codes "\\\\" else (if c == 10 then codes "\\n" else (if c == 13 then codes "\\r"
    else (if c == 9 then codes "\\t" else (if is_control c then control_escape c else encode_utf8 c)))))

-- at most this many of the characters; dots replace the rest
abbrev pub excerpt_to : ℕ → List ℕ → List ℕ
excerpt_to most characters = flat_map escape (take most characters) ++ (if nat_lt most (length characters) then codes "..." else [])

-- at most 80 characters of a text
abbrev pub excerpt : List ℕ → List ℕ
excerpt text = excerpt_to 80 (chars text)

-- a text as a JSON string of at most 80 characters
abbrev pub quotation : List ℕ → List ℕ
quotation text = codes "\"" ++ (excerpt text ++ codes "\"")
