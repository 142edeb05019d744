-- The sentence that explains why an input is refused. Of a refused line it says which value is wrong, what the value is, and what it has to be.
use Rattle.std.specs.Prelude.{ℕ, zero, suc, ◌==◌, Bool, true, false, List, [], ◌∷◌, ◌++◌, Option, Some, None, codes, decimal, unwrap_or, if◌then◌else◌}
use Rattle.std.specs.Str.{is_utf8}
use Rattle.json.specs.Json.{max_depth, skip_value}
use Rattle.json.specs.Lex.{tokens}
use Rattle.json.specs.Token.{Token, begin_object, end_object, begin_array, end_array, key, string, number, boolean, null, bad}
use Rattle.setup_diagnostics.specs.Excerpts.{excerpt, quotation}
use Rattle.setup_diagnostics.specs.Places.{role_text}
use Rattle.setup_model.specs.declared.error.LoadError.{LoadError}
use Rattle.setup_model.specs.declared.error.LoadError.TheVariants as load
use Rattle.nagsched_protocol.specs.declared.refusal.InputRefusal.{InputRefusal}
use Rattle.nagsched_protocol.specs.declared.refusal.InputRefusal.TheVariants as refusal
use Rattle.nagsched_protocol.specs.declared.refusal.LineFault.{LineFault}
use Rattle.nagsched_protocol.specs.declared.refusal.LineFault.TheVariants as fault
use Rattle.nagsched_protocol.specs.declared.refusal.LineShape.{LineShape}
use Rattle.nagsched_protocol.specs.declared.refusal.LineShape.TheVariants as shape
use Rattle.nagsched_protocol.specs.declared.refusal.ValueKind.{ValueKind}
use Rattle.nagsched_protocol.specs.declared.refusal.ValueKind.TheVariants as kind
use Rattle.nagsched_protocol.specs.declared.refusal.Vocabulary.{Vocabulary}
use Rattle.nagsched_protocol.specs.declared.refusal.Vocabulary.TheVariants as vocabulary

-- ---- what has to be there

abbrev pub kind_words : ValueKind → List ℕ
kind_words kind.Name = codes "a text, the full name of a host or a service"
kind_words kind.Time = codes "a whole number of milliseconds from 0 to 2^60"
kind_words kind.Run = codes "a whole number, the number of a run"
kind_words kind.Code = codes "a whole number from 0 to 3"
kind_words kind.Switch = codes "true or false"

abbrev pub vocabulary_words : Vocabulary → List ℕ
vocabulary_words vocabulary.Run = codes "\"take\", \"report\", \"abandon\", \"reschedule\", \"enable\", \"status\", \"save\" or \"list\""
vocabulary_words vocabulary.Drill = codes "\"plugin\" or \"moment\""

-- the most bytes that the line with this number can have; line 0 is the whole input
abbrev pub most_bytes : ℕ → ℕ
most_bytes n = if n == 0 then 67108864 else 4096

-- ---- what is there

-- the tokens of a line; a line that isn't UTF-8 has none
abbrev pub line_tokens : List ℕ → List Token
line_tokens line = if is_utf8 line then tokens line else []

-- the tokens from the first item of an array on
abbrev pub items_of : List Token → List Token
items_of (begin_array ∷ ts) = ts
items_of ts = []

-- the tokens from the item with this number on, counted from 0, of those that begin with an array's first item
abbrev pub item_at : ℕ → List Token → List Token
item_at zero ts = ts
item_at (suc n) ts = item_at n (unwrap_or (skip_value max_depth ts) [])

-- a token as it stands in a line
abbrev pub token_text : Token → List ℕ
token_text begin_object = codes "{"
token_text end_object = codes "}"
token_text begin_array = codes "["
token_text end_array = codes "]"
token_text (key s) = quotation s
token_text (string s) = quotation s
token_text (number s) = excerpt s
token_text (boolean true) = codes "true"
token_text (boolean false) = codes "false"
token_text null = codes "null"
token_text bad = []

-- the value that begins with this token, as it is shown
abbrev pub value_text : Token → List ℕ
value_text begin_object = codes "an object"
value_text begin_array = codes "an array"
value_text t = token_text t

-- the value that these tokens begin with, as it is shown
abbrev pub shown_value : List Token → List ℕ
shown_value [] = []
shown_value (t ∷ ts) = value_text t

-- the text that these tokens begin with
abbrev pub first_text : List Token → Option (List ℕ)
first_text (string s ∷ ts) = Some s
first_text ts = None

-- the word of a line with these tokens
abbrev pub word_of : List Token → Option (List ℕ)
word_of ts = first_text (items_of ts)

-- ---- a fault in the shape

-- these words, the value that these tokens begin with, and what it has to be
abbrev pub kind_fault : List ℕ → List Token → List ℕ → List ℕ
kind_fault words ts wanted = words ++ (shown_value ts ++ (codes "; it has to be " ++ wanted))

-- the number of values after the word, and how many there have to be
abbrev pub count_fault : List Token → ℕ → List ℕ → ℕ → List ℕ
count_fault ts found words wanted = codes ": the number of values" ++ (role_text (codes " of ") (word_of ts) ++ (codes " is " ++ (decimal found ++ (words ++ decimal wanted))))

-- the value with this number after the word, and what it has to be
abbrev pub value_fault : List Token → ℕ → List ℕ → List ℕ
value_fault ts n wanted = codes ": value " ++ (decimal n ++ (role_text (codes " of ") (word_of ts) ++ kind_fault (codes " is ") (item_at n (items_of ts)) wanted))

abbrev pub shape_fault : List Token → LineShape → List ℕ
shape_fault ts shape.NotAnArray = kind_fault (codes ": it is ") ts (codes "an array that begins with the name of a command")
shape_fault ts shape.Empty = codes ": the array is empty; it has to begin with the name of a command"
shape_fault ts shape.NoWord = kind_fault (codes ": the name of the command is ") (items_of ts) (codes "a text")
shape_fault ts (shape.UnknownWord v) = kind_fault (codes ": the name of the command is ") (items_of ts) (vocabulary_words v)
shape_fault ts (shape.Count found wanted) = count_fault ts found (codes "; it has to be ") wanted
shape_fault ts (shape.TooFew found least) = count_fault ts found (codes "; it has to be at least ") least
shape_fault ts (shape.WrongKind n k) = value_fault ts n (kind_words k)

-- ---- what isn't JSON

abbrev pub is_bad : Token → Bool
is_bad bad = true
is_bad t = false

-- whether reading stopped at what is no token
abbrev pub stops : List Token → Bool
stops [] = false
stops (t ∷ ts) = if is_bad t then true else stops ts

-- the last token before the first that is none, or before that this one
abbrev pub last_good : Option Token → List Token → Option Token
last_good before [] = before
last_good before (t ∷ ts) = if is_bad t then before else last_good (Some t) ts

-- after this token
abbrev pub place_text : Option Token → List ℕ
place_text None = codes "at its beginning"
place_text (Some t) = codes "after " ++ token_text t

abbrev pub is_end : Option (List Token) → Bool
is_end None = false
is_end (Some []) = true
is_end (Some (t ∷ ts)) = false

-- whether these tokens are one value of at most 127 levels, which is as deep as `serde_json` reads
abbrev pub are_value : List Token → Bool
are_value ts = is_end (skip_value 127 ts)

-- where reading stops in a line with these tokens, and why
abbrev pub stop_text : List Token → List ℕ
stop_text ts = if stops ts then codes "reading stopped " ++ place_text (last_good None ts)
    else (if are_value ts then codes "a number in it is out of range"
    else codes "it ends " ++ (place_text (last_good None ts) ++ codes ", but isn't one whole value of at most 127 levels"))

abbrev pub not_json_text : List ℕ → List ℕ
not_json_text line = if is_utf8 line then codes ": it isn't JSON; " ++ stop_text (tokens line) else codes ": it isn't UTF-8"

-- ---- the sentence

abbrev pub too_long_text : ℕ → List ℕ
too_long_text n = codes " has more than " ++ (decimal (most_bytes n) ++ codes " bytes")

-- the fault of this line, whose number is n
abbrev pub fault_text : List ℕ → ℕ → LineFault → List ℕ
fault_text line n fault.TooLong = too_long_text n
fault_text line n fault.NotJson = not_json_text line
fault_text line n (fault.Shape why) = shape_fault (line_tokens line) why
fault_text line n (fault.Code value) = value_fault (line_tokens line) value (kind_words kind.Code)
fault_text line n fault.UnknownName = value_fault (line_tokens line) 1 (codes "the full name of a host or a service of the setup")

-- the line with this number; line 0 is the whole input
abbrev pub line_place : ℕ → List ℕ
line_place n = if n == 0 then codes "the input" else codes "line " ++ decimal n

-- a setup that was refused for this error; one that is on several lines isn't JSON on the first
abbrev pub setup_sentence : LoadError → List ℕ
setup_sentence load.NotJson =
    codes "line 1: the setup isn't JSON; give it to \"nagsched check\" to see why, or to \"nagsched check --line\" to have it on one line"
setup_sentence other = codes "line 1: the setup is refused; give this line to \"nagsched check\" to see why"

abbrev pub saved_sentence : List ℕ
saved_sentence = codes "line 2: the saved state is refused; give lines 1 and 2 to \"nagsched check --resume\" to see why"

-- the sentence that explains a refusal, by the bytes of the refused line
unfoldable pub sentence : List ℕ → InputRefusal → List ℕ
sentence line (refusal.Setup e) = setup_sentence e
sentence line (refusal.Saved e) = saved_sentence
sentence line (refusal.Line f n) = line_place n ++ fault_text line n f
