-- Answers as JSON. A line has one object: the number of the line that it answers, the kind of the answer, and the answer's fields by name.
use Rattle.std.specs.Prelude.{ℕ, ◌≡◌, ◌==◌, Bool, List, [], ◌∷◌, ◌++◌, Option, Some, None, Result, OnOk, codes, decimal, flat_map}
use Rattle.std.specs.List.{after_first, before_first, range_with_len}
use Rattle.json.specs.Print.{print}
use Rattle.json.specs.Written.{Written}
use Rattle.json.specs.Token.{Token, begin_object, end_object, begin_array, end_array, key, string, number, boolean, null}
use Rattle.setup_model.specs.declared.place.Place.{Place}
use Rattle.setup_model.specs.LoadError.{error_reason, place_of}
use Rattle.setup_model.specs.Members.{part_name}
use Rattle.check_objects.specs.Configuration.{object_count}
use Rattle.check_saved_state.specs.Text.{saved_text}
use Rattle.check_sched.specs.Saved.{saved_of}
use Rattle.check_sched.specs.State.{State}
use Rattle.nagsched_protocol.specs.declared.refusal.InputRefusal.{InputRefusal}
use Rattle.nagsched_protocol.specs.declared.refusal.InputRefusal.TheVariants as refusal
use Rattle.nagsched_protocol.specs.Explanation.{sentence}
use Rattle.nagsched_protocol.specs.Request.{Id, number_id, text_id, id_of_line}
use Rattle.nagsched_protocol.specs.Text.{Answer, Field, number_field, time_field, text_field, flag_field, refusal_field, line_of, line_fault_text}
use Rattle.nagsched_protocol.specs.Text.{listed_object, saved_fault_index, saved_fault_reason}

-- ---- members

abbrev pub is_space : ℕ → Bool
is_space b = b == 32

-- a time, or null
abbrev pub time_token : Option ℕ → Token
time_token (Some time) = number (decimal time)
time_token None = null

-- a field as a member of an object; a refusal is two members
abbrev pub field_tokens : Field → List Token
field_tokens (number_field name n) = key name ∷ number (decimal n) ∷ []
field_tokens (time_field name time) = key name ∷ time_token time ∷ []
field_tokens (text_field name text) = key name ∷ string text ∷ []
field_tokens (flag_field name flag word) = key name ∷ boolean flag ∷ []
field_tokens (refusal_field reason) =
    key (codes "code") ∷ string (before_first is_space reason) ∷ key (codes "reason") ∷ string (after_first is_space reason) ∷ []

abbrev pub members_of : List Field → List Token
members_of [] = []
members_of (f ∷ fs) = field_tokens f ++ members_of fs

-- the kind of an answer, and its fields
abbrev pub answer_members : Answer → List Token
answer_members a = key (codes "answer") ∷ string a.kind ∷ members_of a.fields

-- ---- lines

-- the id of a request, if it has one
abbrev pub id_tokens : Option Id → List Token
id_tokens None = []
id_tokens (Some (number_id n)) = key (codes "id") ∷ number (decimal n) ∷ []
id_tokens (Some (text_id text)) = key (codes "id") ∷ string text ∷ []

-- the beginning of the object that answers the line with the number n, whose request has this id
abbrev pub first_tokens : ℕ → Option Id → List Token
first_tokens n id = (begin_object ∷ key (codes "line") ∷ number (decimal n) ∷ []) ++ id_tokens id

-- the object that answers the line with the number n, by these members
abbrev pub object_text : ℕ → Option Id → List Token → List ℕ
object_text n id members = print ((first_tokens n id ++ members) ++ end_object ∷ [])

abbrev pub object_line : ℕ → Option Id → List Token → List ℕ
object_line n id members = line_of (object_text n id members)

abbrev pub json_answer_line : ℕ → Option Id → Answer → List ℕ
json_answer_line n id a = object_line n id (answer_members a)

-- the answer to `save`: the saved state is the value of a member
abbrev pub saved_members : List Token
saved_members = key (codes "answer") ∷ string (codes "saved") ∷ key (codes "saved") ∷ []

abbrev pub json_saved_text : ℕ → Option Id → State → List ℕ
json_saved_text n id s = print (first_tokens n id ++ saved_members) ++ (saved_text (saved_of s) ++ codes "}")

unfoldable pub json_saved_line : ℕ → Option Id → State → List ℕ
json_saved_line n id s = line_of (json_saved_text n id s)

-- an answer as one of the objects
abbrev pub listed_tokens : Answer → List Token
listed_tokens a = (begin_object ∷ members_of a.fields) ++ end_object ∷ []

-- the object with this number, in this state
abbrev pub object_tokens : State → ℕ → List Token
object_tokens s i = listed_tokens (listed_object s i)

-- the answer to `list`: each object by number
abbrev pub list_begins : List Token
list_begins = key (codes "answer") ∷ string (codes "listed") ∷ key (codes "objects") ∷ begin_array ∷ []

abbrev pub list_members : State → List Token
list_members s = list_begins ++ (flat_map (object_tokens s) (range_with_len 0 (object_count s.setup)) ++ end_array ∷ [])

unfoldable pub json_list_line : ℕ → Option Id → State → List ℕ
json_list_line n id s = object_line n id (list_members s)

-- ---- refusals

abbrev pub index_fields : Option ℕ → List Field
index_fields None = []
index_fields (Some i) = number_field (codes "index") i ∷ []

-- a place in a setup document: the part, and the index if there is one
abbrev pub place_fields : Option Place → List Field
place_fields None = []
place_fields (Some p) = text_field (codes "part") (part_name p.part) ∷ index_fields p.index

-- why an input is refused, and at which place
abbrev pub refusal_fields : InputRefusal → List Field
refusal_fields (refusal.Setup e) = refusal_field (error_reason e) ∷ place_fields (place_of e)
refusal_fields (refusal.Saved e) = refusal_field (saved_fault_reason e) ∷ index_fields (saved_fault_index e)
refusal_fields (refusal.Line f n) = refusal_field (line_fault_text f) ∷ []

-- the line that is refused: a setup is line 1, and a saved state line 2
abbrev pub refused_line : InputRefusal → ℕ
refused_line (refusal.Setup e) = 1
refused_line (refusal.Saved e) = 2
refused_line (refusal.Line f n) = n

-- a refusal, with the sentence that explains it, by the bytes of the refused line
abbrev pub refusal_answer : List ℕ → InputRefusal → Answer
refusal_answer line why =
    record { kind = codes "refused"; fields = refusal_fields why ++ text_field (codes "explanation") (sentence line why) ∷ [] }

abbrev pub json_refusal_line : List ℕ → InputRefusal → List ℕ
json_refusal_line line why = json_answer_line (refused_line why) (id_of_line line) (refusal_answer line why)

-- ---- writing

-- these tokens were appended
abbrev pub Puts : {E : Type 0} → Result (Unit {0}) E → Written → Written → List Token → Type 0
Puts result old new tokens = (new.before ≡ old.before) × OnOk result (new.tokens ≡ old.tokens ++ tokens)
