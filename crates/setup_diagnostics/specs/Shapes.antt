-- The explanation of a fault of shape.
use Rattle.std.specs.Prelude.{◌≡◌, ℕ, ◌+◌, true, false, List, [], ◌++◌, Option, Some, None, codes, decimal, is_some, option_and_then, slice_get, if◌then◌else◌}
use Rattle.serde_json.specs.Data.{Data, null, boolean, number, string, array, object, Items, no_items, item, Members}
use Rattle.serde_json.specs.Find.{as_array, as_object, as_str, get}
use Rattle.serde_json.specs.Written.{compact_text, has_float}
use Rattle.setup_model.specs.declared.member.Kind.{Kind}
use Rattle.setup_model.specs.declared.member.Kind.TheVariants as kind
use Rattle.setup_model.specs.declared.place.Place.{Place}
use Rattle.setup_model.specs.Member.{Row}
use Rattle.setup_model.specs.Fault as fault
use Rattle.setup_model.specs.Fault.{ShapeFault}
use Rattle.setup_reader.specs.Places.{value_at}
use Rattle.setup_reader.specs.Shapes.{keys_in}
use Rattle.setup_diagnostics.specs.Places.{role_text, place_text}
use Rattle.setup_diagnostics.specs.Excerpts.{quotation}

-- a text that begins with this one
pub record BeginsWith (head text : List ℕ) : Type 0 where
  pub rest : List ℕ
  pub is : text ≡ head ++ rest

-- the name of the member at this index, in the order of an object's names
abbrev pub nth_member_name : ℕ → Members → Option (List ℕ)
nth_member_name index ms = slice_get (keys_in ms) index

-- the name of the member at this index of the object at a place
abbrev pub member_name_at : Data → Place → ℕ → Option (List ℕ)
member_name_at tree place index = option_and_then (nth_member_name index) (option_and_then as_object (value_at tree place))

-- a member of this name isn't known
abbrev pub unknown_name_text : Option (List ℕ) → List ℕ
unknown_name_text name = role_text (codes "a member ") name ++ codes " isn't known here"

abbrev pub unknown_text : Data → Place → ℕ → List ℕ
unknown_text tree place index = unknown_name_text (member_name_at tree place index)

abbrev pub missing_text : List ℕ → List ℕ
missing_text name = codes "the member " ++ (quotation name ++ codes " is missing")

-- ---- values of another kind

-- one of these texts is appended
pub record Appends (P : List ℕ → Type 0) (old new : List ℕ) : Type 0 where
  pub part : List ℕ
  pub is : P part
  pub grown : new ≡ old ++ part

-- the kind that a value must have, as the end of a sentence
abbrev pub kind_text : Kind → List ℕ
kind_text (kind.Part p) = codes "a part of the document"
kind_text kind.Text = codes "a text"
kind_text kind.Texts = codes "an array of texts"
kind_text kind.Switch = codes "true or false"
kind_text (kind.Number low high) = codes "a whole number"
kind_text kind.Delay = codes "\"n\", \"d\", \"s\" or a whole number"
kind_text kind.Factor = codes "\"s\" or a whole number"
kind_text kind.ServiceLetters = codes "letters of o, w, u, c, p and n with a comma between two"
kind_text kind.HostLetters = codes "letters of o, u, d, p and n with a comma between two"

-- a value as it is shown; the digits of a number that isn't whole are left open
abbrev pub IsValueText : Data → List ℕ → Type 0
IsValueText null text = text ≡ codes "null"
IsValueText (boolean true) text = text ≡ codes "true"
IsValueText (boolean false) text = text ≡ codes "false"
IsValueText (number n) text = has_float (number n) ≡ false → text ≡ compact_text (number n)
IsValueText (string s) text = text ≡ quotation s
IsValueText (array ds) text = text ≡ codes "an array"
IsValueText (object ms) text = text ≡ codes "an object"

abbrev pub IsShown : Option Data → List ℕ → Type 0
IsShown None text = text ≡ []
IsShown (Some d) text = IsValueText d text

-- these words, the value, and the words for the kind that it must have
abbrev pub IsKindFault : List ℕ → Option Data → List ℕ → List ℕ → Type 0
IsKindFault words d kind text = (shown : List ℕ) × IsShown d shown × (text ≡ words ++ (shown ++ (codes "; it has to be " ++ kind)))

-- the first item of an array that isn't a text, and its index, counted from this one on
abbrev pub first_wrong_text : ℕ → Items → Option (ℕ × Data)
first_wrong_text index no_items = None
first_wrong_text index (item d ds) = if is_some (as_str d) then first_wrong_text (index + 1) ds else Some (index, d)

-- the index of an item, the item, and that it must be a text
abbrev pub IsItemFault : Option (ℕ × Data) → List ℕ → Type 0
IsItemFault None text = text ≡ []
IsItemFault (Some found) text = IsKindFault (codes " " ++ (decimal found.0 ++ codes " is ")) (Some found.1) (codes "a text") text

-- of an array in place of an array of texts, the first item that isn't a text; of another value the value
abbrev pub IsMemberFault : Kind → Option Items → Data → List ℕ → Type 0
IsMemberFault kind.Texts (Some ds) d text = IsItemFault (first_wrong_text 0 ds) text
IsMemberFault k ds d text = IsKindFault (codes " is ") (Some d) (kind_text k) text

-- the fault of a member's value, if there is one
abbrev pub IsValueFault : Kind → Option Data → List ℕ → Type 0
IsValueFault k None text = text ≡ []
IsValueFault k (Some d) text = IsMemberFault k (as_array d) d text

abbrev pub IsWrongMember : Row → Option Data → List ℕ → Type 0
IsWrongMember m d text = Appends (IsValueFault m.kind (option_and_then (get m.name) d)) (quotation m.name) text

-- the place, and the fault of the value there or of one of its members
abbrev pub IsShapeFault : Data → Place → ShapeFault → List ℕ → Type 0
IsShapeFault tree p (fault.unknown i) text = text ≡ unknown_text tree p i
IsShapeFault tree p (fault.missing m) text = text ≡ missing_text m.name
IsShapeFault tree p (fault.wrong_kind m) text = IsWrongMember m (value_at tree p) text
IsShapeFault tree p fault.no_array text = IsKindFault (codes "this is ") (value_at tree p) (codes "an array") text
IsShapeFault tree p fault.no_object text = IsKindFault (codes "this is ") (value_at tree p) (codes "an object") text

abbrev pub IsShapeText : Data → Place → ShapeFault → List ℕ → Type 0
IsShapeText tree p f text = Appends (IsShapeFault tree p f) (place_text tree p) text
