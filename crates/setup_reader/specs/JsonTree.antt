-- The tree that `serde_json` reads, and how its values are read.
use Rattle.std.specs.Prelude.{ℕ, ◌&&◌, Bool, true, false, List, [], ◌∷◌, Option, Some, None, option_and_then, unwrap_or, bytes_eq, if◌then◌else◌}
use Rattle.std.specs.List.{list_any}
use Rattle.std.specs.Str.{is_utf8}
use Rattle.serde_json.specs.Data.{Data, object, Items, no_items, item, Members, no_members, member}
use Rattle.serde_json.specs.Find.{get, as_bool, as_number, as_str, as_u64, as_array}
use Rattle.serde_json.specs.Read.{read}
use Rattle.setup_model.specs.Member.{Row, default_number, default_switch}

-- the tree of the bytes, if `serde_json` gives a reading
unfoldable pub tree_of : List ℕ → Option Data
tree_of bytes = if is_utf8 bytes then read bytes else None

-- whether the name is one of these
abbrev pub is_among : List (List ℕ) → List ℕ → Bool
is_among names key = list_any (λ name. bytes_eq name key) names

-- whether each member has one of the names
abbrev pub only_members : List (List ℕ) → Members → Bool
only_members names no_members = true
only_members names (member k d ms) = is_among names k && only_members names ms

-- whether a value is an object whose members all have one of the names
abbrev pub has_only_members : List (List ℕ) → Data → Bool
has_only_members names (object ms) = only_members names ms
has_only_members names d = false

-- a whole number from 0 to 2^64 - 1
abbrev pub whole_number : Data → Option ℕ
whole_number d = option_and_then as_u64 (as_number d)

infixl 10 ◌>=>◌
-- the next value, if there is a value
abbrev pub ◌>=>◌ : {A B : Type 0} → Option A → (A → Option B) → Option B
None >=> f = None
(Some x) >=> f = f x

-- the texts of an array, if all its items are texts
abbrev pub texts_of : Items → Option (List (List ℕ))
texts_of no_items = Some []
texts_of (item d ds) = as_str d >=> λ t. (texts_of ds >=> λ ts. Some (t ∷ ts))

-- the texts of a value, if it is an array of texts
abbrev pub texts_in : Data → Option (List (List ℕ))
texts_in d = as_array d >=> texts_of

-- a member of an object, which can be absent itself
abbrev pub member_value : List ℕ → Option Data → Option Data
member_value name value = option_and_then (get name) value

-- a value read by parse; the default if it is absent
abbrev pub parsed_or : {A : Type 0} → (Data → Option A) → Option A → Option Data → Option A
parsed_or parse default None = default
parsed_or parse default (Some d) = parse d

-- Each of the next four is the value of a member of an object in the right shape, or the member's default. A value of another kind would count as 0, false or
-- nothing.

-- a whole number; the object can be absent itself
abbrev pub number_at : Row → Option Data → ℕ
number_at m value = unwrap_or (parsed_or whole_number (default_number m) (member_value m.name value)) 0

-- a truth value; the object can be absent itself
abbrev pub switch_at : Row → Option Data → Bool
switch_at m value = unwrap_or (parsed_or as_bool (default_switch m) (member_value m.name value)) false

-- a text
abbrev pub text_at : List ℕ → Data → List ℕ
text_at name d = unwrap_or (option_and_then as_str (get name d)) []

-- an array of texts
abbrev pub texts_at : List ℕ → Data → List (List ℕ)
texts_at name d = unwrap_or (option_and_then texts_in (get name d)) []
