-- Faults in the shape of a value, by the table of members.
use Rattle.std.specs.Prelude.{ℕ, ◌&&◌, Bool, true, false, not, List, [], ◌∷◌, Option, Some, None, find, is_some, is_none, map, option_map}
use Rattle.std.specs.Prelude.{position, Result}
use Rattle.serde_json.specs.Data.{Data, Members, no_members, member}
use Rattle.serde_json.specs.Find.{as_bool, as_object, as_str, get}
use Rattle.setup_model.specs.declared.member.Kind.{Kind}
use Rattle.setup_model.specs.declared.member.Kind.TheVariants as kind
use Rattle.setup_model.specs.declared.place.Place.{Place}
use Rattle.setup_model.specs.Agreement.{ok_unless}
use Rattle.setup_model.specs.Fault as fault
use Rattle.setup_model.specs.Fault.{Fault, ShapeFault}
use Rattle.setup_model.specs.Member.{Row, is_required}
use Rattle.setup_reader.specs.Criteria.{has_only_letters, host_letters, service_letters}
use Rattle.setup_reader.specs.JsonTree.{is_among, texts_in, whole_number}
use Rattle.setup_reader.specs.Values.{delay_method, interleave_factor}

-- the names of members
abbrev pub names : List Row → List (List ℕ)
names ms = map (λ m. m.name) ms

-- the first of two, if it exists, otherwise the second
abbrev pub first_of : {A : Type 0} → Option A → Option A → Option A
first_of None other = other
first_of (Some x) other = Some x

-- whether a value is of a kind; a number beyond its limits still is
abbrev pub has_kind : Kind → Data → Bool
has_kind (kind.Part p) d = true
has_kind kind.Text d = is_some (as_str d)
has_kind kind.Texts d = is_some (texts_in d)
has_kind kind.Switch d = is_some (as_bool d)
has_kind (kind.Number low high) d = is_some (whole_number d)
has_kind kind.Delay d = is_some (delay_method d)
has_kind kind.Factor d = is_some (interleave_factor d)
has_kind kind.ServiceLetters d = has_only_letters service_letters (as_str d)
has_kind kind.HostLetters d = has_only_letters host_letters (as_str d)

-- the names of an object's members, in their order
abbrev pub keys_in : Members → List (List ℕ)
keys_in no_members = []
keys_in (member k d ms) = k ∷ keys_in ms

-- the index of the first member of an object that has none of these names
abbrev pub first_unknown : List (List ℕ) → Members → Option ℕ
first_unknown known ms = position (λ key. not (is_among known key)) (keys_in ms)

-- whether a member is required and is missing
abbrev pub is_missing : Data → Row → Bool
is_missing d m = is_required m && is_none (get m.name d)

-- whether there is a value that isn't of the kind
abbrev pub has_other_kind : Kind → Option Data → Bool
has_other_kind k None = false
has_other_kind k (Some v) = not (has_kind k v)

-- whether a member is present and isn't of its kind
abbrev pub has_wrong_kind : Data → Row → Bool
has_wrong_kind d m = has_other_kind m.kind (get m.name d)

-- the fault of an object that can have these members: the first unknown member, otherwise the first missing one, otherwise the first misfit
abbrev pub member_fault : List Row → Data → Members → Option ShapeFault
member_fault ms d inside =
    first_of (option_map fault.unknown (first_unknown (names ms) inside))
    (first_of (option_map fault.missing (find (is_missing d) ms)) (option_map fault.wrong_kind (find (has_wrong_kind d) ms)))

abbrev pub members_fault : List Row → Data → Option Members → Option ShapeFault
members_fault ms d None = Some fault.no_object
members_fault ms d (Some inside) = member_fault ms d inside

-- the fault of a value that must be an object with these members, if it has one
abbrev pub object_fault : List Row → Data → Option ShapeFault
object_fault ms d = members_fault ms d (as_object d)

-- the value at a place has the shape that these members give it; otherwise its fault
abbrev pub shape_test : Place → List Row → Data → Result (Unit {0}) Fault
shape_test place ms d = ok_unless (option_map (fault.shape place) (object_fault ms d))
