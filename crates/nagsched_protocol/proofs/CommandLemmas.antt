-- The tree of a line, and the members of a command.
use Rattle.std.proofs.Common.{◌≡◌, ℕ, ◌<◌, ◌≤◌, Bool, true, false, cond, List, [], ◌∷◌, length, Some, None, Ok, Err, refl, arith}
use Rattle.std.specs.Prelude.{ok_or, bytes_eq, codes, IsUtf8}
use Rattle.std.specs.Str.{is_utf8}
use Rattle.std.proofs.lemmas.Str.{IsUtf8-from_is_utf8, is_utf8-from_IsUtf8}
use Rattle.serde_json.specs.Data.{Data, Items}
use Rattle.serde_json.specs.Read.{read}
use Rattle.serde_json.specs.View.{items_view}
use Rattle.serde_json.specs.declared.value.Value.{Value}
use Rattle.check_objects.specs.JsonTree.{tree_of}
use Rattle.check_objects.specs.Configuration.{Configuration}
use Rattle.nagsched_protocol.specs.Command.{call_by, list_command, one_of, save_command, three_of, two_of, value_count, wrong_count}
use Rattle.nagsched_protocol.specs.declared.refusal.InputRefusal.{InputRefusal}
use Rattle.nagsched_protocol.specs.declared.refusal.LineFault.TheVariants as fault
use Rattle.nagsched_protocol.specs.declared.refusal.LineShape.TheVariants as shape
use Rattle.nagsched_protocol.specs.declared.refusal.Vocabulary.TheVariants as vocabulary

-- a line that serde_json reads
pub tree_some : (line : List ℕ) (d : Data) (r : InputRefusal) → IsUtf8 line → read line ≡ Some d → ok_or (tree_of line) r ≡ Ok d
unfolding tree_of
tree_some line d r u e = rw (is_utf8-from_IsUtf8 line u, e) refl

-- a line that it does not read
none_by : (line : List ℕ) (b : Bool) → (b ≡ true → read line ≡ None) → cond b (read line) None ≡ None
none_by line true h = h refl
none_by line false h = refl

pub tree_none : (line : List ℕ) (r : InputRefusal) → (IsUtf8 line → read line ≡ None) → ok_or (tree_of line) r ≡ Err r
unfolding tree_of
tree_none line r h = rw (none_by line (is_utf8 line) (λ e. h (IsUtf8-from_is_utf8 line e))) refl

-- as many values as the code counts
pub values_counted : (vs : List Value) → value_count (items_view vs) ≡ length vs
values_counted [] = refl
values_counted (v ∷ vs) = let more = values_counted vs in omega (arith, more)

-- `save` has none
pub save_members : (vs : List Value) → 1 ≤ length vs → save_command (items_view vs) ≡ Err (wrong_count (items_view vs) 0)
save_members [] h = absurd (omega arith)
save_members (v ∷ vs) h = refl

-- nor has `list`
pub list_members : (vs : List Value) → 1 ≤ length vs → list_command (items_view vs) ≡ Err (wrong_count (items_view vs) 0)
list_members [] h = absurd (omega arith)
list_members (v ∷ vs) h = refl

-- the same of the members beside other words: one, two or three

pub one_few : (vs : List Value) → length vs < 1 → one_of (items_view vs) ≡ None
one_few [] h = refl
one_few (v ∷ vs) h = absurd (omega arith)

pub one_many : (vs : List Value) → 1 < length vs → one_of (items_view vs) ≡ None
one_many [] h = refl
one_many (v ∷ []) h = absurd (omega arith)
one_many (v ∷ w ∷ vs) h = refl

pub two_few : (vs : List Value) → length vs < 2 → two_of (items_view vs) ≡ None
two_few [] h = refl
two_few (v ∷ []) h = refl
two_few (v ∷ w ∷ vs) h = absurd (omega arith)

pub two_many : (vs : List Value) → 2 < length vs → two_of (items_view vs) ≡ None
two_many [] h = refl
two_many (v ∷ []) h = refl
two_many (v ∷ w ∷ []) h = absurd (omega arith)
two_many (v ∷ w ∷ x ∷ vs) h = refl

pub three_few : (vs : List Value) → length vs < 3 → three_of (items_view vs) ≡ None
three_few [] h = refl
three_few (v ∷ []) h = refl
three_few (v ∷ w ∷ []) h = refl
three_few (v ∷ w ∷ x ∷ vs) h = absurd (omega arith)

pub three_many : (vs : List Value) → 3 < length vs → three_of (items_view vs) ≡ None
three_many [] h = refl
three_many (v ∷ []) h = refl
three_many (v ∷ w ∷ []) h = refl
three_many (v ∷ w ∷ x ∷ []) h = absurd (omega arith)
three_many (v ∷ w ∷ x ∷ y ∷ vs) h = refl

-- a word that is none of a script's
pub call_by_other : (c : Configuration) (word : List ℕ) (ms : Items)
    → bytes_eq word (codes "take") ≡ false → bytes_eq word (codes "report") ≡ false → bytes_eq word (codes "abandon") ≡ false
    → bytes_eq word (codes "reschedule") ≡ false → bytes_eq word (codes "enable") ≡ false → bytes_eq word (codes "status") ≡ false
    → call_by c word ms ≡ Err (fault.Shape (shape.UnknownWord vocabulary.Run))
call_by_other c word ms a b d e f g = rw (a, b, d, e, f, g) refl
