-- The names of an object's members, by their index.
use Rattle.std.proofs.Common.{◌≡◌, ℕ, zero, suc, List, [], ◌∷◌, String, Global, string_bytes, refl}
use Rattle.std.specs.Prelude.{option_map, slice_get}
use Rattle.std.specs.Map.{keys_of}
use Rattle.serde_json.specs.View.{members_view}
use Rattle.serde_json.specs.declared.value.Value.{Value}
use Rattle.setup_diagnostics.specs.Shapes.{nth_member_name}

-- the names of the code's map are the members', by index
pub key_seen : (es : List (String Global × Value)) (index : ℕ) → nth_member_name index (members_view es) ≡ option_map string_bytes (slice_get (keys_of es) index)
key_seen [] zero = refl
key_seen [] (suc index) = refl
key_seen (e ∷ es) zero = refl
key_seen (e ∷ es) (suc index) = key_seen es index
