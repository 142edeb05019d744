-- The first unknown member of an object of a saved state.
use Rattle.std.proofs.Common.{◌≡◌, ℕ, ◌&&◌, not, Bool, true, false, cond, List, [], ◌∷◌, map, find, Option, Some, String, Global, string_bytes, refl, sym, ap}
use Rattle.std.proofs.Common.{bytes_eq}
use Rattle.std.specs.Prelude.{option_map}
use Rattle.std.specs.List.{list_any}
use Rattle.std.specs.Map.{keys_of}
use Rattle.serde_json.specs.View.{members_view}
use Rattle.serde_json.specs.declared.value.Value.{Value}
use Rattle.setup_model.proofs.ListLemmas.{list_any-map}
use Rattle.check_saved_state.specs.declared.table.Member.{Member}
use Rattle.check_saved_state.specs.Table.{as_row, is_in, is_known}
use Rattle.setup_diagnostics.specs.SavedShapes.{first_unknown}

found_by : {A B : Type 0} (f : A → B) (b c : Bool) (x : A) (o : Option A) (q : Option B) → b ≡ c → option_map f o ≡ q
    → option_map f (cond b (Some x) o) ≡ cond c (Some (f x)) q
found_by f true true x o q e h = refl
found_by f true false x o q e h = cc
found_by f false true x o q e h = cc
found_by f false false x o q e h = h

-- the first key of the code's map that no member has is the first unknown member
pub unknown_seen : (format : ℕ) (ms : List Member) (es : List (String Global × Value))
    → option_map string_bytes (find (λ key. not (list_any (λ m. is_in format (as_row m) && bytes_eq m.name.now (string_bytes key)) ms)) (keys_of es))
    ≡ first_unknown format (map as_row ms) (members_view es)
unknown_seen format ms [] = refl
unknown_seen format ms (e ∷ es) =
    found_by string_bytes _ (not (is_known format (map as_row ms) (string_bytes e.0))) e.0 _ _
    (ap not (sym (list_any-map (λ m. is_in format m && bytes_eq m.name (string_bytes e.0)) as_row ms))) (unknown_seen format ms es)
