-- The members of an object of the code, and the first unknown one.
use Rattle.std.proofs.Common.{◌≡◌, ℕ, not, List, [], ◌∷◌, map, String, Global, string_bytes, refl, sym, ap, ◌∙◌, bytes_eq}
use Rattle.std.specs.List.{list_any, position}
use Rattle.std.specs.Map.{keys_of}
use Rattle.serde_json.specs.View.{members_view}
use Rattle.serde_json.specs.declared.value.Value.{Value}
use Rattle.setup_model.proofs.ListLemmas.{position-map, position-same}
use Rattle.setup_model.specs.declared.member.Member.{Member}
use Rattle.setup_model.specs.Member.{as_row}
use Rattle.setup_reader.specs.Shapes.{first_unknown, keys_in, names}
use Rattle.setup_reader.specs.JsonTree.{is_among}
use Rattle.setup_reader.proofs.TreeLemmas.{among_names}

keys_seen : (es : List (String Global × Value)) → keys_in (members_view es) ≡ map string_bytes (keys_of es)
keys_seen [] = refl
keys_seen (e ∷ es) = ap (λ ks. string_bytes e.0 ∷ ks) (keys_seen es)

-- the first key of the code's map that none of these has is the first unknown member
pub unknown_seen : {A : Type 0} (name : A → List ℕ) (xs : List A) (es : List (String Global × Value))
    → position (λ key. not (list_any (λ x. bytes_eq (name x) (string_bytes key)) xs)) (keys_of es) ≡ first_unknown (map name xs) (members_view es)
unknown_seen name xs es =
    position-same _ _ (λ key i. not (among_names name xs (string_bytes key) i)) (keys_of es)
    ∙ sym (position-map (λ key. not (is_among (map name xs) key)) string_bytes (keys_of es))
    ∙ ap (position (λ key. not (is_among (map name xs) key))) (sym (keys_seen es))

pub names_seen : (ms : List Member) → map (λ m. m.name.now) ms ≡ names (map as_row ms)
names_seen [] = refl
names_seen (m ∷ ms) = ap (λ ns. m.name.now ∷ ns) (names_seen ms)
