-- From bytes to the tree that `serde_json` reads, and what stands in it.
use Rattle.std.proofs.Common.{◌≡◌, ℕ, Bool, true, false, cond, ◌&&◌, ◌||◌, List, [], ◌∷◌, map, Option, Some, None, String, Global, string_bytes}
use Rattle.std.proofs.Common.{bytes_eq, refl, sym, ap, ◌∙◌, Ok, Err}
use Rattle.std.specs.Prelude.{ok_or, is_some, unwrap_or, IsUtf8}
use Rattle.std.specs.Str.{is_utf8}
use Rattle.std.specs.List.{list_any, list_all}
use Rattle.std.specs.Map.{keys_of}
use Rattle.std.proofs.lemmas.Str.{IsUtf8-from_is_utf8, is_utf8-from_IsUtf8}
use Rattle.serde_json.specs.Data.{Data, null, boolean, number, string, array, object, Items, Members}
use Rattle.serde_json.specs.Find.{as_object, as_str}
use Rattle.serde_json.specs.Read.{read}
use Rattle.serde_json.specs.View.{view, members_view, items_of, items_view}
use Rattle.serde_json.specs.declared.value.Value.{Value}
use Rattle.setup_reader.specs.JsonTree.{tree_of, is_among, only_members, texts_of, ◌>=>◌}
use Rattle.setup_model.specs.Text.{text}
use Rattle.setup_reader.specs.Reading.{values_of}

-- ---- the tree of the bytes

pub tree_some : {E : Type 0} (bytes : List ℕ) (d : Data) (refusal : E) → IsUtf8 bytes → read bytes ≡ Some d → ok_or (tree_of bytes) refusal ≡ Ok d
unfolding tree_of
tree_some bytes d refusal u e = rw (is_utf8-from_IsUtf8 bytes u, e) refl

none_by : (bytes : List ℕ) (b : Bool) → (b ≡ true → read bytes ≡ None) → cond b (read bytes) None ≡ None
none_by bytes true h = h refl
none_by bytes false h = refl

pub tree_none : {E : Type 0} (bytes : List ℕ) (refusal : E) → (IsUtf8 bytes → read bytes ≡ None) → ok_or (tree_of bytes) refusal ≡ Err refusal
unfolding tree_of
tree_none bytes refusal h = rw (none_by bytes (is_utf8 bytes) (λ e. h (IsUtf8-from_is_utf8 bytes e))) refl

-- ---- members and items

pub object_by_members : (d : Data) (ms : Members) → as_object d ≡ Some ms → d ≡ object ms
object_by_members null ms e = cc
object_by_members (boolean b) ms e = cc
object_by_members (number n) ms e = cc
object_by_members (string s) ms e = cc
object_by_members (array ds) ms e = cc
object_by_members (object ms') ms e = cc

pub among_names : {A : Type 0} (name : A → List ℕ) (xs : List A) (key : List ℕ) → list_any (λ x. bytes_eq (name x) key) xs ≡ is_among (map name xs) key
among_names name [] key = refl
among_names name (x ∷ xs) key = ap (λ b. bytes_eq (name x) key || b) (among_names name xs key)

-- the keys of the code's map are the members' names
pub only_known : {A : Type 0} (name : A → List ℕ) (xs : List A) (es : List (String Global × Value))
    → list_all (λ key. list_any (λ x. bytes_eq (name x) (string_bytes key)) xs) (keys_of es) ≡ only_members (map name xs) (members_view es)
only_known name xs [] = refl
only_known name xs (e ∷ es) = rw (among_names name xs (string_bytes e.0), only_known name xs es) refl

values_listed : (ds : List Data) → values_of (items_of ds) ≡ ds
values_listed [] = refl
values_listed (d ∷ ds) = ap (λ more. d ∷ more) (values_listed ds)

-- the values of an array of the code
pub values_seen : (vs : List Value) → values_of (items_view vs) ≡ map view vs
values_seen vs = values_listed (map view vs)

-- ---- texts

abbrev pub is_text : Value → Bool
is_text v = is_some (as_str (view v))

one_text_more : (t : Option (List ℕ)) (rest : Option (List (List ℕ))) (ts : List (List ℕ)) (b : Bool) → rest ≡ cond b (Some ts) None
    → (t >=> λ x. (rest >=> λ xs. Some (x ∷ xs))) ≡ cond (is_some t && b) (Some (unwrap_or t [] ∷ ts)) None
one_text_more None rest ts b e = refl
one_text_more (Some x) rest ts true e = rw e refl
one_text_more (Some x) rest ts false e = rw e refl

texts_by_test : (vs : List Value) → texts_of (items_view vs) ≡ cond (list_all is_text vs) (Some (map text vs)) None
texts_by_test [] = refl
texts_by_test (v ∷ vs) = one_text_more (as_str (view v)) (texts_of (items_view vs)) (map text vs) (list_all is_text vs) (texts_by_test vs)

-- the items of an array are its texts, if all of them are texts
pub texts_of_items : (o : Option Items) (vs ws : List Value) (b : Bool) → Some (items_view vs) ≡ o → ws ≡ vs → list_all is_text ws ≡ b
    → (o >=> texts_of) ≡ cond b (Some (map text ws)) None
texts_of_items o vs ws b e same t =
    ap (λ x. x >=> texts_of) (sym e) ∙ ap (λ l. texts_of (items_view l)) (sym same) ∙ texts_by_test ws ∙ ap (λ x. cond x (Some (map text ws)) None) t
