-- A table that grows reads the texts of earlier formats as before; and an object is read by its values alone.
use Rattle.std.proofs.Common.{◌≡◌, ℕ, ◌&&◌, ◌||◌, not, Bool, true, false, cond, List, [], ◌∷◌, ◌++◌, map, Option, Some, None, String, Global, string_bytes}
use Rattle.std.proofs.Common.{bytes_eq, option_and_then, option_map, refl, sym, ap, ◌∙◌}
use Rattle.std.specs.Prelude.{is_none, nat_le, unwrap_or}
use Rattle.std.specs.List.{list_all, list_any}
use Rattle.std.specs.Map.{keys_of}
use Rattle.std.proofs.lemmas.Bool.{and_parts}
use Rattle.serde_json.specs.Data.{Data}
use Rattle.serde_json.specs.Find.{as_object}
use Rattle.serde_json.specs.View.{members_view}
use Rattle.serde_json.specs.declared.value.Value.{Value}
use Rattle.setup_reader.specs.Shapes.{first_of, keys_in}
use Rattle.setup_model.proofs.ListLemmas.{list_any-map}
use Rattle.check_saved_state.specs.declared.table.Member.{Member}
use Rattle.check_saved_state.specs.Object.{object_in, object_of_values, optional_run}
use Rattle.check_saved_state.specs.Table.{Added, Row, as_row, default_by, defaults, found_in, has_only_members, is_in, is_known, object_members, value_at}
use Rattle.check_saved_state.specs.Table.{values_in}

-- ---- the members of the code's map

pub only_seen : (format : ℕ) (ms : List Member) (es : List (String Global × Value))
    → list_all (λ key. list_any (λ m. is_in format (as_row m) && bytes_eq m.name.now (string_bytes key)) ms) (keys_of es)
    ≡ list_all (is_known format (map as_row ms)) (keys_in (members_view es))
only_seen format ms [] = refl
only_seen format ms (e ∷ es) =
    ap (λ b. b && list_all (λ key. list_any (λ m. is_in format (as_row m) && bytes_eq m.name.now (string_bytes key)) ms) (keys_of es))
    (sym (list_any-map (λ m. is_in format m && bytes_eq m.name (string_bytes e.0)) as_row ms))
    ∙ ap (λ b. is_known format (map as_row ms) (string_bytes e.0) && b) (only_seen format ms es)

-- ---- a table and one with members that were added later

abbrev AreLater : ℕ → List Row → Type 0
AreLater format others = list_all (λ m. not (is_in format m)) others ≡ true

none_by : (b c rest : Bool) → not b ≡ true → rest ≡ false → ((b && c) || rest) ≡ false
none_by true c rest h e = cc
none_by false c rest h e = e

none_later : (format : ℕ) (others : List Row) (key : List ℕ) → AreLater format others → is_known format others key ≡ false
none_later format [] key h = refl
none_later format (m ∷ others) key h =
    let p = and_parts (not (is_in format m)) (list_all (λ x. not (is_in format x)) others) h in
    none_by (is_in format m) (bytes_eq m.name key) (is_known format others key) p.0 (none_later format others key p.1)

known_more : (format : ℕ) (ms others : List Row) (key : List ℕ) → AreLater format others
    → is_known format (ms ++ others) key ≡ is_known format ms key
known_more format [] others key h = none_later format others key h
known_more format (m ∷ ms) others key h = ap (λ b. (is_in format m && bytes_eq m.name key) || b) (known_more format ms others key h)

only_more : (format : ℕ) (ms others : List Row) (d : Data) → AreLater format others
    → has_only_members format (ms ++ others) d ≡ has_only_members format ms d
only_more format ms others d h =
    let same : is_known format (ms ++ others) ≡ is_known format ms = λ i key. known_more format ms others key h i in
    ap (λ known. unwrap_or (option_map (λ inside. list_all known (keys_in inside)) (as_object d)) false) same

value_by : (has : Bool) (v : Data) (found : Option Data) → not (is_none (cond has None (Some v))) ≡ true → first_of (cond has None (Some v)) found ≡ Some v
value_by true v found h = cc
value_by false v found h = refl

default_value : (format : ℕ) (added : Option Added) (found : Option Data) → not (is_none (default_by format added)) ≡ true
    → first_of (default_by format added) found ≡ option_map (λ a. a.value) added
default_value format None found h = cc
default_value format (Some a) found h = value_by (nat_le a.since format) a.value found h

later_values : (format : ℕ) (others : List Row) (d : Data) → AreLater format others → map (value_at format d) others ≡ defaults others
later_values format [] d h = refl
later_values format (m ∷ others) d h =
    let p = and_parts (not (is_in format m)) (list_all (λ x. not (is_in format x)) others) h in
    rw (default_value format m.added (found_in d m) p.0, later_values format others d p.1) refl

values_more : (format : ℕ) (ms others : List Row) (d : Data) → AreLater format others
    → map (value_at format d) (ms ++ others) ≡ map (value_at format d) ms ++ defaults others
values_more format [] others d h = later_values format others d h
values_more format (m ∷ ms) others d h = ap (λ values. value_at format d m ∷ values) (values_more format ms others d h)

moved : {A : Type 0} (b : Bool) (xs ys : List A) → cond b (Some (xs ++ ys)) None ≡ option_map (λ values. values ++ ys) (cond b (Some xs) None)
moved true xs ys = refl
moved false xs ys = refl

pub grown : (format : ℕ) (ms others : List Row) (d : Data) → list_all (λ m. not (is_in format m)) others ≡ true
    → values_in format (ms ++ others) d ≡ option_map (λ values. values ++ defaults others) (values_in format ms d)
grown format ms others d h =
    ap (λ b. cond b (Some (map (value_at format d) (ms ++ others))) None) (only_more format ms others d h)
    ∙ ap (λ values. cond (has_only_members format ms d) (Some values) None) (values_more format ms others d h)
    ∙ moved (has_only_members format ms d) (map (value_at format d) ms) (defaults others)

-- ---- an object by its values

pub by_values : (format other : ℕ) (d e : Data) → values_in format object_members d ≡ values_in other object_members e
    → ((run : Data) → optional_run format run ≡ optional_run other run) → object_in format d ≡ object_in other e
unfolding object_in
by_values format other d e same runs =
    let run_of : optional_run format ≡ optional_run other = λ i run. runs run i in
    ap (option_and_then (object_of_values (optional_run format))) same
    ∙ ap (λ f. option_and_then (object_of_values f) (values_in other object_members e)) run_of
