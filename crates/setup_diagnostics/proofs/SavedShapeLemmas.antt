-- Where the reader of a saved state refuses a shape, there is a fault by the tables of members.
use Rattle.std.proofs.Common.{◌≡◌, ◌⊎◌, inl, inr, ℕ, zero, suc, ◌+◌, ◌&&◌, ◌||◌, not, Bool, true, false, cond, List, [], ◌∷◌, find, Option, Some, None}
use Rattle.std.proofs.Common.{option_and_then, option_map, Result, Ok, Err, refl, sym, ap, ◌∙◌, arith}
use Rattle.std.specs.Prelude.{is_none, is_some, ok_or, slice_get}
use Rattle.std.specs.List.{list_all}
use Rattle.std.proofs.lemmas.Bool.{and_parts}
use Rattle.serde_json.specs.Data.{Data, null, boolean, number, string, array, object, Items, no_items, item, Members}
use Rattle.serde_json.specs.Find.{as_array, as_bool, as_null, as_object, as_str, get, get_item}
use Rattle.setup_reader.specs.JsonTree.{whole_number, ◌>=>◌}
use Rattle.setup_reader.specs.Shapes.{first_of, keys_in}
use Rattle.setup_reader.proofs.ShapeLemmas.{no_find}
use Rattle.setup_model.specs.Agreement.{◌>>=◌}
use Rattle.check_saved_state.specs.declared.fault.SavedFault.{SavedFault}
use Rattle.check_saved_state.specs.declared.fault.SavedFault.TheVariants as faults
use Rattle.check_saved_state.specs.declared.table.ValueKind.{ValueKind}
use Rattle.check_saved_state.specs.declared.table.ValueKind.TheVariants as kinds
use Rattle.check_saved_state.specs.Object.{list_member, number_member, object_in, object_of_values, optional_number, optional_run, run_in_tree, text_of}
use Rattle.check_saved_state.specs.Reading.{draft_in, draft_of, format_in, objects_from}
use Rattle.check_saved_state.specs.Saved.{Saved, SavedObject}
use Rattle.check_saved_state.specs.Scheduling.{OpenRun}
use Rattle.check_saved_state.specs.Table as members
use Rattle.check_saved_state.specs.Table.{Row, has_kind, has_only_members, is_known, is_word, newest_format, of_kind}
use Rattle.check_saved_state.specs.Words.{flapping_of_word, only_letters}
use Rattle.check_states.specs.Words.{kind_of_word, state_of_word}
use Rattle.setup_diagnostics.specs.SavedShapes as fault
use Rattle.setup_diagnostics.specs.SavedShapes.{has_other_kind, has_wrong_kind, is_missing, item_fault, member_fault, object_fault}
use Rattle.setup_diagnostics.specs.SavedShapes.{run_fault, saved_shape_fault}

-- ---- options

unless_none : {A : Type 0} (o : Option A) → (o ≡ None → ⊥) → is_some o ≡ true
unless_none None f = absurd (f refl)
unless_none (Some x) f = refl

some_is : {A : Type 0} (o : Option A) → is_some o ≡ true → (x : A) × (o ≡ Some x)
some_is None e = cc
some_is (Some x) e = (x, refl)

some_then : {A B : Type 0} (o : Option A) (f : A → Option B) → is_some o ≡ true → ((x : A) → is_some (f x) ≡ true) → is_some (o >=> f) ≡ true
some_then None f e h = e
some_then (Some x) f e h = h x

none_first : {A : Type 0} (o other : Option A) → first_of o other ≡ None → (o ≡ None) × (other ≡ None)
none_first None other e = (refl, e)
none_first (Some x) other e = cc

unmapped : {A B : Type 0} (f : A → B) (o : Option A) → option_map f o ≡ None → o ≡ None
unmapped f None e = refl
unmapped f (Some x) e = cc

twice_not : (b : Bool) → not (not b) ≡ b
twice_not true = refl
twice_not false = refl

holds_at : {A : Type 0} (test : A → Bool) (xs : List A) (i : ℕ) (x : A) → list_all test xs ≡ true → slice_get xs i ≡ Some x → test x ≡ true
holds_at test [] i x all at = cc
holds_at test (y ∷ ys) zero x all at = let same : y ≡ x = cc in ap test (sym same) ∙ (and_parts (test y) (list_all test ys) all).0
holds_at test (y ∷ ys) (suc i) x all at = holds_at test ys i x (and_parts (test y) (list_all test ys) all).1 at

-- ---- an object without a fault

all_not : {A : Type 0} (p : A → Bool) (xs : List A) → find p xs ≡ None → list_all (λ x. not (p x)) xs ≡ true
all_not p xs e = sym (no_find p xs) ∙ ap is_none e

all_known : (known : List ℕ → Bool) (keys : List (List ℕ)) → find (λ key. not (known key)) keys ≡ None → list_all known keys ≡ true
all_known known keys e =
    let same : (λ key. not (not (known key))) ≡ known = λ i key. twice_not (known key) i in
    sym (ap (λ test. list_all test keys) same) ∙ all_not (λ key. not (known key)) keys e

-- its members are known, none is missing, and each is of its kind
record IsFit (format : ℕ) (ms : List Row) (d : Data) : Type 0 where
  known : has_only_members format ms d ≡ true
  there : list_all (λ m. not (is_missing format d m)) ms ≡ true
  kinds : list_all (λ m. not (has_wrong_kind format d m)) ms ≡ true

fit_by : (format : ℕ) (ms : List Row) (d : Data) (inside : Members) → as_object d ≡ Some inside → member_fault format ms d inside ≡ None → IsFit format ms d
fit_by format ms d inside is e =
    let first = none_first (option_map fault.unknown (find (λ key. not (is_known format ms key)) (keys_in inside))) _ e in
    let second = none_first (option_map fault.missing (find (is_missing format d) ms)) _ first.1 in
    record {
      known = rw is (all_known (is_known format ms) (keys_in inside) (unmapped fault.unknown _ first.0));
      there = all_not (is_missing format d) ms (unmapped fault.missing _ second.0);
      kinds = all_not (has_wrong_kind format d) ms (unmapped fault.wrong_kind _ second.1);
    }

fit : (format : ℕ) (ms : List Row) (d : Data) → object_fault format ms d ≡ None → IsFit format ms d
fit format ms null e = cc
fit format ms (boolean b) e = cc
fit format ms (number n) e = cc
fit format ms (string s) e = cc
fit format ms (array ds) e = cc
fit format ms (object inside) e = fit_by format ms (object inside) inside refl e

-- ---- a value of its kind is read

there : {A : Type 0} (parse : Data → Option A) (k : ValueKind) → ((v : Data) → has_kind k v ≡ true → is_some (parse v) ≡ true) → (o : Option Data)
    → not (is_none o) ≡ true → not (has_other_kind k o) ≡ true → is_some (option_and_then parse (of_kind k o)) ≡ true
there parse k is None a b = cc
there parse k is (Some v) a b = let h = sym (twice_not (has_kind k v)) ∙ b in rw h (is v h)

word_by : {A : Type 0} (parse : List ℕ → Option A) (o : Option (List ℕ)) → is_some (option_and_then parse o) ≡ true → is_some (o >=> parse) ≡ true
word_by parse None e = e
word_by parse (Some text) e = e

word_there : {A : Type 0} (parse : List ℕ → Option A) (k : ValueKind) → ((v : Data) → has_kind k v ≡ true → is_word parse v ≡ true) → (o : Option Data)
    → not (is_none o) ≡ true → not (has_other_kind k o) ≡ true → is_some (text_of (of_kind k o) >=> parse) ≡ true
word_there parse k is None a b = cc
word_there parse k is (Some v) a b = let h = sym (twice_not (has_kind k v)) ∙ b in rw h (word_by parse (as_str v) (is v h))

number_by : (is_null : Bool) (o : Option ℕ) → (is_null || is_some o) ≡ true → is_some (cond is_null (Some None) (option_map Some o)) ≡ true
number_by true o e = refl
number_by false None e = e
number_by false (Some n) e = refl

-- a run without a fault
run_read : (format : ℕ) (run : Data) → object_fault format members.run_members run ≡ None → is_some (run_in_tree format run) ≡ true
run_read format run free =
    let f = fit format members.run_members run free in
    let has = λ (i : ℕ) (m : Row) (at : slice_get members.run_members i ≡ Some m). holds_at (λ m. not (is_missing format run m)) members.run_members i m f.there at in
    let is = λ (i : ℕ) (m : Row) (at : slice_get members.run_members i ≡ Some m). holds_at (λ m. not (has_wrong_kind format run m)) members.run_members i m f.kinds at in
    rw f.known (
    some_then _ _ (there whole_number kinds.Number (λ v h. h) _ (has 0 members.run_number refl) (is 0 members.run_number refl)) (λ number.
    some_then _ _ (there whole_number kinds.Number (λ v h. h) _ (has 1 members.run_start refl) (is 1 members.run_start refl)) (λ start.
    refl))
    )

mapped : {A B : Type 0} (f : A → B) (o : Option A) → is_some o ≡ true → is_some (option_map f o) ≡ true
mapped f None e = e
mapped f (Some x) e = refl

run_value : (format : ℕ) (run : Data) → has_kind kinds.RunOrNull run ≡ true → run_fault format run ≡ None → is_some (optional_run format run) ≡ true
run_value format null h free = refl
run_value format (boolean b) h free = cc
run_value format (number n) h free = cc
run_value format (string s) h free = cc
run_value format (array ds) h free = cc
run_value format (object inside) h free = mapped Some (run_in_tree format (object inside)) (run_read format (object inside) free)

run_there : (format : ℕ) (o : Option Data) → not (is_none o) ≡ true → not (has_other_kind kinds.RunOrNull o) ≡ true → (o >=> run_fault format) ≡ None
    → is_some (option_and_then (optional_run format) (of_kind kinds.RunOrNull o)) ≡ true
run_there format None a b free = cc
run_there format (Some v) a b free = let h = sym (twice_not (has_kind kinds.RunOrNull v)) ∙ b in rw h (run_value format v h free)

-- ---- an object of the list

-- values that are all read make an object
object_some : (run_of : Data → Option (Option OpenRun))
    (name state kind attempt last_hard checked flapping results next run enabled forced interval max_attempts setup_enabled : Option Data)
    → is_some (text_of name) ≡ true
    → is_some (text_of state >=> state_of_word) ≡ true
    → is_some (text_of kind >=> kind_of_word) ≡ true
    → is_some (option_and_then whole_number attempt) ≡ true
    → is_some (text_of last_hard >=> state_of_word) ≡ true
    → is_some (option_and_then as_bool checked) ≡ true
    → is_some (text_of flapping >=> flapping_of_word) ≡ true
    → is_some (text_of results >=> only_letters) ≡ true
    → is_some (option_and_then optional_number next) ≡ true
    → is_some (option_and_then run_of run) ≡ true
    → is_some (option_and_then as_bool enabled) ≡ true
    → is_some (option_and_then as_bool forced) ≡ true
    → is_some (option_and_then whole_number interval) ≡ true
    → is_some (option_and_then whole_number max_attempts) ≡ true
    → is_some (option_and_then as_bool setup_enabled) ≡ true
    → is_some (object_of_values run_of (name ∷ state ∷ kind ∷ attempt ∷ last_hard ∷ checked ∷ flapping ∷ results ∷ next ∷ run ∷ enabled ∷ forced ∷ interval
    ∷ max_attempts ∷ setup_enabled ∷ [])) ≡ true
unfolding object_of_values
object_some run_of name state kind attempt last_hard checked flapping results next run enabled forced interval max_attempts setup_enabled
    a b c d e f g h i j k l m n o =
    some_then _ _ a (λ _. some_then _ _ b (λ _. some_then _ _ c (λ _. some_then _ _ d (λ _. some_then _ _ e (λ _. some_then _ _ f (λ _.
    some_then _ _ g (λ _. some_then _ _ h (λ _. some_then _ _ i (λ _. some_then _ _ j (λ _. some_then _ _ k (λ _. some_then _ _ l (λ _.
    some_then _ _ m (λ _. some_then _ _ n (λ _. some_then _ _ o (λ _. refl)))))))))))))))

object_there : (format : ℕ) (d : Data) → item_fault format d ≡ None → is_some (object_in format d) ≡ true
unfolding object_in
object_there format d free =
    let parts = none_first (object_fault format members.object_members d) _ free in
    let f = fit format members.object_members d parts.0 in
    let has = λ (i : ℕ) (m : Row) (at : slice_get members.object_members i ≡ Some m). holds_at (λ m. not (is_missing format d m)) members.object_members i m f.there at in
    let is = λ (i : ℕ) (m : Row) (at : slice_get members.object_members i ≡ Some m). holds_at (λ m. not (has_wrong_kind format d m)) members.object_members i m f.kinds at in
    rw f.known (object_some (optional_run format) _ _ _ _ _ _ _ _ _ _ _ _ _ _ _
    (there as_str kinds.Text (λ v h. h) (get members.name.name d) (has 0 members.name refl) (is 0 members.name refl))
    (word_there state_of_word kinds.State (λ v h. h) (get members.state.name d) (has 1 members.state refl) (is 1 members.state refl))
    (word_there kind_of_word kinds.StateKind (λ v h. h) (get members.kind.name d) (has 2 members.kind refl) (is 2 members.kind refl))
    (there whole_number kinds.Number (λ v h. h) (get members.attempt.name d) (has 3 members.attempt refl) (is 3 members.attempt refl))
    (word_there state_of_word kinds.State (λ v h. h) (get members.last_hard_state.name d) (has 4 members.last_hard_state refl) (is 4 members.last_hard_state refl))
    (there as_bool kinds.Switch (λ v h. h) (get members.checked.name d) (has 5 members.checked refl) (is 5 members.checked refl))
    (word_there flapping_of_word kinds.Flapping (λ v h. h) (get members.flapping.name d) (has 6 members.flapping refl) (is 6 members.flapping refl))
    (word_there only_letters kinds.Letters (λ v h. h) (get members.results.name d) (has 7 members.results refl) (is 7 members.results refl))
    (there optional_number kinds.NumberOrNull (λ v h. number_by (is_some (as_null v)) (whole_number v) h) (get members.next_check.name d)
    (has 8 members.next_check refl) (is 8 members.next_check refl))
    (run_there format (get members.run.name d) (has 9 members.run refl) (is 9 members.run refl) parts.1)
    (there as_bool kinds.Switch (λ v h. h) (get members.enabled.name d) (has 10 members.enabled refl) (is 10 members.enabled refl))
    (there as_bool kinds.Switch (λ v h. h) (get members.forced.name d) (has 11 members.forced refl) (is 11 members.forced refl))
    (there whole_number kinds.Number (λ v h. h) (get members.check_interval.name d) (has 12 members.check_interval refl) (is 12 members.check_interval refl))
    (there whole_number kinds.Number (λ v h. h) (get members.max_check_attempts.name d) (has 13 members.max_check_attempts refl)
    (is 13 members.max_check_attempts refl))
    (there as_bool kinds.Switch (λ v h. h) (get members.enabled_in_setup.name d) (has 14 members.enabled_in_setup refl) (is 14 members.enabled_in_setup refl)))

none_there : {A : Type 0} (o : Option A) → o ≡ None → is_some o ≡ true → ⊥
none_there None e h = cc
none_there (Some x) e h = cc

-- an object that isn't read has a fault
object_found : (format : ℕ) (d : Data) → object_in format d ≡ None → is_some (item_fault format d) ≡ true
object_found format d e = unless_none (item_fault format d) (λ free. none_there (object_in format d) e (object_there format d free))

-- ---- the list

-- an object of a list that isn't read, with its index
record IsRefusedAt (format start : ℕ) (ds : Items) (index : Option ℕ) : Type 0 where
  place : ℕ
  value : Data
  is : index ≡ Some (place + start)
  at : get_item place ds ≡ Some value
  unread : object_in format value ≡ None

first_fails : {A B : Type 0} (r : Result A SavedFault) (f : A → B) (e : SavedFault) → (r >>= λ x. Ok (f x)) ≡ Err e → r ≡ Err e
first_fails (Ok x) f e h = cc
first_fails (Err other) f e h = cc

item_refused : (format start : ℕ) (d : Data) (ds : Items) (index : Option ℕ) (o : Option SavedObject) → object_in format d ≡ o
    → (objects_from format (start + 1) ds ≡ Err (faults.Shape index) → IsRefusedAt format (start + 1) ds index)
    → (ok_or o (faults.Shape (Some start)) >>= λ first. (objects_from format (start + 1) ds >>= λ more. Ok (first ∷ more))) ≡ Err (faults.Shape index)
    → IsRefusedAt format start (item d ds) index
item_refused format start d ds index None is later e =
    let here : index ≡ Some start = cc in
    let same : start ≡ 0 + start = omega arith in
    record { place = 0; value = d; is = here ∙ ap Some same; at = refl; unread = is }
item_refused format start d ds index (Some first) is later e =
    let found = later (first_fails (objects_from format (start + 1) ds) (λ more. first ∷ more) (faults.Shape index) e) in
    let same : found.place + (start + 1) ≡ suc found.place + start = omega arith in
    record { place = suc found.place; value = found.value; is = found.is ∙ ap Some same; at = found.at; unread = found.unread }

list_refused : (format start : ℕ) (ds : Items) (index : Option ℕ) → objects_from format start ds ≡ Err (faults.Shape index) → IsRefusedAt format start ds index
list_refused format start no_items index e = cc
list_refused format start (item d ds) index e =
    item_refused format start d ds index (object_in format d) refl (list_refused format (start + 1) ds index) e

-- ---- the document

abbrev saved_with : ℕ → ℕ → List SavedObject → Saved
saved_with start runs objects = record { start = start; runs = runs; objects = objects }

draft_by : (known : Bool) (s r : Option ℕ) (l : Option Items) (format : ℕ) (index : Option ℕ)
    → cond known (ok_or s (faults.Shape None) >>= λ start. (ok_or r (faults.Shape None) >>= λ runs. (ok_or l (faults.Shape None) >>= λ items.
    (objects_from format 0 items >>= λ objects. Ok (saved_with start runs objects))))) (Err (faults.Shape None))
    ≡ Err (faults.Shape index)
    → ((known && (is_some s && (is_some r && is_some l))) ≡ false) × (index ≡ None) ⊎ ((ds : Items) × (l ≡ Some ds) × IsRefusedAt format 0 ds index)
draft_by false s r l format index e = inl (refl, cc)
draft_by true None r l format index e = inl (refl, cc)
draft_by true (Some start) None l format index e = inl (refl, cc)
draft_by true (Some start) (Some runs) None format index e = inl (refl, cc)
draft_by true (Some start) (Some runs) (Some ds) format index e =
    inr (ds, refl, list_refused format 0 ds index (first_fails (objects_from format 0 ds) (saved_with start runs) (faults.Shape index) e))

-- the document is refused, or an object of its list
abbrev IsDraftRefused : ℕ → Data → Option ℕ → Type 0
IsDraftRefused format tree index =
    ((has_only_members format members.document_members tree
    && (is_some (number_member format tree members.start) && (is_some (number_member format tree members.runs) && is_some (list_member format tree members.objects))))
    ≡ false) × (index ≡ None) ⊎ ((ds : Items) × (list_member format tree members.objects ≡ Some ds) × IsRefusedAt format 0 ds index)

draft_refused : (format : ℕ) (tree : Data) (index : Option ℕ) → draft_of format tree ≡ Err (faults.Shape index) → IsDraftRefused format tree index
unfolding draft_of
draft_refused format tree index e =
    draft_by (has_only_members format members.document_members tree) (number_member format tree members.start) (number_member format tree members.runs)
    (list_member format tree members.objects) format index e

all_true : (a b c d : Bool) → a ≡ true → b ≡ true → c ≡ true → d ≡ true → (a && (b && (c && d))) ≡ false → ⊥
all_true a b c d ea eb ec ed e = let all : (a && (b && (c && d))) ≡ true = rw (ea, eb, ec, ed) refl in cc

module _ (format : ℕ) (tree : Data) (f : IsFit format members.document_members tree) where
  has : (i : ℕ) (m : Row) → slice_get members.document_members i ≡ Some m → not (is_missing format tree m) ≡ true
  has i m at = holds_at (λ m. not (is_missing format tree m)) members.document_members i m f.there at

  is : (i : ℕ) (m : Row) → slice_get members.document_members i ≡ Some m → not (has_wrong_kind format tree m) ≡ true
  is i m at = holds_at (λ m. not (has_wrong_kind format tree m)) members.document_members i m f.kinds at

  named : is_some (format_in tree) ≡ true
  named = there whole_number kinds.Number (λ v h. h) (get members.format.name tree) (has 0 members.format refl) (is 0 members.format refl)

  unread : (has_only_members format members.document_members tree
      && (is_some (number_member format tree members.start) && (is_some (number_member format tree members.runs) && is_some (list_member format tree members.objects))))
      ≡ false → ⊥
  unread e =
      all_true _ _ _ _ f.known
      (there whole_number kinds.Number (λ v h. h) (get members.start.name tree) (has 1 members.start refl) (is 1 members.start refl))
      (there whole_number kinds.Number (λ v h. h) (get members.runs.name tree) (has 2 members.runs refl) (is 2 members.runs refl))
      (there as_array kinds.List (λ v h. h) (get members.objects.name tree) (has 3 members.objects refl) (is 3 members.objects refl)) e

list_is : (o : Option Data) (ds : Items) → option_and_then as_array (of_kind kinds.List o) ≡ Some ds → o ≡ Some (array ds)
list_is None ds e = cc
list_is (Some null) ds e = cc
list_is (Some (boolean b)) ds e = cc
list_is (Some (number n)) ds e = cc
list_is (Some (string s)) ds e = cc
list_is (Some (object ms)) ds e = cc
list_is (Some (array es)) ds e = let same : es ≡ ds = cc in ap (λ es. Some (array es)) same

by_draft : (format : ℕ) (tree : Data) (index : Option ℕ) → format_in tree ≡ Some format → IsDraftRefused format tree index
    → is_some (saved_shape_fault tree index) ≡ true
by_draft format tree index is (inl (e, none)) =
    rw (none, is) (unless_none (object_fault format members.document_members tree) (λ free. unread format tree (fit format members.document_members tree free) e))
by_draft format tree index is (inr (ds, list, r)) =
    let at : index ≡ Some r.place = r.is ∙ ap Some (omega arith) in
    rw (at, is, list_is (get members.objects.name tree) ds list, r.at) (object_found format r.value r.unread)

by_format : (tree : Data) (index : Option ℕ) (format : Option ℕ) → format_in tree ≡ format
    → (ok_or format (faults.Shape None) >>= λ format. draft_of format tree) ≡ Err (faults.Shape index) → is_some (saved_shape_fault tree index) ≡ true
by_format tree index None is e =
    let none : index ≡ None = cc in
    rw (none, is) (unless_none (object_fault newest_format members.document_members tree) (λ free.
    none_there (format_in tree) is (named newest_format tree (fit newest_format members.document_members tree free))))
by_format tree index (Some format) is e = by_draft format tree index is (draft_refused format tree index e)

pub found : (tree : Data) (index : Option ℕ) → draft_in tree ≡ Err (faults.Shape index) → is_some (saved_shape_fault tree index) ≡ true
found tree index e = by_format tree index (format_in tree) refl e
