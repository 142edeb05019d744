-- The tree of what is saved is read as what was saved.
use Rattle.std.proofs.Common.{◌≡◌, ℕ, suc, ◌+◌, Bool, true, false, List, [], ◌∷◌, Option, Some, None, option_and_then, cond, Ok, refl, ap}
use Rattle.std.specs.Prelude.{nat_lt, slice_get}
use Rattle.std.specs.List.{list_all}
use Rattle.std.proofs.lemmas.Bool.{and_parts}
use Rattle.serde_json.specs.Data.{string}
use Rattle.serde_json.specs.Find.{as_str}
use Rattle.setup_reader.specs.JsonTree.{◌>=>◌}
use Rattle.setup_model.specs.Name.{is_host_name}
use Rattle.check_states.specs.declared.standing.Kind.{Kind}
use Rattle.check_states.specs.declared.standing.Kind.TheVariants as kind
use Rattle.check_states.specs.declared.state.State as rules
use Rattle.check_states.proofs.Cases.{each_state}
use Rattle.check_states.specs.State.{is_of_sort}
use Rattle.check_saved_state.specs.Object.{object_in, object_of_values, object_tree, optional_number, optional_run, run_tree, time_tree}
use Rattle.check_saved_state.specs.Reading.{draft_in, draft_of, objects_from}
use Rattle.check_saved_state.specs.Saved.{IsSaved, IsSavedObject, Saved, SavedObject}
use Rattle.check_saved_state.specs.Scheduling.{OpenRun}
use Rattle.check_saved_state.specs.Table.{newest_format, of_kind}
use Rattle.check_saved_state.specs.declared.table.ValueKind.TheVariants as row
use Rattle.check_saved_state.specs.Tree.{objects_tree, saved_tree}
use Rattle.check_states.specs.Words.{is_letter, kind_word, state_of_letter, state_letter, state_word, kind_of_word, state_of_word}
use Rattle.check_saved_state.specs.Words.{are_letters, flapping_of_word, flapping_word, letters_of, only_letters, results_of_letters}

-- each of these is what the reader finds of a member
state_back : (s : rules.State) → (option_and_then as_str (of_kind row.State (Some (string (state_word s)))) >=> state_of_word) ≡ Some s
state_back =
    each_state (λ s. (option_and_then as_str (of_kind row.State (Some (string (state_word s)))) >=> state_of_word) ≡ Some s) refl refl refl refl refl refl refl

kind_back : (k : Kind) → (option_and_then as_str (of_kind row.StateKind (Some (string (kind_word k)))) >=> kind_of_word) ≡ Some k
kind_back kind.Soft = refl
kind_back kind.Hard = refl

flapping_back : (b : Bool) → (option_and_then as_str (of_kind row.Flapping (Some (string (flapping_word b)))) >=> flapping_of_word) ≡ Some b
flapping_back true = refl
flapping_back false = refl

time_back : (time : Option ℕ) → option_and_then optional_number (of_kind row.NumberOrNull (Some (time_tree time))) ≡ Some time
time_back None = refl
time_back (Some time) = refl

run_back : (run : Option OpenRun) → option_and_then (optional_run newest_format) (of_kind row.RunOrNull (Some (run_tree run))) ≡ Some run
run_back None = refl
run_back (Some run) = refl

-- the letter of a result is one, and a byte of ASCII
pub letter_fits : (s : rules.State) → (is_letter (state_letter s) ≡ true) × (nat_lt (state_letter s) 128 ≡ true)
letter_fits =
    each_state (λ s. (is_letter (state_letter s) ≡ true) × (nat_lt (state_letter s) 128 ≡ true))
    (refl, refl) (refl, refl) (refl, refl) (refl, refl) (refl, refl) (refl, refl) (refl, refl)

letters_are : (results : List rules.State) → are_letters (letters_of results) ≡ true
letters_are [] = refl
letters_are (s ∷ ss) = rw ((letter_fits s).0) (letters_are ss)

letter_back : (host : Bool) (s : rules.State) → is_of_sort host s ≡ true → state_of_letter host (state_letter s) ≡ s
letter_back true =
    each_state (λ s. is_of_sort true s ≡ true → state_of_letter true (state_letter s) ≡ s) (λ e. cc) (λ e. cc) (λ e. cc) (λ e. cc) (λ e. refl) (λ e. refl) (λ e. refl)
letter_back false =
    each_state (λ s. is_of_sort false s ≡ true → state_of_letter false (state_letter s) ≡ s) (λ e. refl) (λ e. refl) (λ e. refl) (λ e. refl) (λ e. cc) (λ e. cc) (λ e. cc)

letters_back : (host : Bool) (results : List rules.State) → list_all (is_of_sort host) results ≡ true → results_of_letters host (letters_of results) ≡ results
letters_back host [] e = refl
letters_back host (s ∷ ss) e =
    let p = and_parts (is_of_sort host s) (list_all (is_of_sort host) ss) e in
    rw (letter_back host s p.0, letters_back host ss p.1) refl

text_back : (results : List rules.State)
    → (option_and_then as_str (of_kind row.Letters (Some (string (letters_of results)))) >=> only_letters) ≡ Some (letters_of results)
text_back results =
    let are = letters_are results in
    rw are (ap (λ b. cond b (Some (letters_of results)) None) are)

object_back : (o : SavedObject) → list_all (is_of_sort (is_host_name o.name)) o.results ≡ true → object_in newest_format (object_tree o) ≡ Some o
unfolding object_in object_of_values
object_back o sorted =
    let s = o.standing in
    rw (
      state_back s.state,
      kind_back s.kind,
      state_back s.last_hard,
      flapping_back s.flapping,
      text_back o.results,
      time_back o.scheduling.next,
      run_back o.scheduling.run,
      letters_back (is_host_name o.name) o.results sorted,
    ) refl

objects_back : (runs : ℕ) (objects : List SavedObject) (i : ℕ) → ((place : ℕ) (o : SavedObject) → slice_get objects place ≡ Some o → IsSavedObject runs o)
    → objects_from newest_format i (objects_tree objects) ≡ Ok objects
objects_back runs [] i each = refl
objects_back runs (o ∷ os) i each =
    rw (object_back o (each 0 o refl).results.sort, objects_back runs os (i + 1) (λ place x is. each (suc place) x is)) refl

pub draft_back : (saved : Saved) → IsSaved saved → draft_in (saved_tree saved) ≡ Ok saved
unfolding draft_of
draft_back saved h = rw (objects_back saved.runs saved.objects 0 h.each) refl
