-- What passes the tests is something that a scheduler can go on from.
use Rattle.std.proofs.Common.{◌≡◌, inl, inr, ℕ, zero, suc, ◌+◌, ◌^◌, ◌<◌, ◌≤◌, ◌==◌, ◌&&◌, ◌||◌, bytes_eq, not, Bool, true, false, cond, List, [], ◌∷◌, ◌++◌}
use Rattle.std.proofs.Common.{map, length, get_or}
use Rattle.std.proofs.Common.{eq-eqb, Option, Some, None, option_map, subst, Result, Ok, Err, refl, sym, ap, ◌∙◌, arith}
use Rattle.std.specs.Prelude.{nat_lt, nat_le, slice_get}
use Rattle.serde_json.specs.Data.{Data}
use Rattle.check_saved_state.specs.Reading.{draft_in, format_test}
use Rattle.check_saved_state.specs.Text.{saved_of_text, saved_of_tree, saved_tree_of}
use Rattle.std.specs.List.{after_first, before_first, list_all, list_any, position, position_or_len}
use Rattle.std.proofs.lemmas.Bool.{and_parts, cases_lt, eqb-true, leb-true, not-true, or_parts}
use Rattle.std.proofs.lemmas.Bool.Decides.{nat_tests}
use Rattle.std.proofs.lemmas.List.Folds.{list_any-append}
use Rattle.std.proofs.lemmas.List.Sums.{passes_at_first, prefix_len-le-length, split_at_first}
use Rattle.std.proofs.lemmas.Slice.Eq.{bytes_eq-Decides}
use Rattle.setup_model.specs.Agreement.{◌>>=◌, error_at}
use Rattle.setup_model.specs.Keys.{first_repeat}
use Rattle.setup_model.specs.Name.{is_host_name, is_name}
use Rattle.setup_model.proofs.RefusalLemmas.{all_by_position, first_ok, nowhere, rest_ok}
use Rattle.setup_model.proofs.RepeatLemmas.{first_repeat_is, repeat_after}
use Rattle.check_states.specs.declared.standing.Kind.{Kind}
use Rattle.check_states.specs.declared.standing.Kind.TheVariants as kind
use Rattle.check_states.specs.declared.standing.Standing.{Standing}
use Rattle.check_states.specs.declared.state.State as rules
use Rattle.check_states.proofs.Cases.{each_state}
use Rattle.check_states.specs.Flapping.{AreResultsFor}
use Rattle.check_states.specs.Standing.{IsStandingFor, is_lawful, pending_standing}
use Rattle.check_states.specs.State.{ok_or_up_state, is_host_state, is_of_sort, is_problem}
use Rattle.check_saved_state.specs.declared.fault.SavedFault.{SavedFault}
use Rattle.check_saved_state.specs.declared.fault.SavedFault.TheVariants as faults
use Rattle.check_saved_state.specs.Saved.{IsFullName, IsSaved, IsSavedObject, Saved, SavedObject}
use Rattle.check_saved_state.specs.Scheduling.{OpenRun, is_in_time, is_timed_if_forced}
use Rattle.check_states.specs.Times.{earlier}
use Rattle.check_saved_state.specs.Verification.{is_possible, are_possible_results, is_possible_standing, distinct_names_test, object_count_test, names_test}
use Rattle.check_saved_state.specs.Verification.{is_like_pending, is_attempt}
use Rattle.check_saved_state.specs.Verification.{is_full_name, is_hard, is_in_range, has_valid_run, is_same_run, is_semicolon, possible_objects_test}
use Rattle.check_saved_state.specs.Verification.{run_number}
use Rattle.check_saved_state.specs.Verification.{draft_test, verified_saved}
use Rattle.check_saved_state.proofs.NameLemmas.{all_by_prefix}

-- ---- nothing was refused

few_by : (b : Bool) (n : ℕ) (y : Result (Unit {0}) SavedFault) → y ≡ Ok tt → nat_lt 4096 n ≡ b → cond b (Err faults.TooMany) (Ok tt) ≡ y → n ≤ 4096
few_by true n y o t e = cc
few_by false n y o t e = grind (arith, nat_tests, t)

ranged_by : (a b : Bool) (o : Option ℕ) → cond (a || b) (Err (faults.Range None)) (error_at (λ i. faults.Range (Some i)) o) ≡ Ok tt
    → (a ≡ false) × (b ≡ false) × (o ≡ None)
ranged_by true b o e = cc
ranged_by false true o e = cc
ranged_by false false o e = (refl, refl, nowhere (λ i. faults.Range (Some i)) o e)

neither : (one other : Option ℕ) → earlier one other ≡ None → (one ≡ None) × (other ≡ None)
neither None other e = (refl, e)
neither (Some i) None e = cc
neither (Some i) (Some j) e = cc

within : (n m : ℕ) → nat_lt m n ≡ false → n ≤ m
within n m e = grind (arith, nat_tests, e)

-- ---- each of a list

pub all_at : {A : Type 0} (p : A → Bool) (xs : List A) (i : ℕ) (o : A) → list_all p xs ≡ true → slice_get xs i ≡ Some o → p o ≡ true
all_at p [] i o a e = cc
all_at p (x ∷ xs) zero o a e = let same : x ≡ o = cc in ap p (sym same) ∙ (and_parts (p x) (list_all p xs) a).0
all_at p (x ∷ xs) (suc i) o a e = all_at p xs i o (and_parts (p x) (list_all p xs) a).1 e

pub mapped_at : {A B : Type 0} (f : A → B) (xs : List A) (i : ℕ) (o : A) → slice_get xs i ≡ Some o → slice_get (map f xs) i ≡ Some (f o)
mapped_at f [] i o e = cc
mapped_at f (x ∷ xs) zero o e = let same : x ≡ o = cc in ap (λ y. Some (f y)) same
mapped_at f (x ∷ xs) (suc i) o e = mapped_at f xs i o e

-- ---- no key twice

unmet_by : (b : Bool) (i : ℕ) (rest : Option ℕ) → cond b (Some i) rest ≡ None → (b ≡ false) × (rest ≡ None)
unmet_by true i rest e = cc
unmet_by false i rest e = (refl, e)

module _ {K : Type 0} (same : K → K → Bool) where
  unmet : (before keys : List K) (i j : ℕ) (k : K) → repeat_after same before i keys ≡ None → slice_get keys j ≡ Some k → list_any (same k) before ≡ false
  unmet before [] i j k none e = cc
  unmet before (key ∷ keys) i zero k none e =
      let is : key ≡ k = cc in
      ap (λ x. list_any (same x) before) (sym is) ∙ (unmet_by (list_any (same key) before) i (repeat_after same (before ++ key ∷ []) (i + 1) keys) none).0
  unmet before (key ∷ keys) i (suc j) k none e =
      let rest = (unmet_by (list_any (same key) before) i (repeat_after same (before ++ key ∷ []) (i + 1) keys) none).1 in
      let longer = unmet (before ++ key ∷ []) keys (i + 1) j k rest e in
      (or_parts (list_any (same k) before) (list_any (same k) (key ∷ [])) (sym (list_any-append (same k) before (key ∷ [])) ∙ longer)).0

  unmet_last : (before keys : List K) (i j : ℕ) (key k : K) → repeat_after same before i (key ∷ keys) ≡ None → slice_get keys j ≡ Some k → same k key ≡ false
  unmet_last before keys i j key k none e =
      let rest = (unmet_by (list_any (same key) before) i (repeat_after same (before ++ key ∷ []) (i + 1) keys) none).1 in
      let longer = unmet (before ++ key ∷ []) keys (i + 1) j k rest e in
      let last = (or_parts (list_any (same k) before) (list_any (same k) (key ∷ [])) (sym (list_any-append (same k) before (key ∷ [])) ∙ longer)).1 in
      (or_parts (same k key) false last).0

  apart_by : (before keys : List K) (i one other : ℕ) (k l : K) → repeat_after same before i keys ≡ None → slice_get keys one ≡ Some k
      → slice_get keys other ≡ Some l → same k l ≡ true → same l k ≡ true → one ≡ other
  apart_by before [] i one other k l none e f s t = cc
  apart_by before (key ∷ keys) i zero zero k l none e f s t = refl
  apart_by before (key ∷ keys) i zero (suc other) k l none e f s t =
      let is : key ≡ k = cc in
      let no = unmet_last before keys i other key l none f in
      let is_same_key : same l key ≡ true = ap (same l) is ∙ t in
      cc
  apart_by before (key ∷ keys) i (suc one) zero k l none e f s t =
      let is : key ≡ l = cc in
      let no = unmet_last before keys i one key k none e in
      let is_same_key : same k key ≡ true = ap (same k) is ∙ s in
      cc
  apart_by before (key ∷ keys) i (suc one) (suc other) k l none e f s t =
      let rest = (unmet_by (list_any (same key) before) i (repeat_after same (before ++ key ∷ []) (i + 1) keys) none).1 in
      ap suc (apart_by (before ++ key ∷ []) keys (i + 1) one other k l rest e f s t)

  -- two places of keys that are the same are one, where no key stands twice
  pub apart_keys : (keys : List K) (one other : ℕ) (k l : K) → first_repeat same keys ≡ None → slice_get keys one ≡ Some k → slice_get keys other ≡ Some l
      → same k l ≡ true → same l k ≡ true → one ≡ other
  apart_keys keys one other k l none e f s t = apart_by [] keys 0 one other k l (sym (first_repeat_is same keys) ∙ none) e f s t

-- ---- names

host_by : (name : List ℕ) (b : Bool) → is_host_name name ≡ b
    → cond b (is_name name) (is_name (before_first is_semicolon name) && is_name (after_first is_semicolon name)) ≡ true → IsFullName name
host_by name true h e = inl e
host_by name false h e =
    let parts = and_parts (is_name (before_first is_semicolon name)) (is_name (after_first is_semicolon name)) e in
    let n = position_or_len is_semicolon name in
    let most = prefix_len-le-length (λ b. not (b == 59)) name in
    let inside : n < length name = elim (cases_lt n (length name)) [
      | inl below ↦ below
      | inr past ↦ let all : is_host_name name ≡ true = all_by_prefix (λ b. not (b == 59)) name (omega arith) in absurd (cc)
    ] in
    let at : get_or name n 0 ≡ 59 = eqb-true (get_or name n 0) 59 (passes_at_first is_semicolon name 0 inside) in
    inr (
      before_first is_semicolon name,
      after_first is_semicolon name,
      split_at_first is_semicolon name 0 inside ∙ ap (λ b. before_first is_semicolon name ++ b ∷ after_first is_semicolon name) at,
      parts.0,
      parts.1,
    )

pub full_name_by : (name : List ℕ) → is_full_name name ≡ true → IsFullName name
full_name_by name e = host_by name (is_host_name name) refl e

-- ---- standings and results

sort_by : (host : Bool) (s : rules.State) → is_of_sort host s ≡ true → is_host_state s ≡ host
sort_by true s e = e
sort_by false s e = not-true (is_host_state s) e

fine_by : (host : Bool) (s : rules.State) → is_of_sort host s ≡ true → not (is_problem s) ≡ true → s ≡ ok_or_up_state host
fine_by true =
    each_state (λ s. is_of_sort true s ≡ true → not (is_problem s) ≡ true → s ≡ ok_or_up_state true) (λ e f. cc) (λ e f. cc) (λ e f. cc) (λ e f. cc) (λ e f. refl)
    (λ e f. cc) (λ e f. cc)
fine_by false =
    each_state (λ s. is_of_sort false s ≡ true → not (is_problem s) ≡ true → s ≡ ok_or_up_state false) (λ e f. refl) (λ e f. cc) (λ e f. cc) (λ e f. cc) (λ e f. cc)
    (λ e f. cc) (λ e f. cc)

hard_by : (k : Kind) → is_hard k ≡ true → k ≡ kind.Hard
hard_by kind.Soft e = cc
hard_by kind.Hard e = refl

pending_by : (host checked flapping : Bool) (s last_hard : rules.State) (k : Kind) (attempt : ℕ) → checked ≡ false → s ≡ ok_or_up_state host → k ≡ kind.Hard
    → attempt ≡ 1 → last_hard ≡ ok_or_up_state host → flapping ≡ false
    → record { checked = checked; state = s; kind = k; attempt = attempt; last_hard = last_hard; flapping = flapping } ≡ pending_standing host
pending_by host checked flapping s last_hard k attempt a b c d e f = rw (a, b, c, d, e, f) refl

or_second : (a b : Bool) → (a || b) ≡ true → a ≡ false → b ≡ true
or_second true b e f = cc
or_second false b e f = e

pub standing_by : (host : Bool) (max : ℕ) (s : Standing) → is_possible_standing host max s ≡ true → IsStandingFor host max s
standing_by host max s e =
    let a = and_parts (is_lawful s max && is_of_sort host s.state && is_of_sort host s.last_hard) (s.checked || is_like_pending s) e in
    let b = and_parts (is_lawful s max && is_of_sort host s.state) (is_of_sort host s.last_hard) a.0 in
    let c = and_parts (is_lawful s max) (is_of_sort host s.state) b.0 in
    record {
      lawful = c.0;
      sort = sort_by host s.state c.1;
      last_hard_sort = sort_by host s.last_hard b.1;
      until_checked = λ unchecked.
          let pending = or_second s.checked (is_like_pending s) a.1 unchecked in
          let f = and_parts (not (is_problem s.state) && is_hard s.kind && s.attempt == 1 && not (is_problem s.last_hard)) (not s.flapping) pending in
          let l = and_parts (not (is_problem s.state) && is_hard s.kind && s.attempt == 1) (not (is_problem s.last_hard)) f.0 in
          let n = and_parts (not (is_problem s.state) && is_hard s.kind) (s.attempt == 1) l.0 in
          let k = and_parts (not (is_problem s.state)) (is_hard s.kind) n.0 in
          pending_by host s.checked s.flapping s.state s.last_hard s.kind s.attempt unchecked (fine_by host s.state c.1 k.0) (hard_by s.kind k.1)
          (eqb-true s.attempt 1 n.1) (fine_by host s.last_hard b.1 l.1) (not-true s.flapping f.1);
    }

pub results_by : (host : Bool) (results : List rules.State) → are_possible_results host results ≡ true → AreResultsFor host results
results_by host results e =
    let a = and_parts (nat_le (length results) 21) (list_all (is_of_sort host) results) e in
    record { bounded = leb-true (length results) 21 a.0; sort = a.1 }

numbered_by : (runs : ℕ) (o : Option OpenRun) → has_valid_run runs o ≡ true → (run : ℕ) → option_map (λ r. r.number) o ≡ Some run → (1 ≤ run) × (run ≤ runs)
numbered_by runs None e run is = cc
numbered_by runs (Some r) e run is =
    let a = and_parts (nat_le 1 r.number) (nat_le r.number runs) e in
    let low = leb-true 1 r.number a.0 in
    let high = leb-true r.number runs a.1 in
    let same : r.number ≡ run = cc in
    (omega arith, omega arith)

pub object_by : (runs : ℕ) (o : SavedObject) → is_full_name o.name ≡ true → is_in_range o ≡ true → is_possible runs o ≡ true → IsSavedObject runs o
object_by runs o named ranged lawful =
    let host = is_host_name o.name in
    let few = and_parts (is_attempt o.standing.attempt && is_attempt o.max_attempts && is_in_time o.scheduling) (nat_le o.interval 45411840000000) ranged in
    let a = and_parts (is_attempt o.standing.attempt && is_attempt o.max_attempts) (is_in_time o.scheduling) few.0 in
    let b = and_parts (is_attempt o.standing.attempt) (is_attempt o.max_attempts) a.0 in
    let m = and_parts (nat_le 1 o.max_attempts) (nat_le o.max_attempts 255) b.1 in
    let c = and_parts (is_possible_standing host o.max_attempts o.standing && are_possible_results host o.results && has_valid_run runs o.scheduling.run)
    (is_timed_if_forced o.scheduling) lawful in
    let d = and_parts (is_possible_standing host o.max_attempts o.standing && are_possible_results host o.results) (has_valid_run runs o.scheduling.run) c.0 in
    let e = and_parts (is_possible_standing host o.max_attempts o.standing) (are_possible_results host o.results) d.0 in
    record {
      name = full_name_by o.name named;
      standing = standing_by host o.max_attempts o.standing e.0;
      results = results_by host o.results e.1;
      in_time = a.1;
      timed = c.1;
      numbered = numbered_by runs o.scheduling.run d.1;
      nonzero_attempts = leb-true 1 o.max_attempts m.0;
      bounded_attempts = leb-true o.max_attempts 255 m.1;
      interval = leb-true o.interval 45411840000000 few.1;
    }

-- ---- all of it

same_number : (x y : Option ℕ) (run : ℕ) → x ≡ Some run → y ≡ Some run → is_same_run x y ≡ true
same_number x y run e f = rw (e, f) (eq-eqb run run refl)

pub saved_by : (saved : Saved) → draft_test saved ≡ Ok tt → possible_objects_test saved.runs saved.objects ≡ Ok tt → IsSaved saved
saved_by saved tested lawful =
    let objects = saved.objects in
    let bounded = first_ok (object_count_test objects) _ tt tested in
    let after_count = rest_ok (object_count_test objects) _ tt tested in
    let named = first_ok (names_test objects) _ tt after_count in
    let after_names = rest_ok (names_test objects) _ tt after_count in
    let distinct = first_ok (distinct_names_test objects) _ tt after_names in
    let ranged = rest_ok (distinct_names_test objects) _ tt after_names in
    let ranges = ranged_by (nat_lt (2 ^ 60) saved.start) (nat_lt (2 ^ 60) saved.runs) (position (λ o. not (is_in_range o)) objects) ranged in
    let places = neither (position (λ o. not (is_possible saved.runs o)) objects) (first_repeat is_same_run (map run_number objects))
    (nowhere faults.Unlawful _ lawful) in
    let names = all_by_position (λ o. is_full_name o.name) objects (nowhere faults.BadName _ named) in
    let numbers = all_by_position is_in_range objects ranges.2 in
    let all_lawful = all_by_position (is_possible saved.runs) objects places.0 in
    let once = nowhere faults.Duplicate _ distinct in
    record {
      bounded = few_by (nat_lt 4096 (length objects)) (length objects) (Ok tt) refl refl bounded;
      start = within saved.start (2 ^ 60) ranges.0;
      runs = within saved.runs (2 ^ 60) ranges.1;
      each = λ place o is.
          object_by saved.runs o (all_at (λ x. is_full_name x.name) objects place o names is) (all_at is_in_range objects place o numbers is)
          (all_at (is_possible saved.runs) objects place o all_lawful is);
      apart = λ one other o p e f same.
          apart_keys bytes_eq (map (λ x. x.name) objects) one other o.name p.name once (mapped_at (λ x. x.name) objects one o e)
          (mapped_at (λ x. x.name) objects other p f) ((bytes_eq-Decides o.name p.name).1 same) ((bytes_eq-Decides p.name o.name).1 (sym same));
      once = λ one other run o p e f is also.
          apart_keys is_same_run (map run_number objects) one other (run_number o) (run_number p) places.1 (mapped_at run_number objects one o e)
          (mapped_at run_number objects other p f) (same_number (run_number o) (run_number p) run is also)
          (same_number (run_number p) (run_number o) run also is);
    }

-- ---- what is read

pub next : {A B E : Type 0} (r : Result A E) (f : A → Result B E) (b : B) (P : Type 0) → ((a : A) → r ≡ Ok a → f a ≡ Ok b → P) → (r >>= f) ≡ Ok b → P
next (Ok a) f b P h e = h a refl e
next (Err x) f b P h e = cc

-- what passes the tests stays as it is
pub verified_same : (draft saved : Saved) → verified_saved draft ≡ Ok saved → draft ≡ saved
verified_same draft saved e =
    let more = rest_ok (draft_test draft) (λ _. possible_objects_test draft.runs draft.objects >>= λ _. Ok draft) saved e in
    let last = rest_ok (possible_objects_test draft.runs draft.objects) (λ _. Ok draft) saved more in
    cc

verified_by : (draft saved : Saved) → verified_saved draft ≡ Ok saved → IsSaved saved
verified_by draft saved e =
    let tested = first_ok (draft_test draft) (λ _. possible_objects_test draft.runs draft.objects >>= λ _. Ok draft) saved e in
    let more = rest_ok (draft_test draft) (λ _. possible_objects_test draft.runs draft.objects >>= λ _. Ok draft) saved e in
    let lawful = first_ok (possible_objects_test draft.runs draft.objects) (λ _. Ok draft) saved more in
    subst IsSaved (verified_same draft saved e) (saved_by draft tested lawful)

tree_by : (tree : Data) (saved : Saved) → saved_of_tree tree ≡ Ok saved → IsSaved saved
tree_by tree saved e =
    next (format_test tree) (λ _. draft_in tree >>= verified_saved) saved (IsSaved saved) (λ u f more.
    next (draft_in tree) verified_saved saved (IsSaved saved) (λ draft d last. verified_by draft saved last) more) e

pub read_by : (text : List ℕ) (saved : Saved) → saved_of_text text ≡ Ok saved → IsSaved saved
read_by text saved e = next (saved_tree_of text) saved_of_tree saved (IsSaved saved) (λ tree t more. tree_by tree saved more) e
