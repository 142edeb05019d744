-- What a scheduler can go on from passes the tests.
use Rattle.std.proofs.Common.{◌≡◌, inl, inr, ℕ, zero, suc, ◌+◌, ◌^◌, ◌≤◌, ◌==◌, ◌&&◌, ◌||◌, bytes_eq, not, Bool, true, false, cond, List, [], ◌∷◌, ◌++◌, map}
use Rattle.std.proofs.Common.{length, take, drop}
use Rattle.std.proofs.Common.{Option, Some, None, option_map, Ok, refl, sym, ap, ◌∙◌, arith}
use Rattle.std.specs.Prelude.{nat_lt, nat_le, slice_get}
use Rattle.std.specs.List.{after_first, before_first, list_all, list_any, position, position_or_len, prefix_len}
use Rattle.std.specs.Str.{is_utf8}
use Rattle.std.proofs.lemmas.Bool.{and_parts, eqb-true}
use Rattle.std.proofs.lemmas.Bool.Decides.{nat_tests}
use Rattle.std.proofs.lemmas.List.Folds.{list_any-append}
use Rattle.std.proofs.lemmas.Slice.Eq.{bytes_eq-Decides}
use Rattle.setup_model.specs.Keys.{first_repeat}
use Rattle.setup_model.specs.Name.{has_name_bytes, is_host_name, is_name, is_name_byte}
use Rattle.setup_model.proofs.RepeatLemmas.{first_repeat_is, repeat_after}
use Rattle.check_states.specs.declared.standing.Standing.{Standing}
use Rattle.check_states.specs.declared.state.State as rules
use Rattle.check_states.specs.Flapping.{AreResultsFor}
use Rattle.check_states.specs.Standing.{IsStandingFor, pending_standing}
use Rattle.check_states.specs.State.{is_host_state, is_of_sort}
use Rattle.check_saved_state.specs.Saved.{IsFullName, IsSaved, IsSavedObject, Saved, SavedObject}
use Rattle.check_saved_state.specs.Scheduling.{OpenRun}
use Rattle.check_saved_state.specs.Verification.{is_possible, are_possible_results, is_possible_standing, is_like_pending, is_attempt, is_full_name}
use Rattle.check_saved_state.specs.Verification.{is_in_range, has_valid_run, is_same_run, is_semicolon, run_number, verified_saved}
use Rattle.check_saved_state.proofs.RangeLemmas.{attempt_by}

-- ---- each of a list

pub all_from : {A : Type 0} (p : A → Bool) (xs : List A) → ((i : ℕ) (o : A) → slice_get xs i ≡ Some o → p o ≡ true) → list_all p xs ≡ true
all_from p [] h = refl
all_from p (x ∷ xs) h = rw (h 0 x refl) (all_from p xs (λ i o e. h (suc i) o e))

none_by : {A : Type 0} (p : A → Bool) (x : A) (xs : List A) (b : Bool) → b ≡ true → nat_lt (prefix_len (λ y. not (not (p y))) xs) (length xs) ≡ false
    → nat_lt (cond (not (not b)) (1 + prefix_len (λ y. not (not (p y))) xs) 0) (suc (length xs)) ≡ false
none_by p x xs true e h = grind (arith, nat_tests, h)
none_by p x xs false e h = cc

not_before : {A : Type 0} (p : A → Bool) (xs : List A) → list_all p xs ≡ true → nat_lt (prefix_len (λ y. not (not (p y))) xs) (length xs) ≡ false
not_before p [] e = refl
not_before p (x ∷ xs) e = let a = and_parts (p x) (list_all p xs) e in none_by p x xs (p x) a.0 (not_before p xs a.1)

-- where all pass a test, there is no place of one that doesn't
pub no_place : {A : Type 0} (p : A → Bool) (xs : List A) → list_all p xs ≡ true → position (λ y. not (p y)) xs ≡ None
no_place p xs e = rw (not_before p xs e) refl

-- ---- no key twice

either_false : (b : Bool) → (b ≡ true → ⊥) → b ≡ false
either_false true h = absurd (h refl)
either_false false h = refl

both_false : (a b : Bool) → a ≡ false → b ≡ false → (a || (b || false)) ≡ false
both_false a b e f = rw (e, f) refl

module _ {K : Type 0} (same : K → K → Bool) where
  none_twice : (before keys : List K) (i : ℕ) → ((j : ℕ) (k : K) → slice_get keys j ≡ Some k → list_any (same k) before ≡ false)
      → ((one other : ℕ) (k l : K) → slice_get keys one ≡ Some k → slice_get keys other ≡ Some l → same k l ≡ true → one ≡ other)
      → repeat_after same before i keys ≡ None
  none_twice before [] i new apart = refl
  none_twice before (key ∷ keys) i new apart =
      rw (new 0 key refl)
      (none_twice (before ++ key ∷ []) keys (i + 1)
      (λ j k e. list_any-append (same k) before (key ∷ [])
      ∙ both_false (list_any (same k) before) (same k key) (new (suc j) k e)
      (either_false (same k key) (λ h. let n : suc j ≡ 0 = apart (suc j) 0 k key e refl h in absurd (omega arith))))
      (λ one other k l e f h. let n : suc one ≡ suc other = apart (suc one) (suc other) k l e f h in omega arith))

  pub no_repeat : (keys : List K) → ((one other : ℕ) (k l : K) → slice_get keys one ≡ Some k → slice_get keys other ≡ Some l → same k l ≡ true → one ≡ other)
      → first_repeat same keys ≡ None
  no_repeat keys apart = first_repeat_is same keys ∙ none_twice [] keys 0 (λ j k e. refl) apart

-- a key of a list that is mapped is one of an item
pub item_at : {A B : Type 0} (f : A → B) (xs : List A) (i : ℕ) (k : B) → slice_get (map f xs) i ≡ Some k → (o : A) × (slice_get xs i ≡ Some o) × (f o ≡ k)
item_at f [] i k e = cc
item_at f (x ∷ xs) zero k e = (x, refl, cc)
item_at f (x ∷ xs) (suc i) k e = item_at f xs i k e

-- ---- names

not_semicolon : (b : ℕ) → is_name_byte b ≡ true → not (b == 59) ≡ true
not_semicolon b e = (and_parts (nat_le 32 b && not (b == 127)) (not (b == 59)) e).1

host_bytes : (name : List ℕ) → list_all is_name_byte name ≡ true → is_host_name name ≡ true
host_bytes [] e = refl
host_bytes (b ∷ bs) e =
    let a = and_parts (is_name_byte b) (list_all is_name_byte bs) e in
    rw (not_semicolon b a.0) (host_bytes bs a.1)

pub name_is_host : (name : List ℕ) → is_name name ≡ true → is_host_name name ≡ true
name_is_host name e =
    let bytes = and_parts (is_utf8 name) (has_name_bytes name) e in
    host_bytes name (and_parts (nat_le 1 (length name) && nat_le (length name) 255) (list_all is_name_byte name) bytes.1).1

one_more : (n : ℕ) → 1 + n ≡ suc n
one_more n = omega arith

parted : (host description : List ℕ) → is_host_name host ≡ true
    → (is_host_name (host ++ 59 ∷ description) ≡ false) × (position_or_len is_semicolon (host ++ 59 ∷ description) ≡ length host)
parted [] description e = (refl, refl)
parted (b ∷ bs) description e =
    let a = and_parts (not (b == 59)) (is_host_name bs) e in
    let more = parted bs description a.1 in
    (rw a.0 more.0, rw a.0 (ap (λ n. 1 + n) more.1 ∙ one_more (length bs)))

taken : (host more : List ℕ) → take (length host) (host ++ more) ≡ host
taken [] more = refl
taken (b ∷ bs) more = ap (λ l. b ∷ l) (taken bs more)

dropped : (host : List ℕ) (b : ℕ) (more : List ℕ) → drop (length host + 1) (host ++ b ∷ more) ≡ more
dropped [] b more = refl
dropped (h ∷ hs) b more = ap (λ n. drop n (h ∷ (hs ++ b ∷ more))) (let e : suc (length hs) + 1 ≡ suc (length hs + 1) = omega arith in e) ∙ dropped hs b more

full_by : (name host description : List ℕ) → name ≡ host ++ 59 ∷ description → is_name host ≡ true → is_name description ≡ true → is_full_name name ≡ true
full_by name host description same e f =
    let parts = parted host description (name_is_host host e) in
    let before : before_first is_semicolon (host ++ 59 ∷ description) ≡ host =
    ap (λ n. take n (host ++ 59 ∷ description)) parts.1 ∙ taken host (59 ∷ description) in
    let after : after_first is_semicolon (host ++ 59 ∷ description) ≡ description =
    ap (λ n. drop (n + 1) (host ++ 59 ∷ description)) parts.1 ∙ dropped host 59 description in
    ap is_full_name same
    ∙ ap (λ b. cond b (is_name (host ++ 59 ∷ description))
    (is_name (before_first is_semicolon (host ++ 59 ∷ description)) && is_name (after_first is_semicolon (host ++ 59 ∷ description)))) parts.0
    ∙ ap (λ l. is_name l && is_name (after_first is_semicolon (host ++ 59 ∷ description))) before
    ∙ ap (λ l. is_name host && is_name l) after ∙ rw (e, f) refl

pub is_full : (name : List ℕ) → IsFullName name → is_full_name name ≡ true
is_full name (inl e) = rw (name_is_host name e) e
is_full name (inr (host, description, same, e, f)) = full_by name host description same e f

-- ---- standings and results

pub of_sort : (host : Bool) (s : rules.State) → is_host_state s ≡ host → is_of_sort host s ≡ true
of_sort true s e = e
of_sort false s e = rw e refl

pending_fine : (host : Bool) → is_like_pending (pending_standing host) ≡ true
pending_fine true = refl
pending_fine false = refl

or_pending : (b p : Bool) → (b ≡ false → p ≡ true) → (b || p) ≡ true
or_pending true p h = refl
or_pending false p h = h refl

stands : (host : Bool) (max : ℕ) (s : Standing) → IsStandingFor host max s → is_possible_standing host max s ≡ true
stands host max s h =
    let until : (s.checked || is_like_pending s) ≡ true =
    or_pending s.checked (is_like_pending s) (λ e. ap is_like_pending (h.until_checked e) ∙ pending_fine host) in
    rw (h.lawful, of_sort host s.state h.sort, of_sort host s.last_hard h.last_hard_sort, until) refl

has_results : (host : Bool) (results : List rules.State) → AreResultsFor host results → are_possible_results host results ≡ true
has_results host results h =
    let bounded = h.bounded in
    let test : nat_le (length results) 21 ≡ true = grind (arith, nat_tests, bounded) in
    rw (test, h.sort) refl

numbered : (runs : ℕ) (o : Option OpenRun) → ((run : ℕ) → option_map (λ r. r.number) o ≡ Some run → (1 ≤ run) × (run ≤ runs)) → has_valid_run runs o ≡ true
numbered runs None h = refl
numbered runs (Some r) h =
    let p = h r.number refl in
    let low = p.0 in
    let high = p.1 in
    let a : nat_le 1 r.number ≡ true = grind (arith, nat_tests, low) in
    let b : nat_le r.number runs ≡ true = grind (arith, nat_tests, high) in
    rw (a, b) refl

lawful : (runs : ℕ) (o : SavedObject) → IsSavedObject runs o → is_possible runs o ≡ true
lawful runs o h =
    rw (
      stands (is_host_name o.name) o.max_attempts o.standing h.standing,
      has_results (is_host_name o.name) o.results h.results,
      numbered runs o.scheduling.run h.numbered,
      h.timed,
    ) refl

attempt : (n : ℕ) → 1 ≤ n → n ≤ 255 → is_attempt n ≡ true
attempt n low high =
    let a : nat_le 1 n ≡ true = grind (arith, nat_tests, low) in
    let b : nat_le n 255 ≡ true = grind (arith, nat_tests, high) in
    rw (a, b) refl

ranged : (runs : ℕ) (o : SavedObject) → IsSavedObject runs o → is_in_range o ≡ true
ranged runs o h =
    let a = attempt_by o.standing o.max_attempts h.standing.lawful h.nonzero_attempts h.bounded_attempts in
    let interval = h.interval in
    let short : nat_le o.interval 45411840000000 ≡ true = grind (arith, nat_tests, interval) in
    rw (attempt o.standing.attempt a.0 a.1, attempt o.max_attempts h.nonzero_attempts h.bounded_attempts, h.in_time, short) refl

-- ---- all of it

bounded : (n : ℕ) → n ≤ 4096 → nat_lt 4096 n ≡ false
bounded n h = grind (arith, nat_tests, h)

early : (n m : ℕ) → n ≤ m → nat_lt m n ≡ false
early n m h = grind (arith, nat_tests, h)

run_of_same : (x y : Option ℕ) → is_same_run x y ≡ true → (n : ℕ) × (x ≡ Some n) × (y ≡ Some n)
run_of_same None y e = cc
run_of_same (Some n) None e = cc
run_of_same (Some n) (Some m) e = let same : n ≡ m = eqb-true n m e in (n, refl, ap Some (sym same))

pub verified_is : (saved : Saved) → IsSaved saved → verified_saved saved ≡ Ok saved
verified_is saved h =
    let objects = saved.objects in
    let names = no_place (λ o. is_full_name o.name) objects (all_from (λ o. is_full_name o.name) objects (λ i o e. is_full o.name (h.each i o e).name)) in
    let numbers = no_place is_in_range objects (all_from is_in_range objects (λ i o e. ranged saved.runs o (h.each i o e))) in
    let all_lawful = no_place (is_possible saved.runs) objects (all_from (is_possible saved.runs) objects (λ i o e. lawful saved.runs o (h.each i o e))) in
    let distinct = no_repeat bytes_eq (map (λ o. o.name) objects) (λ one other k l e f same.
    let x = item_at (λ o. o.name) objects one k e in
    let y = item_at (λ o. o.name) objects other l f in
    h.apart one other x.0 y.0 x.1 y.1 (x.2 ∙ (bytes_eq-Decides k l).0 same ∙ sym y.2)) in
    let once = no_repeat is_same_run (map run_number objects) (λ one other k l e f same.
    let x = item_at run_number objects one k e in
    let y = item_at run_number objects other l f in
    let n = run_of_same k l same in
    h.once one other n.0 x.0 y.0 x.1 y.1 (x.2 ∙ n.1) (y.2 ∙ n.2)) in
    rw (bounded (length objects) h.bounded, names, distinct, early saved.start (2 ^ 60) h.start, early saved.runs (2 ^ 60) h.runs, numbers, all_lawful, once) refl
