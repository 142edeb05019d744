-- The code finds a repeat by one key after another: the first name that stood before, and the first run whose number another has.
use Rattle.std.proofs.Common.{◌≡◌, ℕ, ◌+◌, ◌<◌, ◌==◌, ◌||◌, Bor, bytes_eq, not, Bool, true, false, cond, List, [], ◌∷◌, ◌++◌, map, length, take, drop, get_or}
use Rattle.std.proofs.Common.{Option, Some, None, refl, sym, ap, ◌∙◌}
use Rattle.std.specs.List.{list_any}
use Rattle.std.proofs.lemmas.List.{map-append}
use Rattle.std.proofs.lemmas.List.Folds.{list_any-append}
use Rattle.setup_model.proofs.ListLemmas.{dropped_as, list_any-map, mapped_next}
use Rattle.setup_model.proofs.RepeatLemmas.{repeat_after}
use Rattle.check_saved_state.specs.Saved.{SavedObject}
use Rattle.check_saved_state.specs.Verification.{is_same_run, run_number}

here : {L : Type 0} (same : L → L → Bool) (before : List L) (l : L) (rest : List L) (i : ℕ) → list_any (same l) before ≡ true
    → repeat_after same before i (l ∷ rest) ≡ Some i
here same before l rest i known = rw known refl

later : {L : Type 0} (same : L → L → Bool) (before : List L) (l : L) (rest : List L) (i : ℕ) → list_any (same l) before ≡ false
    → repeat_after same before i (l ∷ rest) ≡ repeat_after same (before ++ l ∷ []) (i + 1) rest
later same before l rest i new = rw new refl

was_known : (b k : Bool) → b ≡ not k → b ≡ false → k ≡ true
was_known b true e f = refl
was_known b false e f = cc

was_new : (b k : Bool) → b ≡ not k → b ≡ true → k ≡ false
was_new b true e f = cc
was_new b false e f = refl

one_more : {A : Type 0} (known : Bool) (keys new : List A) (key : A) → new ≡ cond known keys (keys ++ key ∷ []) → known ≡ false → new ≡ keys ++ key ∷ []
one_more known keys new key e f = e ∙ ap (λ b. cond b keys (keys ++ key ∷ [])) f

-- ---- names

abbrev name_of : SavedObject → List ℕ
name_of o = o.name

abbrev texts : List (Bor (List ℕ)) → List (List ℕ)
texts keys = map (λ n. n.now) keys

has_name : (name : List ℕ) (keys : List (Bor (List ℕ))) (key : Bor (List ℕ)) (b : Bool) → key.now ≡ name → list_any (λ n. bytes_eq key.now n.now) keys ≡ b
    → list_any (bytes_eq name) (texts keys) ≡ b
has_name name keys key b same e = list_any-map (bytes_eq name) (λ n. n.now) keys ∙ ap (λ x. list_any (λ n. bytes_eq x n.now) keys) (sym same) ∙ e

names_dropped : (objects : List SavedObject) (i : ℕ) (o : SavedObject) → i < length objects → o ≡ get_or objects i o
    → map name_of (drop i objects) ≡ o.name ∷ map name_of (drop (i + 1) objects)
names_dropped objects i o below is = ap (map name_of) (dropped_as objects i o below is)

pub name_here : (objects : List SavedObject) (i : ℕ) (o : SavedObject) (keys : List (Bor (List ℕ))) (key : Bor (List ℕ)) (added : Bool)
    → i < length objects → o ≡ get_or objects i o → key.now ≡ o.name → added ≡ not (list_any (λ n. bytes_eq key.now n.now) keys) → added ≡ false
    → repeat_after bytes_eq (texts keys) i (map name_of (drop i objects)) ≡ Some i
name_here objects i o keys key added below is same e old =
    ap (repeat_after bytes_eq (texts keys) i) (names_dropped objects i o below is)
    ∙ here bytes_eq (texts keys) o.name (map name_of (drop (i + 1) objects)) i (has_name o.name keys key true same (was_known added _ e old))

pub name_later : (objects : List SavedObject) (i : ℕ) (o : SavedObject) (keys new : List (Bor (List ℕ))) (key : Bor (List ℕ)) (added : Bool)
    → i < length objects → o ≡ get_or objects i o → key.now ≡ o.name → added ≡ not (list_any (λ n. bytes_eq key.now n.now) keys) → added ≡ true
    → new ≡ cond (list_any (λ n. bytes_eq key.now n.now) keys) keys (keys ++ key ∷ [])
    → repeat_after bytes_eq (texts keys) i (map name_of (drop i objects)) ≡ repeat_after bytes_eq (texts new) (i + 1) (map name_of (drop (i + 1) objects))
name_later objects i o keys new key added below is same e fresh more =
    let apart = was_new added _ e fresh in
    let longer : texts new ≡ texts keys ++ o.name ∷ [] =
    ap texts (one_more _ keys new key more apart) ∙ map-append (λ n. n.now) keys (key ∷ []) ∙ ap (λ n. texts keys ++ n ∷ []) same in
    ap (repeat_after bytes_eq (texts keys) i) (names_dropped objects i o below is)
    ∙ later bytes_eq (texts keys) o.name (map name_of (drop (i + 1) objects)) i (has_name o.name keys key false same apart)
    ∙ ap (λ b. repeat_after bytes_eq b (i + 1) (map name_of (drop (i + 1) objects))) (sym longer)

-- ---- runs

-- the numbers that were met are those of the objects before
abbrev pub AreMet : List ℕ → List (Option ℕ) → Type 0
AreMet numbers before = (n : ℕ) → list_any (is_same_run (Some n)) before ≡ list_any (λ k. n == k) numbers

numbers_dropped : (objects : List SavedObject) (i : ℕ) (o : SavedObject) → i < length objects → o ≡ get_or objects i o
    → map run_number (drop i objects) ≡ run_number o ∷ map run_number (drop (i + 1) objects)
numbers_dropped objects i o below is = ap (map run_number) (dropped_as objects i o below is)

pub run_here : (objects : List SavedObject) (i : ℕ) (o : SavedObject) (numbers : List ℕ) (n : ℕ) (added : Bool)
    → i < length objects → o ≡ get_or objects i o → Some n ≡ run_number o → AreMet numbers (map run_number (take i objects))
    → added ≡ not (list_any (λ k. n == k) numbers) → added ≡ false
    → repeat_after is_same_run (map run_number (take i objects)) i (map run_number (drop i objects)) ≡ Some i
run_here objects i o numbers n added below is out met e old =
    let before = map run_number (take i objects) in
    ap (repeat_after is_same_run before i) (numbers_dropped objects i o below is)
    ∙ here is_same_run before (run_number o) (map run_number (drop (i + 1) objects)) i
    (ap (λ l. list_any (is_same_run l) before) (sym out) ∙ met n ∙ was_known added _ e old)

none_met : (before : List (Option ℕ)) → list_any (is_same_run None) before ≡ false
none_met [] = refl
none_met (x ∷ xs) = none_met xs

numbers_taken : (objects : List SavedObject) (i : ℕ) (o : SavedObject) → i < length objects → o ≡ get_or objects i o
    → map run_number (take (i + 1) objects) ≡ map run_number (take i objects) ++ run_number o ∷ []
numbers_taken objects i o below is = mapped_next run_number objects i o below is

on : (objects : List SavedObject) (i : ℕ) (o : SavedObject) → i < length objects → o ≡ get_or objects i o
    → list_any (is_same_run (run_number o)) (map run_number (take i objects)) ≡ false
    → repeat_after is_same_run (map run_number (take i objects)) i (map run_number (drop i objects))
    ≡ repeat_after is_same_run (map run_number (take (i + 1) objects)) (i + 1) (map run_number (drop (i + 1) objects))
on objects i o below is new =
    let before = map run_number (take i objects) in
    ap (repeat_after is_same_run before i) (numbers_dropped objects i o below is)
    ∙ later is_same_run before (run_number o) (map run_number (drop (i + 1) objects)) i new
    ∙ ap (λ b. repeat_after is_same_run b (i + 1) (map run_number (drop (i + 1) objects))) (sym (numbers_taken objects i o below is))

met_more : (objects : List SavedObject) (i : ℕ) (o : SavedObject) → i < length objects → o ≡ get_or objects i o → (m : ℕ)
    → list_any (is_same_run (Some m)) (map run_number (take (i + 1) objects))
    ≡ (list_any (is_same_run (Some m)) (map run_number (take i objects)) || (is_same_run (Some m) (run_number o) || false))
met_more objects i o below is m =
    ap (list_any (is_same_run (Some m))) (numbers_taken objects i o below is)
    ∙ list_any-append (is_same_run (Some m)) (map run_number (take i objects)) (run_number o ∷ [])

or_nothing : (b : Bool) → (b || (false || false)) ≡ b
or_nothing true = refl
or_nothing false = refl

-- an object that isn't out
pub run_none : (objects : List SavedObject) (i : ℕ) (o : SavedObject) (numbers : List ℕ)
    → i < length objects → o ≡ get_or objects i o → None ≡ run_number o → AreMet numbers (map run_number (take i objects))
    → (repeat_after is_same_run (map run_number (take i objects)) i (map run_number (drop i objects))
    ≡ repeat_after is_same_run (map run_number (take (i + 1) objects)) (i + 1) (map run_number (drop (i + 1) objects)))
    × AreMet numbers (map run_number (take (i + 1) objects))
run_none objects i o numbers below is out met = (
  on objects i o below is (ap (λ l. list_any (is_same_run l) (map run_number (take i objects))) (sym out) ∙ none_met (map run_number (take i objects))),
  λ m. met_more objects i o below is m
      ∙ ap (λ l. list_any (is_same_run (Some m)) (map run_number (take i objects)) || (is_same_run (Some m) l || false)) (sym out)
      ∙ or_nothing _ ∙ met m,
)

-- an object that is out under a number that was not met before
pub run_later : (objects : List SavedObject) (i : ℕ) (o : SavedObject) (numbers new : List ℕ) (n : ℕ) (added : Bool)
    → i < length objects → o ≡ get_or objects i o → Some n ≡ run_number o → AreMet numbers (map run_number (take i objects))
    → added ≡ not (list_any (λ k. n == k) numbers) → added ≡ true → new ≡ cond (list_any (λ k. n == k) numbers) numbers (numbers ++ n ∷ [])
    → (repeat_after is_same_run (map run_number (take i objects)) i (map run_number (drop i objects))
    ≡ repeat_after is_same_run (map run_number (take (i + 1) objects)) (i + 1) (map run_number (drop (i + 1) objects)))
    × AreMet new (map run_number (take (i + 1) objects))
run_later objects i o numbers new n added below is out met e fresh more =
    let apart = was_new added _ e fresh in
    let longer = one_more _ numbers new n more apart in (
      on objects i o below is (ap (λ l. list_any (is_same_run l) (map run_number (take i objects))) (sym out) ∙ met n ∙ apart),
      λ m. met_more objects i o below is m
          ∙ ap (λ l. list_any (is_same_run (Some m)) (map run_number (take i objects)) || (is_same_run (Some m) l || false)) (sym out)
          ∙ ap (λ b. b || (m == n || false)) (met m)
          ∙ sym (list_any-append (λ k. m == k) numbers (n ∷ [])) ∙ ap (list_any (λ k. m == k)) (sym longer),
    )
