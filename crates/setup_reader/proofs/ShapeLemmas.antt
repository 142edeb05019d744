-- An object has no fault by the table of members if and only if all its members are known, and each is fit.
use Rattle.std.proofs.Common.{◌≡◌, ℕ, suc, ◌+◌, ◌&&◌, not, Bool, true, false, cond, List, [], ◌∷◌, length, find, is_none, option_map, Option, Some}
use Rattle.std.proofs.Common.{None, refl, ap, ◌∙◌, arith}
use Rattle.std.specs.Prelude.{nat_lt}
use Rattle.std.specs.List.{list_all, position, prefix_len}
use Rattle.std.proofs.lemmas.Bool.Decides.{nat_tests}
use Rattle.serde_json.specs.Data.{Data, null, boolean, number, string, array, object, Members, no_members, member}
use Rattle.setup_model.specs.Fault as fault
use Rattle.setup_model.specs.Member.{Row}
use Rattle.setup_reader.specs.Shapes.{first_of, first_unknown, has_wrong_kind, is_missing, keys_in, names, member_fault, object_fault}
use Rattle.setup_reader.specs.JsonTree.{has_only_members, is_among, only_members}

-- ---- nothing is found if all pass

twice_not : (b : Bool) → not (not b) ≡ b
twice_not true = refl
twice_not false = refl

prefix_by : (b : Bool) (k n : ℕ) (rest : Bool) → nat_lt k n ≡ not rest → nat_lt (cond b (1 + k) 0) (suc n) ≡ not (b && rest)
prefix_by true k n true e = grind (arith, nat_tests, e)
prefix_by true k n false e = grind (arith, nat_tests, e)
prefix_by false k n rest e = grind (arith, nat_tests)

prefix_passes : {A : Type 0} (p : A → Bool) (xs : List A) → nat_lt (prefix_len p xs) (length xs) ≡ not (list_all p xs)
prefix_passes p [] = refl
prefix_passes p (x ∷ xs) = prefix_by (p x) (prefix_len p xs) (length xs) (list_all p xs) (prefix_passes p xs)

none_found_by : (b c : Bool) (i : ℕ) → b ≡ not c → is_none (cond b (Some i) None) ≡ c
none_found_by true true i e = cc
none_found_by true false i e = refl
none_found_by false true i e = refl
none_found_by false false i e = cc

no_position : {A : Type 0} (p : A → Bool) (xs : List A) → is_none (position (λ x. not (p x)) xs) ≡ list_all p xs
no_position p xs =
    let agree : (λ x. not (not (p x))) ≡ p = λ i x. twice_not (p x) i in
    none_found_by (nat_lt (prefix_len (λ x. not (not (p x))) xs) (length xs)) (list_all p xs) _
    (prefix_passes (λ x. not (not (p x))) xs ∙ ap (λ q. not (list_all q xs)) agree)

none_of_cond : {A : Type 0} (b : Bool) (x : A) (o : Option A) → is_none (cond b (Some x) o) ≡ (not b && is_none o)
none_of_cond true x o = refl
none_of_cond false x o = refl

pub no_find : {A : Type 0} (p : A → Bool) (xs : List A) → is_none (find p xs) ≡ list_all (λ x. not (p x)) xs
no_find p [] = refl
no_find p (x ∷ xs) = none_of_cond (p x) x (find p xs) ∙ ap (λ b. not (p x) && b) (no_find p xs)

pub none_of_first : {A : Type 0} (o other : Option A) → is_none (first_of o other) ≡ (is_none o && is_none other)
none_of_first None other = refl
none_of_first (Some x) other = refl

pub none_mapped : {A B : Type 0} (f : A → B) (o : Option A) → is_none (option_map f o) ≡ is_none o
none_mapped f None = refl
none_mapped f (Some x) = refl

-- ---- an object by its members

-- whether nothing is wrong with a member
abbrev pub is_fit : Data → Row → Bool
is_fit d m = not (is_missing d m) && not (has_wrong_kind d m)

keys_known : (known : List (List ℕ)) (ms : Members) → list_all (is_among known) (keys_in ms) ≡ only_members known ms
keys_known known no_members = refl
keys_known known (member k d ms) = ap (λ b. is_among known k && b) (keys_known known ms)

none_unknown : (known : List (List ℕ)) (ms : Members) → is_none (first_unknown known ms) ≡ only_members known ms
none_unknown known ms = no_position (is_among known) (keys_in ms) ∙ keys_known known ms

paired : (a b c d : Bool) → (a && c && (b && d)) ≡ ((a && b) && (c && d))
paired true true c d = refl
paired true false true d = refl
paired true false false d = refl
paired false b c d = refl

all_paired : {A : Type 0} (p q : A → Bool) (xs : List A) → (list_all p xs && list_all q xs) ≡ list_all (λ x. p x && q x) xs
all_paired p q [] = refl
all_paired p q (x ∷ xs) = paired (p x) (q x) (list_all p xs) (list_all q xs) ∙ ap (λ b. (p x && q x) && b) (all_paired p q xs)

three : (u : Option ℕ) (m f : Option Row) (a b c : Bool) → is_none u ≡ a → is_none m ≡ b → is_none f ≡ c
    → is_none (first_of (option_map fault.unknown u) (first_of (option_map fault.missing m) (option_map fault.wrong_kind f))) ≡ (a && (b && c))
three (Some i) m f a b c ea eb ec = rw (← ea) refl
three None (Some r) f a b c ea eb ec = rw (← ea, ← eb) refl
three None None (Some r) a b c ea eb ec = rw (← ea, ← eb, ← ec) refl
three None None None a b c ea eb ec = rw (← ea, ← eb, ← ec) refl

by_members : (ms : List Row) (d : Data) (inside : Members) → is_none (member_fault ms d inside) ≡ (only_members (names ms) inside && list_all (is_fit d) ms)
by_members ms d inside =
    three (first_unknown (names ms) inside) (find (is_missing d) ms) (find (has_wrong_kind d) ms) _ _ _
    (none_unknown (names ms) inside) (no_find (is_missing d) ms) (no_find (has_wrong_kind d) ms)
    ∙ ap (λ b. only_members (names ms) inside && b) (all_paired (λ m. not (is_missing d m)) (λ m. not (has_wrong_kind d m)) ms)

-- nothing is wrong with an object that has known members only, each of which is fit
pub by_table : (ms : List Row) (d : Data) → is_none (object_fault ms d) ≡ (has_only_members (names ms) d && list_all (is_fit d) ms)
by_table ms null = refl
by_table ms (boolean b) = refl
by_table ms (number n) = refl
by_table ms (string t) = refl
by_table ms (array ds) = refl
by_table ms (object inside) = by_members ms (object inside) inside
