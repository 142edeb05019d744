-- Chains of links: an order has none as long as it is, and objects that each link to another of them have chains of
-- every length.
use Rattle.std.proofs.Common.{◌≡◌, ℕ, zero, suc, ◌+◌, ◌<◌, ◌==◌, ◌||◌, Bool, true, false, not, cond, List, [], ◌∷◌, ◌++◌, length, refl, ap, arith}
use Rattle.std.proofs.Common.{append_assoc, append-nil, inl, inr}
use Rattle.std.specs.Prelude.{nat_lt}
use Rattle.std.specs.List.{list_any, list_all}
use Rattle.std.proofs.lemmas.Bool.{eqb-true, cases_lt}
use Rattle.std.proofs.lemmas.List.Folds.{list_all-append}
use Rattle.setup_order.specs.Cycles.{links_of, are_within, deep, any_below, has_cycle}
use Rattle.setup_order.specs.Orders.{is_among, occurrences, is_topological, IsOrder}
use Rattle.setup_order.proofs.TestLemmas.{or_first, or_second, or_cases, and_first, and_second, and_both, not_true, any_weaker, all_weaker}

-- ---- one among others

at_same : (p : ℕ → Bool) (x y : ℕ) → (x == y) ≡ true → p x ≡ true → p y ≡ true
at_same p x y e h = rw (← eqb-true x y e) h

among_by : (p : ℕ → Bool) (x y : ℕ) (rest : Bool) → (x == y) || rest ≡ true → p x ≡ true → (rest ≡ true → p y ≡ true) → p y ≡ true
among_by p x y rest h here there = elim (or_cases (x == y) rest h) [
  | inl e ↦ at_same p x y e here
  | inr e ↦ there e
]

-- what holds of all holds of one that is among them
pub all_among : (p : ℕ → Bool) (xs : List ℕ) (y : ℕ) → list_all p xs ≡ true → is_among xs y ≡ true → p y ≡ true
all_among p [] y h k = cc
all_among p (x ∷ xs) y h k = among_by p x y (is_among xs y) k (and_first (p x) _ h) (all_among p xs y (and_second (p x) _ h))

-- the links of an object where all links go to objects below n
pub links_within : (n : ℕ) (links : List (List ℕ)) (o : ℕ) → are_within n links ≡ true → list_all (λ l. nat_lt l n) (links_of links o) ≡ true
links_within n [] o h = refl
links_within n (ls ∷ links) zero h = and_first _ _ h
links_within n (ls ∷ links) (suc o) h = links_within n links o (and_second _ _ h)

-- ---- chains in an order

-- a chain has all shorter ones in it
pub deep_less : (links : List (List ℕ)) (k object : ℕ) → deep links object (suc k) ≡ true → deep links object k ≡ true
deep_less links zero object h = refl
deep_less links (suc k) object h = any_weaker (λ m. deep links m (suc k)) (λ m. deep links m k) (deep_less links k) (links_of links object) h

-- no chain of k links begins at the object
abbrev pub shallow : List (List ℕ) → ℕ → ℕ → Bool
shallow links k object = not (deep links object k)

shallow_by : (a b : Bool) → (b ≡ true → a ≡ true) → not a ≡ true → not b ≡ true
shallow_by true b f h = cc
shallow_by false true f h = f refl
shallow_by false false f h = refl

shallow_more : (links : List (List ℕ)) (k object : ℕ) → shallow links k object ≡ true → shallow links (suc k) object ≡ true
shallow_more links k object h = shallow_by (deep links object k) (deep links object (suc k)) (deep_less links k object) h

none_by : (a b : Bool) → not a ≡ true → not b ≡ true → not (a || b) ≡ true
none_by true b h k = h
none_by false b h k = k

-- only links to shallow objects
pub shallow_links : (links : List (List ℕ)) (k : ℕ) (placed ls : List ℕ) → list_all (is_among placed) ls ≡ true
    → list_all (shallow links k) placed ≡ true → not (list_any (λ m. deep links m k) ls) ≡ true
shallow_links links k placed [] h s = refl
shallow_links links k placed (l ∷ ls) h s =
    none_by (deep links l k) (list_any (λ m. deep links m k) ls)
    (all_among (shallow links k) placed l s (and_first (is_among placed l) _ h))
    (shallow_links links k placed ls (and_second (is_among placed l) _ h) s)

length_push : (xs : List ℕ) (x : ℕ) → length (xs ++ x ∷ []) ≡ suc (length xs)
length_push [] x = refl
length_push (y ∷ xs) x = ap suc (length_push xs x)

-- an order has no chain of as many links as it has objects
pub shallow_order : (links : List (List ℕ)) (placed os : List ℕ) → is_topological links placed os ≡ true → list_all (shallow links (length placed)) placed ≡ true
    → list_all (shallow links (length (placed ++ os))) (placed ++ os) ≡ true
shallow_order links placed [] h s = rw (append-nil placed) s
shallow_order links placed (o ∷ os) h s =
    let first : list_all (is_among placed) (links_of links o) ≡ true = and_first _ _ h in
    let here : shallow links (suc (length placed)) o ≡ true = shallow_links links (length placed) placed (links_of links o) first s in
    let before : list_all (shallow links (suc (length placed))) placed ≡ true = all_weaker (shallow links (length placed))
    (shallow links (suc (length placed))) (shallow_more links (length placed)) placed s in
    let both : list_all (shallow links (suc (length placed))) (placed ++ o ∷ [])
    ≡ true = rw (list_all-append (shallow links (suc (length placed))) placed (o ∷ [])) (and_both _ _ before (and_both _ _ here refl)) in
    let pushed : list_all (shallow links (length (placed ++ o ∷ []))) (placed ++ o ∷ []) ≡ true = rw (length_push placed o) both in
    let rest = shallow_order links (placed ++ o ∷ []) os (and_second _ _ h) pushed in
    rw (← append_assoc placed (o ∷ []) os) rest

none_below : (p : ℕ → Bool) (n : ℕ) → ((k : ℕ) → k < n → p k ≡ false) → any_below p n ≡ false
none_below p zero f = refl
none_below p (suc n) f = rw (none_below p n (λ k h. f k (omega arith)), f n (omega arith)) refl

pub some_below : (p : ℕ → Bool) (n k : ℕ) → k < n → p k ≡ true → any_below p n ≡ true
some_below p zero k h e = absurd (omega arith)
some_below p (suc n) k h e = elim (cases_lt k n) [
  | inl l ↦ or_first (any_below p n) (p n) (some_below p n k l e)
  | inr l ↦ or_second (any_below p n) (p n) (let same : n ≡ k = omega arith in rw same e)
]

among_by_times : (x y : ℕ) (b : Bool) (n : ℕ) (rest : Bool) → (0 < n → rest ≡ true) → 0 < cond b 1 0 + n → (b || rest) ≡ true
among_by_times x y true n rest f h = refl
among_by_times x y false n rest f h = f (omega arith)

-- what stands in a list is among it
pub among_times : (xs : List ℕ) (y : ℕ) → 0 < occurrences y xs → is_among xs y ≡ true
among_times [] y h = absurd (omega arith)
among_times (x ∷ xs) y h = among_by_times x y (x == y) (occurrences y xs) (is_among xs y) (among_times xs y) h

-- an order shows that there is no cycle
pub order_has_no_cycle : (links : List (List ℕ)) (order : List ℕ) → IsOrder links order → has_cycle links ≡ false
unfolding has_cycle
order_has_no_cycle links order is =
    none_below (λ o. deep links o (length links)) (length links) (λ o h.
    let once = is.each_once o h in
    let among : is_among order o ≡ true = among_times order o (omega arith) in
    let shallow_all = shallow_order links [] order is.after_links refl in
    let at : shallow links (length order) o ≡ true = all_among (shallow links (length order)) order o shallow_all among in
    not_true _ (rw (← is.size) at))

-- ---- chains among objects that each link to another of them

pub chains : (links : List (List ℕ)) (stuck : ℕ → Bool) → ((o : ℕ) → stuck o ≡ true → list_any stuck (links_of links o) ≡ true) → (k o : ℕ)
    → stuck o ≡ true → deep links o k ≡ true
chains links stuck f zero o h = refl
chains links stuck f (suc k) o h = any_weaker stuck (λ m. deep links m k) (chains links stuck f k) (links_of links o) (f o h)

-- one of them shows that there is a cycle
pub stuck_has_cycle : (links : List (List ℕ)) (stuck : ℕ → Bool) → ((o : ℕ) → stuck o ≡ true → list_any stuck (links_of links o) ≡ true) → (o : ℕ)
    → o < length links → stuck o ≡ true → has_cycle links ≡ true
unfolding has_cycle
stuck_has_cycle links stuck f o l h = some_below (λ m. deep links m (length links)) (length links) o l (chains links stuck f (length links) o h)
