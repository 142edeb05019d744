-- How an order grows.
use Rattle.std.proofs.Common.{◌≡◌, ◌≢◌, ℕ, zero, suc, ◌+◌, ◌-◌, ◌<◌, ◌≤◌, ◌==◌, ◌&&◌, ◌||◌, Bool, true, false, not, cond, List, [], ◌∷◌, ◌++◌, length, take}
use Rattle.std.proofs.Common.{drop, map, get_or, refl, sym, ap, ◌∙◌, arith, append_assoc, append-nil, inl, inr}
use Rattle.std.specs.Prelude.{nat_lt}
use Rattle.std.specs.List.{list_any, list_all}
use Rattle.std.proofs.Math.Bool.{or-false}
use Rattle.std.proofs.Math.ListN.{set}
use Rattle.std.proofs.lemmas.Bool.{eqb-true, eq-eqb, ne_eqb, cases_eq}
use Rattle.std.proofs.lemmas.Bool.Decides.{nat_tests}
use Rattle.std.proofs.lemmas.List.{take_more, get_or-set_same, get_or-set_other, length-set, length-map, get_or-map, take-append-le, take_all}
use Rattle.std.proofs.lemmas.List.Folds.{list_all-append, list_any-append}
use Rattle.std.proofs.lemmas.Grind.{common_steps}
use Rattle.setup_order.specs.Cycles.{links_of, has_cycle, are_within}
use Rattle.setup_order.specs.Search.{IsStuck}
use Rattle.setup_order.specs.Orders.{is_among, occurrences, is_topological, IsOrder}
use Rattle.setup_order.specs.Growth.{open_link_count, zero_indicator, waiting_count, free_objects_from, unplaced_link_count, ClosesLinks, IsOrderPrefix}
use Rattle.setup_order.proofs.TestLemmas.{or_second, and_first, and_second, and_both, all_weaker, is_below, not_true}
use Rattle.setup_order.proofs.ChainLemmas.{all_among, stuck_has_cycle, links_within}

-- ---- how often an object stands in a list

add_assoc : (a b c : ℕ) → a + (b + c) ≡ a + b + c
add_assoc a b c = omega arith

pub times-append : (o : ℕ) (xs ys : List ℕ) → occurrences o (xs ++ ys) ≡ occurrences o xs + occurrences o ys
times-append o [] ys = omega arith
times-append o (x ∷ xs) ys = rw (times-append o xs ys) (add_assoc (cond (x == o) 1 0) (occurrences o xs) (occurrences o ys))

pub times-same : (o : ℕ) → occurrences o (o ∷ []) ≡ 1
times-same o = rw (eq-eqb o o refl) refl

pub times-other : (o x : ℕ) → x ≢ o → occurrences o (x ∷ []) ≡ 0
times-other o x h = rw (ne_eqb x o h) refl

among_none_by : (b rest : Bool) (n : ℕ) → (n ≡ 0 → rest ≡ false) → cond b 1 0 + n ≡ 0 → (b || rest) ≡ false
among_none_by true rest n f h = absurd (omega arith)
among_none_by false rest n f h = f (omega arith)

-- what doesn't stand in a list isn't among it
pub among_none : (xs : List ℕ) (o : ℕ) → occurrences o xs ≡ 0 → is_among xs o ≡ false
among_none [] o h = refl
among_none (x ∷ xs) o h = among_none_by (x == o) (is_among xs o) (occurrences o xs) (among_none xs o) h

times_none_by : (b rest : Bool) (n : ℕ) → (rest ≡ false → n ≡ 0) → (b || rest) ≡ false → cond b 1 0 + n ≡ 0
times_none_by true rest n f h = cc
times_none_by false rest n f h = let e = f h in omega arith

pub times_none : (xs : List ℕ) (o : ℕ) → is_among xs o ≡ false → occurrences o xs ≡ 0
times_none [] o h = refl
times_none (x ∷ xs) o h = times_none_by (x == o) (is_among xs o) (occurrences o xs) (times_none xs o) h

-- ---- open links

among_push : (placed : List ℕ) (m l : ℕ) → is_among (placed ++ m ∷ []) l ≡ (is_among placed l || (m == l))
among_push placed m l = list_any-append (λ x. x == l) placed (m ∷ []) ∙ ap (λ b. is_among placed l || b) (or-false (m == l))

same_sides : (a b : ℕ) → (a == b) ≡ (b == a)
same_sides a b = elim (cases_eq a b) [
  | inl e ↦ rw (eq-eqb a b e, eq-eqb b a (sym e)) refl
  | inr n ↦ rw (ne_eqb a b n, ne_eqb b a (λ e. n (sym e))) refl
]

open_step : (a b m : Bool) (n k t : ℕ) → (m ≡ true → a ≡ false) → b ≡ (a || m) → n ≡ k + t → cond a 0 1 + n ≡ cond b 0 1 + k + (cond m 1 0 + t)
open_step true b true n k t f e h = let x = f refl in cc
open_step true b false n k t f e h = rw (e, h) (let g : 0 + (k + t) ≡ 0 + k + (0 + t) = omega arith in g)
open_step false b true n k t f e h = rw (e, h) (let g : 1 + (k + t) ≡ 0 + k + (1 + t) = omega arith in g)
open_step false b false n k t f e h = rw (e, h) (let g : 1 + (k + t) ≡ 1 + k + (0 + t) = omega arith in g)

-- placing one more object closes the links to it
pub unplaced_link_count-push : (placed : List ℕ) (m : ℕ) (ls : List ℕ) → is_among placed m ≡ false → unplaced_link_count placed ls
    ≡ unplaced_link_count (placed ++ m ∷ []) ls + occurrences m ls
unplaced_link_count-push placed m [] h = refl
unplaced_link_count-push placed m (l ∷ ls) h =
    open_step (is_among placed l) (is_among (placed ++ m ∷ []) l) (l == m) (unplaced_link_count placed ls) (unplaced_link_count (placed ++ m ∷ []) ls) (occurrences m ls)
    (λ e. rw (eqb-true l m e) h)
    (among_push placed m l ∙ ap (λ b. is_among placed l || b) (same_sides m l))
    (unplaced_link_count-push placed m ls h)

closed_by : (a rest : Bool) (n : ℕ) → (n ≡ 0 → rest ≡ true) → cond a 0 1 + n ≡ 0 → (a && rest) ≡ true
closed_by true rest n f h = f (omega arith)
closed_by false rest n f h = absurd (omega arith)

-- no link is open
pub open_links_none : (placed ls : List ℕ) → unplaced_link_count placed ls ≡ 0 → list_all (is_among placed) ls ≡ true
open_links_none placed [] h = refl
open_links_none placed (l ∷ ls) h = closed_by (is_among placed l) (list_all (is_among placed) ls) (unplaced_link_count placed ls) (open_links_none placed ls) h

some_by : (a rest : Bool) (n : ℕ) → (0 < n → rest ≡ true) → 0 < cond a 0 1 + n → (not a || rest) ≡ true
some_by true rest n f h = f (omega arith)
some_by false rest n f h = refl

-- some link is open
pub open_links_some : (placed ls : List ℕ) → 0 < unplaced_link_count placed ls → list_any (λ l. not (is_among placed l)) ls ≡ true
open_links_some placed [] h = absurd (omega arith)
open_links_some placed (l ∷ ls) h = some_by (is_among placed l) _ (unplaced_link_count placed ls) (open_links_some placed ls) h

pub unplaced_link_count-nothing : (ls : List ℕ) → unplaced_link_count [] ls ≡ length ls
unplaced_link_count-nothing [] = refl
unplaced_link_count-nothing (l ∷ ls) = let again = unplaced_link_count-nothing ls in omega arith

-- ---- closing one link after another

one_at_zero_none : (v : ℕ) → 0 < v → zero_indicator v ≡ 0
one_at_zero_none v h = rw (ne_eqb v 0 (λ e. absurd (omega arith))) refl

one_at_zero_one : (v : ℕ) → v ≡ 0 → zero_indicator v ≡ 1
one_at_zero_one v h = rw (eq-eqb v 0 h) refl

abbrev is_waiting : ℕ → ℕ
is_waiting v = cond (v == 0) 0 1

waiting_count-set : (xs : List ℕ) (i v : ℕ) → i < length xs → waiting_count (set xs i v) + is_waiting (open_link_count xs i) ≡ waiting_count xs + is_waiting v
waiting_count-set [] i v h = absurd (omega arith)
waiting_count-set (x ∷ xs) zero v h = omega arith
waiting_count-set (x ∷ xs) (suc i) v h = let again = waiting_count-set xs i v (omega arith) in omega arith

-- what one closed link leaves of another object's count
at_other : (left' : List ℕ) (d w o : ℕ) → o ≢ d → open_link_count (set left' d w) o ≡ open_link_count left' o
at_other left' d w o n = get_or-set_other left' d o w 0 n

counts_more : (closing left left' : List ℕ) (d w o : ℕ) → d < length left' → open_link_count left' d ≡ w + 1
    → open_link_count left' o + occurrences o closing ≡ open_link_count left o → open_link_count (set left' d w) o + occurrences o (closing ++ d ∷ []) ≡ open_link_count left o
counts_more closing left left' d w o h v e = elim (cases_eq o d) [
  | inl s ↦ rw (s, get_or-set_same left' d w 0 h, times-append d closing (d ∷ []), times-same d)
      (let e2 : open_link_count left' d + occurrences d closing ≡ open_link_count left d = rw (← s) e in omega arith)
  | inr n ↦ rw (at_other left' d w o n, times-append o closing (d ∷ []), times-other o d (λ x. n (sym x))) (omega arith)
]

-- a link was closed that wasn't the object's last
pub closed_link : (closing left order left' order' : List ℕ) (d w : ℕ) → ClosesLinks closing left order left' order' → d < length left
    → open_link_count left' d ≡ w + 1 → 0 < w → ClosesLinks (closing ++ d ∷ []) left order (set left' d w) order'
closed_link closing left order left' order' d w c h v p =
    let within : d < length left' = rw c.size h in
    record {
      additions = c.additions;
      order_is = c.order_is;
      size = length-set left' d w ∙ c.size;
      counts = λ o l. counts_more closing left left' d w o within v (c.counts o l);
      once = λ o l. elim (cases_eq o d) [
        | inl s ↦ rw (s, get_or-set_same left' d w 0 within, one_at_zero_none w p)
            (rw (← s) (c.once o l ∙ ap zero_indicator (ap (open_link_count left') s ∙ v) ∙ one_at_zero_none (w + 1) (omega arith)))
        | inr n ↦ rw (at_other left' d w o n) (c.once o l)
      ];
      within = c.within;
      free = all_weaker (λ o. open_link_count left' o == 0) (λ o. open_link_count (set left' d w) o == 0) (λ o z. elim (cases_eq o d) [
        | inl s ↦ absurd (let zero_now : open_link_count left' o ≡ 0 = eqb-true (open_link_count left' o) 0 z in let now : open_link_count left' o ≡ w + 1 = ap
            (open_link_count left') s ∙ v in omega arith)
        | inr n ↦ rw (at_other left' d w o n) z
      ]) c.additions c.free;
      total =
          let w1 = waiting_count-set left' d w within in let a : is_waiting (open_link_count left' d)
          ≡ 1 = rw (v, ne_eqb (w + 1) 0 (λ e. absurd (omega arith))) refl in let b : is_waiting w ≡ 1 = rw (ne_eqb w 0 (λ e. absurd (omega arith))) refl in
          let t = c.total in omega arith;
    }

-- the object's last link was closed, and it joined the order
pub closed_last_link : (closing left order left' order' : List ℕ) (d : ℕ) → ClosesLinks closing left order left' order' → d < length left
    → open_link_count left' d ≡ 1 → ClosesLinks (closing ++ d ∷ []) left order (set left' d 0) (order' ++ d ∷ [])
closed_last_link closing left order left' order' d c h v =
    let within : d < length left' = rw c.size h in
    record {
      additions = c.additions ++ d ∷ [];
      order_is = ap (λ l. l ++ d ∷ []) c.order_is ∙ append_assoc order c.additions (d ∷ []);
      size = length-set left' d 0 ∙ c.size;
      counts = λ o l. counts_more closing left left' d 0 o within v (c.counts o l);
      once = λ o l. elim (cases_eq o d) [
        | inl s ↦ rw (s, get_or-set_same left' d 0 0 within, times-append d c.additions (d ∷ []), times-same d)
            (let before : occurrences d c.additions + zero_indicator (open_link_count left d)
            ≡ 0 = rw (← s) (c.once o l ∙ ap zero_indicator (ap (open_link_count left') s ∙ v)) in omega arith)
        | inr n ↦ rw (at_other left' d 0 o n, times-append o c.additions (d ∷ []), times-other o d (λ x. n (sym x))) (let before = c.once o l in omega arith)
      ];
      within =
          rw (list_all-append (λ o. nat_lt o (length left)) c.additions (d ∷ []))
          (and_both _ _ c.within (and_both _ _ (let t : nat_lt d (length left) ≡ true = grind (arith, nat_tests, h) in t) refl));
      free = rw (list_all-append (λ o. open_link_count (set left' d 0) o == 0) c.additions (d ∷ [])) (and_both _ _
          (all_weaker (λ o. open_link_count left' o == 0) (λ o. open_link_count (set left' d 0) o == 0) (λ o z. elim (cases_eq o d) [
            | inl s ↦ absurd (let zero_now : open_link_count left' o ≡ 0 = eqb-true (open_link_count left' o) 0 z in let now : open_link_count left' o ≡ 1 = ap
                (open_link_count left') s ∙ v in omega arith)
            | inr n ↦ rw (at_other left' d 0 o n) z
          ]) c.additions c.free)
          (and_both _ _ (rw (get_or-set_same left' d 0 0 within) refl) refl));
      total =
          let w1 = waiting_count-set left' d 0 within in let a : is_waiting (open_link_count left' d) ≡ 1 = rw v refl in let t = c.total in let l : length
          (c.additions ++ d ∷ []) ≡ length c.additions + 1 = grind (arith, common_steps) in omega arith;
    }

-- ---- orders

pub follows-append : (links : List (List ℕ)) (placed xs ys : List ℕ) → is_topological links placed xs ≡ true → is_topological links (placed ++ xs) ys ≡ true
    → is_topological links placed (xs ++ ys) ≡ true
follows-append links placed [] ys h k = rw (← append-nil placed) k
follows-append links placed (x ∷ xs) ys h k =
    and_both _ _ (and_first _ _ h) (follows-append links (placed ++ x ∷ []) xs ys (and_second _ _ h) (rw (append_assoc placed (x ∷ []) xs) k))

among_more : (placed more : List ℕ) (l : ℕ) → is_among placed l ≡ true → is_among (placed ++ more) l ≡ true
among_more placed more l h = rw (list_any-append (λ x. x == l) placed more, h) refl

-- objects that link only to placed ones come behind all that they link to
pub follows_placed : (links : List (List ℕ)) (placed xs : List ℕ) → list_all (λ o. list_all (is_among placed) (links_of links o)) xs ≡ true
    → is_topological links placed xs ≡ true
follows_placed links placed [] h = refl
follows_placed links placed (x ∷ xs) h =
    and_both _ _ (and_first _ _ h) (follows_placed links (placed ++ x ∷ []) xs
    (all_weaker (λ o. list_all (is_among placed) (links_of links o)) (λ o. list_all (is_among (placed ++ x ∷ [])) (links_of links o))
    (λ o a. all_weaker (is_among placed) (is_among (placed ++ x ∷ [])) (among_more placed (x ∷ [])) (links_of links o) a) xs (and_second _ _ h)))

all_and : (p q r : ℕ → Bool) → ((x : ℕ) → p x ≡ true → q x ≡ true → r x ≡ true) → (xs : List ℕ) → list_all p xs ≡ true → list_all q xs ≡ true
    → list_all r xs ≡ true
all_and p q r f [] h k = refl
all_and p q r f (x ∷ xs) h k = and_both _ _ (f x (and_first _ _ h) (and_first _ _ k)) (all_and p q r f xs (and_second _ _ h) (and_second _ _ k))

at_place_by : (p : ℕ → Bool) (x : ℕ) (xs : List ℕ) → p x ≡ true → list_any p (x ∷ xs) ≡ true
at_place_by p x xs h = rw h refl

pub at_place : (xs : List ℕ) (i d : ℕ) → i < length xs → is_among xs (get_or xs i d) ≡ true
at_place [] i d h = absurd (omega arith)
at_place (x ∷ xs) zero d h = at_place_by (λ y. y == x) x xs (eq-eqb x x refl)
at_place (x ∷ xs) (suc i) d h = or_second (x == get_or xs i d) _ (at_place xs i d (omega arith))

among_front : (xs : List ℕ) (k l : ℕ) → is_among (take k xs) l ≡ true → is_among xs l ≡ true
among_front xs k l h = let whole : take k xs ++ drop k xs ≡ xs = grind (arith, common_steps) in rw (← whole) (among_more (take k xs) (drop k xs) l h)

-- ---- the first objects

times_free_by : (x k v : ℕ) (rest : List ℕ) → x < k → occurrences x rest ≡ 0 → occurrences x (cond (v == 0) (k ∷ rest) rest) ≡ 0
times_free_by x k v rest h e = elim (v == 0) as (λ b. occurrences x (cond b (k ∷ rest) rest) ≡ 0) [
  | true ↦ rw (ne_eqb k x (λ q. absurd (omega arith)), e) refl
  | false ↦ e
]

times_free_before : (x k : ℕ) (left : List ℕ) → x < k → occurrences x (free_objects_from k left) ≡ 0
times_free_before x k [] h = refl
times_free_before x k (v ∷ left) h = times_free_by x k v (free_objects_from (k + 1) left) h (times_free_before x (k + 1) left (omega arith))

times_free_first : (k v : ℕ) (rest : List ℕ) → occurrences k rest ≡ 0 → occurrences k (cond (v == 0) (k ∷ rest) rest) ≡ zero_indicator v
times_free_first k v rest e = elim (v == 0) as (λ b. occurrences k (cond b (k ∷ rest) rest) ≡ cond b 1 0) [
  | true ↦ rw (eq-eqb k k refl, e) refl
  | false ↦ e
]

times_free_other : (x k v : ℕ) (rest : List ℕ) → k < x → occurrences x (cond (v == 0) (k ∷ rest) rest) ≡ occurrences x rest
times_free_other x k v rest h = elim (v == 0) as (λ b. occurrences x (cond b (k ∷ rest) rest) ≡ occurrences x rest) [
  | true ↦ rw (ne_eqb k x (λ q. absurd (omega arith))) (let e : 0 + occurrences x rest ≡ occurrences x rest = omega arith in e)
  | false ↦ refl
]

-- an object without an open link stands once among the first, and no other does
pub times_free : (j k : ℕ) (left : List ℕ) → j < length left → occurrences (k + j) (free_objects_from k left) ≡ zero_indicator (open_link_count left j)
times_free j k [] h = absurd (omega arith)
times_free zero k (v ∷ left) h =
    let same : k + 0 ≡ k = omega arith in rw same (times_free_first k v (free_objects_from (k + 1) left) (times_free_before k (k + 1) left (omega arith)))
times_free (suc j) k (v ∷ left) h =
    let shift : k + 1 + j ≡ k + suc j = omega arith in
    times_free_other (k + suc j) k v (free_objects_from (k + 1) left) (omega arith) ∙ rw (← shift) (times_free j (k + 1) left (omega arith))

free_all_by : (p : ℕ → Bool) (k v : ℕ) (rest : List ℕ) → (v ≡ 0 → p k ≡ true) → list_all p rest ≡ true → list_all p (cond (v == 0) (k ∷ rest) rest) ≡ true
free_all_by p k v rest f h = elim (cases_eq v 0) [
  | inl e ↦ rw (eq-eqb v 0 e) (and_both _ _ (f e) h)
  | inr n ↦ rw (ne_eqb v 0 n) h
]

-- what holds of each object without an open link holds of all the first
pub free_all : (p : ℕ → Bool) (k : ℕ) (left : List ℕ) → ((j : ℕ) → j < length left → open_link_count left j ≡ 0 → p (k + j) ≡ true)
    → list_all p (free_objects_from k left) ≡ true
free_all p k [] f = refl
free_all p k (v ∷ left) f =
    free_all_by p k v (free_objects_from (k + 1) left)
    (λ e. let same : k + 0 ≡ k = omega arith in rw (← same) (f 0 (omega arith) e))
    (free_all p (k + 1) left (λ j h e. let shift : k + 1 + j ≡ k + suc j = omega arith in rw shift (f (suc j) (omega arith) e)))

free_total_by : (k : ℕ) (b : Bool) (rest : List ℕ) (n w : ℕ) → length rest + w ≡ n → length (cond b (k ∷ rest) rest) + (cond b 0 1 + w) ≡ n + 1
free_total_by k true rest n w h = omega arith
free_total_by k false rest n w h = omega arith

pub free_total : (k : ℕ) (left : List ℕ) → length (free_objects_from k left) + waiting_count left ≡ length left
free_total k [] = refl
free_total k (v ∷ left) =
    free_total_by k (v == 0) (free_objects_from (k + 1) left) (length left) (waiting_count left) (free_total (k + 1) left)
    ∙ (let e : length left + 1 ≡ suc (length left) = omega arith in e)

zero_plus : (o : ℕ) → o ≡ 0 + o
zero_plus o = omega arith

-- the order as it begins
pub under_way_first : (links : List (List ℕ)) (left : List ℕ) → left ≡ map length links → IsOrderPrefix links 0 left (free_objects_from 0 left)
under_way_first links left is =
    let size : length left ≡ length links = ap length is ∙ length-map links length in
    let counts : (o : ℕ) → o < length links → open_link_count left o ≡ length (links_of links o) = λ o h. rw is (get_or-map length links o [] 0 h) in
    record {
      size = size;
      counts = λ o h. counts o h ∙ sym (unplaced_link_count-nothing (links_of links o));
      once = λ o h. ap (λ x. occurrences x (free_objects_from 0 left)) (zero_plus o) ∙ times_free o 0 left (rw size h);
      within = free_all (λ o. nat_lt o (length links)) 0 left (λ j h e. let t : nat_lt (0 + j) (length links)
          ≡ true = grind (arith, nat_tests, h, size) in t);
      after_links =
          follows_placed links [] (free_objects_from 0 left) (free_all
          (λ o. list_all (is_among []) (links_of links o)) 0 left (λ j h e. open_links_none [] (links_of links (0 + j))
          (unplaced_link_count-nothing (links_of links (0 + j)) ∙ sym (counts (0 + j) (omega arith)) ∙ (let s : 0 + j ≡ j = omega arith in rw s e))));
      total = free_total 0 left ∙ size;
    }

-- ---- one object's dependents

times_take : (o : ℕ) (xs : List ℕ) (k : ℕ) → occurrences o (take k xs) ≤ occurrences o xs
times_take o xs k =
    let whole : take k xs ++ drop k xs ≡ xs = grind (arith, common_steps) in let e = times-append o (take k xs) (drop k xs) in let f : occurrences o
    (take k xs ++ drop k xs) ≡ occurrences o xs = ap (occurrences o) whole in omega arith

zero_indicator-le : (v : ℕ) → zero_indicator v ≤ 1
zero_indicator-le v = elim (cases_eq v 0) [
  | inl e ↦ rw (eq-eqb v 0 e) (omega arith)
  | inr n ↦ rw (ne_eqb v 0 n) (omega arith)
]

-- an object stands once in the order, and so not before itself
not_yet : (links : List (List ℕ)) (place : ℕ) (left order : List ℕ) (d : ℕ) → IsOrderPrefix links place left order → place < length order
    → is_among (take place order) (get_or order place d) ≡ false
not_yet links place left order d u h =
    let m : ℕ = get_or order place d in
    let within : get_or order place d < length links = is_below (get_or order place d) (length links)
    (all_among (λ o. nat_lt o (length links)) order (get_or order place d) u.within (at_place order place d h)) in
    let once = u.once (get_or order place d) within in
    let bounded = zero_indicator-le (open_link_count left (get_or order place d)) in
    let next = take_more order place d h in
    let a : occurrences (get_or order place d) (take (place + 1) order) ≡ occurrences (get_or order place d) (take place order) + 1 = ap
    (occurrences (get_or order place d)) next ∙ times-append (get_or order place d) (take place order) (get_or order place d ∷ []) ∙ ap
    (λ n. occurrences (get_or order place d) (take place order) + n) (times-same (get_or order place d)) in
    let b = times_take (get_or order place d) order (place + 1) in
    among_none (take place order) (get_or order place d) (omega arith)

front_kept : (place : ℕ) (order order' additions : List ℕ) → order' ≡ order ++ additions → place < length order → take (place + 1) order' ≡ take (place + 1) order
front_kept place order order' additions is h = rw is (take-append-le (place + 1) order additions (omega arith))

placed_next : (place : ℕ) (order order' additions : List ℕ) (d : ℕ) → order' ≡ order ++ additions → place < length order
    → take (place + 1) order' ≡ take place order ++ get_or order place d ∷ []
placed_next place order order' additions d is h = front_kept place order order' additions is h ∙ take_more order place d h

-- each of them has an open link to the object
pub enough_open : (links : List (List ℕ)) (place : ℕ) (left order dependents : List ℕ) (d : ℕ) → IsOrderPrefix links place left order → place < length order
    → ((o : ℕ) → o < length links → occurrences o dependents ≡ occurrences (get_or order place d) (links_of links o))
    → (o : ℕ) → o < length left → occurrences o dependents ≤ open_link_count left o
enough_open links place left order dependents d u h deps o l =
    let within : o < length links = rw (← u.size) l in
    let fresh = not_yet links place left order d u h in
    let split = unplaced_link_count-push (take place order) (get_or order place d) (links_of links o) fresh in
    let a = u.counts o within in
    let b = deps o within in
    omega arith

-- the order when they were looked at
pub under_way_next : (links : List (List ℕ)) (place : ℕ) (left order dependents left' order' : List ℕ) (d : ℕ) → IsOrderPrefix links place left order
    → place < length order
    → ((o : ℕ) → o < length links → occurrences o dependents ≡ occurrences (get_or order place d) (links_of links o))
    → ClosesLinks dependents left order left' order' → IsOrderPrefix links (place + 1) left' order'
under_way_next links place left order dependents left' order' d u h deps c =
    let m : ℕ = get_or order place d in
    let fresh = not_yet links place left order d u h in
    let placed : take (place + 1) order' ≡ take place order ++ get_or order place d ∷ [] = placed_next place order order' c.additions d c.order_is h in
    let counts : (o : ℕ) → o < length links → open_link_count left' o ≡ unplaced_link_count (take (place + 1) order') (links_of links o) = λ o l.
    (let split = unplaced_link_count-push (take place order) (get_or order place d) (links_of links o) fresh in
    let a = u.counts o l in
    let b = deps o l in
    let e = c.counts o (rw u.size l) in
    rw placed (omega arith)) in
    record {
      size = c.size ∙ u.size;
      counts = counts;
      once = λ o l. rw (c.order_is, times-append o order c.additions) (let a = u.once o l in let b = c.once o (rw u.size l) in omega arith);
      within = rw (c.order_is, list_all-append (λ o. nat_lt o (length links)) order c.additions) (and_both _ _ u.within (rw (← u.size) c.within));
      after_links = rw c.order_is (follows-append links [] order c.additions u.after_links (follows_placed links order c.additions
          (all_and (λ o. nat_lt o (length left)) (λ o. open_link_count left' o == 0) (λ o. list_all (is_among order) (links_of links o))
          (λ o w z. all_weaker (is_among (take (place + 1) order)) (is_among order) (among_front order (place + 1)) (links_of links o)
          (rw (← front_kept place order order' c.additions c.order_is h) (open_links_none (take (place + 1) order') (links_of links o)
          (sym (counts o (rw (← u.size) (is_below o (length left) w))) ∙ eqb-true (open_link_count left' o) 0 z))))
          c.additions c.within c.free)));
      total =
          rw c.order_is (let l : length (order ++ c.additions) ≡ length order + length c.additions = grind
          (arith, common_steps) in let a = u.total in let b = c.total in omega arith);
    }

-- ---- the end

waiting_none_by : (v w : ℕ) → (v == 0) ≡ true → w ≡ 0 → cond (v == 0) 0 1 + w ≡ 0
waiting_none_by v w h e = rw (h, e) refl

waiting_none : (left : List ℕ) → list_all (λ v. v == 0) left ≡ true → waiting_count left ≡ 0
waiting_none [] h = refl
waiting_none (v ∷ left) h = waiting_none_by v (waiting_count left) (and_first _ _ h) (waiting_none left (and_second _ _ h))

all_zero : (left : List ℕ) (o : ℕ) → list_all (λ v. v == 0) left ≡ true → open_link_count left o ≡ 0
all_zero [] o h = refl
all_zero (v ∷ left) zero h = eqb-true v 0 (and_first _ _ h)
all_zero (v ∷ left) (suc o) h = all_zero left o (and_second _ _ h)

some_open : (left : List ℕ) → list_all (λ v. v == 0) left ≡ false → (o : ℕ) × (o < length left) × (0 < open_link_count left o)
some_open [] h = cc
some_open (v ∷ left) h = elim (cases_eq v 0) [
  | inl e ↦ (let rest : list_all (λ v. v == 0) left ≡ false = rw (← ap (λ b. b && list_all (λ v. v == 0) left) (eq-eqb v 0 e)) h in
      let found : (o : ℕ) × (o < length left) × (0 < open_link_count left o) = some_open left rest in (suc found.0, omega (arith, found.1), found.2))
  | inr n ↦ (0, omega arith, omega arith)
]

pub open_within : (left : List ℕ) (o : ℕ) → 0 < open_link_count left o → o < length left
open_within [] o h = absurd (omega arith)
open_within (v ∷ left) zero h = omega arith
open_within (v ∷ left) (suc o) h = let again = open_within left o h in omega arith

any_and_by : (a b c rest all more : Bool) → (a ≡ true → b ≡ true → c ≡ true) → (rest ≡ true → all ≡ true → more ≡ true) → (a || rest) ≡ true
    → (b && all) ≡ true → (c || more) ≡ true
any_and_by true b c rest all more f g h k = rw (f refl (and_first b all k)) refl
any_and_by false b c rest all more f g h k = or_second c more (g h (and_second b all k))

any_and : (p q r : ℕ → Bool) → ((x : ℕ) → p x ≡ true → q x ≡ true → r x ≡ true) → (xs : List ℕ) → list_any p xs ≡ true → list_all q xs ≡ true
    → list_any r xs ≡ true
any_and p q r f [] h k = h
any_and p q r f (x ∷ xs) h k = any_and_by (p x) (q x) (r x) (list_any p xs) (list_all q xs) (list_any r xs) (f x) (any_and p q r f xs) h k

-- an object that isn't placed has an open link
still_open : (left order : List ℕ) (m n : ℕ) → ((o : ℕ) → o < n → occurrences o order ≡ zero_indicator (open_link_count left o)) → m < n
    → not (is_among order m) ≡ true → nat_lt 0 (open_link_count left m) ≡ true
still_open left order m n once h a =
    let none = times_none order m (not_true (is_among order m) a) in
    elim (cases_eq (open_link_count left m) 0) [
      | inl e ↦ absurd (let one = one_at_zero_one (open_link_count left m) e in let o = once m h in omega arith)
      | inr f ↦ grind (arith, nat_tests, f)
    ]

-- no link is open: the order is whole
pub order_whole : (links : List (List ℕ)) (place : ℕ) (left order : List ℕ) → IsOrderPrefix links place left order → list_all (λ v. v == 0) left ≡ true
    → IsOrder links order
order_whole links place left order u z =
    let none : waiting_count left ≡ 0 = waiting_none left z in
    record {
      size = let t = u.total in omega arith;
      within = u.within;
      each_once = λ o h. u.once o h ∙ one_at_zero_one (open_link_count left o) (all_zero left o z);
      after_links = u.after_links;
    }

-- the dependents of all placed objects were looked at: each object that waits is linked to one that waits
pub stuck_left : (links : List (List ℕ)) (place : ℕ) (left order : List ℕ) → IsOrderPrefix links place left order → length order ≤ place
    → are_within (length links) links ≡ true → IsStuck links left
stuck_left links place left order u e w =
    let all : take place order ≡ order = take_all place order e in
    record {
      size = u.size;
      linked = λ o p.
          let pos : 0 < open_link_count left o = is_below 0 (open_link_count left o) p in
          let l : o < length links = rw (← u.size) (open_within left o pos) in
          let nonempty : list_any (λ m. not (is_among order m)) (links_of links o)
          ≡ true = open_links_some order (links_of links o) (rw (← all) (let c = u.counts o l in omega arith)) in
          any_and (λ m. not (is_among order m)) (λ m. nat_lt m (length links)) (λ m. nat_lt 0 (open_link_count left m))
          (λ m a b. still_open left order m (length links) u.once (is_below m (length links) b) a) (links_of links o) nonempty
          (links_within (length links) links o w);
    }

-- and some object waits: there is a cycle
pub cycle_left : (links : List (List ℕ)) (left : List ℕ) → IsStuck links left → list_all (λ v. v == 0) left ≡ false → has_cycle links ≡ true
cycle_left links left stuck z =
    let found : (o : ℕ) × (o < length left) × (0 < open_link_count left o) = some_open left z in
    stuck_has_cycle links (λ o. nat_lt 0 (open_link_count left o)) stuck.linked found.0 (rw (← stuck.size) found.1)
    (let t : nat_lt 0 (open_link_count left found.0) ≡ true = grind (arith, nat_tests, found.2) in t)

-- ---- one dependent after another

pub below_at : (n : ℕ) (xs : List ℕ) (i d : ℕ) → i < length xs → list_all (λ x. nat_lt x n) xs ≡ true → get_or xs i d < n
below_at n xs i d h all = is_below (get_or xs i d) n (all_among (λ x. nat_lt x n) xs (get_or xs i d) all (at_place xs i d h))

-- the next dependent still has an open link
pub still_to_close : (dependents left order left' order' : List ℕ) (j d : ℕ) → ClosesLinks (take j dependents) left order left' order' → j < length dependents
    → list_all (λ o. nat_lt o (length left)) dependents ≡ true → ((o : ℕ) → o < length left → occurrences o dependents ≤ open_link_count left o)
    → 0 < open_link_count left' (get_or dependents j d)
still_to_close dependents left order left' order' j d c h all enough =
    let l : get_or dependents j d < length left = below_at (length left) dependents j d h all in
    let a = c.counts (get_or dependents j d) l in
    let b = enough (get_or dependents j d) l in
    let next = take_more dependents j d h in
    let more : occurrences (get_or dependents j d) (take (j + 1) dependents) ≡ occurrences (get_or dependents j d) (take j dependents) + 1 = ap
    (occurrences (get_or dependents j d)) next ∙ times-append (get_or dependents j d) (take j dependents) (get_or dependents j d ∷ []) ∙ ap
    (λ n. occurrences (get_or dependents j d) (take j dependents) + n) (times-same (get_or dependents j d)) in
    let bounded = times_take (get_or dependents j d) dependents (j + 1) in
    omega arith

pub closed_next : (dependents left order left' order' left'' order'' : List ℕ) (j d : ℕ) → ClosesLinks (take j dependents) left order left' order'
    → j < length dependents
    → list_all (λ o. nat_lt o (length left)) dependents ≡ true → 0 < open_link_count left' (get_or dependents j d)
    → left'' ≡ set left' (get_or dependents j d) (open_link_count left' (get_or dependents j d) - 1)
    → order'' ≡ cond (open_link_count left' (get_or dependents j d) - 1 == 0) (order' ++ get_or dependents j d ∷ []) order'
    → ClosesLinks (take (j + 1) dependents) left order left'' order''
closed_next dependents left order left' order' left'' order'' j d c h all pos l o =
    let within : get_or dependents j d < length left = below_at (length left) dependents j d h all in
    rw (take_more dependents j d h) (elim (cases_eq (open_link_count left' (get_or dependents j d) - 1) 0) [
      | inl e ↦ rw (l, o, e) (closed_last_link (take j dependents) left order left' order' (get_or dependents j d) c within (omega arith))
      | inr n ↦ rw (l, o, ne_eqb (open_link_count left' (get_or dependents j d) - 1) 0 n)
          (closed_link (take j dependents) left order left' order' (get_or dependents j d)
          (open_link_count left' (get_or dependents j d) - 1) c within (omega arith) (omega arith))
    ])

-- an object of the order is one of the objects
pub placed_below : (links : List (List ℕ)) (place w : ℕ) (left order : List ℕ) → IsOrderPrefix links place left order → place < length order
    → w ≡ get_or order place w → w < length links
placed_below links place w left order u h e = rw e (below_at (length links) order place w h u.within)

-- a slice that was written back whole
pub written_back : (n : ℕ) (xs ys : List ℕ) → length xs ≡ n → take n (xs ++ drop (length xs) ys) ≡ xs
written_back n xs ys e = rw (← e) (take-append-le (length xs) xs (drop (length xs) ys) (omega arith) ∙ take_all (length xs) xs (omega arith))
