-- Laws of the order of pairs, and of the least of some of them.
use Rattle.std.proofs.Common.{◌≡◌, ℕ, suc, ◌≤◌, Bool, true, false, not, ◌&&◌, ◌||◌, ◌==◌, List, [], ◌∷◌, Option, Some, None, refl}
use Rattle.std.proofs.Common.{sym, ap, subst, ◌∙◌, arith, inl, inr}
use Rattle.std.specs.Prelude.{find, filter}
use Rattle.std.specs.List.{All, Contains, list_any, list_all}
use Rattle.std.proofs.lemmas.Bool.{and_from, and_parts, cases_Bool, not-true, or_cases, or_left}
use Rattle.std.proofs.lemmas.Bool.Decides.{nat_tests}
use Rattle.std.proofs.lemmas.List.Elements.{All-contains, All-contains_itself, All-filter, All-weaker}
use Rattle.std.proofs.lemmas.List.Sums.{AllPass-from_list_all, list_all-from_AllPass}
use Rattle.std.proofs.lemmas.Map.Views.{Contains-from_any, any-filter_same}
use Rattle.check_queue.specs.Order.{is_before, least}

-- a time and a number
abbrev pub Pair : Type 0
Pair = ℕ × ℕ

-- ---- tests

pub or_true : (a b : Bool) → b ≡ true → (a || b) ≡ true
or_true true b e = refl
or_true false b e = e

-- whether two pairs are the same
abbrev pub is_same : Pair → Pair → Bool
is_same c d = c.0 == d.0 && c.1 == d.1

-- no other comes before c
abbrev pub is_no_later : Pair → Pair → Bool
is_no_later c d = not (is_before d c)

pub no_later_holds : (c d : Pair) → c.0 ≤ d.0 → (c.0 ≡ d.0 → c.1 ≤ d.1) → is_no_later c d ≡ true
no_later_holds c d l s = grind (arith, nat_tests, l, s)

pub no_later_time : (c d : Pair) → is_no_later c d ≡ true → c.0 ≤ d.0
no_later_time c d e = grind (arith, nat_tests, e)

pub is_same_itself : (c : Pair) → is_same c c ≡ true
is_same_itself c = grind (arith, nat_tests)

pub same_is : (c d : Pair) → is_same c d ≡ true → c ≡ d
same_is c d e =
    let a : c.0 ≡ d.0 = grind (arith, nat_tests, e) in
    let b : c.1 ≡ d.1 = grind (arith, nat_tests, e) in
    λ i. (a i, b i)

pub no_later_chain : (c d e : Pair) → is_no_later c d ≡ true → is_no_later d e ≡ true → is_no_later c e ≡ true
no_later_chain c d e g h = grind (arith, nat_tests, g, h)

no_later_itself : (c : Pair) → is_no_later c c ≡ true
no_later_itself c = grind (arith, nat_tests)

agree : (c d : Pair) → is_no_later c d ≡ true → is_no_later d c ≡ true → d ≡ c
agree c d g h = same_is d c (grind (arith, nat_tests, g, h))

-- ---- lists of pairs

pub all_weaker : (f g : Pair → Bool) (cs : List Pair) → ((x : Pair) → f x ≡ true → g x ≡ true) → list_all f cs ≡ true → list_all g cs ≡ true
all_weaker f g cs h e = list_all-from_AllPass g cs (All-weaker _ _ h cs (AllPass-from_list_all f cs e))

-- what is true of each is true of a member
pub all_at : (f : Pair → Bool) (p : Pair) (cs : List Pair) → list_any (is_same p) cs ≡ true → list_all f cs ≡ true → f p ≡ true
all_at f p cs m e = All-contains (λ c. f c ≡ true) cs p (AllPass-from_list_all f cs e) (Contains-from_any same_is p cs m)

pub all_filtered : (f p : Pair → Bool) (cs : List Pair) → list_all f cs ≡ true → list_all f (filter p cs) ≡ true
all_filtered f p cs e = list_all-from_AllPass f (filter p cs) (All-filter p (λ c. f c ≡ true) cs (AllPass-from_list_all f cs e))

pub any_filtered : (c : Pair) (p : Pair → Bool) (cs : List Pair) → p c ≡ true → list_any (is_same c) cs ≡ true
    → list_any (is_same c) (filter p cs) ≡ true
any_filtered c p cs h m = any-filter_same (is_same c) p true (λ d s. sym (ap p (same_is c d s)) ∙ h) cs ∙ m

pub none_filtered : (p : Pair → Bool) (cs : List Pair) → list_all (λ c. not (p c)) cs ≡ true → filter p cs ≡ []
none_filtered p [] e = refl
none_filtered p (c ∷ cs) e = let both = and_parts _ _ e in rw (not-true (p c) both.0) (none_filtered p cs both.1)

-- ---- the least

-- c is a member, and no member comes before it
pub record IsLeast (c : Pair) (cs : List Pair) : Type 0 where
  pub among : list_any (is_same c) cs ≡ true
  pub first : list_all (is_no_later c) cs ≡ true

-- a least member, or no member at all
abbrev pub FoundLeast : Option Pair → List Pair → Type 0
FoundLeast None cs = cs ≡ []
FoundLeast (Some c) cs = IsLeast c cs

-- the only member that passes is the first that does
find_only : (f : Pair → Bool) (p : Pair) (cs : List Pair) → f p ≡ true → All (λ d. f d ≡ true → d ≡ p) cs → list_any (is_same p) cs ≡ true
    → find f cs ≡ Some p
find_only f p [] h only m = cc
find_only f p (d ∷ cs) h only m = elim (cases_Bool (f d)) [
  | inl s ↦ rw s (ap Some (only 0 d (omega arith) s))
  | inr s ↦ rw s (find_only f p cs h (λ k x l. only (suc k) x (omega arith)) (elim (or_cases _ _ m) [
    | inl q ↦ let e = ap f (same_is p d q) in cc
    | inr q ↦ q
  ]))
]

-- there is one least member at most, and it is `least`
pub least_found : (first : Option Pair) (cs : List Pair) → FoundLeast first cs → first ≡ least cs
unfolding least
least_found None cs e = rw e refl
least_found (Some p) cs h =
    let only = λ (d : Pair) (c : Contains cs d) (s : list_all (is_no_later d) cs ≡ true).
    agree p d (All-contains (λ x. is_no_later p x ≡ true) cs d (AllPass-from_list_all _ cs h.first) c) (all_at (is_no_later d) p cs h.among s) in
    sym (find_only _ p cs h.first (All-weaker _ _ only cs (All-contains_itself cs)) h.among)

one_more : (c : Pair) (cs : List Pair) (found : Option Pair) → FoundLeast found cs → (first : Option Pair) × FoundLeast first (c ∷ cs)
one_more c cs None e = rw e (Some c, record { among = rw (is_same_itself c) refl; first = and_from _ _ (no_later_itself c) refl })
one_more c cs (Some d) h = elim (cases_Bool (is_no_later c d)) [
  | inl s ↦ (
    Some c,
    record {
      among = or_left _ _ (is_same_itself c);
      first = and_from _ _ (no_later_itself c) (all_weaker (is_no_later d) (is_no_later c) cs (λ x e. no_later_chain c d x s e) h.first);
    },
  )
  | inr s ↦ (Some d, record { among = or_true _ _ h.among; first = and_from _ _ (grind (arith, nat_tests, s)) h.first })
]

-- every list has one, but the empty one
finds : (cs : List Pair) → (first : Option Pair) × FoundLeast first cs
finds [] = (None, refl)
finds (c ∷ cs) = one_more c cs (finds cs).0 (finds cs).1

-- `least` is a least member, and there is one in every list but the empty one
pub least_is_found : (cs : List Pair) → FoundLeast (least cs) cs
least_is_found cs = let f = finds cs in subst (λ first. FoundLeast first cs) (least_found f.0 cs f.1) f.1

-- what is true of each is true of the least
pub all_at_least : (f : Pair → Bool) (c : Pair) (cs : List Pair) → least cs ≡ Some c → list_all f cs ≡ true → f c ≡ true
all_at_least f c cs e h =
    let is_least : IsLeast c cs = subst (λ first. FoundLeast first cs) e (least_is_found cs) in
    all_at f c cs is_least.among h
