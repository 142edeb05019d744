-- Dependencies followed from master to master: where no object depends on itself, the number of objects is deep enough.
use Rattle.std.proofs.Common.{◌≡◌, ℕ, zero, suc, ◌<◌, ◌≤◌, ◌&&◌, ◌||◌, Bool, false, List, [], ◌∷◌, get_or, length, refl, sym, ap, ◌∙◌, arith, inl, inr}
use Rattle.std.specs.List.{list_any}
use Rattle.std.proofs.lemmas.Bool.{cases_lt, or_parts}
use Rattle.std.proofs.lemmas.List.{length-map}
use Rattle.std.proofs.Math.ListN.{get_or-map}
use Rattle.setup_model.specs.declared.dependency.Dependency.{Dependency}
use Rattle.check_objects.specs.Configuration.{Configuration, dependencies_of, masters_in, masters_of, object_count, IsSetup}
use Rattle.setup_order.specs.Cycles.{links_of, deep, any_below, has_cycle}
use Rattle.check_states.specs.declared.standing.Standing.{Standing}
use Rattle.check_rules.specs.Dependencies.{fails, is_met, is_blocked_within, is_blocked}

-- the masters of an object are those of its dependencies
pub masters_at : (c : Configuration) (n : ℕ) → links_of (masters_of c) n ≡ masters_in (dependencies_of c n)
masters_at c n = get_or-map masters_in c.dependencies n []

-- tests that agree where no chain of k masters begins
any_same : (links : List (List ℕ)) (k : ℕ) (p q : Dependency → Bool) → ((d : Dependency) → deep links d.master k ≡ false → p d ≡ q d)
    → (ds : List Dependency) → list_any (λ m. deep links m k) (masters_in ds) ≡ false → list_any p ds ≡ list_any q ds
any_same links k p q f [] h = refl
any_same links k p q f (d ∷ ds) h =
    ap (λ b. b || list_any p ds) (f d (or_parts (deep links d.master k) _ h).0)
    ∙ ap (λ b. q d || b) (any_same links k p q f ds (or_parts (deep links d.master k) _ h).1)

-- where no chain of k masters begins, one step further says the same
deep_enough : (c : Configuration) (standings : List Standing) (k n : ℕ) → deep (masters_of c) n k ≡ false
    → is_blocked_within (suc k) c standings n ≡ is_blocked_within k c standings n
deep_enough c standings zero n h = cc
deep_enough c standings (suc k) n h =
    any_same (masters_of c) k (λ d. is_met c standings d || (d.inherits && is_blocked_within (suc k) c standings d.master))
    (λ d. is_met c standings d || (d.inherits && is_blocked_within k c standings d.master))
    (λ d e. ap (λ b. is_met c standings d || (d.inherits && b)) (deep_enough c standings k d.master e))
    (dependencies_of c n) (rw (← masters_at c n) h)

below_by : (p : ℕ → Bool) (n : ℕ) → any_below p n ≡ false → (k : ℕ) → k < n → p k ≡ false
below_by p zero h k l = absurd (omega arith)
below_by p (suc n) h k l = elim (cases_lt k n) [
  | inl m ↦ below_by p n (or_parts (any_below p n) (p n) h).0 k m
  | inr g ↦ let same : k ≡ n = omega arith in rw same (or_parts (any_below p n) (p n) h).1
]

no_chain : (links : List (List ℕ)) (n : ℕ) → has_cycle links ≡ false → n < length links → deep links n (length links) ≡ false
unfolding has_cycle
no_chain links n h l = below_by (λ o. deep links o (length links)) (length links) h n l

-- no chain of as many masters as there are objects begins at an object
pub short : (c : Configuration) (n : ℕ) → has_cycle (masters_of c) ≡ false → length c.dependencies ≡ object_count c → n < object_count c
    → deep (masters_of c) n (object_count c) ≡ false
short c n acyclic one_list_each h =
    let size : length (masters_of c) ≡ object_count c = length-map c.dependencies masters_in ∙ one_list_each in
    rw (← size) (no_chain (masters_of c) n acyclic (omega (arith, size, h)))

-- An object is blocked where a master of it is in one of its criteria, or a dependency of it inherits and its master is
-- blocked.
pub blocked_by_masters : (c : Configuration) (standings : List Standing) (n : ℕ) → IsSetup c → n < object_count c
    → is_blocked c standings n ≡ list_any (λ d. is_met c standings d || (d.inherits && is_blocked c standings d.master)) (dependencies_of c n)
blocked_by_masters c standings n is h = sym (deep_enough c standings (object_count c) n (short c n is.acyclic is.one_list_each h))

unblocked_within : (k : ℕ) (c : Configuration) (standings : List Standing) (n : ℕ) → dependencies_of c n ≡ [] → is_blocked_within k c standings n ≡ false
unblocked_within zero c standings n e = refl
unblocked_within (suc k) c standings n e = rw e refl

-- an object without dependencies isn't blocked
pub unblocked : (c : Configuration) (standings : List Standing) (n : ℕ) → dependencies_of c n ≡ [] → false ≡ is_blocked c standings n
unblocked c standings n e = sym (unblocked_within (object_count c) c standings n e)

none_past : {X : Type 0} (ds : List (List X)) (n : ℕ) → length ds ≤ n → get_or ds n [] ≡ []
none_past [] n h = refl
none_past (d ∷ ds) zero h = absurd (omega arith)
none_past (d ∷ ds) (suc n) h = none_past ds n (omega arith)

-- a number past the objects has no dependencies
past : (c : Configuration) (n : ℕ) → length c.dependencies ≡ object_count c → object_count c ≤ n → dependencies_of c n ≡ []
past c n one_list_each h = none_past c.dependencies n (omega (arith, one_list_each, h))

-- An object is blocked exactly where some dependency of it fails.
pub blocked_where : (c : Configuration) (standings : List Standing) → has_cycle (masters_of c) ≡ false → length c.dependencies ≡ object_count c
    → (n : ℕ) → is_blocked c standings n ≡ list_any (fails (is_blocked c standings) c standings) (dependencies_of c n)
blocked_where c standings acyclic one_list_each n = elim (cases_lt n (object_count c)) [
  | inl h ↦ sym (deep_enough c standings (object_count c) n (short c n acyclic one_list_each h))
  | inr g ↦ let none = past c n one_list_each g in sym (unblocked c standings n none) ∙ sym (ap (list_any (fails (is_blocked c standings) c standings)) none)
]

-- what answers by its own answers for the masters, answers as the definition does where no chain of k masters begins
alone_within : (c : Configuration) (standings : List Standing) (b : ℕ → Bool) → ((n : ℕ) → b n ≡ list_any (fails b c standings) (dependencies_of c n))
    → (k n : ℕ) → deep (masters_of c) n k ≡ false → b n ≡ is_blocked_within k c standings n
alone_within c standings b is zero n h = cc
alone_within c standings b is (suc k) n h =
    is n
    ∙ any_same (masters_of c) k (fails b c standings) (fails (is_blocked_within k c standings) c standings)
    (λ d e. ap (λ x. is_met c standings d || (d.inherits && x)) (alone_within c standings b is k d.master e))
    (dependencies_of c n) (rw (← masters_at c n) h)

pub alone : (c : Configuration) (standings : List Standing) (b : ℕ → Bool) → has_cycle (masters_of c) ≡ false → length c.dependencies ≡ object_count c
    → ((n : ℕ) → b n ≡ list_any (fails b c standings) (dependencies_of c n)) → (n : ℕ) → b n ≡ is_blocked c standings n
alone c standings b acyclic one_list_each is n = elim (cases_lt n (object_count c)) [
  | inl h ↦ alone_within c standings b is (object_count c) n (short c n acyclic one_list_each h)
  | inr g ↦ let none = past c n one_list_each g in is n ∙ ap (list_any (fails b c standings)) none ∙ unblocked c standings n none
]
