-- Whether an object is blocked, by its own dependencies and by those that inherit.
use Rattle.std.proofs.Common.{◌≡◌, ℕ, zero, suc, ◌<◌, ◌&&◌, ◌||◌, Bool, true, false, List, [], ◌∷◌, get_or, length, refl, sym, ap, ◌∙◌, arith, inl, inr}
use Rattle.std.specs.List.{list_any}
use Rattle.std.proofs.lemmas.Bool.{or_parts}
use Rattle.setup_model.specs.declared.dependency.Dependency.{Dependency}
use Rattle.setup_order.proofs.TestLemmas.{or_first, or_second, or_cases}
use Rattle.check_objects.specs.Configuration.{Configuration, dependencies_of, object_count, IsSetup}
use Rattle.check_states.specs.declared.standing.Standing.{Standing}
use Rattle.check_rules.specs.Dependencies.{fails, is_met, is_blocked_within, is_blocked}
use Rattle.check_rules.proofs.BlockedLaws.{blocked_by_masters}

-- whether a dependency fails because it inherits: its master is blocked
abbrev pub is_inheriting : Configuration → List Standing → Dependency → Bool
is_inheriting setup standings d = d.inherits && is_blocked setup standings d.master

-- ---- tests of dependencies

pub any_fewer : (p q : Dependency → Bool) → ((d : Dependency) → p d ≡ false → q d ≡ false) → (ds : List Dependency) → list_any p ds ≡ false
    → list_any q ds ≡ false
any_fewer p q f [] h = refl
any_fewer p q f (d ∷ ds) h =
    let both = or_parts (p d) (list_any p ds) h in rw (f d both.0, any_fewer p q f ds both.1) refl

pub any_more : (p q : Dependency → Bool) → ((d : Dependency) → p d ≡ true → q d ≡ true) → (ds : List Dependency) → list_any p ds ≡ true → list_any q ds ≡ true
any_more p q f [] h = h
any_more p q f (d ∷ ds) h = elim (or_cases (p d) (list_any p ds) h) [
  | inl a ↦ or_first (q d) _ (f d a)
  | inr b ↦ or_second (q d) _ (any_more p q f ds b)
]

and_none : (a b : Bool) → a ≡ false → (a && b) ≡ false
and_none a b e = rw e refl

none_fails : (c : Configuration) (standings : List Standing) (blocked : ℕ → Bool) (ds : List Dependency) → list_any (is_met c standings) ds ≡ false
    → list_any (λ d. d.inherits) ds ≡ false → list_any (fails blocked c standings) ds ≡ false
none_fails c standings blocked [] met inherits = refl
none_fails c standings blocked (d ∷ ds) met inherits =
    let here = or_parts (is_met c standings d) (list_any (is_met c standings) ds) met in
    let own = or_parts d.inherits (list_any (λ e. e.inherits) ds) inherits in
    rw (here.0, and_none d.inherits (blocked d.master) own.0, none_fails c standings blocked ds here.1 own.1) refl

or_four : (a b c d : Bool) → ((a || b) || (c || d)) ≡ ((a || c) || (b || d))
or_four true b true d = refl
or_four true b false d = refl
or_four false true true d = refl
or_four false true false d = refl
or_four false false c d = refl

any_either : {A : Type 0} (p q : A → Bool) (xs : List A) → list_any (λ x. p x || q x) xs ≡ (list_any p xs || list_any q xs)
any_either p q [] = refl
any_either p q (x ∷ xs) = ap (λ b. (p x || q x) || b) (any_either p q xs) ∙ or_four (p x) (q x) (list_any p xs) (list_any q xs)

-- an object is blocked where a master is in one of its criteria, or one that it inherits from is blocked
pub blocked_in_two : (c : Configuration) (standings : List Standing) (n : ℕ) → IsSetup c → n < object_count c
    → is_blocked c standings n
    ≡ (list_any (is_met c standings) (dependencies_of c n) || list_any (is_inheriting c standings) (dependencies_of c n))
blocked_in_two c standings n valid h =
    blocked_by_masters c standings n valid h ∙ any_either (is_met c standings) (is_inheriting c standings) (dependencies_of c n)

-- ---- an object's own dependencies

met_within : (c : Configuration) (standings : List Standing) (k n : ℕ) → 0 < k → list_any (is_met c standings) (dependencies_of c n) ≡ true
    → is_blocked_within k c standings n ≡ true
met_within c standings zero n h met = absurd (omega (arith, h))
met_within c standings (suc k) n h met =
    any_more (is_met c standings) (fails (is_blocked_within k c standings) c standings) (λ d e. or_first (is_met c standings d) _ e) (dependencies_of c n) met

none_within : (c : Configuration) (standings : List Standing) (k n : ℕ) → list_any (is_met c standings) (dependencies_of c n) ≡ false
    → list_any (λ d. d.inherits) (dependencies_of c n) ≡ false → is_blocked_within k c standings n ≡ false
none_within c standings zero n met inherits = refl
none_within c standings (suc k) n met inherits =
    none_fails c standings (is_blocked_within k c standings) (dependencies_of c n) met inherits

module _ (c : Configuration) (standings : List Standing) (n : ℕ) (in_range : n < object_count c) (ds : List Dependency) (met : Bool)
    (own : ds ≡ dependencies_of c n) (tested : met ≡ list_any (is_met c standings) ds) where
  -- a master in one of its criteria settles it
  pub met_blocks : met ≡ true → true ≡ is_blocked c standings n
  met_blocks e = sym (met_within c standings (object_count c) n (omega (arith, in_range)) (rw (← own) (sym tested ∙ e)))

  -- and where none inherits, so does none
  pub none_blocks : met ≡ false → list_any (λ d. d.inherits) ds ≡ false → false ≡ is_blocked c standings n
  none_blocks e inherits = sym (none_within c standings (object_count c) n (rw (← own) (sym tested ∙ e)) (rw (← own) inherits))

-- ---- one master that decides

last_of_two : (b : Bool) → ((false || false) || ((true && b) || false)) ≡ b
last_of_two true = refl
last_of_two false = refl

one_item : (ds : List Dependency) (default : Dependency) → length ds ≡ 1 → get_or ds 0 default ∷ [] ≡ ds
one_item [] default e = absurd (omega (arith, e))
one_item (d ∷ []) default e = refl
one_item (d ∷ other ∷ ds) default e = absurd (omega (arith, e))

-- an object with one dependency, which inherits and isn't met, is blocked if and only if its master is
pub decided : (c : Configuration) (standings : List Standing) (n : ℕ) (ds : List Dependency) (default : Dependency) → IsSetup c → n < object_count c
    → ds ≡ dependencies_of c n → length ds ≡ 1 → (get_or ds 0 default).inherits ≡ true → is_met c standings (get_or ds 0 default) ≡ false
    → is_blocked c standings (get_or ds 0 default).master ≡ is_blocked c standings n
decided c standings n ds default valid h own one inherits met =
    let d = get_or ds 0 default in
    sym (blocked_in_two c standings n valid h
    ∙ ap (λ own. list_any (is_met c standings) own || list_any (is_inheriting c standings) own) (sym own ∙ sym (one_item ds default one))
    ∙ (λ i. (met i || false) || ((inherits i && is_blocked c standings d.master) || false))
    ∙ last_of_two (is_blocked c standings d.master))
