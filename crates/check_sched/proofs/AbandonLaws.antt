-- Laws of runs that are abandoned, one object after another.
use Rattle.std.proofs.Common.{◌≡◌, ℕ, zero, suc, ◌+◌, ◌<◌, ◌≤◌, List, [], ◌∷◌, ◌++◌, length, take, drop, get_or, set, refl, ap, ◌∙◌, arith}
use Rattle.std.proofs.lemmas.List.{append-nil, drop_all, take_all}
use Rattle.check_saved_state.specs.Scheduling.{Scheduling}
use Rattle.check_sched.specs.Saved.{object_after_abandon}
use Rattle.check_sched.proofs.ResumedLaws.{freed, length-freed}

-- the objects below a number as they are abandoned, and those from there on as they were
abbrev pub freed_below : ℕ → ℕ → ℕ → List Scheduling → List Scheduling
freed_below n from now objects = take n (freed from now objects) ++ drop n objects

pub freed_none : (from now : ℕ) (objects : List Scheduling) → objects ≡ freed_below from from now objects
freed_none zero now objects = refl
freed_none (suc from) now [] = refl
freed_none (suc from) now (o ∷ objects) = ap (λ os. o ∷ os) (freed_none from now objects)

read_below : (n from now : ℕ) (objects : List Scheduling) (d : Scheduling) → from ≤ n → get_or (freed_below n from now objects) n d ≡ get_or objects n d
read_below zero zero now objects d h = refl
read_below (suc n) zero now [] d h = refl
read_below (suc n) zero now (o ∷ objects) d h = read_below n zero now objects d (omega arith)
read_below zero (suc from) now objects d h = absurd (omega arith)
read_below (suc n) (suc from) now [] d h = refl
read_below (suc n) (suc from) now (o ∷ objects) d h = read_below n from now objects d (omega arith)

set_below : (n from now : ℕ) (objects : List Scheduling) (d : Scheduling) → from ≤ n → n < length objects
    → set (freed_below n from now objects) n (object_after_abandon now (get_or objects n d)) ≡ freed_below (suc n) from now objects
set_below n from now [] d h l = absurd (omega arith)
set_below zero zero now (o ∷ objects) d h l = refl
set_below (suc n) zero now (o ∷ objects) d h l = ap (λ os. object_after_abandon now o ∷ os) (set_below n zero now objects d (omega arith) (omega arith))
set_below zero (suc from) now (o ∷ objects) d h l = absurd (omega arith)
set_below (suc n) (suc from) now (o ∷ objects) d h l = ap (λ os. o ∷ os) (set_below n from now objects d (omega arith) (omega arith))

-- one object more is abandoned
pub freed_more : (n from now : ℕ) (objects current : List Scheduling) (old new : Scheduling) → from ≤ n → n < length objects
    → current ≡ freed_below n from now objects → old ≡ get_or current n old → new ≡ object_after_abandon now old
    → set current n new ≡ freed_below (n + 1) from now objects
freed_more n from now objects current old new h l e f g =
    let read : old ≡ get_or objects n old = f ∙ ap (λ os. get_or os n old) e ∙ read_below n from now objects old h in
    let next : suc n ≡ n + 1 = omega arith in
    (λ i. set (e i) n ((g ∙ ap (object_after_abandon now) read) i)) ∙ set_below n from now objects old h l ∙ ap (λ m. freed_below m from now objects) next

-- at the end all from there on are
pub freed_all : (n from now : ℕ) (objects : List Scheduling) → length objects ≤ n → freed_below n from now objects ≡ freed from now objects
freed_all n from now objects l =
    let long = length-freed from now objects in
    (λ i. take_all n (freed from now objects) (omega (arith, l, long)) i ++ drop_all n objects l i) ∙ append-nil (freed from now objects)
