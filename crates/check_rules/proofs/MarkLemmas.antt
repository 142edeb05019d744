-- One more dependency is read: its master is marked, and waits, if it inherits and its master isn't marked.
use Rattle.std.proofs.Common.{◌≡◌, ℕ, zero, suc, ◌+◌, ◌<◌, ◌≤◌, ◌==◌, ◌&&◌, ◌||◌, Bool, true, false, not, List, [], ◌∷◌, ◌++◌, get_or, length, take}
use Rattle.std.proofs.Common.{refl, sym, ap, ◌∙◌, arith, inl, inr, ◌⊎◌}
use Rattle.std.specs.Prelude.{All}
use Rattle.std.proofs.Math.ListN.{set}
use Rattle.std.proofs.lemmas.Bool.{cases_eq, eq-eqb}
use Rattle.std.proofs.lemmas.List.{get_or-set_other, get_or-set_same, length-set, take_more_set}
use Rattle.std.proofs.lemmas.List.Folds.{list_any-append, list_all-append, list_any_more, list_all_more}
use Rattle.setup_model.specs.declared.dependency.Dependency.{Dependency}
use Rattle.setup_order.specs.Orders.{is_among}
use Rattle.setup_order.proofs.TestLemmas.{or_first, or_second, and_both, all_weaker}
use Rattle.check_rules.specs.Marks.{is_marked, are_marked, inherits_from, HasMarked, HasQueued}

-- a marked object is one of those that can be marked
pub marked_within : (marks : List Bool) (object : ℕ) → is_marked marks object ≡ true → object < length marks
marked_within [] object h = cc
marked_within (m ∷ marks) zero h = omega arith
marked_within (m ∷ marks) (suc object) h = let l = marked_within marks object h in omega (arith, l)

pub either : (b : Bool) → (b ≡ true) ⊎ (b ≡ false)
either true = inl refl
either false = inr refl

pub same_number : (x : ℕ) → (x == x) ≡ true
same_number x = eq-eqb x x refl

-- ---- one mark

module _ (marks : List Bool) (master : ℕ) (l : master < length marks) where
  pub marked_here : is_marked (set marks master true) master ≡ true
  marked_here = get_or-set_same marks master true false l

  pub still_marked : (object : ℕ) → is_marked marks object ≡ true → is_marked (set marks master true) object ≡ true
  still_marked object h = elim (cases_eq master object) [
    | inl e ↦ rw (← e) marked_here
    | inr n ↦ get_or-set_other marks master object true false (λ e. n (sym e)) ∙ h
  ]

  -- nothing else was marked
  pub newly_marked : (object : ℕ) → is_marked marks object ≡ false → is_marked (set marks master true) object ≡ true → object ≡ master
  newly_marked object f h = elim (cases_eq master object) [
    | inl e ↦ sym e
    | inr n ↦ let same = get_or-set_other marks master object true false (λ e. n (sym e)) in cc
  ]

-- ---- the masters of some dependencies

pub marked_none : (marks : List Bool) → HasMarked [] marks marks
marked_none marks = record { size = refl; kept = λ object h. h; inherited = λ object f h. cc }

module _ (ds : List Dependency) (i : ℕ) (d : Dependency) (l : i < length ds) (marks marks' : List Bool) (so_far : HasMarked (take i ds) marks marks') where
  more : (object : ℕ) → inherits_from (take (i + 1) ds) object
      ≡ (inherits_from (take i ds) object || ((get_or ds i d).inherits && ((get_or ds i d).master == object)))
  more object = list_any_more (λ e. e.inherits && (e.master == object)) ds i d l

  -- nothing is marked
  pub marked_same : HasMarked (take (i + 1) ds) marks marks'
  marked_same = record {
    size = so_far.size;
    kept = so_far.kept;
    inherited = λ object f h. more object ∙ or_first _ _ (so_far.inherited object f h);
  }

  -- its master is marked
  pub marked_more : (get_or ds i d).inherits ≡ true → (get_or ds i d).master < length marks'
      → HasMarked (take (i + 1) ds) marks (set marks' (get_or ds i d).master true)
  marked_more inherits within =
      let master = (get_or ds i d).master in
      record {
        size = length-set marks' master true ∙ so_far.size;
        kept = λ object h. still_marked marks' master within object (so_far.kept object h);
        inherited = λ object f h. more object ∙ elim (either (is_marked marks' object)) [
          | inl before ↦ or_first _ _ (so_far.inherited object f before)
          | inr unmarked ↦
              let e = newly_marked marks' master within object unmarked h in
              or_second _ _ (and_both _ _ inherits (rw e (same_number master)))
        ];
      }

or_keeps : (a b c : Bool) → (b ≡ true → c ≡ true) → (a || b) ≡ true → (a || c) ≡ true
or_keeps true b c f h = refl
or_keeps false b c f h = f h

module _ (ds : List Dependency) (i : ℕ) (d : Dependency) (l : i < length ds) (marks : List Bool) (so_far : are_marked (take i ds) marks ≡ true) where
  -- nothing has to be marked
  pub all_same : (not (get_or ds i d).inherits || is_marked marks (get_or ds i d).master) ≡ true → are_marked (take (i + 1) ds) marks ≡ true
  all_same h = list_all_more (λ e. not e.inherits || is_marked marks e.master) ds i d l ∙ and_both _ _ so_far h

  -- its master is marked
  pub all_more : (get_or ds i d).master < length marks → are_marked (take (i + 1) ds) (set marks (get_or ds i d).master true) ≡ true
  all_more within =
      let master = (get_or ds i d).master in
      let marks' = set marks master true in
      list_all_more (λ e. not e.inherits || is_marked marks' e.master) ds i d l
      ∙ and_both _ _
      (all_weaker (λ e. not e.inherits || is_marked marks e.master) (λ e. not e.inherits || is_marked marks' e.master)
      (λ e h. or_keeps (not e.inherits) _ _ (still_marked marks master within e.master) h) (take i ds) so_far)
      (or_second _ _ (marked_here marks master within))

-- what the dependencies read so far have marked
abbrev pub HasRead : List Dependency → List Bool → List Bool → Type 0
HasRead ds marks marks' = HasMarked ds marks marks' × (are_marked ds marks' ≡ true)

pub reads_nothing : (marks : List Bool) → HasRead [] marks marks
reads_nothing marks = (marked_none marks, refl)

module _ (ds : List Dependency) (i : ℕ) (d : Dependency) (l : i < length ds) (marks marks' : List Bool)
    (in_range : All (λ e. e.master < length marks) ds) (so_far : HasRead (take i ds) marks marks') where
  pub reads_uninherited : (get_or ds i d).inherits ≡ false → HasRead (take (i + 1) ds) marks marks'
  reads_uninherited f =
      (marked_same ds i d l marks marks' so_far.0, all_same ds i d l marks' so_far.1 (or_first (not (get_or ds i d).inherits) _ (ap not f)))

  pub reads_marked : is_marked marks' (get_or ds i d).master ≡ true → HasRead (take (i + 1) ds) marks marks'
  reads_marked h =
      (marked_same ds i d l marks marks' so_far.0, all_same ds i d l marks' so_far.1 (or_second _ _ h))

  pub master_within : (get_or ds i d).master < length marks'
  master_within = let a = in_range i d l in let b = so_far.0.size in omega (arith, a, b)

  pub reads_inherited : (get_or ds i d).inherits ≡ true → HasRead (take (i + 1) ds) marks (set marks' (get_or ds i d).master true)
  reads_inherited h =
      (marked_more ds i d l marks marks' so_far.0 h master_within, all_more ds i d l marks' so_far.1 master_within)

-- ---- those that wait

pub queued_none : (marks : List Bool) (waiting : List ℕ) → HasQueued marks marks waiting waiting
queued_none marks waiting = record { kept = λ object h. h; added = λ object f h. cc; marked = λ h. h }

queued_push : (marks marks' : List Bool) (waiting waiting' : List ℕ) (master : ℕ) → HasQueued marks marks' waiting waiting' → master < length marks'
    → HasQueued marks (set marks' master true) waiting (waiting' ++ master ∷ [])
queued_push marks marks' waiting waiting' master so_far l = record {
  kept = λ object h. list_any-append (λ x. x == object) waiting' (master ∷ []) ∙ or_first _ _ (so_far.kept object h);
  added = λ object f h. list_any-append (λ x. x == object) waiting' (master ∷ []) ∙ elim (either (is_marked marks' object)) [
    | inl before ↦ or_first _ _ (so_far.added object f before)
    | inr unmarked ↦ let e = newly_marked marks' master l object unmarked h in
        or_second (is_among waiting' object) (is_among (master ∷ []) object) (or_first (master == object) false (rw e (same_number master)))
  ];
  marked = λ h.
      list_all-append (is_marked (set marks' master true)) waiting' (master ∷ [])
      ∙ and_both _ _ (all_weaker (is_marked marks') (is_marked (set marks' master true)) (still_marked marks' master l) waiting' (so_far.marked h))
      (and_both _ _ (marked_here marks' master l) refl);
}

-- one more waits
pub queued_more : (marks marks' : List Bool) (first waiting : List ℕ) (more master : ℕ) → HasQueued marks marks' first (take more waiting)
    → master < length marks' → more < length waiting
    → HasQueued marks (set marks' master true) first (take (more + 1) (set waiting more master))
queued_more marks marks' first waiting more master so_far l room =
    rw (take_more_set waiting more master room) (queued_push marks marks' first (take more waiting) master so_far l)

pub fits_more : (waiting : List ℕ) (more master : ℕ) → more < length waiting → more + 1 ≤ length (set waiting more master)
fits_more waiting more master room = let size = length-set waiting more master in omega (arith, size, room)
