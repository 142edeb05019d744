-- The search for a blocked master: what is known of the marked objects, and how it grows.
use Rattle.std.proofs.Common.{◌≡◌, ℕ, zero, suc, ◌+◌, ◌<◌, ◌-◌, ◌≤◌, ◌==◌, ◌&&◌, ◌||◌, Bool, true, false, not, List, [], ◌∷◌, ◌++◌, get_or, length, replicate}
use Rattle.std.proofs.Common.{take}
use Rattle.std.proofs.Common.{refl, sym, ap, ◌∙◌, append_assoc, append-nil, arith, inl, inr}
use Rattle.std.specs.List.{list_all, list_any}
use Rattle.std.proofs.Math.ListN.{set}
use Rattle.std.proofs.lemmas.Bool.{or_parts, eqb-true}
use Rattle.std.proofs.lemmas.List.{length-map, length-set, length-replicate, take_all, take_more}
use Rattle.std.proofs.lemmas.List.Folds.{list_any-append, list_all-append}
use Rattle.setup_model.specs.declared.dependency.Dependency.{Dependency}
use Rattle.setup_order.specs.Cycles.{links_of}
use Rattle.setup_order.specs.Orders.{is_among, is_topological, IsOrder}
use Rattle.setup_order.proofs.TestLemmas.{or_first, or_second, or_cases, and_first, and_second, and_both, all_weaker}
use Rattle.setup_order.proofs.ChainLemmas.{all_among, among_times}
use Rattle.check_objects.specs.Configuration.{Configuration, dependencies_of, masters_in, masters_of, object_count, IsSetup}
use Rattle.check_states.specs.declared.standing.Standing.{Standing}
use Rattle.check_rules.specs.Dependencies.{fails, is_met, is_blocked_within, is_blocked}
use Rattle.check_rules.specs.Marks.{is_marked, are_marked, inherits_from, HasMarked, HasQueued}
use Rattle.check_rules.proofs.BlockedLaws.{masters_at}
use Rattle.check_rules.proofs.InheritLemmas.{any_fewer, any_more, is_inheriting, blocked_in_two}
use Rattle.check_rules.proofs.MarkLemmas.{either, marked_here, newly_marked}

-- whether some dependency of the object fails, if just the masters without a mark are blocked
abbrev pub is_open : Configuration → List Standing → List Bool → ℕ → Bool
is_open c standings marks object = list_any (fails (λ master. not (is_marked marks master)) c standings) (dependencies_of c object)

-- A search from the object n. If a marked object is blocked, n is. A marked object that doesn't wait isn't open.
pub record IsSearch (c : Configuration) (standings : List Standing) (n : ℕ) (marks : List Bool) (waiting : List ℕ) : Type 0 where
  pub size : length marks ≡ object_count c
  pub start : is_marked marks n ≡ true
  pub sound : (object : ℕ) → is_marked marks object ≡ true → is_blocked c standings object ≡ true → is_blocked c standings n ≡ true
  pub settled : (object : ℕ) → is_marked marks object ≡ true → is_among waiting object ≡ false → is_open c standings marks object ≡ false

-- ---- tests of dependencies

-- of a dependency that doesn't fail, a master that is marked is no reason to fail
fails_fewer : (met inherits marked blocked : Bool) → (marked ≡ true → blocked ≡ false) → (met || (inherits && not marked)) ≡ false
    → (met || (inherits && blocked)) ≡ false
fails_fewer true inherits marked blocked f h = h
fails_fewer false false marked blocked f h = refl
fails_fewer false true true blocked f h = f refl
fails_fewer false true false blocked f h = cc

fails_less : (met inherits marked marked' : Bool) → (marked ≡ true → marked' ≡ true) → (met || (inherits && not marked)) ≡ false
    → (met || (inherits && not marked')) ≡ false
fails_less met inherits marked marked' f h = fails_fewer met inherits marked (not marked') (λ m. ap not (f m)) h

none_open : (met inherits marked : Bool) → met ≡ false → (not inherits || marked) ≡ true → (met || (inherits && not marked)) ≡ false
none_open true inherits marked e h = cc
none_open false true true e h = refl
none_open false true false e h = cc
none_open false false marked e h = refl

or_false : (a b : Bool) → a ≡ false → b ≡ false → (a || b) ≡ false
or_false a b f g = rw (f, g) refl

-- where no master is in one of its criteria, and those from which it inherits are marked, no dependency is open
all_closed : (c : Configuration) (standings : List Standing) (marks : List Bool) (ds : List Dependency) → list_any (is_met c standings) ds ≡ false
    → are_marked ds marks ≡ true → list_any (fails (λ master. not (is_marked marks master)) c standings) ds ≡ false
all_closed c standings marks [] e h = refl
all_closed c standings marks (d ∷ ds) e h =
    let both = or_parts (is_met c standings d) (list_any (is_met c standings) ds) e in
    or_false _ _ (none_open (is_met c standings d) d.inherits (is_marked marks d.master) both.0 (and_first _ _ h))
    (all_closed c standings marks ds both.1 (and_second _ _ h))

-- ---- the end of a search

-- if no marked object is open, none is blocked
unblocked_within : (c : Configuration) (standings : List Standing) (marks : List Bool)
    → ((object : ℕ) → is_marked marks object ≡ true → is_open c standings marks object ≡ false) → (k object : ℕ) → is_marked marks object ≡ true
    → is_blocked_within k c standings object ≡ false
unblocked_within c standings marks settled zero object h = refl
unblocked_within c standings marks settled (suc k) object h =
    any_fewer (fails (λ master. not (is_marked marks master)) c standings) (fails (is_blocked_within k c standings) c standings)
    (λ d e. fails_fewer (is_met c standings d) d.inherits (is_marked marks d.master) (is_blocked_within k c standings d.master)
    (unblocked_within c standings marks settled k d.master) e) (dependencies_of c object) (settled object h)

module _ (c : Configuration) (standings : List Standing) (n : ℕ) where
  -- nothing waits any more
  pub ends : (marks : List Bool) (waiting : List ℕ) → waiting ≡ [] → IsSearch c standings n marks waiting → false ≡ is_blocked c standings n
  ends marks waiting none is =
      sym (unblocked_within c standings marks (λ object h. is.settled object h (rw none refl)) (object_count c) n is.start)

  -- ---- the start

  unmarked : (count object : ℕ) → is_marked (replicate count false) object ≡ false
  unmarked zero object = refl
  unmarked (suc count) zero = refl
  unmarked (suc count) (suc object) = unmarked count object

  -- n alone is marked, and waits
  pub starts : (marks : List Bool) (waiting : List ℕ) (count : ℕ) → marks ≡ replicate count false → count ≡ object_count c → n < object_count c
      → is_among waiting n ≡ true → IsSearch c standings n (set marks n true) waiting
  starts marks waiting count cleared same l waits =
      let size : length marks ≡ object_count c = rw cleared (length-replicate count false) ∙ same in
      let within : n < length marks = omega (arith, size, l) in
      let alone : (object : ℕ) → is_marked (set marks n true) object ≡ true → object ≡ n =
      λ object h. newly_marked marks n within object (rw cleared (unmarked count object)) h in
      record {
        size = length-set marks n true ∙ size;
        start = marked_here marks n within;
        sound = λ object h b. rw (← alone object h) b;
        settled = λ object h none. let e = alone object h in let no : is_among waiting n ≡ false = rw (← e) none in cc;
      }

  -- ---- the next object that waits

  among_push : (rest : List ℕ) (x object : ℕ) → is_among rest object ≡ false → (x == object) ≡ false → is_among (rest ++ x ∷ []) object ≡ false
  among_push rest x object f g = list_any-append (λ y. y == object) rest (x ∷ []) ∙ rw (f, g) refl

  -- it has no mark
  pub passes : (marks : List Bool) (rest : List ℕ) (x : ℕ) → IsSearch c standings n marks (rest ++ x ∷ []) → is_marked marks x ≡ false
      → IsSearch c standings n marks rest
  passes marks rest x is unmarked = record {
    size = is.size;
    start = is.start;
    sound = is.sound;
    settled = λ object h none. elim (either (x == object)) [
      | inl e ↦ let same = eqb-true x object e in let a : is_marked marks x ≡ true = rw same h in cc
      | inr f ↦ is.settled object h (among_push rest x object none f)
    ];
  }

  module _ (valid : IsSetup c) (marks : List Bool) (rest : List ℕ) (x : ℕ) (is : IsSearch c standings n marks (rest ++ x ∷ []))
      (marked : is_marked marks x ≡ true) (within : x < object_count c) where
    -- a master of it is in one of its criteria
    pub finds : (met : Bool) (ds : List Dependency) → ds ≡ dependencies_of c x → met ≡ list_any (is_met c standings) ds → met ≡ true
        → true ≡ is_blocked c standings n
    finds met ds own tested e =
        let some : list_any (is_met c standings) (dependencies_of c x) ≡ true = rw (← own) (sym tested ∙ e) in
        sym (is.sound x marked (blocked_in_two c standings x valid within ∙ or_first _ _ some))

    -- a blocked master from which it inherits blocks it
    inherited_blocks : (object : ℕ) → inherits_from (dependencies_of c x) object ≡ true → is_blocked c standings object ≡ true
        → is_blocked c standings x ≡ true
    inherited_blocks object inherited b =
        blocked_in_two c standings x valid within ∙ or_second _ _
        (any_more (λ d. d.inherits && (d.master == object)) (is_inheriting c standings)
        (λ d e. and_both _ _ (and_first d.inherits _ e) (rw (eqb-true d.master object (and_second d.inherits _ e)) b)) (dependencies_of c x) inherited)

    not_before : (marks' : List Bool) (rest' : List ℕ) → HasQueued marks marks' rest rest' → (object : ℕ) → is_among rest' object ≡ false
        → is_among rest object ≡ false
    not_before marks' rest' queued object none = elim (either (is_among rest object)) [
      | inl before ↦ let a = queued.kept object before in cc
      | inr other ↦ other
    ]

    -- no master of it is in one of its criteria, and those from which it inherits are marked
    pub visits : (marks' : List Bool) (rest' : List ℕ) (met : Bool) (ds : List Dependency) → ds ≡ dependencies_of c x
        → met ≡ list_any (is_met c standings) ds → met ≡ false → HasMarked ds marks marks' → are_marked ds marks' ≡ true
        → HasQueued marks marks' rest rest' → IsSearch c standings n marks' rest'
    visits marks' rest' met ds own tested e grown all queued = record {
      size = grown.size ∙ is.size;
      start = grown.kept n is.start;
      sound = λ object h b. elim (either (is_marked marks object)) [
        | inl before ↦ is.sound object before b
        | inr unmarked ↦ is.sound x marked (inherited_blocks object (rw (← own) (grown.inherited object unmarked h)) b)
      ];
      settled = λ object h none. elim (either (x == object)) [
        | inl same ↦
            rw (← eqb-true x object same, ← own)
            (all_closed c standings marks' ds (sym tested ∙ e) all)
        | inr other ↦ elim (either (is_marked marks object)) [
          | inl before ↦
              any_fewer (fails (λ master. not (is_marked marks master)) c standings) (fails (λ master. not (is_marked marks' master)) c standings)
              (λ d f. fails_less (is_met c standings d) d.inherits (is_marked marks d.master) (is_marked marks' d.master) (grown.kept d.master) f)
              (dependencies_of c object) (is.settled object before (among_push rest x object (not_before marks' rest' queued object none) other))
          | inr unmarked ↦ let a = queued.added object unmarked h in cc
        ]
      ];
    }

-- ---- the order of all objects

-- the links of an object in an order lead to those before it
links_placed : (links : List (List ℕ)) (placed os : List ℕ) (i d : ℕ) → is_topological links placed os ≡ true → i < length os
    → list_all (is_among (placed ++ take i os)) (links_of links (get_or os i d)) ≡ true
links_placed links placed [] i d h l = absurd (omega arith)
links_placed links placed (o ∷ os) zero d h l = rw append-nil (and_first _ _ h)
links_placed links placed (o ∷ os) (suc i) d h l =
    rw (← append_assoc placed (o ∷ []) (take i os)) (links_placed links (placed ++ o ∷ []) os i d (and_second _ _ h) (omega arith))

-- an object is among the masters if a dependency inherits from it
among_masters : (ds : List Dependency) (object : ℕ) → inherits_from ds object ≡ true → is_among (masters_in ds) object ≡ true
among_masters [] object h = h
among_masters (d ∷ ds) object h = elim (or_cases (d.inherits && (d.master == object)) (inherits_from ds object) h) [
  | inl a ↦ or_first (d.master == object) _ (and_second d.inherits _ a)
  | inr b ↦ or_second (d.master == object) _ (among_masters ds object b)
]

-- the first objects of a list, and the last of these
pub last_of : (objects : List ℕ) (place d : ℕ) → 0 < place → place ≤ length objects
    → take place objects ≡ take (place - 1) objects ++ get_or objects (place - 1) d ∷ []
last_of objects place d some within =
    let e : place - 1 + 1 ≡ place = omega (arith, some) in
    ap (λ k. take k objects) (sym e) ∙ take_more objects (place - 1) d (omega (arith, some, within))

-- all of those that wait are marked, the last one too
pub last_marked : (marks : List Bool) (waiting : List ℕ) (count d : ℕ) → 0 < count → count ≤ length waiting
    → list_all (is_marked marks) (take count waiting) ≡ true
    → (list_all (is_marked marks) (take (count - 1) waiting) ≡ true) × (is_marked marks (get_or waiting (count - 1) d) ≡ true)
last_marked marks waiting count d some within h =
    let split : list_all (is_marked marks) (take (count - 1) waiting ++ get_or waiting (count - 1) d ∷ []) ≡ true =
    rw (← last_of waiting count d some within) h in
    let both = sym (list_all-append (is_marked marks) (take (count - 1) waiting) (get_or waiting (count - 1) d ∷ [])) ∙ split in
    (and_first _ _ both, and_first _ _ (and_second _ _ both))

module _ (c : Configuration) (order : List ℕ) (valid : IsSetup c) (is : IsOrder (masters_of c) order) where
  -- there are as many in the order as there are objects
  pub order_size : length order ≡ object_count c
  order_size = is.size ∙ length-map c.dependencies masters_in ∙ valid.one_list_each

  -- each object is in the order
  pub in_whole_order : (count object : ℕ) → count ≡ object_count c → object < object_count c → is_among (take count order) object ≡ true
  in_whole_order count object same l =
      let within : object < length (masters_of c) = let a = order_size in let b = is.size in omega (arith, a, b, l) in
      let once = is.each_once object within in
      rw (take_all count order (let a = order_size in omega (arith, a, same))) (among_times order object (omega (arith, once)))

  -- the masters of an object are among those before it
  pub queued_in_order : (place d : ℕ) (ds : List Dependency) (marks marks' : List Bool) → place < length order
      → ds ≡ dependencies_of c (get_or order place d) → HasMarked ds marks marks' → HasQueued marks marks' (take place order) (take place order)
  queued_in_order place d ds marks marks' l own grown = record {
    kept = λ object h. h;
    added = λ object f h.
        let object_of = get_or order place d in
        let placed = links_placed (masters_of c) [] order place d is.after_links l in
        let before : list_all (is_among (take place order)) (masters_in ds) ≡ true = rw (own, ← masters_at c object_of) placed in
        all_among (is_among (take place order)) (masters_in ds) object before (among_masters ds object (grown.inherited object f h));
    marked = λ h. all_weaker (is_marked marks) (is_marked marks') grown.kept (take place order) h;
  }
