-- Reads and writes of entries and positions, and the times that they make.
use Rattle.std.proofs.Common.{◌≡◌, ◌≢◌, ℕ, ◌+◌, ◌<◌, ◌≤◌, false, ◌==◌, List, length, Some, None, refl, sym, ap, ◌∙◌, arith, inl, inr}
use Rattle.std.specs.Prelude.{option_map}
use Rattle.std.proofs.Math.ListN.{set, get_or-map}
use Rattle.std.proofs.lemmas.Bool.{cases_eq, cases_lt}
use Rattle.std.proofs.lemmas.Bool.Decides.{nat_tests}
use Rattle.std.proofs.lemmas.Grind.{get_or-set_at}
use Rattle.std.proofs.lemmas.List.{ext_get_or, get_or-set_other, get_or_past, length-map, length-set, map-set, set-get_or, set-set}
use Rattle.check_queue.specs.declared.entry.Entry.{Entry}
use Rattle.check_queue.specs.Entries.{entry_at}
use Rattle.check_queue.specs.Positions.{absent, position_at, position_from, time_from, times_in, AreLinked, IsAbsent}
use Rattle.check_queue.proofs.TimesLaws.{time_at}

-- what is read past the entries
abbrev pub nowhere : Entry
nowhere = record { time = 0; number = 0 }

-- ---- one read

-- a number with a position is below the bound
pub below : (ps : List ℕ) (k p : ℕ) → position_at ps k ≡ p → p < absent → k < length ps
below ps k p e l = elim (cases_lt k (length ps)) [
  | inl m ↦ m
  | inr m ↦ let past = get_or_past ps k absent m in absurd (omega (arith, e, past, l))
]

-- ---- the time from a position

pub present : (p : ℕ) → p ≢ absent → position_from p ≡ Some p
present p u = let no : (p == 4294967295) ≡ false = grind (arith, nat_tests, u) in rw no refl

pub time_there : (es : List Entry) (p : ℕ) → p ≢ absent → time_from es p ≡ Some (entry_at es p).time
time_there es p u = ap (λ o. option_map (λ i. (entry_at es i).time) o) (present p u)

pub time_nowhere : (es : List Entry) (p : ℕ) → p ≡ absent → time_from es p ≡ None
time_nowhere es p e = ap (λ q. time_from es q) e

-- ---- the times

pub time_is : (es : List Entry) (ps : List ℕ) (k : ℕ) → time_at (times_in es ps) k ≡ time_from es (position_at ps k)
time_is es ps k = get_or-map (time_from es) ps k absent

pub times_length : (es : List Entry) (ps : List ℕ) → length (times_in es ps) ≡ length ps
times_length es ps = length-map ps (time_from es)

-- ---- the links

-- positions of entries aren't `absent`
pub some_position : (es : List Entry) (ps : List ℕ) (n hole i : ℕ) → AreLinked es ps n hole → i < n → i ≢ absent
some_position es ps n hole i a l e = let capacity = a.capacity in let bounded = a.bounded in absurd (omega (arith, e))

-- the number at a position is that of which this is the position
pub number_there : (es : List Entry) (ps : List ℕ) (n hole i k : ℕ) → AreLinked es ps n hole → i < n → position_at ps k ≡ i → (entry_at es i).number ≡ k
number_there es ps n hole i k a l e =
    sym (ap (λ p. (entry_at es p).number) e) ∙ (a.entry k (λ f. some_position es ps n hole i a l (sym e ∙ f))).number

-- the time of a number is that of its entry
pub time_at_entry : (es : List Entry) (ps : List ℕ) (n hole i : ℕ) → AreLinked es ps n hole → i < n → i ≢ hole
    → time_at (times_in es ps) (entry_at es i).number ≡ Some (entry_at es i).time
time_at_entry es ps n hole i a l u =
    time_is es ps _ ∙ ap (λ p. time_from es p) (a.position i l u) ∙ time_there es i (some_position es ps n hole i a l)

put_back : (es : List Entry) (ps : List ℕ) (n hole i : ℕ) → AreLinked es ps n hole → i < n → i ≢ hole
    → set (times_in es ps) (entry_at es i).number (Some (entry_at es i).time) ≡ times_in es ps
put_back es ps n hole i a l u =
    ap (λ o. set (times_in es ps) (entry_at es i).number o) (sym (time_at_entry es ps n hole i a l u)) ∙ set-get_or _ _ None

-- ---- a write to the hole

-- y is written to the hole, which is then at `next`
write : (es : List Entry) (ps : List ℕ) (n hole next : ℕ) (y : Entry) → AreLinked es ps n hole → hole < n → y.number < length ps → hole ≢ next
    → ((i : ℕ) → i < n → i ≢ hole → i ≢ next → (entry_at es i).number ≢ y.number)
    → ((k : ℕ) → k ≢ y.number → position_at ps k ≢ absent → position_at ps k ≢ next) → AreLinked (set es hole y) (set ps y.number hole) n next
write es ps n hole next y a inside under u vacant moved =
    let capacity = a.capacity in let bounded = a.bounded in let sizes = a.sizes in let size' = length-set es hole y in
    let sizes' = length-set ps y.number hole in
    let mine = λ (k : ℕ) (e : k ≡ y.number). get_or-set_at ps y.number k hole absent e under in
    record {
      capacity = omega arith;
      bounded = omega arith;
      sizes = omega arith;
      position = λ i l v. elim (cases_eq i hole) [
        | inl e ↦ mine _ (ap (λ x. x.number) (get_or-set_at es hole i y nowhere e (omega arith))) ∙ sym e
        | inr w ↦ ap (λ x. position_at (set ps y.number hole) x.number) (get_or-set_other es hole i y nowhere w)
            ∙ get_or-set_other ps y.number _ hole absent (vacant i l w v) ∙ a.position i l w
      ];
      entry = λ k v. elim (cases_eq k y.number) [
        | inl e ↦ rw (mine k e) (record {
          within = inside;
          not_at_hole = u;
          number = ap (λ x. x.number) (get_or-set_at es hole hole y nowhere refl (omega arith)) ∙ sym e;
        })
        | inr w ↦
            let same = get_or-set_other ps y.number k hole absent w in
            let at = a.entry k (λ f. v (same ∙ f)) in
            rw same (record {
              within = at.within;
              not_at_hole = moved k w (λ f. v (same ∙ f));
              number = ap (λ x. x.number) (get_or-set_other es hole _ y nowhere at.not_at_hole) ∙ at.number;
            })
      ];
    }

-- a write of the entry alone changes no time
times_elsewhere : (es : List Entry) (ps : List ℕ) (n hole : ℕ) (y : Entry) → AreLinked es ps n hole → times_in (set es hole y) ps ≡ times_in es ps
times_elsewhere es ps n hole y a =
    let es' = set es hole y in let long = times_length es ps in let long' = times_length es' ps in
    ext_get_or None _ _ (omega arith) (λ k l. time_is es' ps k ∙ elim (cases_eq (position_at ps k) absent) [
      | inl e ↦ time_nowhere es' _ e ∙ sym (time_nowhere es _ e)
      | inr u ↦ time_there es' _ u ∙ ap (λ x. Some x.time) (get_or-set_other es hole _ y nowhere (a.entry k u).not_at_hole) ∙ sym (time_there es _ u)
    ] ∙ sym (time_is es ps k))

-- and the times are those from before, but for that of y
pub times_write : (es : List Entry) (ps : List ℕ) (n hole : ℕ) (y : Entry) → AreLinked es ps n hole → hole < n
    → times_in (set es hole y) (set ps y.number hole) ≡ set (times_in es ps) y.number (Some y.time)
times_write es ps n hole y a inside =
    let capacity = a.capacity in let es' = set es hole y in
    let time : time_from es' hole ≡ Some y.time =
    time_there es' hole (some_position es ps n hole hole a inside) ∙ ap (λ x. Some x.time) (get_or-set_at es hole hole y nowhere refl (omega arith)) in
    map-set (time_from es') ps y.number hole ∙ (λ i. set (times_elsewhere es ps n hole y a i) y.number (time i))

-- the entry at position q moves into the hole
pub links_move : (es : List Entry) (ps : List ℕ) (n hole q : ℕ) → AreLinked es ps n hole → hole < n → q < n → q ≢ hole
    → AreLinked (set es hole (entry_at es q)) (set ps (entry_at es q).number hole) n q
links_move es ps n hole q a inside l u =
    let capacity = a.capacity in let bounded = a.bounded in let is = a.position q l u in
    write es ps n hole q (entry_at es q) a inside (below ps _ q is (omega arith)) (λ e. u (sym e))
    (λ i m v w e. w (sym (a.position i m v) ∙ ap (λ k. position_at ps k) e ∙ is)) (λ k v w e. v (sym (number_there es ps n hole q k a l e)))

pub times_move : (es : List Entry) (ps : List ℕ) (n hole q : ℕ) → AreLinked es ps n hole → hole < n → q < n → q ≢ hole
    → times_in (set es hole (entry_at es q)) (set ps (entry_at es q).number hole) ≡ times_in es ps
times_move es ps n hole q a inside l u = times_write es ps n hole _ a inside ∙ put_back es ps n hole q a l u

-- the entry that is held is written to the hole
pub links_close : (es : List Entry) (ps : List ℕ) (n hole : ℕ) (x : Entry) → AreLinked es ps n hole → hole < n → IsAbsent ps x.number
    → AreLinked (set es hole x) (set ps x.number hole) n n
links_close es ps n hole x a inside out =
    write es ps n hole n x a inside out.below (λ e. absurd (omega (arith, e)))
    (λ i m v w e. some_position es ps n hole i a m (sym (a.position i m v) ∙ ap (λ k. position_at ps k) e ∙ out.is))
    (λ k v w e. let at = (a.entry k w).within in absurd (omega (arith, at, e)))

-- ---- a number less, or a position

-- the same links over m positions and another hole
pub links_over : (es : List Entry) (ps : List ℕ) (n hole m next : ℕ) → AreLinked es ps n hole → m ≤ length es
    → ((i : ℕ) → i < m → i ≢ next → (i < n) × (i ≢ hole)) → ((i : ℕ) → i < n → i ≢ hole → (i < m) × (i ≢ next)) → AreLinked es ps m next
links_over es ps n hole m next a capacity to from = record {
  capacity = capacity;
  bounded = a.bounded;
  sizes = a.sizes;
  position = λ i l u. a.position i (to i l u).0 (to i l u).1;
  entry = λ k v. let at = a.entry k v in let p = from _ at.within at.not_at_hole in record { within = p.0; not_at_hole = p.1; number = at.number };
}

-- number k leaves position p
pub links_without : (es : List Entry) (ps : List ℕ) (n hole m next p k : ℕ) → AreLinked es ps n hole → p < n → position_at ps k ≡ p → m ≤ n
    → ((i : ℕ) → i < m → i ≢ next → (i ≢ hole) × (i ≢ p)) → ((i : ℕ) → i < n → i ≢ hole → i ≢ p → (i < m) × (i ≢ next))
    → AreLinked es (set ps k absent) m next
links_without es ps n hole m next p k a inside is fewer to from =
    let capacity = a.capacity in let bounded = a.bounded in let sizes = a.sizes in let sizes' = length-set ps k absent in
    let under = below ps k p is (omega arith) in
    record {
      capacity = omega arith;
      bounded = bounded;
      sizes = omega arith;
      position = λ i l u.
          let not_at_hole = to i l u in let at = a.position i (omega arith) not_at_hole.0 in
          get_or-set_other ps k _ absent absent (λ e. not_at_hole.1 (sym at ∙ ap (λ j. position_at ps j) e ∙ is)) ∙ at;
      entry = λ j v.
          let u : j ≢ k = λ e. v (get_or-set_at ps k j absent absent e under) in
          let same = get_or-set_other ps k j absent absent u in
          let at = a.entry j (λ e. v (same ∙ e)) in
          let present = λ (e : position_at ps j ≡ p). u (sym (number_there es ps n hole p j a inside e) ∙ number_there es ps n hole p k a inside is) in
          let kept = from _ at.within at.not_at_hole present in
          rw same (record { within = kept.0; not_at_hole = kept.1; number = at.number });
    }

-- a number that is taken out has no time
pub without : (es : List Entry) (ps : List ℕ) (k : ℕ) → times_in es (set ps k absent) ≡ set (times_in es ps) k None
without es ps k = map-set (time_from es) ps k absent

-- the last entry, put back
pub end_put_back : (es : List Entry) (ps : List ℕ) (n m hole : ℕ) → n ≡ m + 1 → hole < m → AreLinked es ps n hole
    → set (times_in es (set ps (entry_at es m).number absent)) (entry_at es m).number (Some (entry_at es m).time) ≡ times_in es ps
end_put_back es ps n m hole e inside a =
    let x : Entry = entry_at es m in
    ap (λ ts. set ts x.number (Some x.time)) (without es ps x.number) ∙ set-set (times_in es ps) x.number None (Some x.time)
    ∙ put_back es ps n hole m a (omega arith) (omega arith)
