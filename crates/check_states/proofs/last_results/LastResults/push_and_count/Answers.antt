use Rattle.std.proofs.Common.{◌≡◌, ◌++◌, ◌∷◌, ◌+◌, ◌-◌, ◌*◌, ◌/◌, ◌==◌, ◌≤◌, [], Bool, true, false, not, List, Option, cond, arith, ◌∙◌, eq-eqb, length, sym}
use Rattle.std.proofs.Common.{ap, ℕ}
use Rattle.std.specs.Prelude.{None, Some, nat_le, nat_lt, slice_get, unwrap_or}
use Rattle.circular_buffer.specs.Buffer.{Buffer, buffer, keep_last}
use Rattle.check_states.specs.declared.changes.Changes.{Changes}
use Rattle.check_states.specs.declared.last_results.LastResults.TheInside.{Inside}
use Rattle.check_states.specs.declared.state.State.{State}
use Rattle.check_states.specs.Board.{flag}
use Rattle.check_states.specs.Changes.{changes_in}
use Rattle.check_states.specs.Flapping.{changes_weight, results_after, percent_of}
use Rattle.check_states.specs.LastResults.{IsWellFormed}
use Rattle.check_states.specs.State.{is_another_state}
use Rattle.check_states.proofs.ChangeLemmas.{IsOneLater, few_kept, last_kept, one_later, replaced}
use Rattle.check_states.proofs.last_results.LastResults.push_and_count.Goals as goal
use Rattle.check_states.proofs.last_results.LastResults.push_and_count.Goals.{then-is_full, else-is_full}

-- the ring has one result more
items_are : (r : Inside) (found : State) (next : Buffer State) → IsWellFormed r
    → next ≡ buffer (keep_last r.kept.capacity (r.kept.items ++ found ∷ [])) r.kept.capacity → next.items ≡ results_after r.kept.items found
items_are r found next is e = ap (λ (ring : Buffer State). ring.items) e ∙ ap (λ capacity. keep_last capacity (r.kept.items ++ found ∷ [])) is.capacity

-- what is known of the changes is so of the results
record AreCounted (results : List State) (weight count : ℕ) : Type 0 where
  weighed : weight ≡ changes_weight results
  counted : count ≡ changes_in results

-- ---- before there are 21

-- where none went, what the ring has then: of 21 results the changes are counted
early : (r : Inside) (found : State) (next : Buffer State) (changes : Changes) → IsWellFormed r
    → next ≡ buffer (keep_last r.kept.capacity (r.kept.items ++ found ∷ [])) r.kept.capacity
    → (length next.items ≡ 21 → AreCounted next.items changes.weight changes.count) → IsWellFormed (record { kept = next; changes = changes; newest = found })
early r found next changes is e counts =
    let items = items_are r found next is e in
    record {
      capacity = ap (λ (ring : Buffer State). ring.capacity) e ∙ is.capacity;
      bounded = rw items (few_kept r.kept.items found);
      newest = rw items (last_kept found r.kept.items found);
      weighed = λ full. (counts full).weighed;
      counted = λ full. (counts full).counted;
    }

not_full : (results : List State) (capacity : ℕ) (full : Bool) → full ≡ (length results == capacity) → full ≡ false → capacity ≡ 21 → length results ≡ 21 → ⊥
not_full results capacity full e f cap long =
    let clash : true ≡ false = sym (eq-eqb (length results) capacity (long ∙ sym cap)) ∙ sym e ∙ f in
    cc

pub invariant_of-self : goal.invariant_of-self
invariant_of-self c =
    elim c.if-is_full.branch [
      | then-is_full w ↦ rw w.self-inside-is
          (early c.self.inside c.args.found c.push_back.new.self w.among-self-inside.result c.self.invariant c.in_default.ensures.items
          (λ _. record { weighed = w.among-self-inside.ensures.weight; counted = w.among-self-inside.ensures.count }))
      | else-is_full w ↦ rw w.self-inside-is
          (early c.self.inside c.args.found c.push_back.new.self c.self.inside.changes c.self.invariant c.in_default.ensures.items
          (λ long. absurd (not_full c.push_back.new.self.items c.push_back.new.self.capacity c.is_full.result c.is_full.ensures w.if-is_full.false
          (ap (λ (ring : Buffer State). ring.capacity) c.in_default.ensures.items ∙ c.self.invariant.capacity) long)))
    ]

-- ---- of 21 the oldest goes

later_of : (r : Inside) (found oldest second : State) (copied : Option State) (next : Buffer State) (loses_change gains_change : Bool) → IsWellFormed r
    → Some oldest ≡ cond (nat_lt (length r.kept.items) r.kept.capacity) None (slice_get (r.kept.items ++ found ∷ []) 0)
    → next ≡ buffer (keep_last r.kept.capacity (r.kept.items ++ found ∷ [])) r.kept.capacity → second ≡ unwrap_or copied oldest
    → copied ≡ slice_get next.items 0 → loses_change ≡ is_another_state second oldest → gains_change ≡ is_another_state found r.newest → IsOneLater r.kept.items found loses_change gains_change
later_of r found oldest second copied next loses_change gains_change is out e read at f g =
    let bounded = is.bounded in
    let capacity = is.capacity in
    let full = replaced r.kept.items found oldest r.kept.capacity out (omega (arith, bounded, capacity)) in
    rw (f, g)
    (one_later r.kept.items found oldest second r.newest (full.0 ∙ capacity) full.1
    (read ∙ ap (λ x. unwrap_or x oldest) at ∙ ap (λ results. unwrap_or (slice_get results 0) oldest) (items_are r found next is e)) is.newest)

later : (c : goal.After-after-arg-1) → IsOneLater c.self.inside.kept.items c.args.found c.is_another-loses_change.result c.is_another-gains_change.result
later c =
    later_of c.self.inside c.args.found c.in-Some.oldest c.unwrap_or-second.result c.copied.result c.push_back.new.self c.is_another-loses_change.result c.is_another-gains_change.result
    c.self.invariant c.in-Some.ensures.value c.in-Some.ensures.items c.unwrap_or-second.ensures (c.copied.ensures ∙ c.front.ensures)
    c.is_another-loses_change.ensures c.is_another-gains_change.ensures

pub after-self-inside-requires-clause-in_range : goal.after-self-inside-requires-clause-in_range
after-self-inside-requires-clause-in_range c = rw (c.self.invariant.counted (later c).full) (later c).in_range

pub after-self-inside-requires-clause-bounded : goal.after-self-inside-requires-clause-bounded
after-self-inside-requires-clause-bounded c = rw (c.self.invariant.counted (later c).full) (later c).bounded

pub after-self-inside-requires-clause-lower_bound : goal.after-self-inside-requires-clause-lower_bound
after-self-inside-requires-clause-lower_bound c = rw (c.self.invariant.counted (later c).full, c.self.invariant.weighed (later c).full) (later c).lower_bound

pub after-self-inside-requires-clause-upper_bound : goal.after-self-inside-requires-clause-upper_bound
after-self-inside-requires-clause-upper_bound c = rw (c.self.invariant.weighed (later c).full) (later c).upper_bound

computed : (r : Inside) (found : State) (loses_change gains_change : Bool) (weight count : ℕ) → IsWellFormed r → IsOneLater r.kept.items found loses_change gains_change
    → weight + 57 * flag loses_change + 2 * (r.changes.count - flag loses_change) ≡ r.changes.weight + 95 * flag gains_change → count + flag loses_change ≡ r.changes.count + flag gains_change
    → AreCounted (results_after r.kept.items found) weight count
computed r found loses_change gains_change weight count is l w n =
    let weighed = is.weighed l.full in
    let counted = is.counted l.full in
    let wanted_weight = l.weight in
    let wanted_count = l.count in
    record { weighed = omega (arith, weighed, counted, wanted_weight, w); counted = omega (arith, counted, wanted_count, n) }

-- where the oldest result went, what the ring has then, and that the percent of its changes is that of its results
record IsReplaced (next : Buffer State) (changes : Changes) (found : State) : Type 0 where
  kept : IsWellFormed (record { kept = next; changes = changes; newest = found })
  upper_bound : changes.weight ≤ 1520
  percent : 100 * changes.weight / 1520 ≡ percent_of next.items

replaced_of : (r : Inside) (found : State) (next : Buffer State) (loses_change gains_change : Bool) (changes : Changes) → IsWellFormed r
    → next ≡ buffer (keep_last r.kept.capacity (r.kept.items ++ found ∷ [])) r.kept.capacity → IsOneLater r.kept.items found loses_change gains_change
    → changes.weight + 57 * flag loses_change + 2 * (r.changes.count - flag loses_change) ≡ r.changes.weight + 95 * flag gains_change
    → changes.count + flag loses_change ≡ r.changes.count + flag gains_change → IsReplaced next changes found
replaced_of r found next loses_change gains_change changes is e l w n =
    let items = items_are r found next is e in
    let counts = computed r found loses_change gains_change changes.weight changes.count is l w n in
    let long : length next.items ≡ 21 = ap length items ∙ l.long in
    let weighed : changes.weight ≡ changes_weight next.items = rw items counts.weighed in
    record {
      kept = early r found next changes is e (λ _. rw items counts);
      upper_bound = rw counts.weighed l.lighter;
      percent = ap (λ w. 100 * w / 1520) weighed ∙ sym (ap (λ n. cond (n == 21) (100 * changes_weight next.items / 1520) 0) long);
    }

pub percent-requires : goal.percent-requires
percent-requires c =
    (replaced_of c.self.inside c.args.found c.push_back.new.self c.is_another-loses_change.result c.is_another-gains_change.result c.after-self-inside.result
    c.self.invariant c.in-Some.ensures.items
    (later_of c.self.inside c.args.found c.in-Some.oldest c.unwrap_or-second.result c.copied.result c.push_back.new.self c.is_another-loses_change.result c.is_another-gains_change.result
    c.self.invariant c.in-Some.ensures.value c.in-Some.ensures.items c.unwrap_or-second.ensures (c.copied.ensures ∙ c.front.ensures)
    c.is_another-loses_change.ensures c.is_another-gains_change.ensures) c.after-self-inside.ensures.weight c.after-self-inside.ensures.count).upper_bound

-- the ring after the oldest result went
whole : (c : goal.After-flaps_at) → IsReplaced c.push_back.new.self c.after-self-inside.result c.args.found
whole c =
    replaced_of c.self.inside c.args.found c.push_back.new.self c.is_another-loses_change.result c.is_another-gains_change.result c.after-self-inside.result
    c.self.invariant c.in-Some.ensures.items
    (later_of c.self.inside c.args.found c.in-Some.oldest c.unwrap_or-second.result c.copied.result c.push_back.new.self c.is_another-loses_change.result c.is_another-gains_change.result
    c.self.invariant c.in-Some.ensures.value c.in-Some.ensures.items c.unwrap_or-second.ensures (c.copied.ensures ∙ c.front.ensures)
    c.is_another-loses_change.ensures c.is_another-gains_change.ensures) c.after-self-inside.ensures.weight c.after-self-inside.ensures.count

pub invariant_of-self-2 : goal.invariant_of-self-2
invariant_of-self-2 c = (whole c).kept

pub returns-clause-flaps : goal.returns-clause-flaps
returns-clause-flaps c =
    let percent = c.percent.ensures.value ∙ (whole c).percent in
    rw (← c.self.view_is, ← items_are c.self.inside c.args.found c.push_back.new.self c.self.invariant c.in-Some.ensures.items)
    (c.flaps_at.ensures ∙ ap (λ n. cond c.args.was (not (nat_lt n c.args.low)) (nat_le c.args.high n)) percent)
