use Rattle.std.proofs.Common.{◌≡◌, ◌∙◌, ap}
use Rattle.std.specs.Prelude.{unwrap_or}
use Rattle.circular_buffer.specs.Buffer.{Buffer}
use Rattle.check_states.specs.declared.state.State.{State}
use Rattle.check_states.specs.declared.state.State.TheVariants as state
use Rattle.check_states.proofs.ChangeLemmas.{all_kept, last_where}
use Rattle.check_states.proofs.last_results.LastResults.of.Goals as goal

-- all that were handed in are kept
items_are : (c : goal.After-unwrap_or) → c.extend_from_slice.new.self.items ≡ c.args.results.now
items_are c =
    ap (λ (ring : Buffer State). ring.items) c.extend_from_slice.ensures ∙ rw c.in_ok-kept.ensures (all_kept c.args.results.now c.requires)

pub invariant_of-result : goal.invariant_of-result
invariant_of-result c =
    let newest = last_where c.args.results.now state.Ok c.unwrap_or.result
    (c.unwrap_or.ensures ∙ ap (λ found. unwrap_or found state.Ok) (c.copied.ensures ∙ c.last.ensures.value)) in
    record {
      capacity = ap (λ (ring : Buffer State). ring.capacity) c.extend_from_slice.ensures ∙ ap (λ (ring : Buffer State). ring.capacity) c.in_ok-kept.ensures;
      bounded = rw (items_are c) c.requires;
      newest = rw (items_are c) newest;
      weighed = λ e. c.among-changes.ensures.weight;
      counted = λ e. c.among-changes.ensures.count;
    }
