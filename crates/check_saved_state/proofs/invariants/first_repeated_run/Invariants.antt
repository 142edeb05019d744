use Rattle.std.proofs.Common.{◌≡◌, ℕ, ◌==◌, map, drop, take, Some}
use Rattle.std.specs.List.{list_any}
use Rattle.setup_model.specs.Keys.{first_repeat}
use Rattle.setup_model.proofs.RepeatLemmas.{repeat_after}
use Rattle.check_saved_state.specs.Verification.{is_same_run, run_number}
use Rattle.check_saved_state.proofs.invariants.first_repeated_run.Given as goal

abbrev pub invariant-loop-index : goal.invariant-loop-index
invariant-loop-index l = record {
  repeat : first_repeat is_same_run (map run_number l.objects)
      ≡ repeat_after is_same_run (map run_number (take l.index l.objects)) l.index (map run_number (drop l.index l.objects));
  known : (n : ℕ) → list_any (is_same_run (Some n)) (map run_number (take l.index l.objects)) ≡ list_any (λ k. n == k) l.numbers.keys;
}
