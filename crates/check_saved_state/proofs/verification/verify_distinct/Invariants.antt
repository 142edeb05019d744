use Rattle.std.proofs.Common.{◌≡◌, map, drop, bytes_eq}
use Rattle.setup_model.specs.Keys.{first_repeat}
use Rattle.setup_model.proofs.RepeatLemmas.{repeat_after}
use Rattle.check_saved_state.proofs.verification.verify_distinct.Given as goal

abbrev pub invariant-loop-index : goal.invariant-loop-index
invariant-loop-index l =
    first_repeat bytes_eq (map (λ o. o.name) l.objects)
    ≡ repeat_after bytes_eq (map (λ n. n.now) l.names.keys) l.index (map (λ o. o.name) (drop l.index l.objects))
