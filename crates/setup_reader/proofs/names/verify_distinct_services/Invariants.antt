use Rattle.std.proofs.Common.{◌≡◌, ◌++◌, map, drop}
use Rattle.setup_model.specs.Keys.{first_repeat, key_of, is_same_key}
use Rattle.setup_model.specs.ParsedViews.{service}
use Rattle.setup_reader.proofs.names.verify_distinct_services.Given as goal
use Rattle.setup_model.proofs.RepeatLemmas.{repeat_after}

abbrev pub invariant-loop-index : goal.invariant-loop-index
invariant-loop-index l = record {
  repeat : first_repeat is_same_key (map key_of (map service l.services))
      ≡ repeat_after is_same_key (map (λ k. (k.0.now, k.1.now)) l.keys.keys) l.index (map key_of (map service (drop l.index l.services)));
  names : map key_of (map service l.services) ≡ map (λ k. (k.0.now, k.1.now)) l.keys.keys ++ map key_of (map service (drop l.index l.services));
}
