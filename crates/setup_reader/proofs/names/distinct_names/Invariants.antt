use Rattle.std.proofs.Common.{◌≡◌, ◌++◌, map, drop, bytes_eq}
use Rattle.setup_model.specs.Keys.{first_repeat, names_of}
use Rattle.setup_model.specs.ParsedViews.{host, texts}
use Rattle.setup_reader.proofs.names.distinct_names.Given as goal
use Rattle.setup_model.proofs.RepeatLemmas.{repeat_after}

abbrev pub invariant-loop-index : goal.invariant-loop-index
invariant-loop-index l = record {
  repeat : first_repeat bytes_eq (names_of (map host l.hosts)) ≡ repeat_after bytes_eq (texts l.names.keys) l.index
      (names_of (map host (drop l.index l.hosts)));
  names : names_of (map host l.hosts) ≡ texts l.names.keys ++ names_of (map host (drop l.index l.hosts));
}
