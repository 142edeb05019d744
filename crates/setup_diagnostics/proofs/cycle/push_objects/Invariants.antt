use Rattle.std.proofs.Common.{◌≡◌, ◌++◌, drop, map, string_bytes}
use Rattle.setup_diagnostics.specs.Cycles.{objects_text}
use Rattle.setup_diagnostics.proofs.cycle.push_objects.Given as goal

abbrev pub invariant-loop-object : goal.invariant-loop-object
invariant-loop-object l =
    l.line ++ objects_text (map string_bytes (drop l.object-index l.objects)) ≡ l.initial.line ++ objects_text (map string_bytes l.objects)
