use Rattle.std.proofs.Common.{◌≡◌, ◌++◌, string_bytes, take}
use Rattle.std.specs.Prelude.{flat_map}
use Rattle.std.specs.List.{enumerate_from}
use Rattle.check_objects.specs.Configuration.{name_of}
use Rattle.setup_summary.specs.ChangeText.{object_text}
use Rattle.setup_summary.proofs.change_text.push_object_changes.Given as goal

abbrev pub invariant-loop-number : goal.invariant-loop-number
invariant-loop-number l =
    string_bytes l.text ≡ string_bytes l.initial.text ++ flat_map (λ p. object_text (name_of l.setup p.0) p.1) (take l.number (enumerate_from 0 l.kept))
