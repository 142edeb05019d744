use Rattle.std.proofs.Common.{◌≡◌, ◌++◌, ◌-◌}
use Rattle.std.specs.Prelude.{IsUtf8}
use Rattle.std.specs.Str.{chars}
use Rattle.setup_diagnostics.specs.Excerpts.{excerpt, excerpt_to}
use Rattle.setup_diagnostics.proofs.line.Line.push_excerpt.Given as goal

-- what was appended, and what is still to be shown, are the text that is cut
abbrev pub invariant-loop-shown : goal.invariant-loop-shown
invariant-loop-shown l = record {
  utf8 : IsUtf8 l.left.rest.now;
  whole : l.self ++ excerpt_to (80 - l.shown) (chars l.left.rest.now) ≡ l.initial.self ++ excerpt l.text;
}
