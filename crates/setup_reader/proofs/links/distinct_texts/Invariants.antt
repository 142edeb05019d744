use Rattle.std.proofs.Common.{◌≡◌, ℕ, List, map, take, string_bytes}
use Rattle.setup_model.specs.ParsedViews.{texts}
use Rattle.setup_model.specs.Ends.{is_known}
use Rattle.setup_reader.proofs.links.distinct_texts.Given as goal

abbrev pub invariant-loop-text : goal.invariant-loop-text
invariant-loop-text l = (name : List ℕ) → is_known (texts l.set.keys) name ≡ is_known (map string_bytes (take l.text-index l.all)) name
