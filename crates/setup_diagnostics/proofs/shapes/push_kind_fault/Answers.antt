use Rattle.std.proofs.Common.{◌≡◌, List, ℕ, Option, ◌++◌, refl}
use Rattle.std.specs.Prelude.{codes}
use Rattle.std.proofs.lemmas.Result.{on_ok_weaker}
use Rattle.serde_json.specs.Data.{Data}
use Rattle.setup_diagnostics.specs.Shapes.{Appends, IsKindFault, IsShown}
use Rattle.setup_diagnostics.proofs.PieceLemmas.{four_pieces}
use Rattle.setup_diagnostics.proofs.shapes.push_kind_fault.Goals as goal

kind_fault : (words kind : List ℕ) (d : Option Data) (old a b c new : List ℕ) → a ≡ old ++ words → Appends (IsShown d) a b
    → c ≡ b ++ codes "; it has to be " → new ≡ c ++ kind → Appends (IsKindFault words d kind) old new
kind_fault words kind d old a b c new e s f g = record {
  part = words ++ (s.part ++ (codes "; it has to be " ++ kind));
  is = (s.part, s.is, refl);
  grown = four_pieces old a b c new words s.part (codes "; it has to be ") kind e s.grown f g;
}

pub returns : goal.returns
returns c =
    on_ok_weaker c.push_words-3.result (kind_fault c.args.words.now c.args.kind.now _ c.args.line.now c.push_words.new.self c.push_shown.new.line
    c.push_words-2.new.self c.push_words-3.new.self c.in_ok-push_words.ensures.text c.in_ok-push_shown.ensures c.in_ok-push_words-2.ensures.text)
    c.push_words-3.ensures.text
