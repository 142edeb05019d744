use Rattle.setup_diagnostics.proofs.NumberLemmas.{no_float, whole_numbers}
use Rattle.setup_diagnostics.proofs.laws.read_numbers_are_whole.Goals as goal

pub returns : goal.returns
returns c = record {
  whole = λ document tree parsed is read. whole_numbers document tree parsed is read;
  no_float = λ document tree parsed is read. no_float tree (whole_numbers document tree parsed is read);
}
