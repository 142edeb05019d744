use Rattle.std.proofs.Common.{◌≡◌, ◌==◌, false, ne_eqb}
use Rattle.std.specs.Prelude.{codes, decimal}
use Rattle.std.proofs.lemmas.Result.{on_ok_weaker}
use Rattle.setup_diagnostics.proofs.PieceLemmas.{three_pieces}
use Rattle.setup_diagnostics.proofs.names.push_bad_byte.Goals as goal

pub returns : goal.returns
returns c =
    let other : (c.args.byte == 59) ≡ false = ne_eqb c.args.byte 59 c.if-byte-eq59.false in
    rw other (on_ok_weaker c.push_words-3.result (three_pieces c.args.line.now c.push_words-2.new.self c.push_number.new.self c.push_words-3.new.self
    (codes " has the byte ") (decimal c.args.byte) (codes " in it, which no name can have") c.in_ok-push_words.ensures.text c.in_ok-push_number.ensures.text)
    c.push_words-3.ensures.text)
