use Rattle.std.proofs.Common.{◌<◌, ◌∙◌, ◌++◌, ap, arith, get_or, length, None, refl, string_bytes}
use Rattle.check_objects.specs.Configuration.{name_of}
use Rattle.setup_summary.specs.ChangeText.{object_text}
use Rattle.setup_summary.proofs.ChangeTextLemmas.{text_all, text_more}
use Rattle.setup_summary.proofs.change_text.push_object_changes.Goals as goal

pub loop-number-preserved : goal.loop-number-preserved
loop-number-preserved c =
    let kept = c.args.kept.now in
    let n = c.loop-number.number in
    let there : n < length kept = omega (arith, c.loop-number-test.true) in
    let said = c.in_ok-push_object.ensures ∙ ap (λ name. string_bytes c.loop-number.text ++ object_text name (get_or kept n None)) c.name.ensures in
    text_more (λ p. object_text (name_of c.args.setup.now p.0) p.1) kept n (get_or kept n None) None (string_bytes c.args.text.now)
    (string_bytes c.loop-number.text) (string_bytes c.push_object.new.text) there refl said c.loop-number.invariant

pub returns : goal.returns
returns c =
    text_all (λ p. object_text (name_of c.args.setup.now p.0) p.1) c.args.kept.now c.loop-number.number (string_bytes c.args.text.now)
    (string_bytes c.loop-number.text) c.loop-number-test.false c.loop-number.invariant
