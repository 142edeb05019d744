use Rattle.std.proofs.Common.{◌≡◌, ◌+◌, ◌-◌, suc, refl, arith}
use Rattle.std.proofs.lemmas.Result.{on_ok_weaker}
use Rattle.std.proofs.lemmas.Str.{IsUtf8-past_char}
use Rattle.setup_diagnostics.proofs.ExcerptLemmas.{cut_ended, cut_next, cut_off}
use Rattle.setup_diagnostics.proofs.line.Line.push_excerpt.Goals as goal

pub loop-shown-init : goal.loop-shown-init
loop-shown-init c = record {
  utf8 = rw c.chars-left.ensures.rest c.utf8.text;
  whole = rw c.chars-left.ensures.rest refl;
}

pub returns-in-None : goal.returns-in-None
returns-in-None c = record {
  text = cut_ended (80 - c.loop-shown.shown) c.loop-shown.left.rest.now c.loop-shown.self _ c.in-None.ensures.steps.0.0 c.loop-shown.invariant.whole;
}

pub loop-shown-preserved : goal.loop-shown-preserved
loop-shown-preserved c =
    let count : 80 - c.loop-shown.shown ≡ suc (80 - (c.loop-shown.shown + 1)) = omega (arith, c.loop-shown-test.true) in
    record {
      utf8 = IsUtf8-past_char c.loop-shown.left.rest.now c.next.new.self.rest.now c.in-Some.character c.loop-shown.invariant.utf8 c.in-Some.ensures.steps.0;
      whole = cut_next (80 - c.loop-shown.shown) (80 - (c.loop-shown.shown + 1)) c.in-Some.character c.loop-shown.left.rest.now c.next.new.self.rest.now
          c.loop-shown.self c.push_escaped.new.self _ c.loop-shown.invariant.utf8 c.in-Some.ensures.steps.0 count
          c.in_ok-push_escaped-in-Some.ensures.text c.loop-shown.invariant.whole;
    }

pub returns-in-Some-next : goal.returns-in-Some-next
returns-in-Some-next c =
    let done : 80 - c.loop-shown.shown ≡ 0 = omega (arith, c.loop-shown-test.false) in
    record {
      text = on_ok_weaker c.push_words.result (λ appended. cut_off (80 - c.loop-shown.shown) c.in-Some-next.field-0 c.loop-shown.left.rest.now
          c.next-2.new.self.rest.now c.loop-shown.self c.push_words.new.self _ c.loop-shown.invariant.utf8 c.in-Some-next.ensures.steps.0 done
          appended c.loop-shown.invariant.whole) c.push_words.ensures.text;
    }

pub returns-in-None-next : goal.returns-in-None-next
returns-in-None-next c = record {
  text = cut_ended (80 - c.loop-shown.shown) c.loop-shown.left.rest.now c.loop-shown.self _ c.in-None-next.ensures.steps.0.0 c.loop-shown.invariant.whole;
}
