use Rattle.std.proofs.Common.{arith, List, ℕ, ◌≡◌, ◌∷◌, [], ◌++◌, ◌∙◌, ap, append_assoc}
use Rattle.std.specs.Prelude.{flat_map}
use Rattle.std.specs.List.{range_with_len}
use Rattle.std.proofs.lemmas.Result.{IfOk-weaker}
use Rattle.json.specs.Token.{Token, end_array, end_object}
use Rattle.json.specs.Print.{print}
use Rattle.check_objects.specs.Configuration.{object_count}
use Rattle.nagsched_protocol.specs.Requested.{head_id}
use Rattle.nagsched_protocol.specs.JsonText.{first_tokens, json_list_line, list_begins, object_tokens}
use Rattle.nagsched_protocol.specs.Text.{line_of}
use Rattle.nagsched_protocol.proofs.TextLemmas.{listed_more}
use Rattle.nagsched_protocol.proofs.json_text.json_list_line.Goals as goal

pub loop-number-preserved : goal.loop-number-preserved
loop-number-preserved c =
    let k = c.loop-number.invariant in
    let p = c.in_ok-put_object.ensures in (
      p.0 ∙ k.0,
      listed_more (object_tokens c.args.sched.now) c.loop-number.number (first_tokens c.args.head.line (head_id c.args.head) ++ list_begins) c.loop-number.json.tokens
          c.put_object.new.json.tokens p.1 k.1,
    )

pub returns : goal.returns
unfolding json_list_line
returns c =
    let sched = c.args.sched.now in
    let first = first_tokens c.args.head.line (head_id c.args.head) in
    let objects : ℕ → List Token = λ n. flat_map (object_tokens sched) (range_with_len 0 n) in
    let all = objects (object_count sched.setup) in
    let last : c.loop-number.number ≡ c.len-count.result = omega (arith, c.loop-number-test.false, c.loop-number.auto.number-end) in
    let count = last ∙ c.len-count.ensures.count ∙ ap object_count c.setup.ensures in
    let listed = c.loop-number.invariant.1 ∙ ap (λ n. (first ++ list_begins) ++ objects n) count in
    let tokens = c.in_ok-end_array.ensures.ok ∙ ap (λ (l : List Token). l ++ end_array ∷ []) listed
    ∙ append_assoc (first ++ list_begins) all (end_array ∷ []) ∙ append_assoc first list_begins (all ++ end_array ∷ []) in
    IfOk-weaker c.end_line.result _ _ (λ text h. h ∙ ap (λ (l : List Token). line_of (print (l ++ end_object ∷ []))) tokens) c.end_line.ensures
