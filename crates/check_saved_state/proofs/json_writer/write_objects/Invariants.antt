use Rattle.std.proofs.Common.{◌≡◌, ◌++◌, drop}
use Rattle.json.specs.Tree.{items_tokens}
use Rattle.serde_json.specs.Data.{array}
use Rattle.serde_json.specs.Written.{items_outline}
use Rattle.check_saved_state.specs.Tree.{objects_tree, tokens_of}
use Rattle.check_saved_state.proofs.json_writer.write_objects.Given as goal

abbrev pub invariant-loop-object : goal.invariant-loop-object
invariant-loop-object l = record {
  front : l.out.before ≡ l.fn.out.before;
  added : l.out.tokens ++ items_tokens (items_outline (objects_tree (drop l.object-index l.objects)))
      ≡ l.fn.out.tokens ++ tokens_of (array (objects_tree l.objects));
}
