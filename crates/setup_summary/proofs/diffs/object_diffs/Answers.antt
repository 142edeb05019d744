use Rattle.std.proofs.Common.{◌<◌, ◌≡◌, ℕ, ◌∙◌, ◌+◌, ◌-◌, ap, arith, drop, length, subst, sym}
use Rattle.check_objects.specs.Configuration.{number_by_name}
use Rattle.check_saved_state.specs.Saved.{SavedObject}
use Rattle.setup_summary.proofs.ObjectDiffLemmas.{AreFound, found_all, found_more, found_past, read_interval}
use Rattle.setup_summary.proofs.diffs.object_diffs.Goals as goal

next : (n : ℕ) → 0 < n → n ≡ n - 1 + 1
next n some = omega (arith, some)

pub object_diff-requires-clause-interval : goal.object_diff-requires-clause-interval
object_diff-requires-clause-interval c =
    read_interval c.args.setup.now c.in-Some.number c.object-in-Some.result.now c.len.ensures.setup c.object-in-Some.ensures

pub loop-place-preserved-in-Some : goal.loop-place-preserved-in-Some
loop-place-preserved-in-Some c =
    let setup = c.args.setup.now in
    let objects = c.objects-objects.result.now in
    let k = c.loop-place.place - 1 in
    let there : k < length objects = omega (arith, c.loop-place-test.true, c.loop-place.auto.place) in
    let was = subst (λ j. AreFound setup (drop j objects) c.loop-place.kept.items) (next c.loop-place.place c.loop-place-test.true) c.loop-place.invariant in
    let number = ap (number_by_name setup) (sym (c.deref.ensures ∙ ap (λ (x : SavedObject). x.name) c.object.view_is)) ∙ sym c.number.ensures ∙ c.in-Some.is in
    rw c.object_diff.ensures (found_more setup k c.in-Some.number c.object-in-Some.result.now objects c.index-objects-place.result c.loop-place.kept.items c.len.ensures.setup there
    c.index-objects-place.is number c.object-in-Some.ensures was)

pub loop-place-preserved : goal.loop-place-preserved
loop-place-preserved c =
    let setup = c.args.setup.now in
    let objects = c.objects-objects.result.now in
    let k = c.loop-place.place - 1 in
    let there : k < length objects = omega (arith, c.loop-place-test.true, c.loop-place.auto.place) in
    let was = subst (λ j. AreFound setup (drop j objects) c.loop-place.kept.items) (next c.loop-place.place c.loop-place-test.true) c.loop-place.invariant in
    let none = ap (number_by_name setup) (sym (c.deref.ensures ∙ ap (λ (x : SavedObject). x.name) c.object.view_is)) ∙ sym c.number.ensures ∙ c.in_default.is in
    found_past setup k objects c.index-objects-place.result c.loop-place.kept.items c.len.ensures.setup there c.index-objects-place.is none was

pub returns-clause-kept : goal.returns-clause-kept
returns-clause-kept c =
    let objects = c.objects-objects.result.now in
    let same = c.objects-objects.ensures.value in
    let first : c.loop-place.place ≡ 0 = omega (arith, c.loop-place-test.false) in
    let all = subst (λ k. AreFound c.args.setup.now (drop k objects) c.loop-place.kept.items) first c.loop-place.invariant in
    found_all c.args.setup.now c.args.saved.now c.loop-place.kept.items
    (subst (λ os. AreFound c.args.setup.now os c.loop-place.kept.items) same all)

pub returns-clause-bounded : goal.returns-clause-bounded
returns-clause-bounded c =
    let each = c.loop-place.invariant.one_each in
    let count = c.len.ensures.count in
    let bounded = c.len.ensures.bounded in
    omega (arith, each, count, bounded)
