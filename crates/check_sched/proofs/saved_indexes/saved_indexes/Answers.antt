use Rattle.std.proofs.Common.{◌≡◌, ◌∙◌, ◌-◌, ap, arith, rules, None, drop, length, replicate, subst, sym}
use Rattle.std.proofs.lemmas.List.{drop_all}
use Rattle.check_objects.specs.Configuration.{number_by_name}
use Rattle.check_saved_state.specs.Saved.{SavedObject}
use Rattle.check_sched.specs.SavedIndexes.{AreSavedIndexes}
use Rattle.check_sched.proofs.SavedIndexLaws.{one_before, places_more, places_none, places_past}
use Rattle.check_sched.proofs.saved_indexes.saved_indexes.Goals as goal

pub loop-place-init : goal.loop-place-init
loop-place-init c =
    let c0 = c.args.setup.now in
    let objects = c.objects-objects.result.now in
    let empties = c.in_ok-saved_indexes.ensures.items_if_clones_equal (search rules) in
    let none = empties ∙ ap (λ n. replicate n None) c.len.ensures.count in
    let empty = drop_all (length objects) objects (omega arith) in
    rw (empty, none) (places_none c0 objects)

pub loop-place-preserved-in-Some : goal.loop-place-preserved-in-Some
loop-place-preserved-in-Some c =
    let l = c.loop-place in
    let one = one_before c.args.setup.now c.objects-objects.result.now l.place l.saved_indexes.items (omega (arith, c.loop-place-test.true)) (omega (arith, l.auto.place)) l.invariant in
    let name = c.deref.ensures ∙ ap (λ (x : SavedObject). x.name) c.object.view_is in
    let number = ap (number_by_name c.args.setup.now) (sym name) ∙ sym c.number.ensures ∙ c.in-Some.is in
    places_more c.args.setup.now (l.place - 1) c.in-Some.number _ c.index-objects-place.result l.saved_indexes.items c.len.ensures.setup one.in_range
    c.index-objects-place.is number one.was

pub loop-place-preserved : goal.loop-place-preserved
loop-place-preserved c =
    let l = c.loop-place in
    let one = one_before c.args.setup.now c.objects-objects.result.now l.place l.saved_indexes.items (omega (arith, c.loop-place-test.true)) (omega (arith, l.auto.place)) l.invariant in
    let name = c.deref.ensures ∙ ap (λ (x : SavedObject). x.name) c.object.view_is in
    let none = ap (number_by_name c.args.setup.now) (sym name) ∙ sym c.number.ensures ∙ c.in_default.is in
    places_past c.args.setup.now (l.place - 1) _ c.index-objects-place.result l.saved_indexes.items c.len.ensures.setup one.in_range c.index-objects-place.is none one.was

pub returns-clause-saved_indexes : goal.returns-clause-saved_indexes
returns-clause-saved_indexes c =
    let same = c.objects-objects.ensures.value in
    let first : c.loop-place.place ≡ 0 = omega (arith, c.loop-place-test.false) in
    let kept = c.loop-place.invariant in
    subst (λ os. AreSavedIndexes c.args.setup.now os os c.loop-place.saved_indexes.items) same
    (subst (λ k. AreSavedIndexes c.args.setup.now c.objects-objects.result.now (drop k c.objects-objects.result.now) c.loop-place.saved_indexes.items) first kept)
