use Rattle.std.proofs.Common.{◌+◌, ◌<◌, [], ap, arith, length}
use Rattle.std.proofs.lemmas.List.Sums.{sum_by_more}
use Rattle.setup_summary.proofs.SummaryLemmas.{parents_few, parents_more}
use Rattle.setup_summary.proofs.counts.count_links.Goals as goal

pub overflow_add-parents : goal.overflow_add-parents
overflow_add-parents c =
    let hosts = c.args.setup.now.hosts in
    let more = parents_more hosts c.loop-number.number in
    let bounded = parents_few hosts (c.loop-number.number + 1) in
    let same = ap length c.parents.ensures.parents in
    omega (arith, more, bounded, same, c.loop-number.invariant.1, c.len-number-end.ensures.setup.parents_bounded)

pub loop-number-preserved : goal.loop-number-preserved
loop-number-preserved c =
    let all = c.args.setup.now.dependencies in
    let n = c.loop-number.number in
    let there : n < length all = omega (arith, c.loop-number-test.true, c.len-number-end.ensures.count, c.len-number-end.ensures.setup.one_list_each) in
    let links = sum_by_more (λ ds. length ds) all n [] there in
    let these = ap length c.dependencies.ensures.dependencies in
    let more = parents_more c.args.setup.now.hosts n in
    let same = ap length c.parents.ensures.parents in
    (omega (arith, links, these, c.loop-number.invariant.0), omega (arith, more, same, c.loop-number.invariant.1))
