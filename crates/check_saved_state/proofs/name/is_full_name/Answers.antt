use Rattle.std.proofs.Common.{◌≡◌, ◌==◌, true, not, arith}
use Rattle.std.proofs.lemmas.Str.Pattern.{split_once_first}
use Rattle.setup_model.specs.Name.{is_host_name}
use Rattle.check_saved_state.proofs.NameLemmas.{all_by_prefix}
use Rattle.check_saved_state.proofs.name.is_full_name.Goals as goal

pub returns-in-None : goal.returns-in-None
returns-in-None c =
    let name = c.args.name.now in
    let none = rw c.in-None.is at (split_once_first 59 name c.split_once.result c.split_once.ensures.cases (omega arith)) in
    let host : is_host_name name ≡ true = all_by_prefix (λ b. not (b == 59)) name none in
    rw host c.is_name-in-None.ensures
