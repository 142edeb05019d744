use Rattle.std.proofs.Common.{◌≡◌, rules, true}
use Rattle.std.specs.Str.{is_utf8}
use Rattle.std.proofs.lemmas.Str.{is_utf8-from_IsUtf8}
use Rattle.setup_model.proofs.name.name_fault.Goals as goal

pub returns-in-Some : goal.returns-in-Some
returns-in-Some c =
    let text : is_utf8 c.args.name.now ≡ true = is_utf8-from_IsUtf8 c.args.name.now c.utf8.name in
    rw text (search rules)

pub returns-in-None : goal.returns-in-None
returns-in-None c =
    let text : is_utf8 c.args.name.now ≡ true = is_utf8-from_IsUtf8 c.args.name.now c.utf8.name in
    rw text (search rules)
