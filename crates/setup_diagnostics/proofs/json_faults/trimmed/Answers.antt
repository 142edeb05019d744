use Rattle.setup_diagnostics.proofs.JsonLemmas.{trimmed_is}
use Rattle.setup_diagnostics.proofs.json_faults.trimmed.Goals as goal

pub returns : goal.returns
returns c = trimmed_is c.args.bytes.now c.trim_ascii_end.result.now c.trim_ascii_end.ensures.value
