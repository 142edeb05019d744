use Rattle.std.proofs.Common.{◌≡◌, ℕ, List, Option, Result, Ok, Err, subst, sym}
use Rattle.setup_model.specs.Members.{document_members}
use Rattle.setup_diagnostics.specs.Schema.{NamesAll}
use Rattle.nagsched_protocol.specs.declared.drive_error.DriveError.{DriveError}
use Rattle.nagsched_protocol.specs.declared.drive_error.DriveError.TheVariants as errors
use Rattle.nagsched_protocol.specs.declared.outcome.Outcome.{Outcome}
use Rattle.nagsched_cli.specs.Session.{IsJobTextOutput, IsSchemaOutput}
use Rattle.nagsched_cli.proofs.session.print_schema.Goals as goal

schema_output : (r : Result Outcome DriveError) (held holds : Option (List ℕ)) (text schema : List ℕ) → text ≡ schema → NamesAll document_members schema
    → IsJobTextOutput text r held holds → IsSchemaOutput r held holds
schema_output (Ok ended) held holds text schema same names written = (text, subst (NamesAll document_members) (sym same) names, written)
schema_output (Err errors.Write) held holds text schema same names written = (text, subst (NamesAll document_members) (sym same) names, written)
schema_output (Err errors.Memory) held holds text schema same names written = written
schema_output (Err errors.Read) held holds text schema same names written = (text, subst (NamesAll document_members) (sym same) names, written)

pub returns-in-Ok : goal.returns-in-Ok
returns-in-Ok g c = schema_output c.print_job_text.result _ _ _ _ c.as_str.ensures.value c.in-Ok.ensures.names c.print_job_text.ensures
