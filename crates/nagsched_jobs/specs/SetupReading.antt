-- A setup document that was examined: its setup and its tree, or what is printed of its refusal.
use Rattle.std.specs.Prelude.{◌≡◌, ℕ, List, Err}
use Rattle.serde_json.specs.View.{view}
use Rattle.setup_model.specs.declared.error.LoadError.{LoadError}
use Rattle.check_objects.specs.Setup.{setup_of}
use Rattle.nagsched_jobs.specs.declared.check.SetupReading.{SetupReading}
use Rattle.nagsched_jobs.specs.declared.check.SetupReading.TheVariants.{Good, Refused}
use Rattle.nagsched_jobs.specs.Check.{IsGood, IsRefusalReport}

abbrev pub IsSetupReading : List ℕ → SetupReading → Type 0
IsSetupReading document (Good setup tree) = IsGood document setup (view tree)
IsSetupReading document (Refused report) = (e : LoadError) × (setup_of document ≡ Err e) × IsRefusalReport document e report.text.items report.outcome
