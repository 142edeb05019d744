-- The contents of a document, before its names and numbers are verified.
use Rattle.std.specs.Prelude.{ℕ, Bool, List}
use Rattle.setup_model.specs.declared.dependency.Criteria.{Criteria}
use Rattle.setup_model.specs.declared.parsed_setup.Object.{Object}
use Rattle.setup_model.specs.declared.options.Options.{Options}

-- a host as the document describes it
pub record ParsedHost : Type 0 where
  pub name : List ℕ
  pub parents : List (List ℕ)
  pub check : Object

-- a service as the document describes it
pub record ParsedService : Type 0 where
  pub host : List ℕ
  pub description : List ℕ
  pub check : Object

-- a dependency as the document describes it
pub record ParsedDependency : Type 0 where
  pub dependent : List ℕ
  pub master : List ℕ
  pub criteria : Criteria
  pub inherits : Bool

pub record ParsedSetup : Type 0 where
  pub options : Options
  -- in the document's order
  pub hosts : List ParsedHost
  -- in the document's order
  pub services : List ParsedService
  -- in the document's order
  pub service_dependencies : List ParsedDependency
  -- in the document's order
  pub host_dependencies : List ParsedDependency
