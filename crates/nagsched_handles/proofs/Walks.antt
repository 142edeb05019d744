-- The beginning of a manual walk through a function.
use Rattle.std.proofs.Common.{◌≡◌, List, sym, subst}
use seplogic.Ra.Ura.{Ura}
use mir.Syntax.{Fn}
use mir.Val.{Val}
use base.Logic.{SProp}
use contract.Running.{MachineTables, Running, tables}
use prog.Model.{Model}
use prog.Wp.{WpFn}
use types.Logic.{Logic}
use types.Kit.{Item, Seq, Step, step, ◌$◌, allocs, at_ret, params', prop, runs}
use types.Run.{enter}
use denote.Triple.Clauses.{Clauses, Ended}
use denote.Triple.Walked.{Stays, walk_of}

module _ {M : Type 1} {𝓤 : Ura M} (𝓛 : Logic 𝓤) (𝓜 : Model 𝓤 𝓛.H) (𝓡 : Running 𝓤 𝓛.H 𝓜) (T : Ended) (hs : Stays T.signature.params T.kept) (c : Clauses 𝓤 T)
    (f : Fn) (y : (walk_of 𝓛 T hs c).Ghost) where
  abbrev 𝓣 : MachineTables 𝓤 𝓛.H 𝓜
  𝓣 = tables 𝓤 𝓛.H 𝓜 𝓡 𝓡.env

  -- what the walk has to end in
  abbrev Post : Val → SProp 𝓤
  Post = (walk_of 𝓛 T hs c).post y

  -- the function is entered on the words that its arguments are known to be
  pub enters : {K : Type 0} {Γ : List (Item 𝓤)} → K → (ws : List Val) {us : List Val} → us ≡ ws
      → Step K 𝓛 Γ (allocs f.locals (λ E. params' E ws (runs 𝓣.C 𝓣.Λ E f.body (at_ret E Post)))) Γ (prop (WpFn 𝓤 𝓛.H 𝓣.C 𝓣.Λ f us Post))
  enters {K = K} {Γ = Γ} t ws known =
      step (λ s. subst (λ (us : List Val). Seq K 𝓛 Γ (prop (WpFn 𝓤 𝓛.H 𝓣.C 𝓣.Λ f us Post))) (sym known) (enter t 𝓣.C 𝓣.Λ f ws Post $ s))
