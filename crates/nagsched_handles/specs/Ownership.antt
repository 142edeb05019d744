-- A handle owns nothing if it is empty. Otherwise it owns a value at its address, with the right to free its block.
use Rattle.std.specs.Prelude.{Option, Some, None}
use base.Fml.{Fml, ftrue}
use denote.RattleType.{RattleType}
use denote.RawPtr.{Ptr}
use Rattle.std.specs.declared.alloc.Global.{Global}
use Rattle.std.specs.contracts.impls.GlobalAllocator.TheImpl.{ghosts}
use Rattle.std.specs.Box.Ownership.{box_owns}

-- the only heap of the C library
abbrev pub heap : Global
heap = record { memory = record { seal = tt } }

abbrev pub owned_at : (R : RattleType) → Ptr → Option R.Denot → Fml
owned_at R at None = ftrue
owned_at R at (Some value) = box_owns (ghosts.dealloc_token heap) R at value
