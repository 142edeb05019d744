-- The result for C of opening a desk.
use Rattle.std.specs.Prelude.{◌≡◌, ◌<◌, ◌≤◌, ℕ, Bool, true, not, is_some, List, length, Option, Some, None}
use Rattle.std.specs.List.{list_all}
use Rattle.nagsched_handles.specs.declared.handle.Handle.{Handle}
use Rattle.nagsched_handles.specs.declared.target.HandleTarget.{HandleTarget}
use Rattle.nagsched_handles.specs.declared.opening.Terms.{Terms}
use Rattle.nagsched_handles.specs.Handles.{contents_of}
use Rattle.nagsched_handles.specs.Opening.{IsHandedBack, IsOpenedBy, IsSource}

-- the terms of a desk with this start, this room, this mark, and this many calls for each pass
abbrev pub terms_of : ℕ → ℕ → ℕ → ℕ → Terms
terms_of start room mark calls = record { start = start; room = room; mark = mark; calls = calls }

-- whether these handles all lead to nothing
abbrev pub are_empty : List Handle → Bool
are_empty handles = list_all (λ handle. not (is_some (contents_of handle))) handles

-- 1 to 1,024 empty handles
abbrev pub ArePassHandles : List Handle → Type 0
ArePassHandles passes = (0 < length passes) × (length passes ≤ 1024) × (are_empty passes ≡ true)

-- a desk can be opened on the target of a handle
abbrev pub IsSourceIn : Terms → Option HandleTarget → Type 0
IsSourceIn terms (Some source) = IsSource terms source
IsSourceIn terms None = ⊥

-- all that opening needs except memory
abbrev pub MayOpen : Terms → Option HandleTarget → List Handle → Type 0
MayOpen terms before passes = ArePassHandles passes × IsSourceIn terms before × (0 < terms.calls) × (terms.calls ≤ 4294967295)

-- a desk was opened on the target of a handle, which is empty now
abbrev pub HasOpened : Terms → Option HandleTarget → Option HandleTarget → List Handle → Type 0
HasOpened terms (Some source) None passes = IsSource terms source × IsOpenedBy terms source passes
HasOpened terms before after passes = ⊥

-- the target of a handle was handed back to it
abbrev pub IsBackIn : Terms → Option HandleTarget → Option HandleTarget → Type 0
IsBackIn terms (Some source) (Some returned) = IsHandedBack terms source returned
IsBackIn terms before after = ⊥
