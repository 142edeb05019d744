-- What C gets of a book that is renewed.
use Rattle.std.proofs.Common.{ℕ, Some, None}
use Rattle.nagsched_handles.specs.declared.target.HandleTarget.{HandleTarget}
use Rattle.nagsched_handles.specs.Closing.{HasRenewedBook}
use Rattle.nagsched_c.specs.Closing.{IsSameBook}

pub unchanged : (room : ℕ) (before after : HandleTarget) → HasRenewedBook room before after None → IsSameBook (Some before) (Some after)
unchanged room before after (book, next, was, is, same) = (book, next, was, is, same)
