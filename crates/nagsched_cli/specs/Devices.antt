-- The explanation of a stream that failed.
use Rattle.std.specs.Prelude.{ℕ, List, ◌++◌, Option, Some, None, codes}
use Rattle.std.specs.declared.io.ErrorKind.{ErrorKind}
use Rattle.std.specs.declared.io.ErrorKind.TheVariants as kind
use Rattle.nagsched_cli.specs.declared.devices.Stream.{Stream}
use Rattle.nagsched_cli.specs.declared.devices.Stream.TheVariants as stream

-- which stream failed
abbrev pub stream_text : Stream → List ℕ
stream_text stream.Input = codes "standard input can't be read"
stream_text stream.Output = codes "standard output can't be written"

-- what the system says about a failure
abbrev pub reason_text : Option ErrorKind → List ℕ
reason_text None = codes "it takes no more bytes"
reason_text (Some kind.IsADirectory) = codes "it is a folder"
reason_text (Some kind.PermissionDenied) = codes "the permission is missing"
reason_text (Some kind.BrokenPipe) = codes "nothing reads it any more"
reason_text (Some kind.StorageFull) = codes "the device is full"
reason_text (Some kind.QuotaExceeded) = codes "the quota is used up"
reason_text (Some kind.FileTooLarge) = codes "the file can't grow"
reason_text (Some kind.WouldBlock) = codes "it doesn't wait"
reason_text (Some kind.Interrupted) = codes "a signal came"
reason_text (Some kind.OutOfMemory) = codes "memory ran out"
reason_text (Some k) = codes "it is closed, or the device failed"

abbrev pub device_text : Stream → Option ErrorKind → List ℕ
device_text s k = stream_text s ++ (codes ": " ++ reason_text k)
