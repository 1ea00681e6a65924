-- What a call came to: the number of a status, and the status of each error.
use Rattle.std.specs.Prelude.{ℕ, Bool, true, false, Option, None, Some, Result, Ok, Err}
use Rattle.wl_wire.specs.declared.error.IoFault.{IoFault}
use Rattle.wl_wire.specs.declared.error.IoFault.TheVariants as fault
use Rattle.wl_link.specs.declared.mailbox.MailboxError.{MailboxError}
use Rattle.wl_link.specs.declared.mailbox.MailboxError.TheVariants as mailbox
use Rattle.wl_server_client.specs.declared.error.InsertClientError.{InsertClientError}
use Rattle.wl_server_client.specs.declared.error.InsertClientError.TheVariants as insert
use Rattle.wl_server_client.specs.declared.error.CreateAtError.{CreateAtError}
use Rattle.wl_server_client.specs.declared.error.CreateAtError.TheVariants as create_at
use Rattle.wl_server_client.specs.declared.error.CreateError.{CreateError}
use Rattle.wl_server_client.specs.declared.error.CreateError.TheVariants as create
use Rattle.wl_server_client.specs.declared.error.VersionError.{VersionError}
use Rattle.wl_server_client.specs.declared.error.VersionError.TheVariants as version
use Rattle.wl_server_client.specs.declared.error.DestroyError.{DestroyError}
use Rattle.wl_server_client.specs.declared.error.DestroyError.TheVariants as destroy
use Rattle.wl_server_client.specs.declared.error.EventError.{EventError}
use Rattle.wl_server_client.specs.declared.error.EventError.TheVariants as event
use Rattle.wl_server_client.specs.declared.error.GlobalError.{GlobalError}
use Rattle.wl_server_client.specs.declared.error.GlobalError.TheVariants as glob
use Rattle.wl_server_client.specs.declared.error.ActionError.{ActionError}
use Rattle.wl_server_client.specs.declared.error.ActionError.TheVariants as action
use Rattle.wl_server_client.specs.declared.error.FinishError.{FinishError}
use Rattle.wl_server_client.specs.declared.error.FinishError.TheVariants as finish
use Rattle.wl_client.specs.declared.error.DestroyError.{DestroyError as ProxyDestroyError}
use Rattle.wl_client.specs.declared.error.DestroyError.TheVariants as proxy_destroy
use Rattle.wl_client.specs.declared.error.RequestError.{RequestError}
use Rattle.wl_client.specs.declared.error.RequestError.TheVariants as request
use Rattle.wl_client.specs.declared.error.FlushError.{FlushError}
use Rattle.wl_client.specs.declared.error.FlushError.TheVariants as flush
use Rattle.wl_client.specs.declared.error.EventError.{EventError as NextEventError}
use Rattle.wl_client.specs.declared.error.EventError.TheVariants as next_event
use Rattle.wl_client.specs.declared.error.FinishError.{FinishError as FinishEventError}
use Rattle.wl_client.specs.declared.error.FinishError.TheVariants as finish_event
use Rattle.wl_flat.specs.declared.status.Status.{Status}
use Rattle.wl_flat.specs.declared.status.Status.TheVariants as status

-- the numbers of the statuses
abbrev pub code_of : Status → ℕ
code_of status.Ok = 0
code_of status.NoSession = 1
code_of status.InUse = 2
code_of status.OutOfMemory = 3
code_of status.WouldBlock = 4
code_of status.TooSmall = 5
code_of status.InvalidInput = 6
code_of status.InvalidId = 7
code_of status.BadTable = 8
code_of status.TooManyDescriptors = 9
code_of status.Closed = 10
code_of status.ProtocolError = 11
code_of status.TooBig = 12
code_of status.IoError = 13
code_of status.Failed = 14
code_of status.Open = 15
code_of status.NotOpen = 16
code_of status.WrongKind = 17
code_of status.MissingData = 18
code_of status.UnexpectedData = 19
code_of status.UnknownOpcode = 20
code_of status.BadSignature = 21
code_of status.NullObject = 22
code_of status.NullNewId = 23
code_of status.ForeignObject = 24
code_of status.WrongInterface = 25
code_of status.UnknownInterface = 26
code_of status.VersionTooHigh = 27
code_of status.IdsExhausted = 28
code_of status.SerialsExhausted = 29
code_of status.Full = 30
code_of status.WrongChild = 31
code_of status.WrongChildVersion = 32
code_of status.MissingChild = 33
code_of status.NotPlaceholder = 34
code_of status.NotFree = 35
code_of status.EventsWait = 36
code_of status.NotPrepared = 37
code_of status.NotReading = 38
code_of status.NoQueue = 39

-- a session answers `InvalidInput` for a client that it does not have
abbrev pub of_fault : IoFault → Status
of_fault fault.WouldBlock = status.WouldBlock
of_fault fault.Pipe = status.Closed
of_fault fault.TooBig = status.TooBig
of_fault fault.Proto = status.ProtocolError
of_fault fault.InvalidInput = status.InvalidId
of_fault fault.OutOfMemory = status.OutOfMemory
of_fault (fault.Other n) = status.IoError

-- ---- the errors of a mailbox

abbrev pub of_mailbox : MailboxError → Status
of_mailbox mailbox.TooManyTokens = status.TooManyDescriptors
of_mailbox mailbox.OutOfMemory = status.OutOfMemory

-- ---- the errors of a server's session

abbrev pub of_insert : InsertClientError → Status
of_insert insert.Full = status.Full
of_insert insert.OutOfMemory = status.OutOfMemory

abbrev pub of_create : CreateError → Status
of_create create.InvalidId = status.InvalidId
of_create create.UnknownInterface = status.UnknownInterface
of_create create.IdsExhausted = status.IdsExhausted
of_create create.SerialsExhausted = status.SerialsExhausted
of_create create.OutOfMemory = status.OutOfMemory

abbrev pub of_create_at : CreateAtError → Status
of_create_at create_at.InvalidId = status.InvalidId
of_create_at create_at.UnknownInterface = status.UnknownInterface
of_create_at create_at.SerialsExhausted = status.SerialsExhausted
of_create_at create_at.NotFree = status.NotFree
of_create_at create_at.OutOfMemory = status.OutOfMemory

abbrev pub of_version : VersionError → Status
of_version version.InvalidId = status.InvalidId
of_version version.UnknownVersion = status.VersionTooHigh

abbrev pub of_destroy : DestroyError → Status
of_destroy destroy.InvalidId = status.InvalidId
of_destroy destroy.OutOfMemory = status.OutOfMemory

abbrev pub of_event : EventError → Status
of_event event.InvalidId = status.InvalidId
of_event event.UnknownOpcode = status.UnknownOpcode
of_event event.BadSignature = status.BadSignature
of_event event.NullObject = status.NullObject
of_event event.NullNewId = status.NullNewId
of_event event.ForeignObject = status.ForeignObject
of_event event.WrongInterface = status.WrongInterface
of_event event.OutOfMemory = status.OutOfMemory

abbrev pub of_global : GlobalError → Status
of_global glob.UnknownInterface = status.UnknownInterface
of_global glob.VersionTooHigh = status.VersionTooHigh
of_global glob.Full = status.Full
of_global glob.OutOfMemory = status.OutOfMemory

abbrev pub of_action : ActionError → Status
of_action (action.Io fault) = of_fault fault
of_action action.ActionOpen = status.Open

abbrev pub of_finish : FinishError → Status
of_finish finish.InvalidId = status.InvalidId
of_finish finish.NoOpenAction = status.NotOpen
of_finish finish.WrongKind = status.WrongKind
of_finish finish.MissingObjectData = status.MissingData
of_finish finish.UnexpectedData = status.UnexpectedData
of_finish finish.OutOfMemory = status.OutOfMemory

-- ---- the errors of a client's session

abbrev pub of_proxy_destroy : ProxyDestroyError → Status
of_proxy_destroy proxy_destroy.InvalidId = status.InvalidId
of_proxy_destroy proxy_destroy.OutOfMemory = status.OutOfMemory

abbrev pub of_request : RequestError → Status
of_request request.InvalidId = status.InvalidId
of_request request.UnknownOpcode = status.UnknownOpcode
of_request request.BadSignature = status.BadSignature
of_request request.UnknownInterface = status.UnknownInterface
of_request request.WrongChild = status.WrongChild
of_request request.WrongChildVersion = status.WrongChildVersion
of_request request.MissingChildSpec = status.MissingChild
of_request request.MissingObjectData = status.MissingData
of_request request.NotPlaceholder = status.NotPlaceholder
of_request request.WrongInterface = status.WrongInterface
of_request request.NullObject = status.NullObject
of_request request.IdsExhausted = status.IdsExhausted
of_request request.SerialsExhausted = status.SerialsExhausted
of_request request.OutOfMemory = status.OutOfMemory

abbrev pub of_flush : FlushError → Status
of_flush flush.Failed = status.Failed
of_flush flush.WouldBlock = status.WouldBlock
of_flush flush.OutOfMemory = status.OutOfMemory

abbrev pub of_next_event : NextEventError → Status
of_next_event next_event.Failed = status.Failed
of_next_event next_event.EventOpen = status.Open
of_next_event next_event.WouldBlock = status.WouldBlock
of_next_event next_event.OutOfMemory = status.OutOfMemory

abbrev pub of_finish_event : FinishEventError → Status
of_finish_event finish_event.NoOpenEvent = status.NotOpen
of_finish_event finish_event.MissingObjectData = status.MissingData
of_finish_event finish_event.UnexpectedData = status.UnexpectedData
of_finish_event finish_event.OutOfMemory = status.OutOfMemory

-- the value as a flat one, or the status of the error
abbrev pub flattened : {A B E : Type 0} → (A → B) → (E → Status) → Result A E → Result B Status
flattened f status_of (Ok x) = Ok (f x)
flattened f status_of (Err e) = Err (status_of e)

-- what a look-up found
abbrev pub found : {A : Type 0} → Option A → Result A Status
found None = Err status.InvalidId
found (Some x) = Ok x

abbrev pub is_done : Status → Bool
is_done status.Ok = true
is_done _ = false
