-- Which cause an error of the database is, and what a keeper in a file says of its failures.
use Rattle.std.specs.Prelude.{◌≡◌, ◌≢◌, Bool, true, false, Option, Some, None, Result, Ok, Err, IsSome}
use Rattle.std.specs.IoError.{error_kind}
use Rattle.std.specs.declared.io.ErrorKind.{ErrorKind}
use Rattle.std.specs.declared.io.ErrorKind.TheVariants as Kind
use Rattle.sqlite_std_file.specs.declared.pair.OpenError.{OpenError}
use Rattle.sqlite_std_file.specs.declared.pair.OpenError.TheVariants as Opening
use Rattle.sqlite.specs.declared.error.Error.{Error}
use Rattle.sqlite.specs.declared.error.Error.TheVariants.{SqliteFailure}
use Rattle.sqlite.specs.declared.error.ErrorCode.TheVariants.{DatabaseBusy, CannotOpen, DatabaseCorrupt, NotADatabase}
use Rattle.sqlite.specs.declared.error.ErrorCode.TheVariants.{DiskFull, SystemIoFailure, Closed, OutOfMemory}
use Rattle.sqlite_trees.specs.declared.error.StoreError.{StoreError}
use Rattle.sqlite_trees.specs.declared.error.StoreError.TheVariants as Store
use Rattle.sqlite_store.specs.declared.error.OpenError.{OpenError as StoreOpenError}
use Rattle.sqlite_store.specs.declared.error.OpenError.TheVariants as Checking
use Rattle.sqlite_wal.specs.declared.error.Error.{Error as LogError}
use Rattle.sqlite_wal.specs.declared.error.Error.TheVariants as Log
use Rattle.sqlite_pages.specs.declared.error.Error.{Error as PageError}
use Rattle.sqlite_pages.specs.declared.error.Error.TheVariants as Page
use Rattle.keep_office.specs.declared.kept.KeepFault.{KeepFault}
use Rattle.keep_office.specs.declared.kept.KeepFault.TheVariants.{Failed, NoMemory}
use Rattle.keep_files.specs.declared.cause.Cause.{Cause}
use Rattle.keep_files.specs.declared.cause.Cause.TheVariants.{InUse, Unopened, Spoiled, NotOurs, NoRoom}
use Rattle.keep_files.specs.declared.cause.Cause.TheVariants.{DiskFailed, Shut, Memory, Odd}
use Rattle.keep_files.specs.declared.cause.Cause.TheVariants.{Journal, ReadOnly, NotPlain}

-- a cause is that of an error of the database
abbrev pub IsCauseOf : Cause → Error → Type 0
IsCauseOf InUse e = e ≡ SqliteFailure DatabaseBusy
IsCauseOf Unopened e = e ≡ SqliteFailure CannotOpen
IsCauseOf Spoiled e = e ≡ SqliteFailure DatabaseCorrupt
IsCauseOf NotOurs e = e ≡ SqliteFailure NotADatabase
IsCauseOf NoRoom e = e ≡ SqliteFailure DiskFull
IsCauseOf DiskFailed e = e ≡ SqliteFailure SystemIoFailure
IsCauseOf Shut e = e ≡ SqliteFailure Closed
IsCauseOf Memory e = e ≡ SqliteFailure OutOfMemory
IsCauseOf Odd e =
    (e ≢ SqliteFailure DatabaseBusy) × (e ≢ SqliteFailure CannotOpen) × (e ≢ SqliteFailure DatabaseCorrupt)
    × (e ≢ SqliteFailure NotADatabase) × (e ≢ SqliteFailure DiskFull) × (e ≢ SqliteFailure SystemIoFailure)
    × (e ≢ SqliteFailure Closed) × (e ≢ SqliteFailure OutOfMemory)
IsCauseOf other e = ⊥

-- the cause that a refusal of the file system is, by its kind
abbrev pub kind_cause : ErrorKind → Cause
kind_cause Kind.PermissionDenied = ReadOnly
kind_cause Kind.ReadOnlyFilesystem = ReadOnly
kind_cause Kind.StorageFull = NoRoom
kind_cause Kind.QuotaExceeded = NoRoom
kind_cause Kind.Unsupported = NotPlain
kind_cause Kind.IsADirectory = NotPlain
kind_cause Kind.FilesystemLoop = NotPlain
kind_cause Kind.OutOfMemory = Memory
kind_cause _ = Unopened

-- the cause that an error of an opening is
abbrev pub opening_cause : OpenError → Cause
opening_cause Opening.Busy = InUse
opening_cause Opening.HotJournal = Journal
opening_cause Opening.OutOfMemory = Memory
opening_cause (Opening.Io error) = kind_cause (error_kind error)

-- the cause that an error of a store of trees is
abbrev pub cause_in_store : StoreError → Cause
cause_in_store Store.OutOfMemory = Memory
cause_in_store Store.Io = DiskFailed
cause_in_store Store.Corrupt = Spoiled
cause_in_store Store.Full = NoRoom
cause_in_store Store.Broken = Shut
cause_in_store Store.Unstorable = Odd

-- the cause that an error of the opening of a store is, by whether a write found no room
abbrev pub checking_cause : StoreOpenError → Bool → Cause
checking_cause Checking.OutOfMemory no_room = Memory
checking_cause Checking.Io true = NoRoom
checking_cause Checking.Io false = DiskFailed
checking_cause Checking.Full no_room = NoRoom
checking_cause Checking.Refused no_room = NotOurs

-- a cause that such an error has where the files are not found to be another's
abbrev pub IsOfChecking : Cause → Type 0
IsOfChecking cause =
    (error : StoreOpenError) × ((error ≢ Checking.Refused)
    × ((no_room : Bool) × (cause ≡ checking_cause error no_room)))

-- the cause that an error of the log is as a first page is looked at, none where the log is another's
abbrev pub unread_cause : LogError → Option Cause
unread_cause Log.OutOfMemory = Some Memory
unread_cause (Log.Io error) = Some DiskFailed
unread_cause _ = None

-- the cause that an error of pages is as their trees are looked for, by whether a write found no room; none where they
-- were read and are another's, or do not hold what they should
abbrev pub unlisted_cause : Option PageError → Bool → Option Cause
unlisted_cause (Some Page.OutOfMemory) no_room = Some (checking_cause Checking.OutOfMemory no_room)
unlisted_cause (Some Page.Io) no_room = Some (checking_cause Checking.Io no_room)
unlisted_cause (Some Page.Corrupt) no_room = None
unlisted_cause (Some Page.Full) no_room = None
unlisted_cause None no_room = None

-- the cause that an error of pages is as they are closed, by whether a write found no room
abbrev pub close_cause : PageError → Bool → Cause
close_cause Page.OutOfMemory no_room = Memory
close_cause Page.Corrupt no_room = Spoiled
close_cause Page.Full no_room = NoRoom
close_cause Page.Io true = NoRoom
close_cause Page.Io false = DiskFailed

-- a failure says why, and want of memory leaves what was said
abbrev pub IsSaidOf : KeepFault → Option Cause → Option Cause → Type 0
IsSaidOf Failed old new = IsSome new
IsSaidOf NoMemory old new = new ≡ old

-- a call that failed says why, and no other call says anything
abbrev pub IsSaid : {A : Type 0} → Result A KeepFault → Option Cause → Option Cause → Type 0
IsSaid (Ok x) old new = new ≡ old
IsSaid (Err fault) old new = IsSaidOf fault old new
