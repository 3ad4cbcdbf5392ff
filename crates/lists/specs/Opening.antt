-- Why a file cannot be opened.
use Rattle.std.specs.Prelude.{ℕ, List, codes}
use Rattle.std.specs.declared.io.ErrorKind.{ErrorKind}
use Rattle.std.specs.declared.io.ErrorKind.TheVariants.{NotFound, PermissionDenied, IsADirectory, Deadlock, NotSeekable}
use Rattle.lists.specs.declared.opening.OpenFault.{OpenFault}
use Rattle.lists.specs.declared.opening.OpenFault.TheVariants.{Missing, Denied, Directory, Output, Spent, Other}

-- the cause that the kind of the system's error stands for, where `Deadlock` says that the file is also the output, so
-- that reading it would never end, and `NotSeekable` that it is a pipe that was opened before, so that nothing is left
abbrev pub cause_of : ErrorKind → OpenFault
cause_of NotFound = Missing
cause_of PermissionDenied = Denied
cause_of IsADirectory = Directory
cause_of Deadlock = Output
cause_of NotSeekable = Spent
cause_of kind = Other

-- what is reported about a file that cannot be opened, after its name
abbrev pub open_fault_text : OpenFault → List ℕ
open_fault_text Missing = codes ": cannot open: no such file\n"
open_fault_text Denied = codes ": cannot open: permission denied\n"
open_fault_text Directory = codes ": cannot open: is a directory\n"
open_fault_text Output = codes ": input file is also the output\n"
open_fault_text Spent = codes ": a pipe can be read only once\n"
open_fault_text Other = codes ": cannot open\n"
