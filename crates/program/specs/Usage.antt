-- What is reported about a command line that the program does not accept.
use Rattle.std.specs.Prelude.{ℕ, ◌==◌, Bool, false, List, [], ◌∷◌, codes, if◌then◌else◌}
use Rattle.std.specs.declared.io.ErrorKind.{ErrorKind}
use Rattle.std.specs.declared.io.ErrorKind.TheVariants as kinds
use Rattle.program.specs.Escapes.{escaped_word}
use Rattle.program.specs.declared.arguments.ArgumentsFault.{ArgumentsFault}
use Rattle.program.specs.declared.arguments.ArgumentsFault.TheVariants as arguments

-- a word stands for an argument that is not UTF-8: it begins with NUL, which no argument has
abbrev pub is_stand_in : List ℕ → Bool
is_stand_in [] = false
is_stand_in (byte ∷ bytes) = byte == 0

-- a word as messages show it: an empty word as `''`, any other, without the NUL of one that stands for another, with
-- hidden characters and tabs escaped
abbrev pub shown : List ℕ → List ℕ
shown [] = codes "''"
shown (byte ∷ bytes) = if byte == 0 then escaped_word bytes else escaped_word (byte ∷ bytes)

-- why the arguments cannot be read, by the system's error: memory ran out, and for any other error an argument is not
-- UTF-8
abbrev pub fault_of : ErrorKind → ArgumentsFault
fault_of kinds.OutOfMemory = arguments.OutOfMemory
fault_of kind = arguments.NotText
