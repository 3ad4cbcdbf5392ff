-- What a reader returns, computed.
use Rattle.std.specs.Prelude.{Option, None, Some, Result, Ok, Err}

-- what a reader returns, given the value that the text names, if it names one
abbrev pub answer_from : {A E : Type 0} → E → Option A → Result A E
answer_from error None = Err error
answer_from error (Some value) = Ok value
