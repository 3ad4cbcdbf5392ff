-- When two errors are the same.
use Rattle.std.specs.Prelude.{◌≡◌, ⊤}
use Rattle.ipnetwork_family.specs.ErrorTexts.{refusal_of}
use Rattle.ipnetwork_family.specs.declared.error.IpNetworkError.{IpNetworkError}
use Rattle.ipnetwork_family.specs.declared.json.JsonFault.{JsonFault}
use Rattle.ipnetwork_family.specs.declared.json.JsonFault.TheVariants.{NotAString, Refused}

-- the errors have the same variant, with the same text or size error in it
abbrev pub SameError : IpNetworkError → IpNetworkError → Type 0
SameError a b = refusal_of a ≡ refusal_of b

-- both are `NotAString`, or both are `Refused` with the same error
abbrev pub SameJsonFault : JsonFault → JsonFault → Type 0
SameJsonFault NotAString NotAString = ⊤
SameJsonFault (Refused a) (Refused b) = SameError a b
SameJsonFault _ _ = ⊥
