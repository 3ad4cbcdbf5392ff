-- Networks of any type as JSON values: strings, read as that type's texts are.
use Rattle.std.specs.Prelude.{◌≡◌, ℕ, List, [], ◌∷◌, ◌++◌, Option, Some, None, Result, Ok, Err}
use Rattle.serde_json.specs.Data.{string}
use Rattle.serde_json.specs.View.{view}
use Rattle.serde_json.specs.declared.value.Value.{Value}
use Rattle.ipnetwork_family.specs.declared.error.IpNetworkError.{IpNetworkError}
use Rattle.ipnetwork_family.specs.declared.json.JsonFault.{JsonFault}
use Rattle.ipnetwork_family.specs.declared.json.JsonFault.TheVariants.{NotAString, Refused}

-- the value is a string with this text
abbrev pub IsStringOf : List ℕ → Value → Type 0
IsStringOf text value = view value ≡ string text

-- a result of parsing, with its error wrapped in `Refused`
abbrev pub refusing : {N : Type 0} → Result N IpNetworkError → Result N JsonFault
refusing (Ok network) = Ok network
refusing (Err error) = Err (Refused error)

-- the result of reading a JSON value, given its text if it is a string: a result that parsing may return for the text,
-- or `NotAString` if the value is not a string
abbrev pub ReadsValue : {N : Type 0} → (List ℕ → Result N IpNetworkError → Type 0) → Option (List ℕ)
    → Result N JsonFault → Type 0
ReadsValue {N} Parses (Some text) result = (parsed : Result N IpNetworkError) × Parses text parsed
    × (result ≡ refusing parsed)
ReadsValue Parses None result = result ≡ Err NotAString

-- `b'"'`
abbrev pub quote : ℕ
quote = 34

-- the text in double quotes
abbrev pub in_quotes : List ℕ → List ℕ
in_quotes text = quote ∷ (text ++ quote ∷ [])
