-- A line has one reading.
use Rattle.lists.proofs.Words.{◌≡◌, ℕ, List, NamesIp, IpAddr}

abbrev pub OneAddress : Type 0
OneAddress = (text : List ℕ) (a b : IpAddr) → NamesIp text a → NamesIp text b → a ≡ b
