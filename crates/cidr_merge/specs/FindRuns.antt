-- How a run ends that searches lists for addresses and networks.
use Rattle.std.specs.Prelude.{◌==◌, ◌||◌, ◌⊎◌, ◌++◌, ℕ, Bool, List, length, take, drop, if◌then◌else◌, String}
use Rattle.std.specs.List.{concat}
use Rattle.lines.specs.Outputs.{Written}
use Rattle.lists.specs.declared.rules.Rules.{Rules}
use Rattle.lists.specs.declared.named.ReadFault.{ReadFault}
use Rattle.ipnetwork.specs.declared.ip_network.IpNetwork.{IpNetwork}
use Rattle.cidr_merge.specs.Finds.{has_refused, lists_matches}
use Rattle.cidr_merge.specs.FindWords.{AreNetworks, StopsAtWord, with_networks}
use Rattle.cidr_merge.specs.SoughtLines.{has_other, lists_sought}
use Rattle.cidr_merge.specs.Texts.{AreTexts, TextsStop, Whole}
use Rattle.cidr_merge.specs.Writing.{EndsSilently, EndsWriting}
use Rattle.cidr_merge.specs.declared.query.QueryFault.{QueryFault}

-- the exit status, from the lines that are printed and whether a line was refused: 2 if one was, else 0 if a line is
-- printed, else 1
abbrev pub search_status : List (List ℕ) → Bool → ℕ
search_status printed refused = if refused then 2 else (if length printed == 0 then 1 else 0)

-- lists of these names and bytes were searched by these rules for these networks, after other lines were refused or not:
-- the matches were written, or the writer failed
abbrev pub EndsSearching : {Z W : Type 0} → Rules → List (List ℕ × IpNetwork) → Bool → List (String Z)
    → List (List ℕ) → Written W → Written W → ℕ → Type 0
EndsSearching rules sought others names texts old new status =
    EndsWriting old new status (concat (lists_matches rules sought names texts))
    (search_status (lists_matches rules sought names texts) (others || has_refused rules texts))

-- all lists were read: the networks in the first `from` lists, which are plain, are searched for too, in the other lists
abbrev pub EndsReading : {Z W : Type 0} → Rules → List (List ℕ × IpNetwork) → List (String Z) → ℕ → List (List ℕ)
    → Written W → Written W → ℕ → Type 0
EndsReading rules sought names from texts old new status =
    EndsSearching rules (sought ++ lists_sought (take from texts)) (has_other (take from texts))
    (drop from names) (drop from texts) old new status

-- a list could not be read, or memory for the networks ran out, and nothing was written; or all lists were read
abbrev pub EndsReadingAll : {Z W : Type 0} → Whole → Rules → List (String Z) → ℕ → ℕ → List IpNetwork → Written W
    → Written W → ℕ → Type 0
EndsReadingAll lists rules words middle from networks old new status =
    ((fault : ReadFault) × TextsStop lists (drop middle words) fault × EndsSilently old new status)
    ⊎ (EndsSilently old new status
    ⊎ ((texts : List (List ℕ)) × AreTexts lists (drop middle words) texts
    × EndsReading rules (with_networks (take middle words) networks) (drop middle words) from texts old new status))

-- the first `middle` words name networks, and the others name lists, the first `from` of which are lists of networks;
-- or the first words are not accepted as networks, and nothing was written
abbrev pub EndsFind : {Z W : Type 0} → Whole → Rules → List (String Z) → ℕ → ℕ → Written W → Written W → ℕ → Type 0
EndsFind lists rules words middle from old new status =
    ((fault : QueryFault) × StopsAtWord (take middle words) fault × EndsSilently old new status)
    ⊎ ((networks : List IpNetwork) × AreNetworks (take middle words) networks
    × EndsReadingAll lists rules words middle from networks old new status)
