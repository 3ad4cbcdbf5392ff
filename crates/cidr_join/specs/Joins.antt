-- What is printed for the lines of a log.
use Rattle.std.specs.Prelude.{◌≡◌, ℕ, ◌||◌, ◌⊎◌, Bool, true, false, List, [], ◌∷◌, ◌++◌, Option, None, Some, length}
use Rattle.std.specs.Prelude.{drop}
use Rattle.std.specs.Prelude.{codes, nat_lt, if◌then◌else◌}
use Rattle.std.specs.Option.{is_some}
use Rattle.ipnetwork.specs.IpNetworkText.{ip_network_text}
use Rattle.ipnetwork.specs.declared.ip_network.IpNetwork.{IpNetwork}
use Rattle.line_addresses.specs.Areas.{part_of, picked_in}
use Rattle.log_programs.specs.ByteOrderMarks.{judged}
use Rattle.log_programs.specs.InTurn.{Ends, InTurn}
use Rattle.log_programs.specs.LogReads.{OfLine}
use Rattle.log_programs.specs.LogStats.{nothing, with_line, with_long}
use Rattle.log_programs.specs.Unmapping.{asked_network}
use Rattle.log_programs.specs.WithoutAddress.{is_dropped, is_stopped}
use Rattle.log_programs.specs.declared.log_stats.LogStats.{LogStats}
use Rattle.log_programs.specs.declared.without_address.WithoutAddress.{WithoutAddress}
use Rattle.program.specs.LogLines.{LogLine}
use Rattle.cidr_join.specs.Asked.{network_of_found}
use Rattle.cidr_join.specs.Groups.{block_in}
use Rattle.cidr_join.specs.Routes.{IsLongestRoute, NoRouteHolds}
use Rattle.cidr_join.specs.declared.answers.Answers.{Answers}
use Rattle.cidr_join.specs.declared.answers.Answers.TheVariants as answers
use Rattle.cidr_join.specs.declared.found.Found.{Found}
use Rattle.cidr_join.specs.declared.found.Found.TheVariants as founds
use Rattle.cidr_join.specs.declared.join.Join.{Join}
use Rattle.cidr_join.specs.declared.value.Value.{Value}

-- the address or network found in a line, if so many lines of its log come before it, as a network; that of an address
-- has no other address
abbrev pub network_in : Join → ℕ → List ℕ → Option IpNetwork
network_in join before line = network_of_found join.networks
    (picked_in join.networks join.area.pick (part_of join.area.part (judged before line)))

-- what is found for a network: the value of the longest network of the list that contains it, or that network, or
-- nothing; or, with `--group`, the block that contains it, if one does
abbrev pub FindsBy : Answers → IpNetwork → Found → Type 0
FindsBy (answers.Values routes) asked (founds.Network network) = ⊥
FindsBy (answers.Values routes) asked (founds.Value value) = (network : IpNetwork)
    × IsLongestRoute routes asked network value
FindsBy (answers.Values routes) asked founds.Nothing = NoRouteHolds routes asked
FindsBy (answers.Networks routes) asked (founds.Network network) = (value : Value)
    × IsLongestRoute routes asked network value
FindsBy (answers.Networks routes) asked (founds.Value value) = ⊥
FindsBy (answers.Networks routes) asked founds.Nothing = NoRouteHolds routes asked
FindsBy (answers.Blocks lengths) asked found = found ≡ block_in lengths asked

-- what is found for the first network or, if that is nothing, for the second
abbrev pub is_nothing : Found → Bool
is_nothing (founds.Network network) = false
is_nothing (founds.Value value) = false
is_nothing founds.Nothing = true

abbrev pub FindsEither : Answers → IpNetwork → IpNetwork → Found → Type 0
FindsEither by first second found = (FindsBy by first found × (is_nothing found ≡ false))
    ⊎ (FindsBy by first founds.Nothing × FindsBy by second found)

-- what is found for the network of a line, or for a line without one; with `--mapped`, a network of IPv4-mapped
-- addresses is looked up as that of their IPv4 addresses first, and then as it is
abbrev pub Finds : Join → Option IpNetwork → Found → Type 0
Finds join None found = found ≡ founds.Nothing
Finds join (Some asked) found = FindsEither join.answers (asked_network join.mapped asked) asked found

-- the text for what was found: the network's canonical text, or the value, or a minus sign for nothing
abbrev pub mark_of : Found → List ℕ
mark_of (founds.Network network) = ip_network_text network
mark_of (founds.Value value) = value.bytes.now
mark_of founds.Nothing = codes "-"

-- a line with the mark and a tab before it or, if `last`, with a tab and the mark between the line and its end; `line`
-- is the line without its end, `text` with it
abbrev pub shown_of : Bool → List ℕ → List ℕ → List ℕ → List ℕ
shown_of last mark line text = if last then line ++ 9 ∷ (mark ++ drop (length line) text) else mark ++ 9 ∷ text

-- a line, given without its end, is too long: it has more than 1,048,576 bytes
abbrev pub is_long : List ℕ → Bool
is_long line = nat_lt 1048576 (length line)

-- the same; a line that is too long has none
abbrev pub asked_in : Join → ℕ → List ℕ → Option IpNetwork
asked_in join before line = if is_long line then None else network_in join before line

-- a line without an address ends the run, with `--bad stop`, or is left out, with `--bad drop`
abbrev pub is_refused : WithoutAddress → Option IpNetwork → Bool
is_refused bad None = is_stopped bad
is_refused bad (Some asked) = false

abbrev pub is_left_out : WithoutAddress → Option IpNetwork → Bool
is_left_out bad None = is_dropped bad
is_left_out bad (Some asked) = false

-- what is written for a line with this network, or with none, given what was found for it: nothing if it is left out or
-- too long; `line` is the line without its end, `text` as it is printed
abbrev pub shown_in : Join → Option IpNetwork → Found → List ℕ → List ℕ → List ℕ
shown_in join asked found line text = if is_long line || is_left_out join.bad asked then []
    else shown_of join.last (mark_of found) line text

-- what is counted for a line with this network, or with none, if this was found for it: nothing if such lines are left
-- out
abbrev pub counted_for : Join → Option IpNetwork → Found → List (List ℕ)
counted_for join asked found = if is_left_out join.bad asked then [] else mark_of found ∷ []

abbrev pub counted_in : Join → Option IpNetwork → Found → List ℕ → List ℕ → List (List ℕ)
counted_in join asked found line text = counted_for join asked found

-- the counts of the lines so far and of this one, which has an address, has none, or is too long
abbrev pub seen_with : Join → LogStats → List ℕ → LogStats
seen_with join seen line =
    if is_long line then with_long seen else with_line seen (is_some (network_in join seen.lines line))

-- what the next line gives, by what a line gives for its network and what was found for that (`of`), and the counts
-- with it, or `None` if it ends the run; those before it have the counts `seen`
abbrev pub GivesLine : {A : Type 0} → (Join → Option IpNetwork → Found → List ℕ → List ℕ → List A) → Join → LogStats
    → List ℕ → List ℕ → List A → Option LogStats → Type 0
GivesLine of join seen line text given next = let asked = asked_in join seen.lines line in
    ((is_refused join.bad asked ≡ true) × Ends None given next)
    ⊎ ((is_refused join.bad asked ≡ false) × (found : Found) × Finds join asked found
    × (given ≡ of join asked found line text) × (next ≡ Some (seen_with join seen line)))

-- all lines, and all logs, are looked at
abbrev pub never : {S : Type 0} → S → Bool
never state = false

-- what the lines of a log give, one after another, and their counts, or `None` if one ends the run. If a device failed
-- (`cut`), the log may end before any line
abbrev pub Gives : {A : Type 0} → (Join → Option IpNetwork → Found → List ℕ → List ℕ → List A) → Join → Bool
    → List LogLine → List A → Option LogStats → Type 0
Gives of join cut lines all end = InTurn never (OfLine (GivesLine of join)) cut nothing lines all end
