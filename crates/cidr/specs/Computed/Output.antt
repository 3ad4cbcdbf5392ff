-- The output if no `add` runs out of memory, computed.
use Rattle.std.specs.Prelude.{ℕ, List, [], ◌∷◌}
use Rattle.std.specs.FinMap.{entries}
use Rattle.std.specs.Str.Lines.{lines}
use Rattle.ipnetwork_addr.specs.declared.ip.IpAddr.{IpAddr}
use Rattle.ipnetwork_addr.specs.declared.ip.IpAddr.TheVariants.{V4, V6}
use Rattle.ipnetwork.specs.declared.ip_network.IpNetwork.TheVariants as networks
use Rattle.ipnetwork_table.specs.Computed.Longest.{longest_of}
use Rattle.cidr.specs.Finding.{of_family, found_text}
use Rattle.cidr.specs.Output.{added, dropped, replies}
use Rattle.cidr.specs.Requests.{Request, Add, Drop, Find, Plain, request_of}
use Rattle.cidr.specs.Routes.{Routes, no_routes, number_at, with_number, without}

-- the answer about the longest entry whose block contains the address
abbrev pub find_answer : Routes → IpAddr → List ℕ
find_answer routes (V4 address) = found_text (of_family networks.V4 (longest_of 32 address (entries routes.v4)))
find_answer routes (V6 address) = found_text (of_family networks.V6 (longest_of 128 address (entries routes.v6)))

-- the answer to a request
abbrev pub request_answer : Routes → Request → List ℕ
request_answer routes (Add network number) = added (number_at routes network)
request_answer routes (Drop network) = dropped (number_at routes network)
request_answer routes (Find address) = find_answer routes address
request_answer routes (Plain text) = text

-- the routes that a request leaves
abbrev pub next_routes : Routes → Request → Routes
next_routes routes (Add network number) = with_number routes network number
next_routes routes (Drop network) = without routes network
next_routes routes (Find address) = routes
next_routes routes (Plain text) = routes

-- the answers to the lines, in turn
abbrev pub answers_from : Routes → List (List ℕ) → List (List ℕ)
answers_from routes [] = []
answers_from routes (line ∷ lines) =
    request_answer routes (request_of line) ∷ answers_from (next_routes routes (request_of line)) lines

-- the output for an input, starting with no routes
abbrev pub output_of : List ℕ → List ℕ
output_of input = replies (answers_from no_routes (lines input))

-- the answer to a line if there are no routes
abbrev pub answer_of : List ℕ → List ℕ
answer_of line = request_answer no_routes (request_of line)
