-- Lines that would reveal a misreading of the definitions. Each of these facts is computed.
use Rattle.cidr.proofs.Words.{◌≡◌, [], ◌∷◌, ◌++◌, refl, digits, read_answer, has_answer, ends_answer, rel_answer, complete_part, output_of, answer_of, V4, v6_of, gap_below, Add, Plain, route_number_of, one_word_request, two_words_request, request_in, request_of}
use Rattle.std.specs.Prelude.{codes}

-- a carriage return before a line feed is part of the line ending; one at the end of the input is part of the word
pub returns : (output_of (codes "has4 10.0.0.0/8 10.255.255.255" ++ (13 ∷ 10 ∷ [])) ≡ codes "yes" ++ (10 ∷ []))
    × (output_of (codes "has4 10.0.0.0/8 10.255.255.255" ++ (13 ∷ [])) ≡ codes "refused address" ++ (10 ∷ []))
unfolding digits request_of request_in two_words_request
returns = (refl, refl)

-- an empty line, and an input without lines
pub no_words : (output_of (10 ∷ []) ≡ codes "unknown command" ++ (10 ∷ [])) × (output_of [] ≡ [])
unfolding request_of request_in
no_words = (refl, refl)

pub unfinished_line : complete_part (codes "ab" ++ (10 ∷ codes "cd")) ≡ codes "ab" ++ (10 ∷ [])
unfolding complete_part
unfinished_line = refl

-- a slash after the suffix; two blanks; the network is checked first; an address below the network's own is still a
-- member
pub of_ipv4 : (answer_of (codes "read4 1.2.3.4/24/") ≡ codes "refused format")
    × (answer_of (codes "read4  1.2.3.4/24") ≡ codes "unknown command")
    × (answer_of (codes "has4 x y") ≡ codes "refused network")
    × (answer_of (codes "has4 10.0.0.5/8 10.0.0.1") ≡ codes "yes")
unfolding digits request_of request_in one_word_request two_words_request
of_ipv4 = (refl, refl, refl, refl)

-- ---- networks of either family

-- one refusal; the ends in order; the number of all addresses is capped
pub of_a_network : (answer_of (codes "read 10.0.0.0/99") ≡ codes "refused")
    × (answer_of (codes "ends 10.1.9.32/16") ≡ codes "10.1.0.0 10.1.255.255 255.255.0.0 65536")
    × (answer_of (codes "ends 10.0.0.0/0") ≡ codes "0.0.0.0 255.255.255.255 0.0.0.0 4294967295")
unfolding digits v6_of gap_below request_of request_in one_word_request read_answer ends_answer
of_a_network = (refl, refl, refl)

-- no IPv4 address is a member of an IPv6 network; an address below the network's own is a member
pub memberships : (answer_of (codes "has ::/0 1.2.3.4") ≡ codes "no")
    × (answer_of (codes "has 10.0.0.5/8 10.0.0.1") ≡ codes "yes")
unfolding digits v6_of gap_below request_of request_in two_words_request has_answer
memberships = (refl, refl)

-- host bits are ignored; networks of different families are apart
pub relations : (answer_of (codes "rel 10.0.0.1/24 10.0.0.0/24") ≡ codes "same")
    × (answer_of (codes "rel 10.0.0.0/30 10.0.0.5/24") ≡ codes "inside")
    × (answer_of (codes "rel 10.0.0.0/8 10.0.0.5/24") ≡ codes "around")
    × (answer_of (codes "rel 0.0.0.0/0 ::/0") ≡ codes "apart")
unfolding digits v6_of gap_below request_of request_in two_words_request rel_answer
relations = (refl, refl, refl, refl)

-- ---- what lines request from the routes

-- an `add` keeps the network, and its number has at most 32 bits
pub asked_to_add : (request_of (codes "add 10.0.0.1/8 +05") ≡ Add (V4 (record { address = 167772161; prefix = 8 })) 5)
    × (request_of (codes "add 10.0.0.0/8 4294967296") ≡ Plain (codes "refused"))
    × (request_of (codes "add 10.0.0.0/8") ≡ Plain (codes "unknown command"))
unfolding digits request_of request_in one_word_request two_words_request route_number_of
asked_to_add = (refl, refl, refl)

pub find_asks_of_an_address : request_of (codes "find 10.0.0.0/8") ≡ Plain (codes "refused")
unfolding digits v6_of gap_below request_of request_in one_word_request
find_asks_of_an_address = refl
