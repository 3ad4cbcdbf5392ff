-- What can be concluded from the laws of outputs, routes, runs and sets, but not from weaker laws. Each law is cited by
-- its name.
use Rattle.cidr.proofs.Words.{◌≡◌, ◌≢◌, ℕ, ◌≤◌, false, true≢false, List, [], ◌∷◌, ◌++◌, length, drop, take, codes, refl, sym, ap, ◌∙◌, inl, inr, ⊎_elim, arith, lit≤, ◌⊎◌, decimal, IsSome, Err, bytes_eq, All, AllByRecursion, lines, digits, All-contains, All-from_recursion, none-some, bytes_eq-Decides, IsBeginning, complete_part, Read, Write, InputTooLong, v6_of, gap_below, NamesIp, NamesV4, IpAddr, NamesV4Network, Network, Member, IsPrefixNumber, IsIpNetwork, IpMember, IpSubnet, address_of, prefix_of, ip_low, NamesIpNetwork, ip_network_text, IpNetwork, has4_answer, has_answer, rel_answer, output_of, answer_of, IsFullOutput, FullIsComputed, ComputedIsAllowed, IsUnrefusedOutput, UnrefusedIsComputed, UnrefusedLinesAreComputed, IsAskingLine, IsPlainLine, OthersAreRouting, PlainLinesAskNothing, PlainInputsHaveOneOutput, EndsALine, SplitsAtLineEnds, PlainPartsRunAlone, AskingPartsRunAfterRoutes, Renumbers, GetsAdd, New, Changed, OutOfMemory, GetsDrop, Dropped, Absent, GetsFind, Longest, Nothing, AddsGet, DropsGet, AreLeft, FindsGet, FirstFindsNothing, FirstDropsNothing, FirstAddsNew, AfterOk, AfterReadFault, AfterWriteFault, AfterTooLong, Has4AnswersMembership, HasAnswersMembership, RelatesSets, MayGet, reply, IsOutputFrom, IsOutput, Add, Drop, Find, two_words_request, request_in, request_of, Routes, number_at, Ran, BeginsOutput, words, blank}
use Rattle.std.specs.Prelude.{◌↔◌, Option, None, Some, Ok}

-- ---- runs

-- a run with an input past the limit does not end in Ok
pub ok_is_within_the_limit : AfterOk → (held holds : List ℕ) (left : Option (List ℕ))
    → ¬ (Ran 3 (Some (codes "read")) left (Some held) (Some holds) (Ok tt))
ok_is_within_the_limit law held holds left ran = absurd (omega (arith, (law 3 (codes "read") held holds left tt ran).0))

-- no more than the limit is read if a device fails
pub read_fault_is_within_the_limit : AfterReadFault → (held holds : List ℕ)
    → ¬ (Ran 3 (Some (codes "read" ++ [])) (Some []) (Some held) (Some holds) (Err Read))
read_fault_is_within_the_limit law held holds ran = absurd (omega (arith, (law 3 (codes "read") [] held holds ran).0))

pub write_fault_is_within_the_limit : AfterWriteFault → (held holds : List ℕ)
    → ¬ (Ran 3 (Some (codes "read" ++ [])) (Some []) (Some held) (Some holds) (Err Write))
write_fault_is_within_the_limit law held holds ran = absurd (omega (arith, (law 3 (codes "read") [] held holds ran).0))

-- an input within the limit is not too long
pub within_the_limit_is_not_too_long : AfterTooLong → (held holds : List ℕ)
    → ¬ (Ran 4 (Some (codes "read" ++ [])) (Some []) (Some held) (Some holds) (Err InputTooLong))
within_the_limit_is_not_too_long law held holds ran = absurd (omega (arith, (law 4 (codes "read") [] held holds ran).0))

-- what is written comes after what the writer held: an output for the input, an output for the lines that were read
-- completely, a beginning of an output, or an output for no more lines than are within the limit
abbrev behind : List ℕ → List ℕ → (List ℕ → Type 0) → Type 0
behind held holds IsWritten = (written : List ℕ) × IsWritten written × (holds ≡ held ++ written)

abbrev one_line : List ℕ
one_line = codes "read ::" ++ 10 ∷ []

pub ok_writes_an_output : AfterOk → (limit : ℕ) (input held holds : List ℕ)
    → Ran limit (Some input) (Some []) (Some held) (Some holds) (Ok tt) → behind held holds (IsOutput input)
ok_writes_an_output law limit input held holds ran = let after = law limit input held holds (Some []) tt ran in
    (after.1, after.2, after.3)

pub read_fault_answers_whole_lines : AfterReadFault → (more held holds : List ℕ) → Ran 10 (Some ((one_line
    ++ codes "re") ++ more)) (Some more) (Some held) (Some holds) (Err Read) → behind held holds (IsOutput one_line)
unfolding complete_part
read_fault_answers_whole_lines law more held holds ran =
    let after = law 10 (one_line ++ codes "re") more held holds ran in (after.1, after.2, after.3)

pub write_fault_begins_an_output : AfterWriteFault → (limit : ℕ) (read more held holds : List ℕ) → Ran limit
    (Some (read ++ more)) (Some more) (Some held) (Some holds) (Err Write) → behind held holds (BeginsOutput read)
write_fault_begins_an_output law limit read more held holds ran = let after = law limit read more held holds ran in
    (after.1, after.2, after.3)

pub too_long_answers_a_part : AfterTooLong → (limit : ℕ) (read more held holds : List ℕ)
    → Ran limit (Some (read ++ more)) (Some more) (Some held) (Some holds) (Err InputTooLong)
    → behind held holds (λ output. (count : ℕ) × (count ≤ limit) × IsOutput (complete_part (take count read)) output)
too_long_answers_a_part law limit read more held holds ran = let after = law limit read more held holds ran in
    (after.3, (after.1, after.2, after.4), after.5)

-- ---- sets: members and others, of texts of either family

pub has4_by_sets : Has4AnswersMembership → (n m : Network) (a : ℕ) → NamesV4Network (codes "0.0.0.0/0") n
    → NamesV4Network (codes "10.0.0.0/8") m → NamesV4 (codes "255.255.255.255") a → Member 32 n a × (¬ (Member 32 m a))
unfolding digits
has4_by_sets law n m a all ten last = (
  (law (codes "0.0.0.0/0") (codes "255.255.255.255") n a all last).0.0 refl,
  (law (codes "10.0.0.0/8") (codes "255.255.255.255") m a ten last).1.0 refl,
)

pub has_by_sets : HasAnswersMembership → (four six : IpNetwork) (a b : IpAddr) → NamesIpNetwork (codes "0.0.0.0/0") four
    → NamesIpNetwork (codes "::/0") six → NamesIp (codes "255.255.255.255") a → NamesIp (codes "::") b
    → IpMember four a × IpMember six b × (¬ (IpMember four b)) × (¬ (IpMember six a))
unfolding digits v6_of gap_below has_answer
has_by_sets law four six a b all every last first = (
  (law (codes "0.0.0.0/0") (codes "255.255.255.255") four a all last).0.0 refl,
  (law (codes "::/0") (codes "::") six b every first).0.0 refl,
  (law (codes "0.0.0.0/0") (codes "::") four b all first).1.0 refl,
  (law (codes "::/0") (codes "255.255.255.255") six a every last).1.0 refl,
)

-- from the sets to the answer
pub sets_have : Has4AnswersMembership → HasAnswersMembership → (text word : List ℕ) (n : Network) (a : ℕ)
    (k : IpNetwork) (c : IpAddr) → NamesV4Network text n → NamesV4 word a → NamesIpNetwork text k → NamesIp word c
    → (Member 32 n a → has4_answer text word ≡ codes "yes") × (¬ (Member 32 n a) → has4_answer text word ≡ codes "no")
    × (IpMember k c → has_answer text word ≡ codes "yes") × (¬ (IpMember k c) → has_answer text word ≡ codes "no")
sets_have has4 has text word n a k c network address either also = (
  (has4 text word n a network address).0.1,
  (has4 text word n a network address).1.1,
  (has text word k c either also).0.1,
  (has text word k c either also).1.1,
)

pub rel_by_sets : RelatesSets → (all ten six : IpNetwork) → IsIpNetwork all → IsIpNetwork ten → IsIpNetwork six →
    NamesIpNetwork (codes "0.0.0.0/0") all → NamesIpNetwork (codes "10.0.0.5/8") ten → NamesIpNetwork (codes "::/0") six
    → (IpSubnet ten all × ¬ (IpSubnet all ten)) × (¬ (IpSubnet all ten) × IpSubnet ten all)
    × (¬ (IpSubnet all six) × ¬ (IpSubnet six all)) × (IpSubnet six six × IpSubnet six six)
unfolding digits v6_of gap_below rel_answer
rel_by_sets law all ten six a b c every named also = (
  (law (codes "10.0.0.5/8") (codes "0.0.0.0/0") ten all b a named every).inside.0 refl,
  (law (codes "0.0.0.0/0") (codes "10.0.0.5/8") all ten a b every named).around.0 refl,
  (law (codes "0.0.0.0/0") (codes "::/0") all six a c every also).apart.0 refl,
  (law (codes "::/0") (codes "::/0") six six c c also also).same.0 refl,
)

-- ---- routes

-- an `add` of a block that has a number never runs out of memory, and an `add` that does leaves the routes unchanged
changed : (before after : Routes) (n : IpNetwork) (number old : ℕ) (answer : List ℕ) → number_at before n ≡ Some old
    → GetsAdd before n number answer after → (answer ≡ codes "changed") × Renumbers before n (Some number) after
changed before after n number old answer had (New none is put) = absurd (none-some old (sym none ∙ had))
changed before after n number old answer had (Changed other found is put) = (is, put)
changed before after n number old answer had (OutOfMemory none is same) = absurd (none-some old (sym none ∙ had))

added : (before after : Routes) (n : IpNetwork) (number : ℕ) (answer : List ℕ) → number_at before n ≡ None
    → GetsAdd before n number answer after
    → ((answer ≡ codes "new") × Renumbers before n (Some number) after)
    ⊎ ((answer ≡ codes "out of memory") × (after ≡ before))
added before after n number answer none (New had is put) = inl (is, put)
added before after n number answer none (Changed old had is put) = absurd (none-some old (sym none ∙ had))
added before after n number answer none (OutOfMemory had is same) = inr (is, same)

-- the numbers of networks with the same set and of others, whatever the families are
abbrev are_renumbered : Routes → IpNetwork → Option ℕ → Routes → Type 0
are_renumbered before n number after = (m k : IpNetwork) → IsIpNetwork m → IsIpNetwork k → IpSubnet m n → IpSubnet n m
    → ¬ (IpSubnet k n × IpSubnet n k)
    → (number_at after m ≡ number) × (number_at after k ≡ number_at before k)

renumbered : (before after : Routes) (n : IpNetwork) (number : Option ℕ) → Renumbers before n number after
    → are_renumbered before n number after
renumbered before after n number put m k good fine below above apart =
    (put.same m good (below, above), put.others k fine apart)

pub adds : AddsGet → (before after : Routes) (n : IpNetwork) (number old : ℕ) (answer : List ℕ) → IsIpNetwork n
    → MayGet before (Add n number) answer after
    → (number_at before n ≡ Some old → (answer ≡ codes "changed") × are_renumbered before n (Some number) after)
    × (number_at before n ≡ None → ((answer ≡ codes "new") × are_renumbered before n (Some number) after)
    ⊎ ((answer ≡ codes "out of memory") × (after ≡ before)))
adds law before after n number old answer good gets =
    let got = law before after n number answer good gets in (
      λ had. let is = changed before after n number old answer had got in
          (is.0, renumbered before after n (Some number) is.1),
      λ none. ⊎_elim (λ (is : (answer ≡ codes "new") × Renumbers before n (Some number) after). inl
          (is.0, renumbered before after n (Some number) is.1))
          (λ (is : (answer ≡ codes "out of memory") × (after ≡ before)). inr is)
          (added before after n number answer none got),
    )

dropped : (before after : Routes) (n : IpNetwork) (old : ℕ) (answer : List ℕ) → number_at before n ≡ Some old
    → GetsDrop before n answer after → (answer ≡ codes "dropped") × Renumbers before n None after
dropped before after n old answer had (Dropped other found is put) = (is, put)
dropped before after n old answer had (Absent none is put) = absurd (none-some old (sym none ∙ had))

absent : (before after : Routes) (n : IpNetwork) (answer : List ℕ) → number_at before n ≡ None
    → GetsDrop before n answer after → (answer ≡ codes "absent") × Renumbers before n None after
absent before after n answer none (Dropped old had is put) = absurd (none-some old (sym none ∙ had))
absent before after n answer none (Absent had is put) = (is, put)

pub drops : DropsGet → (before after : Routes) (n : IpNetwork) (old : ℕ) (answer : List ℕ) → IsIpNetwork n
    → MayGet before (Drop n) answer after
    → (number_at before n ≡ Some old → (answer ≡ codes "dropped") × are_renumbered before n None after)
    × (number_at before n ≡ None → (answer ≡ codes "absent") × are_renumbered before n None after)
drops law before after n old answer good gets =
    let got = law before after n answer good gets in (
      λ had. let is = dropped before after n old answer had got in (is.0, renumbered before after n None is.1),
      λ none. let is = absent before after n answer none got in (is.0, renumbered before after n None is.1),
    )

-- the block found is at least as long as any block that contains the address, and nothing is found if no block contains
-- it
longest : (routes : Routes) (m : IpNetwork) (a : IpAddr) (answer : List ℕ) → IsSome (number_at routes m) → IpMember m a
    → GetsFind routes a answer
    → (n : IpNetwork) × (number : ℕ) × (number_at routes n ≡ Some number) × (address_of n ≡ ip_low n) × IpMember n a
    × (prefix_of m ≤ prefix_of n) × (answer ≡ ip_network_text n ++ blank ∷ decimal number)
longest routes m a answer has holds (Longest n number had block member best is) =
    (n, number, had, block, member, best m has holds, is)
longest routes m a answer has holds (Nothing none is) = absurd (none m has holds)

nothing : (routes : Routes) (a : IpAddr) (answer : List ℕ) → ((m : IpNetwork) (old : ℕ) → number_at routes m ≡ Some old
    → ¬ (IpMember m a)) → GetsFind routes a answer → answer ≡ codes "none"
nothing routes a answer none (Longest n number had block member best is) = absurd (none n number had member)
nothing routes a answer none (Nothing other is) = is

pub finds : FindsGet → (before after : Routes) (m : IpNetwork) (a : IpAddr) (answer : List ℕ) → AreLeft before
    → MayGet before (Find a) answer after → (after ≡ before)
    × (IsSome (number_at before m) → IpMember m a → (n : IpNetwork) × (number : ℕ) × (number_at before n ≡ Some number)
    × (address_of n ≡ ip_low n) × IpMember n a × (prefix_of m ≤ prefix_of n)
    × (answer ≡ ip_network_text n ++ blank ∷ decimal number))
    × (((k : IpNetwork) (old : ℕ) → number_at before k ≡ Some old → ¬ (IpMember k a)) → answer ≡ codes "none")
finds law before after m a answer left gets =
    let got = law before after a answer left gets in
    (got.1, λ has holds. longest before m a answer has holds got.0, λ none. nothing before a answer none got.0)

-- the first of several lines, and a line without a line feed
pub first_lines : FirstFindsNothing → FirstDropsNothing → FirstAddsNew
    → (one two three : List ℕ) (a : IpAddr) (n m : IpNetwork)
    → IsOutput (codes "find 255.255.255.255" ++ 10 ∷ codes "add ::/0 1") one → IsOutput (codes "drop 0.0.0.0/0") two
    → IsOutput (codes "add ::/0 4294967295" ++ 13 ∷ 10 ∷ codes "find ::") three
    → NamesIp (codes "255.255.255.255") a → NamesIpNetwork (codes "0.0.0.0/0") n → NamesIpNetwork (codes "::/0") m
    → IsPrefixNumber (codes "4294967295") 4294967295
    → IsBeginning (reply (codes "none")) one × IsBeginning (reply (codes "absent")) two
    × (IsBeginning (reply (codes "new")) three ⊎ IsBeginning (reply (codes "out of memory")) three)
first_lines find drop_ add one two three a n m finding dropping adding last all every greatest = (
  find (codes "find 255.255.255.255" ++ 10 ∷ codes "add ::/0 1") one (codes "find 255.255.255.255")
      (codes "255.255.255.255") (codes "add ::/0 1" ∷ []) a finding refl (refl, lit≤ tt) last,
  drop_ (codes "drop 0.0.0.0/0") two (codes "drop 0.0.0.0/0") (codes "0.0.0.0/0") [] n dropping refl
      (refl, lit≤ tt) all,
  add (codes "add ::/0 4294967295" ++ 13 ∷ 10 ∷ codes "find ::") three (codes "add ::/0 4294967295") (codes "::/0")
      (codes "4294967295") (codes "find ::" ∷ []) m 4294967295 adding refl (refl, lit≤ tt) every greatest (lit≤ tt),
)

-- ---- outputs

-- each input has exactly one full output, which is allowed
pub one_full_output : FullIsComputed → ComputedIsAllowed → (input one other : List ℕ) → (IsFullOutput input one
    → IsFullOutput input other → one ≡ other) × IsFullOutput input (output_of input) × IsOutput input (output_of input)
one_full_output full allowed input one other =
    (λ a b. (full input one).0 a ∙ sym ((full input other).0 b), (full input (output_of input)).1 refl, allowed input)

pub one_unrefused_output : UnrefusedIsComputed → (input one other : List ℕ) → IsUnrefusedOutput input one
    → IsUnrefusedOutput input other → one ≡ other
one_unrefused_output law input one other a b = law input one a ∙ sym (law input other b)

apart : (a b : List ℕ) → bytes_eq a b ≡ false → a ≢ b
apart a b differ same = true≢false (sym ((bytes_eq-Decides a b).1 same) ∙ differ)

pub unrefused_lines : UnrefusedLinesAreComputed → (input : List ℕ) → IsOutput input (codes "new" ++ 10 ∷ codes "none"
    ++ 10 ∷ []) → codes "new" ++ 10 ∷ codes "none" ++ 10 ∷ [] ≡ output_of input
unrefused_lines law input is =
    law input (codes "new" ++ 10 ∷ codes "none" ++ 10 ∷ []) is (apart _ _ refl, (apart _ _ refl, tt))

abbrev routing : List (List ℕ)
routing = codes "add" ∷ codes "drop" ∷ codes "find" ∷ []

-- a line whose first word is `rel` is a plain line
pub rel_is_plain : OthersAreRouting → (line : List ℕ) (others : List (List ℕ)) → words line ≡ codes "rel" ∷ others
    → ¬ (¬ (IsPlainLine line))
rel_is_plain law line others cut not =
    let found = law line not in
    let unlike : All (λ command. command ≢ codes "rel") routing =
    All-from_recursion (λ command. command ≢ codes "rel") routing (
      apart (codes "add") (codes "rel") refl,
      (apart (codes "drop") (codes "rel") refl, (apart (codes "find") (codes "rel") refl, tt)),
    ) in
    All-contains (λ command. command ≢ codes "rel") routing found.0 unlike found.3 (cc (found.2, cut))

-- plain lines, whatever the routes are
pub plain_lines : PlainLinesAskNothing → (line answer : List ℕ) (before after : Routes) → IsPlainLine line
    → MayGet before (request_of line) (answer_of line) before
    × (MayGet before (request_of line) answer after → (answer ≡ answer_of line) × (after ≡ before))
plain_lines law line answer before after plain =
    ((law line (answer_of line) before before plain).1 (refl, refl), (law line answer before after plain).0)

-- two lines, the last of which has no line feed
plain : (line command : List ℕ) (others : List (List ℕ)) → words line ≡ command ∷ others
    → bytes_eq command (codes "add") ≡ false → bytes_eq command (codes "drop") ≡ false
    → bytes_eq command (codes "find") ≡ false → IsPlainLine line
plain line command others cut add drop_ find =
    record {
      asking =
          record {
            command = command;
            others = others;
            cut = cut;
            no_add = apart command _ add;
            no_drop =
                apart command _ drop_;
          };
      no_find = apart command _ find;
    }

abbrev two_lines : List ℕ
two_lines = codes "has4 0.0.0.0/0 255.255.255.255" ++ 10 ∷ codes "rel ::/0 ::1"

pub two_plain_lines : PlainInputsHaveOneOutput → (output : List ℕ)
    → IsOutput two_lines output ↔ (output ≡ codes "yes" ++ 10 ∷ codes "around" ++ 10 ∷ [])
unfolding digits v6_of gap_below rel_answer request_of request_in two_words_request
two_plain_lines law output =
    law two_lines output (
      plain (codes "has4 0.0.0.0/0 255.255.255.255") (codes "has4") (codes "0.0.0.0/0" ∷ codes "255.255.255.255" ∷ [])
          refl refl refl refl,
      (plain (codes "rel ::/0 ::1") (codes "rel") (codes "::/0" ∷ codes "::1" ∷ []) refl refl refl refl, tt),
    )

-- ---- an input in three parts

pub in_three : SplitsAtLineEnds → (before after : Routes) (front middle back output : List ℕ) → EndsALine front
    → EndsALine middle → IsOutputFrom before (front ++ (middle ++ back)) output after
    → (first : Routes) × (second : Routes) × (a : List ℕ) × (b : List ℕ) × (c : List ℕ) × IsOutputFrom before front a
    first × IsOutputFrom first middle b second × IsOutputFrom second back c after × (output ≡ a ++ (b ++ c))
in_three law before after front middle back output ends also is =
    let one = (law front (middle ++ back) output before after ends).0 is in
    let two = (law middle back one.2 one.0 after also).0 one.4 in
    (one.0, two.0, one.1, two.1, two.2, one.3, two.3, two.4, one.5 ∙ ap (λ o. one.1 ++ o) two.5)

pub from_three : SplitsAtLineEnds → (before first second after : Routes) (front middle back a b c : List ℕ)
    → EndsALine front → EndsALine middle
    → IsOutputFrom before front a first → IsOutputFrom first middle b second → IsOutputFrom second back c after
    → IsOutputFrom before (front ++ (middle ++ back)) (a ++ (b ++ c)) after
from_three law before first second after front middle back a b c ends also one two three =
    (law front (middle ++ back) (a ++ (b ++ c)) before after ends).1
    (first, a, b ++ c, one, (law middle back (b ++ c) first after also).1 (second, b, c, two, three, refl), refl)

pub three_alone : PlainPartsRunAlone → (front middle back output : List ℕ) → EndsALine front → EndsALine middle
    → AllByRecursion IsPlainLine (lines front) → AllByRecursion IsPlainLine (lines middle)
    → IsOutput (front ++ (middle ++ back)) output ↔ ((a : List ℕ) × (b : List ℕ) × (c : List ℕ) × IsOutput front a
    × IsOutput middle b × IsOutput back c × (output ≡ a ++ (b ++ c)))
three_alone law front middle back output ends also one two = (
  λ is.
      let first = (law front (middle ++ back) output ends one).0 is in
      let next = (law middle back first.1 also two).0 first.3 in
      (first.0, next.0, next.1, first.2, next.2, next.3, first.4 ∙ ap (λ o. first.0 ++ o) next.4),
  λ are. (law front (middle ++ back) output ends one).1 (
    are.0,
    are.1 ++ are.2,
    are.3,
    (law middle back (are.1 ++ are.2) also two).1 (are.1, are.2, are.4, are.5, refl),
    are.6,
  ),
)

pub three_after_routes : AskingPartsRunAfterRoutes → (routes front middle back : List ℕ) → EndsALine routes → EndsALine
    front → EndsALine middle → AllByRecursion IsAskingLine (lines front) → AllByRecursion IsAskingLine (lines middle)
    → output_of (routes ++ (front ++ (middle ++ back)))
    ≡ output_of (routes ++ front) ++ drop (length (output_of routes))
    (output_of (routes ++ middle) ++ drop (length (output_of routes)) (output_of (routes ++ back)))
three_after_routes law routes front middle back ends one two asking also =
    law routes front (middle ++ back) ends one asking ∙ ap (λ o. output_of (routes ++ front)
    ++ drop (length (output_of routes)) o) (law routes middle back ends two also)
