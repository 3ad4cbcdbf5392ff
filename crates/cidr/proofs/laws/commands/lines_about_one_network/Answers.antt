use Rattle.cidr.proofs.Known.{◌≡◌, Ok, refl, NamesV4, canonical_v4, v4_of, canonical_v6, v6_of, NamesV6, IsV4Suffix, v4_length_of, IsV6Suffix, v6_length_of, ip_network_text, ip_network_of, TellsEnds, ends_text, read_answer, ends_answer, read6_answer, one_word_request, request_in, answers_read, answers_network, tells_ends, asks}
use Rattle.cidr.proofs.laws.commands.lines_about_one_network.Goals as goal

pub returns-clause-read4 : goal.returns-clause-read4
unfolding request_in one_word_request
returns-clause-read4 c = λ line text h.
    answers_read 32 NamesV4 IsV4Suffix canonical_v4 v4_of v4_length_of c.suffix_is_refused.ensures.v4 line text
    (c.v4_network_reading_is_computed.ensures text)
    c.v4_text_is_computed.ensures (asks line _ h)

pub returns-clause-read6 : goal.returns-clause-read6
unfolding read6_answer request_in one_word_request
returns-clause-read6 c = λ line text h.
    answers_read 128 NamesV6 IsV6Suffix canonical_v6 v6_of v6_length_of c.suffix_is_refused.ensures.v6 line text
    (c.v6_network_reading_is_computed.ensures text)
    c.v6_text_is_computed.ensures (asks line _ h)

pub returns-clause-read : goal.returns-clause-read
unfolding read_answer request_in one_word_request
returns-clause-read c = λ line text h.
    answers_network ip_network_text (λ n told. told ≡ ip_network_text n) line text (ip_network_of text) (λ n fits. refl)
    (λ n. c.ip_network_reading_is_computed.ensures text (Ok n)) (asks line _ h)

pub returns-clause-ends : goal.returns-clause-ends
unfolding ends_answer request_in one_word_request
returns-clause-ends c = λ line text h.
    answers_network ends_text TellsEnds line text (ip_network_of text) (tells_ends c.ends.ensures)
    (λ n. c.ip_network_reading_is_computed.ensures text (Ok n)) (asks line _ h)
