use Rattle.cidr.proofs.Known.{Ok, NamesIp, ip_of, NamesV4, v4_of, NamesV4Network, v4_network_of, Member, is_member, IpMember, is_ip_member, NamesIpNetwork, ip_network_of, has_answer, two_words_request, request_in, answers_membership, address_named, asks, answers_relation}
use Rattle.cidr.proofs.laws.commands.lines_about_sets.Goals as goal

pub returns-clause-has4 : goal.returns-clause-has4
unfolding request_in two_words_request
returns-clause-has4 c = λ line text word h.
    answers_membership NamesV4Network NamesV4 (Member 32) (is_member 32) line text word (v4_network_of text)
    (v4_of word)
    (λ n. c.v4_network_reading_is_computed.ensures text (Ok n)) (c.v4_text_is_computed.ensures word)
    (c.membership_is_computed.ensures 32)
    (asks line _ h)

pub returns-clause-has : goal.returns-clause-has
unfolding has_answer request_in two_words_request
returns-clause-has c = λ line text word h.
    answers_membership NamesIpNetwork NamesIp IpMember is_ip_member line text word (ip_network_of text) (ip_of word)
    (λ n. c.ip_network_reading_is_computed.ensures text (Ok n))
    (λ a. address_named (NamesIp word a) _ (ip_of word) a (c.ip_reading_is_computed.ensures word (Ok a)))
    c.ip_membership_is_computed.ensures
    (asks line _ h)

pub returns-clause-rel : goal.returns-clause-rel
unfolding request_in two_words_request
returns-clause-rel c = λ line text other h.
    answers_relation c.rel_answers_sets.ensures line text other
    (λ n. c.ip_network_reading_is_computed.ensures text (Ok n))
    (λ n. c.ip_network_reading_is_computed.ensures other (Ok n)) (asks line _ h)
