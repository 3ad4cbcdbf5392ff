use Rattle.cidr.proofs.Known.{Ok, NamesIp, ip_of, one_word_request, two_words_request, request_in, address_named, asks, asks_to_add, asks_to_drop, asks_to_find}
use Rattle.cidr.proofs.laws.commands.lines_about_routes.Goals as goal

pub returns-clause-add : goal.returns-clause-add
unfolding request_in two_words_request
returns-clause-add c = λ line text word h.
    asks_to_add c.prefix_number_is_computed.ensures line text word
    (λ n. c.ip_network_reading_is_computed.ensures text (Ok n)) (asks line _ h)

pub returns-clause-drop : goal.returns-clause-drop
unfolding request_in one_word_request
returns-clause-drop c = λ line text h.
    asks_to_drop line text (λ n. c.ip_network_reading_is_computed.ensures text (Ok n)) (asks line _ h)

pub returns-clause-find : goal.returns-clause-find
unfolding request_in one_word_request
returns-clause-find c = λ line word h.
    asks_to_find line word (λ a. address_named (NamesIp word a) _ (ip_of word) a
    (c.ip_reading_is_computed.ensures word (Ok a))) (asks line _ h)
