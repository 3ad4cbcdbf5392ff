-- What `rel` answers, and what `add`, `drop` and `find` request.
use Rattle.cidr.proofs.Words.{◌≡◌, ◌↔◌, ℕ, List, None, Some, Ok, refl, sym, ap, ap₂, ◌∙◌, NamesIp, ip_of, IpAddr, CidrFault, NamesIpNetwork, ip_network_of, IpNetwork, AnswersRelation, AsksAdd, AsksDrop, AsksFind, refused, related, rel_answer, RelatesSets, Plain, adding, dropping, finding, route_number_of, request_of}
use Rattle.std.proofs.Common.{Result, Err}
use Rattle.cidr.proofs.Answers.{gives_none}
use Rattle.cidr.proofs.CommandAnswers.{refuses}
use Rattle.cidr.proofs.CommandLines.{answered}
use Rattle.cidr.proofs.Requests.{NumberIsComputed, number_is, number_is_none}

-- a text names a network exactly if it is read as one
abbrev pub IsRead : List ℕ → Type 0
IsRead text = (n : IpNetwork) → NamesIpNetwork text n ↔ (Ok n ≡ ip_network_of text)

-- a text that names no network is refused
unread : (text : List ℕ) → IsRead text → ((n : IpNetwork) → ¬ (NamesIpNetwork text n))
    → (fault : CidrFault) × (ip_network_of text ≡ Err fault)
unread text reading none = refuses (ip_network_of text) (λ n is. none n ((reading n).1 is))

-- ---- `rel`

refused_second : (r : Result IpNetwork CidrFault) (fault : CidrFault) → related r (Err fault) ≡ refused
refused_second (Ok n) fault = refl
refused_second (Err other) fault = refl

pub answers_relation : RelatesSets → (line text other : List ℕ) → IsRead text → IsRead other
    → request_of line ≡ Plain (rel_answer text other) → AnswersRelation line text other
unfolding rel_answer
answers_relation relates line text other one two asks = record {
  sets = λ a b fits fits_too names names_too.
      (rel_answer text other, relates text other a b fits fits_too names names_too, answered line _ asks);
  no_first = λ none. answered line _
      (asks ∙ ap (λ r. Plain (related r (ip_network_of other))) (unread text one none).1);
  no_second = λ none.
      let second = unread other two none in
      answered line _ (asks ∙ ap (λ r. Plain (related (ip_network_of text) r)) second.1
      ∙ ap Plain (refused_second (ip_network_of text) second.0));
}

-- ---- the routing commands

refused_number : (r : Result IpNetwork CidrFault) → adding r None ≡ Plain refused
refused_number (Ok n) = refl
refused_number (Err fault) = refl

pub asks_to_add : NumberIsComputed → (line text word : List ℕ) → IsRead text
    → request_of line ≡ adding (ip_network_of text) (route_number_of word) → AsksAdd line text word
asks_to_add computed line text word reading asks = record {
  asks = λ n number names is fits. asks
      ∙ ap₂ adding (sym ((reading n).0 names)) (number_is computed word number is fits);
  no_network = λ none. answered line _ (asks ∙ ap (λ r. adding r (route_number_of word)) (unread text reading none).1);
  no_number = λ none. answered line _ (asks ∙ ap (adding (ip_network_of text)) (number_is_none computed word none)
      ∙ refused_number (ip_network_of text));
}

pub asks_to_drop : (line text : List ℕ) → IsRead text → request_of line ≡ dropping (ip_network_of text)
    → AsksDrop line text
asks_to_drop line text reading asks = record {
  asks = λ n names. asks ∙ ap dropping (sym ((reading n).0 names));
  no_network = λ none. answered line _ (asks ∙ ap dropping (unread text reading none).1);
}

pub asks_to_find : (line word : List ℕ) → ((a : IpAddr) → NamesIp word a ↔ (ip_of word ≡ Some a))
    → request_of line ≡ finding (ip_of word) → AsksFind line word
asks_to_find line word addresses asks = record {
  asks = λ a names. asks ∙ ap finding ((addresses a).0 names);
  no_address = λ none. answered line _
      (asks ∙ ap finding (gives_none (ip_of word) (λ a is. none a ((addresses a).1 is))));
}
