-- The union of a list of networks, by the structure of the list.
use Rattle.ipnetwork_blocks.proofs.Words.{◌≡◌, ◌↔◌, ◌⊎◌, inl, inr, sym, subst, ⊎_elim, List, ◌∷◌, Contains, Member, UnionOfNone, UnionOfList}
use Rattle.ipnetwork_blocks.proofs.LeastLists.{contains_cons, contains_head, contains_nil, contains_tail}

-- an element of a list has a property exactly if the first does or one of the others does
one_has : {X : Type 0} (Has : X → Type 0) (first : X) (others : List X)
    → ((n : X) × Contains (first ∷ others) n × Has n) ↔ (Has first ⊎ ((n : X) × Contains others n × Has n))
one_has {X} Has first others = (
  (λ c. ⊎_elim
      (λ (e : first ≡ c.0). inl (subst Has (sym e) c.2))
      (λ (k : Contains others c.0). inr (c.0, k, c.2)) (contains_cons first others c.0 c.1)),
  (λ p. ⊎_elim
      (λ (h : Has first). (first, contains_head first others, h))
      (λ (c : (n : X) × Contains others n × Has n). (c.0, contains_tail first others c.0 c.1, c.2)) p),
)

pub union_of_none : UnionOfNone
union_of_none w x c = contains_nil c.0 c.1

pub union_of_list : UnionOfList
union_of_list w n others x = one_has (λ m. Member w m x) n others
