-- Lists that are read, and whose lines are taken, in turn.
use Rattle.cidr_join.proofs.Words.{◌≡◌, ◌∙◌, ◌⊎◌, ℕ, suc, ◌+◌, ◌<◌, ◌++◌, ◌∷◌, [], List, refl, sym, ap, subst, inl, inr, arith, length, get_or, drop, drop-cons, append_assoc, append-nil, Option, None, Written, BytesStop, KnownLists, BytesFault, Item, AreRead, NotRead, lines_of, list_in, lists_of, LacksMemory, Takes, EndsLines, TellsUnread, TellsUntaken, Unread, ListRules, Networks, RouteFault}
use Rattle.lists.specs.declared.bytes.BytesFault.TheVariants as bytes
use Rattle.cidr_join.specs.declared.routes.RouteFault.TheVariants as routes
use Rattle.cidr_join.proofs.Listing.{parts}

-- what is left from a place on begins with what is there
pub left_from : {X : Type 0} (items : List X) (at : ℕ) (item : X) → at < length items → item ≡ get_or items at item
    → drop at items ≡ item ∷ drop (at + 1) items
left_from items at item within is =
    let next : suc at ≡ at + 1 = omega arith in
    drop-cons items at item within ∙ ap (λ i. i ∷ drop (suc at) items) (sym is) ∙ ap (λ n. item ∷ drop n items) next

-- ---- lists that are read

module _ (known : KnownLists) where
  -- a list was not read, or memory ran out
  pub one_unread : {E : Type 0} (name : List ℕ) (names : List (List ℕ)) (errors : Written E) (fault : BytesFault)
      → BytesStop known name 1073741824 fault → TellsUnread fault errors → Unread known (name ∷ names) errors
  one_unread name names errors (bytes.Open cause) stops tells = inl (inl (bytes.Open cause, stops))
  one_unread name names errors bytes.Read stops tells = inl (inl (bytes.Read, stops))
  one_unread name names errors bytes.Length stops tells = inl (inl (bytes.Length, stops))
  one_unread name names errors bytes.OutOfMemory stops tells = inr tells

  read_both : (a b x y : List (List ℕ)) → AreRead known a x → AreRead known b y → AreRead known (a ++ b) (x ++ y)
  read_both [] b x y p q = subst (λ (l : List (List ℕ)). AreRead known b (l ++ y)) (sym p) q
  read_both (name ∷ a) b x y p q = (p.0, p.1 ++ y, p.2, read_both a b p.1 y p.3 q, ap (λ l. l ++ y) p.4)

  unread_first : (a b : List (List ℕ)) → NotRead known a → NotRead known (a ++ b)
  unread_first [] b h = absurd h
  unread_first (name ∷ a) b (inl h) = inl h
  unread_first (name ∷ a) b (inr h) = inr (unread_first a b h)

  unread_behind : (a b : List (List ℕ)) → NotRead known b → NotRead known (a ++ b)
  unread_behind [] b h = h
  unread_behind (name ∷ a) b h = inr (unread_behind a b h)

  -- what is read of the options that are left, or not, is so of all
  pub record ReadSoFar (items left : List Item) (texts : List (List ℕ)) : Type 0 where
    pub read : (more : List (List ℕ)) → AreRead known (lists_of left) more
        → AreRead known (lists_of items) (texts ++ more)
    pub unread : NotRead known (lists_of left) → NotRead known (lists_of items)

  pub none_read : (items : List Item) → ReadSoFar items items []
  none_read items = record { read = λ more h. h; unread = λ h. h }

  module _ (items left rest : List Item) (item : Item) (texts : List (List ℕ)) (so_far : ReadSoFar items left texts)
      (is : left ≡ item ∷ rest) where
    pub one_read : (one now : List (List ℕ)) → AreRead known (list_in item) one → now ≡ texts ++ one
        → ReadSoFar items rest now
    one_read one now h same = record {
      read = λ more g. subst (AreRead known (lists_of items))
          (sym (append_assoc texts one more) ∙ ap (λ l. l ++ more) (sym same))
          (so_far.read (one ++ more)
          (subst (λ (l : List Item). AreRead known (lists_of l) (one ++ more)) (sym is)
          (read_both (list_in item) (lists_of rest) one more h g)));
      unread = λ g. so_far.unread
          (subst (λ (l : List Item). NotRead known (lists_of l)) (sym is)
          (unread_behind (list_in item) (lists_of rest) g));
    }

    pub items_unread : {E : Type 0} (errors : Written E) → Unread known (list_in item) errors
        → Unread known (lists_of items) errors
    items_unread errors (inl h) = inl
        (so_far.unread
        (subst (λ (l : List Item). NotRead known (lists_of l)) (sym is)
        (unread_first (list_in item) (lists_of rest) h)))
    items_unread errors (inr memory) = inr memory

  pub all_read : (items left : List Item) (texts : List (List ℕ)) → ReadSoFar items left texts → left ≡ []
      → AreRead known (lists_of items) texts
  all_read items left texts so_far is =
      subst (AreRead known (lists_of items)) (append-nil texts)
      (so_far.read [] (subst (λ (l : List Item). AreRead known (lists_of l) []) (sym is) refl))

-- ---- lists whose lines are taken

-- the lines of a list end the run, or memory ran out
pub untaken : {E : Type 0} (rules : ListRules) (all : List (List ℕ)) (before networks : Networks) (text : List ℕ)
    (texts : List (List ℕ)) (errors : Written E)
    → ((end : Option Networks) → Takes rules networks (lines_of (text ∷ texts)) end → Takes rules before all end)
    → (fault : RouteFault) → EndsLines rules networks (parts text) fault → TellsUntaken fault errors
    → Takes rules before all None ⊎ LacksMemory errors
untaken rules all before networks text texts errors goes routes.OutOfMemory ends told = inr told
untaken rules all before networks text texts errors goes (routes.Refused cause) ends told = inl
    (goes None (ends (lines_of texts)))
