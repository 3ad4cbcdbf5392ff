-- The strings of documents, at values at which a misreading of the definitions would show.
use Rattle.lists.proofs.Words.{◌≡◌, ◌<◌, ◌≤◌, ◌⊎◌, ℕ, Bool, true, List, [], ◌∷◌, refl, sym, inl, inr, length, arith, ◌∙◌, Option, Some, None, Encoding, codes, Data, null, boolean, number, unsigned, string, array, object, no_items, item, no_members, member, read, serde_json_on_literals, strings_of, ReadsDocument, StopsAtDocument, KnownLists, ReadLists, ReadFault, Open, Length, NotJson, Cut, OutOfMemory, Strings, documents_of, TakesDocuments, NoField}
use Rattle.lists.specs.declared.named.ReadFault.TheVariants.{Read}

-- ---- the strings of a value

-- ["b", {"a": "c", "d": ["b", {"e": "a"}]}, 7, true, [[]], "a"]
abbrev nested : Data
nested = array
    (item (string (codes "b"))
    (item (object
    (member (codes "a") (string (codes "c"))
    (member (codes "d") (array (item (string (codes "b"))
    (item (object (member (codes "e") (string (codes "a")) no_members)) no_items))) no_members)))
    (item (number (unsigned 7))
    (item (boolean true) (item (array (item (array no_items) no_items)) (item (string (codes "a")) no_items))))))

-- at any depth, in order, and a string that is there twice is reported twice
pub strings_at_any_depth : strings_of nested ≡ codes "b" ∷ codes "c" ∷ codes "b" ∷ codes "a" ∷ codes "a" ∷ []
strings_at_any_depth = refl

pub a_string_is_a_document : strings_of (string (codes "::/0")) ≡ codes "::/0" ∷ []
a_string_is_a_document = refl

-- a key is none of them
pub no_key_is_told : strings_of (object (member (codes "::/0") null no_members)) ≡ []
no_key_is_told = refl

-- from the text on: of the values of one key the last counts
pub a_text_and_its_strings : read (codes "{\"b\": \"x\", \"a\": [\"y\"], \"b\": \"z\"}") ≡ Some (object (member
    (codes "a") (array (item (string (codes "y")) no_items)) (member (codes "b") (string (codes "z")) no_members)))
unfolding serde_json_on_literals
a_text_and_its_strings = refl

-- ---- where the reading stops

nothing_is_none : documents_of [] ≡ None
unfolding serde_json_on_literals
nothing_is_none = refl

not_taken : (strings : Strings) (before after : ReadLists) → ¬ (TakesDocuments strings before [] after)
not_taken strings before after h = let e : None ≡ Some h.0 = sym nothing_is_none ∙ h.1.2 in cc

module _ (known : KnownLists) (strings : Strings) (list : ℕ) (name : List ℕ) (before after : ReadLists) where
  -- there is memory for an empty document
  pub an_empty_one_takes_no_memory : known.bytes_of name ≡ Some []
      → ¬ (StopsAtDocument known strings list name before OutOfMemory after)
  an_empty_one_takes_no_memory e (inl (lacks, same)) = let l = lacks.1 [] e in omega (arith, l)
  an_empty_one_takes_no_memory e (inr (reads, out)) = not_taken strings _ after (reads.1 [] e)

  -- a document that was not opened takes none
  pub memory_runs_out_for_an_open_one : StopsAtDocument known strings list name before OutOfMemory after
      → known.may_open name true
  memory_runs_out_for_an_open_one (inl (lacks, same)) = lacks.0
  memory_runs_out_for_an_open_one (inr (reads, out)) = reads.0

  -- nothing is kept, unless memory ran out for an entry
  pub nothing_is_kept : (fault : ReadFault) → StopsAtDocument known strings list name before fault after
      → (after ≡ before) ⊎ (after.is_out_of_memory ≡ true)
  nothing_is_kept (Open place cause) h = inl h.3
  nothing_is_kept (Read place) h = inl h.3
  nothing_is_kept (Length place) h = inl h.3
  nothing_is_kept (Cut place) h = absurd h
  nothing_is_kept (NotJson place line encoding) h = inl h.3
  nothing_is_kept (NoField place field) h = inl h.3
  nothing_is_kept OutOfMemory (inl (lacks, same)) = inl same
  nothing_is_kept OutOfMemory (inr (reads, out)) = inr out

  -- a longer document is neither read nor reported as none
  pub what_is_read_is_short : (input : List ℕ) → ReadsDocument known strings list name before after
      → known.bytes_of name ≡ Some input → length input ≤ 1073741824
  what_is_read_is_short input h e = let takes = h.1 input e in takes.1.0

  pub what_is_none_is_short : (input : List ℕ) (place line : ℕ) (encoding : Option Encoding) → StopsAtDocument known
      strings list name before (NotJson place line encoding) after → known.bytes_of name ≡ Some input → length input ≤ 1073741824
  what_is_none_is_short input place line encoding h e = let none = h.2 input e in none.0.0

  pub what_is_long_is_longer : (input : List ℕ) (place : ℕ) → StopsAtDocument known strings list name before
      (Length place) after → known.bytes_of name ≡ Some input → 1073741824 < length input
  what_is_long_is_longer input place h e = h.2 input e
