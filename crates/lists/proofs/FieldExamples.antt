-- The strings of fields and the documents of lines, at values at which a misreading of the definitions would show.
use Rattle.lists.proofs.Words.{◌≡◌, ℕ, Bool, true, false, List, [], ◌∷◌, refl, map, codes, Option, Some, None, Data, null, boolean, number, unsigned, string, array, object, no_items, item, no_members, member, serde_json_on_literals, is_named, has_field, first_lacking, field_strings_of, documents_of}

-- ---- the strings of fields

-- {"a": "1", "b": {"a": ["2", [3, {"a": "4", "c": "5"}]], "c": "6"}, "c": [{"a": true}]}
abbrev fields : Data
fields = object
    (member (codes "a") (string (codes "1"))
    (member (codes "b") (object
    (member (codes "a") (array (item (string (codes "2")) (item (array (item (number (unsigned 3)) (item (object
    (member (codes "a") (string (codes "4")) (member (codes "c") (string (codes "5")) no_members))) no_items))) no_items)))
    (member (codes "c") (string (codes "6")) no_members)))
    (member (codes "c") (array (item (object (member (codes "a") (boolean true) no_members)) no_items)) no_members)))

-- at any depth, in arrays within arrays, and not of the other members of an object within a field
pub of_one_name : field_strings_of (codes "a" ∷ []) fields
    ≡ codes "1" ∷ codes "2" ∷ codes "a number" ∷ codes "4" ∷ codes "a boolean" ∷ []
of_one_name = refl

pub of_two_names : field_strings_of (codes "x" ∷ codes "c" ∷ []) fields ≡ codes "5" ∷ codes "6" ∷ []
of_two_names = refl

-- an object within a field has only its own fields, and a `null` is passed over
pub of_an_object : field_strings_of (codes "a" ∷ []) (object
    (member (codes "a") (object (member (codes "b") (string (codes "1")) no_members)) no_members)) ≡ []
of_an_object = refl

pub of_null : field_strings_of (codes "a" ∷ []) (object (member (codes "a") null no_members)) ≡ []
of_null = refl

-- a string that is in no field, nor one in a field of no name
pub of_no_field : field_strings_of (codes "a" ∷ []) (array (item (string (codes "a")) no_items)) ≡ []
of_no_field = refl

-- a name is a whole key, in its case
pub named : map (is_named (codes "ab" ∷ [])) (codes "ab" ∷ codes "a" ∷ codes "abc" ∷ codes "Ab" ∷ [] ∷ [])
    ≡ true ∷ false ∷ false ∷ false ∷ false ∷ []
named = refl

pub fields_found : map (λ name. has_field name fields) (codes "b" ∷ codes "c" ∷ codes "d" ∷ codes "1" ∷ [])
    ≡ true ∷ true ∷ false ∷ false ∷ []
fields_found = refl

-- a field is there whatever it holds, also within another
pub null_is_a_field : has_field (codes "a") (array (item (object (member (codes "b")
    (object (member (codes "a") null no_members)) no_members)) no_items)) ≡ true
null_is_a_field = refl

-- each name has to be one of a member of some document, and the first that is not is found
pub names_lacking : map (λ names. first_lacking names (null ∷ fields ∷ []))
    ((codes "a" ∷ codes "c" ∷ codes "b" ∷ []) ∷ (codes "a" ∷ codes "d" ∷ codes "c" ∷ codes "A" ∷ []) ∷ (codes "" ∷ [])
    ∷ [] ∷ []) ≡ None ∷ Some 1 ∷ Some 0 ∷ Some 0 ∷ []
names_lacking = refl

pub in_any_document : map (first_lacking (codes "a" ∷ codes "x" ∷ [])) ((fields ∷ object
    (member (codes "x") null no_members) ∷ []) ∷ (fields ∷ []) ∷ (null ∷ []) ∷ [] ∷ []) ≡ None ∷ Some 1 ∷ Some 0 ∷ Some 0 ∷ []
in_any_document = refl

-- ---- documents of lines

-- one on each line that is not blank, in order; the line of one is that one
pub lines_of_documents : documents_of (codes "\n\"a\"\r\n \t\nnull\n")
    ≡ Some (string (codes "a") ∷ null ∷ [])
unfolding serde_json_on_literals
lines_of_documents = refl

pub one_document_in_lines : documents_of (codes "[\nnull\n]\n") ≡ Some (array (item null no_items) ∷ [])
unfolding serde_json_on_literals
one_document_in_lines = refl

-- none is taken before one that is broken, and blanks are none
pub a_broken_line : documents_of (codes "null\n[") ≡ None
unfolding serde_json_on_literals
a_broken_line = refl

pub two_in_a_line : documents_of (codes "null null") ≡ None
unfolding serde_json_on_literals
two_in_a_line = refl

pub blanks_alone : documents_of (codes " \n\t\n") ≡ None
unfolding serde_json_on_literals
blanks_alone = refl
