-- How whole lists are read.
use Rattle.cidr_merge.proofs.Words.{◌≡◌, ◌+◌, ◌<◌, ◌∙◌, ℕ, List, [], ◌∷◌, ◌++◌, refl, sym, ap, subst, arith, length, map, take, drop, get_or, Option, None, Some, String, string_bytes, map-append, length-map, Bool, true, false, true≢false, not, ◌&&◌, BytesStop, IsAllOf, BytesFault, ReadFault, Cut, OutOfMemory, EndsWithFeed, ends_with_feed, feed_is_told, told_is_feed, text_in, Whole, AreTexts, FileStops, IsText, StopsAs, TextStops, TextsStop, not_read}
use Rattle.lists.specs.declared.bytes.BytesFault.TheVariants as bytes
use Rattle.cidr_merge.proofs.Places.{up_to_next, cut_at}

-- ---- one list

-- a list was not read
pub text_stops : (from : Whole) (name : List ℕ) (number most : ℕ) (fault : BytesFault)
    → BytesStop from.known name most fault → FileStops from name (not_read number fault)
text_stops from name number most (bytes.Open cause) h = (h.0, h.1)
text_stops from name number most bytes.Read h = (h.0, h.1)
text_stops from name number most bytes.Length h = tt
text_stops from name number most bytes.OutOfMemory h = tt

-- it was read, and does not end as it has to
pub cut_off : (from : Whole) (name bytes : List ℕ) (number : ℕ) → IsAllOf from.known name bytes
    → (from.wanted && not (ends_with_feed bytes)) ≡ true → FileStops from name (Cut number)
cut_off from name bytes number all is = by from.wanted (ends_with_feed bytes) refl refl is where
  by : (wanted feed : Bool) → from.wanted ≡ wanted → ends_with_feed bytes ≡ feed → (wanted && not feed) ≡ true
      → FileStops from name (Cut number)
  by true false wanted none is = (
    all.0,
    wanted,
    λ input e feed. true≢false
        (sym (feed_is_told bytes (subst EndsWithFeed (sym (all.1 input e)) feed)) ∙ none),
  )
  by true true wanted none is = absurd (true≢false (sym is))
  by false feed wanted none is = absurd (true≢false (sym is))

-- or does, if it has to
pub ends_as_wanted : (wanted : Bool) (bytes : List ℕ) → (wanted && not (ends_with_feed bytes)) ≡ false → wanted ≡ true
    → EndsWithFeed bytes
ends_as_wanted wanted bytes so is = told_is_feed bytes (fed wanted (ends_with_feed bytes) so is) where
  fed : (wanted feed : Bool) → (wanted && not feed) ≡ false → wanted ≡ true → feed ≡ true
  fed wanted true so is = refl
  fed true false so is = absurd (true≢false so)
  fed false false so is = absurd (true≢false (sym is))

-- memory may run out for any
pub no_memory : (from : Whole) (name : List ℕ) → TextStops from name OutOfMemory
no_memory from name = by (text_in name) where
  by : (given : Option (List ℕ)) → StopsAs given from name OutOfMemory
  by (Some text) = refl
  by None = tt

-- ---- lists in turn

-- one more list was read
texts_more : {Z : Type 0} (from : Whole) (names : List (String Z)) (texts : List (List ℕ))
    (name : String Z) (text : List ℕ) → AreTexts from names texts
    → IsText from (string_bytes name) text
    → AreTexts from (names ++ name ∷ []) (texts ++ text ∷ [])
texts_more from [] [] name text h k = (k, tt)
texts_more from [] (other ∷ texts) name text h k = absurd h
texts_more from (next ∷ names) [] name text h k = absurd h
texts_more from (next ∷ names) (other ∷ texts) name text h k =
    (h.0, texts_more from names texts name text h.1 k)

-- there are as many texts as names
pub as_many : {Z : Type 0} (from : Whole) (names : List (String Z)) (texts : List (List ℕ))
    → AreTexts from names texts → length texts ≡ length names
as_many from [] [] h = refl
as_many from [] (text ∷ texts) h = absurd h
as_many from (name ∷ names) [] h = absurd h
as_many from (name ∷ names) (text ∷ texts) h =
    let e = as_many from names texts h.1 in omega (arith, e)

pub as_many_held : {Z X : Type 0} (from : Whole) (names : List (String Z))
    (texts : List X) (items : X → List ℕ) (held : List X) → held ≡ texts
    → AreTexts from names (map items texts) → length held ≡ length names
as_many_held from names texts items held e h =
    ap length e ∙ sym (length-map texts items) ∙ as_many from names (map items texts) h

-- the list at a place was read
pub texts_on : {Z : Type 0} (from : Whole) (names : List (String Z)) (place : ℕ)
    (name : String Z) (texts : List (List ℕ)) (text : List ℕ) → place < length names
    → name ≡ get_or names place name
    → AreTexts from (take place names) texts → IsText from (string_bytes name) text
    → AreTexts from (take (place + 1) names) (texts ++ text ∷ [])
texts_on from names place name texts text l is h k =
    subst (λ ns. AreTexts from ns (texts ++ text ∷ []))
    (sym (up_to_next names place name l is))
    (texts_more from (take place names) texts name text h k)

pub text_more : {Z X : Type 0} (items : X → List ℕ) (from : Whole) (names : List (String Z))
    (place : ℕ) (name : String Z) (word : List ℕ) (texts : List X) (text : X) → place < length names
    → name ≡ get_or names place name → word ≡ string_bytes name
    → AreTexts from (take place names) (map items texts) → IsText from word (items text)
    → AreTexts from (take (place + 1) names) (map items (texts ++ text ∷ []))
text_more items from names place name word texts text l is w h k =
    subst (λ (ts : List (List ℕ)). AreTexts from (take (place + 1) names) ts)
    (sym (map-append items texts (text ∷ [])))
    (texts_on from names place name (map items texts) (items text) l is h
    (subst (λ (n : List ℕ). IsText from n (items text)) w k))

-- the list at a place was not read
pub texts_stop : {Z : Type 0} (from : Whole) (place : ℕ) (names : List (String Z)) (name : String Z)
    (texts : List (List ℕ)) (fault : ReadFault) → place < length names → name ≡ get_or names place name
    → AreTexts from (take place names) texts → TextStops from (string_bytes name) fault → TextsStop from names fault
texts_stop from place names name texts fault l is h stops = record {
  before = take place names;
  name = name;
  behind = drop (place + 1) names;
  texts = texts;
  cut = cut_at names place name l is;
  reads = h;
  stops = stops;
}
