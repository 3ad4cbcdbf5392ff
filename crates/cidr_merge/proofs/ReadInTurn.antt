-- Lists that are read in turn.
use Rattle.cidr_merge.proofs.Words.{◌≡◌, ◌<◌, ◌+◌, ◌++◌, ◌∷◌, [], ℕ, List, false, refl, sym, subst, arith, length, get_or, take, length-take, Option, Result, Ok, Err, OnOk, String, string_bytes, IsAggregate, ReadLists, nothing_read, Refused, Source, ReadsOne, ReadsLists, ReadsSide, Sets, Version, looked_at, rules_of}
use Rattle.cidr_merge.specs.declared.exports.Version.TheVariants as versions
use Rattle.cidr_merge.proofs.Places.{up_to_next}

-- one more list was read
reads_more : {Z : Type 0} (known : Source) (number place : ℕ) (names : List (String Z))
    (name : String Z) (before mid after : ReadLists) → place ≡ number + length names
    → ReadsLists known number names before mid → ReadsOne known place (string_bytes name) mid after
    → ReadsLists known number (names ++ name ∷ []) before after
reads_more known number place [] name before mid after e h r =
    let same : place ≡ number = omega (arith, e) in (
      after,
      subst (λ (p : ℕ). ReadsOne known p (string_bytes name) before after) same
          (subst (λ (m : ReadLists). ReadsOne known place (string_bytes name) m after) h r),
      refl,
    )
reads_more known number place (n ∷ names) name before mid after e h r = (
  h.0,
  h.1,
  reads_more known (number + 1) place names name h.0 mid after
      (omega (arith, e)) h.2 r,
)

pub reads_on : {Z : Type 0} (known : Source) (names : List (String Z)) (first place : ℕ)
    (name : String Z) (before mid after : ReadLists) → place < length names → name ≡ get_or names place name
    → ReadsLists known first (take place names) before mid
    → ReadsOne known (first + place) (string_bytes name) mid after
    → ReadsLists known first (take (place + 1) names) before after
reads_on known names first place name before mid after l is h r =
    subst (λ ns. ReadsLists known first ns before after) (sym (up_to_next names place name l is))
    (reads_more known first (first + place) (take place names) name before mid after
    (omega (arith, l, length-take place names)) h r)

-- the sets of what was read
pub side_ok : {Z T E : Type 0} (result : Result T E) (known : Source) (looked only : Option Version) (number : ℕ)
    (names : List (String Z)) (before after : Refused) (start read : ReadLists) (sets : Sets)
    → start ≡ nothing_read (rules_of known.shape) before → OnOk result (ReadsLists known number names start read)
    → OnOk result (read.is_out_of_memory ≡ false) → looked ≡ only
    → IsAggregate 32 (looked_at looked versions.V4 read.v4) sets.v4
    → IsAggregate 128 (looked_at looked versions.V6 read.v6) sets.v6 → after ≡ read.refused
    → OnOk result (ReadsSide known only number names before sets after)
side_ok (Ok done) known looked only number names before after start read sets e h m is v4 v6 r = record {
  read = read;
  lists = subst (λ (s : ReadLists). ReadsLists known number names s read) e h;
  memory = m;
  v4 = subst (λ (o : Option Version). IsAggregate 32 (looked_at o versions.V4 read.v4) sets.v4) is v4;
  v6 = subst (λ (o : Option Version). IsAggregate 128 (looked_at o versions.V6 read.v6) sets.v6) is v6;
  refused_lines = sym r;
}
side_ok (Err fault) known looked only number names before after start read sets e h m is v4 v6 r = tt
