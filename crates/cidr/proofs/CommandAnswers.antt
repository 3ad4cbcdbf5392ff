-- What each command answers, or requests from the routes.
use Rattle.cidr.proofs.Words.{◌≡◌, ◌≢◌, ◌↔◌, ℕ, ◌+◌, ◌-◌, ◌*◌, ◌<◌, ◌≤◌, ◌^◌, Bool, true, false, cond, IsTrue, inl, inr, List, Option, Some, Ok, length, codes, refl, sym, ap, ap₂, ◌∙◌, arith, nat_le, pow_mono, pow-add, pow_pos, le-leb, leb_tells, length-map, length-range_with_len, IsAddrAtMost, answer_from, IpAddr, Network, IsNetwork, low, block_size, size_of, count_up, members, slashes, before_slash, ReadsNetwork, suffix_of, prefix_given, network_from, network_of, CidrFault, Format, Prefix, IsIpNetwork, IpMember, IsIpMask, address_of, prefix_of, width_of, ip_low, ip_high, ip_mask_of, ip_members, ip_size, size_number, NamesIpNetwork, IpNetwork, V4, V6, SuffixIsRefused, AnswersRead, AnswersNetwork, TellsEnds, AnswersMembership, text_or_cause, text_or_refused, ends_text, membership, Plain, request_of}
use Rattle.std.proofs.Common.{Result, Err}
use Rattle.ipnetwork_addr.specs.declared.ip.IpAddr.TheVariants as addresses
use Rattle.ipnetwork_family.specs.Laws.{EndsLaw as HaveEnds}
use Rattle.cidr.proofs.Answers.{gives_none}
use Rattle.cidr.proofs.CommandLines.{answered}
use Rattle.cidr.proofs.EitherAnswers.{value_from}

-- reading rejects a text that names nothing
pub refuses : {N E : Type 0} (r : Result N E) → ((n : N) → ¬ (Ok n ≡ r)) → (fault : E) × (r ≡ Err fault)
refuses (Ok n) none = absurd (none n refl)
refuses (Err fault) none = (fault, refl)

-- ---- `read4` and `read6`

no_more : (n : ℕ) → n ≤ 1 → nat_le 2 n ≡ false
no_more n few = elim (leb_tells 2 n) [ inl two ↦ absurd (omega (arith, few, two.1)) | inr fewer ↦ fewer.0 ]

module _ (w : ℕ) (N S : List ℕ → ℕ → Type 0) (canonical : ℕ → List ℕ) (address_in length_of : List ℕ → Option ℕ) where
  pub answers_read : SuffixIsRefused w N S → (line text : List ℕ)
      → ((r : Result Network CidrFault) → ReadsNetwork w N S text r ↔ (r ≡ network_of w address_in length_of text))
      → ((t : List ℕ) (a : ℕ) → N t a ↔ (address_in t ≡ Some a))
      → request_of line ≡ Plain (text_or_cause canonical (network_of w address_in length_of text))
      → AnswersRead w N S canonical line text
  answers_read refused line text reading addresses asks =
      let parts = network_from (address_in (before_slash text)) (prefix_given w length_of (suffix_of text)) in
      record {
        network = λ n names. answered line _
            (asks ∙ ap (λ r. Plain (text_or_cause canonical r)) (sym ((reading (Ok n)).0 names)));
        format = λ two. answered line _ (asks ∙ ap (λ b. Plain (text_or_cause canonical (cond b (Err Format) parts)))
            (le-leb 2 (slashes text) two));
        address = λ few none. answered line _ (
            asks ∙ ap (λ b. Plain (text_or_cause canonical (cond b (Err Format) parts))) (no_more (slashes text) few)
            ∙ ap (λ o. Plain (text_or_cause canonical (network_from o (prefix_given w length_of (suffix_of text)))))
            (gives_none (address_in (before_slash text)) (λ a is. none a ((addresses (before_slash text) a).1 is))));
        prefix = λ few a names none. answered line _ (asks ∙ ap (λ r. Plain (text_or_cause canonical r))
            (sym ((reading (Err Prefix)).0 ((few, (a, names), refused text a names none), none))));
      }

-- ---- `read` and `ends`

pub answers_network : (tells : IpNetwork → List ℕ) (IsTold : IpNetwork → List ℕ → Type 0) (line text : List ℕ)
    (r : Result IpNetwork CidrFault)
    → ((n : IpNetwork) → IsIpNetwork n → IsTold n (tells n)) → ((n : IpNetwork) → NamesIpNetwork text n ↔ (Ok n ≡ r))
    → request_of line ≡ Plain (text_or_refused tells r) → AnswersNetwork IsTold line text
answers_network tells IsTold line text r told reading asks = record {
  network = λ n fits names. (
    tells n,
    told n fits,
    answered line _
        (asks ∙ ap (λ x. Plain (text_or_refused tells x)) (sym ((reading n).0 names))),
  );
  none = λ none. answered line _
      (asks ∙ ap (λ x. Plain (text_or_refused tells x)) (refuses r (λ n is. none n ((reading n).1 is))).1);
}

length-count_up : (start n : ℕ) → length (count_up start n) ≡ n
unfolding count_up
length-count_up start n = length-range_with_len start n

-- the size of a network is its number of members, or one less at prefix length 0
some_members : (w : ℕ) (n : Network) → IsNetwork w n → n.prefix ≢ 0 → length (members w n) ≡ size_of w n
some_members w n fits some =
    let half = 2 ^ (w - 1) in
    let few : block_size w n.prefix ≤ half = pow_mono (omega (arith, fits.prefix_fits, some)) in
    let back : w - 1 + 1 ≡ w = omega (arith, fits.prefix_fits, some) in
    let whole : 2 ^ w ≡ half * 2 = ap (λ k. 2 ^ k) (sym back) ∙ pow-add 2 (w - 1) 1 in
    let more : 0 < half = pow_pos (w - 1) in
    length-count_up (low w n) (block_size w n.prefix) ∙ omega (arith, few, whole, more)

all_members : (w : ℕ) (n : Network) → n.prefix ≡ 0 → length (members w n) ≡ size_of w n + 1
all_members w n none =
    let all : block_size w n.prefix ≡ 2 ^ w = ap (λ p. 2 ^ (w - p)) none ∙ ap (λ k. 2 ^ k) (omega arith) in
    let more : 0 < 2 ^ w = pow_pos w in
    length-count_up (low w n) (block_size w n.prefix) ∙ omega (arith, all, more)

module _ (ends : HaveEnds) where
  ends_are_members : (n : IpNetwork) → IsIpNetwork n → IpMember n (ip_low n) × IpMember n (ip_high n)
  ends_are_members (V4 n) fits = let has = ends 32 n fits in (has.low_is_member, has.high_is_member)
  ends_are_members (V6 n) fits = let has = ends 128 n fits in (has.low_is_member, has.high_is_member)

  all_within : (n : IpNetwork) → IsIpNetwork n → (x : IpAddr) → IpMember n x
      → IsAddrAtMost (ip_low n) x × IsAddrAtMost x (ip_high n)
  all_within (V4 n) fits (addresses.V4 x) member = (ends 32 n fits).within x member
  all_within (V4 n) fits (addresses.V6 x) member = absurd member
  all_within (V6 n) fits (addresses.V4 x) member = absurd member
  all_within (V6 n) fits (addresses.V6 x) member = (ends 128 n fits).within x member

has_mask : (n : IpNetwork) → IsIpNetwork n → IsIpMask (ip_mask_of n) (prefix_of n)
    × (width_of (ip_mask_of n) ≡ width_of (address_of n))
has_mask (V4 n) fits = ((fits.prefix_fits, refl), refl)
has_mask (V6 n) fits = ((fits.prefix_fits, refl), refl)

counted : (n : IpNetwork) → IsIpNetwork n → prefix_of n ≢ 0 → length (ip_members n) ≡ size_number (ip_size n)
counted (V4 n) fits some = length-map (members 32 n) addresses.V4 ∙ some_members 32 n fits some
counted (V6 n) fits some = length-map (members 128 n) addresses.V6 ∙ some_members 128 n fits some

counted_all : (n : IpNetwork) → prefix_of n ≡ 0 → length (ip_members n) ≡ size_number (ip_size n) + 1
counted_all (V4 n) none = length-map (members 32 n) addresses.V4 ∙ all_members 32 n none
counted_all (V6 n) none = length-map (members 128 n) addresses.V6 ∙ all_members 128 n none

pub tells_ends : HaveEnds → (n : IpNetwork) → IsIpNetwork n → TellsEnds n (ends_text n)
tells_ends ends n fits = record {
  least = ip_low n;
  greatest = ip_high n;
  mask = ip_mask_of n;
  number = size_number (ip_size n);
  text = refl;
  is_least = ((ends_are_members ends n fits).0, λ x member. (all_within ends n fits x member).0);
  is_greatest = ((ends_are_members ends n fits).1, λ x member. (all_within ends n fits x member).1);
  is_mask = has_mask n fits;
  is_number = counted n fits;
  is_one_less = counted_all n;
}

-- ---- `has4` and `has`

not_true : (b : Bool) → ¬ (IsTrue b) → b ≡ false
not_true false never = refl
not_true true never = absurd (never refl)

module _ {N A : Type 0} (Names : List ℕ → N → Type 0) (NamesAddress : List ℕ → A → Type 0) (Holds : N → A → Type 0)
    (test : N → A → Bool) where
  pub answers_membership : (line text word : List ℕ) (r : Result N CidrFault) (o : Option A)
      → ((n : N) → Names text n ↔ (Ok n ≡ r)) → ((a : A) → NamesAddress word a ↔ (o ≡ Some a))
      → ((n : N) (a : A) → IsTrue (test n a) ↔ Holds n a) → request_of line ≡ Plain (membership test r o)
      → AnswersMembership Names NamesAddress Holds line text word
  answers_membership line text word r o reading addresses tested asks = record {
    yes = λ n a network address holds. answered line _ (
        asks ∙ ap₂ (λ x y. Plain (membership test x y)) (sym ((reading n).0 network)) ((addresses a).0 address)
        ∙ ap (λ b. Plain (cond b (codes "yes") (codes "no"))) ((tested n a).1 holds));
    no = λ n a network address out. answered line _ (
        asks ∙ ap₂ (λ x y. Plain (membership test x y)) (sym ((reading n).0 network)) ((addresses a).0 address)
        ∙ ap (λ b. Plain (cond b (codes "yes") (codes "no"))) (not_true (test n a) (λ is. out ((tested n a).0 is))));
    no_network = λ none. answered line _
        (asks ∙ ap (λ x. Plain (membership test x o)) (refuses r (λ n is. none n ((reading n).1 is))).1);
    no_address = λ n network none. answered line _ (
        asks ∙ ap₂ (λ x y. Plain (membership test x y)) (sym ((reading n).0 network))
        (gives_none o (λ a is. none a ((addresses a).1 is))));
  }

-- the address that a text names, from what reading returns
pub address_named : {A E : Type 0} (P : Type 0) (error : E) (o : Option A) (a : A) → (P ↔ (Ok a ≡ answer_from error o))
    → P ↔ (o ≡ Some a)
address_named P error o a reading =
    (λ names. value_from error o a (reading.0 names), λ is. reading.1 (ap (answer_from error) (sym is)))
