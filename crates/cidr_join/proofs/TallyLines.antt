-- How lines are counted.
use Rattle.cidr_join.proofs.Words.{◌≡◌, ◌∙◌, ◌&&◌, not, ℕ, Bool, true, false, true≢false, List, [], ◌∷◌, ◌++◌, refl, sym, ap, subst, append_assoc, append-nil, Option, None, Some, Result, Ok, Err, OnOk, if◌then◌else◌, is_some, IpNetwork, Written, LineEnd, nothing, with_long, is_dropped, is_stopped, LogStats, WithoutAddress, reads_all, reads_break, reads_cut, reads_last, reads_last_long, reads_line, reads_long, OpenLog, Breaks, GivesNext, line_of, whole_of, LogFault, Line, TooLong, End, Finds, GivesLine, counted_for, counted_in, is_left_out, mark_of, never, IsCounted, CountsAsked, CountsAll, CountsLine, CountsLog, CountsSoFar, LineNotCounted, Counts, Found, Join}
use Rattle.program.specs.declared.log_fault.LogFault.TheVariants as faults
use Rattle.cidr_join.specs.declared.found.Found.TheVariants as founds_of
use Rattle.cidr_join.proofs.Lines.{long_gives, long_refused}

-- the test of the code is the one of the definitions
pub left_by : (bad : WithoutAddress) (address : Option IpNetwork) (some left is : Bool) → some ≡ is_some address
    → left ≡ (not some && is_dropped bad) → left ≡ is → is_left_out bad address ≡ is
left_by bad None some left is e f g = sym (ap (λ (b : Bool). not b && is_dropped bad) e) ∙ sym f ∙ g
left_by bad (Some address) some left is e f g = sym (ap (λ (b : Bool). not b && is_dropped bad) e) ∙ sym f ∙ g

module _ (founds : List Found) where
  pub counts_nothing : (counts : Counts) → CountsAll founds [] counts counts
  counts_nothing counts texts counted = subst (λ (t : List (List ℕ)). IsCounted founds t counts)
      (sym (append-nil texts)) counted

  pub counts_both : (old mid new : Counts) (first second : List (List ℕ)) → CountsAll founds first old mid
      → CountsAll founds second mid new → CountsAll founds (first ++ second) old new
  counts_both old mid new first second p q texts counted =
      subst (λ (t : List (List ℕ)). IsCounted founds t new) (append_assoc texts first second)
      (q (texts ++ first) (p texts counted))

  -- what is found for an address was counted; or lines without an address are left out
  pub address_counted : (join : Join) (old new : Counts) (address : Option IpNetwork) (found : Found)
      → is_left_out join.bad address ≡ false → Finds join address found
      → CountsAll founds (mark_of found ∷ []) old new → CountsAsked founds join address old new
  address_counted join old new address found stays finds counts = (
    found,
    finds,
    subst (λ (t : List (List ℕ)). CountsAll founds t old new)
        (sym (ap (λ (b : Bool). if b then [] else mark_of found ∷ []) stays)) counts,
  )

  pub address_counted_if : {T E : Type 0} (result : Result T E) (join : Join) (old new : Counts) (text : List ℕ)
      (address : Option IpNetwork) (found : Found) → is_left_out join.bad address ≡ false
      → Finds join address found → mark_of found ≡ text
      → OnOk result ((all : List Found) → CountsAll all (text ∷ []) old new)
      → OnOk result (CountsAsked founds join address old new)
  address_counted_if (Ok done) join old new text address found stays finds mark counts =
      address_counted join old new address found stays finds
      (subst (λ (t : List ℕ). CountsAll founds (t ∷ []) old new) (sym mark) (counts founds))
  address_counted_if (Err fault) join old new text address found stays finds mark counts = tt

  pub left_out : (join : Join) (counts : Counts) (address : Option IpNetwork) → is_left_out join.bad address ≡ true
      → CountsAsked founds join address counts counts
  left_out join counts (Some address) leaves = absurd (true≢false (sym leaves))
  left_out join counts None leaves = (
    founds_of.Nothing,
    refl,
    subst (λ (t : List (List ℕ)). CountsAll founds t counts counts)
        (sym (ap (λ (b : Bool). if b then [] else mark_of founds_of.Nothing ∷ []) leaves)) (counts_nothing counts),
  )

-- ---- the lines of a log

module _ (founds : List Found) (join : Join) (was now : OpenLog) (remained before after : Option (List ℕ))
    (seen : LogStats) (old mid : Counts)
    (s : CountsSoFar founds join was remained before old mid seen) (read_failed : Bool) where
  abbrev Of : LogStats → List ℕ → List ℕ → List (List ℕ) → Option LogStats → Type 0
  Of = GivesLine counted_in join

  -- the log ends
  pub counted : {T : Type 0} (done : T) → GivesNext now remained after s.reads.first End
      → CountsLog founds {T = T} (Ok done) join remained read_failed old mid seen
  counted done given = record {
    marks = s.marks ++ [];
    counts = counts_both founds old mid mid s.marks [] s.counts (counts_nothing founds mid);
    reads = reads_all never Of nothing remained was now before after s.marks seen s.reads read_failed done given;
  }

  -- memory ran out
  pub lacks_memory : {T : Type 0} (new : Counts) (adds : LogStats)
      → CountsLog founds {T = T} (Err faults.Write) join remained read_failed old new adds
  lacks_memory new adds = record {
    marks = s.marks ++ [];
    counts = tt;
    reads = reads_cut never Of nothing remained was now before after s.marks seen s.reads read_failed faults.Write adds
        refl tt;
  }

  pub counting_breaks : {T W : Type 0} (output between : Written W) (fault : LogFault)
      → Breaks remained after read_failed output between s.reads.first fault
      → CountsLog founds {T = T} (Err fault) join remained read_failed old mid seen
  counting_breaks output between fault h = record {
    marks = s.marks ++ [];
    counts = tt;
    reads = reads_break never Of nothing remained was now before after s.marks seen s.reads read_failed output between
        fault seen h;
  }

  -- a line within the limit
  module _ (end : LineEnd) (line : List ℕ) (given : GivesNext now remained after s.reads.first (Line end))
      (is : line ≡ line_of now) where
    pub line_counted : (new : Counts) (adds : LogStats) → CountsLine founds join line mid new seen adds
        → CountsSoFar founds join now remained after old new adds
    line_counted new adds h = record {
      marks = s.marks ++ h.0;
      counts = counts_both founds old mid new s.marks h.0 s.counts h.2;
      reads = reads_line never Of nothing remained was now before after s.marks seen s.reads read_failed end line
          (whole_of now) given is refl refl h.0 adds h.1;
    }

    pub line_not_counted : {T : Type 0} (new : Counts) (adds : LogStats) (fault : LogFault)
        → LineNotCounted join line seen fault
        → CountsLog founds {T = T} (Err fault) join remained read_failed old new adds
    line_not_counted new adds faults.Read h = absurd h
    line_not_counted new adds faults.Write h = lacks_memory new adds
    line_not_counted new adds faults.Address h = record {
      marks = s.marks ++ [];
      counts = tt;
      reads = reads_last never Of nothing remained was now before after s.marks seen s.reads read_failed end line
          (whole_of now) given is refl refl faults.Address [] adds tt h;
    }
    line_not_counted new adds faults.Length h = absurd h
    line_not_counted new adds faults.Endless h = absurd h

  -- a line that is too long
  module _ (given : GivesNext now remained after s.reads.first TooLong) where
    pub long_counted : is_stopped join.bad ≡ false → now.hurries ≡ false → (new : Counts)
        → CountsAsked founds join None mid new → (adds : LogStats)
        → adds ≡ with_long seen → CountsSoFar founds join now remained after old new adds
    long_counted passes waits new h adds e =
        let marks = counted_for join None h.0 in record {
          marks = s.marks ++ marks;
          counts = counts_both founds old mid new s.marks marks s.counts h.2;
          reads = reads_long never Of nothing remained was now before after s.marks seen s.reads read_failed given refl
              waits marks adds
              (λ line long. long_gives join seen _ [] long counted_in adds h.0 marks passes h.1 e refl);
        }

    pub long_ends : {T : Type 0} → is_stopped join.bad ≡ true
        → CountsLog founds {T = T} (Err faults.Length) join remained read_failed old mid seen
    long_ends stops = record {
      marks = s.marks ++ [];
      counts = tt;
      reads = reads_last_long never Of nothing remained was now before after s.marks seen s.reads read_failed given refl
          faults.Length [] seen tt
          (λ line long. long_refused join seen _ [] long counted_in stops);
    }
