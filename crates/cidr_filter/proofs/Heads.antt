-- What is printed before a line.
use Rattle.cidr_filter.proofs.Words.{◌≡◌, ℕ, ◌-◌, ◌^◌, ◌<◌, Bool, List, [], ◌∷◌, ◌++◌, ◌==◌, ◌∙◌, true, false, refl, sym, ap, length, min, decimal, arith, true≢false, ne_eqb, behind_name, name_head, number_head, count_line, Filter, Spelled, is_printed, text_of}

pub no_head : (nul : Bool) (name : List ℕ) → (length name == 0) ≡ true → [] ≡ name_head nul name
no_head nul [] e = refl
no_head nul (byte ∷ name) e = absurd (true≢false (sym e ∙ ne_eqb (length (byte ∷ name)) 0 (λ h. omega (arith, h))))

pub some_head : (nul : Bool) (name : List ℕ) → (length name == 0) ≡ false
    → name ++ behind_name nul 58 ∷ [] ≡ name_head nul name
some_head nul [] e = absurd (true≢false e)
some_head nul (byte ∷ name) e = refl

pub no_number : (numbered : Bool) (number : ℕ) → numbered ≡ false → [] ≡ number_head numbered number
no_number numbered number e = sym (ap (λ (b : Bool). number_head b number) e)

pub some_number : (numbered : Bool) (number : ℕ) → numbered ≡ true → number < 2 ^ 64
    → decimal number ++ 58 ∷ [] ≡ number_head numbered number
some_number numbered number e fits =
    let same : number ≡ min number (2 ^ 64 - 1) = omega (arith, fits) in
    ap (λ (n : ℕ). decimal n ++ 58 ∷ []) same ∙ sym (ap (λ (b : Bool). number_head b number) e)

pub some_count : (counts nul : Bool) (label : List ℕ) (selected : ℕ) → counts ≡ true → selected < 2 ^ 64
    → name_head nul label ++ (decimal selected ++ 10 ∷ []) ≡ count_line counts nul label selected
some_count counts nul label selected e fits =
    let same : selected ≡ min selected (2 ^ 64 - 1) = omega (arith, fits) in
    ap (λ (n : ℕ). name_head nul label ++ (decimal n ++ 10 ∷ [])) same
    ∙ sym (ap (λ (b : Bool). count_line b nul label selected) e)

-- nothing is printed for what is not
pub no_text : (filter : Filter) (head : List ℕ) (found : Spelled) → is_printed filter found ≡ false
    → [] ≡ text_of filter head found
no_text filter head found none = rw (none)
