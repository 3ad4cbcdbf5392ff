-- The octets of segments, from the address that they make up.
use Rattle.ipnetwork_addr.proofs.Words.{◌≡◌, ℕ, zero, suc, ◌+◌, ◌*◌, ◌/◌, ◌%◌, ◌^◌, ◌<◌, List, [], ◌∷◌, ◌++◌, take, get_or, refl, sym, ap, ◌∙◌, arith, lit<, le_bytes, byte_at, bytes_low_first, div-div-eq-div-mul, number_more, take_all, div-mul-add, pow-add, digits_in, octets_of_v6, number_of_segments, AreSegments}

-- the octets above a segment are those of the number before it
octet_before : (n d i : ℕ) → d < 65536 → byte_at (suc (suc i)) (n * 65536 + d) ≡ byte_at i n
octet_before n d zero h = ap (λ q. q % 256) (div-mul-add n 65536 d h)
octet_before n d (suc i) h =
    let three : suc (suc (suc i)) ≡ 2 + suc i = omega arith in
    let power : 256 ^ suc (suc (suc i)) ≡ 65536 * 256 ^ suc i = ap (λ k. 256 ^ k) three ∙ pow-add 256 2 (suc i) in
    ap (λ p. (n * 65536 + d) / p % 256) power ∙ ap (λ q. q % 256) (sym
    (div-div-eq-div-mul (n * 65536 + d) 65536 (256 ^ suc i)) ∙ ap (λ q. q / 256 ^ suc i) (div-mul-add n 65536 d h))

octets_before : (n d i count : ℕ) → d < 65536
    → bytes_low_first (suc (suc i)) count (n * 65536 + d) ≡ bytes_low_first i count n
octets_before n d i zero h = refl
octets_before n d i (suc count) h =
    ap (λ b. b ∷ bytes_low_first (suc (suc (suc i))) count (n * 65536 + d)) (octet_before n d i h)
    ∙ ap (λ bs. byte_at i n ∷ bs) (octets_before n d (suc i) count h)

-- the octets of a number are those of its last segment and of the number before it
segment_octets : (n d count : ℕ) → d < 65536 → bytes_low_first 0 (suc (suc count)) (n * 65536 + d) ≡ d % 256 ∷ d / 256
    ∷ bytes_low_first 0 count n
segment_octets n d count h =
    let low : (n * 65536 + d) % 256 ≡ d % 256 = omega arith in
    let high : (n * 65536 + d) / 256 % 256 ≡ d / 256 = omega arith in
    ap (λ b. b ∷ (n * 65536 + d) / 256 % 256 ∷ bytes_low_first 2 count (n * 65536 + d)) low
    ∙ ap (λ b. d % 256 ∷ b ∷ bytes_low_first 2 count (n * 65536 + d)) high
    ∙ ap (λ bs. d % 256 ∷ d / 256 ∷ bs) (octets_before n d 0 count h)

-- the octets of eight segments, one segment at a time from the last
by_segments : (octets : ℕ → ℕ → List ℕ) (pair : ℕ → List ℕ → List ℕ)
    → ((n d count : ℕ) → d < 65536 → octets (suc (suc count)) (n * 65536 + d) ≡ pair d (octets count n))
    → (xs : List ℕ) → AreSegments xs
    → octets 16 (number_of_segments xs)
    ≡ pair (get_or xs 7 0) (pair (get_or xs 6 0)
    (pair (get_or xs 5 0) (pair (get_or xs 4 0) (pair (get_or xs 3 0) (pair (get_or xs 2 0)
    (pair (get_or xs 1 0) (pair (get_or xs 0 0) (octets 0 (number_of_segments (take 0 xs))))))))))
by_segments octets pair one xs h =
    ap (λ l. octets 16 (number_of_segments l)) (sym (take_all 8 xs (omega (arith, h.eight))))
    ∙ last 7 14 (lit< tt)
    ∙ ap (pair (get_or xs 7 0)) (last 6 12 (lit< tt)
    ∙ ap (pair (get_or xs 6 0)) (last 5 10 (lit< tt)
    ∙ ap (pair (get_or xs 5 0)) (last 4 8 (lit< tt)
    ∙ ap (pair (get_or xs 4 0)) (last 3 6 (lit< tt)
    ∙ ap (pair (get_or xs 3 0)) (last 2 4 (lit< tt)
    ∙ ap (pair (get_or xs 2 0)) (last 1 2 (lit< tt)
    ∙ ap (pair (get_or xs 1 0)) (last 0 0 (lit< tt))))))))
  where
    last : (count bytes : ℕ) → count < 8 → octets (suc (suc bytes)) (number_of_segments (take (count + 1) xs)) ≡ pair
        (get_or xs count 0) (octets bytes (number_of_segments (take count xs)))
    last count bytes within =
        ap (octets (suc (suc bytes))) (number_more 65536 xs count (omega (arith, h.eight)))
        ∙ one (number_of_segments (take count xs)) (get_or xs count 0) bytes (h.each count)

pub segments_octets : (xs : List ℕ) → AreSegments xs
    → get_or xs 7 0 % 256 ∷ get_or xs 7 0 / 256 ∷ get_or xs 6 0 % 256 ∷ get_or xs 6 0 / 256 ∷ get_or xs 5 0 % 256
    ∷ get_or xs 5 0 / 256 ∷ get_or xs 4 0 % 256 ∷ get_or xs 4 0 / 256
    ∷ get_or xs 3 0 % 256 ∷ get_or xs 3 0 / 256 ∷ get_or xs 2 0 % 256 ∷ get_or xs 2 0 / 256 ∷ get_or xs 1 0 % 256
    ∷ get_or xs 1 0 / 256 ∷ get_or xs 0 0 % 256 ∷ get_or xs 0 0 / 256 ∷ []
    ≡ le_bytes 16 (number_of_segments xs)
unfolding le_bytes
segments_octets xs h = sym (by_segments (bytes_low_first 0) (λ d bs. d % 256 ∷ d / 256 ∷ bs) segment_octets xs h)

-- ---- highest octet first

-- the last two digits are the octets of the last segment
digits_of_segment : (n d count : ℕ) → d < 65536
    → digits_in 256 (suc (suc count)) (n * 65536 + d) ≡ (digits_in 256 count n ++ d / 256 ∷ []) ++ d % 256 ∷ []
digits_of_segment n d count h =
    let low : (n * 65536 + d) % 256 ≡ d % 256 = omega arith in
    let high : (n * 65536 + d) / 256 % 256 ≡ d / 256 = omega arith in
    let front : (n * 65536 + d) / 256 / 256 ≡ n = omega arith in
    ap (λ m. (digits_in 256 count m ++ (n * 65536 + d) / 256 % 256 ∷ []) ++ (n * 65536 + d) % 256 ∷ []) front
    ∙ ap (λ b. (digits_in 256 count n ++ b ∷ []) ++ (n * 65536 + d) % 256 ∷ []) high
    ∙ ap (λ b. (digits_in 256 count n ++ d / 256 ∷ []) ++ b ∷ []) low

pub segments_octets_high : (xs : List ℕ) → AreSegments xs
    → get_or xs 0 0 / 256 ∷ get_or xs 0 0 % 256 ∷ get_or xs 1 0 / 256 ∷ get_or xs 1 0 % 256 ∷ get_or xs 2 0 / 256
    ∷ get_or xs 2 0 % 256 ∷ get_or xs 3 0 / 256 ∷ get_or xs 3 0 % 256
    ∷ get_or xs 4 0 / 256 ∷ get_or xs 4 0 % 256 ∷ get_or xs 5 0 / 256 ∷ get_or xs 5 0 % 256 ∷ get_or xs 6 0 / 256
    ∷ get_or xs 6 0 % 256 ∷ get_or xs 7 0 / 256 ∷ get_or xs 7 0 % 256 ∷ []
    ≡ octets_of_v6 (number_of_segments xs)
segments_octets_high xs h =
    sym (by_segments (digits_in 256) (λ d bs. (bs ++ d / 256 ∷ []) ++ d % 256 ∷ []) digits_of_segment xs h)
