-- What a line requests if it is too long, and if it is not.
use Rattle.cidr.proofs.Words.{◌≡◌, ℕ, ◌<◌, ◌≤◌, List, length, cond, ap, lt-ltb, le-ltb, too_long, request_in, request_of, words}

pub request_long : (l : List ℕ) → 1024 < length l → request_of l ≡ too_long
unfolding request_of
request_long l h = ap (λ v. cond v too_long (request_in (words l))) (lt-ltb 1024 (length l) h)

pub request_short : (l : List ℕ) → length l ≤ 1024 → request_of l ≡ request_in (words l)
unfolding request_of
request_short l h = ap (λ v. cond v too_long (request_in (words l))) (le-ltb 1024 (length l) h)
