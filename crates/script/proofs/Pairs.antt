-- Bytes and their hexadecimal pairs.
use Rattle.std.proofs.Common.{◌≡◌, ℕ, ◌+◌, ◌*◌, ◌/◌, ◌%◌, ◌<◌, List, [], ◌∷◌, ◌++◌, length, get_or, sym, refl, ap, ◌∙◌, append_assoc, append-nil, arith}
use Rattle.std.proofs.lemmas.List.{length-append, nil_from_length}
use Rattle.script.specs.Hexadecimal.{digit, pairs}

pairs_push : (bs : List ℕ) (b : ℕ) → pairs (bs ++ b ∷ []) ≡ pairs bs ++ (digit (b / 16) ∷ digit (b % 16) ∷ [])
pairs_push [] b = refl
pairs_push (x ∷ xs) b = ap (λ (t : List ℕ). digit (x / 16) ∷ digit (x % 16) ∷ t) (pairs_push xs b)

length-pairs : (bs : List ℕ) → length (pairs bs) ≡ 2 * length bs
length-pairs [] = refl
length-pairs (b ∷ bs) = omega (arith, length-pairs bs)

high : (h l : ℕ) → l < 16 → (h * 16 + l) / 16 ≡ h
high h l lt = omega arith

low : (h l : ℕ) → l < 16 → (h * 16 + l) % 16 ≡ l
low h l lt = omega arith

two : (pair : List ℕ) (a b : ℕ) → length pair ≡ 2 → a ≡ get_or pair 0 0 → b ≡ get_or pair 1 0 → a ∷ b ∷ [] ≡ pair
two [] a b n ea eb = absurd (omega arith)
two (x ∷ []) a b n ea eb = absurd (omega arith)
two (x ∷ y ∷ []) a b n ea eb = cc
two (x ∷ y ∷ z ∷ zs) a b n ea eb = absurd (omega arith)

-- one byte more
pub pairs_more : (digits bs left more pair : List ℕ) (h l : ℕ) → l < 16 → digit h ≡ get_or pair 0 0 → digit l ≡ get_or pair 1 0 → length pair ≡ 2 → left ≡ pair ++ more → pairs bs ++ left ≡ digits → pairs (bs ++ (h * 16 + l) ∷ []) ++ more ≡ digits
pairs_more digits bs left more pair h l ls eh el n e whole =
    let is : digit ((h * 16 + l) / 16) ∷ digit ((h * 16 + l) % 16) ∷ [] ≡ pair = two pair _ _ n (ap digit (high h l ls) ∙ eh) (ap digit (low h l ls) ∙ el) in
    ap (λ (t : List ℕ). t ++ more) (pairs_push bs (h * 16 + l) ∙ ap (λ (t : List ℕ). pairs bs ++ t) is) ∙ append_assoc (pairs bs) pair more ∙ ap (λ (t : List ℕ). pairs bs ++ t) (sym e) ∙ whole

-- no pair is left
pub pairs_all : (digits bs left : List ℕ) → pairs bs ++ left ≡ digits → length left < 2 → length digits % 2 ≡ 0 → pairs bs ≡ digits
pairs_all digits bs left whole few even =
    let none : left ≡ [] = nil_from_length left (omega (arith, ap length whole, length-append (pairs bs) left, length-pairs bs)) in
    sym (append-nil (pairs bs)) ∙ ap (λ (t : List ℕ). pairs bs ++ t) (sym none) ∙ whole
