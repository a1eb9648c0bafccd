-- Two texts that are one: where a part of the first ends in the second.
use Rattle.std.proofs.Common.{◌≡◌, ℕ, suc, ◌+◌, ◌-◌, ◌<◌, ◌≤◌, ◌⊎◌, List, [], ◌∷◌, ◌++◌, length, get_or, take, drop, sym, refl, ap, ◌∙◌, inl, inr, add-zero, arith, length-append}
use Rattle.std.proofs.lemmas.List.{take-take, take-append-drop, drop-take, drop-drop, get_or-drop}

-- xs ends before the last byte of ys ++ c, or right before it
pub cut : (xs ys : List ℕ) (b c : ℕ) (s : List ℕ) → xs ++ (b ∷ s) ≡ ys ++ (c ∷ []) → ((xs ≡ ys) × (b ≡ c)) ⊎ ((z : List ℕ) × (ys ≡ xs ++ (b ∷ z)))
cut [] [] b c s e = inl (refl, cc)
cut [] (y ∷ ys) b c s e = inr (ys, cc)
cut (x ∷ xs) [] b c s e =
    let h : length (xs ++ (b ∷ s)) ≡ 0 = ap length {x = xs ++ (b ∷ s)} {y = []} (cc) in
    absurd (omega (arith, simp length-append at h))
cut (x ∷ xs) (y ∷ ys) b c s e =
    let f : xs ++ (b ∷ s) ≡ ys ++ (c ∷ []) = cc in
    elim (cut xs ys b c s f) [ inl h ↦ (let p = h.0 in let q = h.1 in inl (cc, q)) | inr h ↦ (let p = h.1 in inr (h.0, cc)) ]

-- of two beginnings of one text, one begins the other
pub part : (x p y s : List ℕ) → x ++ y ≡ p ++ s → ((z : List ℕ) × (x ≡ p ++ z) × (s ≡ z ++ y)) ⊎ ((z : List ℕ) × (p ≡ x ++ z) × (y ≡ z ++ s))
part [] p y s e = inr (p, refl, e)
part (a ∷ x) [] y s e = inl (a ∷ x, refl, sym e)
part (a ∷ x) (b ∷ p) y s e =
    let f : x ++ y ≡ p ++ s = cc in
    elim (part x p y s f) [ inl h ↦ (let q = h.1 in inl (h.0, cc, h.2)) | inr h ↦ (let q = h.1 in inr (h.0, cc, h.2)) ]

-- c stands nowhere in the list
abbrev pub Lacks : ℕ → List ℕ → Type 0
Lacks c [] = Unit {0}
Lacks c (x ∷ xs) = (x ≡ c → ⊥) × Lacks c xs

pub lacks_from : (c : ℕ) (xs : List ℕ) → ((i : ℕ) → i < length xs → get_or xs i 0 ≡ c → ⊥) → Lacks c xs
lacks_from c [] h = tt
lacks_from c (x ∷ xs) h = (h 0 (omega arith), lacks_from c xs (λ i lt. h (suc i) (omega arith)))

-- what ends at the first c ends at one place
pub closed : (c : ℕ) (x y s t : List ℕ) → Lacks c x → Lacks c y → (x ++ (c ∷ [])) ++ s ≡ (y ++ (c ∷ [])) ++ t → x ≡ y
closed c [] [] s t p q e = refl
closed c [] (b ∷ y) s t p q e = absurd (q.0 (cc))
closed c (a ∷ x) [] s t p q e = absurd (p.0 (cc))
closed c (a ∷ x) (b ∷ y) s t p q e =
    let f : (x ++ (c ∷ [])) ++ s ≡ (y ++ (c ∷ [])) ++ t = cc in
    let g = closed c x y s t p.1 q.1 f in
    cc

-- a longer beginning of t goes on from a shorter one
pub take_split : (t : List ℕ) (i m : ℕ) → i ≤ m → take m t ≡ take i t ++ drop i (take m t)
take_split t i m h = sym (take-append-drop i (take m t)) ∙ ap (λ l. l ++ drop i (take m t)) (take-take i m t h)

pub take_plus : (n k : ℕ) (t : List ℕ) → take (n + k) t ≡ take n t ++ take k (drop n t)
take_plus n k t = sym (take-append-drop n (take (n + k) t)) ∙ (λ i. take-take n (n + k) t (omega arith) i ++ drop-take n k t i)

pub drop_on : (t : List ℕ) (i e : ℕ) → i ≤ e → drop (e - i) (drop i t) ≡ drop e t
drop_on t i e le = let s : i + (e - i) ≡ e = omega arith in drop-drop (e - i) i t ∙ ap (λ k. drop k t) s

pub here : (t : List ℕ) (i : ℕ) → get_or (drop i t) 0 0 ≡ get_or t i 0
here t i = get_or-drop i t 0 0 ∙ ap (λ k. get_or t k 0) (add-zero i)
