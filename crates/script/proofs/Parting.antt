-- Texts that are free of a mark.
use Rattle.std.proofs.Common.{◌≡◌, ℕ, zero, suc, Bool, true, false, not, ◌&&◌, eqb, List, [], ◌∷◌, ◌++◌, refl, arith, rules}
use Rattle.std.proofs.lemmas.Bool.{both_ways, eq-eqb, false≢true}
use Rattle.script.specs.Parts.{Free}

pub not_mark : (b mark : ℕ) → (b ≡ mark → ⊥) → eqb b mark ≡ false
not_mark b mark h = search rules

pub free_tail : (mark b : ℕ) (bs : List ℕ) → Free mark (b ∷ bs) → Free mark bs
free_tail mark b bs f k h = f (suc k) (omega arith)

pub free_head : (mark b : ℕ) (bs : List ℕ) → Free mark (b ∷ bs) → b ≡ mark → ⊥
free_head mark b bs f = f 0 (omega arith)

-- whether a text lacks the mark, for texts that are written out
abbrev pub lacks : ℕ → List ℕ → Bool
lacks mark [] = true
lacks mark (b ∷ bs) = not (eqb b mark) && lacks mark bs

not_met : (a b : Bool) → (not a && b) ≡ true → (a ≡ false) × (b ≡ true)
not_met true b h = absurd (false≢true h)
not_met false b h = (refl, h)

pub free_from_lacks : (mark : ℕ) (text : List ℕ) → lacks mark text ≡ true → Free mark text
free_from_lacks mark [] h k lt = absurd (omega arith)
free_from_lacks mark (b ∷ bs) h zero lt = λ e. both_ways (eqb b mark) (not_met (eqb b mark) (lacks mark bs) h).0 (eq-eqb b mark e)
free_from_lacks mark (b ∷ bs) h (suc k) lt = free_from_lacks mark bs (not_met (eqb b mark) (lacks mark bs) h).1 k (omega arith)

pub not_free : (mark : ℕ) (f r : List ℕ) → Free mark (f ++ (mark ∷ r)) → ⊥
not_free mark [] r h = h 0 (omega arith) refl
not_free mark (b ∷ bs) r h = not_free mark bs r (free_tail mark b (bs ++ (mark ∷ r)) h)

-- a text has one front before its first mark
pub one_front : (mark : ℕ) (f g r s : List ℕ) → Free mark f → Free mark g → f ++ (mark ∷ r) ≡ g ++ (mark ∷ s) → f ≡ g
one_front mark [] [] r s hf hg e = refl
one_front mark [] (c ∷ cs) r s hf hg e = absurd (free_head mark c cs hg cc)
one_front mark (b ∷ bs) [] r s hf hg e = absurd (free_head mark b bs hf cc)
one_front mark (b ∷ bs) (c ∷ cs) r s hf hg e =
    let h : b ≡ c = cc in
    let t : bs ++ (mark ∷ r) ≡ cs ++ (mark ∷ s) = cc in
    let q : bs ≡ cs = one_front mark bs cs r s (free_tail mark b bs hf) (free_tail mark c cs hg) t in
    cc
