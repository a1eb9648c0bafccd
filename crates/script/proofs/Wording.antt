-- The words of a line, one after another.
use Rattle.std.proofs.Common.{◌≡◌, ℕ, zero, suc, true, false, cond, eqb, ◌⊎◌, List, [], ◌∷◌, ◌++◌, Some, sym, refl, ap, ◌∙◌, subst, inl, inr, arith}
use Rattle.std.proofs.lemmas.Bool.{both_ways, cases_Bool, eq-eqb, eqb-true}
use Rattle.script.specs.Lines.{begun}
use Rattle.script.proofs.Parting.{free_head, free_tail, not_mark}
use Rattle.script.specs.Parts.{Free, Parts}
use Rattle.script.specs.Words.{Spaceless, Worded, spaced, words}

spaced_word : (front behind : List ℕ) → Free 32 front → words (front ++ (32 ∷ behind)) ≡ front ∷ words behind
spaced_word [] behind f = refl
spaced_word (b ∷ bs) behind f = rw (not_mark b 32 (free_head 32 b bs f)) (ap (begun b) (spaced_word bs behind (free_tail 32 b bs f)))

-- no space leaves one word
pub last_word : (front : List ℕ) → Free 32 front → words front ≡ front ∷ []
last_word [] f = refl
last_word (b ∷ bs) f = rw (not_mark b 32 (free_head 32 b bs f)) (ap (begun b) (last_word bs (free_tail 32 b bs f)))

-- the first word, and then those behind it
pub words_first : (line front behind : List ℕ) → Parts 32 line front (Some behind) → words line ≡ front ∷ words behind
words_first line front behind p = ap words p.whole ∙ spaced_word front behind p.free

begun_some : (b : ℕ) (ls : List (List ℕ)) → (w : List ℕ) × (ws : List (List ℕ)) × (begun b ls ≡ w ∷ ws)
begun_some b [] = (b ∷ [], [], refl)
begun_some b (l ∷ ls) = (b ∷ l, ls, refl)

-- a line has a word at least
pub words_some : (line : List ℕ) → (w : List ℕ) × (ws : List (List ℕ)) × (words line ≡ w ∷ ws)
words_some [] = ([], [], refl)
words_some (b ∷ bs) = elim (eqb b 32) as (λ v. (w : List ℕ) × (ws : List (List ℕ)) × (cond v ([] ∷ words bs) (begun b (words bs)) ≡ w ∷ ws)) [ true ↦ ([], words bs, refl) | false ↦ begun_some b (words bs) ]

cases_space : (b : ℕ) → (b ≡ 32) ⊎ (b ≡ 32 → ⊥)
cases_space b = elim (cases_Bool (eqb b 32)) [ inl e ↦ inl (eqb-true b 32 e) | inr e ↦ inr (λ h. both_ways (eqb b 32) e (eq-eqb b 32 h)) ]

free_none : Free 32 []
free_none k h = absurd (omega arith)

free_more : (b : ℕ) (w : List ℕ) → (b ≡ 32 → ⊥) → Free 32 w → Free 32 (b ∷ w)
free_more b w n f zero h = n
free_more b w n f (suc k) h = f k (omega arith)

-- a space begins a new word
space_first : (b : ℕ) (bs : List ℕ) → b ≡ 32 → words (b ∷ bs) ≡ [] ∷ words bs
space_first b bs e = rw (eq-eqb b 32 e) refl

-- any other byte belongs to the first word
byte_first : (b : ℕ) (bs : List ℕ) → (b ≡ 32 → ⊥) → words (b ∷ bs) ≡ begun b (words bs)
byte_first b bs n = rw (not_mark b 32 n) refl

spaced_first : (ws : List (List ℕ)) (w : List ℕ) (us : List (List ℕ)) → ws ≡ w ∷ us → spaced ([] ∷ ws) ≡ 32 ∷ spaced ws
spaced_first ws w us e = subst (λ (t : List (List ℕ)). spaced ([] ∷ t) ≡ 32 ∷ spaced t) (sym e) refl

spaced_begun : (b : ℕ) (ws : List (List ℕ)) (w : List ℕ) (us : List (List ℕ)) → ws ≡ w ∷ us → spaced (begun b ws) ≡ b ∷ spaced ws
spaced_begun b ws w us e = subst (λ (t : List (List ℕ)). spaced (begun b t) ≡ b ∷ spaced t) (sym e) refl

spaceless_begun : (b : ℕ) (ws : List (List ℕ)) → (b ≡ 32 → ⊥) → Spaceless ws → Spaceless (begun b ws)
spaceless_begun b [] n h = (free_more b [] n free_none, tt)
spaceless_begun b (w ∷ ws) n h = (free_more b w n h.0, h.1)

joined_back : (line : List ℕ) → spaced (words line) ≡ line
joined_back [] = refl
joined_back (b ∷ bs) =
    let s = words_some bs in
    elim (cases_space b) [
      | inl e ↦ ap spaced (space_first b bs e) ∙ spaced_first (words bs) s.0 s.1 s.2 ∙ ap (λ (t : List ℕ). 32 ∷ t) (joined_back bs) ∙ ap (λ (c : ℕ). c ∷ bs) (sym e)
      | inr n ↦ ap spaced (byte_first b bs n) ∙ spaced_begun b (words bs) s.0 s.1 s.2 ∙ ap (λ (t : List ℕ). b ∷ t) (joined_back bs)
    ]

spaceless_words : (line : List ℕ) → Spaceless (words line)
spaceless_words [] = (free_none, tt)
spaceless_words (b ∷ bs) = elim (cases_space b) [
  | inl e ↦ subst Spaceless (sym (space_first b bs e)) (free_none, spaceless_words bs)
  | inr n ↦ subst Spaceless (sym (byte_first b bs n)) (spaceless_begun b (words bs) n (spaceless_words bs))
]

-- joined by single spaces the words are the line again, and none has a space
pub worded : (line : List ℕ) → Worded line
worded line = record { joined = joined_back line; parted = spaceless_words line }
