-- The lines of a text, one after another.
use Rattle.std.proofs.Common.{◌≡◌, ℕ, ◌<◌, List, [], ◌∷◌, ◌++◌, length, sym, refl, ap, ◌∙◌, subst, ⊎_elim, arith}
use Rattle.std.proofs.lemmas.List.{length-append}
use Rattle.script.specs.Lines.{Line, lines, begun}
use Rattle.script.proofs.Parting.{free_head, free_tail, not_mark}
use Rattle.script.specs.Parts.{Free}

-- what follows a line is shorter
pub line_shorter : (text line rest : List ℕ) → Line text line rest → length rest < length text
line_shorter text line rest l =
    ⊎_elim
    (λ e. omega (arith, ap length e, length-append line (10 ∷ rest)))
    (λ h. omega (arith, l.some, ap length h.1))
    l.whole

ended_line : (line rest : List ℕ) → Free 10 line → lines (line ++ (10 ∷ rest)) ≡ line ∷ lines rest
ended_line [] rest f = refl
ended_line (b ∷ bs) rest f = rw (not_mark b 10 (free_head 10 b bs f)) (ap (begun b) (ended_line bs rest (free_tail 10 b bs f)))

last_line : (b : ℕ) (bs : List ℕ) → Free 10 (b ∷ bs) → lines (b ∷ bs) ≡ (b ∷ bs) ∷ []
last_line b [] f = rw (not_mark b 10 (free_head 10 b [] f)) refl
last_line b (c ∷ cs) f = rw (not_mark b 10 (free_head 10 b (c ∷ cs) f)) (ap (begun b) (last_line c cs (free_tail 10 b (c ∷ cs) f)))

only_line : (line : List ℕ) → 0 < length line → Free 10 line → lines line ≡ line ∷ []
only_line [] h f = absurd (omega arith)
only_line (b ∷ bs) h f = last_line b bs f

-- the first line, and then those of what follows
pub lines_first : (text line rest : List ℕ) → Line text line rest → lines text ≡ line ∷ lines rest
lines_first text line rest l =
    ⊎_elim
    (λ e. ap lines e ∙ ended_line line rest l.free)
    (λ h. ap lines h.0 ∙ only_line line (subst (λ (t : List ℕ). 0 < length t) h.0 l.some) l.free ∙ ap (λ (t : List ℕ). line ∷ lines t) (sym h.1))
    l.whole
