-- The lines that a script's reader takes, one after another.
use Rattle.std.proofs.Common.{◌≡◌, ℕ, ◌+◌, ◌-◌, ◌<◌, ◌≤◌, true, false, ◌⊎◌, List, [], ◌∷◌, ◌++◌, length, take, drop, sym, refl, ap, ◌∙◌, subst, inl, inr, ⊎_elim, append_assoc, append-nil, add-one, arith}
use Rattle.std.proofs.lemmas.List.{length-append, length_push, take_at}
use Rattle.script.specs.declared.script.Script.{Script}
use Rattle.script.specs.Lines.{Line, Plain, Stop, ended, idle, idles}
use Rattle.script.specs.Scripts.{Body, left, line, rest}
use Rattle.script.proofs.Lining.{lines_first}

-- an idle line is passed
pub passed : (ls more : List (List ℕ)) (l : List ℕ) → ls ≡ l ∷ more → idle l ≡ true → (drop (idles ls) ls ≡ drop (idles more) more) × (idles ls ≡ idles more + 1)
passed ls more l e i =
    let P : List (List ℕ) → Type 0 = λ t. (drop (idles t) t ≡ drop (idles more) more) × (idles t ≡ idles more + 1) in
    subst P (sym e) (rw i (refl, sym (add-one (idles more))))

-- any other is found
pub found : (ls more : List (List ℕ)) (l : List ℕ) → ls ≡ l ∷ more → idle l ≡ false → (drop (idles ls) ls ≡ l ∷ more) × (idles ls ≡ 0)
found ls more l e i =
    let P : List (List ℕ) → Type 0 = λ t. (drop (idles t) t ≡ l ∷ more) × (idles t ≡ 0) in
    subst P (sym e) (rw i (refl, refl))

-- the lines that were taken of a text, from s to t
pub record Begun (s t : Script) (long : ℕ) : Type 0 where
  pub front : List ℕ
  pub body : List (List ℕ)
  pub split : rest s ≡ front ++ rest t
  pub size : long ≡ length front
  pub cut : left s ≡ body ++ left t
  pub plain : Plain body
  pub whole : (rest t ≡ []) ⊎ (front ≡ ended body)
  pub count : line t ≡ line s + length body

pub body_none : (s : Script) → Begun s s 0
body_none s = record { front = []; body = []; split = refl; size = refl; cut = refl; plain = tt; whole = inr refl; count = omega arith }

plain_push : (ls : List (List ℕ)) (l : List ℕ) → Plain ls → (Stop l → ⊥) → Plain (ls ++ l ∷ [])
plain_push [] l p h = (h, tt)
plain_push (x ∷ xs) l p h = (p.0, plain_push xs l p.1 h)

ended_push : (ls : List (List ℕ)) (l : List ℕ) → ended (ls ++ l ∷ []) ≡ ended ls ++ (l ++ (10 ∷ []))
ended_push [] l = refl
ended_push (x ∷ xs) l = ap (λ (t : List ℕ). x ++ (10 ∷ t)) (ended_push xs l) ∙ sym (append_assoc x (10 ∷ ended xs) (l ++ (10 ∷ [])))

-- a line that is about to be taken has the lines before it ended
before : (s t : Script) (long : ℕ) (b : Begun s t long) → 0 < length (rest t) → b.front ≡ ended b.body
before s t long b some = ⊎_elim (λ e. absurd (omega (arith, some, ap length e))) (λ e. e) b.whole

pub body_more : (s t u : Script) (long : ℕ) (l : List ℕ) → Begun s t long → Line (rest t) l (rest u) → line u ≡ line t + 1 → (Stop l → ⊥) → Begun s u (length (rest s) - length (rest u))
body_more s t u long l b n c h =
    let front = before s t long b n.some in
    let cut : left s ≡ (b.body ++ l ∷ []) ++ left u = b.cut ∙ ap (λ (ls : List (List ℕ)). b.body ++ ls) (lines_first (rest t) l (rest u) n) ∙ sym (append_assoc b.body (l ∷ []) (left u)) in
    let count : line u ≡ line s + length (b.body ++ l ∷ []) = omega (arith, c, b.count, length_push b.body l) in
    ⊎_elim
    (λ e.
    let split : rest s ≡ (b.front ++ (l ++ (10 ∷ []))) ++ rest u = b.split ∙ ap (λ (r : List ℕ). b.front ++ r) (e ∙ sym (append_assoc l (10 ∷ []) (rest u))) ∙ sym (append_assoc b.front (l ++ (10 ∷ [])) (rest u)) in
    record {
      front = b.front ++ (l ++ (10 ∷ []));
      body = b.body ++ l ∷ [];
      split = split;
      size = omega (arith, ap length split, length-append (b.front ++ (l ++ (10 ∷ []))) (rest u));
      cut = cut;
      plain = plain_push b.body l b.plain h;
      whole = inr (ap (λ (r : List ℕ). r ++ (l ++ (10 ∷ []))) front ∙ sym (ended_push b.body l));
      count = count;
    })
    (λ e.
    let split : rest s ≡ (b.front ++ rest t) ++ rest u = b.split ∙ sym (append-nil (b.front ++ rest t)) ∙ ap (λ (r : List ℕ). (b.front ++ rest t) ++ r) (sym e.1) in
    record {
      front = b.front ++ rest t;
      body = b.body ++ l ∷ [];
      split = split;
      size = omega (arith, ap length split, length-append (b.front ++ rest t) (rest u));
      cut = cut;
      plain = plain_push b.body l b.plain h;
      whole = inl e.1;
      count = count;
    })
    n.whole

-- the lone dot ends the text
pub body_ends : (s t u : Script) (long : ℕ) (l : List ℕ) → Begun s t long → Line (rest t) l (rest u) → line u ≡ line t + 1 → Stop l → Body s (take (long - 0) (rest s)) u
body_ends s t u long l b n c stop =
    let z : long - 0 ≡ length b.front = omega (arith, b.size) in
    record {
      body = b.body;
      cut = b.cut ∙ ap (λ (ls : List (List ℕ)). b.body ++ ls) (lines_first (rest t) l (rest u) n ∙ ap (λ (d : List ℕ). d ∷ left u) stop);
      plain = b.plain;
      whole = ap (take (long - 0)) b.split ∙ take_at b.front (rest t) (long - 0) (sym z) ∙ before s t long b n.some;
      count = omega (arith, c, b.count);
    }

-- what was taken lies within the text
pub body_within : (s t : Script) (long : ℕ) → Begun s t long → (long ≤ length (rest s)) × (length (rest t) ≤ length (rest s))
body_within s t long b =
    let sum = ap length b.split ∙ length-append b.front (rest t) in
    (omega (arith, b.size, sum), omega (arith, sum))
