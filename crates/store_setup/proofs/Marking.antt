-- Words read as marks one by one.
use Rattle.std.proofs.Common.{◌≡◌, ℕ, List, [], ◌∷◌, ◌++◌, sym, refl, subst, inr, append_assoc, append-nil}
use Rattle.store.specs.declared.marks.Mark.{Mark}
use Rattle.store_setup.specs.Marks.{mark_word, MarksAre, NoMark}

-- what the words say, once what is left of them is known
pub record SoFar (ws : List (List ℕ)) (ms : List Mark) (left : List (List ℕ)) : Type 0 where
  pub whole : (more : List Mark) → MarksAre left more → MarksAre ws (ms ++ more)
  pub fault : NoMark left → NoMark ws

pub begin : (ws : List (List ℕ)) → SoFar ws [] ws
begin ws = record { whole = λ more h. h; fault = λ h. h }

pub mark_more : (ws left : List (List ℕ)) (ms : List Mark) (w : List ℕ) (m : Mark) → w ≡ mark_word m → SoFar ws ms (w ∷ left) → SoFar ws (ms ++ (m ∷ [])) left
mark_more ws left ms w m e s =
    record {
      whole = λ more h. subst (MarksAre ws) (sym (append_assoc ms (m ∷ []) more)) (s.whole (m ∷ more) (e, h));
      fault = λ h. s.fault (inr h);
    }

pub mark_end : (ws : List (List ℕ)) (ms : List Mark) → SoFar ws ms [] → MarksAre ws ms
mark_end ws ms s = subst (MarksAre ws) (append-nil ms) (s.whole [] refl)
