use Rattle.std.proofs.Common.{◌≡◌, ℕ, ◌<◌, ◌+◌, ◌≤◌, min, List, ◌++◌, length, take, IsOk, OnOk, Ok, Err, Result, sym, ap, ◌∙◌, ⊎_elim, arith, length-take}
use Rattle.std.proofs.lemmas.List.{take_all}
use Rattle.std.proofs.lemmas.Bool.{cases_lt}
use Rattle.store.proofs.script.FaultScript.new.Goals as goal

-- what is taken of a list by as many places as there are is what fits there
fits : {X : Type 0} (xs : List X) (n places : ℕ) → n ≡ min (length xs) places → take n xs ≡ take places xs
fits xs n places e =
    ⊎_elim
    (λ (l : length xs < places). take_all n xs (omega arith) ∙ sym (take_all places xs (omega arith)))
    (λ (l : places ≤ length xs). ap (λ k. take k xs) (omega arith))
    (cases_lt (length xs) places)

granted : {T E P : Type 0} (r : Result T E) → IsOk r → OnOk r P → P
granted (Ok x) k p = p
granted (Err e) k p = (let z : ◌≡◌ {A = ℕ} 0 1 = cc in absurd (omega arith))

pub returns-clause-marks : goal.returns-clause-marks
returns-clause-marks g c =
    let kept = take c.min.result c.args.marks.now in
    let short : length c.new-kept.result.items + length kept ≤ 64 = simp (c.new-kept.ensures, length-take) (omega (arith, c.min.ensures)) in
    let ok = c.try_extend_from_slice.ensures.variant.1 short in
    c.into_iter.ensures.into_iter_gives.0
    ∙ granted c.try_extend_from_slice.result ok c.try_extend_from_slice.ensures.ok
    ∙ ap (λ xs. xs ++ kept) c.new-kept.ensures
    ∙ fits c.args.marks.now c.min.result 64 c.min.ensures
