use Rattle.std.proofs.Common.{◌≡◌, ℕ, ◌+◌, ◌-◌, ◌%◌, ◌<◌, ◌≤◌, true, false, List, length, get_or, take, drop, sym, ap, ◌∙◌, subst, arith, rules, tests}
use Rattle.std.proofs.lemmas.Iterator.{YieldsList-from_slice, IsFirst-from_position}
use Rattle.std.proofs.lemmas.List.{take_rest, drop-drop}
use Rattle.rows.specs.Rows.{hex_digit}
use Rattle.rows.specs.Fields.{HexField}
use Rattle.rows.specs.Grammar.{FrontOf}
use Rattle.rows.proofs.Lists.{here}
use Rattle.rows.proofs.Damages.{stuck_at}
use Rattle.rows.proofs.HexLaws.{SoFar, stuck, run, done}
use Rattle.rows.proofs.hex.read_hex.Goals as goal
use Rattle.rows.proofs.hex.read_hex.Goals.{After-unwrap_or, in_default-via-then-rest-lt1, in_default-via-in-len1-up+then-b-end+else-digits-eq0, in_default-via-in-len1-up+else-b-end}

-- the digits that were found, and what stands behind them
digits : (c : After-unwrap_or) → (c.unwrap_or.result ≤ length c.args.text.now) × SoFar c.args.most (take c.unwrap_or.result c.args.text.now) × (c.unwrap_or.result < length c.args.text.now → hex_digit (get_or c.args.text.now c.unwrap_or.result 0) ≡ true → c.unwrap_or.result < c.args.most → ⊥)
digits c =
    let field = take c.min.result c.args.text.now in
    let first = IsFirst-from_position _ _ c.position-ends.result (λ b. hex_digit b ≡ false) (λ b. hex_digit b ≡ true) c.position-ends.ensures.ran (YieldsList-from_slice field cc) (λ x q k. search (rules, tests)) (λ x q k. search (rules, tests)) in
    run c.args.most c.args.text.now field c.position-ends.result c.unwrap_or.result (ap (λ n. take n c.args.text.now) c.min.ensures) first c.unwrap_or.ensures

pub returns-in-len1-up : goal.returns-in-len1-up
returns-in-len1-up c =
    let t = c.args.text.now in
    let u = c.unwrap_or.result in
    let so = digits (goal.at.returns-in-len1-up c).After-unwrap_or in
    let at : get_or c.split_at.result.1.now 0 0 ≡ get_or t u 0 = ap (λ l. get_or l 0 0) c.split_at.ensures.back ∙ here t u in
    let lt : u < length t = omega (arith, c.split_at.ensures.back_len, c.in-len1-up.len_at_least) in
    let f = done c.args.most c.args.end c.requires.even c.requires.mark t u so.1 so.0 lt (sym (ap (λ n. n % 2) c.split_at.ensures.front_len) ∙ c.if-digits-eq0.true) (sym at ∙ c.if-b-end.true) in
    let back : take (length c.split_at.result.1.now - 1) (drop 1 c.split_at.result.1.now) ≡ drop (u + 1) t = take_rest c.split_at.result.1.now 1 ∙ ap (drop 1) c.split_at.ensures.back ∙ drop-drop 1 u t in
    subst (λ (h : List ℕ). FrontOf (HexField c.args.most c.args.end) t h (take (length c.split_at.result.1.now - 1) (drop 1 c.split_at.result.1.now))) (sym c.split_at.ensures.front)
    (subst (λ (r : List ℕ). FrontOf (HexField c.args.most c.args.end) t (take u t) r) (sym back) f)

pub returns-in_default : goal.returns-in_default
returns-in_default c =
    let so = digits (goal.at.returns-in_default c).After-unwrap_or in
    let at : get_or c.split_at.result.1.now 0 0 ≡ get_or c.args.text.now c.unwrap_or.result 0 = ap (λ l. get_or l 0 0) c.split_at.ensures.back ∙ here c.args.text.now c.unwrap_or.result in
    stuck_at _ _ _ _ c.split_at.ensures.back_len (stuck _ _ c.requires.even c.requires.mark _ c.unwrap_or.result so.1 so.0
    (λ lt e pairs. elim c.in_default.branch [
      | in_default-via-then-rest-lt1 w ↦ grind (arith, c.split_at.ensures.back_len)
      | in_default-via-in-len1-up+then-b-end+else-digits-eq0 w ↦ w.if-digits-eq0.false (ap (λ n. n % 2) c.split_at.ensures.front_len ∙ pairs)
      | in_default-via-in-len1-up+else-b-end w ↦ w.if-b-end.false (at ∙ e)
    ])
    so.2)
