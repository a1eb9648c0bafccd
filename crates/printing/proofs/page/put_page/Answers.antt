use Rattle.std.proofs.Common.{◌≡◌, ℕ, ◌+◌, ◌<◌, Bool, eqb, List, ◌++◌, length, get_or, drop, OnOk, vec_items, sym, ap, ◌∙◌, subst, append_assoc, arith}
use Rattle.std.proofs.lemmas.List.{at_drop_more, at_drop_all}
use Rattle.printing.specs.Pages.{begun, paged, printed}
use Rattle.printing.proofs.page.put_page.Goals as goal

-- one byte more
next : (before mid now all text : List ℕ) (fresh : Bool) (i : ℕ) → i < length text → mid ≡ before ++ begun fresh → now ≡ mid ++ printed (get_or text i 0) → before ++ paged fresh (drop i text) ≡ all → now ++ paged (eqb (get_or text i 0) 10) (drop (i + 1) text) ≡ all
next before mid now all text fresh i lt m e inv =
    let b = get_or text i 0 in
    let rest = paged (eqb b 10) (drop (i + 1) text) in
    ap (λ l. l ++ rest) (e ∙ ap (λ l. l ++ printed b) m) ∙ append_assoc (before ++ begun fresh) (printed b) rest ∙ append_assoc before (begun fresh) (printed b ++ rest)
    ∙ ap (λ l. before ++ l) (sym (at_drop_more (paged fresh) text i 0 lt)) ∙ inv

pub loop-b-preserved : goal.loop-b-preserved
loop-b-preserved c = next _ _ _ _ c.args.text.now c.loop-b.fresh c.loop-b.b-index (omega arith) c.in_ok-put_margin.ensures c.in_ok-put_byte.ensures c.loop-b.invariant

pub returns : goal.returns
returns c =
    let whole = ap (λ l. vec_items c.loop-b.out ++ l) (sym (at_drop_all (paged c.loop-b.fresh) c.args.text.now c.loop-b.b-index (omega arith))) ∙ c.loop-b.invariant in
    subst (λ l. OnOk c.put_end.result (vec_items c.put_end.new.out ≡ l)) whole c.put_end.ensures
