use Rattle.std.proofs.Common.{◌≡◌, ℤ, Ok, sym, ap, ◌∙◌, w64, to_z, of_z}
use borrow.Author.Rules.{sfits_of}
use Rattle.std.specs.Fmt.{signed_decimal}
use Rattle.std.proofs.lemmas.Int.{to_z-of_z}
use Rattle.std.proofs.lemmas.Bool.{false≢true}
use Rattle.std.proofs.lemmas.Bool.Decides.{Decides-eqb}
use Rattle.std.proofs.lemmas.Slice.Eq.{slice_eq-Decides}
use Rattle.setups.proofs.Ticks.{is_text, read_back}
use Rattle.setups.proofs.records.tick_of.Goals as goal

pub returns-in_default : goal.returns-in_default
returns-in_default c z small e = c.in_default.ensures.cases.0 (is_text _ z small e)

pub returns-in_default-from_str_radix : goal.returns-in_default-from_str_radix
returns-in_default-from_str_radix c z small e = c.in_default-from_str_radix.not-Ok z (read_back _ _ z _ small c.in-Ok.ensures.cases.0 e c.from_str_radix.ensures.value)

pub returns-then-eq : goal.returns-then-eq
returns-then-eq c =
    let equal = slice_eq-Decides Decides-eqb _ _ _ c.eq.ensures in
    sym (equal.0 c.if-eq.true) ∙ c.as_bytes.ensures.value ∙ c.in_ok-printed.ensures.ok

pub returns : goal.returns
returns c z small e =
    let tick = c.in-Ok-from_str_radix.tick in
    let r = read_back _ _ z _ small c.in-Ok.ensures.cases.0 e c.from_str_radix.ensures.value in
    let same : Ok tick ≡ Ok z = sym c.in-Ok-from_str_radix.is ∙ r in
    let is : tick ≡ z = cc in
    let back : to_z w64 (of_z w64 tick) ≡ z = ap (λ (x : ℤ). to_z w64 (of_z w64 x)) is ∙ to_z-of_z w64 z (sfits_of small) in
    let equal = slice_eq-Decides Decides-eqb _ _ _ c.eq.ensures in
    false≢true (sym c.if-eq.false ∙ equal.1 (c.as_bytes.ensures.value ∙ c.in_ok-printed.ensures.ok ∙ ap signed_decimal back ∙ sym e))
