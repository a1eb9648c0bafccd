use Rattle.std.proofs.Common.{◌≡◌, ◌+◌, ◌*◌, ◌%◌, true, ◌++◌, length, take, drop, is_ok, vec_items, vec_len, sym, ap, ◌∙◌, arith, length-append}
use Rattle.rows.specs.Sizes.{weight}
use Rattle.std.proofs.lemmas.List.{append_assoc}
use Rattle.std.proofs.lemmas.Bool.{cond-true}
use Rattle.rows.specs.Rows.{room, digits_of}
use Rattle.rows.specs.Entries.{row_of}
use Rattle.tables.proofs.Texts.{digits_twice, key_new, value_new}
use Rattle.tables.proofs.arena.store.Goals as goal

pub returns : goal.returns
returns c =
    let row = c.args.row in
    let v = c.args.text.now in
    let a = c.extend_from_slice.new.self in
    let b = c.extend_from_slice-2.new.self in
    let key = row.key.now in
    let value = digits_of row.value in
    let is : c.digits-digits.result.now ≡ value = c.digits-digits.ensures in
    let lv : length c.digits-digits.result.now ≡ length value = ap length is in
    let both : length key + length value ≡ 2 * weight (row_of row) = sym (length-append key value) ∙ digits_twice row in
    let ok : is_ok c.extend_from_slice.result ≡ true = c.extend_from_slice.ensures.succeeds (omega (arith, c.requires)) in
    let la : vec_len a ≡ vec_len v + length key = c.extend_from_slice.ensures.len ∙ cond-true _ _ _ ok in
    let ia : vec_items a ≡ vec_items v ++ key = c.extend_from_slice.ensures.items ∙ cond-true _ _ _ ok in
    let ok2 : is_ok c.extend_from_slice-2.result ≡ true = c.extend_from_slice-2.ensures.succeeds (omega (arith, c.requires, c.extend_from_slice.ensures.capacity)) in
    let ib : vec_items b ≡ vec_items v ++ (key ++ value) = c.extend_from_slice-2.ensures.items ∙ cond-true _ _ _ ok2 ∙ ap (λ t. t ++ c.digits-digits.result.now) ia ∙ ap (λ t. (vec_items v ++ key) ++ t) is ∙ append_assoc (vec_items v) key value in
    let at : c.len-start.result ≡ length (vec_items v) = c.len-start.ensures ∙ v.ok.0 in
    let kind = c.kind.ensures in
    let longer : length (vec_items b) ≡ length (vec_items v) + (length key + length value) = ap length ib ∙ length-append (vec_items v) (key ++ value) ∙ ap (λ n. length (vec_items v) + n) (length-append key value) in
    let k : take (length key) (drop c.len-start.result (vec_items b)) ≡ key = ap (λ t. take (length key) (drop c.len-start.result t)) ib ∙ key_new (vec_items v) key value c.len-start.result at in
    let w : take (length c.digits-digits.result.now) (drop (c.len-start.result + length key) (vec_items b)) ≡ value =
    ap (λ n. take n (drop (c.len-start.result + length key) (vec_items b))) lv ∙ ap (λ t. take (length value) (drop (c.len-start.result + length key) t)) ib ∙ value_new (vec_items v) key value c.len-start.result at in
    record {
      items = ib;
      capacity = omega (arith, c.extend_from_slice.ensures.capacity, c.extend_from_slice-2.ensures.capacity);
      lies = record {
        placed = omega (arith, longer, lv, at);
        marked = (row.number, row.created, row.expires);
        keyed = (row.key_digits.0, row.key_digits.1);
        valued = (omega (arith, row.value_digits.0, ap (λ n. n % 2) lv), omega (arith, row.value_digits.1, ap room kind));
      };
      row = cc;
    }
