use Rattle.std.proofs.Common.{◌≡◌, ℕ, ◌+◌, ◌-◌, ◌/◌, ◌^◌, ◌<◌, ◌≤◌, true, false, sym, ap, ◌∙◌, subst, inl, inr, arith}
use Rattle.wal.specs.Tails.{behind}
use Rattle.wal.proofs.Keeping.{same_refl, same_trans, tells_back, tells_ok, tells_err, pair_is, carried}
use Rattle.wal.proofs.Halving.{Between, started, more, done, answer, asks_middle, up, down, offset_at, halves_at}
use Rattle.wal.proofs.tail.Start.halve.Goals as goal

pub loop-left-init : goal.loop-left-init
loop-left-init g c =
    let n = c.args.absent - 1 in
    let p = behind (g.S.Store.means c.args.store.now).held c.args.self.id in
    let e : c.args.absent ≡ n + 1 = omega arith in
    let b = started p n (c.power-left.result + 1) c.power-right.result (ap (λ (k : ℕ). k + 1) c.power-left.ensures.value) (c.power-right.ensures.value ∙ ap (λ (k : ℕ). 2 ^ k) e) in
    let z : n ≡ n - 0 = omega arith in
    (omega arith, omega arith, same_refl _, subst (λ (j : ℕ). Between p n (c.power-left.result + 1) c.power-right.result j) z b)

pub returns-in_err-wal_object_exists : goal.returns-in_err-wal_object_exists
returns-in_err-wal_object_exists g c =
    let a = g.S.Store.means c.args.store.now in
    let p = behind a.held c.args.self.id in
    let n = c.args.absent - 1 in
    let l = c.loop-left in
    let w = l.invariant.3 in
    let t : l.left < l.right = omega arith in
    let cut = tells_err a _ c.wal_object_exists.result c.in_err-wal_object_exists.field-0.0 (tells_back a _ _ _ l.invariant.2 c.wal_object_exists.ensures.tells) c.in_err-wal_object_exists.was in
    let h : 0 < n - l.heads = more p n l.left l.right (n - l.heads) w t in
    let d = asks_middle p n l.left l.right (n - l.heads) w t (n - (l.heads + 1)) (omega arith) in
    record {
      same = same_trans _ _ _ l.invariant.2 c.wal_object_exists.ensures.same;
      answer = inr (record {
        unsteady = cut.0;
        at = l.left + (l.right - l.left) / 2;
        halves = halves_at p c.args.absent _ c.requires.some d;
        is = carried c.from_residual.result c.in_err-wal_object_exists.field-0.0 _ c.from_residual.ensures.1 cut.1;
      });
    }

pub loop-left-preserved-then-branch : goal.loop-left-preserved-then-branch
loop-left-preserved-then-branch g c =
    let a = g.S.Store.means c.args.store.now in
    let p = behind a.held c.args.self.id in
    let n = c.args.absent - 1 in
    let l = c.loop-left in
    let w = l.invariant.3 in
    let t : l.left < l.right = omega arith in
    let there = tells_ok a _ c.wal_object_exists.result c.in_ok-wal_object_exists.field-0 true (tells_back a _ _ _ l.invariant.2 c.wal_object_exists.ensures.tells) c.in_ok-wal_object_exists.was c.if-branch.true in
    let h : 0 < n - l.heads = more p n l.left l.right (n - l.heads) w t in (
      omega arith,
      l.invariant.1,
      same_trans _ _ _ l.invariant.2 c.wal_object_exists.ensures.same,
      up p n l.left l.right (n - l.heads) w t (n - (l.heads + 1)) (omega arith) there,
    )

pub loop-left-preserved : goal.loop-left-preserved
loop-left-preserved g c =
    let a = g.S.Store.means c.args.store.now in
    let p = behind a.held c.args.self.id in
    let n = c.args.absent - 1 in
    let l = c.loop-left in
    let w = l.invariant.3 in
    let t : l.left < l.right = omega arith in
    let gone = tells_ok a _ c.wal_object_exists.result c.in_ok-wal_object_exists.field-0 false (tells_back a _ _ _ l.invariant.2 c.wal_object_exists.ensures.tells) c.in_ok-wal_object_exists.was c.if-branch.false in
    let h : 0 < n - l.heads = more p n l.left l.right (n - l.heads) w t in (
      omega arith,
      omega arith,
      same_trans _ _ _ l.invariant.2 c.wal_object_exists.ensures.same,
      down p n l.left l.right (n - l.heads) w t (n - (l.heads + 1)) (omega arith) gone,
    )

pub returns : goal.returns
returns g c =
    let a = g.S.Store.means c.args.store.now in
    let p = behind a.held c.args.self.id in
    let n = c.args.absent - 1 in
    let l = c.loop-left in
    let w = l.invariant.3 in
    let t : l.right ≤ l.left = omega arith in
    let z : n - l.heads ≡ 0 = done p n l.left l.right (n - l.heads) w t in
    let e = offset_at p c.args.absent c.requires.some ∙ answer p n l.left l.right (n - l.heads) w t in
    record { same = l.invariant.2; answer = inl (pair_is _ _ _ _ (sym e) (omega arith)) }
