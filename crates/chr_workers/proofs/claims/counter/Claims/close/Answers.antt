use Rattle.std.proofs.Common.{rules, arith, ◌≡◌, ℕ, ◌+◌, ◌<◌, sum_by, count_by, ap, sym, ◌∙◌, cond, add-zero}
use Rattle.chr_workers.specs.ClaimSeats.{IsOf}
use Rattle.chr_workers.specs.Claiming.{times}
use Rattle.chr_workers.proofs.ClaimTotals.{all_popped, sum_popped, none_left}
use Rattle.chr_workers.proofs.ClaimMoves.{gathers, settles, at_most_once, just_once, times_both}
use Rattle.chr_workers.proofs.claims.counter.Claims.close.Goals as goal

pub join_seat-requires : goal.join_seat-requires
join_seat-requires c =
    let i = c.loop-one.invariant in
    let p = c.in-Some-pop.ensures in
    let q = all_popped (IsOf c.args.self) c.loop-one.seats.items c.pop-in-loop-one.new.self.items c.in-Some-pop.one
    p.items i.3 in (
      i.0,
      ap (λ s. s.name) c.one.view_is ∙ q.1.0 ∙ ap (λ s. s.name) (sym c.self.view_is),
      c.one.invariant.0,
      search rules,
      gathers _ _ _ _ _ i.1,
    )

pub loop-one-preserved : goal.loop-one-preserved
loop-one-preserved c =
    let i = c.loop-one.invariant in
    let e = c.join_seat.ensures in
    let p = c.in-Some-pop.ensures in
    let one = c.in-Some-pop.one in
    let s = c.one.invariant in
    let me = ap (λ m. m.0) e.2 in
    let q = all_popped (IsOf c.args.self) c.loop-one.seats.items c.pop-in-loop-one.new.self.items one p.items i.3 in
    let drawn : c.one.inside.seat.me.0.drawn ≡ one.numbers = ap (λ d. d.numbers) c.one.view_is in
    let spent : c.one.inside.spent ≡ one.spent = ap (λ d. d.spent) c.one.view_is in
    let shares = ap (λ m. m.shares) me in (
      e.0 ∙ i.0,
      omega arith,
      omega (arith, p.len, shares),
      q.0,
      (λ x. omega (
        arith,
        i.4 x,
        ap (λ m. times x m.drawn) me,
        times_both x c.loop-one.all.me.0.drawn c.one.inside.seat.me.0.drawn,
        ap (times x) drawn,
        sum_popped (λ d. times x d.numbers) c.loop-one.seats.items c.pop-in-loop-one.new.self.items one p.items,
      )),
      omega (
        arith,
        i.5,
        ap (λ m. m.over) me,
        s.2,
        ap {B = ℕ} (λ b. cond b 1 0) spent,
        sum_popped (λ d. cond d.spent 1 0) c.loop-one.seats.items c.pop-in-loop-one.new.self.items one p.items,
      ),
    )

pub free-requires : goal.free-requires
free-requires c = λ k h. absurd (omega arith)

pub returns-clause-once : goal.returns-clause-once
returns-clause-once c =
    let i = c.loop-one.invariant in
    let empty = c.in_default-pop.ensures.cases.0 in
    let none = none_left c.loop-one.seats.items (omega (arith, c.loop-one.seats.ok.0)) in
    let whole : c.loop-one.all.me.0.shares ≡ c.self.inside.table.shared.key.seats = omega arith in
    let e = settles _ _ _ _ _ whole c.close_with.ensures.values.2 in
    λ x. at_most_once x e.0 _ (sym (i.4 x) ∙ (ap (λ l. times x c.loop-one.all.me.0.drawn + sum_by
    (λ d. times x d.numbers) l) none ∙ (add-zero (times x c.loop-one.all.me.0.drawn) ∙ e.1 x)))

pub returns-clause-whole : goal.returns-clause-whole
returns-clause-whole c =
    let i = c.loop-one.invariant in
    let empty = c.in_default-pop.ensures.cases.0 in
    let none = none_left c.loop-one.seats.items (omega (arith, c.loop-one.seats.ok.0)) in
    let whole : c.loop-one.all.me.0.shares ≡ c.self.inside.table.shared.key.seats = omega arith in
    let e = settles _ _ _ _ _ whole c.close_with.ensures.values.2 in
    λ some x below.
    let over : 0 < c.loop-one.all.me.0.over = omega (arith, i.5, ap (λ l. count_by (λ d. d.spent) l) none) in
    let parts : c.self.inside.parts ≡ c.args.self.parts = ap (λ o. o.parts) c.self.view_is in
    just_once x e.0 _ (sym (i.4 x) ∙ (ap (λ l. times x c.loop-one.all.me.0.drawn + sum_by (λ d. times x d.numbers) l)
    none ∙ (add-zero (times x c.loop-one.all.me.0.drawn) ∙ e.1 x))) (omega (arith, e.2 over, c.self.invariant))
