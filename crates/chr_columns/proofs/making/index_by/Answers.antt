use Rattle.std.proofs.Common.{◌≡◌, length, refl, sym, ap, ◌∙◌, arith, inl, inr}
use Rattle.std.specs.Prelude.{slice_get}
use Rattle.std.proofs.lemmas.Bool.{cases_lt}
use Rattle.std.proofs.lemmas.List.{length-map}
use Rattle.std.proofs.lemmas.Option.{slice_get_within, same_Some}
use Rattle.chr_columns.specs.working.Making.{made_way, made_ways}
use Rattle.chr_columns.proofs.Slices.{slice_read}
use Rattle.chr_columns.proofs.making.index_by.Goals as goal

pub returns-then-is_by-clause-found : goal.returns-then-is_by-clause-found
returns-then-is_by-clause-found c =
    slice_read made_way c.args.keys.now.ways.items c.deref-way-items.result.now c.loop-i.i c.way-item.result
    (c.args.columns.now, c.args.order)
    c.deref-way-items.ensures.value c.loop-i-test.true c.way-item.is (sym c.if-is_by.ensures.by)

pub loop-i-preserved : goal.loop-i-preserved
loop-i-preserved c k l e = elim (cases_lt k c.loop-i.i) as (λ _. ⊥) [
  | inl less ↦ c.loop-i.invariant k less e
  | inr most ↦ (let at = slice_read made_way c.args.keys.now.ways.items c.deref-way-items.result.now c.loop-i.i
      c.way-item.result (made_way c.way-item.result)
      c.deref-way-items.ensures.value c.loop-i-test.true c.way-item.is refl in
      let i : k ≡ c.loop-i.i = omega (arith, l, most) in
      c.if-is_by.ensures.other (same_Some (made_way c.way-item.result) (c.args.columns.now, c.args.order)
      (sym at ∙ ap (slice_get (made_ways c.args.keys.now)) (sym i) ∙ e)))
]

pub returns-clause-none : goal.returns-clause-none
returns-clause-none c i e =
    let l = slice_get_within (made_ways c.args.keys.now) i _ e in
    let n = c.loop-i-test.false in
    let m = length-map c.args.keys.now.ways.items made_way in
    let v = ap length c.deref-way-items.ensures.value in
    c.loop-i.invariant i (omega (arith, l, n, m, v)) e
