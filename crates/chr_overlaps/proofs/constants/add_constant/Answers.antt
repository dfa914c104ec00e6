use Rattle.std.proofs.Common.{arith}
use mir.Val.{SFits}
use mir.Syntax.{w64}
use Rattle.std.proofs.lemmas.Int.{ints, to_z-of_z}
use Rattle.chr_types.specs.OrderTypes.{IsValue}
use Rattle.chr_overlaps.proofs.Gathered.{constant_there, constant_inserted}
use Rattle.chr_overlaps.proofs.constants.add_constant.Goals as goal

pub returns-in_ok-insert : goal.returns-in_ok-insert
returns-in_ok-insert c =
    let fc : SFits w64 c.args.constant = c.ranges.constant in
    let v : IsValue c.args.constant = (omega (arith, ints), omega (arith, ints)) in
    let w = rw c.deref.ensures.value at c.in-Some.ensures.within in
    let b = simp to_z-of_z at (rw c.deref.ensures.value at c.in-Some.ensures.before) in
    let a = simp to_z-of_z at (rw c.deref.ensures.value at c.in-Some.ensures.after) in
    let e = simp to_z-of_z at c.in_ok-insert.ensures.items in
    constant_inserted c.args.found.now.items c.insert.new.self.items c.in-Some.i c.args.constant v w b a e

pub returns-in_default : goal.returns-in_default
returns-in_default c =
    let fc : SFits w64 c.args.constant = c.ranges.constant in
    let h = simp to_z-of_z at (rw c.deref.ensures.value at c.in_default.ensures.there) in
    constant_there c.args.found.now.items c.args.constant h
