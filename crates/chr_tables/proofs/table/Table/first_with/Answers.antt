use Rattle.std.proofs.Common.{length, ap, arith}
use mir.Syntax.{w64}
use Rattle.std.proofs.lemmas.Int.{to_z-of_z}
use Rattle.chr_tables.proofs.Looking.{lack_least, lack_more, lack_all, lack_ever}
use Rattle.chr_tables.proofs.table.Table.first_with.Goals as goal

pub returns-in_default-clause-none : goal.returns-in_default-clause-none
returns-in_default-clause-none c =
    lack_all c.self.inside.atoms c.self.inside.alive.items c.args.self.now.rows
    (ap (λ t. t.rows) c.self.view_is) c.args.column c.args.value c.args.from c.loop-at.at
    (rw (to_z-of_z w64 c.args.value c.ranges.value) at c.loop-at.invariant.lack) (length c.self.inside.atoms)
    (omega arith) (rw (to_z-of_z w64 c.args.value c.ranges.value) at c.in_default.ensures.none)

pub returns-then-has_argument-clause-least : goal.returns-then-has_argument-clause-least
returns-then-has_argument-clause-least c =
    lack_least c.self.inside.atoms c.self.inside.alive.items c.args.self.now.rows
    (ap (λ t. t.rows) c.self.view_is) c.args.column c.args.value c.args.from c.loop-at.at
    (rw (to_z-of_z w64 c.args.value c.ranges.value) at c.loop-at.invariant.lack) c.in-Some.row
    (rw (to_z-of_z w64 c.args.value c.ranges.value) at c.in-Some.ensures.least)

pub loop-at-preserved : goal.loop-at-preserved
loop-at-preserved c =
    let on = c.in-Some.ensures.from_on in
    let so_far = c.loop-at.invariant.from_on in
    rw (to_z-of_z w64 c.args.value c.ranges.value) (record {
      from_on = omega (arith, on, so_far);
      lack = lack_more c.self.inside.atoms c.self.inside.alive.items c.args.self.now.rows
          (ap (λ t. t.rows) c.self.view_is) c.args.column c.args.value c.args.from c.loop-at.at
          (rw (to_z-of_z w64 c.args.value c.ranges.value) at c.loop-at.invariant.lack) c.in-Some.row
          (rw (to_z-of_z w64 c.args.value c.ranges.value) at c.in-Some.ensures.least)
          (rw (to_z-of_z w64 c.args.value c.ranges.value) at c.if-has_argument.ensures.lacks);
    })

pub returns-clause-none : goal.returns-clause-none
returns-clause-none c =
    let past = c.loop-at-test.false in
    let n = c.len.ensures in
    lack_ever c.self.inside.atoms c.self.inside.alive.items c.args.self.now.rows
    (ap (λ t. t.rows) c.self.view_is) c.args.column c.args.value c.args.from c.loop-at.at
    (rw (to_z-of_z w64 c.args.value c.ranges.value) at c.loop-at.invariant.lack) (omega (arith, past, n))
