use Rattle.std.specs.Prelude.{Some, None}
use Rattle.std.proofs.Common.{◌≡◌, ◌+◌, ◌<◌, length, get_or, subst, arith}
use Rattle.chr_base.specs.declared.atom.Atom.{Atom}
use Rattle.chr_base.specs.Rules.{heads_of, HasNoStep}
use Rattle.chr_columns.specs.working.Candidates.{IsKnownConstant}
use Rattle.chr_columns.specs.working.Listing.{rows_in_turn}
use Rattle.chr_columns.proofs.Listed.{contents_turn}
use Rattle.chr_columns.proofs.Passing.{none_passed}
use Rattle.chr_columns.proofs.Turns.{NoneAt, no_step, none_more, none_dead, none_live, when_none, live_below}
use Rattle.chr_columns.proofs.instances.find_among.Goals.{in-Some+else-is_some, in_default}
use Rattle.chr_columns.proofs.instances.find_among.Goals as goal

pub loop-active-init : goal.loop-active-init
loop-active-init c =
    let rows = rows_in_turn c.args.tables.now c.args.fresh.now in
    let is = subst (λ p. IsKnownConstant p c.known_argument-known.result) c.head_at.ensures
    c.known_argument-known.ensures.known in
    let n = c.row_count-rows.ensures.rows in
    let m = c.next_candidate-active.ensures.within in
    record {
      within = omega (arith, n, m);
      none = none_passed rows c.args.rule.now c.known_argument-known.result 0 c.next_candidate-active.result is
          (λ k a l. (absurd (omega (arith, l)))) c.next_candidate-active.ensures.passed;
    }

pub loop-active-preserved : goal.loop-active-preserved
loop-active-preserved c =
    let rows = rows_in_turn c.args.tables.now c.args.fresh.now in
    let r = c.args.rule.now in
    let i = c.loop-active.active in
    let is = subst (λ p. IsKnownConstant p c.known_argument-known.result) c.head_at.ensures
    c.known_argument-known.ensures.known in
    let n = c.row_count-rows.ensures.rows in
    let m = c.next_candidate-active-in-loop-active.ensures.within in
    let here : (a : Atom) → get_or rows i None ≡ Some a → NoneAt rows r i i a =
    elim c.match-atom_at.branch as (λ _. (a : Atom) → get_or rows i None ≡ Some a → NoneAt rows r i i a) [
      | in-Some+else-is_some w ↦ none_live rows r i w.in-Some.atom w.in-Some.ensures
          (when_none _ w.find_with-found.result w.if-is_some.ensures w.find_with-found.ensures.none)
      | in_default w ↦ none_dead rows r i w.in_default.ensures
    ] in
    record {
      within = omega (arith, n, m);
      none = none_passed rows r c.known_argument-known.result (i + 1) c.next_candidate-active-in-loop-active.result is
          (none_more rows r i c.loop-active.invariant.none here)
          c.next_candidate-active-in-loop-active.ensures.passed;
    }

pub returns-clause-none : goal.returns-clause-none
returns-clause-none c =
    let ts = c.args.tables.now in
    let fresh = c.args.fresh.now in
    let n = c.plain_lookups-lookups.ensures.0 in
    let some : 0 < length (heads_of c.args.rule.now) = omega (arith, n) in
    subst (λ s. HasNoStep c.args.rule.now s) (contents_turn ts fresh)
    (no_step (rows_in_turn ts fresh) c.args.rule.now some
    (λ k a live. c.loop-active.invariant.none k a (let l = live_below (rows_in_turn ts fresh) k a live in let m =
    c.row_count-rows.ensures.rows in let t = c.loop-active-test.false in omega (arith, l, m, t)) live))
