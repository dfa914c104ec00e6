use Rattle.std.proofs.Common.{◌≡◌, ℕ, ◌<◌, length, get_or, map, inr, refl, sym, ap, ◌∙◌, arith}
use Rattle.std.proofs.lemmas.Bool.{OnTrue_from, OnFalse_from}
use Rattle.std.proofs.lemmas.List.{length-set, length-take-le}
use Rattle.chr_plans.specs.Keys.{source_value}
use Rattle.chr_plans.specs.Seats.{seat}
use Rattle.chr_plans.specs.working.Searching.{looked_in}
use Rattle.chr_base.proofs.Instances.{heads_few}
use Rattle.chr_plans.proofs.Places.{places_take, partners_len}
use Rattle.chr_plans.proofs.Hopeless.{all_indexed, none_from}
use Rattle.chr_plans.proofs.Searches.{IsWanted, bound, below_found, below_next, greatest_next, none_next, place_within}
use Rattle.chr_plans.proofs.Searches.{past_begun, past_found, seat_found, past_next, not_passed, not_taken, not_found}
use Rattle.chr_plans.proofs.Searches.{seated_all, none_all, started_more, same_deeper}
use Rattle.chr_plans.proofs.search.+complete.Goals.{then-not-is_taken+else-complete, else-not-is_taken}
use Rattle.chr_plans.proofs.search.+complete.Goals as goal

pub returns-then-done-lookups-clause-found : goal.returns-then-done-lookups-clause-found
returns-then-done-lookups-clause-found g t c = OnTrue_from c.fires_by.result _ (λ e.
    seated_all c.args.rule.now _ c.args.active c.args.lookups.now _ _ c.requires.plan
    (rw (← c.if-done-lookups.true) c.requires.started) (c.fires_by.ensures.fires.0 e))

pub returns-then-done-lookups-clause-none : goal.returns-then-done-lookups-clause-none
returns-then-done-lookups-clause-none g t c = OnFalse_from c.fires_by.result _ (λ e.
    rw c.if-done-lookups.true (none_all c.args.rule.now _ c.args.active c.args.lookups.now _ _ c.requires.plan
    c.requires.heads (λ h. (let f = c.fires_by.ensures.fires.1 h in cc))))

pub returns-then-not-pass-clause-none : goal.returns-then-not-pass-clause-none
returns-then-not-pass-clause-none g t c =
    let n : c.args.done < length c.args.lookups.now = (let a = c.requires.done in let b = c.if-done-lookups.false in
    omega (arith, a, b)) in
    not_passed c.args.rule.now c.args.active c.args.lookups.now c.args.done c.index-lookups-done.result _
    (g.R.Rows.columns c.args.rows.now) c.args.heads.now c.args.seats.now c.requires.plan c.requires.fits n
    (sym c.index-lookups-done.is) c.if-not-pass.ensures

pub returns-in_default-clause-none : goal.returns-in_default-clause-none
returns-in_default-clause-none g t c =
    let n : c.args.done < length c.args.lookups.now = (let a = c.requires.done in let b = c.if-done-lookups.false in
    omega (arith, a, b)) in
    let key : c.deref.result.now ≡ map (λ k. source_value c.args.heads.now k.source)
    c.index-lookups-done.result.partner.key.items = c.deref.ensures.0 ∙ c.read_key.ensures in
    let past = past_begun c.args.rule.now c.args.active c.args.lookups.now c.args.done c.index-lookups-done.result _
    (g.R.Rows.columns c.args.rows.now) c.args.heads.now c.args.seats.now c.requires.plan c.requires.fits n
    (sym c.index-lookups-done.is) (g.R.Rows.rank c.args.rows.now) c.read_span.new.span c.args.from c.first_from.result
    c.read_span.ensures.all c.requires.passed
    (below_found (g.R.Rows.rank c.args.rows.now c.index-lookups-done.result.table
    c.index-lookups-done.result.index) _ _ _ c.first_from.result (rw (← key) c.first_from.ensures.greatest)
    (rw (← key) c.first_from.ensures.none)) in
    λ hs ss s same. (rw c.in_default.is at past) hs ss s same (omega arith)

pub is_hopeless-requires-clause-indexed : goal.is_hopeless-requires-clause-indexed
is_hopeless-requires-clause-indexed g t c = rw c.first_from.ensures.columns (all_indexed c.args.rule.now _
    c.args.lookups.now (g.R.Rows.columns c.args.rows.now) c.requires.fits)

pub returns-then-is_hopeless-clause-none : goal.returns-then-is_hopeless-clause-none
returns-then-is_hopeless-clause-none g t c =
    none_from c.args.rule.now _ (g.R.Rows.columns c.args.rows.now) c.args.active c.args.lookups.now c.args.done
    c.args.heads.now c.args.seats.now c.requires.plan c.requires.fits
    (rw (c.first_from.ensures.rows, c.first_from.ensures.columns) at c.if-is_hopeless.ensures.missing)

pub loop-next-init : goal.loop-next-init
loop-next-init g t c =
    let n : c.args.done < length c.args.lookups.now = (let a = c.requires.done in let b = c.if-done-lookups.false in
    omega (arith, a, b)) in
    let key : c.deref.result.now ≡ map (λ k. source_value c.args.heads.now k.source)
    c.index-lookups-done.result.partner.key.items = c.deref.ensures.0 ∙ c.read_key.ensures in
    let past = past_begun c.args.rule.now c.args.active c.args.lookups.now c.args.done c.index-lookups-done.result _
    (g.R.Rows.columns c.args.rows.now) c.args.heads.now c.args.seats.now c.requires.plan c.requires.fits n
    (sym c.index-lookups-done.is) (g.R.Rows.rank c.args.rows.now) c.read_span.new.span c.args.from c.first_from.result
    c.read_span.ensures.all c.requires.passed
    (below_found (g.R.Rows.rank c.args.rows.now c.index-lookups-done.result.table
    c.index-lookups-done.result.index) _ _ _ c.first_from.result (rw (← key) c.first_from.ensures.greatest)
    (rw (← key) c.first_from.ensures.none)) in
    record {
      rows = c.is_hopeless.ensures.rows ∙ c.first_from.ensures.rows;
      columns = c.is_hopeless.ensures.columns ∙ c.first_from.ensures.columns;
      tables = c.is_hopeless.ensures.tables ∙ c.first_from.ensures.tables;
      rank = c.is_hopeless.ensures.rank ∙ c.first_from.ensures.rank;
      heads = c.requires.heads;
      seats = c.requires.seats;
      same = λ k b. (refl, refl);
      lives = rw c.in-Some.is at c.first_from.ensures.lives;
      past = rw c.in-Some.is at past;
    }

pub is_taken-requires-clause-places : goal.is_taken-requires-clause-places
is_taken-requires-clause-places g t c = λ j l.
    let n = length-take-le c.args.done c.args.lookups.now c.requires.done in
    let e = places_take c.args.lookups.now c.args.done j (omega (arith, l, n)) in
    let m = partners_len c.args.lookups.now in
    let w = c.requires.plan.within j (let a = c.requires.done in omega (arith, l, n, a, m)) in
    let s = c.loop-next.invariant.seats in
    omega (arith, e, w, s)

pub bounds-heads-lookup : goal.bounds-heads-lookup
bounds-heads-lookup g t c =
    let n : c.args.done < length c.args.lookups.now = (let a = c.requires.done in let b = c.if-done-lookups.false in
    omega (arith, a, b)) in
    let w = place_within c.args.rule.now c.args.active c.args.lookups.now c.args.done c.index-lookups-done.result _
    (g.R.Rows.columns c.args.rows.now) c.args.heads.now c.args.seats.now c.requires.plan c.requires.fits n
    (sym c.index-lookups-done.is) in
    let s = c.loop-next.invariant.heads in
    omega (arith, w, s)

pub offset_bounds-heads-lookup : goal.offset_bounds-heads-lookup
offset_bounds-heads-lookup g t c =
    let n : c.args.done < length c.args.lookups.now = (let a = c.requires.done in let b = c.if-done-lookups.false in
    omega (arith, a, b)) in
    let w = place_within c.args.rule.now c.args.active c.args.lookups.now c.args.done c.index-lookups-done.result _
    (g.R.Rows.columns c.args.rows.now) c.args.heads.now c.args.seats.now c.requires.plan c.requires.fits n
    (sym c.index-lookups-done.is) in
    let f = heads_few c.args.rule.now in
    omega (arith, w, f)

pub bounds-seats-lookup : goal.bounds-seats-lookup
bounds-seats-lookup g t c =
    let n : c.args.done < length c.args.lookups.now = (let a = c.requires.done in let b = c.if-done-lookups.false in
    omega (arith, a, b)) in
    let w = place_within c.args.rule.now c.args.active c.args.lookups.now c.args.done c.index-lookups-done.result _
    (g.R.Rows.columns c.args.rows.now) c.args.heads.now c.args.seats.now c.requires.plan c.requires.fits n
    (sym c.index-lookups-done.is) in
    let s = c.loop-next.invariant.seats in
    omega (arith, w, s)

pub offset_bounds-seats-lookup : goal.offset_bounds-seats-lookup
offset_bounds-seats-lookup g t c =
    let n : c.args.done < length c.args.lookups.now = (let a = c.requires.done in let b = c.if-done-lookups.false in
    omega (arith, a, b)) in
    let w = place_within c.args.rule.now c.args.active c.args.lookups.now c.args.done c.index-lookups-done.result _
    (g.R.Rows.columns c.args.rows.now) c.args.heads.now c.args.seats.now c.requires.plan c.requires.fits n
    (sym c.index-lookups-done.is) in
    let f = heads_few c.args.rule.now in
    omega (arith, w, f)

pub complete-requires : goal.complete-requires
complete-requires g t c κs within =
    let n : c.args.done < length c.args.lookups.now = (let a = c.requires.done in let b = c.if-done-lookups.false in
    omega (arith, a, b)) in
    let here = sym c.index-lookups-done.is in
    let w = place_within c.args.rule.now c.args.active c.args.lookups.now c.args.done c.index-lookups-done.result _
    (g.R.Rows.columns c.args.rows.now) c.args.heads.now c.args.seats.now c.requires.plan c.requires.fits n
    (sym c.index-lookups-done.is) in
    let h = c.loop-next.invariant.heads in
    let s = c.loop-next.invariant.seats in
    let many = length-take-le c.args.done c.args.lookups.now c.requires.done in (
      omega (arith, n),
      (
        within,
        (
          c.requires.plan,
          (
            rw (c.loop-next.invariant.rows, c.loop-next.invariant.columns) c.requires.fits,
            (
              omega (arith, n),
              (
                length-set c.loop-next.heads _ _ ∙ h,
                (
                  length-set c.loop-next.seats _ _ ∙ s,
                  (
                    rw c.loop-next.invariant.rows (started_more c.args.rule.now _ c.args.active c.args.lookups.now
                        c.args.done c.index-lookups-done.result c.args.heads.now c.loop-next.heads c.args.seats.now
                        c.loop-next.seats c.read.new.atom _ c.requires.plan n here
                        (omega (arith, w, h)) (omega (arith, w, s)) c.requires.started c.loop-next.invariant.same
                        (rw c.loop-next.invariant.rows at c.read.ensures)
                        (λ j g2 e. c.if-not-is_taken.ensures.free j (omega (arith, g2, many))
                        (ap (seat c.loop-next.seats) (places_take c.args.lookups.now c.args.done j g2) ∙ e))),
                    tt,
                  ),
                ),
              ),
            ),
          ),
        ),
      ),
    )

pub returns-then-complete-clause-same : goal.returns-then-complete-clause-same
returns-then-complete-clause-same g t c =
    let n : c.args.done < length c.args.lookups.now = (let a = c.requires.done in let b = c.if-done-lookups.false in
    omega (arith, a, b)) in
    same_deeper c.args.rule.now c.args.active c.args.lookups.now c.args.done c.index-lookups-done.result
    c.args.heads.now c.loop-next.heads _ c.args.seats.now c.loop-next.seats _ _ _ c.requires.plan n
    (sym c.index-lookups-done.is) c.loop-next.invariant.same c.complete.ensures.same

pub returns-then-complete-clause-passed : goal.returns-then-complete-clause-passed
returns-then-complete-clause-passed g t c =
    let n : c.args.done < length c.args.lookups.now = (let a = c.requires.done in let b = c.if-done-lookups.false in
    omega (arith, a, b)) in
    let here = sym c.index-lookups-done.is in
    let w = place_within c.args.rule.now c.args.active c.args.lookups.now c.args.done c.index-lookups-done.result _
    (g.R.Rows.columns c.args.rows.now) c.args.heads.now c.args.seats.now c.requires.plan c.requires.fits n here in
    let s = c.loop-next.invariant.seats in
    past_found c.args.rule.now c.args.active c.args.lookups.now c.args.done c.index-lookups-done.result _
    (g.R.Rows.columns c.args.rows.now) c.args.heads.now c.args.seats.now c.requires.plan c.requires.fits n here
    (g.R.Rows.rank c.args.rows.now) _ c.in-Some-next.row
    (rw c.in-Some-next.is at c.loop-next.invariant.past)
    (ap (λ x. x.row) (seat_found c.args.rule.now c.args.active c.args.lookups.now c.args.done
    c.index-lookups-done.result _ (g.R.Rows.columns c.args.rows.now) c.args.heads.now c.args.seats.now
    c.requires.plan c.requires.fits n here _ c.loop-next.heads _ c.loop-next.seats _ _
    (omega (arith, w, s)) c.complete.ensures.same))

pub loop-next-preserved : goal.loop-next-preserved
loop-next-preserved g t c =
    let n : c.args.done < length c.args.lookups.now = (let a = c.requires.done in let b = c.if-done-lookups.false in
    omega (arith, a, b)) in
    let key : c.deref-in-Some-next.result.now ≡ map (λ k. source_value c.args.heads.now k.source)
    c.index-lookups-done.result.partner.key.items = c.deref-in-Some-next.ensures.0 ∙ c.read_key.ensures in
    let w0 = place_within c.args.rule.now c.args.active c.args.lookups.now c.args.done c.index-lookups-done.result _
    (g.R.Rows.columns c.args.rows.now) c.args.heads.now c.args.seats.now c.requires.plan c.requires.fits n
    (sym c.index-lookups-done.is) in
    let h = c.loop-next.invariant.heads in
    let s = c.loop-next.invariant.seats in
    let many = length-take-le c.args.done c.args.lookups.now c.requires.done in
    let rows_now : g.R.Rows.rows c.if-not-is_taken.rows ≡ g.R.Rows.rows c.args.rows.now =
    elim c.if-not-is_taken.branch [
      | then-not-is_taken+else-complete w ↦ ap g.R.Rows.rows w.rows-is ∙ w.complete.ensures.rows
          ∙ c.loop-next.invariant.rows
      | else-not-is_taken w ↦ ap g.R.Rows.rows w.rows-is ∙ c.loop-next.invariant.rows
    ] in
    let columns_now : g.R.Rows.columns c.if-not-is_taken.rows ≡ g.R.Rows.columns c.args.rows.now =
    elim c.if-not-is_taken.branch [
      | then-not-is_taken+else-complete w ↦ ap g.R.Rows.columns w.rows-is ∙ w.complete.ensures.columns
          ∙ c.loop-next.invariant.columns
      | else-not-is_taken w ↦ ap g.R.Rows.columns w.rows-is ∙ c.loop-next.invariant.columns
    ] in
    let ranks : ℕ → ℕ = g.R.Rows.rank c.args.rows.now c.index-lookups-done.result.table
    c.index-lookups-done.result.index in
    let rank_now : g.R.Rows.rank c.if-not-is_taken.rows ≡ g.R.Rows.rank c.args.rows.now =
    elim c.if-not-is_taken.branch [
      | then-not-is_taken+else-complete w ↦ ap g.R.Rows.rank w.rows-is ∙ w.complete.ensures.rank
          ∙ c.loop-next.invariant.rank
      | else-not-is_taken w ↦ ap g.R.Rows.rank w.rows-is ∙ c.loop-next.invariant.rank
    ] in
    record {
      rows = c.next-next.ensures.rows ∙ rows_now;
      columns = c.next-next.ensures.columns ∙ columns_now;
      tables = c.next-next.ensures.tables ∙ elim c.if-not-is_taken.branch [
        | then-not-is_taken+else-complete w ↦ ap g.R.Rows.tables w.rows-is ∙ w.complete.ensures.tables
            ∙ c.loop-next.invariant.tables
        | else-not-is_taken w ↦ ap g.R.Rows.tables w.rows-is ∙ c.loop-next.invariant.tables
      ];
      rank = c.next-next.ensures.rank ∙ rank_now;
      heads = elim c.if-not-is_taken.branch [
        | then-not-is_taken+else-complete w ↦ ap length w.heads-is ∙ w.complete.ensures.lengths.0
            ∙ length-set c.loop-next.heads _ _ ∙ h
        | else-not-is_taken w ↦ ap length w.heads-is ∙ h
      ];
      seats = elim c.if-not-is_taken.branch [
        | then-not-is_taken+else-complete w ↦ ap length w.seats-is ∙ w.complete.ensures.lengths.1
            ∙ length-set c.loop-next.seats _ _ ∙ s
        | else-not-is_taken w ↦ ap length w.seats-is ∙ s
      ];
      same = elim c.if-not-is_taken.branch [
        | then-not-is_taken+else-complete w ↦ rw (w.heads-is, w.seats-is)
            (same_deeper c.args.rule.now c.args.active c.args.lookups.now c.args.done c.index-lookups-done.result
            c.args.heads.now c.loop-next.heads _ c.args.seats.now c.loop-next.seats _ _ _ c.requires.plan n
            (sym c.index-lookups-done.is) c.loop-next.invariant.same w.complete.ensures.same)
        | else-not-is_taken w ↦ rw (w.heads-is, w.seats-is) c.loop-next.invariant.same
      ];
      lives = rw (← rows_now) c.next-next.ensures.lives;
      past = past_next c.args.rule.now c.args.active c.args.lookups.now c.args.done c.index-lookups-done.result _
          (g.R.Rows.columns c.args.rows.now) c.args.heads.now c.args.seats.now c.requires.plan c.requires.fits n
          (sym c.index-lookups-done.is) ranks c.read_span.new.span c.in-Some-next.row
          (bound ranks c.next-next.result) (rw (← rows_now, ← rank_now) c.next-next.ensures.own_ranks)
          (rw c.in-Some-next.is at c.loop-next.invariant.lives) c.read_span.ensures.all
          (below_next ranks (λ q. IsWanted (g.R.Rows.columns c.args.rows.now c.index-lookups-done.result.table
          c.index-lookups-done.result.index) (map (λ k. source_value c.args.heads.now k.source)
          c.index-lookups-done.result.partner.key.items) c.read_span.new.span
          (g.R.Rows.rows c.args.rows.now c.index-lookups-done.result.table q)) (ranks c.in-Some-next.row)
          c.next-next.result (greatest_next ranks _ _ (ranks c.in-Some-next.row) c.next-next.result
          (rw (← key, ← rows_now, ← columns_now, ← rank_now) c.next-next.ensures.greatest))
          (none_next ranks _ _ (ranks c.in-Some-next.row) c.next-next.result
          (rw (← key, ← rows_now, ← columns_now, ← rank_now) c.next-next.ensures.none)))
          (elim c.if-not-is_taken.branch [
            | then-not-is_taken+else-complete w ↦ not_found c.args.rule.now c.args.active c.args.lookups.now c.args.done
                c.index-lookups-done.result _ (g.R.Rows.columns c.args.rows.now) c.args.heads.now c.args.seats.now
                c.requires.plan c.requires.fits n (sym c.index-lookups-done.is) _ w.read.new.atom c.loop-next.heads
                c.loop-next.seats (rw c.loop-next.invariant.rows at w.read.ensures) (omega (arith, w0, h))
                (omega (arith, w0, s)) c.loop-next.invariant.same
                (rw c.loop-next.invariant.rows at w.if-complete.ensures.none)
            | else-not-is_taken w ↦ (let v = w.if-not-is_taken.ensures.taken in
                let g2 : v.0 < c.args.done = (let a = v.1 in omega (arith, a, many)) in
                let same = c.loop-next.invariant.same (get_or (looked_in c.args.lookups.now) v.0 0)
                (inr (v.0, g2, refl)) in
                not_taken c.args.rule.now c.args.active c.args.lookups.now c.args.done c.index-lookups-done.result _
                (g.R.Rows.columns c.args.rows.now) c.args.heads.now c.args.seats.now c.requires.plan c.requires.fits
                n (sym c.index-lookups-done.is) _ v.0 g2
                (sym same.1 ∙ ap (seat c.loop-next.seats) (sym (places_take c.args.lookups.now c.args.done v.0 g2))
                ∙ v.2))
          ])
          (rw c.in-Some-next.is at c.loop-next.invariant.past);
    }

pub returns-clause-none : goal.returns-clause-none
returns-clause-none g t c = λ hs ss s same. (rw c.in_default-next.is at c.loop-next.invariant.past) hs ss s same
    (omega arith)
