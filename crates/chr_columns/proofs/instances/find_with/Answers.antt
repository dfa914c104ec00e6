use Rattle.std.proofs.Common.{◌≡◌, ◌<◌, length, map, set, ap, sym, ◌∙◌, subst, arith}
use Rattle.chr_base.specs.FinBag.{IsWithin}
use Rattle.chr_base.specs.Rules.{heads_of}
use Rattle.chr_base.specs.Stores.{store_of}
use Rattle.chr_columns.specs.working.Listing.{rows_in_turn}
use Rattle.chr_columns.specs.working.Finding.{rows_but}
use Rattle.chr_columns.proofs.Listed.{contents_turn}
use Rattle.chr_columns.specs.working.Sitting.{row_from, SitAmong}
use Rattle.chr_columns.proofs.Sitting.{sit_among, set_back}
use Rattle.chr_columns.proofs.Turns.{plain_plan, plain_fits, seated_within, seated_in, at_row}
use Rattle.chr_columns.proofs.instances.find_with.Goals as goal

pub find_partners-requires-clause-plan : goal.find_partners-requires-clause-plan
find_partners-requires-clause-plan c = plain_plan c.args.rule.now c.args.lookups.now c.requires.plain

pub find_partners-requires-clause-fits : goal.find_partners-requires-clause-fits
find_partners-requires-clause-fits c =
    let e = c.args.everywhere in
    plain_fits c.args.rule.now c.args.lookups.now c.requires.plain (rows_but e.tables.now e.fresh.now e.active)

pub returns-clause-there : goal.returns-clause-there
returns-clause-there c =
    let e = c.args.everywhere in
    let n = c.requires.plain.0 in
    let some : 0 < length (heads_of c.args.rule.now) = omega (arith, n) in
    subst (λ s. IsWithin (store_of c.find_partners.new.heads.items) s) (contents_turn e.tables.now e.fresh.now)
    (seated_within (rows_in_turn e.tables.now e.fresh.now) e.active c.args.atom.now c.args.rule.now
    c.find_partners.new.heads.items c.find_partners.new.seats.items
    c.requires.active some c.if-not-find_partners.ensures.found c.if-not-find_partners.ensures.active
    c.find_partners.ensures.seats)

pub returns-clause-sit : goal.returns-clause-sit
returns-clause-sit c =
    let e = c.args.everywhere in
    let ts = e.tables.now in
    let fresh = e.fresh.now in
    let heads = c.find_partners.new.heads.items in
    let seats = c.find_partners.new.seats.items in
    let n = c.requires.plain.0 in
    let some : 0 < length (heads_of c.args.rule.now) = omega (arith, n) in
    let sit =
    seated_in (rows_in_turn ts fresh) e.active c.args.atom.now c.args.rule.now heads seats c.requires.active some
    c.if-not-find_partners.ensures.found c.if-not-find_partners.ensures.active
    c.find_partners.ensures.seats in
    let put : c.deref.result.now ≡ set seats 0 (at_row e.active) = c.deref.ensures.0
    ∙ set_back seats c.deref_mut.result.now 0 (at_row e.active) c.deref_mut.ensures.value in
    let rows : map (λ s. row_from ts 0 s.row) (set seats 0 (at_row e.active)) ≡ c.rows_at.result.items =
    ap (λ ss. map (λ s. row_from ts 0 s.row) ss) (sym put) ∙ sym c.rows_at.ensures in
    subst (λ rs. SitAmong ts fresh heads rs) rows (sit_among ts fresh heads (set seats 0 (at_row e.active)) sit)
