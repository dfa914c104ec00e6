use Rattle.std.proofs.Common.{◌≡◌, ◌<◌, [], ◌∷◌, length, refl, sym, ap, subst, ◌∙◌}
use Rattle.std.specs.Prelude.{Some, remove}
use Rattle.chr_base.specs.declared.rule.Rule.{Rule}
use Rattle.chr_base.specs.FinBag.{◌⊕◌}
use Rattle.chr_base.specs.Stores.{store_of}
use Rattle.chr_base.specs.Rules.{Step, heads_of}
use Rattle.chr_plans.specs.Actives.{one}
use Rattle.chr_plans.specs.Grids.{contents}
use Rattle.chr_columns.specs.working.Resting.{grid}
use Rattle.chr_plans.specs.Seats.{IsSeated, head}
use Rattle.chr_tables.specs.Contents.{rows_of}
use Rattle.chr_columns.specs.working.Firing.{leaving, leaving_seats, seats_to}
use Rattle.chr_columns.proofs.Firings.{rule_is, sit_there, sit_left, fired, left_over, part_left}
use Rattle.chr_columns.proofs.Leaving.{sit_to}
use Rattle.chr_columns.proofs.Resuming.{only_died, stands_on}
use Rattle.chr_columns.proofs.rested.Rested.fire.Goals as goal

pub kill_all-requires : goal.kill_all-requires
kill_all-requires c =
    let ts = c.args.self.now.tables.tables.items in
    let p = c.args.o.place in
    let r = c.index-rule.result.now in
    let hs = c.args.found.now.heads.items in
    let ss = c.args.found.now.seats.items in
    let is = c.requires.instance in
    let same = rule_is c.args.self.now.rules.items c.args.o.rule is.rule r is.at c.index-rule.ensures in
    let at = is.at ∙ ap Some same in
    let place = subst (λ (x : Rule). p < length (heads_of x)) same is.within in
    let seated = subst (λ x. IsSeated x (rows_of ts) p hs ss) same is.seated in
    let back = c.deref-2.ensures.0 ∙ c.leaving_rows-rows.ensures ∙ ap (leaving_seats r p) c.deref.ensures.0 in
    sit_there ts (leaving r p hs) c.deref-2.result.now
    (sit_left c.args.self.now.rules.items c.args.o.rule r p hs ss
    (remove (seats_to ss (length (heads_of r))) p) c.deref-2.result.now ts at place seated
    (sit_to r p ss place) back)

pub returns-clause-rested : goal.returns-clause-rested
returns-clause-rested c =
    let ts = c.args.self.now.tables.tables.items in
    let us = c.kill_all.new.tables.tables.items in
    let p = c.args.o.place in
    let r = c.index-rule.result.now in
    let hs = c.args.found.now.heads.items in
    let ss = c.args.found.now.seats.items in
    let is = c.requires.instance in
    let same = rule_is c.args.self.now.rules.items c.args.o.rule is.rule r is.at c.index-rule.ensures in
    let at = is.at ∙ ap Some same in
    let place = subst (λ (x : Rule). p < length (heads_of x)) same is.within in
    let seated = subst (λ x. IsSeated x (rows_of ts) p hs ss) same is.seated in
    let back = c.deref-2.ensures.0 ∙ c.leaving_rows-rows.ensures ∙ ap (leaving_seats r p) c.deref.ensures.0 in
    let sit = sit_left c.args.self.now.rules.items c.args.o.rule r p hs ss
    (remove (seats_to ss (length (heads_of r))) p) c.deref-2.result.now ts at place seated
    (sit_to r p ss place) back in
    record {
      set_up = left_over c.args.self.now.rules.items c.args.self.now.directory.groups.items ts us
          (leaving r p hs) c.deref-2.result.now c.kill_all.ensures.rows c.kill_all.ensures.columns
          c.requires.rested.set_up;
      rests = part_left c.args.self.now.rules.items ts us (leaving r p hs) c.deref-2.result.now
          c.kill_all.ensures.rows sit c.requires.rested.rests;
    }

pub returns-clause-step : goal.returns-clause-step
returns-clause-step c q standing =
    let ts = c.args.self.now.tables.tables.items in
    let us = c.kill_all.new.tables.tables.items in
    let p = c.args.o.place in
    let r = c.index-rule.result.now in
    let hs = c.args.found.now.heads.items in
    let ss = c.args.found.now.seats.items in
    let is = c.requires.instance in
    let same = rule_is c.args.self.now.rules.items c.args.o.rule is.rule r is.at c.index-rule.ensures in
    let at = is.at ∙ ap Some same in
    let place = subst (λ (x : Rule). p < length (heads_of x)) same is.within in
    let seated = subst (λ x. IsSeated x (rows_of ts) p hs ss) same is.seated in
    let back = c.deref-2.ensures.0 ∙ c.leaving_rows-rows.ensures ∙ ap (leaving_seats r p) c.deref.ensures.0 in
    let rule : q ≡ r = rule_is c.args.self.now.rules.items c.args.o.rule q r standing c.index-rule.ensures in
    subst (λ x. Step (x ∷ []) ((contents (grid ts) ⊕ store_of c.args.fresh.now.items) ⊕ one (head hs p))
    (contents (grid us) ⊕ store_of c.put_fresh.new.fresh.items)) (sym rule)
    (fired (r ∷ []) 0 r p hs ss (remove (seats_to ss (length (heads_of r))) p)
    c.deref-2.result.now ts refl place seated (sit_to r p ss place) back
    us c.args.fresh.now.items c.put_fresh.new.fresh.items c.kill_all.ensures.rows c.put_fresh.ensures.store)

pub returns-clause-standing : goal.returns-clause-standing
returns-clause-standing c =
    stands_on c.args.self.now (record {
      seed = c.args.self.now.seed;
      rules = c.args.self.now.rules;
      directory = c.args.self.now.directory;
      tables = c.kill_all.new.tables;
    }) c.put_fresh.new.fresh.items
    (head c.args.found.now.heads.items c.args.o.place) c.args.o.standing c.standing_of-standing.result _
    c.standing_of-standing.ensures c.put_fresh.ensures.last
    refl refl (only_died c.args.self.now.tables.tables.items c.kill_all.new.tables.tables.items c.deref-2.result.now
    c.kill_all.ensures.rows) c.kill_all.ensures.ranks c.requires.standing
