use Rattle.std.proofs.Common.{◌≡◌, ℕ, ◌<◌, ◌≤◌, length, slice_get, refl, sym, ap, subst, ◌∙◌, arith}
use Rattle.std.proofs.lemmas.Bool.Decides.{nat_tests}
use Rattle.std.proofs.lemmas.Option.{slice_get_within, slice_get_read, same_Some}
use Rattle.chr_plans.specs.Reactions.{NoneBy, Reacts}
use Rattle.chr_tables.specs.Contents.{rows_of}
use Rattle.chr_columns.specs.working.Groups.{table_of_atom}
use Rattle.chr_columns.proofs.Reacting.{all_fit, none_with, reacting, same_set_up, same_stored, group_at, is_one}
use Rattle.chr_columns.proofs.Resuming.{goes_by}
use Rattle.chr_columns.proofs.rested.Rested.react.Goals as goal

pub returns-in_default-clause-none : goal.returns-in_default-clause-none
returns-in_default-clause-none c =
    none_with c.args.self.now.rules.items c.args.self.now.directory.groups.items c.args.self.now.tables.tables.items
    c.requires.rested.set_up c.args.active.now (λ g e.
    (absurd (let test = c.in_default.ensures.lookup in
    let t : c.args.table ≡ table_of_atom c.args.self.now.directory.groups.items c.args.active.now =
    c.requires.table in
    let n = ap length c.deref.ensures.value in
    let l = slice_get_within c.args.self.now.directory.groups.items
    (table_of_atom c.args.self.now.directory.groups.items c.args.active.now) g e in
    let past : length c.deref.result.now ≤ c.args.table = grind (arith, nat_tests) in
    omega (arith, past, t, n, l))))

pub react-requires-clause-fits : goal.react-requires-clause-fits
react-requires-clause-fits c =
    let test = c.in-Some.ensures.lookup.0 in
    let within : c.args.table < length c.deref.result.now = grind (arith, nat_tests) in
    let t : c.args.table ≡ table_of_atom c.args.self.now.directory.groups.items c.args.active.now =
    c.requires.table in
    let at = group_at c.args.self.now.directory.groups.items c.deref.result.now c.args.active.now
    c.args.table c.in-Some.group.now c.deref.ensures.value t within c.in-Some.ensures.lookup.1 in
    rw (c.deref-2.ensures.value, c.deref-3.ensures.value)
    (all_fit c.args.self.now.rules.items c.args.self.now.directory.groups.items _ _ _ c.requires.rested.set_up
    (table_of_atom c.args.self.now.directory.groups.items c.args.active.now) c.in-Some.group.now at)

pub returns-clause-stored : goal.returns-clause-stored
returns-clause-stored c = same_stored _ _ c.react.ensures.rows

pub returns-in_default-react-clause-stored : goal.returns-in_default-react-clause-stored
returns-in_default-react-clause-stored c = same_stored _ _ c.react.ensures.rows

pub returns-clause-rested : goal.returns-clause-rested
returns-clause-rested c = record {
  set_up = same_set_up _ _ _ _ c.react.ensures.rows c.react.ensures.columns c.react.ensures.tables
      c.requires.rested.set_up;
  rests = rw (same_stored _ _ c.react.ensures.rows) c.requires.rested.rests;
}

pub returns-in_default-react-clause-rested : goal.returns-in_default-react-clause-rested
returns-in_default-react-clause-rested c = record {
  set_up = same_set_up _ _ _ _ c.react.ensures.rows c.react.ensures.columns c.react.ensures.tables
      c.requires.rested.set_up;
  rests = rw (same_stored _ _ c.react.ensures.rows) c.requires.rested.rests;
}

pub returns-in_default-react-clause-none : goal.returns-in_default-react-clause-none
returns-in_default-react-clause-none c =
    let test = c.in-Some.ensures.lookup.0 in
    let within : c.args.table < length c.deref.result.now = grind (arith, nat_tests) in
    let t : c.args.table ≡ table_of_atom c.args.self.now.directory.groups.items c.args.active.now =
    c.requires.table in
    let at = group_at c.args.self.now.directory.groups.items c.deref.result.now c.args.active.now
    c.args.table c.in-Some.group.now c.deref.ensures.value t within c.in-Some.ensures.lookup.1 in
    let none : (k : ℕ) → k < length c.in-Some.group.now.plans.items → NoneBy c.args.self.now.rules.items
    (rows_of c.args.self.now.tables.tables.items) c.args.active.now (slice_get c.in-Some.group.now.plans.items k) =
    rw (c.deref-2.ensures.value, c.deref-3.ensures.value) at c.in_default-react.ensures.none in
    none_with c.args.self.now.rules.items c.args.self.now.directory.groups.items c.args.self.now.tables.tables.items
    c.requires.rested.set_up c.args.active.now (λ g e.
    (subst (λ x. (k : ℕ) → k < length x.plans.items → NoneBy c.args.self.now.rules.items
    (rows_of c.args.self.now.tables.tables.items) c.args.active.now (slice_get x.plans.items k))
    (same_Some c.in-Some.group.now g (sym at ∙ e)) none))

pub index-plan-requires : goal.index-plan-requires
index-plan-requires c =
    let l = is_one _ _ _ c.deref-3.result.now c.in-Some-react.number _ _ _ c.in-Some-react.ensures.found in
    let e = ap length c.deref-3.ensures.value in
    omega (arith, l, e, c.in-Some.group.now.plans.ok.0)

pub returns-clause-found : goal.returns-clause-found
returns-clause-found c =
    let test = c.in-Some.ensures.lookup.0 in
    let within : c.args.table < length c.deref.result.now = grind (arith, nat_tests) in
    let t : c.args.table ≡ table_of_atom c.args.self.now.directory.groups.items c.args.active.now =
    c.requires.table in
    let at = group_at c.args.self.now.directory.groups.items c.deref.result.now c.args.active.now
    c.args.table c.in-Some.group.now c.deref.ensures.value t within c.in-Some.ensures.lookup.1 in
    let l = is_one _ _ _ c.deref-3.result.now c.in-Some-react.number _ _ _ c.in-Some-react.ensures.found in
    let e = ap length c.deref-3.ensures.value in
    let plan = slice_get_read c.in-Some.group.now.plans.items (length c.in-Some.group.now.plans.items)
    c.in-Some-react.number c.index-plan.result.now refl (omega (arith, l, e)) c.index-plan.ensures in
    let found : Reacts c.args.self.now.rules.items (rows_of c.args.self.now.tables.tables.items) c.args.active.now
    (slice_get c.in-Some.group.now.plans.items c.in-Some-react.number) c.react.new.heads.items
    c.react.new.seats.items c.react.new.values.items =
    rw (c.deref-2.ensures.value, c.deref-3.ensures.value) at c.in-Some-react.ensures.found in
    let w = reacting c.args.self.now.rules.items c.args.self.now.directory.groups.items _ _ _ c.requires.rested.set_up
    c.args.active.now (table_of_atom c.args.self.now.directory.groups.items c.args.active.now) c.in-Some-react.number
    c.in-Some.group.now c.index-plan.result.now c.react.new.heads.items c.react.new.seats.items
    c.react.new.values.items at plan found in
    record {
      rule = w.0;
      at = w.1;
      within = w.2;
      seated = rw c.react.ensures.rows w.3;
      active = w.4;
      bound = w.5;
    }

pub react-requires-clause-passed : goal.react-requires-clause-passed
react-requires-clause-passed c =
    let test = c.in-Some.ensures.lookup.0 in
    let within : c.args.table < length c.deref.result.now = grind (arith, nat_tests) in
    let t : c.args.table ≡ table_of_atom c.args.self.now.directory.groups.items c.args.active.now =
    c.requires.table in
    let at = group_at c.args.self.now.directory.groups.items c.deref.result.now c.args.active.now
    c.args.table c.in-Some.group.now c.deref.ensures.value t within c.in-Some.ensures.lookup.1 in
    rw (c.deref-2.ensures.value, c.deref-3.ensures.value)
    (goes_by c.args.self.now.rules.items c.args.self.now.directory.groups.items _ _ c.args.active.now c.args.from
    c.in-Some.group.now at c.requires.standing)
