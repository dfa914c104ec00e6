use Rattle.std.specs.Prelude.{IsTrue, is_some}
use Rattle.std.proofs.Common.{[], ◌∷◌}
use Rattle.chr_plans.specs.Seats.{atom_in}
use Rattle.chr_tables.specs.Contents.{rows_of}
use Rattle.chr_columns.proofs.Firings.{left_over, part_left}
use Rattle.chr_columns.proofs.Removals.{only_seat, sits_alone, left_one}
use Rattle.chr_columns.proofs.Turns.{lives_atom}
use Rattle.chr_columns.proofs.rested.Rested.kill_one.Goals as goal

pub kill_all-requires : goal.kill_all-requires
kill_all-requires c = only_seat (λ k. IsTrue (is_some (atom_in (rows_of c.args.self.now.tables.tables.items) k)))
    c.args.seat c.requires.lives

pub returns-clause-rested : goal.returns-clause-rested
returns-clause-rested c =
    let ts = c.args.self.now.tables.tables.items in
    let us = c.kill_all.new.tables.tables.items in
    let s = c.args.seat in
    let a = lives_atom (atom_in (rows_of ts) s) c.requires.lives in
    let rules = c.args.self.now.rules.items in
    record {
      set_up = left_over rules c.args.self.now.directory.groups.items ts us (a.0 ∷ [])
          (s ∷ []) c.kill_all.ensures.rows c.kill_all.ensures.columns c.requires.rested.set_up;
      rests = part_left rules ts us (a.0 ∷ []) (s ∷ []) c.kill_all.ensures.rows
          (sits_alone ts s a.0 a.1) c.requires.rested.rests;
    }

pub returns-clause-taken : goal.returns-clause-taken
returns-clause-taken c a found = left_one c.args.self.now.tables.tables.items c.kill_all.new.tables.tables.items
    c.args.seat a found c.kill_all.ensures.rows
