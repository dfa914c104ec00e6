-- Journals.
use Rattle.std.specs.Prelude.{◌≡◌, ◌==◌, ℕ, ◌+◌, List, [], ◌∷◌, ◌++◌, count_by}
use Rattle.chr_base.specs.declared.program.Program.{Program}
use Rattle.chr_replica.specs.Replicas.{Replica, first}
use Rattle.chr_acts.specs.declared.entry.Entry.{Entry}
use Rattle.chr_acts.specs.Events.{Does}

-- how many entries a seat has
abbrev pub count_of : ℕ → List Entry → ℕ
count_of seat entries = count_by (λ (e : Entry). e.seat == seat) entries

-- Each entry of a list is an event of a replica of the program p, under its seat's next number, and all of them lead
-- from s to t, where `before` are the entries before the list.
abbrev pub Leads : Program → List Entry → Replica → List Entry → Replica → Type 0
Leads p before s [] t = t ≡ s
Leads p before s (e ∷ es) t =
    (u : Replica) × (e.number ≡ count_of e.seat before + 1) × Does p s e.act e.reply u
    × Leads p (before ++ e ∷ []) u es t

-- the entries lead from the replica that was told nothing to s
abbrev pub IsLegal : Program → List Entry → Replica → Type 0
IsLegal p entries s = Leads p [] first entries s
