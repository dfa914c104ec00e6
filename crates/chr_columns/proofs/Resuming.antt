-- Where the search for an atom may go on that stays when a rule fires.
use Rattle.std.proofs.Common.{◌≡◌, ◌++◌, List, [], ◌∷◌, length, get_or, sym, ap, subst, ◌∙◌, arith, length-append}
use Rattle.std.specs.Prelude.{Option, Some, None, IfSome, slice_get}
use Rattle.std.proofs.Math.Seq.{get_or-append_seam}
use Rattle.std.proofs.lemmas.Option.{same_Some}
use Rattle.chr_base.specs.declared.atom.Atom.{Atom}
use Rattle.chr_base.specs.declared.rule.Rule.{Rule}
use Rattle.chr_base.specs.Atoms.{no_atom}
use Rattle.chr_plans.specs.declared.react.Standing.{Standing}
use Rattle.chr_plans.specs.declared.rows.Seat.{Seat}
use Rattle.chr_plans.specs.Reactions.{MayResume}
use Rattle.chr_plans.specs.Rows.{Tables, Ranks}
use Rattle.chr_plans.proofs.Reactions.{OnlyDied, resume_later}
use Rattle.chr_tables.specs.Contents.{Contents, rows_of, ranks_of}
use Rattle.chr_plans.specs.Grids.{Grid, rows_in, without_rows}
use Rattle.chr_columns.specs.declared.groups.Group.{Group}
use Rattle.chr_columns.specs.declared.rested.Rested.{Rested}
use Rattle.chr_columns.specs.working.Groups.{table_of_atom}
use Rattle.chr_columns.specs.working.Resting.{grid, MayGoOn, Stands}
use Rattle.chr_columns.proofs.Stored.{row_is, rows_stay}

-- a list has one last atom
last_same : (xs ys : List Atom) (a b : Atom) → xs ++ a ∷ [] ≡ ys ++ b ∷ [] → a ≡ b
last_same xs ys a b e =
    let n = ap length e in
    let l = length-append xs (a ∷ []) in
    let m = length-append ys (b ∷ []) in
    let same : length xs ≡ length ys = omega (arith, n, l, m) in
    sym (get_or-append_seam xs a [] no_atom) ∙ ap (λ zs. get_or zs (length xs) no_atom) e
    ∙ ap (λ k. get_or (ys ++ b ∷ []) k no_atom) same ∙ get_or-append_seam ys b [] no_atom

-- without some rows the others are as before
pub only_died : (ts us : List Contents) (ss : List Seat) → grid us ≡ without_rows (grid ts) ss
    → OnlyDied (rows_of ts) (rows_of us)
only_died ts us ss e t n b h = sym (row_is ts t n) ∙ rows_stay (grid ts) ss t n b
    (ap (λ (g : Grid). rows_in g t n) (sym e) ∙ row_is us t n ∙ h)

-- where the atom is the last fresh one, its search may go on when rows have died
pub stands_on : (r r' : Rested) (fresh : List Atom) (a : Atom) (s : Standing) (found : Option Standing) (kept : Type 0)
    → IfSome found (λ x. (x ≡ s) × kept)
    → (kept → (xs : List Atom) × (fresh ≡ xs ++ a ∷ [])) → r'.rules ≡ r.rules → r'.directory ≡ r.directory
    → OnlyDied (rows_of r.tables.tables.items) (rows_of r'.tables.tables.items)
    → ranks_of r'.tables.tables.items ≡ ranks_of r.tables.tables.items → MayGoOn r a s → Stands r' fresh found
stands_on r r' fresh a s None kept is last rules groups died ranks goes = tt
stands_on r r' fresh a s (Some x) kept is last rules groups died ranks goes = λ xs b e g at. (
    let w = last is.1 in
    let same : a ≡ b = last_same w.0 xs a b (sym w.1 ∙ e) in
    let here : slice_get r.directory.groups.items (table_of_atom r.directory.groups.items a) ≡ Some g =
    ap (λ d. slice_get d.groups.items (table_of_atom d.groups.items a)) (sym groups)
    ∙ ap (λ c. slice_get r'.directory.groups.items (table_of_atom r'.directory.groups.items c)) same ∙ at in
    let after = rows_of r'.tables.tables.items in
    let rank = ranks_of r'.tables.tables.items in
    let before : MayResume r.rules.items (rows_of r.tables.tables.items) rank a g.plans.items s =
    subst (λ k. MayResume r.rules.items (rows_of r.tables.tables.items) k a g.plans.items s) (sym ranks)
    (goes g here) in
    let later = resume_later r.rules.items (rows_of r.tables.tables.items) after rank died a g.plans.items s before in
    subst (λ y. MayResume r'.rules.items after rank b g.plans.items y) (sym is.0)
    (subst (λ c. MayResume r'.rules.items after rank c g.plans.items s) same
    (subst (λ rs. MayResume rs.items after rank a g.plans.items s) (sym rules) later)))

-- the plans of the atom's group
pub goes_by : (rules : List Rule) (groups : List Group) (rows : Tables) (rank : Ranks) (a : Atom)
    (from : Option Standing) (h : Group) → slice_get groups (table_of_atom groups a) ≡ Some h
    → IfSome from (λ s. (g : Group) → slice_get groups (table_of_atom groups a) ≡ Some g
    → MayResume rules rows rank a g.plans.items s)
    → IfSome from (MayResume rules rows rank a h.plans.items)
goes_by rules groups rows rank a None h at goes = tt
goes_by rules groups rows rank a (Some s) h at goes = goes h at

pub goes_on : (rules : List Rule) (groups : List Group) (rows : Tables) (rank : Ranks) (a : Atom) (s : Standing)
    (h : Group) → slice_get groups (table_of_atom groups a) ≡ Some h
    → MayResume rules rows rank a h.plans.items s → (g : Group) → slice_get groups (table_of_atom groups a) ≡ Some g
    → MayResume rules rows rank a g.plans.items s
goes_on rules groups rows rank a s h at may g e = subst (λ x. MayResume rules rows rank a x.plans.items s)
    (same_Some h g (sym at ∙ e)) may

-- where the search for the last fresh atom may go on, it may when this atom has left the fresh ones
pub stood : (r : Rested) (fresh left : List Atom) (a : Atom) (standing : Option Standing) → Stands r fresh standing
    → fresh ≡ left ++ a ∷ [] → IfSome standing (MayGoOn r a)
stood r fresh left a None h e = tt
stood r fresh left a (Some s) h e = h left a e
