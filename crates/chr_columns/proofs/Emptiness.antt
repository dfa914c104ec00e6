-- Tables without rows.
use Rattle.std.proofs.Common.{◌≡◌, ℕ, ◌+◌, ◌<◌, List, [], map, length, get_or, sym, ap, subst, ◌∙◌, arith}
use Rattle.std.specs.Prelude.{Option, Some, None, slice_get, ◌^◌}
use Rattle.std.proofs.Math.ListN.{get_or-map}
use Rattle.std.proofs.lemmas.List.{length-map}
use Rattle.chr_base.specs.declared.atom.Atom.{Atom}
use Rattle.chr_base.specs.declared.rule.Rule.{Rule}
use Rattle.chr_base.specs.FinBag.{empty}
use Rattle.chr_tables.specs.Contents.{Contents, no_table, rows_of, index_columns}
use Rattle.chr_plans.specs.Grids.{contents}
use Rattle.chr_columns.specs.declared.groups.Group.{Group}
use Rattle.chr_columns.specs.declared.making.Keys.{Keys}
use Rattle.chr_columns.specs.working.Making.{lists_of, columns_in}
use Rattle.chr_columns.specs.working.Resting.{grid, ArePlanned, AreCovered, IsSetUp}
use Rattle.chr_columns.proofs.Stored.{row_is, same_contents}

pub made_columns : (ts : List Contents) (keys : List Keys) → map (λ (c : Contents). c.keys) ts ≡ map lists_of keys
    → index_columns ts ≡ columns_in keys
made_columns ts keys e j t i = (
    ap (λ ks. slice_get ks i) (sym (get_or-map (λ (c : Contents). c.keys) ts t no_table) ∙ ap (λ ks. get_or ks t []) e))
    j

pub none_stored : (ts : List Contents) → ((t n : ℕ) → rows_of ts t n ≡ None) → contents (grid ts) ≡ empty
none_stored ts none = same_contents (grid ts) [] (λ j t n. (row_is ts t n ∙ none t n) j)

-- plans that were made are set up under tables without rows
pub set_up_empty : (rules : List Rule) (gs : List Group) (ts : List Contents) (keys : List Keys) → length keys
    ≡ length gs + 1 → length gs < 2 ^ 31 → ((t n : ℕ) → rows_of ts t n ≡ None)
    → map (λ (c : Contents). c.keys) ts ≡ map lists_of keys → ArePlanned rules gs (columns_in keys)
    → AreCovered rules gs (length rules)
    → IsSetUp rules gs (rows_of ts) (index_columns ts) (length ts)
set_up_empty rules gs ts keys many few none e are covered = record {
  tables = (let a = length-map ts (λ (c : Contents). c.keys) in let b = length-map keys lists_of in let c =
      ap length e in omega (arith, a, b, c, many));
  few = few;
  placed = λ t n a h. (absurd (let f : ◌≡◌ {A = Option Atom} None (Some a) = sym (none t n) ∙ h in cc));
  plans = subst (ArePlanned rules gs) (sym (made_columns ts keys e)) are;
  covered = covered;
}
