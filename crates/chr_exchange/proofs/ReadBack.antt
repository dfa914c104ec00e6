-- Messages are read from their own texts.
use Rattle.std.proofs.Common.{◌≡◌, ℕ, zero, suc, ◌+◌, ◌-◌, ◌||◌, ◌<◌, List, [], ◌∷◌, length, map, Bool, true, false}
use Rattle.std.proofs.Common.{not, cond, nat_lt, nat_eq, FitsSigned, Option, Some, None, Ok, option_map}
use Rattle.std.proofs.Common.{option_and_then, position, refl, sym, ap, ◌∙◌, subst, arith}
use Rattle.std.specs.Prelude.{slice_get, int_le, ◌^◌, ℤ, pos, negsuc, neg_ℤ}
use Rattle.std.specs.Int.{w64}
use Rattle.std.specs.List.{AllByRecursion, list_all, list_any, position_or_len}
use Rattle.std.specs.Option.{ok_or}
use Rattle.std.specs.Str.{bytes_eq, IsUtf8}
use Rattle.std.specs.FinMap as finite
use Rattle.std.proofs.lemmas.Bool.{and_from, and_parts}
use Rattle.std.proofs.lemmas.Bool.Decides.{nat_tests}
use Rattle.std.proofs.lemmas.List.{length-map}
use Rattle.std.proofs.lemmas.Slice.Eq.{bytes_eq-Decides}
use mathlib.Core.Bool.{true≢false}
use Rattle.json.proofs.Printed.Utf8.{are_ascii, IsUtf8-are_ascii}
use Rattle.serde_json.specs.Data.{Data}
use Rattle.chr_base.specs.declared.atom.Atom.{Atom}
use Rattle.chr_base.specs.declared.program.Program.{Program}
use Rattle.chr_base.specs.Atoms.{atom_cmp}
use Rattle.chr_base.specs.FinBag as bag
use Rattle.chr_base.specs.FinBag.{total}
use Rattle.std.specs.Ordering.{eq_by_cmp}
use Rattle.chr_base.specs.Names.{is_lower, is_word_byte, is_word}
use Rattle.chr_base.specs.ProgramTests.{Declaration, declares, takes, are_distinct}
use Rattle.chr_base.specs.Programs.{declarations, rules_of, declares_atom}
use Rattle.chr_base.specs.Stores.{Store, store_of, size}
use Rattle.chr_base.specs.Texts.{name_at, print_cmp, in_print_order}
use Rattle.chr_base.specs.Values.{is_value, args_in, Each}
use Rattle.chr_base.proofs.Atoms.{atom_total}
use Rattle.chr_base.proofs.Declared.{Keeps, kept_by, le_from}
use Rattle.chr_base.proofs.Each.{list_of_each}
use Rattle.chr_base.proofs.FinBags.{count-of_list, count-items, sum_over-of_list, sum_over-items}
use Rattle.chr_base.proofs.Printing.{print_total}
use Rattle.chr_base.proofs.Stores.{same_store, size_store_of}
use Rattle.chr_json.specs.Deltas.{NamedOperation, delta_of}
use Rattle.chr_json.specs.Messages.{IsOperationWithinLimits}
use Rattle.chr_json.specs.Printed.{ArgumentsFit}
use Rattle.chr_json.specs.Summaries.{summary_of}
use Rattle.chr_json.specs.Values.{json_in}
use Rattle.chr_json.proofs.MessagesBack.{summaries_back, deltas_1_back, deltas_2_back}
use Rattle.chr_ops.specs.declared.range.IdRange.{IdRange}
use Rattle.chr_ops.specs.Operations.{Operation}
use Rattle.chr_exchange.specs.declared.fault.MessageFault.TheVariants as fault
use Rattle.chr_exchange.specs.Names.{named_atom, named_atoms, declared_operation, declared_operations}
use Rattle.chr_exchange.specs.Meant.{summary_meant, operations_meant, delta_meant, in_value}
use Rattle.chr_exchange.specs.Texts.{spelt_atom, spelt, delta_text, delta_text_1, summary_text}
use Rattle.chr_exchange.specs.ReadBack.{SummaryTextsAreMeant, IsDeclaredOperation, DeltaTextsAreRead}
use Rattle.chr_exchange.specs.ReadBack.{Delta1TextsAreMeant}
use Rattle.chr_exchange.proofs.Spelling.{of_name}

-- ---- from shapes to what they mean

summary_from : (o : Option Data) (rs : List IdRange) → option_and_then summary_of o ≡ Some rs → in_value summary_meant o
    ≡ Ok rs
summary_from None rs h = absurd (let e : ◌≡◌ {A = Option (List IdRange)} None (Some rs) = h in cc)
summary_from (Some d) rs h = ap (λ x. ok_or x fault.Shape) h

pub summaries_read : SummaryTextsAreMeant
summaries_read rs h = summary_from (json_in (summary_text rs)) rs (summaries_back rs h)

delta_from : (ds : List Declaration) (o : Option Data) (os : List NamedOperation) (es : List Operation)
    → option_and_then delta_of o ≡ Some os → declared_operations ds os ≡ Some es → in_value (delta_meant ds) o ≡ Ok es
delta_from ds None os es h g = absurd (let e : ◌≡◌ {A = Option (List NamedOperation)} None (Some os) = h in cc)
delta_from ds (Some d) os es h g = ap (operations_meant ds) h ∙ ap (λ x. ok_or x fault.UnknownSymbol) g

-- ---- a bag and its atoms in print order

reordered : (ds : List Declaration) (s : Store) → store_of (in_print_order ds s) ≡ s
reordered ds s =
    let atoms = bag.items s in
    same_store (store_of (in_print_order ds s)) s (λ q.
    (let one : Atom → ℕ = λ x. cond (eq_by_cmp atom_cmp q x) 1 0 in
    count-of_list atom_total (in_print_order ds s) q
    ∙ sym (sum_over-items one (bag.of_list {R = print_cmp ds} atoms))
    ∙ sum_over-of_list (print_total ds) one atoms
    ∙ sym (count-items s q)))

each_listed : (ds : List Declaration) (p : Atom → Bool) (s : Store) → Each p s → list_all p (in_print_order ds s) ≡ true
each_listed ds p s h = list_of_each p (in_print_order ds s) (subst (Each p) (sym (reordered ds s)) h)

as_many : (ds : List Declaration) (s : Store) → length (in_print_order ds s) ≡ size s
as_many ds s = sym (size_store_of (in_print_order ds s)) ∙ ap size (reordered ds s)

-- ---- a declared atom is the one of its name and arguments

-- a declaration that stands before another has another name or number of arguments
other_name : (ds : List Declaration) (d : Declaration) (i n : ℕ) → list_any (declares d.name d.arity) ds ≡ false
    → takes (slice_get ds i) n ≡ true → declares (name_at ds i) n d ≡ false
other_name [] d i n h t = absurd (true≢false (sym t))
other_name (e ∷ es) d zero n h t = by (declares e.name n d) refl
  where
    by : (b : Bool) → declares e.name n d ≡ b → b ≡ false
    by false g = refl
    by true g =
        let parts = and_parts (bytes_eq e.name d.name) (nat_eq n d.arity) g in
        let name : d.name ≡ e.name = sym ((bytes_eq-Decides e.name d.name).0 parts.0) in
        let arity : nat_eq d.arity e.arity ≡ true = (let a = parts.1 in grind (arith, nat_tests)) in
        let found : declares d.name d.arity e ≡ true = and_from (bytes_eq d.name e.name) (nat_eq d.arity e.arity)
        ((bytes_eq-Decides d.name e.name).1 name) arity in
        absurd (let hit : (declares d.name d.arity e || list_any (declares d.name d.arity) es) ≡ true =
        ap (λ b. b || list_any (declares d.name d.arity) es) found in true≢false (sym hit ∙ h))
other_name (e ∷ es) d (suc i) n h t = other_name es d i n (later (declares d.name d.arity e) h) t
  where
    later : (b : Bool) → b || list_any (declares d.name d.arity) es ≡ false → list_any (declares d.name d.arity) es
        ≡ false
    later true g = absurd (true≢false g)
    later false g = g

not_true : (b : Bool) → not b ≡ true → b ≡ false
not_true false h = refl
not_true true h = absurd (true≢false (sym h))

at_place : (ds : List Declaration) → are_distinct ds ≡ true → (i n : ℕ) → takes (slice_get ds i) n ≡ true
    → (position_or_len (declares (name_at ds i) n) ds ≡ i) × (i < length ds)
at_place [] h i n t = absurd (true≢false (sym t))
at_place (d ∷ ds) h zero n t =
    let arity : nat_eq n d.arity ≡ true = (let a = t in grind (arith, nat_tests)) in
    let itself : declares d.name n d ≡ true = and_from (bytes_eq d.name d.name) (nat_eq n d.arity)
    ((bytes_eq-Decides d.name d.name).1 refl) arity in
    (ap (λ b. cond (not b) (1 + position_or_len (declares d.name n) ds) 0) itself, omega arith)
at_place (d ∷ ds) h (suc i) n t =
    let parts = and_parts (not (list_any (declares d.name d.arity) ds)) (are_distinct ds) h in
    let other = other_name ds d i n (not_true (list_any (declares d.name d.arity) ds) parts.0) t in
    let rest = at_place ds parts.1 i n t in (
      ap (λ b. cond (not b) (1 + position_or_len (declares (name_at ds i) n) ds) 0) other
          ∙ (let e = rest.0 in omega (arith, e)),
      (let l = rest.1 in omega (arith, l)),
    )

place_back : (ds : List Declaration) → are_distinct ds ≡ true → (i n : ℕ) → takes (slice_get ds i) n ≡ true
    → position (declares (name_at ds i) n) ds ≡ Some i
place_back ds h i n t =
    let at = at_place ds h i n t in
    let inside : nat_lt i (length ds) ≡ true = (let l = at.1 in grind (arith, nat_tests)) in
    (λ k. cond (nat_lt (at.0 k) (length ds)) (Some (at.0 k)) None) ∙ ap (λ b. cond b (Some i) None) inside

module _ (p : Program) where
  abbrev ds : List Declaration
  ds = declarations p

  keeps : Keeps ds (rules_of p)
  keeps = kept_by ds (rules_of p) p.well_formed

  atom_back : (a : Atom) → declares_atom ds a ≡ true → named_atom ds (spelt_atom ds a) ≡ Some a
  atom_back a h = ap (option_map (λ i. record { symbol = record { 0 = i }; args = record { items = a.args.items } }))
      (place_back ds keeps.distinct a.symbol.0 (length a.args.items) h)

  all_of : (q : Atom → Bool) (as' : List Atom) → list_all q as' ≡ true → AllByRecursion (λ a. q a ≡ true) as'
  all_of q [] h = tt
  all_of q (a ∷ as') h = let parts = and_parts (q a) (list_all q as') h in (parts.0, all_of q as' parts.1)

  atoms_back : (s : Store) → Each (declares_atom ds) s → named_atoms ds (map (spelt_atom ds) (in_print_order ds s))
      ≡ Some (in_print_order ds s)
  atoms_back s h = named_back (in_print_order ds s) (all_of (declares_atom ds) (in_print_order ds s)
      (each_listed ds (declares_atom ds) s h))
    where
      named_back : (as' : List Atom) → AllByRecursion (λ a. declares_atom ds a ≡ true) as'
          → named_atoms ds (map (spelt_atom ds) as') ≡ Some as'
      named_back [] g = refl
      named_back (a ∷ as') g =
          ap (option_and_then (λ y. option_map (λ ys. y ∷ ys) (named_atoms ds (map (spelt_atom ds) as'))))
          (atom_back a g.0)
          ∙ ap (option_map (λ ys. a ∷ ys)) (named_back as' g.1)

  operation_back : (o : Operation) → IsDeclaredOperation ds o → declared_operation ds (spelt ds o) ≡ Some o
  operation_back o h = ap (option_map (λ atoms. (o.0, store_of atoms))) (atoms_back o.1 h.declared)
      ∙ ap (λ s. Some (o.0, s)) (reordered ds o.1)

  operations_back : (os : List Operation) → AllByRecursion (IsDeclaredOperation ds) os
      → declared_operations ds (map (spelt ds) os) ≡ Some os
  operations_back [] h = refl
  operations_back (o ∷ os) h =
      ap (option_and_then (λ y. option_map (λ ys. y ∷ ys) (declared_operations ds (map (spelt ds) os))))
      (operation_back o h.0)
      ∙ ap (option_map (λ ys. o ∷ ys)) (operations_back os h.1)

  -- ---- what is spelt is within the limits

  word_ascii : (bs : List ℕ) → list_all is_word_byte bs ≡ true → are_ascii bs ≡ true
  word_ascii [] h = refl
  word_ascii (b ∷ bs) h =
      let parts = and_parts (is_word_byte b) (list_all is_word_byte bs) h in
      and_from (nat_lt b 128) (are_ascii bs) (let w = parts.0 in grind (arith, nat_tests)) (word_ascii bs parts.1)

  name_utf8 : (name : List ℕ) → is_word name ≡ true → IsUtf8 name
  name_utf8 [] h = IsUtf8-are_ascii [] refl
  name_utf8 (b ∷ bs) h =
      let parts = and_parts (is_lower b) (list_all is_word_byte bs) h in
      IsUtf8-are_ascii (b ∷ bs) (and_from (nat_lt b 128) (are_ascii bs) (let w = parts.0 in grind (arith, nat_tests))
      (word_ascii bs parts.1))

  names_utf8 : (as' : List Atom) → AllByRecursion (λ w. IsUtf8 w.name) (map (spelt_atom ds) as')
  names_utf8 [] = tt
  names_utf8 (a ∷ as') = (
    of_name IsUtf8 (IsUtf8-are_ascii [] refl) name_utf8 ds keeps.ranges a.symbol.0,
    names_utf8 as',
  )

  value_fits : (z : ℤ) → is_value z ≡ true → FitsSigned w64 z
  value_fits (pos n) h =
      let parts = and_parts (int_le (neg_ℤ (pos (2 ^ 63))) (pos n)) (int_le (pos n) (pos (2 ^ 63 - 1))) h in
      let small = le_from n (2 ^ 63 - 1) parts.1 in
      record { sfits = omega (arith, small) }
  value_fits (negsuc n) h =
      let parts = and_parts (int_le (neg_ℤ (pos (2 ^ 63))) (negsuc n)) (int_le (negsuc n) (pos (2 ^ 63 - 1))) h in
      let small = le_from n (2 ^ 63 - 1) parts.0 in
      record { sfits = omega (arith, small) }

  values_fit : (zs : List ℤ) → list_all is_value zs ≡ true → AllByRecursion (FitsSigned w64) zs
  values_fit [] h = tt
  values_fit (z ∷ zs) h = let parts = and_parts (is_value z) (list_all is_value zs) h in
      (value_fits z parts.0, values_fit zs parts.1)

  arguments_fit : (as' : List Atom) → list_all (args_in is_value) as' ≡ true
      → AllByRecursion ArgumentsFit (map (spelt_atom ds) as')
  arguments_fit [] h = tt
  arguments_fit (a ∷ as') h = let parts = and_parts (args_in is_value a) (list_all (args_in is_value) as') h in
      (values_fit a.args.items parts.0, arguments_fit as' parts.1)

  within_limits : (o : Operation) → IsDeclaredOperation ds o → IsOperationWithinLimits (spelt ds o)
  within_limits o h =
      let atoms = in_print_order ds o.1 in
      let many = length-map atoms (spelt_atom ds) ∙ as_many ds o.1 in
      record {
        origin = h.origin;
        number = h.number;
        length = (let s = h.bag.0 in (omega (arith, many, s), omega (arith, many, s)));
        names = names_utf8 atoms;
        arguments = arguments_fit atoms (each_listed ds (args_in is_value) o.1 h.bag.1);
      }

  all_within_limits : (os : List Operation) → AllByRecursion (IsDeclaredOperation ds) os
      → AllByRecursion IsOperationWithinLimits (map (spelt ds) os)
  all_within_limits [] h = tt
  all_within_limits (o ∷ os) h = (within_limits o h.0, all_within_limits os h.1)

pub deltas_read : DeltaTextsAreRead
deltas_read p m h =
    let ds = declarations p in
    let es = finite.entries m in
    delta_from ds (json_in (delta_text ds m)) (map (spelt ds) es) es
    (deltas_2_back (map (spelt ds) es) (all_within_limits p es h)) (operations_back p es h)

pub deltas_1_read : Delta1TextsAreMeant
deltas_1_read p m h =
    let ds = declarations p in
    let es = finite.entries m in
    delta_from ds (json_in (delta_text_1 ds m)) (map (spelt ds) es) es
    (deltas_1_back (map (spelt ds) es) (all_within_limits p es h)) (operations_back p es h)
