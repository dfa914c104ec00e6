-- The listing gives all overlaps, each once, in order.
use Rattle.std.specs.Prelude.{◌≡◌, ℕ, ◌+◌, ◌-◌, ◌<◌, ◌≤◌, ◌⊎◌, Bool, true, cond, List, [], ◌∷◌, ◌++◌, length, Option}
use Rattle.std.specs.Prelude.{Some, None, slice_get}
use Rattle.std.specs.List.{flat_map, range_with_len}
use Rattle.std.proofs.Common.{refl, sym, ap, subst, ◌∙◌, inl, inr, arith, append_assoc, append-nil}
use Rattle.std.proofs.lemmas.Option.{slice_get_within}
use Rattle.chr_base.specs.declared.term.Pattern.{Pattern}
use Rattle.chr_base.specs.declared.rule.Rule.{Rule}
use Rattle.chr_base.specs.Rules.{heads_of}
use Rattle.chr_types.specs.OrderTypes.{In}
use Rattle.chr_confluence.specs.Matchings.{IsInjective, matches_removed}
use Rattle.chr_confluence.specs.Overlaps.{SameSymbols, IsMatching, IsOverlap}
use Rattle.chr_types.proofs.Enumeration.{if_in}
use Rattle.chr_confluence.proofs.Frees.{in_range, range_in}
use Rattle.chr_overlaps.specs.declared.overlap.Overlap.{Overlap}
use Rattle.chr_overlaps.specs.OverlapLists.{IsOverlapOf, overlap_cmp, AreOverlapsBetween}
use Rattle.chr_overlaps.specs.working.Listing.{may_follow, with_entry, going_on, overlaps_behind, begun, overlaps_at}
use Rattle.chr_overlaps.specs.working.Listing.{overlaps_of_pair, overlaps_of_rule}
use Rattle.chr_types.proofs.Members.{in_flat_map, flat_map_in}
use Rattle.chr_overlaps.proofs.Members.{less_at, all_rise, cond_rises, OverlapsRise}
use Rattle.chr_overlaps.proofs.Entries.{IsNew, symbols_more, symbols_first, symbol_within, follows_means, means_follows}
use Rattle.chr_overlaps.proofs.Entries.{apart_more, new_there}

abbrev with_entries : Overlap → List ℕ → Overlap
with_entries o t = record { first = o.first; second = o.second; matching = record { items = o.matching.items ++ t } }

no_more_entries : (o : Overlap) → with_entries o [] ≡ o
no_more_entries o = λ i. record {
  first = o.first;
  second = o.second;
  matching =
      record { items = append-nil o.matching.items i };
}

one_more_entry : (o : Overlap) (e : ℕ) (t : List ℕ) → with_entries (with_entry o e) t ≡ with_entries o (e ∷ t)
one_more_entry o e t = λ i. record {
  first = o.first;
  second = o.second;
  matching =
      record { items = append_assoc o.matching.items (e ∷ []) t i };
}

-- the overlaps of two rules that begin with the entries of o, where ps are the heads of the first that have none yet
module _ (r s : Rule) where
  abbrev range : List ℕ
  range = range_with_len 0 (length (heads_of s) + 1)

  abbrev is_touching : Overlap → Bool
  is_touching o = matches_removed (length r.kept.items) (length s.kept.items) o.matching.items

  -- x is o with further entries
  pub record GoesOn (ps : List Pattern) (o x : Overlap) : Type 0 where
    pub entries : List ℕ
    pub same : x ≡ with_entries o entries
    pub symbols : SameSymbols (heads_of s) entries ps
    pub touching : is_touching x ≡ true

  pub shape : (ps : List Pattern) (o x : Overlap) → In x (overlaps_behind r s ps o) → GoesOn ps o x
  shape [] o x i =
      let m = if_in x (is_touching o) (o ∷ []) i in
      let e : x ≡ o = elim m.1 as (λ _. x ≡ o) [ inl e ↦ e | inr n ↦ absurd n ] in
      record { entries = []; same = e ∙ sym (no_more_entries o); symbols = tt; touching = ap is_touching e ∙ m.0 }
  shape (p ∷ ps) o x i =
      let m = in_flat_map x (going_on (overlaps_behind r s ps) (heads_of s) o p) range i in
      let b = range_in 0 (length (heads_of s) + 1) m.0 m.1 in
      let c = if_in x (may_follow (heads_of s) o.matching.items p m.0) (overlaps_behind r s ps (with_entry o m.0))
      m.2 in
      let f = follows_means (heads_of s) o.matching.items p m.0 (omega (arith, b)) c.0 in
      let g = shape ps (with_entry o m.0) x c.1 in
      record {
        entries = m.0 ∷ g.entries;
        same = g.same ∙ one_more_entry o m.0 g.entries;
        symbols = symbols_more (heads_of s) p ps m.0 g.entries f.1 g.symbols;
        touching = g.touching;
      }

  -- no overlap that goes on from o names a place twice, where o does not
  pub apart : (ps : List Pattern) (o x : Overlap) → IsInjective o.matching.items → In x (overlaps_behind r s ps o)
      → IsInjective x.matching.items
  apart [] o x a i =
      let m = if_in x (is_touching o) (o ∷ []) i in
      elim m.1 as (λ _. IsInjective x.matching.items) [
        | inl e ↦ subst (λ (y : Overlap). IsInjective y.matching.items)
            (sym e) a
        | inr n ↦ absurd n
      ]
  apart (p ∷ ps) o x a i =
      let m = in_flat_map x (going_on (overlaps_behind r s ps) (heads_of s) o p) range i in
      let b = range_in 0 (length (heads_of s) + 1) m.0 m.1 in
      let c = if_in x (may_follow (heads_of s) o.matching.items p m.0) (overlaps_behind r s ps (with_entry o m.0))
      m.2 in
      let f = follows_means (heads_of s) o.matching.items p m.0 (omega (arith, b)) c.0 in
      apart ps (with_entry o m.0) x (apart_more o.matching.items m.0 a f.0) c.1

  -- no overlap is missing
  pub complete : (ps : List Pattern) (o : Overlap) (t : List ℕ) → SameSymbols (heads_of s) t ps
      → IsInjective (o.matching.items ++ t) → is_touching (with_entries o t) ≡ true
      → In (with_entries o t) (overlaps_behind r s ps o)
  complete [] o [] h a g =
      let e = no_more_entries o in
      let k : is_touching o ≡ true = ap is_touching (sym e) ∙ g in
      subst (λ b. In (with_entries o []) (cond b (o ∷ []) [])) (sym k) (inl e)
  complete [] o (e ∷ t) h a g = absurd h
  complete (p ∷ ps) o [] h a g = absurd h
  complete (p ∷ ps) o (e ∷ t) h a g =
      let parts = symbols_first (heads_of s) p ps e t h in
      let new : IsNew o.matching.items e = new_there o.matching.items t e a in
      let f : may_follow (heads_of s) o.matching.items p e ≡ true =
      means_follows (heads_of s) o.matching.items p e new parts.0 in
      let w = symbol_within (heads_of s) p e parts.0 in
      let q = append_assoc o.matching.items (e ∷ []) t in
      let more : In (with_entries (with_entry o e) t) (overlaps_behind r s ps (with_entry o e)) =
      complete ps (with_entry o e) t parts.1 (subst IsInjective (sym q) a)
      (ap is_touching (one_more_entry o e t) ∙ g) in
      let there : In (with_entries o (e ∷ t)) (overlaps_behind r s ps (with_entry o e)) =
      subst (λ (y : Overlap). In y (overlaps_behind r s ps (with_entry o e))) (one_more_entry o e t) more in
      flat_map_in (with_entries o (e ∷ t)) (going_on (overlaps_behind r s ps) (heads_of s) o p) e range
      (in_range 0 (length (heads_of s) + 1) e (omega arith) (omega (arith, w)))
      (subst (λ b. In (with_entries o (e ∷ t)) (cond b (overlaps_behind r s ps (with_entry o e)) [])) (sym f) there)

  pub rising : (ps : List Pattern) (o : Overlap) → OverlapsRise (overlaps_behind r s ps o)
  rising [] o = cond_rises (is_touching o) (o ∷ []) ((λ p i. elim i [ ]), tt)
  rising (p ∷ ps) o = all_rise (going_on (overlaps_behind r s ps) (heads_of s) o p) 0 (length (heads_of s) + 1)
      (λ e. cond_rises (may_follow (heads_of s) o.matching.items p e) (overlaps_behind r s ps (with_entry o e))
      (rising ps (with_entry o e)))
      (λ d e x y l i j. (let a = shape ps (with_entry o d) x
      (if_in x (may_follow (heads_of s) o.matching.items p d) (overlaps_behind r s ps (with_entry o d)) i).1 in
      let b = shape ps (with_entry o e) y (if_in y (may_follow (heads_of s) o.matching.items p e)
      (overlaps_behind r s ps (with_entry o e)) j).1 in
      (λ k. overlap_cmp ((a.same ∙ one_more_entry o d a.entries) k) ((b.same ∙ one_more_entry o e b.entries) k))
      ∙ less_at (o.first ∷ o.second ∷ o.matching.items) a.entries b.entries d e l))

-- x is an overlap of the rules a and b, which stand at the places i and j
record OfPair (i j : ℕ) (a b : Option Rule) (x : Overlap) : Type 0 where
  rule1 : Rule
  rule2 : Rule
  first : a ≡ Some rule1
  second : b ≡ Some rule2
  entries : List ℕ
  same : x ≡ with_entries (begun i j) entries
  matching : IsMatching rule1 rule2 entries

of_pair : (i j : ℕ) (a b : Option Rule) (x : Overlap) → In x (overlaps_at i j a b) → OfPair i j a b x
of_pair i j None b x h = elim h [ ]
of_pair i j (Some r) None x h = elim h [ ]
of_pair i j (Some r) (Some s) x h =
    let g = shape r s (heads_of r) (begun i j) x h in
    let a = apart r s (heads_of r) (begun i j) x tt h in
    record {
      rule1 = r;
      rule2 = s;
      first = refl;
      second = refl;
      entries = g.entries;
      same = g.same;
      matching = record {
        symbols = g.symbols;
        apart = subst (λ (y : Overlap). IsInjective y.matching.items) g.same a;
        touching = subst (λ (y : Overlap). matches_removed (length r.kept.items) (length s.kept.items) y.matching.items
            ≡ true) g.same g.touching;
      };
    }

pairs_rise : (i j : ℕ) (a b : Option Rule) → OverlapsRise (overlaps_at i j a b)
pairs_rise i j None b = tt
pairs_rise i j (Some r) None = tt
pairs_rise i j (Some r) (Some s) = rising r s (heads_of r) (begun i j)

module _ (rules : List Rule) where
  in_pair : (i j : ℕ) (x : Overlap) → In x (overlaps_of_pair rules i j)
      → OfPair i j (slice_get rules i) (slice_get rules j) x
  in_pair i j x h = of_pair i j (slice_get rules i) (slice_get rules j) x h

  -- an overlap of the rule at i with itself or a later one
  record OfRule (i : ℕ) (x : Overlap) : Type 0 where
    place : ℕ
    after : i ≤ place
    pair : OfPair i place (slice_get rules i) (slice_get rules place) x

  in_rule : (i : ℕ) (x : Overlap) → In x (overlaps_of_rule rules i) → OfRule i x
  in_rule i x h =
      let m = in_flat_map x (overlaps_of_pair rules i) (range_with_len i (length rules - i)) h in
      record { place = m.0; after = (range_in i (length rules - i) m.0 m.1).0; pair = in_pair i m.0 x m.2 }

  -- the overlaps whose first rule is one of k rules, from the place a on
  abbrev some : ℕ → ℕ → List Overlap
  some a k = flat_map (overlaps_of_rule rules) (range_with_len a k)

  each : (a k : ℕ) (x : Overlap) → In x (some a k) → IsOverlapOf rules x × (a < x.first) × (x.first ≤ a + k)
  each a k x h =
      let m = in_flat_map x (overlaps_of_rule rules) (range_with_len a k) h in
      let b = range_in a k m.0 m.1 in
      let w = in_rule m.0 x m.2 in
      let p = w.pair in
      let first : x.first ≡ m.0 + 1 = ap (λ (y : Overlap). y.first) p.same in (
        (
          m.0,
          w.place,
          (
            first,
            ap (λ (y : Overlap). y.second) p.same,
            subst (λ (y : Overlap). IsOverlap rules m.0 w.place y.matching.items) (sym p.same)
                (record {
                  rule1 = p.rule1;
                  rule2 = p.rule2;
                  first = p.first;
                  second = p.second;
                  ordered = w.after;
                  matching = p.matching;
                }),
          ),
        ),
        omega (arith, first, b),
        omega (arith, first, b),
      )

  listed : (a k i j : ℕ) (m : List ℕ) → a ≤ i → i < a + k → IsOverlap rules i j m
      → In (with_entries (begun i j) m) (some a k)
  listed a k i j m from before o =
      let q = o.matching in
      let x = with_entries (begun i j) m in
      let l = slice_get_within rules i o.rule1 o.first in
      let n = slice_get_within rules j o.rule2 o.second in
      let le = o.ordered in
      let in_these : In x (overlaps_at i j (Some o.rule1) (Some o.rule2)) =
      complete o.rule1 o.rule2 (heads_of o.rule1) (begun i j) m q.symbols q.apart q.touching in
      let pair : In x (overlaps_of_pair rules i j) = subst
      (λ (p : Option Rule × Option Rule). In x (overlaps_at i j p.0 p.1)) (λ t. (sym o.first t, sym o.second t))
      in_these in
      let rule : In x (overlaps_of_rule rules i) = flat_map_in x (overlaps_of_pair rules i) j
      (range_with_len i (length rules - i)) (in_range i (length rules - i) j le (omega (arith, l, n, le))) pair in
      flat_map_in x (overlaps_of_rule rules) i (range_with_len a k) (in_range a k i from before) rule

  rise : (a k : ℕ) → OverlapsRise (some a k)
  rise a k = all_rise (overlaps_of_rule rules) a k
      (λ i. all_rise (overlaps_of_pair rules i) i (length rules - i)
      (λ j. pairs_rise i j (slice_get rules i) (slice_get rules j))
      (λ d e x y l h g. (let a = in_pair i d x h in let b = in_pair i e y g in
      (λ k. overlap_cmp (a.same k) (b.same k)) ∙ less_at ((i + 1) ∷ []) a.entries b.entries (d + 1) (e + 1)
      (omega arith))))
      (λ d e x y l h g. (let v = in_rule d x h in let w = in_rule e y g in let a = v.pair in let b = w.pair in
      (λ k. overlap_cmp (a.same k) (b.same k)) ∙ less_at [] ((v.place + 1) ∷ a.entries) ((w.place + 1) ∷ b.entries)
      (d + 1) (e + 1) (omega arith)))

  are_between : (a k n : ℕ) → a + k ≤ n ⊎ (k ≡ 0) → ((i : ℕ) → a ≤ i → i < n → i < length rules → i < a + k)
      → AreOverlapsBetween rules a n (some a k)
  are_between a k n within reach = record {
    each = λ x h. (let e = each a k x h in (e.0, e.1, bound x e.1 e.2 within));
    all = λ o h from before. subst (λ (p : Overlap). In p (some a k))
        (λ t. record { first = sym h.2.0 t; second = sym h.2.1 t; matching = o.matching }) (there o h from before);
    rise = rise a k;
  }
    where
      bound : (x : Overlap) → a < x.first → x.first ≤ a + k → a + k ≤ n ⊎ (k ≡ 0) → x.first ≤ n
      bound x l m (inl e) = omega (arith, l, m, e)
      bound x l m (inr e) = absurd (omega (arith, l, m, e))

      there : (o : Overlap) (h : IsOverlapOf rules o) → a < o.first → o.first ≤ n
          → In (with_entries (begun h.0 h.1) o.matching.items) (some a k)
      there o h from before =
          let first = h.2.0 in
          let within = slice_get_within rules h.0 h.2.2.rule1 h.2.2.first in
          listed a k h.0 h.1 o.matching.items (omega (arith, from, first))
          (reach h.0 (omega (arith, from, first)) (omega (arith, before, first)) within) h.2.2

-- at the end of the loop over the rules from the place a to the place n
pub all_listed : (rules of_program : List Rule) (a k n : ℕ) (found : List Overlap) → rules ≡ of_program → a + k ≤ n
    ⊎ (k ≡ 0) → ((i : ℕ) → a ≤ i → i < n → i < length rules → i < a + k)
    → found ≡ flat_map (overlaps_of_rule rules) (range_with_len a k) → AreOverlapsBetween of_program a n found
all_listed rules of_program a k n found e within reach f =
    subst (λ (rs : List Rule). AreOverlapsBetween rs a n found) e
    (subst (AreOverlapsBetween rules a n) (sym f) (are_between rules a k n within reach))
