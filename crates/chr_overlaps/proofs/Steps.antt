-- One entry more, and one rule more, in the listing.
use Rattle.std.specs.Prelude.{◌≡◌, ℕ, zero, suc, ◌+◌, ◌<◌, Bool, true, false, cond, List, [], ◌∷◌, ◌++◌, length, get_or}
use Rattle.std.specs.Prelude.{drop}
use Rattle.std.specs.List.{flat_map, range_with_len}
use Rattle.std.proofs.Common.{refl, sym, ap, ◌∙◌, arith, append-nil, drop-cons, length-append, add-one}
use Rattle.std.proofs.lemmas.List.{flat_map_more}
use Rattle.std.proofs.lemmas.Option.{slice_get_read}
use Rattle.chr_base.specs.declared.rule.Rule.{Rule}
use Rattle.chr_base.specs.Rules.{heads_of, no_pattern}
use Rattle.chr_overlaps.specs.declared.overlap.Overlap.{Overlap}
use Rattle.chr_overlaps.specs.working.Listing.{may_follow, with_entry, going_on, overlaps_behind, begun, overlaps_at}
use Rattle.chr_overlaps.specs.working.Listing.{overlaps_of_pair}

range_more : (a n : ℕ) → range_with_len a (n + 1) ≡ range_with_len a n ++ (a + n) ∷ []
range_more a zero = let e : a ≡ a + 0 = omega arith in λ i. e i ∷ []
range_more a (suc n) =
    let e : suc n + 1 ≡ suc (n + 1) = omega arith in
    let f : (a + 1) + n ≡ a + suc n = omega arith in
    ap (range_with_len a) e ∙ ap (λ xs. a ∷ xs) (range_more (a + 1) n ∙ ap (λ k. range_with_len (a + 1) n ++ k ∷ []) f)

pub more_overlaps : (f : ℕ → List Overlap) (old found new : List Overlap) (a n e : ℕ) → found ≡ old
    ++ flat_map f (range_with_len a n) → new ≡ found ++ f e → e ≡ a + n
    → new ≡ old ++ flat_map f (range_with_len a (n + 1))
more_overlaps f old found new a n e h g k =
    g ∙ ap (λ xs. xs ++ f e) h ∙ flat_map_more f old (range_with_len a n) e
    ∙ ap (λ m. old ++ flat_map f (range_with_len a n ++ m ∷ [])) k
    ∙ ap (λ xs. old ++ flat_map f xs) (sym (range_more a n))

-- nothing is added
pub none_added : (f : ℕ → List Overlap) (found : List Overlap) (e : ℕ) → f e ≡ [] → found ≡ found ++ f e
none_added f found e h = sym (ap (λ xs. found ++ xs) h ∙ append-nil found)

-- what may follow the entries of o at its next place
abbrev pub next : Rule → Rule → Overlap → ℕ → List Overlap
next r s o = going_on (overlaps_behind r s (drop (length o.matching.items + 1) (heads_of r))) (heads_of s) o
    (get_or (heads_of r) (length o.matching.items) no_pattern)

pub by_next : (r s : Rule) (o : Overlap) → length o.matching.items < length (heads_of r)
    → overlaps_behind r s (drop (length o.matching.items) (heads_of r)) o
    ≡ flat_map (next r s o) (range_with_len 0 (length (heads_of s) + 1))
by_next r s o h =
    let n = length o.matching.items in
    let e : drop n (heads_of r) ≡ get_or (heads_of r) n no_pattern ∷ drop (n + 1) (heads_of r) =
    rw add-one (drop-cons (heads_of r) n no_pattern h) in
    ap (λ ps. overlaps_behind r s ps o) e

-- whether the entry may follow there
abbrev follows : Rule → Rule → List ℕ → ℕ → Bool
follows r s m e = may_follow (heads_of s) m (get_or (heads_of r) (length m) no_pattern) e

pub entry_follows : (r s : Rule) (o longer : Overlap) (m : List ℕ) (e : ℕ) (b : Bool) → longer ≡ with_entry o e
    → m ≡ o.matching.items → b ≡ follows r s m e → b ≡ true
    → overlaps_behind r s (drop (length longer.matching.items) (heads_of r)) longer ≡ next r s o e
entry_follows r s o longer m e b l same is t =
    ap (λ (x : Overlap). overlaps_behind r s (drop (length x.matching.items) (heads_of r)) x) l
    ∙ ap (λ n. overlaps_behind r s (drop n (heads_of r)) (with_entry o e)) (length-append o.matching.items (e ∷ []))
    ∙ ap (λ b. cond b (overlaps_behind r s (drop (length o.matching.items + 1) (heads_of r)) (with_entry o e)) [])
    (sym t ∙ is ∙ ap (λ k. follows r s k e) same)

pub entry_not : (r s : Rule) (o : Overlap) (m : List ℕ) (e : ℕ) (b : Bool) → m ≡ o.matching.items → b ≡ follows r s m e
    → b ≡ false → next r s o e ≡ []
entry_not r s o m e b same is t =
    ap (λ b. cond b (overlaps_behind r s (drop (length o.matching.items + 1) (heads_of r)) (with_entry o e)) [])
    (sym (ap (λ k. follows r s k e) same) ∙ sym is ∙ t)

-- the overlaps of one pair
pub pair_added : (rules : List Rule) (i j : ℕ) (r s : Rule) (o : Overlap) → i < length rules → j < length rules
    → r ≡ get_or rules i r → s ≡ get_or rules j s
    → o ≡ begun i j → overlaps_behind r s (drop (length o.matching.items) (heads_of r)) o ≡ overlaps_of_pair rules i j
pair_added rules i j r s o h g e f b =
    ap (λ (x : Overlap). overlaps_behind r s (drop (length x.matching.items) (heads_of r)) x) b
    ∙ sym (λ k. overlaps_at i j (slice_get_read rules (length rules) i r refl h e k)
    (slice_get_read rules (length rules) j s refl g f k))
