-- What stands in a list that is put together from others, and when such a list of overlaps rises.
use Rattle.std.specs.Prelude.{◌≡◌, ℕ, zero, suc, ◌+◌, ◌<◌, Bool, true, false, cond, List, [], ◌∷◌, ◌++◌}
use Rattle.std.specs.List.{flat_map, range_with_len}
use Rattle.std.specs.declared.cmp.Ordering.TheVariants.{Less}
use Rattle.std.specs.Ordering.{nat_cmp, ordering_then}
use Rattle.std.specs.Cmp.{nat_cmp_is, tied_itself}
use Rattle.std.specs.Cmp.Lexicographic.{slice_cmp}
use Rattle.std.proofs.lemmas.Cmp.{nat_cmp_total}
use Rattle.std.proofs.Common.{refl, sym, ap, subst, ◌∙◌, inl, inr, arith}
use Rattle.chr_types.specs.OrderTypes.{In, RisesBy}
use Rattle.chr_types.proofs.Members.{in_flat_map}
use Rattle.chr_types.proofs.RisingLists.{rise_append}
use Rattle.chr_confluence.proofs.Frees.{range_in}
use Rattle.chr_overlaps.specs.declared.overlap.Overlap.{Overlap}
use Rattle.chr_overlaps.specs.OverlapLists.{overlap_cmp}

-- ---- order

-- lists that differ first where the one has the lesser number
pub less_at : (m t u : List ℕ) (d e : ℕ) → d < e → slice_cmp nat_cmp (m ++ d ∷ t) (m ++ e ∷ u) ≡ Less
less_at [] t u d e l = ap (λ o. ordering_then o (slice_cmp nat_cmp t u)) (sym (nat_cmp_is d e Less l))
less_at (x ∷ m) t u d e l = ap (λ o. ordering_then o (slice_cmp nat_cmp (m ++ d ∷ t) (m ++ e ∷ u)))
    (tied_itself nat_cmp_total x) ∙ less_at m t u d e l

-- in the order of overlaps
abbrev pub OverlapsRise : List Overlap → Type 0
OverlapsRise = RisesBy (λ o p. overlap_cmp o p ≡ Less)

pub all_rise : (f : ℕ → List Overlap) (a n : ℕ) → ((k : ℕ) → OverlapsRise (f k))
    → ((d e : ℕ) (x y : Overlap) → d < e → In x (f d) → In y (f e) → overlap_cmp x y ≡ Less)
    → OverlapsRise (flat_map f (range_with_len a n))
all_rise f a zero each less = tt
all_rise f a (suc n) each less = rise_append (λ o p. overlap_cmp o p ≡ Less) (f a)
    (flat_map f (range_with_len (a + 1) n)) (each a) (all_rise f (a + 1) n each less)
    (λ x y i j. (let m = in_flat_map y f (range_with_len (a + 1) n) j in let b = range_in (a + 1) n m.0 m.1 in
    less a m.0 x y (omega (arith, b)) i m.2))

pub cond_rises : (b : Bool) (xs : List Overlap) → OverlapsRise xs → OverlapsRise (cond b xs [])
cond_rises true xs h = h
cond_rises false xs h = tt
