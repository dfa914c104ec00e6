-- The places of look-ups.
use Rattle.std.proofs.Common.{◌≡◌, ℕ, ◌<◌, List, length, get_or, take, sym, ap, ◌∙◌, arith}
use Rattle.std.proofs.lemmas.List.{take-map, get_or-take, get_or-map, length-map}
use Rattle.chr_plans.specs.declared.plan.Lookup.{Lookup}
use Rattle.chr_plans.specs.declared.plan.Partner.{Partner}
use Rattle.chr_plans.specs.Plans.{partners_of, places_of}
use Rattle.chr_plans.specs.working.Searching.{looked_in}

-- as many partners as look-ups
pub partners_len : (ls : List Lookup) → length (partners_of ls) ≡ length ls
partners_len ls = length-map ls (λ l. l.partner)

-- the partner of a look-up
pub partner_is : (ls : List Lookup) (j : ℕ) (l : Lookup) → j < length ls → get_or ls j l ≡ l
    → get_or (partners_of ls) j l.partner ≡ l.partner
partner_is ls j l h e = get_or-map (λ (l : Lookup). l.partner) ls j l l.partner h ∙ ap (λ (l : Lookup). l.partner) e

-- the place of a partner
pub place_of_partner : (ps : List Partner) (j : ℕ) (l : Partner) → j < length ps → get_or ps j l ≡ l
    → get_or (places_of ps) j 0 ≡ l.place
place_of_partner ps j l h e = get_or-map (λ (l : Partner). l.place) ps j l 0 h ∙ ap (λ (l : Partner). l.place) e

-- the place that a look-up looks in
pub place_is : (ls : List Lookup) (j : ℕ) (l : Lookup) → j < length ls → get_or ls j l ≡ l → get_or (looked_in ls) j 0
    ≡ l.partner.place
place_is ls j l h e =
    let n = partners_len ls in
    place_of_partner (partners_of ls) j l.partner (omega (arith, n, h)) (partner_is ls j l h e)

-- the places of the first look-ups
pub looked_take : (ls : List Lookup) (n : ℕ) → looked_in (take n ls) ≡ take n (looked_in ls)
looked_take ls n =
    ap places_of (sym (take-map (λ (l : Lookup). l.partner) n ls))
    ∙ sym (take-map (λ (l : Partner). l.place) n (partners_of ls))

pub places_take : (ls : List Lookup) (n j : ℕ) → j < n → get_or (looked_in (take n ls)) j 0 ≡ get_or (looked_in ls) j 0
places_take ls n j g =
    ap (λ ps. get_or (places_of ps) j 0) (sym (take-map (λ (l : Lookup). l.partner) n ls))
    ∙ ap (λ xs. get_or xs j 0) (sym (take-map (λ (l : Partner). l.place) n (partners_of ls)))
    ∙ get_or-take n (looked_in ls) j 0 g
