-- Going over a list, and joining what is read in each element.
use Rattle.std.proofs.Common.{◌≡◌, ℕ, ◌+◌, ◌<◌, List, ◌++◌, length, map, drop, get_or, Option, Some, None, option_map}
use Rattle.std.proofs.Common.{option_and_then, refl, sym, ap, ◌∙◌, append_assoc}
use Rattle.std.proofs.lemmas.List.{drop_more}
use Rattle.chr_base.proofs.Traversals.{front}
use Rattle.chr_json.specs.Values.{joined}

-- the parts of one element join those before it
parts_join : {B : Type 0} (ys zs : List B) (there o : Option (List B)) → option_map (λ xs. ys ++ xs) there ≡ Some zs
    → front ys (option_and_then (λ xs. option_map (λ ws. xs ++ ws) o) there) ≡ front zs o
parts_join ys zs None o h = absurd (let e : ◌≡◌ {A = Option (List _)} None (Some zs) = h in cc)
parts_join ys zs (Some xs) None h = refl
parts_join ys zs (Some xs) (Some ws) h = let same : ys ++ xs ≡ zs =
    (let e : ◌≡◌ {A = Option (List _)} (Some (ys ++ xs)) (Some zs) = h in cc) in ap Some (sym (append_assoc ys xs ws))
    ∙ ap (λ l. Some (l ++ ws)) same

pub front_joined : {A B C : Type 0} (f : B → Option (List C)) (v : A → B) (xs : List A) (k : ℕ) (d : A) (ys zs : List C)
    → k < length xs → option_map (λ l. ys ++ l) (f (v (get_or xs k d))) ≡ Some zs
    → front ys (joined f (map v (drop k xs))) ≡ front zs (joined f (map v (drop (k + 1) xs)))
front_joined f v xs k d ys zs within read =
    ap (λ l. front ys (joined f (map v l))) (drop_more xs k d within)
    ∙ parts_join ys zs (f (v (get_or xs k d))) (joined f (map v (drop (k + 1) xs))) read
