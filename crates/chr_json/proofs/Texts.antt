-- The text of an array of JSON, element by element.
use Rattle.std.proofs.Common.{◌≡◌, ℕ, ◌<◌, List, [], ◌∷◌, ◌++◌, drop, length, decimal, refl, sym, ap, ◌∙◌}
use Rattle.std.proofs.Common.{append_assoc, arith}
use Rattle.std.specs.Prelude.{codes, map}
use Rattle.std.proofs.lemmas.List.{flat_map_more, map-append}
use Rattle.serde_json.specs.Data.{Data, string, array}
use Rattle.serde_json.specs.View.{items_of}
use Rattle.json.specs.Print.{escape, escape_byte, quoted}
use Rattle.chr_json.specs.NamedAtoms.{NamedAtom}
use Rattle.chr_json.specs.Printed.{natural_data, argument_data, atom_data}
use Rattle.chr_json.specs.working.Compact.{parted_text, parted_items, later_text, arguments_later, atoms_later}

-- the bytes so far, with one element more
pub later_more : (c : List ℕ) (ds : List Data) (d : Data) (text rest next : List ℕ) (after : List ℕ)
    → text ≡ later_text c ds ++ rest → rest ≡ c ++ next → next ≡ parted_text c d ++ after
    → text ≡ later_text c (ds ++ d ∷ []) ++ after
later_more c ds d text rest next after so_far comma element =
    so_far
    ∙ ap (λ l. later_text c ds ++ l) (comma ∙ ap (λ l. c ++ l) element ∙ sym (append_assoc c (parted_text c d) after))
    ∙ sym (append_assoc (later_text c ds) (c ++ parted_text c d) after)
    ∙ ap (λ l. l ++ after) (flat_map_more (λ e. c ++ parted_text c e) [] ds d)

-- an element after its comma, and what follows it
pub element_on : (c p later rest : List ℕ) → (c ++ (p ++ later)) ++ rest ≡ c ++ (p ++ (later ++ rest))
element_on c p later rest = append_assoc c (p ++ later) rest ∙ ap (λ l. c ++ l) (append_assoc p later rest)

-- the bracket after the elements closes the array
pub later_close : (c : List ℕ) (ds : List Data) (rest : List ℕ)
    → later_text c ds ++ 93 ∷ rest ≡ parted_items c c (items_of ds) ++ rest
later_close c [] rest = refl
later_close c (d ∷ ds) rest =
    let p = parted_text c d in
    append_assoc (c ++ p) (later_text c ds) (93 ∷ rest)
    ∙ append_assoc c p (later_text c ds ++ 93 ∷ rest)
    ∙ ap (λ l. c ++ (p ++ l)) (later_close c ds rest)
    ∙ sym (element_on c p (parted_items c c (items_of ds)) rest)

-- bytes that stand in front of both may be left out
cancel : (c xs ys : List ℕ) → c ++ xs ≡ c ++ ys → xs ≡ ys
cancel [] xs ys e = e
cancel (x ∷ c) xs ys e = cancel c xs ys (ap (drop 1) e)

-- the bracket closes an array whose elements begin without a comma
pub later_close_whole : (c : List ℕ) (ds : List Data) (text rest : List ℕ) → 0 < length ds
    → c ++ text ≡ later_text c ds ++ 93 ∷ rest → text ≡ parted_items c [] (items_of ds) ++ rest
later_close_whole c [] text rest some so_far = absurd (omega arith)
later_close_whole c (d ∷ ds) text rest some so_far =
    let p = parted_text c d in
    let later = parted_items c c (items_of ds) in
    cancel c text ((p ++ later) ++ rest) (so_far ∙ later_close c (d ∷ ds) rest ∙ append_assoc c (p ++ later) rest)

-- an atom, from its parts
pub atom_text : (c : List ℕ) (w : NamedAtom) (text rest-1 rest-2 rest : List ℕ) → text ≡ 91 ∷ rest-1
    → rest-1 ≡ quoted w.name ++ rest-2 → rest-2 ≡ arguments_later c w.args ++ 93 ∷ rest
    → text ≡ parted_text c (atom_data w) ++ rest
atom_text c w text rest-1 rest-2 rest opened named list =
    opened
    ∙ ap (λ l. 91 ∷ l)
    (named
    ∙ ap (λ l. quoted w.name ++ l) (list ∙ later_close c (map argument_data w.args) rest)
    ∙ sym (append_assoc (quoted w.name) (parted_items c c (items_of (map argument_data w.args))) rest))

-- the atoms so far, with one atom more
pub atoms_more : (c : List ℕ) (ws : List NamedAtom) (w : NamedAtom) (text rest : List ℕ)
    → text ≡ parted_text c (atom_data w) ++ rest
    → atoms_later c ws ++ (c ++ text) ≡ atoms_later c (ws ++ w ∷ []) ++ rest
atoms_more c ws w text rest here =
    later_more c (map atom_data ws) (atom_data w) (atoms_later c ws ++ (c ++ text)) (c ++ text) text rest refl refl here
    ∙ ap (λ ds. later_text c ds ++ rest) (sym (map-append atom_data ws (w ∷ [])))

tell_word : escape (codes "tell") ≡ codes "tell"
unfolding escape_byte
tell_word = refl

-- the text of a tell, from its parts
pub tell_text : (c : List ℕ) (r : ℕ) (id atoms : Data) (line rest rest-1 rest-2 rest-3 rest-4 rest-5 : List ℕ)
    → line ≡ codes "[\"tell\"" ++ rest → rest ≡ c ++ rest-1 → rest-1 ≡ decimal r ++ rest-2 → rest-2 ≡ c ++ rest-3
    → rest-3 ≡ parted_text c id ++ rest-4 → rest-4 ≡ c ++ rest-5 → rest-5 ≡ parted_text c atoms ++ codes "]"
    → line ≡ parted_text c (array (items_of (string (codes "tell") ∷ natural_data r ∷ id ∷ atoms ∷ [])))
tell_text c r id atoms line rest rest-1 rest-2 rest-3 rest-4 rest-5 opened first replica comma-1 name comma-2 list =
    let name_on = name ∙ ap (λ l. parted_text c id ++ l) (comma-2 ∙ ap (λ l. c ++ l) list) in
    let id_on = comma-1 ∙ ap (λ l. c ++ l) name_on in
    let later = c ++ (decimal r ++ (c ++ (parted_text c id ++ (c ++ (parted_text c atoms ++ codes "]"))))) in
    opened
    ∙ ap (λ l. codes "[\"tell\"" ++ l) (first ∙ ap (λ l. c ++ l) (replica ∙ ap (λ l. decimal r ++ l) id_on))
    ∙ ap (λ w. 91 ∷ 34 ∷ ((w ++ 34 ∷ []) ++ later)) (sym tell_word)
