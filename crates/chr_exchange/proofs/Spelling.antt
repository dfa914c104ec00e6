-- Atoms as they are spelt, piece by piece.
use Rattle.std.proofs.Common.{◌≡◌, ℕ, zero, suc, length, not, ℤ, pos, negsuc, List, [], ◌∷◌, ◌++◌, map, flat_map, true}
use Rattle.std.proofs.Common.{◌&&◌, nat_le, decimal, refl, sym, ap, ◌∙◌, append_assoc, arith}
use Rattle.std.specs.Prelude.{codes, slice_get}
use Rattle.std.specs.Fmt.{signed_decimal}
use Rattle.std.specs.List.{list_all}
use Rattle.std.specs.Option.{option_map_or}
use Rattle.std.proofs.lemmas.Bool.{and_parts}
use Rattle.std.proofs.lemmas.Bool.Decides.{nat_tests}
use Rattle.json.specs.Print.{escape, escape_byte}
use Rattle.json.proofs.Printed.Strings.{escape_byte_plain}
use Rattle.serde_json.specs.View.{items_of}
use Rattle.serde_json.specs.Written.{compact_text, items_text}
use Rattle.chr_base.specs.declared.atom.Atom.{Atom}
use Rattle.chr_base.specs.declared.program.Program.{Program}
use Rattle.chr_base.specs.declared.limits.TheConstants.{MAX_ARITY, MAX_NAME}
use Rattle.chr_base.specs.Weights.{is_weight}
use Rattle.chr_base.specs.Names.{is_lower, is_word_byte, is_word, is_reserved, is_name}
use Rattle.chr_base.specs.ProgramTests.{Declaration, is_in_range}
use Rattle.chr_base.specs.Programs.{declarations, rules_of}
use Rattle.chr_base.specs.Texts.{name_of}
use Rattle.chr_base.proofs.Declared.{kept_by}
use Rattle.chr_json.specs.Printed.{argument_data, atom_data}
use Rattle.chr_exchange.specs.Texts.{spelt_atom}

-- ---- names stand for themselves

word_byte_bare : (b : ℕ) → is_word_byte b ≡ true → escape_byte b ≡ b ∷ []
word_byte_bare b h = escape_byte_plain b (λ e. grind (arith, nat_tests)) (λ e. grind (arith, nat_tests))
    (grind (arith, nat_tests))

word_bytes_bare : (bs : List ℕ) → list_all is_word_byte bs ≡ true → escape bs ≡ bs
word_bytes_bare [] h = refl
word_bytes_bare (b ∷ bs) h =
    let here = word_byte_bare b ((and_parts (is_word_byte b) (list_all is_word_byte bs) h).0) in
    let rest = word_bytes_bare bs ((and_parts (is_word_byte b) (list_all is_word_byte bs) h).1) in
    λ i. here i ++ rest i

lower_bare : (b : ℕ) → is_lower b ≡ true → escape_byte b ≡ b ∷ []
lower_bare b h = escape_byte_plain b (λ e. grind (arith, nat_tests)) (λ e. grind (arith, nat_tests))
    (grind (arith, nat_tests))

word_bare : (bs : List ℕ) → is_word bs ≡ true → escape bs ≡ bs
word_bare [] h = refl
word_bare (b ∷ bs) h =
    let here = lower_bare b ((and_parts (is_lower b) (list_all is_word_byte bs) h).0) in
    let rest = word_bytes_bare bs ((and_parts (is_lower b) (list_all is_word_byte bs) h).1) in
    λ i. here i ++ rest i

word_in : (d : Declaration) → is_in_range d ≡ true → is_word d.name ≡ true
word_in d h =
    let weight = (and_parts (is_name d.name && nat_le (length d.name) MAX_NAME && nat_le d.arity MAX_ARITY)
    (is_weight d.weight) h).0 in
    let arity = (and_parts (is_name d.name && nat_le (length d.name) MAX_NAME) (nat_le d.arity MAX_ARITY) weight).0 in
    let name = (and_parts (is_name d.name) (nat_le (length d.name) MAX_NAME) arity).0 in
    (and_parts (is_word d.name) (not (is_reserved d.name)) name).0

-- what holds of a word's bytes holds of the name of a symbol, which may be none
pub of_name : (P : List ℕ → Type 0) → P [] → ((name : List ℕ) → is_word name ≡ true → P name) → (ds : List Declaration)
    → list_all is_in_range ds ≡ true → (i : ℕ) → P (option_map_or (λ d. d.name) (slice_get ds i) [])
of_name P none some [] h i = none
of_name P none some (d ∷ ds) h zero = some d.name (word_in d
    ((and_parts (is_in_range d) (list_all is_in_range ds) h).0))
of_name P none some (d ∷ ds) h (suc i) = of_name P none some ds
    ((and_parts (is_in_range d) (list_all is_in_range ds) h).1) i

pub name_bare : (p : Program) (a : Atom) → escape (name_of (declarations p) a) ≡ name_of (declarations p) a
name_bare p a = of_name (λ name. escape name ≡ name) refl word_bare (declarations p)
    (kept_by (declarations p) (rules_of p) p.well_formed).ranges a.symbol.0

-- ---- atoms

arguments_text : (zs : List ℤ) → flat_map (λ z. 44 ∷ signed_decimal z) zs ++ 93 ∷ []
    ≡ items_text true (items_of (map argument_data zs))
arguments_text [] = refl
arguments_text (pos n ∷ zs) = ap (λ l. 44 ∷ l) (append_assoc (decimal n) (flat_map (λ z. 44 ∷ signed_decimal z) zs)
    (93 ∷ []) ∙ ap (λ l. decimal n ++ l) (arguments_text zs))
arguments_text (negsuc n ∷ zs) =
    ap (λ l. 44 ∷ l) (append_assoc (signed_decimal (negsuc n)) (flat_map (λ z. 44 ∷ signed_decimal z) zs) (93 ∷ [])
    ∙ ap (λ l. signed_decimal (negsuc n) ++ l) (arguments_text zs))

-- the text of an atom is written from its parts
pub atom_pushed : (p : Program) (a : Atom) (old bracket named quoted more new : List ℕ)
    → bracket ≡ old ++ codes "[\"" → named ≡ bracket ++ name_of (declarations p) a → quoted ≡ named ++ codes "\""
    → more ≡ quoted ++ flat_map (λ z. 44 ∷ signed_decimal z) a.args.items → new ≡ more ++ codes "]"
    → new ≡ old ++ compact_text (atom_data (spelt_atom (declarations p) a))
atom_pushed p a old bracket named quoted more new h1 h2 h3 h4 h5 =
    let name = name_of (declarations p) a in
    let args = flat_map (λ z. 44 ∷ signed_decimal z) a.args.items in
    let later = items_text true (items_of (map argument_data a.args.items)) in
    let all : new ≡ old ++ (codes "[\"" ++ (name ++ (codes "\"" ++ (args ++ codes "]")))) =
    rw (h5, h4, h3, h2, h1) (simp append_assoc) in
    all ∙ ap (λ l. old ++ (91 ∷ 34 ∷ l)) (ap (λ l. name ++ 34 ∷ l) (arguments_text a.args.items)
    ∙ ap (λ s. s ++ 34 ∷ later) (sym (name_bare p a)) ∙ sym (append_assoc (escape name) (34 ∷ []) later))
