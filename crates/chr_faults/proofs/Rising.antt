-- Bad clauses come in the order of the text.
use Rattle.std.proofs.Common.{◌≡◌, ◌<◌, ◌≤◌, ◌+◌, ◌==◌, ℕ, zero, suc, List, [], ◌∷◌, Bool, true, false, cond, Result}
use Rattle.std.proofs.Common.{Ok, Err, refl, sym, ap, ◌∙◌, subst, arith, append-nil}
use Rattle.std.specs.List.{onto_first}
use Rattle.std.proofs.lemmas.Bool.{eqb-true}
use Rattle.chr_syntax.specs.Bytes.{outside, without_comments, line_feed, percent, is_stop, pieces}
use Rattle.chr_syntax.specs.Texts.{HasNo}
use Rattle.chr_syntax.proofs.Texts.{some_piece, plain_stay}
use Rattle.chr_read.specs.declared.fault.Fault.{Fault}
use Rattle.chr_read.specs.declared.fault.ReadFault.{ReadFault}
use Rattle.chr_read.specs.declared.fault.ReadFault.TheVariants.{Bad}
use Rattle.chr_read.specs.Meanings.{Meaning, Progress, nothing}
use Rattle.chr_read.specs.ProgramTexts.{IsRefusedText}
use Rattle.chr_read.specs.working.TextsRead.{clause_read, rest_read, in_clause, pieces_read, meaning_in, ◌>>=◌}
use Rattle.chr_read.proofs.TextsRead.{Pieces, refused, short_read}
use Rattle.chr_faults.specs.declared.faults.BadClause.{BadClause}
use Rattle.chr_faults.specs.declared.limits.TheConstants.{MAX_TOLD_FAULTS}
use Rattle.chr_faults.specs.BadClauses.{AreBadClauses, AreRising, apart_from, clause_after, without_clause}

-- ---- pieces without one

-- the pieces, of which the first has the number i, without the piece k: nothing stands for the last one
abbrev cut : ℕ → ℕ → Pieces → Pieces
cut k i [] = []
cut k i (c ∷ []) = cond (i == k) ([] ∷ []) (c ∷ [])
cut k i (c ∷ d ∷ ds) = cond (i == k) (cut k (i + 1) (d ∷ ds)) (c ∷ cut k (i + 1) (d ∷ ds))

cut_two : (k i : ℕ) (c d : List ℕ) (l ds : Pieces) → l ≡ d ∷ ds → cut k i (c ∷ l) ≡ cond (i == k) (cut k (i + 1) l)
    (c ∷ cut k (i + 1) l)
cut_two k i c d l ds s = ap (λ x. cut k i (c ∷ x)) s ∙ sym
    (ap (λ x. cond (i == k) (cut k (i + 1) x) (c ∷ cut k (i + 1) x)) s)

abbrev Some : Pieces → Type 0
Some l = (e : List ℕ) × (es : Pieces) × (l ≡ e ∷ es)

some_last : (b : Bool) (c : List ℕ) → Some (cond b ([] ∷ []) (c ∷ []))
some_last true c = ([], [], refl)
some_last false c = (c, [], refl)

some_front : (b : Bool) (c : List ℕ) (l : Pieces) → Some l → Some (cond b l (c ∷ l))
some_front true c l s = s
some_front false c l s = (c, l, refl)

some_cut : (k i : ℕ) (c : List ℕ) (cs : Pieces) → Some (cut k i (c ∷ cs))
some_cut k i c [] = some_last (i == k) c
some_cut k i c (d ∷ ds) = some_front (i == k) c (cut k (i + 1) (d ∷ ds)) (some_cut k (i + 1) d ds)

alike : (b : Bool) (l : Pieces) → cond b l l ≡ l
alike true l = refl
alike false l = refl

first_goes : (k i : ℕ) (x y : List ℕ) (ds : Pieces) → (i == k) ≡ true → cut k i (x ∷ ds) ≡ cut k i (y ∷ ds)
first_goes k i x y [] t = ap (λ b. cond b ([] ∷ []) (x ∷ [])) t ∙ sym (ap (λ b. cond b ([] ∷ []) (y ∷ [])) t)
first_goes k i x y (e ∷ es) t = ap (λ b. cond b (cut k (i + 1) (e ∷ es)) (x ∷ cut k (i + 1) (e ∷ es))) t
    ∙ sym (ap (λ b. cond b (cut k (i + 1) (e ∷ es)) (y ∷ cut k (i + 1) (e ∷ es))) t)

first_stays : (k i b : ℕ) (d : List ℕ) (ds : Pieces) → (i == k) ≡ false → onto_first b (cut k i (d ∷ ds))
    ≡ cut k i ((b ∷ d) ∷ ds)
first_stays k i b d [] t = ap (λ x. onto_first b (cond x ([] ∷ []) (d ∷ []))) t
    ∙ sym (ap (λ x. cond x ([] ∷ []) ((b ∷ d) ∷ [])) t)
first_stays k i b d (e ∷ es) t = ap (λ x. onto_first b (cond x (cut k (i + 1) (e ∷ es)) (d ∷ cut k (i + 1) (e ∷ es)))) t
    ∙ sym (ap (λ x. cond x (cut k (i + 1) (e ∷ es)) ((b ∷ d) ∷ cut k (i + 1) (e ∷ es))) t)

-- ---- bytes without a clause

byte : (s t : Bool) (k i b : ℕ) (bs d : List ℕ) (ds : Pieces) → is_stop b ≡ s → (i == k) ≡ t → pieces bs ≡ d ∷ ds
    → ((n : ℕ) → pieces (apart_from k n bs) ≡ cut k n (pieces bs))
    → pieces (cond t (apart_from k (cond s (i + 1) i) bs) (b ∷ apart_from k (cond s (i + 1) i) bs))
    ≡ cut k i (cond s ([] ∷ pieces bs) (onto_first b (pieces bs)))
byte true true k i b bs d ds s t some more =
    more (i + 1) ∙ sym (cut_two k i [] d (pieces bs) ds some
    ∙ ap (λ x. cond x (cut k (i + 1) (pieces bs)) ([] ∷ cut k (i + 1) (pieces bs))) t)
byte true false k i b bs d ds s t some more =
    ap (λ x. cond x ([] ∷ pieces (apart_from k (i + 1) bs)) (onto_first b (pieces (apart_from k (i + 1) bs)))) s
    ∙ ap (λ l. [] ∷ l) (more (i + 1))
    ∙ sym (cut_two k i [] d (pieces bs) ds some ∙ ap (λ x. cond x (cut k (i + 1) (pieces bs))
    ([] ∷ cut k (i + 1) (pieces bs))) t)
byte false true k i b bs d ds s t some more =
    more i ∙ ap (cut k i) some ∙ first_goes k i d (b ∷ d) ds t ∙ sym (ap (λ l. cut k i (onto_first b l)) some)
byte false false k i b bs d ds s t some more =
    ap (λ x. cond x ([] ∷ pieces (apart_from k i bs)) (onto_first b (pieces (apart_from k i bs)))) s
    ∙ ap (onto_first b) (more i ∙ ap (cut k i) some)
    ∙ first_stays k i b d ds t ∙ sym (ap (λ l. cut k i (onto_first b l)) some)

pieces_apart : (k i : ℕ) (bs : List ℕ) → pieces (apart_from k i bs) ≡ cut k i (pieces bs)
pieces_apart k i [] = sym (alike (i == k) ([] ∷ []))
pieces_apart k i (b ∷ bs) =
    let s = some_piece bs in
    byte (is_stop b) (i == k) k i b bs s.0 s.1 refl refl s.2 (λ n. pieces_apart k n bs)

-- ---- no comments

no_feed : (b : ℕ) → (b == line_feed) ≡ true → (b == percent) ≡ false
no_feed b e = let is : b ≡ 10 = eqb-true b 10 e in rw is refl

in_comment : (f : Bool) (b : ℕ) (bs : List ℕ) → (b == line_feed) ≡ f → ((s : Bool) → HasNo percent (outside s bs))
    → HasNo percent (cond f (b ∷ outside false bs) (outside true bs))
in_comment true b bs e h = (no_feed b e, h false)
in_comment false b bs e h = h true

out_of_comment : (p : Bool) (b : ℕ) (bs : List ℕ) → (b == percent) ≡ p → ((s : Bool) → HasNo percent (outside s bs))
    → HasNo percent (cond p (outside true bs) (b ∷ outside false bs))
out_of_comment true b bs e h = h true
out_of_comment false b bs e h = (e, h false)

outside_plain : (s : Bool) (bs : List ℕ) → HasNo percent (outside s bs)
outside_plain true [] = tt
outside_plain false [] = tt
outside_plain true (b ∷ bs) = in_comment (b == line_feed) b bs refl (λ s. outside_plain s bs)
outside_plain false (b ∷ bs) = out_of_comment (b == percent) b bs refl (λ s. outside_plain s bs)

kept_plain : (t : Bool) (b : ℕ) (bs : List ℕ) → (b == percent) ≡ false → HasNo percent bs
    → HasNo percent (cond t bs (b ∷ bs))
kept_plain true b bs e h = h
kept_plain false b bs e h = (e, h)

apart_plain : (k n : ℕ) (bs : List ℕ) → HasNo percent bs → HasNo percent (apart_from k n bs)
apart_plain k n [] h = tt
apart_plain k n (b ∷ bs) h = kept_plain (n == k) b (apart_from k (clause_after n b) bs) h.0
    (apart_plain k (clause_after n b) bs h.1)

plain : (k : ℕ) (text : List ℕ) → without_comments (without_clause k text) ≡ without_clause k text
plain k text =
    let none = apart_plain k 1 (without_comments text) (outside_plain false text) in
    ap without_comments (sym (append-nil (without_clause k text))) ∙ plain_stay (without_clause k text) []
    none ∙ append-nil (without_clause k text)

-- ---- reading

rest_at : (i k : ℕ) (n : Fault) (o : Result Progress Fault) → in_clause i o ≡ Err (Bad n k) → i ≡ k
rest_at i k n (Ok r) e = absurd (let x : ◌≡◌ {A = Result Progress ReadFault} (Ok r) (Err (Bad n k)) = e in cc)
rest_at i k n (Err x) e = let y : ◌≡◌ {A = Result Progress ReadFault} (Err (Bad x i)) (Err (Bad n k)) = e in cc

low_front : (i j : ℕ) (m : Fault) (l : Pieces) (o : Result Progress Fault)
    → ((r : Progress) → pieces_read (i + 1) r l ≡ Err (Bad m j) → i + 1 ≤ j)
    → (in_clause i o >>= λ r. pieces_read (i + 1) r l) ≡ Err (Bad m j) → i ≤ j
low_front i j m l (Ok r) more e = let x : i + 1 ≤ j = more r e in omega arith
low_front i j m l (Err x) more e = let y : ◌≡◌ {A = Result Progress ReadFault} (Err (Bad x i)) (Err (Bad m j)) = e in
    let same : i ≡ j = cc in omega arith

-- a bad clause is one of those that are read
low : (i j : ℕ) (m : Fault) (q : Progress) (l : Pieces) → pieces_read i q l ≡ Err (Bad m j) → i ≤ j
low i j m q [] e = absurd (let x : ◌≡◌ {A = Result Progress ReadFault} (Ok q) (Err (Bad m j)) = e in cc)
low i j m q (c ∷ []) e = let same : i ≡ j = rest_at i j m (rest_read q c) e in omega arith
low i j m q (c ∷ d ∷ ds) e = low_front i j m (d ∷ ds) (clause_read q c) (λ r h. low (i + 1) j m r (d ∷ ds) h) e

step : (i : ℕ) (q r : Progress) (c e : List ℕ) (l es : Pieces) → l ≡ e ∷ es → clause_read q c ≡ Ok r
    → pieces_read i q (c ∷ l) ≡ pieces_read (i + 1) r l
step i q r c e l es s is =
    ap (λ x. pieces_read i q (c ∷ x)) s ∙ ap (λ o. in_clause i o >>= λ p. pieces_read (i + 1) p (e ∷ es)) is
    ∙ sym (ap (λ x. pieces_read (i + 1) r x) s)

abbrev Later : (n m : Fault) (i k j : ℕ) (l : Pieces) → Type 0
Later n m i k j l = (r : Progress) → pieces_read i r l ≡ Err (Bad n k) → pieces_read i r (cut k i l) ≡ Err (Bad m j)
    → k ≤ j

kept : (b : Bool) (n m : Fault) (i k j : ℕ) (q r : Progress) (c d : List ℕ) (ds : Pieces) → (i == k) ≡ b
    → clause_read q c ≡ Ok r → Later n m (i + 1) k j (d ∷ ds)
    → pieces_read (i + 1) r (d ∷ ds) ≡ Err (Bad n k) → pieces_read i q
    (cond b (cut k (i + 1) (d ∷ ds)) (c ∷ cut k (i + 1) (d ∷ ds))) ≡ Err (Bad m j) → k ≤ j
kept true n m i k j q r c d ds t is more e h =
    let same : i ≡ k = eqb-true i k t in
    let least : i ≤ j = low i j m q (cut k (i + 1) (d ∷ ds)) h in
    omega arith
kept false n m i k j q r c d ds t is more e h =
    let s = some_cut k (i + 1) d ds in
    more r e (sym (step i q r c s.0 (cut k (i + 1) (d ∷ ds)) s.1 s.2 is) ∙ h)

front : (n m : Fault) (i k j : ℕ) (q : Progress) (c d : List ℕ) (ds : Pieces) (o : Result Progress Fault)
    → clause_read q c ≡ o → Later n m (i + 1) k j (d ∷ ds)
    → (in_clause i o >>= λ r. pieces_read (i + 1) r (d ∷ ds)) ≡ Err (Bad n k) → pieces_read i q (cut k i (c ∷ d ∷ ds))
    ≡ Err (Bad m j) → k ≤ j
front n m i k j q c d ds (Ok r) is more e h = kept (i == k) n m i k j q r c d ds refl is more e h
front n m i k j q c d ds (Err x) is more e h =
    let y : ◌≡◌ {A = Result Progress ReadFault} (Err (Bad x i)) (Err (Bad n k)) = e in
    let same : i ≡ k = cc in
    let least : i ≤ j = low i j m q (cut k i (c ∷ d ∷ ds)) h in
    omega arith

later_piece : (n m : Fault) (i k j : ℕ) (l : Pieces) → Later n m i k j l
later_piece n m i k j [] q e h = absurd (let x : ◌≡◌ {A = Result Progress ReadFault} (Ok q) (Err (Bad n k)) = e in cc)
later_piece n m i k j (c ∷ []) q e h =
    let same : i ≡ k = rest_at i k n (rest_read q c) e in
    let least : i ≤ j = low i j m q (cut k i (c ∷ [])) h in
    omega arith
later_piece n m i k j (c ∷ d ∷ ds) q e h = front n m i k j q c d ds (clause_read q c) refl
    (later_piece n m (i + 1) k j (d ∷ ds)) e h

-- ---- texts

unmeant : (n : Fault) (k : ℕ) (o : Result Progress ReadFault) → meaning_in o ≡ Err (Bad n k) → o ≡ Err (Bad n k)
unmeant n k (Ok q) e = absurd (let x : ◌≡◌ {A = Result Meaning ReadFault} (Ok q.meaning) (Err (Bad n k)) = e in cc)
unmeant n k (Err f) e = let x : ◌≡◌ {A = Result Meaning ReadFault} (Err f) (Err (Bad n k)) = e in let y : f ≡ Bad n k =
    cc in ap (λ z. Err z) y

bad_piece : (text : List ℕ) (n : Fault) (k : ℕ) → IsRefusedText text n k
    → pieces_read 1 nothing (pieces (without_comments text)) ≡ Err (Bad n k)
bad_piece text n k r = unmeant n k (pieces_read 1 nothing (pieces (without_comments text)))
    (sym (short_read text r.0) ∙ (refused text n k).1 r)

later : (text : List ℕ) (n m : Fault) (k j : ℕ) → IsRefusedText text n k → IsRefusedText (without_clause k text) m j
    → k ≤ j
later text n m k j r s =
    let left : pieces (without_comments (without_clause k text)) ≡ cut k 1 (pieces (without_comments text)) =
    ap pieces (plain k text) ∙ pieces_apart k 1 (without_comments text) in
    later_piece n m 1 k j (pieces (without_comments text)) nothing (bad_piece text n k r)
    (sym (ap (pieces_read 1 nothing) left) ∙ bad_piece (without_clause k text) m j s)

-- ---- lists

abbrev IsNext : (gone : ℕ) → List ℕ → BadClause → Type 0
IsNext gone text c = (j : ℕ) × IsRefusedText text c.fault j × (c.number ≡ gone + j)

next : (limit gone : ℕ) (text : List ℕ) (c : BadClause) (more : List BadClause)
    → AreBadClauses limit gone text (c ∷ more) → IsNext gone text c
next zero gone text c more h = absurd (let e : c ∷ more ≡ [] = h in cc)
next (suc limit) gone text c more h = (h.0, h.1, h.2)

rise : (gone k : ℕ) (text : List ℕ) (b c : BadClause) → IsRefusedText text b.fault k → b.number ≡ gone + k
    → IsNext (gone + 1) (without_clause k text) c → b.number < c.number
rise gone k text b c r n h =
    let least : k ≤ h.0 = later text b.fault c.fault k h.0 r h.1 in
    let number : c.number ≡ gone + 1 + h.0 = h.2 in
    omega arith

rises : (limit gone : ℕ) (text : List ℕ) (bad : List BadClause) → AreBadClauses limit gone text bad → AreRising bad
rises zero gone text bad h = subst AreRising (sym h) tt
rises (suc limit) gone text [] h = tt
rises (suc limit) gone text (b ∷ []) h = tt
rises (suc limit) gone text (b ∷ c ∷ more) h = (
  rise gone h.0 text b c h.1 h.2 (next limit (gone + 1) (without_clause h.0 text) c more h.3),
  rises limit (gone + 1)
      (without_clause h.0 text) (c ∷ more) h.3,
)

pub in_order : (text : List ℕ) (bad : List BadClause) → AreBadClauses MAX_TOLD_FAULTS 0 text bad → AreRising bad
in_order text bad h = rises MAX_TOLD_FAULTS 0 text bad h
