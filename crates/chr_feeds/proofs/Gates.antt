-- Files with a closed gate behind their records, and what writes make of them.
use Rattle.std.proofs.Common.{◌≡◌, ◌≢◌, ◌⊎◌, inl, inr, ℕ, suc, ◌+◌, ◌-◌, ◌<◌, ◌≤◌, List, [], ◌∷◌, ◌++◌, length, get_or}
use Rattle.std.proofs.Common.{take, drop, refl, sym, ◌∙◌, ap, subst, arith, length-append, take-append-drop}
use Rattle.std.proofs.Common.{get_or-take, get_or-drop, None}
use Rattle.std.proofs.lemmas.List.{append-nil, drop_more, get_or_append_left, get_or-append_right, length-take-le}
use Rattle.std.proofs.lemmas.Grind.{same_number_lists}
use Rattle.std.proofs.lemmas.Bool.{cases_eq, cases_lt}
use Rattle.sqlite_disk.specs.Disk.{Holds, Torn, Mixed, Follows, Only}
use Rattle.chr_records.specs.Records.{gate, bytes_of, record_bytes, records_of, size_of, AreTexts, IsWhole, IsFaded}
use Rattle.chr_records.proofs.Scans.{read_back, ended, all_split, faded_from, bytes_of-append, AreTexts-append}
use Rattle.chr_feeds.specs.working.Fronts.{KeepsFront}
use Rattle.chr_feeds.specs.Files.{IsBlank, IsGrown}

-- the records of a file end at a gate that is closed
pub record IsClosed (texts : List (List ℕ)) (at : ℕ) (file : List ℕ) : Type 0 where
  pub size : length (bytes_of texts) ≡ at
  pub within : at < length file
  pub front : (i : ℕ) → i < at → get_or file i 0 ≡ get_or (bytes_of texts) i 0
  pub shut : get_or file at 0 ≢ gate
  pub are : AreTexts texts

front_is : (texts : List (List ℕ)) (at : ℕ) (file : List ℕ) → length (bytes_of texts) ≡ at → at ≤ length file
    → ((i : ℕ) → i < at → get_or file i 0 ≡ get_or (bytes_of texts) i 0)
    → take at file ≡ bytes_of texts
front_is texts at file size within front =
    let long = length-take-le at file within in
    same_number_lists (take at file) (bytes_of texts) (long ∙ sym size)
    (λ k low. let below : k < at = omega (arith, long, low) in get_or-take at file k 0 below ∙ front k below)

pub closed_reads : (texts : List (List ℕ)) (at : ℕ) (file : List ℕ) → IsClosed texts at file → records_of file ≡ texts
closed_reads texts at file c =
    let whole : file ≡ bytes_of texts ++ (get_or file at 0 ∷ drop (at + 1) file) =
    sym (take-append-drop at file) ∙ ap (λ (l : List ℕ). l ++ drop at file)
    (front_is texts at file c.size (omega (arith, c.within)) c.front)
    ∙ ap (λ (l : List ℕ). bytes_of texts ++ l) (drop_more file at 0 c.within) in
    ap records_of whole ∙ ended texts (get_or file at 0) (drop (at + 1) file) c.are c.shut

pub torn_keeps : (at n : ℕ) (old new : List ℕ) → Torn at n old new → KeepsFront at old new
torn_keeps at n old new torn = record { no_shorter = torn.no_shorter; same = torn.below }

pub closed_kept : (texts : List (List ℕ)) (at n : ℕ) (old new : List ℕ) → IsClosed texts at old
    → KeepsFront n old new → at < n → IsClosed texts at new
closed_kept texts at n old new c keeps low = record {
  size = c.size;
  within = omega (arith, c.within, keeps.no_shorter);
  front = λ i below. keeps.same i (omega (arith, c.within, below)) (omega (arith, below, low)) ∙ c.front i below;
  shut = λ is. c.shut (sym (keeps.same at c.within low) ∙ is);
  are = c.are;
}

-- a file whose records end where a blank stands
pub closed_at : (file : List ℕ) (at room : ℕ) → at ≡ size_of file → IsBlank at room file → 0 < room
    → IsClosed (records_of file) at file
closed_at file at room size blank some =
    let all = all_split file in
    let texts = records_of file in
    let zero_there : get_or file at 0 ≡ 0 = let here : at + 0 ≡ at = omega arith in
    ap (λ (k : ℕ). get_or file k 0) (sym here) ∙ blank.each 0 some in
    record {
      size = sym size;
      within = omega (arith, blank.within, some);
      front = λ i low. ap (λ (l : List ℕ). get_or l i 0) all.split
          ∙ get_or_append_left (bytes_of texts) all.end 0 i (omega (arith, low, size));
      shut = λ is. absurd (omega (arith, zero_there, is));
      are = all.texts;
    }

-- more records stand behind those that were there, and then a gate that is closed
pub opened : (texts : List (List ℕ)) (at : ℕ) (batch file : List ℕ) → length (bytes_of texts) ≡ at → AreTexts texts
    → IsWhole batch → at + length batch < length file
    → ((i : ℕ) → i < at → get_or file i 0 ≡ get_or (bytes_of texts) i 0)
    → ((i : ℕ) → i < length batch → get_or file (at + i) 0 ≡ get_or batch i 0)
    → get_or file (at + length batch) 0 ≡ 0
    → IsClosed (texts ++ records_of batch) (at + length batch) file
opened texts at batch file size are whole within front there blank =
    let more = records_of batch in
    let bytes : bytes_of (texts ++ more) ≡ bytes_of texts ++ batch = bytes_of-append texts more
    ∙ ap (λ (l : List ℕ). bytes_of texts ++ l) (sym whole) in
    record {
      size = ap length bytes ∙ length-append (bytes_of texts) batch ∙ ap (λ (k : ℕ). k + length batch) size;
      within = within;
      front = λ i low. elim (cases_lt i at) [
        | inl early ↦ front i early ∙ sym (ap (λ (l : List ℕ). get_or l i 0) bytes
            ∙ get_or_append_left (bytes_of texts) batch 0 i (omega (arith, size, early)))
        | inr late ↦
            let back : at + (i - at) ≡ i = omega arith in
            ap (λ (k : ℕ). get_or file k 0) (sym back) ∙ there (i - at) (omega (arith, low, late))
            ∙ sym (ap (λ (l : List ℕ). get_or l i 0) bytes ∙ get_or-append_right
            (bytes_of texts) batch at i 0 size late)
      ];
      shut = λ is. absurd (omega (arith, blank, is));
      are = AreTexts-append texts more are (all_split batch).texts;
    }

-- more blanks, behind the others
pub laid : (size room count : ℕ) (old new : List ℕ) → IsBlank size room old → KeepsFront (size + room) old new
    → IsBlank (size + room) count new → IsBlank size (room + count) new
laid size room count old new blank keeps more = record {
  within = omega (arith, more.within);
  each = λ i low. elim (cases_lt i room) [
    | inl early ↦ keeps.same (size + i) (omega (arith, blank.within, early)) (omega (arith, early)) ∙ blank.each i early
    | inr late ↦
        let there : size + room + (i - room) ≡ size + i = omega arith in
        ap (λ (k : ℕ). get_or new k 0) (sym there) ∙ more.each (i - room) (omega (arith, low, late))
  ];
}

-- a byte that is blank or one of a batch, and a blank behind them
faded_by_index : (bytes batch : List ℕ) → ((i : ℕ) → i < length batch
    → (get_or bytes i 0 ≡ 0) ⊎ (get_or bytes i 0 ≡ get_or batch i 0)) → get_or bytes (length batch) 0 ≡ 0
    → IsFaded bytes batch
faded_by_index [] batch each end = tt
faded_by_index (b ∷ bytes) [] each end = end
faded_by_index (b ∷ bytes) (w ∷ batch) each end =
    let first : (b ≡ 0) ⊎ (b ≡ w) = each 0 (omega arith) in
    let later : get_or bytes (length batch) 0 ≡ 0 = end in
    elim first [
      | inl is ↦ inl is
      | inr is ↦ inr (is, faded_by_index bytes batch (λ i low. each (suc i) (omega (arith, low))) later)
    ]

-- a crash while records are written over blanks
pub mixed_grows : (file : List ℕ) (at room : ℕ) (batch c : List ℕ) → IsClosed (records_of file) at file
    → IsBlank at room file → length batch < room → Mixed at batch file c
    → IsGrown (records_of file) (records_of batch) c
mixed_grows file at room batch c closed blank low mixed =
    let texts = records_of file in
    let torn = mixed.torn in
    let long : at + length batch < length file = omega (arith, blank.within, low) in
    let front = front_is texts at c closed.size (omega (arith, long, torn.no_shorter))
    (λ i below. torn.below i (omega (arith, below, long)) below ∙ closed.front i below) in
    let faded = faded_by_index (drop at c) batch
    (λ i below. elim (mixed.each i below (omega (arith, below, long))) [
      | inl old ↦ inl (get_or-drop at c i 0 ∙ old ∙ blank.each i (omega (arith, below, low)))
      | inr new ↦ inr (get_or-drop at c i 0 ∙ new)
    ])
    (get_or-drop at c (length batch) 0 ∙ torn.above (at + length batch) long (omega arith)
    ∙ blank.each (length batch) low) in
    let grown = faded_from None (drop at c) batch faded in (
      records_of (drop at c),
      grown,
      ap records_of (sym (take-append-drop at c) ∙ ap (λ (l : List ℕ). l ++ drop at c) front)
          ∙ read_back texts (drop at c) closed.are,
    )

pub written_over : (file : List ℕ) (at room : ℕ) (batch new : List ℕ) → IsClosed (records_of file) at file
    → IsBlank at room file → length batch < room → IsWhole batch → Torn at (length batch) file new → Holds new at batch
    → IsClosed (records_of file ++ records_of batch) (at + length batch) new × IsBlank (at + length batch)
    (room - length batch) new
written_over file at room batch new closed blank low whole torn holds =
    let long : at + length batch < length file = omega (arith, blank.within, low) in
    let n = length batch in (
      opened (records_of file) at batch new closed.size closed.are whole (omega (arith, long, torn.no_shorter))
          (λ i below. torn.below i (omega (arith, below, long)) below ∙ closed.front i below) holds.each
          (torn.above (at + n) long (omega arith) ∙ blank.each n low),
      record {
        within = omega (arith, blank.within, low, torn.no_shorter);
        each = λ i less.
            let there : at + n + i ≡ at + (n + i) = omega arith in
            torn.above (at + n + i) (omega (arith, less, blank.within, low)) (omega arith)
            ∙ ap (λ (k : ℕ). get_or file k 0) there ∙ blank.each (n + i) (omega (arith, less));
      },
    )

-- a batch that stands on the disk as a whole, but for its first byte
pub record IsStaged (texts : List (List ℕ)) (at : ℕ) (batch file : List ℕ) : Type 0 where
  pub closed : IsClosed texts at file
  pub whole : IsWhole batch
  pub first : get_or batch 0 0 ≡ gate
  pub within : at + length batch < length file
  pub rest : (i : ℕ) → 0 < i → i < length batch → get_or file (at + i) 0 ≡ get_or batch i 0
  pub end : get_or file (at + length batch) 0 ≡ 0

-- the gate is written over, and is open afterwards
pub gate_open : (texts : List (List ℕ)) (at : ℕ) (batch file c : List ℕ) → IsStaged texts at batch file
    → 0 < length batch → Torn at 1 file c → get_or c at 0 ≡ gate
    → IsClosed (texts ++ records_of batch) (at + length batch) c
gate_open texts at batch file c staged some torn is =
    opened texts at batch c staged.closed.size staged.closed.are staged.whole
    (omega (arith, staged.within, torn.no_shorter))
    (λ i below. torn.below i (omega (arith, below, staged.within)) below ∙ staged.closed.front i below)
    (λ i below. elim (cases_lt 0 i) [
      | inl later ↦ torn.above (at + i) (omega (arith, below, staged.within)) (omega (arith, later))
          ∙ staged.rest i later below
      | inr here ↦
          let none : i ≡ 0 = omega arith in
          let there : at + i ≡ at = omega arith in
          ap (λ (k : ℕ). get_or c k 0) there ∙ is ∙ sym (ap (λ (k : ℕ). get_or batch k 0) none ∙ staged.first)
    ])
    (torn.above (at + length batch) staged.within (omega (arith, some)) ∙ staged.end)

pub gate_torn : (texts : List (List ℕ)) (at : ℕ) (batch file c : List ℕ) → IsStaged texts at batch file
    → 0 < length batch → Torn at 1 file c → IsGrown texts (records_of batch) c
gate_torn texts at batch file c staged some torn = elim (cases_eq (get_or c at 0) gate) [
  | inl is ↦ (
    records_of batch,
    ([], sym (append-nil (records_of batch))),
    closed_reads _ _ c
        (gate_open texts at batch file c staged some torn is),
  )
  | inr other ↦
      let closed : IsClosed texts at c = record {
        size = staged.closed.size;
        within = omega (arith, staged.closed.within, torn.no_shorter);
        front = λ i below. torn.below i (omega (arith, below, staged.closed.within)) below
            ∙ staged.closed.front i below;
        shut = other;
        are = staged.closed.are;
      } in
      ([], (records_of batch, refl), closed_reads texts at c closed ∙ sym (append-nil texts))
]

-- whole records that are some begin with a gate, and are two bytes at least
pub begins : (batch : List ℕ) → IsWhole batch → 0 < length batch → (get_or batch 0 0 ≡ gate) × (1 < length batch)
begins batch whole some = go (records_of batch) whole
  where
    go : (texts : List (List ℕ)) → batch ≡ bytes_of texts → (get_or batch 0 0 ≡ gate) × (1 < length batch)
    go [] is = absurd (omega (arith, some, ap length is))
    go (t ∷ texts) is = (
      ap (λ (l : List ℕ). get_or l 0 0) is,
      omega (arith, ap length is, length-append (record_bytes t) (bytes_of texts), length-append t (10 ∷ [])),
    )

pub unchanged : (texts more : List (List ℕ)) (c : List ℕ) → records_of c ≡ texts → IsGrown texts more c
unchanged texts more c is = ([], (more, refl), is ∙ sym (append-nil texts))

pub short_nothing : (c : List ℕ) → length c ≤ 1 → records_of c ≡ []
short_nothing [] short = refl
short_nothing (b ∷ []) short = elim (cases_eq b gate) [
  | inl is ↦ ap (λ (x : ℕ). records_of (x ∷ [])) is
  | inr other ↦ ended [] b [] tt other
]
short_nothing (a ∷ b ∷ c) short = absurd (omega arith)

-- one step from a content that was the only one
pub stepped : (step : List ℕ → List ℕ → Type 0) (file : List ℕ) (old new : List ℕ → Type 0) → Only file old
    → Follows step old new → (c : List ℕ) → new c → step file c
stepped step file old new only follows c left =
    let from = follows c left in subst (λ (f : List ℕ). step f c) (only from.0 from.1) from.2

pub room_kept : (file : List ℕ) (size room : ℕ) (c : List ℕ) → size ≡ size_of file → IsBlank size room file
    → 0 < room → KeepsFront (size + room) file c → records_of c ≡ records_of file
room_kept file size room c is blank some keeps =
    closed_reads (records_of file) size c
    (closed_kept (records_of file) size (size + room) file c (closed_at file size room is blank some) keeps
    (omega (arith, some)))

-- what stands in front of a batch that is staged, or is being staged
pub staged_front : (file : List ℕ) (size room : ℕ) (c : List ℕ) → size ≡ size_of file → IsBlank size room file
    → 0 < room → KeepsFront (size + 1) file c → IsClosed (records_of file) size c
staged_front file size room c is blank some keeps =
    closed_kept (records_of file) size (size + 1) file c (closed_at file size room is blank some) keeps (omega arith)

pub staged : (file : List ℕ) (size room : ℕ) (batch c : List ℕ) → size ≡ size_of file → IsBlank size room file
    → 0 < room → IsWhole batch → 0 < length batch → KeepsFront (size + 1) file c
    → ((i : ℕ) → 0 < i → i < length batch → get_or c (size + i) 0 ≡ get_or batch i 0)
    → IsBlank (size + length batch) 1 c → IsStaged (records_of file) size batch c
staged file size room batch c is blank shut whole some keeps rest end =
    let here : size + length batch + 0 ≡ size + length batch = omega arith in
    record {
      closed = staged_front file size room c is blank shut keeps;
      whole = whole;
      first = (begins batch whole some).0;
      within = omega (arith, end.within);
      rest = rest;
      end = ap (λ (k : ℕ). get_or c k 0) (sym here) ∙ end.each 0 (omega arith);
    }

-- the gate is open, and the next one shut
pub opened_whole : (texts : List (List ℕ)) (at : ℕ) (batch file c : List ℕ) → IsStaged texts at batch file
    → 0 < length batch → Torn at 1 file c → Holds c at (gate ∷ [])
    → IsClosed (texts ++ records_of batch) (at + length batch) c × IsBlank (at + length batch) 1 c
opened_whole texts at batch file c staged some torn holds =
    let here : at + 0 ≡ at = omega arith in
    let is : get_or c at 0 ≡ gate = ap (λ (k : ℕ). get_or c k 0) (sym here) ∙ holds.each 0 (omega arith) in (
      gate_open texts at batch file c staged some torn is,
      record {
        within = omega (arith, staged.within, torn.no_shorter);
        each = λ i low.
            let none : at + length batch + i ≡ at + length batch = omega arith in
            ap (λ (k : ℕ). get_or c k 0) none ∙ torn.above (at + length batch) staged.within (omega (arith, some))
            ∙ staged.end;
      },
    )

-- as many bytes as the file has, all of them read
pub read_whole : (file bytes : List ℕ) → length bytes ≡ length file → (0 < length bytes → Holds file 0 bytes)
    → bytes ≡ file
read_whole file bytes long held =
    same_number_lists bytes file long (λ k low. let here : 0 + k ≡ k = omega arith in sym
    ((held (omega (arith, low))).each k low) ∙ ap (λ (i : ℕ). get_or file i 0) here)
