-- A walk over words in which `clap` finds no fault keeps what each use of an argument keeps of the rows.
use Rattle.std.proofs.Common.{◌≡◌, ◌&&◌, refl, ℕ, Bool, List, [], ◌∷◌, Option, Some, None, zero, suc, true, false, cond}
use Rattle.std.proofs.Common.{length, drop, fold, is_some}
use Rattle.std.specs.Prelude.{⊤, IfSome, encode_utf8, slice_get, find}
use Rattle.std.specs.Option.{option_map_or}
use Rattle.std.specs.Str.{bytes_eq, chars}
use Rattle.clap.specs.Lexer.{long_of, short_of}
use Rattle.clap.specs.Kinds.{Kinds, or_else}
use Rattle.clap.specs.Walk.{Held, Names, Outcome, Row, Rule, Step, Text, Waiting, Walk, after_flag, after_step}
use Rattle.clap.specs.Walk.{arg_by_id, arg_by_index, arg_by_long, arg_by_short, attached_value, bundle, bundle_met}
use Rattle.clap.specs.Walk.{bundle_step, done, flag_met, idle, is_pending, long_met, long_or_other, next, nothing_held}
use Rattle.clap.specs.Walk.{option, option_met, option_word, plain, plain_word, positional, pushed, reacted, refused}
use Rattle.clap.specs.Walk.{rows_after, settled, settled_rows, short_met, short_or_plain, subcommand, subcommand_met}
use Rattle.clap.specs.Walk.{subcommand_or_other, takes_several, takes_values, to_positional, trailing, used, used_by_id}
use Rattle.clap.specs.Walk.{value, waits, walk, walk_from, walked, walked_from, with_default, word_met}
use Rattle.clap.specs.Faults.{bundle_fault, bundle_step_fault, flag_word_fault, flags_fault, level_fault, long_fault}
use Rattle.clap.specs.Faults.{option_fault, other_fault, positional_fault, react_fault, settle_fault, short_fault}
use Rattle.clap.specs.Faults.{step_fault, stray_fault, turn_fault, use_fault, walk_fault, word_fault}
use Rattle.clap.specs.Simple.{Shape}
use Rattle.clap.specs.declared.error.kind.ErrorKind.TheVariants as kind

-- where neither of two steps fails, the first doesn't and the second doesn't
pub first_none : (a b : Kinds) → or_else a b ≡ [] → a ≡ []
first_none [] b e = refl
first_none (k ∷ ks) b e = e

pub next_none : (a b : Kinds) → or_else a b ≡ [] → b ≡ []
next_none [] b e = e
next_none (k ∷ ks) b e = cc

-- what a use of the argument without a fault keeps, and its default
abbrev pub Keeps : (List Row → Type 0) → Bool → Rule → Type 0
Keeps P again a = ((values : List Text) (rows : List Row) → use_fault again a values rows ≡ [] → P rows
    → P (used a values rows))
    × ((rows : List Row) → P rows → P (with_default rows a))

abbrev pub EachKeeps : (List Row → Type 0) → Bool → List Rule → Type 0
EachKeeps P again [] = ⊤
EachKeeps P again (a ∷ rest) = Keeps P again a × EachKeeps P again rest

module _ (P : List Row → Type 0) (again : Bool) where
  found_keeps : (p : Rule → Bool) (rules : List Rule) → EachKeeps P again rules → IfSome (find p rules) (Keeps P again)
  found_keeps p [] each = tt
  found_keeps p (a ∷ rest) each = go (p a) (found_keeps p rest each.1)
    where
      go : (b : Bool) → IfSome (find p rest) (Keeps P again) → IfSome (cond b (Some a) (find p rest)) (Keeps P again)
      go true later = each.0
      go false later = later

  default_keeps : (rules : List Rule) → EachKeeps P again rules → (rows : List Row) → P rows
      → P (fold with_default rows rules)
  default_keeps [] each rows r = r
  default_keeps (a ∷ rest) each rows r = default_keeps rest each.1 (with_default rows a) (each.0.1 rows r)

module _ (P : List Row → Type 0) (again : Bool) (c : List Rule) (each : EachKeeps P again c) where
  settled_keeps : (h : Held) → settle_fault c again h ≡ [] → P h.rows → P (settled c h).rows
  settled_keeps h = by_pending h.pending
    where
      by_rule : (o : Option Rule) (values : List Text) → IfSome o (Keeps P again)
          → option_map_or (λ a. use_fault again a values h.rows) o [] ≡ [] → P h.rows
          → P (used_by_id o values h.rows)
      by_rule None values keeps e r = r
      by_rule (Some a) values keeps e r = keeps.0 values h.rows e r

      by_pending : (q : Option (Text × List Text)) → option_map_or
          (λ p. option_map_or (λ a. use_fault again a p.1 h.rows) (arg_by_id c p.0) []) q [] ≡ [] → P h.rows
          → P (settled_rows c q h.rows)
      by_pending None e r = r
      by_pending (Some p) e r = by_rule (arg_by_id c p.0) p.1 (found_keeps P again _ c each) e r

  reacted_keeps : (a : Rule) → Keeps P again a → (values : List Text) (h : Held) → react_fault c again a values h ≡ []
      → P h.rows → P (reacted c a values h).rows
  reacted_keeps a keeps values h e r =
      keeps.0 values (settled c h).rows (next_none (settle_fault c again h) _ e)
      (settled_keeps h (first_none (settle_fault c again h) _ e) r)

  option_keeps : (a : Rule) → Keeps P again a → (v : Option Text) (h : Held) → option_fault c again a v h ≡ []
      → P h.rows → P (option_met c a v h).0.rows
  option_keeps a keeps None h e r = settled_keeps h e r
  option_keeps a keeps (Some v) h e r = reacted_keeps a keeps (v ∷ []) h e r

  long_keeps : (o : Option Rule) → IfSome o (Keeps P again) → (v : Option Text) (h : Held) → long_fault c again o v h
      ≡ [] → P h.rows → P (long_met c o v h).0.rows
  long_keeps None keeps v h e r = r
  long_keeps (Some a) keeps v h e r = go (takes_values a) e
    where
      flag : (w : Option Text) → cond (is_some w) (kind.TooManyValues ∷ []) (react_fault c again a [] h) ≡ []
          → P (flag_met c a w h).0.rows
      flag None e = reacted_keeps a keeps [] h e r
      flag (Some w) e = r

      go : (b : Bool) → cond b (option_fault c again a v h)
          (cond (is_some v) (kind.TooManyValues ∷ []) (react_fault c again a [] h)) ≡ []
          → P (cond b (option_met c a v h) (flag_met c a v h)).0.rows
      go true e = option_keeps a keeps v h e r
      go false e = flag v e

  short_keeps : (o : Option Rule) → IfSome o (Keeps P again) → (rest : Text) (h : Held) (fault : Held → Kinds)
      (after : Held → Held × Outcome)
      → ((g : Held) → fault g ≡ [] → P g.rows → P (after g).0.rows) → short_fault c again o rest h fault ≡ [] → P h.rows
      → P (short_met c o rest h after).0.rows
  short_keeps None keeps rest h fault after on e r = r
  short_keeps (Some a) keeps rest h fault after on e r = go (takes_values a) e
    where
      go : (b : Bool) → cond b (option_fault c again a (attached_value rest) h)
          (or_else (react_fault c again a [] h) (fault (reacted c a [] h))) ≡ []
          → P (cond b (option_met c a (attached_value rest) h) (after (reacted c a [] h))).0.rows
      go true e = option_keeps a keeps (attached_value rest) h e r
      go false e =
          on (reacted c a [] h) (next_none (react_fault c again a [] h) _ e)
          (reacted_keeps a keeps [] h (first_none (react_fault c again a [] h) _ e) r)

  bundle_keeps : (k : ℕ) (flags : Text) (skip : ℕ) (so_far : Outcome) (h : Held) → flags_fault c again k flags skip h
      ≡ [] → P h.rows
      → P (bundle_met c k flags skip so_far h).0.rows
  unfolding flags_fault bundle_met
  bundle_keeps zero flags skip so_far h e r = r
  bundle_keeps (suc k) flags skip so_far h e r = go (slice_get (chars flags) 0) skip (bundle_keeps k) e
    where
      go : (o : Option ℕ) (s : ℕ) → ((text : Text) (n : ℕ) (outcome : Outcome) (g : Held)
          → flags_fault c again k text n g ≡ [] → P g.rows → P (bundle_met c k text n outcome g).0.rows)
          → bundle_step_fault c again o flags s h (flags_fault c again k) ≡ []
          → P (bundle_step c o flags s so_far h (bundle_met c k)).0.rows
      go None s later e = r
      go (Some x) zero later e = short_keeps (arg_by_short c x) (found_keeps P again _ c each)
          (drop (length (encode_utf8 x)) flags) h
          (flags_fault c again k (drop (length (encode_utf8 x)) flags) 0)
          (bundle_met c k (drop (length (encode_utf8 x)) flags) 0 done)
          (λ g. later (drop (length (encode_utf8 x)) flags) 0 done g) e r
      go (Some x) (suc s) later e = later (drop (length (encode_utf8 x)) flags) s so_far h e r

  plain_keeps : (waiting : Waiting) (word : Text) (h : Held) → P h.rows → P (plain_word c waiting word h).0.rows
  plain_keeps idle word h r = r
  plain_keeps positional word h r = r
  plain_keeps (option id) word h r = go (arg_by_id c id)
    where
      go : (o : Option Rule) → P (option_word o id word h).0.rows
      go None = r
      go (Some a) = r

  after_keeps : (waiting : Waiting) (word : Text) (h : Held) (o : Outcome) → P h.rows
      → P (after_flag c waiting word h o).0.rows
  after_keeps waiting word h done r = r
  after_keeps waiting word h (waits id) r = r
  after_keeps waiting word h plain r = plain_keeps waiting word h r
  after_keeps waiting word h refused r = plain_keeps waiting word h r

  flag_word_keeps : (waiting : Waiting) (word : Text) (o : Option (Text × Option Text)) (h : Held)
      → flag_word_fault c again o word h ≡ [] → P h.rows
      → P (long_or_other c waiting word o h).0.rows
  flag_word_keeps waiting word (Some p) h e r =
      after_keeps waiting word _ (long_met c (arg_by_long c p.0) p.1 h).1
      (long_keeps (arg_by_long c p.0) (found_keeps P again _ c each) p.1 h e r)
  flag_word_keeps waiting word None h e r = go (short_of word) e
    where
      go : (o : Option Text) → option_map_or (λ flags. bundle_fault c again flags h) o [] ≡ []
          → P (short_or_plain c waiting word o h).0.rows
      go None e = plain_keeps waiting word h r
      go (Some flags) e =
          after_keeps waiting word _ (bundle c flags h).1
          (bundle_keeps (length flags) flags h.skip plain (record h { skip = 0 }) e r)

module _ (P : List Row → Type 0) (s : Shape) (each : EachKeeps P s.args_override_self s.rules) where
  other_keeps : (o : Option Text) (waiting : Waiting) (position : ℕ) (word : Text) (h : Held) → other_fault s o word h
      ≡ [] → P h.rows
      → P (subcommand_or_other s.rules o waiting position word h).0.rows
  other_keeps (Some name) waiting position word h e r = r
  other_keeps None waiting position word h e r = go (bytes_eq word (45 ∷ 45 ∷ [])) e
    where
      go : (b : Bool) → cond b [] (flag_word_fault s.rules s.args_override_self (long_of word) word h) ≡ []
          → P (cond b (h, trailing position) (long_or_other s.rules waiting word (long_of word) h)).0.rows
      go true e = r
      go false e = flag_word_keeps P s.args_override_self s.rules each waiting word (long_of word) h e r

  word_keeps : (names : Names) (is_trailing : Bool) (waiting : Waiting) (position : ℕ) (word : Text) (h : Held)
      → word_fault s names is_trailing waiting word h ≡ []
      → P h.rows → P (word_met s.rules names is_trailing waiting position word h).0.rows
  word_keeps names true waiting position word h e r = r
  word_keeps names false waiting position word h e r =
      other_keeps (subcommand_met names waiting word) waiting position word h e r

  step_keeps : (word : Text) (w : Walk) (h : Held) (step : Step) → step_fault s w.position h step ≡ [] → P h.rows
      → P (after_step s.rules word w h step).held.rows
  step_keeps word w h (next waiting) e r = r
  step_keeps word w h (trailing position) e r = r
  step_keeps word w h (subcommand name) e r = r
  step_keeps word w h value e r = go (arg_by_index s.rules w.position) e
    where
      taken : (a : Rule) (b : Bool) → cond b [] (settle_fault s.rules s.args_override_self h) ≡ []
          → P (pushed a.id word (cond b h (settled s.rules h))).rows
      taken a true e = r
      taken a false e = settled_keeps P s.args_override_self s.rules each h e r

      go : (o : Option Rule) → option_map_or (λ a. positional_fault s.rules s.args_override_self a h) o (stray_fault s)
          ≡ []
          → P (to_positional s.rules o word w h).held.rows
      go None e = r
      go (Some a) e = taken a (is_pending a h.pending && takes_several a) e

  turn_keeps : (names : Names) (w : Walk) (word : Text) → turn_fault s names w word ≡ [] → P w.held.rows
      → P (walked s.rules names w word).held.rows
  unfolding walked
  turn_keeps names w word e r = go w.stopped e
    where
      go : (o : Option (Text × List Text)) → cond (is_some o) []
          (or_else (word_fault s names w.is_trailing w.waiting word w.held)
          (step_fault s w.position (word_met s.rules names w.is_trailing w.waiting w.position word w.held).0
          (word_met s.rules names w.is_trailing w.waiting w.position word w.held).1)) ≡ []
          → P (walked_from s.rules names o w word).held.rows
      go (Some p) e = r
      go None e = step_keeps word w _ _ (next_none (word_fault s names w.is_trailing w.waiting word w.held) _ e)
          (word_keeps names w.is_trailing w.waiting w.position word w.held
          (first_none (word_fault s names w.is_trailing w.waiting word w.held) _ e) r)

  walk_keeps : (names : Names) (words : List Text) (w : Walk) → walk_fault s names w words ≡ [] → P w.held.rows
      → P (fold (walked s.rules names) w words).held.rows
  unfolding walk_fault
  walk_keeps names [] w e r = r
  walk_keeps names (word ∷ rest) w e r = walk_keeps names rest (walked s.rules names w word)
      (next_none (turn_fault s names w word) _ e)
      (turn_keeps names w word (first_none (turn_fault s names w word) _ e) r)

  -- the rows of one level of the parse
  pub level_keeps : (names : Names) (words : List Text) (has : Bool) (below : Kinds)
      → level_fault s names nothing_held words has below ≡ [] → P []
      → P (rows_after s.rules names words)
  level_keeps names words has below e none =
      let end = (walk s.rules names nothing_held words).held in
      let walk_none = first_none (walk_fault s names (walk_from nothing_held) words) _ e in
      let rest = next_none below _ (next_none (walk_fault s names (walk_from nothing_held) words) _ e) in
      let settle_none = first_none (settle_fault s.rules s.args_override_self end) _ rest in
      default_keeps P s.args_override_self s.rules each (settled s.rules end).rows
      (settled_keeps P s.args_override_self s.rules each end settle_none
      (walk_keeps names words (walk_from nothing_held) walk_none none))
