-- The numbers that the words give to the options `--replicas`, `--workers` and `--parts`, where `clap` finds no fault
-- in
-- them.
use Rattle.std.proofs.Common.{◌≡◌, ◌∙◌, ◌++◌, ◌==◌, ◌≤◌, ◌<◌, ◌^◌, Result, Ok, Err, refl, sym, ap, subst, ℕ, Bool, List}
use Rattle.std.proofs.Common.{[], ◌∷◌, Option, Some, None, true, false, cond, length, codes, arith}
use Rattle.std.specs.Prelude.{⊤, IfSome, slice_get, find, option_map, option_and_then, pos, unwrap_or}
use Rattle.std.specs.Option.{option_map_or}
use Rattle.std.specs.Str.{bytes_eq}
use Rattle.std.specs.Str.Parse.{IsNumeral, ParsesUnsigned, starts_with_minus, without_leading_plus}
use Rattle.std.proofs.lemmas.Int.{ints}
use Rattle.std.proofs.lemmas.Slice.Eq.{bytes_eq-Decides}
use Rattle.clap.specs.Lexer.{without_minus}
use Rattle.clap.specs.Values.{IsSignedIn, read_as}
use Rattle.clap.specs.ValueTests.{accepts}
use Rattle.clap.specs.Matches.{ReadsOne, one_text}
use Rattle.clap.specs.Kinds.{range_kinds, value_kinds, values_kinds}
use Rattle.clap.specs.Walk.{answers_to, Row, Rule, Text, at_row, has_row, more_values, nothing_held, one_of, row_text}
use Rattle.clap.specs.Walk.{rows_of, stop_after, used, values_or_missing, walk_from, with_default, with_values, without}
use Rattle.clap.specs.Faults.{entered_fault, level_fault, repeat_fault, use_fault, walk_fault}
use Rattle.clap.specs.Simple.{Shape, argument_words, built, entered, filled, help_rule, label_of, names_of, rows_at}
use Rattle.clap.specs.Simple.{subcommand_of, topic_rule, with_index}
use Rattle.clap.proofs.WalkLemmas.{one_text-rows}
use Rattle.clap.proofs.ValueTestLemmas.{accepts-Accepts}
use Rattle.clap.specs.declared.builder.value_parser.Reading.{Reading}
use Rattle.clap.specs.declared.builder.value_parser.Reading.TheVariants.{WithoutMinus}
use Rattle.clap.specs.declared.builder.value_parser.ValueParser.{ValueParser}
use Rattle.clap.specs.declared.builder.value_parser.ValueParser.TheVariants.{Signed}
use Rattle.clap.specs.declared.error.kind.ErrorKind.TheVariants as kind
use Rattle.clap.specs.declared.parser.matches.Found.{Found}
use Rattle.clap.specs.declared.parser.matches.ValueSource.{ValueSource}
use Rattle.clap.specs.declared.parser.matches.ValueSource.TheVariants.{CommandLine, DefaultValue}
use Rattle.chr_base.specs.declared.limits.TheConstants.{MAX_PARTS, MAX_REPLICAS, MAX_WORKERS}
use Rattle.chr_device.specs.declared.words.Settings.{Settings}
use Rattle.chr_device.specs.Settings.{IsWithinLimits}
use Rattle.chr_device.specs.Words.{NumbersAreWithinLimits, WritesNumber, chrrep, decimal_value, faults_of, flag_option}
use Rattle.chr_device.specs.Words.{number_met, number_option, number_text, parts_met, parts_option, replicas_met}
use Rattle.chr_device.specs.Words.{replicas_option, wide_option, workers_met, workers_option}
use Rattle.chr_device.specs.working.Numbers.{IsReadFrom, text_in}
use Rattle.chr_device.proofs.Walks.{EachKeeps, Keeps, first_none, level_keeps, next_none}

-- an option's name with its limit: where an option with a number has that name it has that limit, and no other argument
-- has that name
record IsNamed (name : Text) (most : ℕ) : Type 0 where
  some : 1 ≤ most
  few : most < 2 ^ 32
  replicas : bytes_eq (codes "replicas") name ≡ true → MAX_REPLICAS ≡ most
  workers : bytes_eq (codes "workers") name ≡ true → MAX_WORKERS ≡ most
  parts : bytes_eq (codes "parts") name ≡ true → MAX_PARTS ≡ most
  wide : bytes_eq (codes "wide") name ≡ false
  dot : bytes_eq (codes "dot") name ≡ false
  html : bytes_eq (codes "html") name ≡ false
  all : bytes_eq (codes "all") name ≡ false
  topic : bytes_eq (codes "subcommand") name ≡ false

module _ (name : Text) (most : ℕ) (named : IsNamed name most) where
  -- ---- rows

  abbrev range : ValueParser
  range = Signed (pos 1) (pos most)

  -- each value was accepted
  abbrev AreAccepted : List Text → Type 0
  AreAccepted [] = ⊤
  AreAccepted (v ∷ vs) = (accepts false range v ≡ true) × AreAccepted vs

  -- a row of the option has only values that were accepted, and they are read without a hyphen
  abbrev IsSound : Row → Type 0
  IsSound r = bytes_eq r.id name ≡ true → (r.reading ≡ WithoutMinus) × AreAccepted r.values

  abbrev AreSound : List Row → Type 0
  AreSound [] = ⊤
  AreSound (r ∷ rest) = IsSound r × AreSound rest

  accepted_append : (vs ws : List Text) → AreAccepted vs → AreAccepted ws → AreAccepted (vs ++ ws)
  accepted_append [] ws a b = b
  accepted_append (v ∷ vs) ws a b = (a.0, accepted_append vs ws a.1 b)

  sound_append : (xs ys : List Row) → AreSound xs → AreSound ys → AreSound (xs ++ ys)
  sound_append [] ys a b = b
  sound_append (x ∷ xs) ys a b = (a.0, sound_append xs ys a.1 b)

  at_row_sound : (id : Text) (change : Row → List Row) (missing : List Row)
      → ((r : Row) → bytes_eq r.id id ≡ true → IsSound r → AreSound (change r)) → AreSound missing
      → (rows : List Row) → AreSound rows → AreSound (at_row id change missing rows)
  at_row_sound id change missing on none [] sound = none
  at_row_sound id change missing on none (r ∷ rest) sound =
      go (bytes_eq r.id id) refl (at_row_sound id change missing on none rest sound.1)
    where
      go : (b : Bool) → bytes_eq r.id id ≡ b → AreSound (at_row id change missing rest)
          → AreSound (cond b (change r ++ rest) (r ∷ at_row id change missing rest))
      go true e later = sound_append (change r) rest (on r e sound.0) sound.1
      go false e later = (sound.0, later)

  without_sound : (id : Text) (rows : List Row) → AreSound rows → AreSound (without id rows)
  without_sound id rows sound = at_row_sound id (λ _. []) [] (λ r e s. tt) tt rows sound

  -- the option with accepted values
  own_sound : (values : List Text) (rows : List Row) → AreAccepted values → AreSound rows
      → AreSound (with_values name WithoutMinus CommandLine values (without name rows))
  own_sound values rows accepted sound =
      at_row_sound name (more_values CommandLine values) _
      (λ r e s. ((λ is. ((s is).0, accepted_append r.values values (s is).1 accepted)), tt))
      ((λ is. (refl, accepted)), tt) _ (without_sound name rows sound)

  -- another argument with any values
  other_sound : (id : Text) (how : Reading) (source : ValueSource) (values : List Text) (rows : List Row)
      → bytes_eq id name ≡ false → AreSound rows
      → AreSound (with_values id how source values rows)
  other_sound id how source values rows other sound =
      at_row_sound id (more_values source values) _ (λ r e s. ((λ is. absurd (apart r e is)), tt))
      ((λ is. absurd (clash is)), tt) rows sound
    where
      clash : bytes_eq id name ≡ true → ⊥
      clash is = let bad : false ≡ true = sym other ∙ is in cc

      apart : (r : Row) → bytes_eq r.id id ≡ true → bytes_eq r.id name ≡ true → ⊥
      apart r e is = clash (subst (λ (t : Text). bytes_eq t name ≡ true) ((bytes_eq-Decides r.id id).0 e) is)

  -- ---- arguments

  values_accepted : (values : List Text) → values_kinds false range values ≡ [] → AreAccepted values
  values_accepted [] e = tt
  values_accepted (v ∷ vs) e = (
    go (accepts false range v) (first_none (value_kinds false range v) _ e),
    values_accepted vs (next_none (value_kinds false range v) _ e),
  )
    where
      go : (b : Bool) → cond b [] (kind.ValueValidation ∷ []) ≡ [] → b ≡ true
      go true e = refl
      go false e = cc

  -- the rules of a command, each of which keeps rows sound
  abbrev KeepsSound : Shape → Type 0
  KeepsSound s = EachKeeps AreSound s.args_override_self s.rules

  no_default : (a : Rule) → a.defaults ≡ [] → (rows : List Row) → AreSound rows → AreSound (with_default rows a)
  no_default a none rows sound = rw none (go (has_row a.id rows))
    where
      go : (b : Bool) → AreSound (cond b rows rows)
      go true = sound
      go false = sound

  own_keeps : (again : Bool) → Keeps AreSound again (with_index 1 (filled (number_option name most)))
  own_keeps again = (on, no_default (with_index 1 (filled (number_option name most))) refl)
    where
      on : (values : List Text) (rows : List Row) → use_fault again (with_index 1 (filled (number_option name most)))
          values rows ≡ [] → AreSound rows
          → AreSound (used (with_index 1 (filled (number_option name most))) values rows)
      on values rows e sound = own_sound (values_or_missing (with_index 1 (filled (number_option name most))) values)
          rows
          (values_accepted _ (next_none (repeat_fault again name rows) _
          (next_none (range_kinds 1 1 (length values)) _ e))) sound

  -- an option with a number keeps rows sound: the option itself, with its limit, and any other
  number_keeps : (again : Bool) (id : Text) (limit : ℕ) → (bytes_eq id name ≡ true → limit ≡ most)
      → Keeps AreSound again (with_index 1 (filled (number_option id limit)))
  number_keeps again id limit same = go (bytes_eq id name) refl
    where
      go : (b : Bool) → bytes_eq id name ≡ b → Keeps AreSound again (with_index 1 (filled (number_option id limit)))
      go true e = subst (λ (t : Text). Keeps AreSound again (with_index 1 (filled (number_option t limit))))
          (sym ((bytes_eq-Decides id name).0 e))
          (subst (λ (k : ℕ). Keeps AreSound again (with_index 1 (filled (number_option name k)))) (sym (same e))
          (own_keeps again))
      go false e = (
        (λ values rows f sound. other_sound id _ CommandLine
            (values_or_missing (with_index 1 (filled (number_option id limit))) values) (without id rows) e
            (without_sound id rows sound)),
        no_default (with_index 1 (filled (number_option id limit))) refl,
      )

  help_keeps : (again : Bool) → Keeps AreSound again (with_index 1 (filled help_rule))
  help_keeps again = ((λ values rows e sound. sound), no_default (with_index 1 (filled help_rule)) refl)

  default_sound : (id : Text) (how : Reading) (values : List Text) (rows : List Row) → bytes_eq id name ≡ false
      → AreSound rows
      → (b : Bool) → AreSound (cond b rows (with_values id how DefaultValue values rows))
  default_sound id how values rows other sound true = sound
  default_sound id how values rows other sound false = other_sound id how DefaultValue values rows other sound

  -- an option without a value, and its default `false`, keep rows sound
  flag_keeps : (again : Bool) (id : Text) → bytes_eq id name ≡ false
      → Keeps AreSound again (with_index 1 (filled (flag_option id)))
  flag_keeps again id other = (
    (λ values rows e sound. other_sound id _ CommandLine
        (values_or_missing (with_index 1 (filled (flag_option id))) values) (without id rows) other
        (without_sound id rows sound)),
    λ rows sound. default_sound id _ (codes "false" ∷ []) rows other sound (has_row id rows),
  )

  topic_keeps : (again : Bool) → Keeps AreSound again (with_index 1 (filled topic_rule))
  topic_keeps again = (
    (λ values rows e sound. other_sound (codes "subcommand") _ CommandLine
        (values_or_missing (with_index 1 (filled topic_rule)) values) rows named.topic sound),
    no_default (with_index 1 (filled topic_rule)) refl,
  )

  -- ---- commands

  abbrev EachKeepsSound : List Shape → Type 0
  EachKeepsSound [] = ⊤
  EachKeepsSound (s ∷ rest) = KeepsSound s × EachKeepsSound rest

  -- the rules of `run` and of `serve`
  answering_keep : EachKeeps AreSound false (with_index 1 (filled replicas_option)
      ∷ with_index 1 (filled workers_option) ∷ with_index 1 (filled parts_option)
      ∷ with_index 1 (filled wide_option) ∷ with_index 1 (filled help_rule) ∷ [])
  answering_keep = (
    number_keeps false (codes "replicas") MAX_REPLICAS named.replicas,
    (
      number_keeps false (codes "workers") MAX_WORKERS named.workers,
      (
        number_keeps false (codes "parts") MAX_PARTS named.parts,
        (flag_keeps false (codes "wide") named.wide, (help_keeps false, tt)),
      ),
    ),
  )

  commands_keep : EachKeepsSound (built chrrep).subs
  commands_keep = (
    (flag_keeps false (codes "wide") named.wide, (help_keeps false, tt)),
    (
      (
        flag_keeps false (codes "dot") named.dot,
        (
          flag_keeps false (codes "html") named.html,
          (
            flag_keeps false (codes "all") named.all,
            (
              flag_keeps false (codes "wide") named.wide,
              (help_keeps false, tt),
            ),
          ),
        ),
      ),
      (answering_keep, (answering_keep, ((topic_keeps false, tt), tt))),
    ),
  )

  found_keeps_sound : (p : Shape → Bool) (shapes : List Shape) → EachKeepsSound shapes
      → IfSome (find p shapes) KeepsSound
  found_keeps_sound p [] each = tt
  found_keeps_sound p (s ∷ rest) each = go (p s) (found_keeps_sound p rest each.1)
    where
      go : (b : Bool) → IfSome (find p rest) KeepsSound → IfSome (cond b (Some s) (find p rest)) KeepsSound
      go true later = each.0
      go false later = later

  entered_sound : (stop : Option (Text × List Text)) → entered_fault (built chrrep) stop ≡ []
      → IfSome (entered (built chrrep) stop) (λ p. AreSound p.1)
  entered_sound None e = tt
  entered_sound (Some p) e = go (find (λ s. answers_to p.0 (label_of s)) (built chrrep).subs)
      (found_keeps_sound (λ s. answers_to p.0 (label_of s)) (built chrrep).subs commands_keep) e
    where
      go : (o : Option Shape) → IfSome o KeepsSound → option_map_or (λ s. level_fault s [] nothing_held p.1 false []) o
          [] ≡ []
          → IfSome (option_map (λ s. rows_at s p.1) o) (λ q. AreSound q.1)
      go None keeps e = tt
      go (Some s) keeps e = level_keeps AreSound s keeps [] p.1 false [] e tt

  -- the command at which the walk over the words stops, and the words after it
  abbrev stop_met : List Text → Option (Text × List Text)
  stop_met words = stop_after (built chrrep).top.rules (names_of (built chrrep)) (argument_words chrrep words)

  command_passes : (words : List Text) → faults_of words ≡ [] → entered_fault (built chrrep) (stop_met words) ≡ []
  command_passes words e = first_none (entered_fault (built chrrep) (stop_met words)) _
      (next_none (walk_fault (built chrrep).top (names_of (built chrrep)) (walk_from nothing_held)
      (argument_words chrrep words)) _ e)

  -- ---- the option's text

  minus_apart : (t : Text) → starts_with_minus t ≡ false → without_minus t ≡ t
  minus_apart [] e = refl
  minus_apart (x ∷ xs) e = go (x == 45) e
    where
      go : (b : Bool) → b ≡ false → unwrap_or (cond b (Some xs) None) (x ∷ xs) ≡ x ∷ xs
      go true e = cc
      go false e = refl

  text_writes : (t : Text) → IsSignedIn (pos 1) (pos most) t → WritesNumber most (without_minus t)
  text_writes t passed = go (starts_with_minus t) refl
    where
      go : (b : Bool) → starts_with_minus t ≡ b → WritesNumber most (without_minus t)
      go true minus = let low = rw minus at passed.2 in absurd (omega (arith, ints))
      go false minus =
          let numeral : IsNumeral 10 (without_leading_plus t) = rw minus at passed.0 in
          let low = rw minus at passed.2 in
          let high = rw minus at passed.3 in
          subst (WritesNumber most) (sym (minus_apart t minus)) (numeral, omega (arith, ints), omega (arith, ints))

  value_writes : (how : Reading) (values : List Text) → how ≡ WithoutMinus → AreAccepted values
      → IfSome (option_map (read_as how) (slice_get values 0)) (WritesNumber most)
  value_writes how [] is accepted = tt
  value_writes how (v ∷ vs) is accepted = subst (λ (h : Reading). WritesNumber most (read_as h v)) (sym is)
      (text_writes v (accepts-Accepts false range v accepted.0))

  sound_text : (rows : List Row) → AreSound rows → IfSome (one_of name rows) (WritesNumber most)
  sound_text [] sound = tt
  sound_text (r ∷ rest) sound = go (bytes_eq r.id name) refl (sound_text rest sound.1)
    where
      go : (b : Bool) → bytes_eq r.id name ≡ b → IfSome (one_of name rest) (WritesNumber most)
          → IfSome (option_and_then row_text (cond b (Some r) (find (λ x. bytes_eq x.id name) rest)))
          (WritesNumber most)
      go true e later = value_writes r.reading r.values (sound.0 e).0 (sound.0 e).1
      go false e later = later

  number_within : (words : List Text) → faults_of words ≡ [] → IfSome (number_text name words) (WritesNumber most)
  number_within words none = go (subcommand_of chrrep words)
      (entered_sound (stop_met words) (command_passes words none))
    where
      go : (o : Option (Text × List Row)) → IfSome o (λ p. AreSound p.1) → IfSome (text_in name o) (WritesNumber most)
      go None sound = tt
      go (Some p) sound = sound_text p.1 sound

  -- ---- the number

  number_is : (words : List Text) (n : ℕ) → faults_of words ≡ [] → IsReadFrom (number_text name words) n
      → n ≡ number_met name words
  number_is words n none = go (number_text name words) (number_within words none)
    where
      go : (o : Option Text) → IfSome o (WritesNumber most) → IsReadFrom o n → n ≡ option_map_or decimal_value o 1
      go None writes is = is
      go (Some t) writes is = is writes.0 (omega (arith, writes.2, named.few))

  number_fits : (words : List Text) → faults_of words ≡ [] → (1 ≤ number_met name words)
      × (number_met name words ≤ most)
  number_fits words none = go (number_text name words) (number_within words none)
    where
      go : (o : Option Text) → IfSome o (WritesNumber most) → (1 ≤ option_map_or decimal_value o 1)
          × (option_map_or decimal_value o 1 ≤ most)
      go None writes = (omega arith, named.some)
      go (Some t) writes = (writes.1, writes.2)

-- ---- the three options

no : {P : Type 0} → false ≡ true → P
no e = cc

replicas_named : IsNamed (codes "replicas") MAX_REPLICAS
replicas_named = record {
  some = omega arith;
  few = omega arith;
  replicas = (λ e. refl);
  workers = no;
  parts = no;
  wide = refl;
  dot = refl;
  html = refl;
  all = refl;
  topic = refl;
}

workers_named : IsNamed (codes "workers") MAX_WORKERS
workers_named = record {
  some = omega arith;
  few = omega arith;
  replicas = no;
  workers = (λ e. refl);
  parts = no;
  wide =
      refl;
  dot = refl;
  html = refl;
  all = refl;
  topic = refl;
}

parts_named : IsNamed (codes "parts") MAX_PARTS
parts_named = record {
  some = omega arith;
  few = omega arith;
  replicas = no;
  workers = no;
  parts = (λ e. refl);
  wide =
      refl;
  dot = refl;
  html = refl;
  all = refl;
  topic = refl;
}

pub numbers_within_limits : NumbersAreWithinLimits
numbers_within_limits words none = (
  number_within (codes "replicas") MAX_REPLICAS replicas_named words none,
  number_within (codes "workers") MAX_WORKERS workers_named words none,
  number_within (codes "parts") MAX_PARTS parts_named words none,
)

pub replicas_is : (words : List Text) (n : ℕ) → faults_of words ≡ []
    → IsReadFrom (number_text (codes "replicas") words) n → n ≡ replicas_met words
replicas_is = number_is (codes "replicas") MAX_REPLICAS replicas_named

pub workers_is : (words : List Text) (n : ℕ) → faults_of words ≡ [] → IsReadFrom (number_text (codes "workers") words) n
    → n ≡ workers_met words
workers_is = number_is (codes "workers") MAX_WORKERS workers_named

pub parts_is : (words : List Text) (n : ℕ) → faults_of words ≡ [] → IsReadFrom (number_text (codes "parts") words) n
    → n ≡ parts_met words
parts_is = number_is (codes "parts") MAX_PARTS parts_named

pub settings_fit : (words : List Text) (s : Settings) → faults_of words ≡ [] → s.replicas ≡ replicas_met words
    → s.workers ≡ workers_met words → s.parts ≡ parts_met words
    → IsWithinLimits s
settings_fit words s none replicas workers parts = record {
  replicas = subst (λ (n : ℕ). (1 ≤ n) × (n ≤ MAX_REPLICAS)) (sym replicas)
      (number_fits (codes "replicas") MAX_REPLICAS replicas_named words none);
  workers = subst (λ (n : ℕ). (1 ≤ n) × (n ≤ MAX_WORKERS)) (sym workers)
      (number_fits (codes "workers") MAX_WORKERS workers_named words none);
  parts = subst (λ (n : ℕ). (1 ≤ n) × (n ≤ MAX_PARTS)) (sym parts)
      (number_fits (codes "parts") MAX_PARTS parts_named words none);
}

-- ---- what `get_one` reads

module _ {E : Type 0} (G : Text → Result ℕ E → Type 0)
    (only : (u : Text) (x : Result ℕ E) → G u x → ParsesUnsigned 32 10 u x) where
  read_number : (t : Text) (r : Option ℕ) → ReadsOne G t r → IsNumeral 10 (without_leading_plus t)
      → decimal_value t < 2 ^ 32 → unwrap_or r 1 ≡ decimal_value t
  read_number t (Some v) read numeral few = (only t (Ok v) read).1
  read_number t None read numeral few = absurd (only t (Err read.0) read.1 (numeral, few))

  pub one_is_read : (name : Text) (f : Found) (r : Option ℕ) (n : ℕ) → (one_text f name ≡ None → r ≡ None)
      → ((t : Text) → one_text f name ≡ Some t → ReadsOne G t r) → n ≡ unwrap_or r 1 → IsReadFrom (one_text f name) n
  one_is_read name f r n = go (one_text f name)
    where
      go : (o : Option Text) → (o ≡ None → r ≡ None) → ((t : Text) → o ≡ Some t → ReadsOne G t r) → n ≡ unwrap_or r 1
          → IsReadFrom o n
      go None none some is = is ∙ ap (λ x. unwrap_or x 1) (none refl)
      go (Some t) none some is = λ numeral few. is ∙ read_number t r (some t refl) numeral few

-- the rows of the command that was met
pub text_met : (name : Text) (o : Option (Text × List Row)) (f : Found) → Some (rows_of f) ≡ option_map (λ p. p.1) o
    → text_in name o ≡ one_text f name
text_met name None f is = cc
text_met name (Some p) f is = ap (λ x. option_and_then (one_of name) x) (sym is) ∙ sym (one_text-rows f name)

pub no_text_met : (name : Text) (o : Option (Text × List Row)) → None ≡ option_map (λ p. p.1) o → text_in name o ≡ None
no_text_met name None is = refl
no_text_met name (Some p) is = cc
