-- What a command with one argument makes of texts of which none begins with a dash.
use Rattle.std.proofs.Common.{◌≡◌, ◌∙◌, ◌<◌, ◌≤◌, ◌&&◌, ◌||◌, ◌==◌, ℕ, Bool, true, false, not, inl, inr, refl, sym, ap, ap₂, arith, List, [], ◌∷◌, ◌++◌, length, codes, Option, Some, None, IsSomeAnd, max, is_some, nat_lt, nat_le, append_assoc, append-nil, subst}
use Rattle.std.proofs.lemmas.Bool.Decides.{nat_tests}
use Rattle.std.specs.List.{fold, list_any}
use Rattle.std.specs.Option.{option_map, option_map_or}
use Rattle.std.specs.Prelude.{option_and_then, if◌then◌else◌}
use Rattle.std.specs.Str.{bytes_eq}
use Rattle.clap.specs.Lexer.{long_of, long_of_rest, short_of, short_of_rest, strip_byte}
use Rattle.clap.specs.Walk.{Held, Rule, Text, Walk, after_step, all_of, finished, idle, long_or_other, nothing_held, plain_word, positional, rule_of, settled, short_or_plain, subcommand_or_other, trailing, Step, Waiting, walk, walk_from, walked}
use Rattle.clap.specs.Simple.{App, HasMatchesOf, Shape, built, entered, is_simple, matches_of, new_app, new_rule, with_rule}
use Rattle.clap.specs.Faults.{bundle_fault, check_fault, defaults_fault, entered_fault, fault_of, settle_fault, flag_word_fault, is_simple_and_free, other_fault, step_fault, turn_fault, walk_fault}
use Rattle.clap.specs.Kinds.{HasKind, IsAmong, Kinds, or_else, range_kinds, values_kinds}
use Rattle.clap.specs.declared.builder.value_parser.ValueParser.TheVariants as vp
use Rattle.clap.specs.declared.error.kind.ErrorKind.{ErrorKind}
use Rattle.clap.specs.Matches.{found_of, matched_of, raw_values}
use Rattle.clap.specs.Values.{kind_of}
use Rattle.clap.proofs.WalkLemmas.{raw_values-rows}
use Rattle.clap.specs.declared.builder.arg.Arg.{Arg}
use Rattle.clap.specs.declared.builder.range.ValueRange.{ValueRange}
use Rattle.clap.specs.declared.error.Error.{Error}
use Rattle.clap.specs.declared.parser.matches.ArgMatches.{ArgMatches}
use Rattle.clap.specs.declared.builder.action.ArgAction.TheVariants.{Set}
use Rattle.clap.specs.declared.error.kind.ErrorKind.TheVariants as kind
use Rattle.command_words.specs.Words.{begins_with_dash, texts_between}

-- the argument that takes the texts
abbrev pub texts_rule : ℕ → ℕ → Rule
texts_rule least most = record (new_rule (codes "texts")) {
  action = Some Set;
  range = Some (record { start_inclusive = least; end_inclusive = most });
  required = true;
}

-- the command that has it
abbrev pub texts_app : ℕ → ℕ → App
texts_app least most = with_rule (new_app (codes "qna")) (texts_rule least most)

-- the command as it is built
abbrev shape : ℕ → ℕ → Shape
shape least most = (built (texts_app least most)).top

-- a use may have several texts
abbrev pub are_several : ℕ → ℕ → Bool
are_several least most = not (least == most) || nat_lt 1 least

-- where the walk stands behind these texts
abbrev at : List Text → Walk
at so_far = record {
  held = record { rows = []; pending = Some (codes "texts", so_far); skip = 0 };
  waiting = positional;
  position = 1;
  is_trailing = false;
  stopped = None;
}

-- no word begins with a dash
abbrev no_dash : List Text → Type 0
no_dash words = list_any begins_with_dash words ≡ false

-- the first and the other words have no dash
first_plain : (word : Text) (words : List Text) → no_dash (word ∷ words) → begins_with_dash word ≡ false
first_plain word words h = go (begins_with_dash word) h
  where
    go : (b : Bool) → (b || list_any begins_with_dash words) ≡ false → b ≡ false
    go false e = refl
    go true e = e

-- nor do the words behind the first
rest_plain : (word : Text) (words : List Text) → no_dash (word ∷ words) → no_dash words
rest_plain word words h = go (begins_with_dash word) h
  where
    go : (b : Bool) → (b || list_any begins_with_dash words) ≡ false → no_dash words
    go false e = e
    go true e = cc

-- such a word is no `--`
not_dashes : (word : Text) → begins_with_dash word ≡ false → bytes_eq word (45 ∷ 45 ∷ []) ≡ false
not_dashes [] h = refl
not_dashes (byte ∷ bytes) h = ap (λ b. b && bytes_eq bytes (45 ∷ [])) h

-- it is no long flag
no_long : (word : Text) → begins_with_dash word ≡ false → long_of word ≡ None
no_long [] h = refl
no_long (byte ∷ bytes) h =
    ap (λ (b : Bool). option_and_then long_of_rest (option_and_then (strip_byte 45) (if b then Some bytes else None))) h

-- and no short one
no_short : (word : Text) → begins_with_dash word ≡ false → short_of word ≡ None
no_short [] h = refl
no_short (byte ∷ bytes) h = ap (λ (b : Bool). option_and_then short_of_rest (if b then Some bytes else None)) h

-- any text passes the parser
texts_pass : (words : List Text) → values_kinds false vp.String words ≡ []
texts_pass [] = refl
texts_pass (word ∷ words) = texts_pass words

-- no kinds come second
or_nothing : (ks : Kinds) → or_else ks [] ≡ ks
or_nothing [] = refl
or_nothing (k ∷ ks) = refl

-- the kinds of the parse, from where the walk ends and what it found
abbrev fault_after : ℕ → ℕ → Walk → Kinds → Kinds
fault_after least most end ks =
    or_else ks
    (or_else (entered_fault (built (texts_app least most)) end.stopped)
    (or_else (settle_fault (shape least most).rules false end.held)
    (or_else (defaults_fault (settled (shape least most).rules end.held).rows (shape least most).rules)
    (check_fault (shape least most) (finished (shape least most).rules end.held) (is_some (entered (built (texts_app least most)) end.stopped))))))

-- so it goes where a word that is no flag goes
met_plain : (c : List Rule) (waiting : Waiting) (position : ℕ) (word : Text) (h : Held) → begins_with_dash word ≡ false
    → subcommand_or_other c None waiting position word h ≡ plain_word c waiting word h
met_plain c waiting position word h plain =
    ap (λ (b : Bool). if b then (h, trailing position) else long_or_other c waiting word (long_of word) h) (not_dashes word plain)
    ∙ ap (λ o. long_or_other c waiting word o h) (no_long word plain) ∙ ap (λ o. short_or_plain c waiting word o h) (no_short word plain)

-- nothing refuses it as a flag
no_flag : (s : Shape) (word : Text) (h : Held) → begins_with_dash word ≡ false → other_fault s None word h ≡ []
no_flag s word h plain =
    ap (λ (b : Bool). if b then [] else flag_word_fault s.rules s.args_override_self (long_of word) word h) (not_dashes word plain)
    ∙ ap (λ o. flag_word_fault s.rules s.args_override_self o word h) (no_long word plain)
    ∙ ap (λ (o : Option Text). option_map_or (λ flags. bundle_fault s.rules s.args_override_self flags h) o []) (no_short word plain)

-- the first text is not refused where it stands
first_passes : (least most : ℕ) (word : Text) → begins_with_dash word ≡ false → turn_fault (shape least most) [] (walk_from nothing_held) word ≡ []
first_passes least most word h =
    ap₂ (λ (ks : Kinds) (p : Held × Step). or_else ks (step_fault (shape least most) 1 p.0 p.1)) (no_flag (shape least most) word nothing_held h)
    (met_plain (shape least most).rules idle 1 word nothing_held h)

module _ (least most : ℕ) (several : are_several least most ≡ true) where
  -- the first text is pending
  walked_first : (word : Text) → begins_with_dash word ≡ false → walked (shape least most).rules [] (walk_from nothing_held) word ≡ at (word ∷ [])
  unfolding walked
  walked_first word h =
      ap (λ (p : Held × Step). after_step (shape least most).rules word (walk_from nothing_held) p.0 p.1)
      (met_plain (shape least most).rules idle 1 word nothing_held h) ∙ rw several refl

  -- the next one is pending with it
  walked_next : (so_far : List Text) (word : Text) → begins_with_dash word ≡ false → walked (shape least most).rules [] (at so_far) word ≡ at (so_far ++ word ∷ [])
  unfolding walked
  walked_next so_far word h =
      ap (λ (p : Held × Step). after_step (shape least most).rules word (at so_far) p.0 p.1)
      (met_plain (shape least most).rules positional 1 word (at so_far).held h) ∙ rw several refl

  -- all texts are pending
  walked_all : (so_far words : List Text) → no_dash words → fold (walked (shape least most).rules []) (at so_far) words ≡ at (so_far ++ words)
  walked_all so_far [] h = ap at (sym (append-nil so_far))
  walked_all so_far (word ∷ words) h =
      ap (λ (w : Walk). fold (walked (shape least most).rules []) w words) (walked_next so_far word (first_plain word words h))
      ∙ walked_all (so_far ++ word ∷ []) words (rest_plain word words h) ∙ ap at (append_assoc so_far (word ∷ []) words)

  -- the walk ends with all texts pending
  walk_is : (word : Text) (words : List Text) → no_dash (word ∷ words) → walk (shape least most).rules [] nothing_held (word ∷ words) ≡ at (word ∷ words)
  walk_is word words h =
      ap (λ (w : Walk). fold (walked (shape least most).rules []) w words) (walked_first word (first_plain word words h))
      ∙ walked_all (word ∷ []) words (rest_plain word words h)

  -- nor is one that follows refused where it stands
  next_passes : (so_far : List Text) (word : Text) → begins_with_dash word ≡ false → turn_fault (shape least most) [] (at so_far) word ≡ []
  next_passes so_far word h =
      ap₂ (λ (ks : Kinds) (p : Held × Step). or_else ks (step_fault (shape least most) 1 p.0 p.1)) (no_flag (shape least most) word (at so_far).held h)
      (met_plain (shape least most).rules positional 1 word (at so_far).held h) ∙ rw several refl

  -- so no text that follows is refused
  all_pass : (so_far words : List Text) → no_dash words → walk_fault (shape least most) [] (at so_far) words ≡ []
  unfolding walk_fault
  all_pass so_far [] h = refl
  all_pass so_far (word ∷ words) h =
      let here = next_passes so_far word (first_plain word words h) in
      let step = walked_next so_far word (first_plain word words h) in
      let later = all_pass (so_far ++ word ∷ []) words (rest_plain word words h) in
      ap (λ ks. or_else ks (walk_fault (shape least most) [] (walked (shape least most).rules [] (at so_far) word) words)) here
      ∙ ap (λ (w : Walk). walk_fault (shape least most) [] w words) step ∙ later

  -- and none at all
  walk_passes : (word : Text) (words : List Text) → no_dash (word ∷ words) → walk_fault (shape least most) [] (walk_from nothing_held) (word ∷ words) ≡ []
  unfolding walk_fault
  walk_passes word words h =
      let here = first_passes least most word (first_plain word words h) in
      let step = walked_first word (first_plain word words h) in
      let later = all_pass (word ∷ []) words (rest_plain word words h) in
      ap (λ ks. or_else ks (walk_fault (shape least most) [] (walked (shape least most).rules [] (walk_from nothing_held) word) words)) here
      ∙ ap (λ (w : Walk). walk_fault (shape least most) [] w words) step ∙ later

  -- the number of texts alone decides
  fault_several : (name word : Text) (words : List Text) → no_dash (word ∷ words)
      → fault_of (texts_app least most) (name ∷ word ∷ words) ≡ range_kinds least most (length (word ∷ words))
  unfolding defaults_fault
  fault_several name word words h =
      ap₂ (fault_after least most) (walk_is word words h) (walk_passes word words h)
      ∙ ap (λ ks. or_else (or_else (range_kinds least most (length (word ∷ words))) ks) []) (texts_pass (word ∷ words))
      ∙ or_nothing (or_else (range_kinds least most (length (word ∷ words))) []) ∙ or_nothing (range_kinds least most (length (word ∷ words)))

  -- all texts are matched
  matches_several : (name word : Text) (words : List Text) → no_dash (word ∷ words)
      → all_of (codes "texts") (matches_of (texts_app least most) (name ∷ word ∷ words)) ≡ Some (word ∷ words)
  matches_several name word words h = ap (λ (w : Walk). all_of (codes "texts") (finished (shape least most).rules w.held)) (walk_is word words h)

  -- the command is simple, with no rule among its arguments
  free_several : is_simple_and_free (texts_app least most) ≡ true
  free_several = rw several refl

  -- and so it is simple
  simple_several : is_simple (texts_app least most) ≡ true
  simple_several = rw several refl

-- without a text
fault_without : (least most : ℕ) → fault_of (texts_app least most) [] ≡ kind.MissingRequiredArgument ∷ []
unfolding walk_fault defaults_fault
fault_without least most = refl

-- with the first word alone
fault_alone : (least most : ℕ) (name : Text) → fault_of (texts_app least most) (name ∷ []) ≡ kind.MissingRequiredArgument ∷ []
unfolding walk_fault defaults_fault
fault_alone least most name = refl

-- where one text alone is taken, the walk goes on to a second argument, which the command lacks
abbrev behind : Text → Walk
behind word = record {
  held = record { rows = []; pending = Some (codes "texts", word ∷ []); skip = 0 };
  waiting = idle;
  position = 2;
  is_trailing = false;
  stopped = None;
}

-- the text is pending, and the next place is one that the command lacks
walked_one : (word : Text) → begins_with_dash word ≡ false → walked (shape 1 1).rules [] (walk_from nothing_held) word ≡ behind word
unfolding walked
walked_one word h =
    ap (λ (p : Held × Step). after_step (shape 1 1).rules word (walk_from nothing_held) p.0 p.1) (met_plain (shape 1 1).rules idle 1 word nothing_held h)

-- a second text is unknown
second_fails : (word other : Text) → begins_with_dash other ≡ false → turn_fault (shape 1 1) [] (behind word) other ≡ kind.UnknownArgument ∷ []
second_fails word other h =
    ap₂ (λ (ks : Kinds) (p : Held × Step). or_else ks (step_fault (shape 1 1) 2 p.0 p.1)) (no_flag (shape 1 1) other (behind word).held h)
    (met_plain (shape 1 1).rules idle 2 other (behind word).held h)

-- one text alone is taken
fault_one : (name word : Text) → no_dash (word ∷ []) → fault_of (texts_app 1 1) (name ∷ word ∷ []) ≡ []
unfolding walk_fault defaults_fault
fault_one name word h =
    let here = first_passes 1 1 word (first_plain word [] h) in
    let step = walked_one word (first_plain word [] h) in
    ap₂ (λ (w : Walk) (ks : Kinds). fault_after 1 1 w (or_else ks [])) step here

-- two are not
fault_two : (name word other : Text) (words : List Text) → no_dash (word ∷ other ∷ words)
    → fault_of (texts_app 1 1) (name ∷ word ∷ other ∷ words) ≡ kind.UnknownArgument ∷ []
unfolding walk_fault
fault_two name word other words h =
    let here = first_passes 1 1 word (first_plain word (other ∷ words) h) in
    let step = walked_one word (first_plain word (other ∷ words) h) in
    let next = second_fails word other (first_plain other words (rest_plain word (other ∷ words) h)) in
    let end : Walk = walk (shape 1 1).rules [] nothing_held (word ∷ other ∷ words) in
    let second : Walk → Kinds = λ w. or_else (turn_fault (shape 1 1) [] w other) (walk_fault (shape 1 1) [] (walked (shape 1 1).rules [] w other) words) in
    ap₂ (λ (w : Walk) (ks : Kinds). fault_after 1 1 end (or_else ks (second w))) step here
    ∙ ap (λ ks. fault_after 1 1 end (or_else ks (walk_fault (shape 1 1) [] (walked (shape 1 1).rules [] (behind word) other) words))) next

-- the one text is matched
matches_one : (name word : Text) → no_dash (word ∷ []) → all_of (codes "texts") (matches_of (texts_app 1 1) (name ∷ word ∷ [])) ≡ Some (word ∷ [])
matches_one name word h = ap (λ (w : Walk). all_of (codes "texts") (finished (shape 1 1).rules w.held)) (walked_one word (first_plain word [] h))

-- the number of texts, by the tests of the range
range_passes : (least most n : ℕ) → 0 < n → (nat_le least n && nat_le n most) ≡ true → range_kinds least most n ≡ []
range_passes least most n some h = grind (arith, nat_tests)

-- a number outside the range fails its tests
range_fails : (least most n : ℕ) → 0 < n → (nat_le least n && nat_le n most) ≡ false → range_kinds least most n ≡ [] → ⊥
range_fails least most n some h none = grind (arith, nat_tests)

-- what a parse of these words says of their texts
pub record Tells (least most : ℕ) (words : List Text) : Type 0 where
  pub free : is_simple_and_free (texts_app least most) ≡ true
  pub simple : is_simple (texts_app least most) ≡ true
  pub taken : fault_of (texts_app least most) words ≡ [] → all_of (codes "texts") (matches_of (texts_app least most) words) ≡ texts_between least most words
  pub refused : (k : ErrorKind) → IsAmong k (fault_of (texts_app least most) words) → texts_between least most words ≡ None

-- no kind is among none
among_none : (k : ErrorKind) (ks : Kinds) → ks ≡ [] → IsAmong k ks → ⊥
among_none k ks e h = let P : Kinds → Type 0 = IsAmong k in subst P e h

-- of a command that takes several texts
tells_several : (least most : ℕ) (name word : Text) (words : List Text) → are_several least most ≡ true → no_dash (word ∷ words) → Tells least most (name ∷ word ∷ words)
tells_several least most name word words several h = go (nat_le least (length (word ∷ words)) && nat_le (length (word ∷ words)) most) refl
  where
    fault : fault_of (texts_app least most) (name ∷ word ∷ words) ≡ range_kinds least most (length (word ∷ words))
    fault = fault_several least most several name word words h

    go : (b : Bool) → (nat_le least (length (word ∷ words)) && nat_le (length (word ∷ words)) most) ≡ b → Tells least most (name ∷ word ∷ words)
    go true e = record {
      free = free_several least most several;
      simple = simple_several least most several;
      taken = λ none. matches_several least most several name word words h ∙ sym (ap (λ (b : Bool). if b then Some (word ∷ words) else None) e);
      refused = λ k among. absurd (among_none k _ (fault ∙ range_passes least most (length (word ∷ words)) (omega arith) e) among);
    }
    go false e = record {
      free = free_several least most several;
      simple = simple_several least most several;
      taken = λ none. absurd (range_fails least most (length (word ∷ words)) (omega arith) e (sym fault ∙ none));
      refused = λ k among. ap (λ (b : Bool). if b then Some (word ∷ words) else None) e;
    }

-- of a command that takes one
tells_one : (name word : Text) (words : List Text) → no_dash (word ∷ words) → Tells 1 1 (name ∷ word ∷ words)
tells_one name word [] h = record {
  free = refl;
  simple = refl;
  taken = λ none. matches_one name word h;
  refused = λ k among. absurd (among_none k _ (fault_one name word h) among);
}
tells_one name word (other ∷ words) h = record {
  free = refl;
  simple = refl;
  taken = λ none. let two = fault_two name word other words h in absurd (cc);
  refused = λ k among. grind arith;
}

-- with one text at least, the range is that of several or of one
is_one : (least most : ℕ) → 0 < least → least ≤ most → are_several least most ≡ false → (least ≡ 1) × (most ≡ 1)
is_one least most some range h = (grind (arith, nat_tests), grind (arith, nat_tests))

-- the command is simple for any range with one text at least
free_any : (least most : ℕ) → 0 < least → least ≤ most → (b : Bool) → are_several least most ≡ b
    → (is_simple_and_free (texts_app least most) ≡ true) × (is_simple (texts_app least most) ≡ true)
free_any least most some range true e = (free_several least most e, simple_several least most e)
free_any least most some range false e =
    let one = is_one least most some range e in
    (ap₂ (λ l m. is_simple_and_free (texts_app l m)) one.0 one.1, ap₂ (λ l m. is_simple (texts_app l m)) one.0 one.1)

-- no text at all is outside the range
too_few : (least most : ℕ) → 0 < least → (nat_le least 0 && nat_le 0 most) ≡ false
too_few least most some = grind (arith, nat_tests)

-- what the parse says of any plain words
pub tells : (least most : ℕ) (words : List Text) → 0 < least → least ≤ most → no_dash words → Tells least most words
tells least most [] some range h = record {
  free = (free_any least most some range (are_several least most) refl).0;
  simple = (free_any least most some range (are_several least most) refl).1;
  taken = λ none. let without = fault_without least most in absurd (cc);
  refused = λ k among. refl;
}
tells least most (name ∷ []) some range h = record {
  free = (free_any least most some range (are_several least most) refl).0;
  simple = (free_any least most some range (are_several least most) refl).1;
  taken = λ none. let alone = fault_alone least most name in absurd (cc);
  refused = λ k among. ap (λ (b : Bool). if b then Some [] else None) (too_few least most some);
}
tells least most (name ∷ word ∷ words) some range h = go (are_several least most) refl
  where
    plain : no_dash (word ∷ words)
    plain = rest_plain name (word ∷ words) h

    go : (b : Bool) → are_several least most ≡ b → Tells least most (name ∷ word ∷ words)
    go true e = tells_several least most name word words e plain
    go false e =
        let one = is_one least most some range e in
        subst (λ (l : ℕ). Tells l most (name ∷ word ∷ words)) (sym one.0)
        (subst (λ (m : ℕ). Tells 1 m (name ∷ word ∷ words)) (sym one.1) (tells_one name word words plain))

-- ---- what the builders and the getter say

-- the range that was given is kept, where its ends are in order
range_is : (range : Option ValueRange) (least most start end : ℕ) → IsSomeAnd range (λ r. r ≡ record { start_inclusive = start; end_inclusive = max end start })
    → start ≡ least → end ≡ most → least ≤ most → range ≡ Some (record { start_inclusive = least; end_inclusive = most })
range_is None least most start end h is_start is_end in_order = absurd h
range_is (Some range) least most start end h is_start is_end in_order =
    let largest : max end start ≡ most = omega arith in
    ap (λ (r : ValueRange). Some r) h ∙ ap₂ (λ (l m : ℕ). Some (record { start_inclusive = l; end_inclusive = m })) is_start largest

-- the argument that the builders made
pub rule_is : (new required ranged set : Arg) (least most start end : ℕ) → rule_of new ≡ new_rule (codes "texts")
    → required ≡ record new { required = true } → ranged ≡ record required { num_vals = ranged.num_vals }
    → IsSomeAnd ranged.num_vals (λ r. r ≡ record { start_inclusive = start; end_inclusive = max end start })
    → start ≡ least → end ≡ most → least ≤ most → set ≡ record ranged { action = Some Set } → rule_of set ≡ texts_rule least most
rule_is new required ranged set least most start end is_new is_required is_ranged has_range is_start is_end in_order is_set =
    ap rule_of is_set
    ∙ ap (λ (r : Rule). record r { action = Some Set }) (ap rule_of is_ranged
    ∙ ap₂ (λ (r : Rule) (v : Option ValueRange). record r { range = v }) (ap rule_of is_required
    ∙ ap (λ (r : Rule). record r { required = true }) is_new) (range_is ranged.num_vals least most start end has_range is_start is_end in_order))

-- the getter's texts are those that were wanted
pub texts_taken : (app : App) (least most : ℕ) (words : List Text) (m : ArgMatches) (got : Option (List Text)) → app ≡ texts_app least most → Tells least most words
    → (is_simple_and_free app ≡ true → fault_of app words ≡ []) → HasMatchesOf app words m
    → got ≡ option_map raw_values (matched_of (found_of m) (codes "texts")) → got ≡ texts_between least most words
texts_taken app least most words m got is said none has gets =
    let free = ap is_simple_and_free is ∙ said.free in
    let simple = ap is_simple is ∙ said.simple in
    gets ∙ raw_values-rows (found_of m) (codes "texts") ∙ ap (all_of (codes "texts")) (has simple).0
    ∙ ap (λ (a : App). all_of (codes "texts") (matches_of a words)) is
    ∙ said.taken (sym (ap (λ (a : App). fault_of a words) is) ∙ none free)

-- an error other than want of memory comes only where none are wanted
pub texts_refused : (app : App) (least most : ℕ) (words : List Text) (e : Error) → app ≡ texts_app least most → Tells least most words
    → (is_simple_and_free app ≡ true → HasKind (fault_of app words) e) → (kind_of e ≡ kind.OutOfMemory → ⊥) → None ≡ texts_between least most words
texts_refused app least most words e is said fails other = elim (fails (ap is_simple_and_free is ∙ said.free)) [
  | inl memory ↦ absurd (other memory)
  | inr among ↦
      let P : App → Type 0 = λ a. IsAmong (kind_of e) (fault_of a words) in
      sym (said.refused (kind_of e) (subst P is among))
]
