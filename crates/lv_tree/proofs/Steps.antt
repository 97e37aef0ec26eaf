-- A byte that opens or closes a list, or ends a word.
use Rattle.std.proofs.Common.{◌≡◌, ℕ, ◌+◌, ◌-◌, ◌<◌, ◌≤◌, Bool, true, false, ◌&&◌, ltb, IsTrue, List, [], ◌∷◌, ◌++◌, length, refl, sym, ap, ◌∙◌, append_assoc, arith}
use Rattle.std.specs.List.{list_all}
use Rattle.std.proofs.lemmas.List.{length-append}
use Rattle.std.proofs.lemmas.Bool.{lt-leb, le-leb, lt-ltb}
use Rattle.lv_tree.specs.declared.tree.Tree.{Tree}
use Rattle.lv_tree.specs.declared.reader.Frame.{Frame}
use Rattle.lv_tree.specs.declared.reader.Reader.{Reader}
use Rattle.lv_tree.specs.Bytes.{is_word_byte}
use Rattle.lv_tree.specs.Spelling.{Opens, Closes, Spells, tokens_of, tokens_of_all, fits_in, all_fit_in, is_text}
use Rattle.lv_tree.specs.Faults.{is_empty}
use Rattle.lv_tree.specs.Reader.{stack_tokens, stack_fits, StandsAlone, word_token, IsSound, TakesByte, EndsWord}
use Rattle.lv_tree.proofs.Stack.{places_open, is_empty_places, length_places, stack_tokens_push, stack_tokens_open, stack_push, stack_open, stack_close, alone_flush, alone_open, alone_close}

inside_list : (n g : Bool) → g && n ≡ false → n && (g && true) ≡ false
inside_list true true e = e
inside_list true false e = refl
inside_list false g e = refl

pub text_is : (w : List ℕ) → is_empty w ≡ false → IsTrue (list_all is_word_byte w) → length w ≤ 64 → IsTrue (is_text w)
text_is [] e h k = absurd cc
text_is (b ∷ bs) e h k = rw (le-leb (length (b ∷ bs)) 64 k, h, lt-ltb 0 (length (b ∷ bs)) (omega arith)) refl

word_token_is : (w : List ℕ) (at start : ℕ) → is_empty w ≡ false → start + length w ≡ at → word_token w at ≡ Spells start w ∷ []
word_token_is [] at start e h = absurd cc
word_token_is (b ∷ bs) at start e h = let k : at - length (b ∷ bs) ≡ start = omega arith in rw k refl

-- a '(' is taken
pub opened : (old new : Reader) (at : ℕ) (f : Frame) → IsSound old at → old.word.items ≡ [] → old.comment ≡ false
    → old.begun && is_empty old.outer.items ≡ false → length old.outer.items < 64
    → f.at ≡ at → f.before.items ≡ old.items.items
    → new.outer.items ≡ old.outer.items ++ f ∷ [] → new.items.items ≡ [] → new.begun ≡ true → new.word.items ≡ [] → new.comment ≡ false
    → TakesByte old at 40 new
opened old new at f sound word comment inside room at-is before outer items begun word' comment' =
    let fs = old.outer.items in
    let top : StandsAlone fs f.before.items [] old.begun = rw (before, ← word) sound.alone in
    let fits : IsTrue (stack_fits 64 fs f.before.items) = rw before sound.room in
    let tokens : stack_tokens (fs ++ f ∷ []) [] ≡ stack_tokens fs old.items.items ++ Opens at ∷ [] = stack_tokens_open fs f [] ∙ cc in
    record {
      sound = record {
        room = rw (outer, items) (stack_open 64 fs f fits room);
        alone = rw (outer, items, begun, word') (alone_open fs f old.begun inside top);
        word = rw word' refl;
        short = rw word' (omega arith);
        behind = rw word' (omega arith);
        depth = rw outer (omega (arith, length-append fs (f ∷ [])));
        apart = λ _. word';
      };
      clean = rw (comment, is_empty_places fs, inside_list (is_empty fs) old.begun inside, length_places fs, lt-leb 64 (length fs) room) refl;
      state = rw (outer, begun, word', comment', comment, places_open fs f, at-is) refl;
      tokens = rw (outer, items, comment, word) tokens;
    }

-- a ')' is taken
pub closed : (old new : Reader) (at : ℕ) (fs : List Frame) (f : Frame) (t : Tree) → IsSound old at → old.word.items ≡ [] → old.comment ≡ false
    → old.outer.items ≡ fs ++ f ∷ [] → new.outer.items ≡ fs → new.items.items ≡ f.before.items ++ t ∷ []
    → tokens_of t ≡ Opens f.at ∷ tokens_of_all old.items.items ++ Closes at ∷ []
    → fits_in (64 - length fs) t ≡ ltb 0 (64 - length fs) && all_fit_in (64 - length fs - 1) old.items.items
    → new.begun ≡ old.begun → new.word.items ≡ [] → new.comment ≡ false
    → TakesByte old at 41 new
closed old new at fs f t sound word comment was outer items t-tokens t-fits begun word' comment' =
    let room = stack_close 64 fs f old.items.items (rw was at sound.room) in
    let top : StandsAlone (fs ++ f ∷ []) old.items.items [] old.begun = rw (← was, ← word) sound.alone in
    let short : length fs + 1 ≤ 64 = omega (arith, sound.depth, ap length was, length-append fs (f ∷ [])) in
    let tokens : stack_tokens fs (f.before.items ++ t ∷ []) ≡ stack_tokens (fs ++ f ∷ []) old.items.items ++ Closes at ∷ [] =
    rw (stack_tokens_push fs f.before.items t, stack_tokens_open fs f old.items.items, t-tokens) (sym (append_assoc (stack_tokens fs f.before.items) (Opens f.at ∷ tokens_of_all old.items.items) (Closes at ∷ []))) in
    record {
      sound = record {
        room = rw (outer, items) (stack_push 64 fs f.before.items t room.0 (t-fits ∙ room.1));
        alone = rw (outer, items, begun, word') (alone_close fs f old.items.items t old.begun top);
        word = rw word' refl;
        short = rw word' (omega arith);
        behind = rw word' (omega arith);
        depth = rw outer (omega arith);
        apart = λ _. word';
      };
      clean = rw (comment, was, places_open fs f) refl;
      state = rw (outer, begun, word', comment', comment, was, places_open fs f) refl;
      tokens = rw (outer, items, comment, word, was) tokens;
    }

-- a word becomes an item
pub flushed : (old new : Reader) (at start : ℕ) (t : Tree) → IsSound old at → is_empty old.word.items ≡ false
    → start + length old.word.items ≡ at
    → tokens_of t ≡ Spells start old.word.items ∷ [] → fits_in (64 - length old.outer.items) t ≡ is_text old.word.items
    → new.outer ≡ old.outer → new.items.items ≡ old.items.items ++ t ∷ [] → new.begun ≡ old.begun → new.word.items ≡ [] → new.comment ≡ old.comment
    → EndsWord old at new
flushed old new at start t sound some start-is t-tokens t-fits outer items begun word' comment' = record {
  sound = record {
    room = rw (outer, items) (stack_push 64 old.outer.items old.items.items t sound.room (t-fits ∙ text_is old.word.items some sound.word sound.short));
    alone = rw (outer, items, begun, word') (alone_flush old.outer.items old.items.items t old.word.items old.begun some sound.alone);
    word = rw word' refl;
    short = rw word' (omega arith);
    behind = rw word' (omega arith);
    depth = rw outer sound.depth;
    apart = λ _. word';
  };
  outer = outer;
  begun = begun;
  comment = comment';
  word = word';
  tokens = rw (outer, items, stack_tokens_push old.outer.items old.items.items t, t-tokens, word_token_is old.word.items at start some start-is) refl;
}
