-- The lines of a text spell the trees that are written on them, the places aside.
use Rattle.std.proofs.Common.{zero, suc, drop, ◌<◌, ◌≡◌, ℕ, ◌+◌, Bool, true, ◌&&◌, leb, ltb, List, [], ◌∷◌, ◌++◌, length, map, refl, sym, ap, subst, ◌∙◌, append_assoc, arith}
use Rattle.std.specs.Prelude.{not, codes}
use Rattle.std.proofs.lemmas.List.{length-append}
use Rattle.std.proofs.lemmas.Bool.{and_parts}
use Rattle.std.specs.List.{list_all}
use Rattle.lv_tree.specs.declared.tree.Tree.{Tree, roll-Tree, fold-roll-Tree}
use Rattle.lv_tree.specs.declared.tree.Tree.TheOpen.{Word, Group}
use Rattle.lv_tree.specs.declared.tree.Tree.TheVariants.{rolls-Group, rolls-Word}
use Rattle.lv_tree.specs.Bytes.{is_word_byte, goes_on_with}
use Rattle.lv_tree.specs.Spelling.{Token, Closes, Spells, Lexes, end, white, opens, closes, word as lexes_word, tokens_of, tokens_of_all, is_text, fits_in, all_fit_in, SpellsTree}
use Rattle.lv_tree.specs.Writing.{written, put, bare, bare_step}
use Rattle.lv_tree.proofs.Trees.{tokens_roll, fits_roll}
use Rattle.lv_tree.proofs.Lines.{on_line}
use Rattle.lv_formula.specs.declared.symbols.SortId.{SortId}
use Rattle.lv_grammar.specs.ShownFormulas.{word, list, variable_name, deeper}
use Rattle.lv_system.specs.declared.parts.Parts.{Parts}
use Rattle.lv_system.specs.declared.parts.Action.{Action}
use Rattle.lv_grammar.specs.ShownSystems.{shown_sort, shown_symbol, shown_lone, shown_action, shown_fair, shown_label, shown_witness, shown_property, shown_invariant, shown_items, shown_names, shown_parameters, shown_update}
use Rattle.lv_grammar.specs.Layout.{in_lines}

abbrev ends_word : List ℕ → Bool
ends_word rest = goes_on_with (λ c. not (is_word_byte c)) rest

-- trees that are the given ones but for places, and that the lines from a place on spell
pub record InLines (ts : List Tree) (at room : ℕ) : Type 0 where
  pub trees : List Tree
  pub fits : all_fit_in room trees ≡ all_fit_in room ts
  pub same : map bare trees ≡ map bare ts
  pub spells : (rest : List ℕ) (ms : List Token) → all_fit_in room ts ≡ true → ends_word rest ≡ true → Lexes (at + length (in_lines ts)) rest ms → Lexes at (in_lines ts ++ rest) (tokens_of_all trees ++ ms)

ends_lines : (ts : List Tree) (rest : List ℕ) → ends_word rest ≡ true → ends_word (in_lines ts ++ rest) ≡ true
ends_lines [] rest h = h
ends_lines (t ∷ ts) rest h = refl

pub lines : (ts : List Tree) (at room : ℕ) → InLines ts at room
lines [] at room = record { trees = []; fits = refl; same = refl; spells = λ rest ms f e h. (let k : at + 0 ≡ at = omega arith in rw k at h) }
lines (t ∷ ts) at room =
    let place = at + 1 + 1 + 1 in
    let first = on_line t place room in
    let w = written t in
    let u = (put t place).tree in
    let others = lines ts (place + length w) room in
    let v = in_lines ts in
    let long : length (10 ∷ 32 ∷ 32 ∷ w ++ v) ≡ 3 + (length w + length v) = omega (arith, length-append w v) in
    record {
      trees = u ∷ others.trees;
      fits = rw (first.fits, others.fits) refl;
      same = rw (first.same, others.same) refl;
      spells = λ rest ms f e h.
          let q = and_parts (fits_in room t) (all_fit_in room ts) f in
          let k : at + length (10 ∷ 32 ∷ 32 ∷ w ++ v) ≡ place + length w + length v = omega (arith, long) in
          let tail = others.spells rest ms q.1 e (subst (λ z. Lexes z rest ms) k h) in
          let behind = tokens_of_all others.trees in
          let head = first.spells (v ++ rest) (behind ++ ms) q.0 (ends_lines ts rest e) tail in
          rw (append_assoc w v rest, append_assoc (tokens_of u) behind ms) (white refl (white refl (white refl head)));
    }

word_spelled : (at : ℕ) (text rest : List ℕ) (ms : List Token) → is_text text ≡ true → ends_word rest ≡ true → Lexes (at + length text) rest ms → Lexes at (text ++ rest) (Spells at text ∷ ms)
word_spelled at [] rest ms f e h = absurd cc
word_spelled at (b ∷ bs) rest ms f e h = lexes_word b bs rest (and_parts (ltb 0 (length (b ∷ bs)) && leb (length (b ∷ bs)) 64) (list_all is_word_byte (b ∷ bs)) f).1 e h

bare_word : (at : ℕ) (text : List ℕ) → bare (roll-Tree (Word at text)) ≡ bare (word text)
bare_word at text = fold-roll-Tree Tree bare_step (Word at text) ∙ sym (fold-roll-Tree Tree bare_step (Word 0 text)) ∙ ap bare (rolls-Word 0 text)

bare_list : (at last : ℕ) (us ts : List Tree) → map bare us ≡ map bare ts → bare (roll-Tree (Group at last us)) ≡ bare (list ts)
bare_list at last us ts e =
    fold-roll-Tree Tree bare_step (Group at last us) ∙ ap (λ l. roll-Tree (Group 0 0 l)) e ∙ sym (fold-roll-Tree Tree bare_step (Group 0 0 ts)) ∙ ap bare (rolls-Group 0 0 ts)

abbrev system_word : List ℕ
system_word = codes "system"

-- a tree that is that of the items but for places, and that their text spells
pub record Laid (name : List ℕ) (items : List Tree) : Type 0 where
  pub tree : Tree
  pub spelled : SpellsTree (codes "(system " ++ (name ++ (in_lines items ++ 41 ∷ 10 ∷ []))) tree
  pub same : bare tree ≡ bare (list (word (codes "system") ∷ word name ∷ items))

ends_items : (items : List Tree) → ends_word (in_lines items ++ 41 ∷ 10 ∷ []) ≡ true
ends_items items = ends_lines items (41 ∷ 10 ∷ []) refl

pub laid : (name : List ℕ) (items : List Tree) → is_text name ≡ true → all_fit_in 63 items ≡ true → Laid name items
laid name items text fits =
    let l = lines items (8 + length name) 63 in
    let last = 8 + length name + length (in_lines items) in
    let parts = roll-Tree (Word 1 system_word) ∷ roll-Tree (Word 8 name) ∷ l.trees in
    let tail : Lexes last (41 ∷ 10 ∷ []) (Closes last ∷ []) = closes (white refl end) in
    let behind = l.spells (41 ∷ 10 ∷ []) (Closes last ∷ []) fits refl tail in
    let named = word_spelled 8 name (in_lines items ++ 41 ∷ 10 ∷ []) _ text (ends_items items) behind in
    let whole = opens (word_spelled 1 system_word (32 ∷ name ++ (in_lines items ++ 41 ∷ 10 ∷ [])) _ refl refl (white refl named)) in
    let e = l.fits ∙ fits in
    record {
      tree = roll-Tree (Group 0 last parts);
      spelled = (
        rw (fits_roll 64 (Group 0 last parts), fits_roll 63 (Word 1 system_word), fits_roll 63 (Word 8 name), text, e) refl,
        rw (tokens_roll (Group 0 last parts), tokens_roll (Word 1 system_word), tokens_roll (Word 8 name)) whole,
      );
      same = bare_list 0 last parts (word (codes "system") ∷ word name ∷ items) (rw (bare_word 1 system_word, bare_word 8 name, l.same) refl);
    }

-- four lists behind another, one after the other
pub behind_four : {X : Type 0} (t a b c d t1 t2 t3 t4 : List X) → t1 ≡ t ++ a → t2 ≡ t1 ++ b → t3 ≡ t2 ++ c → t4 ≡ t3 ++ d → t4 ≡ t ++ (a ++ (b ++ (c ++ d)))
behind_four t a b c d t1 t2 t3 t4 e f g h =
    h ∙ ap (λ l. l ++ d) (g ∙ ap (λ l. l ++ c) (f ∙ ap (λ l. l ++ b) e)) ∙ append_assoc ((t ++ a) ++ b) c d ∙ append_assoc (t ++ a) b (c ++ d) ∙ append_assoc t a (b ++ (c ++ d))

nine : {X : Type 0} (a b c d e f g h more : List X) → ((a ++ (b ++ (c ++ d))) ++ (e ++ (f ++ (g ++ h)))) ++ more ≡ a ++ (b ++ (c ++ (d ++ (e ++ (f ++ (g ++ (h ++ more)))))))
nine a b c d e f g h more =
    append_assoc (a ++ (b ++ (c ++ d))) (e ++ (f ++ (g ++ h))) more ∙ four a b c d ((e ++ (f ++ (g ++ h))) ++ more) ∙ ap (λ l. a ++ (b ++ (c ++ (d ++ l)))) (four e f g h more)
  where
    four : {X : Type 0} (a b c d more : List X) → (a ++ (b ++ (c ++ d))) ++ more ≡ a ++ (b ++ (c ++ (d ++ more)))
    four a b c d more = append_assoc a (b ++ (c ++ d)) more ∙ ap (λ l. a ++ l) (append_assoc b (c ++ d) more ∙ ap (λ l. b ++ l) (append_assoc c d more))

-- the trees of all items, from those that were pushed
pub all_items : (p : Parts) (t0 t1 t2 t3 t4 : List Tree) (x : Tree) → t0 ≡ []
    → t1 ≡ t0 ++ (map shown_sort p.sorts ++ (map (shown_symbol p) p.symbols ++ (map (shown_lone p (codes "axiom") 0) p.axioms ++ map (shown_lone p (codes "init") 0) p.inits)))
    → t2 ≡ t1 ++ (map (shown_action p) p.actions ++ (map (shown_fair p) p.fairs ++ (map (shown_label p) p.labels ++ map (shown_witness p) p.witnesses)))
    → x ≡ shown_property p → t3 ≡ t2 ++ x ∷ [] → t4 ≡ t3 ++ map (shown_invariant p) p.invariants → t4 ≡ shown_items p
all_items p t0 t1 t2 t3 t4 x z a b y c d =
    let i = map (shown_invariant p) p.invariants in
    let e = a ∙ ap (λ l. l ++ (map shown_sort p.sorts ++ (map (shown_symbol p) p.symbols ++ (map (shown_lone p (codes "axiom") 0) p.axioms ++ map (shown_lone p (codes "init") 0) p.inits)))) z in
    let f = b ∙ ap (λ l. l ++ (map (shown_action p) p.actions ++ (map (shown_fair p) p.fairs ++ (map (shown_label p) p.labels ++ map (shown_witness p) p.witnesses)))) e in
    d ∙ ap (λ l. l ++ i) (c ∙ ap (λ w. t2 ++ w ∷ []) y ∙ ap (λ l. l ++ shown_property p ∷ []) f) ∙ append_assoc _ (shown_property p ∷ []) i
    ∙ nine (map shown_sort p.sorts) (map (shown_symbol p) p.symbols) (map (shown_lone p (codes "axiom") 0) p.axioms) (map (shown_lone p (codes "init") 0) p.inits) (map (shown_action p) p.actions) (map (shown_fair p) p.fairs)
    (map (shown_label p) p.labels) (map (shown_witness p) p.witnesses) (shown_property p ∷ i)

-- the tree of an action, from its items
pub action_made : (p : Parts) (a : Action) (depth : ℕ) (t guard : Tree) (i0 i1 i2 : List Tree) → depth ≡ length a.params → guard ≡ shown_lone p (codes "guard") depth a.guard
    → i0 ≡ word (codes "action") ∷ word a.name ∷ shown_parameters p a.params ∷ [] → i1 ≡ i0 ++ guard ∷ [] → i2 ≡ i1 ++ map (shown_update p depth) a.updates → t ≡ list i2 → t ≡ shown_action p a
action_made p a depth t guard i0 i1 i2 d g e f h l = rw (l, h, f, e, g, d) refl

-- the name of the next of the variables
pub names_step : (depth : ℕ) (ss : List SortId) (i : ℕ) → i < length ss → shown_names depth (drop i ss) ≡ word (variable_name depth) ∷ shown_names (deeper depth) (drop (i + 1) ss)
names_step depth [] i lt = absurd (omega (arith, lt))
names_step depth (s ∷ ss) zero lt = refl
names_step depth (s ∷ ss) (suc i) lt = let k : suc i + 1 ≡ suc (i + 1) = omega arith in rw k (names_step depth ss i (omega (arith, lt)))

-- one turn of a loop that adds the names of variables
pub names_more : (items new : List Tree) (x : Tree) (number next : ℕ) (ss : List SortId) (i : ℕ) (total : List Tree) → i < length ss → x ≡ word (variable_name number) → new ≡ items ++ x ∷ [] → next ≡ deeper number
    → items ++ shown_names number (drop i ss) ≡ total → new ++ shown_names next (drop (i + 1) ss) ≡ total
names_more items new x number next ss i total lt e f g h =
    ap (λ l. l ++ shown_names next (drop (i + 1) ss)) (f ∙ ap (λ t. items ++ t ∷ []) e) ∙ append_assoc items (word (variable_name number) ∷ []) (shown_names next (drop (i + 1) ss))
    ∙ ap (λ n. items ++ word (variable_name number) ∷ shown_names n (drop (i + 1) ss)) g ∙ ap (λ l. items ++ l) (sym (names_step number ss i lt)) ∙ h
