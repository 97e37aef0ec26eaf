-- Which hypotheses and conclusions are decided: those whose sort graph has no cycle and whose size is within the limit.
use Rattle.std.specs.Prelude.{◌≡◌, ℕ, ◌<◌, ◌≤◌, List, None}
use Rattle.lv_formula.specs.declared.symbols.SortId.{SortId}
use Rattle.lv_formula.specs.declared.vocabulary.Sentences.{Sentences}
use Rattle.lv_formula.specs.declared.vocabulary.Vocabulary.{Vocabulary}
use Rattle.lv_places.specs.declared.skolem.Skolem.{Skolem}
use Rattle.lv_places.specs.Forms.{forms_of}
use Rattle.lv_places.specs.Occurring.{constants_in, relations_in}
use Rattle.lv_places.specs.Places.{places_of}
use Rattle.lv_places.specs.Sizes.{IsCount, limit, size_of}
use Rattle.lv_places.specs.SortGraphs.{HasCycle, IsCycle}
use Rattle.lv_skolem.specs.Skolems.{normal_forms}
use Rattle.lv_decide.specs.declared.measuring.Fragment.{Fragment}
use Rattle.lv_decide.specs.declared.measuring.Fragment.TheVariants as F

-- the normal forms with their places and the symbols that occur; cycles and sizes are defined from these
abbrev pub skolem_form : Vocabulary → Sentences → Skolem
skolem_form voc s = record {
  sorts = voc.sorts;
  forms = normal_forms s;
  places = places_of (normal_forms s);
  constants = constants_in (forms_of (normal_forms s)) voc.constants;
  relations = relations_in (forms_of (normal_forms s)) voc.relations;
  cycle = None;
  size = None;
}

-- distinct sorts, with an edge of the sort graph from each to the next and one from the last to the first
abbrev pub IsCycleOf : Sentences → List SortId → Type 0
IsCycleOf s sorts = IsCycle (places_of (normal_forms s)) sorts

-- the sort graph has no cycle
abbrev pub IsStratified : Sentences → Type 0
IsStratified s = HasCycle (places_of (normal_forms s)) → ⊥

-- the number of nodes of the ground forms and of equality clauses, where n counts the terms of each sort
abbrev pub IsSizeOf : Vocabulary → Sentences → ℕ → Type 0
IsSizeOf voc s size = (n : SortId → ℕ) × IsCount (skolem_form voc s) n × (size ≡ size_of (skolem_form voc s) n)

-- there is a size within the limit
abbrev pub IsSmall : Vocabulary → Sentences → Type 0
IsSmall voc s = (size : ℕ) × IsSizeOf voc s size × (size ≤ limit)

-- the size is above the limit
abbrev pub IsLarge : Vocabulary → Sentences → Type 0
IsLarge voc s = (size : ℕ) → IsSizeOf voc s size → limit < size

abbrev pub IsFragment : Vocabulary → Sentences → Fragment → Type 0
IsFragment voc s (F.Cycle sorts) = IsCycleOf s sorts
IsFragment voc s F.TooLarge = IsStratified s × IsLarge voc s
IsFragment voc s (F.Size size) = IsStratified s × IsSizeOf voc s size × (size ≤ limit)
