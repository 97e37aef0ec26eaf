-- What definitions see of the structs that the code reads trees into: what their references point to.
use Rattle.lv_fault.specs.declared.trees.Spelled as code_spelled
use Rattle.lv_fault.specs.declared.trees.Inside as code_inside
use Rattle.lv_fault.specs.declared.trees.HeadedList as code_headed
use Rattle.lv_fault.specs.Given.{Worded, Listed, Headed}

abbrev pub spelled_seen : code_spelled.Spelled → Worded
spelled_seen w = record { at = w.at; text = w.text.now }

abbrev pub inside_seen : code_inside.Inside → Listed
inside_seen l = record { end = l.end; items = l.items.now }

abbrev pub headed_seen : code_headed.HeadedList → Headed
headed_seen h = record { at = h.at; end = h.end; word = spelled_seen h.word; rest = h.rest.now }
