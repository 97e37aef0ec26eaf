-- Lists that are read item by item, behind what is done: what the code goes through.
use Rattle.std.specs.Prelude.{List, ◌++◌, Result, Ok, Err}
use Rattle.lv_tree.specs.declared.tree.Tree.{Tree}
use Rattle.lv_fault.specs.declared.fault.SyntaxFault.{SyntaxFault}

-- what is done, and behind it what is read
abbrev pub behind : {A : Type 0} → List A → Result (List A) SyntaxFault → Result (List A) SyntaxFault
behind done (Ok xs) = Ok (done ++ xs)
behind done (Err e) = Err e

-- the same of a list that is read from the front of others
abbrev pub front_behind : {A : Type 0} → List A → Result (List A × List Tree) SyntaxFault → Result (List A × List Tree) SyntaxFault
front_behind done (Ok r) = Ok (done ++ r.0, r.1)
front_behind done (Err e) = Err e
