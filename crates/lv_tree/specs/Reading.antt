-- What reading a text answers.
use Rattle.std.specs.Prelude.{◌≡◌, Result, Ok, Err, Option, Some}
use Rattle.lv_tree.specs.declared.tree.Tree.{Tree}
use Rattle.lv_tree.specs.declared.fault.TreeFault.{TreeFault}
use Rattle.lv_tree.specs.declared.fault.TreeFault.TheVariants.{Memory}

-- want of memory, or else the fault that the bytes have
abbrev pub IsFault : TreeFault → Option TreeFault → Type 0
IsFault Memory fault = Unit {0}
IsFault e fault = fault ≡ Some e

-- this tree, or want of memory
abbrev pub IsTreeOrMemory : Tree → Result Tree TreeFault → Type 0
IsTreeOrMemory t (Ok u) = u ≡ t
IsTreeOrMemory t (Err e) = e ≡ Memory
